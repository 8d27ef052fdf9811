-- Lists that grow piece by piece.
use Rattle.std.proofs.Common.{◌≡◌, ◌++◌, List, Result, Ok, Err, OnOk, ap, ◌∙◌}
use Rattle.std.proofs.lemmas.List.{append_assoc}

pub two_more : {A : Type 0} (old one two mid new : List A) → mid ≡ old ++ one → new ≡ mid ++ two → new ≡ old ++ (one ++ two)
two_more old one two mid new e f = f ∙ (ap (λ l. l ++ two) e ∙ append_assoc old one two)

-- what holds whatever is answered
pub always : {T E : Type 0} (r : Result T E) (P : Type 0) → P → OnOk r P
always (Ok x) P h = h
always (Err e) P h = tt
