-- A list behind a list.
use Rattle.std.proofs.Common.{◌≡◌, List, ◌++◌, Result, Ok, Err, ap, ◌∙◌, append_assoc}
use Rattle.std.specs.Prelude.{OnOk}

pub behind : {A B E : Type 0} (r : Result A E) (new mid old front rest : List B) → mid ≡ old ++ front → OnOk r (new ≡ mid ++ rest) → OnOk r (new ≡ old ++ (front ++ rest))
behind (Ok x) new mid old front rest is h = h ∙ ap (λ m. m ++ rest) is ∙ append_assoc old front rest
behind (Err e) new mid old front rest is h = tt
