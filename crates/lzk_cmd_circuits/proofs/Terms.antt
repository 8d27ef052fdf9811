-- How many terms a circuit has, one layer further.
use Rattle.std.proofs.Common.{◌≡◌, ℕ, suc, ◌+◌, ◌≤◌, List, [], ◌∷◌, length, drop, Some, refl, ap, ◌∙◌, arith, lit≤, add-one, drop-cons}
use Rattle.std.specs.Prelude.{slice_get}
use Rattle.std.proofs.lemmas.Option.{slice_get_within, get_or_from_slice_get}
use Rattle.lzk_profile.specs.Profile.{most_total}
use Rattle.lzk_circuit.specs.declared.layer.Layer.{Layer}
use Rattle.lzk_circuit.specs.Valid.{AreLayersOf, IsValid, Wiring, input_width, under_of}
use Rattle.lzk_field.specs.Ring.{Ops}
use Rattle.lzk_cmd_circuits.specs.Compiled.{term_count}

terms_under : {A : Type 0} (inputs : ℕ) (layers : List (Layer A)) → term_count layers ≡ (under_of inputs layers).terms
terms_under inputs [] = refl
terms_under inputs (layer ∷ layers) = omega (arith, terms_under inputs layers)

few_terms : {A : Type 0} (o : Ops A) (version inputs : ℕ) (layers : List (Layer A)) → AreLayersOf o version inputs layers → term_count layers ≤ most_total
few_terms o version inputs [] h = lit≤ tt
few_terms o version inputs (layer ∷ layers) h = omega (arith, h.0.terms, terms_under inputs layers)

pub few : {A : Type 0} (o : Ops A) (c : Wiring A) → IsValid o c → term_count c.layers ≤ most_total
few o c h = few_terms o c.version (input_width c) c.layers h.layers

rest_is : {A : Type 0} (x : Layer A) (xs : List (Layer A)) (k : ℕ) → slice_get xs k ≡ Some x → term_count (drop k xs) ≡ length x.terms + term_count (drop (k + 1) xs)
rest_is x xs k is =
    let at : drop k xs ≡ x ∷ drop (k + 1) xs =
    rw add-one (drop-cons xs k x (slice_get_within xs k x is) ∙ ap (λ y. y ∷ drop (suc k) xs) (get_or_from_slice_get xs k x x is)) in
    ap term_count at

pub one_more_count : {A : Type 0} (x : Layer A) (xs : List (Layer A)) (k count new terms whole : ℕ) → slice_get xs k ≡ Some x → terms ≡ length x.terms → new ≡ count + terms
    → count + term_count (drop k xs) ≡ whole → new + term_count (drop (k + 1) xs) ≡ whole
one_more_count x xs k count new terms whole is e n before = omega (arith, rest_is x xs k is, e, n, before)

pub count_fits : {A : Type 0} (o : Ops A) (c : Wiring A) (x : Layer A) (k count terms : ℕ) → IsValid o c → slice_get c.layers k ≡ Some x → terms ≡ length x.terms
    → count + term_count (drop k c.layers) ≡ term_count c.layers → count + terms ≤ most_total
count_fits o c x k count terms valid is e before = omega (arith, few o c valid, rest_is x c.layers k is, e, before)
