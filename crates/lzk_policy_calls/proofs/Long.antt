-- Texts that are not too long, and refusals that are handed on.
use Rattle.std.proofs.Common.{◌≡◌, ◌≤◌, ℕ, false, List, length, Result, Ok, Err, refl, sym, subst}
use Rattle.std.specs.Result.{IfErr, IsErrAnd}
use Rattle.std.proofs.lemmas.Bool.{le-ltb}
use Rattle.lzk_policy_calls.specs.Given.{is_long}

pub not_long : (values path : List ℕ) → length values ≤ 65536 → length path ≤ 65536 → is_long values path ≡ false
not_long values path few short = rw (le-ltb 65536 (length values) few, le-ltb 65536 (length path) short) refl

pub handed_refusal : {T E : Type 0} (Q : E → Type 0) (r : Result T E) (e : E) → IsErrAnd r (λ y. y ≡ e) → Q e → IfErr r Q
handed_refusal Q (Ok x) e is h = tt
handed_refusal Q (Err y) e is h = subst Q (sym is) h
