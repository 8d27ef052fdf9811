-- Lines with no comment.
use Rattle.std.proofs.Common.{◌≡◌, ℕ, suc, Bool, true, false, ◌||◌, not, cond, List, [], ◌∷◌, length, Some, None, position, refl, sym, ◌∙◌, ap, arith}
use Rattle.std.specs.Prelude.{nat_eq}
use Rattle.std.specs.List.{list_any, prefix_len, position_or_len}
use Rattle.std.proofs.lemmas.Bool.{le-ltb}
use Rattle.std.proofs.Math.Numerals.{one-add}
use Rattle.lzk_expr.specs.Texts.{is_hash}

none_at : (x : ℕ) (xs : List ℕ) (t : Bool) → is_hash x ≡ t → (is_hash x || list_any is_hash xs) ≡ false → (list_any is_hash xs ≡ false → prefix_len (λ b. not (is_hash b)) xs ≡ length xs)
    → prefix_len (λ b. not (is_hash b)) (x ∷ xs) ≡ suc (length xs)
none_at x xs true e h rest = absurd (let f : true ≡ false = ap (λ (t : Bool). t || list_any is_hash xs) (sym e) ∙ h in cc)
none_at x xs false e h rest =
    let len : prefix_len (λ b. not (is_hash b)) (x ∷ xs) ≡ suc (prefix_len (λ b. not (is_hash b)) xs) = rw (e, one-add) refl in
    len ∙ ap suc (rest (ap (λ (t : Bool). t || list_any is_hash xs) (sym e) ∙ h))

none_in : (xs : List ℕ) → list_any is_hash xs ≡ false → prefix_len (λ b. not (is_hash b)) xs ≡ length xs
none_in [] h = refl
none_in (x ∷ xs) h = none_at x xs (is_hash x) refl h (none_in xs)

pub no_hash : (xs : List ℕ) → list_any (λ y. nat_eq y 35) xs ≡ false → position is_hash xs ≡ None
no_hash xs h = ap (λ (t : Bool). cond t (Some (position_or_len is_hash xs)) None) (le-ltb (position_or_len is_hash xs) (length xs) (omega (arith, none_in xs h)))
