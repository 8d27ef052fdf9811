-- The least column at which a check fails, when one more column is checked.
use Rattle.std.specs.Prelude.{◌≡◌, refl, ℕ, ◌<◌, ◌↔◌, Bool, true, false, IsTrue, Option, Some, None, List, [], ◌∷◌, ◌++◌, length}
use Rattle.std.proofs.Common.{sym, subst, ◌∙◌, arith}
use Rattle.std.proofs.lemmas.List.{length_push, get_or_append_left, get_or_push}
use native.Mathlib.Decide.{dec_lt}
use Rattle.lzk_verify.specs.Kept.{IsLeastFailing}
use Rattle.lzk_verify.specs.Desk.{least, IsNoted}

-- what is kept is that of the check whose answer this is
pub noted : (old : Option ℕ) (is_right : Bool) (Check : Type 0) (column : ℕ) → (IsTrue is_right ↔ Check) → IsNoted old (least old is_right column) Check column
noted (Some x) b C column h = refl
noted None true C column h = h.0 refl
noted None false C column h = (λ x. absurd (let t : false ≡ true = h.1 x in cc), refl)

-- the same, where the check is of what is equal to the values that it is said of
pub noted_at : {X : Type 0} (Check : X → ℕ → Type 0) (x y : X) (i j : ℕ) (old new : Option ℕ) (is_right : Bool) → x ≡ y → i ≡ j → new ≡ least old is_right i → (IsTrue is_right ↔ Check x i) → IsNoted old new (Check y j) j
noted_at {X} Check x y i j old new is_right same at is h =
    subst (λ (z : X × ℕ). IsNoted old new (Check z.0 z.1) z.1) (λ t. (same t, at t)) (subst (λ n. IsNoted old n (Check x i) i) (sym is) (noted old is_right (Check x i) i h))

-- the same of an equivalent fact of each column
pub least_same : (columns : List ℕ) (P Q : ℕ → Type 0) → ((k : ℕ) → k < length columns → P k → Q k) → ((k : ℕ) → k < length columns → Q k → P k) → (x : Option ℕ) → IsLeastFailing columns P x → IsLeastFailing columns Q x
least_same columns P Q to from None each = λ k h. to k h (each k h)
least_same columns P Q to from (Some x) f = record {
  place = f.place;
  inside = f.inside;
  is = f.is;
  fails = λ q. f.fails (from f.place f.inside q);
  before = λ k h. to k (omega (arith, h, f.inside)) (f.before k h);
}

-- one column more
pub least_more : (columns : List ℕ) (column : ℕ) (P : ℕ → Type 0) (old new : Option ℕ) → IsLeastFailing columns P old → IsNoted old new (P (length columns)) column → IsLeastFailing (columns ++ column ∷ []) P new
least_more columns column P (Some x) new f is =
    subst (IsLeastFailing (columns ++ column ∷ []) P) (sym is) (record {
      place = f.place;
      inside = omega (arith, f.inside, length_push columns column);
      is = get_or_append_left columns (column ∷ []) 0 f.place f.inside ∙ f.is;
      fails = f.fails;
      before = f.before;
    })
least_more columns column P None None each right = λ k h.
    elim (dec_lt k (length columns)) [
      | yes l ↦ each k l
      | no l ↦ let e : length columns ≡ k = omega (arith, h, length_push columns column) in subst P e right
    ]
least_more columns column P None (Some y) each (wrong, is) = record {
  place = length columns;
  inside = omega (arith, length_push columns column);
  is = get_or_push columns column 0 (length columns) refl ∙ sym is;
  fails = wrong;
  before = each;
}
