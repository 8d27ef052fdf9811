-- Tables whose entries are split by one more bit, from the last one down.
use Rattle.std.specs.Prelude.{◌≡◌, ◌≢◌, ℕ, ◌+◌, ◌-◌, ◌*◌, ◌/◌, ◌%◌, ◌<◌, ◌≤◌, List, [], ◌∷◌, length, slice_set}
use Rattle.std.proofs.Common.{refl, sym, ap, ◌∙◌, arith, inl, inr}
use Rattle.std.proofs.lemmas.Bool.{cases_eq}
use Rattle.std.proofs.lemmas.List.{get_or-set_same, get_or-set_other, length-set}
use Rattle.lzk_field.specs.Ring.{Ops, RingLaws}
use Rattle.lzk_field.specs.Sums.{entry, minus}
use Rattle.lzk_field.proofs.Solve.{var, unit, ◌⊟◌, ◌⊠◌, solve}
use Rattle.lzk_mle.specs.Multilinear.{eq}
use Rattle.lzk_mle.proofs.TableLaws.{eq-even, eq-odd}

module _ {A : Type 0} (o : Ops A) where
  -- of the first size entries those from i on stand at twice their places, with x times each behind it, and what stands before these is as it was
  pub record IsSpreadFrom (x : A) (old : List A) (size i : ℕ) (table : List A) : Type 0 where
    pub length_is : length table ≡ length old
    pub wholes : (k : ℕ) → i ≤ k → k < size → entry o table (2 * k) ≡ entry o old k
    pub ones : (k : ℕ) → i ≤ k → k < size → entry o table (2 * k + 1) ≡ o.times x (entry o old k)
    pub rest : (k : ℕ) → k < 2 * i → entry o table k ≡ entry o old k

  pub spread_more : (x : A) (old table : List A) (size j : ℕ) (one whole : A) → IsSpreadFrom x old size j table → 0 < j → j ≤ size → 2 * size ≤ length old
      → one ≡ o.times x (entry o old (j - 1)) → whole ≡ entry o old (j - 1) → IsSpreadFrom x old size (j - 1) (slice_set (slice_set table (2 * (j - 1) + 1) one) (2 * (j - 1)) whole)
  spread_more x old table size j one whole h some few room eo ez =
      let i = j - 1 in
      let again : i + 1 ≡ j = omega arith in
      let mid = slice_set table (2 * i + 1) one in
      let sized : length mid ≡ length old = length-set table (2 * i + 1) one ∙ h.length_is in
      let other : (k : ℕ) → k ≢ 2 * i → k ≢ 2 * i + 1 → entry o (slice_set mid (2 * i) whole) k ≡ entry o table k =
      λ k n m. get_or-set_other mid (2 * i) k whole o.zero (omega arith) ∙ get_or-set_other table (2 * i + 1) k one o.zero (omega arith) in
      record {
        length_is = length-set mid (2 * i) whole ∙ sized;
        wholes = λ k l q. elim (cases_eq k i) [
          | inl e ↦ ap (λ (n : ℕ). entry o (slice_set mid (2 * i) whole) (2 * n)) e ∙ get_or-set_same mid (2 * i) whole o.zero (omega (arith, sized, again))
              ∙ ez ∙ ap (entry o old) (sym e)
          | inr n ↦ other (2 * k) (omega arith) (omega arith) ∙ h.wholes k (omega arith) q
        ];
        ones = λ k l q. elim (cases_eq k i) [
          | inl e ↦ ap (λ (n : ℕ). entry o (slice_set mid (2 * i) whole) (2 * n + 1)) e ∙ get_or-set_other mid (2 * i) (2 * i + 1) whole o.zero (omega arith)
              ∙ get_or-set_same table (2 * i + 1) one o.zero (omega (arith, h.length_is, again)) ∙ eo ∙ ap (λ (n : ℕ). o.times x (entry o old n)) (sym e)
          | inr n ↦ other (2 * k + 1) (omega arith) (omega arith) ∙ h.ones k (omega arith) q
        ];
        rest = λ k q. other k (omega arith) (omega arith) ∙ h.rest k (omega arith);
      }

  -- the second entry is taken from the first in the first i of size pairs
  pub record IsLessenedTo (old : List A) (size i : ℕ) (table : List A) : Type 0 where
    pub length_is : length table ≡ length old
    pub zeros : (k : ℕ) → k < i → entry o table (2 * k) ≡ minus o (entry o old (2 * k)) (entry o old (2 * k + 1))
    pub rest : (k : ℕ) → i ≤ k → k < size → entry o table (2 * k) ≡ entry o old (2 * k)
    pub ones : (k : ℕ) → k < size → entry o table (2 * k + 1) ≡ entry o old (2 * k + 1)

  pub lessened_more : (old table : List A) (size i : ℕ) (x : A) → IsLessenedTo old size i table → i < size → 2 * size ≤ length old
      → x ≡ minus o (entry o table (2 * i)) (entry o table (2 * i + 1)) → IsLessenedTo old size (i + 1) (slice_set table (2 * i) x)
  lessened_more old table size i x h inside room ex =
      record {
        length_is = length-set table (2 * i) x ∙ h.length_is;
        zeros = λ k l. elim (cases_eq k i) [
          | inl e ↦
              ap (λ (n : ℕ). entry o (slice_set table (2 * i) x) (2 * n)) e ∙ get_or-set_same table (2 * i) x o.zero (omega (arith, h.length_is)) ∙ ex
              ∙ ap (λ y. minus o y (entry o table (2 * i + 1))) (h.rest i (omega arith) inside) ∙ ap (minus o (entry o old (2 * i))) (h.ones i inside)
              ∙ ap (λ (n : ℕ). minus o (entry o old (2 * n)) (entry o old (2 * n + 1))) (sym e)
          | inr d ↦ get_or-set_other table (2 * i) (2 * k) x o.zero (omega (arith, d)) ∙ h.zeros k (omega (arith, l, d))
        ];
        rest = λ k l q. get_or-set_other table (2 * i) (2 * k) x o.zero (omega (arith, l)) ∙ h.rest k (omega (arith, l)) q;
        ones = λ k q. get_or-set_other table (2 * i) (2 * k + 1) x o.zero (omega arith) ∙ h.ones k q;
      }

module _ {A : Type 0} (o : Ops A) (r : RingLaws o) where
  -- what is left of a whole without x times it
  pub lessened : (x whole : A) → minus o whole (o.times x whole) ≡ o.times (minus o o.one x) whole
  lessened x whole = solve o r (whole ∷ x ∷ []) (var 0 ⊟ var 1 ⊠ var 0) ((unit ⊟ var 1) ⊠ var 0) refl

  -- a table for a point without its first entry, split by that entry
  pub table_split : (x : A) (rest old table : List A) (width half : ℕ) → width ≤ 2 * half
      → ((k : ℕ) → k < half → entry o old k ≡ eq o k rest)
      → ((k : ℕ) → k < half → entry o table (2 * k) ≡ o.times (minus o o.one x) (entry o old k))
      → ((k : ℕ) → k < half → entry o table (2 * k + 1) ≡ o.times x (entry o old k))
      → (k : ℕ) → k < width → entry o table k ≡ eq o k (x ∷ rest)
  table_split x rest old table width half fits is zeros ones k h =
      let i = k / 2 in
      let inside : i < half = omega arith in
      elim (cases_eq (k % 2) 0) [
        | inl e ↦
            let place : 2 * i ≡ k = omega arith in
            ap (entry o table) (sym place) ∙ zeros i inside ∙ ap (o.times (minus o o.one x)) (is i inside) ∙ sym (eq-even o r i x rest) ∙ ap (λ (n : ℕ). eq o n (x ∷ rest)) place
        | inr n ↦
            let place : 2 * i + 1 ≡ k = omega arith in
            ap (entry o table) (sym place) ∙ ones i inside ∙ ap (o.times x) (is i inside) ∙ sym (eq-odd o r i x rest) ∙ ap (λ (n : ℕ). eq o n (x ∷ rest)) place
      ]

-- one more entry of a list is set
pub bounds_more : {A : Type 0} (o : Ops A) (f : ℕ → A) (list : List A) (n : ℕ) (x : A) → n < length list → ((i : ℕ) → i < n → entry o list i ≡ f i) → x ≡ f n
    → (i : ℕ) → i < n + 1 → entry o (slice_set list n x) i ≡ f i
bounds_more o f list n x within each here i h =
    elim (cases_eq i n) [
      | inl e ↦ ap (entry o (slice_set list n x)) e ∙ get_or-set_same list n x o.zero within ∙ here ∙ ap f (sym e)
      | inr other ↦ get_or-set_other list n i x o.zero other ∙ each i (omega (arith, other))
    ]
