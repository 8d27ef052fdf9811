-- How many leaves there are once those of the columns that wait are made.
use Rattle.std.specs.Prelude.{◌≡◌, refl, ℕ, ◌+◌, ◌%◌, ◌≤◌, Bool, true, false, cond, nat_lt, List, length, slice_set}
use Rattle.std.proofs.Common.{ap, sym, subst, ◌∙◌, arith}
use Rattle.std.proofs.lemmas.List.{length-set}
use Rattle.lzk_merkle.specs.Leaf.{leaf_of}
use Rattle.lzk_verify.specs.declared.leaves.WaitingColumn.{WaitingColumn}
use Rattle.lzk_verify.specs.declared.leaves.ThreeColumns.{ThreeColumns}
use Rattle.lzk_verify.specs.Leaves.{FitsIn, AreThree, with_leaf, with_three, with_leaves}

module _ {A : Type 0} (width : ℕ) (number_of : A → ℕ) where
  length_one : (waits : Bool) (w : WaitingColumn A) (leaves : List (List ℕ)) → length (cond waits (with_leaf width number_of w leaves) leaves) ≡ length leaves
  length_one true w leaves = length-set leaves w.place (leaf_of width number_of w.nonce w.elements.items)
  length_one false w leaves = refl

  pub length_with : (waiting : ℕ) (c : ThreeColumns A) (leaves : List (List ℕ)) → length (with_leaves width number_of waiting c leaves) ≡ length leaves
  length_with waiting c leaves =
      let one = cond (nat_lt 0 waiting) (with_leaf width number_of c.first leaves) leaves in
      let two = cond (nat_lt 1 waiting) (with_leaf width number_of c.second one) one in
      length_one (nat_lt 2 waiting) c.third two ∙ length_one (nat_lt 1 waiting) c.second one ∙ length_one (nat_lt 0 waiting) c.first leaves

  -- a column waits with this nonce and these elements, and its leaf is that of the opened column of this number
  module _ (c : ThreeColumns A) (w : WaitingColumn A) (leaves : List (List ℕ)) (waiting place : ℕ) (nonce : List ℕ) (elements : List A)
      (at : w.place ≡ place) (of : w.nonce ≡ nonce) (are : w.elements.items ≡ elements) where
    own : (xs : List (List ℕ)) → with_leaf width number_of w xs ≡ slice_set xs place (leaf_of width number_of nonce elements)
    own xs = λ i. slice_set xs (at i) (leaf_of width number_of (of i) (are i))

    pub first_waits : waiting ≡ 0 → with_leaves width number_of ((waiting + 1) % 4) (record c { first = w }) leaves ≡ slice_set (with_leaves width number_of waiting c leaves) place (leaf_of width number_of nonce elements)
    first_waits e =
        (λ i. with_leaves width number_of ((e i + 1) % 4) (record c { first = w }) leaves) ∙ own leaves
        ∙ (λ i. slice_set (with_leaves width number_of (sym e i) c leaves) place (leaf_of width number_of nonce elements))

    pub second_waits : waiting ≡ 1 → with_leaves width number_of ((waiting + 1) % 4) (record c { second = w }) leaves ≡ slice_set (with_leaves width number_of waiting c leaves) place (leaf_of width number_of nonce elements)
    second_waits e =
        (λ i. with_leaves width number_of ((e i + 1) % 4) (record c { second = w }) leaves) ∙ own (with_leaf width number_of c.first leaves)
        ∙ (λ i. slice_set (with_leaves width number_of (sym e i) c leaves) place (leaf_of width number_of nonce elements))

    pub third_waits : waiting ≡ 2 → with_leaves width number_of ((waiting + 1) % 4) (record c { third = w }) leaves ≡ slice_set (with_leaves width number_of waiting c leaves) place (leaf_of width number_of nonce elements)
    third_waits e =
        (λ i. with_leaves width number_of ((e i + 1) % 4) (record c { third = w }) leaves) ∙ own (with_leaf width number_of c.second (with_leaf width number_of c.first leaves))
        ∙ (λ i. slice_set (with_leaves width number_of (sym e i) c leaves) place (leaf_of width number_of nonce elements))

  -- all four are made
  pub four_made : (c : ThreeColumns A) (leaves made : List (List ℕ)) (waiting place : ℕ) (leaf : List ℕ) → waiting ≡ 3 → made ≡ slice_set (with_three width number_of c leaves) place leaf
      → with_leaves width number_of ((waiting + 1) % 4) c made ≡ slice_set (with_leaves width number_of waiting c leaves) place leaf
  four_made c leaves made waiting place leaf e is =
      (λ i. with_leaves width number_of ((e i + 1) % 4) c made) ∙ is ∙ (λ i. slice_set (with_leaves width number_of (sym e i) c leaves) place leaf)

  pub length_four : (c : ThreeColumns A) (leaves made : List (List ℕ)) (place : ℕ) (leaf : List ℕ) → made ≡ slice_set (with_three width number_of c leaves) place leaf → length made ≡ length leaves
  length_four c leaves made place leaf is =
      ap length is ∙ length-set (with_three width number_of c leaves) place leaf ∙ length_with 3 c leaves

-- so many columns wait after one more
pub few_wait : (waiting : ℕ) → (waiting + 1) % 4 ≤ 3
few_wait waiting = omega arith

-- all of the three columns have as many elements as the first, which may be another column
pub three_fit : {A : Type 0} (places rows : ℕ) (d : ThreeColumns A) → FitsIn places rows d.first → FitsIn places rows d.second → FitsIn places rows d.third → AreThree places (length d.first.elements.items) d
three_fit places rows d first second third = subst (λ n. AreThree places n d) (sym first.elements) (record { first = first; second = second; third = third })

-- one of fewer places is one of more
pub fits_more : {A : Type 0} (few many rows : ℕ) (w : WaitingColumn A) → few ≤ many → FitsIn few rows w → FitsIn many rows w
fits_more few many rows w h f = record { place = omega (arith, f.place, h); elements = f.elements }
