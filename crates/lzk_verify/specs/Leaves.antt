-- The leaves of the opened columns, of which some are not made yet.
use Rattle.std.specs.Prelude.{◌≡◌, ℕ, ◌+◌, ◌*◌, ◌<◌, ◌≤◌, cond, nat_lt, List, length, slice_set}
use Rattle.lzk_merkle.specs.Leaf.{leaf_of}
use Rattle.lzk_verify.specs.declared.leaves.WaitingColumn.{WaitingColumn}
use Rattle.lzk_verify.specs.declared.leaves.ThreeColumns.{ThreeColumns}

-- the leaves as they are once all are made, and how many elements a column has
pub record LeafList : Type 0 where
  pub items : List (List ℕ)
  pub rows : ℕ

-- a column of so many elements, which is one of so many columns
pub record FitsIn {A : Type 0} (places rows : ℕ) (w : WaitingColumn A) : Type 0 where
  pub place : w.place < places
  pub elements : length w.elements.items ≡ rows

pub record AreThree {A : Type 0} (places rows : ℕ) (c : ThreeColumns A) : Type 0 where
  pub first : FitsIn places rows c.first
  pub second : FitsIn places rows c.second
  pub third : FitsIn places rows c.third

module _ {A : Type 0} (width : ℕ) (number_of : A → ℕ) where
  -- leaves with that of a column
  abbrev pub with_leaf : WaitingColumn A → List (List ℕ) → List (List ℕ)
  with_leaf w leaves = slice_set leaves w.place (leaf_of width number_of w.nonce w.elements.items)

  -- with those of three columns
  abbrev pub with_three : ThreeColumns A → List (List ℕ) → List (List ℕ)
  with_three c leaves = with_leaf c.third (with_leaf c.second (with_leaf c.first leaves))

  -- with those of the first so many of them
  abbrev pub with_leaves : ℕ → ThreeColumns A → List (List ℕ) → List (List ℕ)
  with_leaves n c leaves =
      let one = cond (nat_lt 0 n) (with_leaf c.first leaves) leaves in
      let two = cond (nat_lt 1 n) (with_leaf c.second one) one in
      cond (nat_lt 2 n) (with_leaf c.third two) two

-- what holds of the leaves that are made, of the columns that wait, and of the room for the bytes of four
pub record AreSound {A : Type 0} (width waiting : ℕ) (c : ThreeColumns A) (made : List (List ℕ))
    (bytes : List ℕ) : Type 0 where
  pub few : waiting ≤ 3
  pub columns : AreThree (length made) (length c.first.elements.items) c
  pub bytes_are : length bytes ≡ 4 * (32 + length c.first.elements.items * width)
