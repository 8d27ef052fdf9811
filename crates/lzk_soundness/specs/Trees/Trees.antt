-- Paths from a leaf to a root, by the answers of an oracle.
use Rattle.std.specs.Prelude.{◌≡◌, ℕ, Bool, cond, List, [], ◌∷◌, ◌++◌, map}
use Rattle.std.specs.List.{AllByRecursion}
use Rattle.lzk_soundness.specs.Chance.Few.{IsIn}
use Rattle.lzk_soundness.specs.Oracle.Oracle.{answer}

-- what is asked of a leaf, and of two children: different questions where anything differs
pub record Hashing (L X : Type 0) : Type 0 where
  pub leaf : L → ℕ
  pub join : X → X → ℕ
  pub leaves : (l m : L) → leaf l ≡ leaf m → l ≡ m
  pub joins : (a b c d : X) → join a b ≡ join c d → (a ≡ c) × (b ≡ d)

-- one level of a path: whether the node is the right child, and its sibling's digest
pub record Level (X : Type 0) : Type 0 where
  pub right : Bool
  pub sibling : X

-- the children of a node are named by its question
pub record AreNames {L X : Type 0} (h : Hashing L X) (names : ℕ → List X) : Type 0 where
  pub left : (a b : X) → IsIn a (names (h.join a b))
  pub right : (a b : X) → IsIn b (names (h.join a b))

module _ {L X : Type 0} (h : Hashing L X) (none : X) (oracle : List X) where
  -- the question of a node's parent
  abbrev pub parent : Level X → X → ℕ
  parent level d = cond level.right (h.join level.sibling d) (h.join d level.sibling)

  -- the root that a digest and a path lead to
  abbrev pub climb : X → List (Level X) → X
  climb d [] = d
  climb d (level ∷ path) = climb (answer none oracle (parent level d)) path

  -- what is asked on the way
  abbrev pub way : X → List (Level X) → List ℕ
  way d [] = []
  way d (level ∷ path) = parent level d ∷ way (answer none oracle (parent level d)) path

  -- A leaf is opened at a place of a root: the path goes there, and all of it was asked.
  pub record IsOpened (numbers : List ℕ) (root : X) (place : List Bool) (l : L) : Type 0 where
    pub path : List (Level X)
    pub sides : map (λ level. level.right) path ≡ place
    pub leads : climb (answer none oracle (h.leaf l)) path ≡ root
    pub leaf_asked : IsIn (h.leaf l) numbers
    pub asked : AllByRecursion (λ n. IsIn n numbers) (way (answer none oracle (h.leaf l)) path)

  -- A question named a root, and a leaf is opened under it of which not all was asked before that question.
  pub record IsLate (names : ℕ → List X) (numbers : List ℕ) : Type 0 where
    pub before : List ℕ
    pub question : ℕ
    pub behind : List ℕ
    pub order : numbers ≡ before ++ question ∷ behind
    pub root : X
    pub named : IsIn root (names question)
    pub place : List Bool
    pub leaf : L
    pub opened : IsOpened numbers root place leaf
    pub late : IsIn (h.leaf leaf) before
        → AllByRecursion (λ n. IsIn n before) (way (answer none oracle (h.leaf leaf)) opened.path) → ⊥

  -- two different leaves at one place of one root
  pub record IsTwice (numbers : List ℕ) : Type 0 where
    pub root : X
    pub place : List Bool
    pub first : L
    pub second : L
    pub differ : first ≡ second → ⊥
    pub first_opened : IsOpened numbers root place first
    pub second_opened : IsOpened numbers root place second
