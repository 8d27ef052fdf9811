-- The members of either of two properties.
use Rattle.std.specs.Prelude.{◌≡◌, ◌≢◌, ◌⊎◌, ℕ, ◌+◌, List, [], ◌∷◌, length}
use Rattle.std.specs.List.{AllByRecursion}
use Rattle.std.proofs.Common.{suc, inl, inr, refl, arith}
use Rattle.lzk_soundness.specs.Chance.Few.{AreDistinct, HasAtMost}

module _ {X : Type 0} (P Q : X → Type 0) where
  abbrev put_left : (x : X) → P x ⊎ Q x → List X → List X
  put_left x (inl p) ys = x ∷ ys
  put_left x (inr q) ys = ys

  abbrev put_right : (x : X) → P x ⊎ Q x → List X → List X
  put_right x (inl p) ys = ys
  put_right x (inr q) ys = x ∷ ys

  abbrev Both : X → Type 0
  Both x = P x ⊎ Q x

  abbrev lefts : (xs : List X) → AllByRecursion Both xs → List X
  lefts [] all = []
  lefts (x ∷ xs) all = put_left x all.0 (lefts xs all.1)

  abbrev rights : (xs : List X) → AllByRecursion Both xs → List X
  rights [] all = []
  rights (x ∷ xs) all = put_right x all.0 (rights xs all.1)

  put_left-all : (R : X → Type 0) (x : X) (b : Both x) (ys : List X) → R x → AllByRecursion R ys → AllByRecursion R (put_left x b ys)
  put_left-all R x (inl p) ys r all = (r, all)
  put_left-all R x (inr q) ys r all = all

  put_right-all : (R : X → Type 0) (x : X) (b : Both x) (ys : List X) → R x → AllByRecursion R ys → AllByRecursion R (put_right x b ys)
  put_right-all R x (inl p) ys r all = all
  put_right-all R x (inr q) ys r all = (r, all)

  lefts-all : (R : X → Type 0) (xs : List X) (all : AllByRecursion Both xs) → AllByRecursion R xs → AllByRecursion R (lefts xs all)
  lefts-all R [] all each = tt
  lefts-all R (x ∷ xs) all each = put_left-all R x all.0 (lefts xs all.1) each.0 (lefts-all R xs all.1 each.1)

  rights-all : (R : X → Type 0) (xs : List X) (all : AllByRecursion Both xs) → AllByRecursion R xs → AllByRecursion R (rights xs all)
  rights-all R [] all each = tt
  rights-all R (x ∷ xs) all each = put_right-all R x all.0 (rights xs all.1) each.0 (rights-all R xs all.1 each.1)

  lefts-are : (xs : List X) (all : AllByRecursion Both xs) → AllByRecursion P (lefts xs all)
  lefts-are [] all = tt
  lefts-are (x ∷ xs) all = go all.0 (lefts-are xs all.1)
    where
      go : (b : Both x) → AllByRecursion P (lefts xs all.1) → AllByRecursion P (put_left x b (lefts xs all.1))
      go (inl p) rest = (p, rest)
      go (inr q) rest = rest

  rights-are : (xs : List X) (all : AllByRecursion Both xs) → AllByRecursion Q (rights xs all)
  rights-are [] all = tt
  rights-are (x ∷ xs) all = go all.0 (rights-are xs all.1)
    where
      go : (b : Both x) → AllByRecursion Q (rights xs all.1) → AllByRecursion Q (put_right x b (rights xs all.1))
      go (inl p) rest = rest
      go (inr q) rest = (q, rest)

  lefts-distinct : (xs : List X) (all : AllByRecursion Both xs) → AreDistinct xs → AreDistinct (lefts xs all)
  lefts-distinct [] all d = tt
  lefts-distinct (x ∷ xs) all d = go all.0 (lefts-distinct xs all.1 d.1)
    where
      go : (b : Both x) → AreDistinct (lefts xs all.1) → AreDistinct (put_left x b (lefts xs all.1))
      go (inl p) rest = (lefts-all (λ y. x ≢ y) xs all.1 d.0, rest)
      go (inr q) rest = rest

  rights-distinct : (xs : List X) (all : AllByRecursion Both xs) → AreDistinct xs → AreDistinct (rights xs all)
  rights-distinct [] all d = tt
  rights-distinct (x ∷ xs) all d = go all.0 (rights-distinct xs all.1 d.1)
    where
      go : (b : Both x) → AreDistinct (rights xs all.1) → AreDistinct (put_right x b (rights xs all.1))
      go (inl p) rest = rest
      go (inr q) rest = (rights-all (λ y. x ≢ y) xs all.1 d.0, rest)

  counted : (xs : List X) (all : AllByRecursion Both xs) → length xs ≡ length (lefts xs all) + length (rights xs all)
  counted [] all = refl
  counted (x ∷ xs) all = go all.0 (counted xs all.1)
    where
      go : (b : Both x) → length xs ≡ length (lefts xs all.1) + length (rights xs all.1) → suc (length xs) ≡ length (put_left x b (lefts xs all.1)) + length (put_right x b (rights xs all.1))
      go (inl p) rest = omega (arith, rest)
      go (inr q) rest = omega (arith, rest)

  pub few_either : (a b : ℕ) → HasAtMost a P → HasAtMost b Q → HasAtMost (a + b) (λ x. P x ⊎ Q x)
  few_either a b few many xs distinct all =
      let left = few (lefts xs all) (lefts-distinct xs all distinct) (lefts-are xs all) in
      let right = many (rights xs all) (rights-distinct xs all distinct) (rights-are xs all) in
      omega (arith, counted xs all, left, right)
