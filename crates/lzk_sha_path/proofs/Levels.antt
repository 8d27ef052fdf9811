-- Levels above other levels.
use Rattle.std.proofs.Common.{◌≡◌, ℕ, ◌+◌, ◌*◌, ◌-◌, ◌≤◌, List, [], ◌∷◌, ◌++◌, length, take, drop, zero, suc, refl, sym, ap, subst, ◌∙◌, arith, length-drop}
use Rattle.std.specs.Prelude.{◌↔◌}
use Rattle.std.proofs.lemmas.List.{length-take-le, take-take}
use Rattle.lzk_circuit.specs.Checks.{IsSatisfied}
use Rattle.lzk_circuit.specs.Valid.{Wiring}
use Rattle.lzk_circuit.specs.Wires.{inputs_of}
use Rattle.lzk_goldilocks.specs.Elements.{ops, number}
use Rattle.lzk_goldilocks.specs.declared.element.Gold.{Gold}
use Rattle.lzk_sha_path.specs.Climbs.{private_count, between, middle_of, AreClimbing, IsOfLevels}
use Rattle.lzk_sha_path.specs.Levels.{IsLevel}

-- ---- parts of parts
module _ {A : Type 0} where
  nothing_dropped : (xs : List A) → drop 0 xs ≡ xs
  nothing_dropped [] = refl
  nothing_dropped (x ∷ xs) = refl

  drop_none : (n : ℕ) → ◌≡◌ {A = List A} (drop n []) []
  drop_none zero = refl
  drop_none (suc n) = refl

  take_none : (n : ℕ) → ◌≡◌ {A = List A} (take n []) []
  take_none zero = refl
  take_none (suc n) = refl

  drop_dropped : (a b c : ℕ) (xs : List A) → c ≡ a + b → drop b (drop a xs) ≡ drop c xs
  drop_dropped a b c [] e = ap (drop b) (drop_none a) ∙ drop_none b ∙ sym (drop_none c)
  drop_dropped zero b c (x ∷ xs) e = ap (λ k. drop k (x ∷ xs)) (omega (arith, e))
  drop_dropped (suc a) b zero (x ∷ xs) e = absurd (omega (arith, e))
  drop_dropped (suc a) b (suc c) (x ∷ xs) e = drop_dropped a b c xs (omega (arith, e))

  drop_taken : (a b c : ℕ) (xs : List A) → c ≡ a + b → drop a (take c xs) ≡ take b (drop a xs)
  drop_taken a b c [] e = ap (drop a) (take_none c) ∙ drop_none a ∙ sym (ap (take b) (drop_none a) ∙ take_none b)
  drop_taken zero b c (x ∷ xs) e = nothing_dropped (take c (x ∷ xs)) ∙ ap (λ k. take k (x ∷ xs)) (omega (arith, e))
  drop_taken (suc a) b zero (x ∷ xs) e = absurd (omega (arith, e))
  drop_taken (suc a) b (suc c) (x ∷ xs) e = drop_taken a b c xs (omega (arith, e))

-- ---- levels of paths
level_moved : (x y y2 p p2 : List Gold) → y ≡ y2 → p ≡ p2 → IsLevel x y p → IsLevel x y2 p2
level_moved x y y2 p p2 ey ep h = subst (λ l. IsLevel x l p2) ey (subst (λ l. IsLevel x y l) ep h)

climb_moved : (n : ℕ) (x x2 y y2 p p2 : List Gold) → x ≡ x2 → y ≡ y2 → p ≡ p2 → AreClimbing n x y p → AreClimbing n x2 y2 p2
climb_moved n x x2 y y2 p p2 ex ey ep h =
    subst (λ l. AreClimbing n l y2 p2) ex (subst (λ l. AreClimbing n x l p2) ey (subst (λ l. AreClimbing n x y l) ep h))

-- the first of so many levels and two, and the others
module _ (n : ℕ) (private : List Gold) where
  abbrev own : ℕ
  own = private_count (suc (suc n))

  abbrev rest : ℕ
  rest = private_count (suc n)

  abbrev lower : List Gold
  lower = take own private

  abbrev behind : List Gold
  behind = drop 6897 private

  first_same : take 6889 lower ≡ take 6889 private
  first_same = take-take 6889 own private (omega arith)

  between_same : between lower ≡ between private
  between_same =
      ap (take 8) (drop_taken 6889 (own - 6889) own private (omega arith)) ∙ take-take 8 (own - 6889) (drop 6889 private) (omega arith)

  others_same : drop 6897 lower ≡ take rest behind
  others_same = drop_taken 6897 rest own private (omega arith)

  middle_same : middle_of (suc (suc n)) private ≡ middle_of (suc n) behind
  middle_same = ap (take 8) (sym (drop_dropped 6897 rest own private (omega arith)))

  above_same : drop (own + 8) private ≡ drop (rest + 8) behind
  above_same = sym (drop_dropped 6897 (rest + 8) (own + 8) private (omega arith))

-- levels lead from a leaf to a node, and others from there to a root, exactly where all of them lead to it
pub climbing_both : (a b : ℕ) → 1 ≤ a → 1 ≤ b → (leaf root private : List Gold)
    → (AreClimbing a leaf (middle_of a private) (take (private_count a) private) × AreClimbing b (middle_of a private) root (drop (private_count a + 8) private))
    ↔ AreClimbing (a + b) leaf root private
climbing_both zero b some more leaf root private = absurd (omega (arith, some))
climbing_both (suc zero) zero some more leaf root private = absurd (omega (arith, more))
climbing_both (suc zero) (suc b) some more leaf root private =
    let e : suc (suc b) ≡ suc zero + suc b = omega arith in
    subst (λ (k : ℕ). (IsLevel leaf (between private) (take 6889 private) × AreClimbing (suc b) (between private) root (drop 6897 private)) ↔ AreClimbing k leaf root private) e (λ h. h, λ h. h)
climbing_both (suc (suc n)) b some more leaf root private =
    let mid = middle_of (suc (suc n)) private in
    let next = between private in
    let behind = drop 6897 private in
    let own = private_count (suc (suc n)) in
    let rest = private_count (suc n) in
    let low = take own private in
    let count : suc (suc (n + b)) ≡ suc (suc n) + b = omega arith in
    let fewer : suc (n + b) ≡ suc n + b = omega arith in
    let later = climbing_both (suc n) b (omega arith) more next root behind in
    subst (λ (k : ℕ). (AreClimbing (suc (suc n)) leaf mid low × AreClimbing b mid root (drop (own + 8) private)) ↔ AreClimbing k leaf root private) count (
      λ h. (
        level_moved leaf (between low) next (take 6889 low) (take 6889 private) (between_same n private) (first_same n private) h.0.0,
        subst (λ (k : ℕ). AreClimbing k next root behind) (sym fewer) (later.0 (
          climb_moved (suc n) (between low) next mid (middle_of (suc n) behind) (drop 6897 low) (take rest behind) (between_same n private) (middle_same n private) (others_same n private) h.0.1,
          climb_moved b mid (middle_of (suc n) behind) root root (drop (own + 8) private) (drop (rest + 8) behind) (middle_same n private) refl (above_same n private) h.1,
        )),
      ),
      λ h.
          let w = later.1 (subst (λ (k : ℕ). AreClimbing k next root behind) fewer h.1) in (
            (
              level_moved leaf next (between low) (take 6889 private) (take 6889 low) (sym (between_same n private)) (sym (first_same n private)) h.0,
              climb_moved (suc n) next (between low) (middle_of (suc n) behind) mid (take rest behind) (drop 6897 low) (sym (between_same n private)) (sym (middle_same n private)) (sym (others_same n private)) w.0,
            ),
            climb_moved b (middle_of (suc n) behind) mid root root (drop (rest + 8) behind) (drop (own + 8) private) (sym (middle_same n private)) refl (sym (above_same n private)) w.1,
          ),
    )

both : (whole low high first upper all : Type 0) → whole ↔ (low × high) → low ↔ first → high ↔ upper → (first × upper) ↔ all → whole ↔ all
both whole low high first upper all f g h k = (λ w. let (a, b) = f.0 w in k.0 (g.0 a, h.0 b), λ x. let (a, b) = k.1 x in f.1 (g.1 a, h.1 b))

-- the circuit of levels, and beside it that of others above them
abbrev pub AreJoined : ℕ → Wiring Gold → Wiring Gold → Wiring Gold → ℕ → Type 0
AreJoined a low high whole n =
    (leaf root private : List Gold) → length leaf ≡ 8 → length root ≡ 8 → length private ≡ private_count n
    → IsSatisfied ops number whole.layers (inputs_of ops (leaf ++ root) private)
    ↔ (IsSatisfied ops number low.layers (inputs_of ops (leaf ++ middle_of a private) (take (private_count a) private))
    × IsSatisfied ops number high.layers (inputs_of ops (middle_of a private ++ root) (drop (private_count a + 8) private)))

pub levels_joined : (a b : ℕ) → 1 ≤ a → 1 ≤ b → (low high whole : Wiring Gold) → IsOfLevels a low → IsOfLevels b high → whole.version ≡ 1 → whole.publics ≡ 16 → whole.privates ≡ private_count a + 8 + private_count b
    → AreJoined a low high whole (a + b) → IsOfLevels (a + b) whole
levels_joined a b some more low high whole below above version publics privates joined = record {
  version = version;
  publics = publics;
  privates = omega (arith, privates, some, more);
  satisfied = λ leaf root private ll lr lp.
      let mid = middle_of a private in
      let lq = take (private_count a) private in
      let uq = drop (private_count a + 8) private in
      let lm : length mid ≡ 8 = length-take-le 8 (drop (private_count a) private) (omega (arith, length-drop (private_count a) private, lp, some, more)) in
      let la : length lq ≡ private_count a = length-take-le (private_count a) private (omega (arith, lp, some, more)) in
      let lb : length uq ≡ private_count b = omega (arith, length-drop (private_count a + 8) private, lp, some, more) in
      both (IsSatisfied ops number whole.layers (inputs_of ops (leaf ++ root) private))
      (IsSatisfied ops number low.layers (inputs_of ops (leaf ++ mid) lq)) (IsSatisfied ops number high.layers (inputs_of ops (mid ++ root) uq))
      (AreClimbing a leaf mid lq) (AreClimbing b mid root uq) (AreClimbing (a + b) leaf root private)
      (joined leaf root private ll lr lp) (below.satisfied leaf mid lq ll lm la) (above.satisfied mid root uq lm lr lb) (climbing_both a b some more leaf root private);
}
