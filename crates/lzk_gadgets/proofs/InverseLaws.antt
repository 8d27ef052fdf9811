-- Inverses, and elements of a list.
use Rattle.std.specs.Prelude.{◌≡◌, ℕ, ◌+◌, ◌*◌, ◌↔◌, List, [], ◌∷◌}
use Rattle.std.proofs.Common.{sym, ap, ◌∙◌, arith, inl, inr}
use Rattle.std.proofs.lemmas.Bool.{cases_eq}
use Rattle.lzk_field.proofs.RingBasics.{no_divisors, not_zero_from_times, zero_times, times_zero}
use Rattle.lzk_goldilocks.specs.Elements.{ops, ring, field, Gold-ext}
use Rattle.lzk_goldilocks.specs.declared.element.Gold.{Gold}
use Rattle.lzk_level.specs.Nodes.{node_count, IsNode}
use Rattle.lzk_gadgets.specs.Claims.{Claims, AreInputs, value, Makes}
use Rattle.lzk_gadgets.specs.Inverses.{AreInverse, difference, InversesAreOfNonzero, NonzerosHaveInverses, InversesAreOfDifferent, DifferentHaveInverses, IsAmong, distance}
use Rattle.lzk_gadgets.proofs.ClaimLaws.{inputs_kept, makes_then}
use Rattle.lzk_gadgets.proofs.SpelledLaws.{same_forward, same_backward}

-- ---- the laws
pub inverses_are_of_nonzero : InversesAreOfNonzero
inverses_are_of_nonzero x y e = not_zero_from_times ops ring field x y e

pub nonzeros_have_inverses : NonzerosHaveInverses
nonzeros_have_inverses x n = field.times_inverse x n

pub inverses_are_of_different : InversesAreOfDifferent
inverses_are_of_different x y z e same = inverses_are_of_nonzero (difference x y) z e (same_backward x y same)

pub different_have_inverses : DifferentHaveInverses
different_have_inverses x y n = nonzeros_have_inverses (difference x y) (λ e. n (same_forward x y e))

-- ---- what is claimed of these
pub nonzero_claim : (d e x y : Gold) → d ≡ ops.times x y → e ≡ ops.one → (d ≡ e) ↔ AreInverse x y
nonzero_claim d e x y ed ee = (λ h. sym ed ∙ h ∙ ee, λ h. ed ∙ h ∙ sym ee)

pub different_claim : (d z x y w : Gold) → d ≡ difference x y → z ≡ w → AreInverse d z ↔ AreInverse (difference x y) w
different_claim d z x y w ed ez = (
  λ h. sym (ap (λ (u : Gold). ops.times u z) ed ∙ ap (ops.times (difference x y)) ez) ∙ h,
  λ h. ap (λ (u : Gold). ops.times u z) ed ∙ ap (ops.times (difference x y)) ez ∙ h,
)

among_forward : (x : Gold) (cs : List Gold) → distance x cs ≡ ops.zero → IsAmong x cs
among_forward x [] h = field.one_not_zero h
among_forward x (c ∷ cs) h = elim (cases_eq x.n c.n) [
  | inl same ↦ inl (Gold-ext x c same)
  | inr other ↦ inr (among_forward x cs (no_divisors ops ring field (difference x c) (distance x cs) (λ e. other (ap (λ (u : Gold). u.n) (same_forward x c e))) h))
]

among_backward : (x : Gold) (cs : List Gold) → IsAmong x cs → distance x cs ≡ ops.zero
among_backward x [] h = absurd h
among_backward x (c ∷ cs) (inl same) = ap (λ (u : Gold). ops.times u (distance x cs)) (same_backward x c same) ∙ zero_times ops ring (distance x cs)
among_backward x (c ∷ cs) (inr later) = ap (ops.times (difference x c)) (among_backward x cs later) ∙ times_zero ops ring (difference x c)

pub among_claim : (d x : Gold) (cs : List Gold) → d ≡ distance x cs → (d ≡ ops.zero) ↔ IsAmong x cs
among_claim d x cs e = (λ h. among_forward x cs (sym e ∙ h), λ h. e ∙ among_backward x cs h)

-- ---- one difference more
pub distance_makes : (n m : ℕ) (s t u v w : Claims Gold) (others own d node : ℕ) → Makes ops (1 + 3 * n) s t others → Makes ops 1 t u own → Makes ops 1 u v d → Makes ops 1 v w node → m ≡ n + 1 → Makes ops (1 + 3 * m) s w node
distance_makes n m s t u v w others own d node a b c e l =
    makes_then ops (3 + 3 * n) 1 (1 + 3 * m) s v w d node (makes_then ops (2 + 3 * n) 1 (3 + 3 * n) s u v own d (makes_then ops (1 + 3 * n) 1 (2 + 3 * n) s t u others own a b (omega arith)) c (omega arith)) e (omega (arith, l))

pub distance_value : (k : ℕ) (s t u v w : Claims Gold) (x others own d node : ℕ) (c : Gold) (rest all p q : List Gold) → AreInputs s p q → IsNode (node_count s.nodes) x
    → Makes ops k s t others → Makes ops 1 t u own → Makes ops 1 u v d → Makes ops 1 v w node
    → value ops t p q others ≡ distance (value ops s p q x) rest
    → (AreInputs t p q → value ops u p q own ≡ c)
    → (AreInputs u p q → value ops v p q d ≡ difference (value ops u p q x) (value ops u p q own))
    → (AreInputs v p q → value ops w p q node ≡ ops.times (value ops v p q d) (value ops v p q others))
    → all ≡ c ∷ rest → value ops w p q node ≡ distance (value ops s p q x) all
distance_value k s t u v w x others own d node c rest all p q i there a b e f vo vc vd vn is =
    let it = inputs_kept ops k s t p q a.keeps i in
    let iu = inputs_kept ops 1 t u p q b.keeps it in
    let iv = inputs_kept ops 1 u v p q e.keeps iu in
    let xt : value ops t p q x ≡ value ops s p q x = a.keeps.same p q i x there.1 in
    let xu : value ops u p q x ≡ value ops t p q x = b.keeps.same p q it x (omega (arith, there.1, a.keeps.more)) in
    let ou : value ops u p q others ≡ value ops t p q others = b.keeps.same p q it others a.there.1 in
    let ov : value ops v p q others ≡ value ops u p q others = e.keeps.same p q iu others (omega (arith, a.there.1, b.keeps.more)) in
    let left : value ops v p q d ≡ difference (value ops s p q x) c =
    vd iu ∙ ap (λ (y : Gold). difference y (value ops u p q own)) (xu ∙ xt) ∙ ap (difference (value ops s p q x)) (vc it) in
    let right : value ops v p q others ≡ distance (value ops s p q x) rest = ov ∙ ou ∙ vo in
    vn iv ∙ ap (λ (y : Gold). ops.times y (value ops v p q others)) left ∙ ap (ops.times (difference (value ops s p q x) c)) right ∙ sym (ap (distance (value ops s p q x)) is)

pub distance_none : (all : List Gold) (x e : Gold) → e ≡ ops.one → all ≡ [] → e ≡ distance x all
distance_none all x e one none = one ∙ sym (ap (distance x) none)
