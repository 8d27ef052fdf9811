-- How few draws are bad.
use Rattle.std.specs.Prelude.{◌≡◌, ◌≢◌, ℕ, ◌*◌, ◌/◌, ◌%◌, ◌+◌, List, [], ◌∷◌, ◌++◌}
use Rattle.std.proofs.Common.{refl, sym, ap, ◌∙◌, arith}
use native.Mathlib.Decide.{dec_lt}
use Rattle.lzk_field.specs.Ring.{Ops, RingLaws, FieldLaws, Laws}
use Rattle.lzk_field.specs.Sums.{entry, minus}
use Rattle.lzk_field.proofs.RingBasics.{same_from_difference, no_divisors}
use Rattle.lzk_field.proofs.Numbering.{points_apart}
use Rattle.lzk_field.proofs.Solve.{var, unit, ◌⊞◌, ◌⊟◌, ◌⊠◌, solve}
use Rattle.lzk_poly.specs.Polynomial.{eval}
use Rattle.lzk_poly.specs.Through.{through}
use Rattle.lzk_poly.proofs.Through.{is_through, eval-through, length-through}
use Rattle.lzk_soundness.proofs.ChanceLaws.FewLaws.{fewer, few_by, no_two, agree_few, slopes_few, shifts_few}
use Rattle.lzk_sumcheck.specs.Rounds.{claim, round}
use Rattle.lzk_sumcheck.specs.States.{bound}
use Rattle.lzk_sumcheck.proofs.SumcheckLaws.{sumcheck_of}
use Rattle.lzk_accept.specs.Residuals.{next_claim}
use Rattle.lzk_soundness.specs.Sumchecks.Bad.{bound_by, IsBadJoin, IsBadBeta, IsBadRound, IsBadBinding}
use Rattle.lzk_soundness.specs.Sumchecks.Laws.{JoinsAreFew, BetasAreFew, RoundsAreFew, BindingsAreFew}

-- one more variable is bound last
pub bound-append : {A : Type 0} (o : Ops A) (xs : List A) (x : A) (f : ℕ → A) → bound_by o (xs ++ x ∷ []) f ≡ bound o x (bound_by o xs f)
bound-append o [] x f = refl
bound-append o (y ∷ ys) x f = bound-append o ys x (bound o y f)

module _ {A : Type 0} (o : Ops A) (r : RingLaws o) (f : FieldLaws o) where
  pub joins_few : JoinsAreFew o
  joins_few = λ first second true_first true_second.
      few_by 1 (first ≡ true_first → second ≡ true_second → ⊥) (IsBadJoin o first second true_first true_second) (λ x p. p.0)
      (λ differ. fewer 1 1 (λ x. o.plus first (o.times x second) ≡ o.plus true_first (o.times x true_second)) (IsBadJoin o first second true_first true_second) (omega arith) (λ x p. p.1) (shifts_few o r f first second true_first true_second differ))

  pub betas_few : BetasAreFew o
  betas_few = λ claimed wires asserted.
      few_by 1 (asserted ≢ o.zero) (IsBadBeta o claimed wires asserted) (λ x p. p.0)
      (λ some. fewer 1 1 (λ x. o.plus wires (o.times x asserted) ≡ claimed) (IsBadBeta o claimed wires asserted) (omega arith) (λ x p. sym p.1) (slopes_few o r f wires asserted claimed some))

  -- a line that is 0 at two places is 0 at its ends
  line_ends : (x y a b : A) → x ≢ y → o.plus (o.times (minus o o.one x) a) (o.times x b) ≡ o.zero → o.plus (o.times (minus o o.one y) a) (o.times y b) ≡ o.zero → (a ≡ o.zero) × (b ≡ o.zero)
  line_ends x y a b apart p q =
      let X = var 0 in let Y = var 1 in let P = var 2 in let Q = var 3 in
      let at : A → A = λ t. o.plus (o.times (minus o o.one t) a) (o.times t b) in
      let slope : o.times (minus o x y) (minus o b a) ≡ o.zero =
      solve o r (x ∷ y ∷ a ∷ b ∷ []) ((X ⊟ Y) ⊠ (Q ⊟ P)) (((unit ⊟ X) ⊠ P ⊞ X ⊠ Q) ⊟ ((unit ⊟ Y) ⊠ P ⊞ Y ⊠ Q)) refl
      ∙ ap (λ w. minus o w (at y)) p ∙ ap (minus o o.zero) q ∙ r.plus_neg o.zero in
      let level : b ≡ a = same_from_difference o r b a (no_divisors o r f (minus o x y) (minus o b a) (λ z. apart (same_from_difference o r x y z)) slope) in
      let first : a ≡ o.zero = solve o r (x ∷ a ∷ []) (var 1) ((unit ⊟ var 0) ⊠ var 1 ⊞ var 0 ⊠ var 1) refl ∙ ap (λ w. o.plus (o.times (minus o o.one x) a) (o.times x w)) (sym level) ∙ p in
      (first, level ∙ first)

  pub bindings_few : BindingsAreFew o
  bindings_few values before = no_two (IsBadBinding o values before) two
    where
      g : ℕ → A
      g = bound_by o before (entry o values)

      two : (x y : A) → x ≢ y → IsBadBinding o values before x → IsBadBinding o values before y → ⊥
      two x y apart p q = p.0 all
        where
          ends : (i : ℕ) → (g (2 * i) ≡ o.zero) × (g (2 * i + 1) ≡ o.zero)
          ends i =
              let at : (t : A) → bound_by o (before ++ t ∷ []) (entry o values) i ≡ bound o t g i = λ t. ap (λ h. h i) (bound-append o before t (entry o values)) in
              line_ends x y (g (2 * i)) (g (2 * i + 1)) apart (sym (at x) ∙ p.1 i) (sym (at y) ∙ q.1 i)

          all : (i : ℕ) → g i ≡ o.zero
          all i =
              let both = ends (i / 2) in
              elim (dec_lt 0 (i % 2)) [
                | yes odd ↦ let z : i ≡ 2 * (i / 2) + 1 = omega arith in ap g z ∙ both.1
                | no even ↦ let z : i ≡ 2 * (i / 2) = omega arith in ap g z ∙ both.0
              ]

module _ {A : Type 0} {o : Ops A} {size : ℕ} {number_of : A → ℕ} {element : ℕ → A} {bytes : ℕ} (laws : Laws o size number_of element bytes) where
  pub rounds_few : RoundsAreFew o element
  unfolding next_claim
  rounds_few = λ s before claimed p0 p2 fits h.
      let is = sumcheck_of laws s fits in
      let curve = is.curve before h in
      let cs = curve.0 in
      let at = curve.1.1 in
      let p1 = minus o claimed p0 in
      let values = p0 ∷ p1 ∷ p2 ∷ [] in
      let ds = through o element values in
      let Bad = IsBadRound o element s before claimed p0 p2 in
      let meets = is_through o laws.ring laws.field element values (points_apart laws 3 (omega arith)) in
      let same : ((t : A) → eval o ds t ≡ eval o cs t) → claimed ≡ claim o s before =
      λ all.
      let first : p0 ≡ round o s before (element 0) = sym (meets.meets 0 (omega arith)) ∙ all (element 0) ∙ sym (at (element 0)) in
      let second : p1 ≡ round o s before (element 1) = sym (meets.meets 1 (omega arith)) ∙ all (element 1) ∙ sym (at (element 1)) in
      solve o laws.ring (claimed ∷ p0 ∷ []) (var 0) (var 1 ⊞ (var 0 ⊟ var 1)) refl
      ∙ ap (λ w. o.plus w p1) first ∙ ap (o.plus (round o s before (element 0))) second ∙ is.next before h in
      few_by 2 (claimed ≢ claim o s before) Bad (λ x p. p.0)
      (λ differ. fewer 2 2 (λ t. eval o ds t ≡ eval o cs t) Bad (omega arith)
      (λ x p. eval-through o laws.ring element values x ∙ p.1 ∙ at x)
      (agree_few o laws.ring laws.field 3 ds cs (omega (arith, length-through o element values)) (omega (arith, curve.1.0)) (λ all. differ (same all))))
