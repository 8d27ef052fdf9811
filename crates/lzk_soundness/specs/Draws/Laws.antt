-- Few lists of draws let a prover of a false statement through.
use Rattle.std.specs.Prelude.{◌≡◌, ℕ, ◌+◌, ◌*◌, ◌^◌, ◌<◌, ◌≤◌, ◌==◌, cond, Bool, true, List, [], ◌∷◌, length}
use Rattle.std.proofs.Common.{zero, suc}
use Rattle.lzk_field.specs.Coding.{Coding}
use Rattle.lzk_field.specs.Ring.{Ops}
use Rattle.lzk_field.specs.Sums.{entry}
use Rattle.lzk_soundness.specs.Chance.Few.{AreDistinct}
use Rattle.lzk_soundness.specs.Chance.Draws.{count, draws_from, total_from}
use Rattle.lzk_circuit.specs.Valid.{Wiring, IsValid}
use Rattle.lzk_layout.specs.Sizes.{committed_count}
use Rattle.lzk_layout.specs.Places.{depth, bits_under, output_bits}
use Rattle.lzk_soundness.specs.Sumchecks.Bad.{AreZero}
use Rattle.lzk_soundness.specs.Sumchecks.Claims.{HasProducts, Vanish}
use Rattle.lzk_soundness.specs.Draws.Schedule.{draw_count, draw_at, script_of, firsts}
use Rattle.lzk_soundness.specs.Draws.Game.{IsProver, Target, degree, table_of}
use Rattle.lzk_soundness.specs.Draws.Game.Target.{outputs, assertions}

-- the degrees of all draws together
abbrev pub most : {A : Type 0} → Wiring A → Target → ℕ
most c target = total_from (λ k. degree target (draw_at c k)) 0 (draw_count c)

-- A circuit, public inputs, a list that was committed to before all draws, and a prover. The test says yes only to
-- draws by which all residuals are 0.
pub record IsForger {A : Type 0} (o : Ops A) (e : Coding A) (c : Wiring A) (public w : List A) (send : List A → List A)
    (wins : List A → Bool) : Type 0 where
  pub valid : IsValid o c
  pub publics : length public ≡ c.publics
  pub count : length w ≡ committed_count c
  pub products : HasProducts o c public w
  pub prover : IsProver o c send
  pub only : (draws : List A) → length draws ≡ draw_count c → wins draws ≡ true
      → Vanish o c public w e.element (script_of o c draws) (send draws)

-- the target is one of the circuit's
abbrev pub IsOf : {A : Type 0} → Wiring A → Target → Type 0
IsOf c outputs = Unit {0}
IsOf c (assertions l) = l < depth c

-- Where the target's values are not all 0, of all lists of draws from a list without repetition, the share by which
-- the prover wins is at most the sum of the degrees over the list's length.
abbrev pub ForgersAreFew : {A : Type 0} → Ops A → Coding A → Type 0
ForgersAreFew {A} o e =
    (c : Wiring A) (public w : List A) (send : List A → List A) (wins : List A → Bool) (target : Target) (ds : List A)
    → IsForger o e c public w send wins
    → IsOf c target → (AreZero o (entry o (table_of o c public w target)) → ⊥) → AreDistinct ds
    → count wins (draws_from ds (draw_count c)) * length ds ≤ most c target * length ds ^ draw_count c

-- f 0 + .. + f (n - 1)
abbrev pub add_below : ℕ → (ℕ → ℕ) → ℕ
add_below zero f = 0
add_below (suc n) f = add_below n f + f n

-- what the coordinates of the outputs' point count for: one each, where they can hide the target
abbrev pub output_part : {A : Type 0} → Wiring A → Target → ℕ
output_part c outputs = output_bits c
output_part c (assertions zero) = output_bits c
output_part c (assertions (suc l)) = 0

-- What layer k counts for: one, and one more in version 2, and four for each bit of a number below it. For what layer
-- l's assertion terms count there is one more for its own alpha, and one for each bit of its numbers, which the layer
-- above it draws.
abbrev pub layer_part : {A : Type 0} → Wiring A → Target → ℕ → ℕ
layer_part c outputs k = firsts c + 4 * bits_under c k
layer_part c (assertions l) k = firsts c + 4 * bits_under c k + cond (l == k) 1 0 + cond (l == suc k) (bits_under c k) 0

-- The sum of the degrees is that of these parts, and one for gamma.
abbrev pub MostIs : Type 0 → Type 0
MostIs A = (c : Wiring A) (target : Target)
    → most c target ≡ output_part c target + add_below (depth c) (layer_part c target) + 1

-- A worked instance: a prover of a circuit whose output is never 0, with two draws of which one each is bad. He wins
-- where alpha is minus one.
pub record SomeForger {A : Type 0} (o : Ops A) (e : Coding A) : Type 0 where
  pub circuit : Wiring A
  pub public : List A
  pub committed : List A
  pub send : List A → List A
  pub wins : List A → Bool
  pub forger : IsForger o e circuit public committed send wins
  pub wrong : AreZero o (entry o (table_of o circuit public committed outputs)) → ⊥
  pub two_draws : draw_count circuit ≡ 2
  pub two_at_most : most circuit outputs ≡ 2
  pub won : (gamma : A) → wins (o.neg o.one ∷ gamma ∷ []) ≡ true
