-- How few draws are bad, and what holds where none is.
use Rattle.std.specs.Prelude.{◌≡◌, ℕ, ◌*◌, ◌<◌, List, length, take}
use Rattle.lzk_field.specs.Coding.{Coding}
use Rattle.lzk_field.specs.Ring.{Ops}
use Rattle.lzk_field.specs.Sums.{entry}
use Rattle.lzk_soundness.specs.Chance.Few.{HasAtMost}
use Rattle.lzk_circuit.specs.Valid.{Wiring, IsValid}
use Rattle.lzk_circuit.specs.Wires.{inputs_of}
use Rattle.lzk_circuit.specs.Checks.{IsSatisfied}
use Rattle.lzk_layout.specs.Sizes.{committed_count}
use Rattle.lzk_layout.specs.Places.{depth}
use Rattle.lzk_sumcheck.specs.declared.script.Script.{Script}
use Rattle.lzk_sumcheck.specs.Rounds.{Layered, IsFitting}
use Rattle.lzk_sumcheck.specs.Script.{HasShape}
use Rattle.lzk_soundness.specs.Sumchecks.Bad.{AreZero, IsBadJoin, IsBadBeta, IsBadRound, IsBadBinding}
use Rattle.lzk_soundness.specs.Sumchecks.Claims.{values_at, asserted_at, HasProducts, Vanish, NoneBad, OutputsShow, AssertedShow}

-- ---- few draws are bad

-- one in a join of two claims
abbrev pub JoinsAreFew : {A : Type 0} → Ops A → Type 0
JoinsAreFew {A} o = (first second true_first true_second : A)
    → HasAtMost 1 (IsBadJoin o first second true_first true_second)

-- one as a beta
abbrev pub BetasAreFew : {A : Type 0} → Ops A → Type 0
BetasAreFew {A} o = (claimed wires asserted : A) → HasAtMost 1 (IsBadBeta o claimed wires asserted)

-- two in a round, whatever is claimed and sent
abbrev pub RoundsAreFew : {A : Type 0} → Ops A → (ℕ → A) → Type 0
RoundsAreFew {A} o point = (s : Layered A) (before : List A) (claimed p0 p2 : A) → IsFitting s
    → length before < 2 * s.bits → HasAtMost 2 (IsBadRound o point s before claimed p0 p2)

-- one as a coordinate of a point, for a table
abbrev pub BindingsAreFew : {A : Type 0} → Ops A → Type 0
BindingsAreFew {A} o = (values before : List A) → HasAtMost 1 (IsBadBinding o values before)

-- ---- where no draw is bad

-- a list that is committed to, draws and sent elements, by which the constraints of a proof are met and no draw is
-- bad
pub record PassesWell {A : Type 0} (o : Ops A) (e : Coding A) (c : Wiring A) (public w : List A) (s : Script A)
    (messages : List A) : Type 0 where
  pub valid : IsValid o c
  pub publics : length public ≡ c.publics
  pub count : length w ≡ committed_count c
  pub shape : HasShape c s
  pub vanish : Vanish o c public w e.element s messages
  pub products : HasProducts o c public w
  pub none_bad : NoneBad o c public w e.element s messages

-- Then each output is 0, unless a coordinate of the outputs' point is bad. What a layer's assertion terms count is 0,
-- unless its alpha or a coordinate of its second point is bad for it.
abbrev pub ShownUnlessBad : {A : Type 0} → Ops A → Coding A → Type 0
ShownUnlessBad {A} o e =
    (c : Wiring A) (public w : List A) (s : Script A) (messages : List A) → PassesWell o e c public w s messages
    → (OutputsShow o c public w e.element s messages → AreZero o (entry o (values_at o c public w 0)))
    × ((l : ℕ) → l < depth c → AssertedShow o c public w e.element s messages l
    → AreZero o (entry o (asserted_at o c public w l)))

-- And where none of these is bad either, the private inputs in the list satisfy the circuit.
abbrev pub SatisfiedUnlessBad : {A : Type 0} → Ops A → Coding A → Type 0
SatisfiedUnlessBad {A} o e =
    (c : Wiring A) (public w : List A) (s : Script A) (messages : List A) → PassesWell o e c public w s messages
    → OutputsShow o c public w e.element s messages
    → ((l : ℕ) → l < depth c → AssertedShow o c public w e.element s messages l)
    → IsSatisfied o e.number c.layers (inputs_of o public (take c.privates w))
