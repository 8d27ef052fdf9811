-- What a prover may send behind the weights, and when many sets of columns let it through.
use Rattle.lzk_profile.specs.Profile.{opened_count}
use Rattle.std.specs.Prelude.{◌≡◌, ℕ, ◌+◌, ◌-◌, ◌*◌, ◌<◌, Bool, true, List, length}
use Rattle.lzk_field.specs.Coding.{Coding}
use Rattle.lzk_field.specs.Ring.{Ops}
use Rattle.lzk_soundness.specs.Chance.Draws.{count}
use Rattle.lzk_soundness.specs.Chance.Sets.{choose}
use Rattle.lzk_circuit.specs.Valid.{Wiring}
use Rattle.lzk_layout.specs.Sizes.{params_of}
use Rattle.lzk_soundness.specs.Whole.Whole.{weight_count}
use Rattle.lzk_soundness.specs.Count.Game.{Strategy, column_sets, row_count, IsPassed}

-- the three answers, the quadratic one in two parts
pub record Answers (A : Type 0) : Type 0 where
  pub ldt : List A
  pub dot : List A
  pub quad_head : List A
  pub quad_tail : List A

-- a prover who sends these elements and answers whatever is drawn
abbrev pub sends : {A : Type 0} → (ℕ → ℕ → A) → List A → Answers A → Strategy A
sends table messages answers = record {
  table = table;
  messages = λ draws. messages;
  ldt = λ draws. answers.ldt;
  dot = λ draws. answers.dot;
  quad_head = λ draws. answers.quad_head;
  quad_tail = λ draws. answers.quad_tail;
}

-- how many weights there are of all kinds
abbrev pub all_weights : {A : Type 0} → Wiring A → ℕ
all_weights c = weight_count c + (row_count c + (params_of c).ntriple)

module _ {A : Type 0} (o : Ops A) (e : Coding A) (c : Wiring A) (public : List A) where
  -- By these draws more sets of 128 columns let it through than lie among three quarters of the columns, but for one.
  pub record IsPassedOften (strategy : Strategy A) (draws : List A) : Type 0 where
    pub test : List ℕ → Bool
    pub only : (columns : List ℕ) → length columns ≡ opened_count → test columns ≡ true
        → IsPassed o e c public strategy draws columns
    pub often : choose (3 * (params_of c).block - 1) opened_count < count test (column_sets c)

  -- Behind these draws there are answers that are let through often.
  pub record IsOpen (table : ℕ → ℕ → A) (messages draws : List A) : Type 0 where
    pub answers : Answers A
    pub passed : IsPassedOften (sends table messages answers) draws
