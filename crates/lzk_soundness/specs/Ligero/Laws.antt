-- How few sets of columns let others on than many do, and how few weights a table that encodes no satisfying inputs.
use Rattle.lzk_shares.specs.Shares.{least_size, column_share}
use Rattle.lzk_profile.specs.Profile.{opened_count}
use Rattle.std.specs.Prelude.{◌≡◌, ℕ, ◌+◌, ◌*◌, ◌^◌, ◌≤◌, Bool, true, List, ◌++◌, length}
use Rattle.lzk_field.specs.Coding.{Coding}
use Rattle.lzk_field.specs.Ring.{Ops}
use Rattle.lzk_field.specs.Sums.{entry}
use Rattle.lzk_soundness.specs.Chance.Draws.{count, draws_from}
use Rattle.lzk_circuit.specs.Valid.{Wiring, IsValid}
use Rattle.lzk_layout.specs.Sizes.{committed_count, params_of}
use Rattle.lzk_soundness.specs.Sumchecks.Bad.{AreZero}
use Rattle.lzk_soundness.specs.Sumchecks.Claims.{HasProducts, Vanish}
use Rattle.lzk_soundness.specs.Draws.Schedule.{draw_count, script_of}
use Rattle.lzk_soundness.specs.Draws.Game.{Target, table_of}
use Rattle.lzk_soundness.specs.Draws.Laws.{IsOf}
use Rattle.lzk_soundness.specs.Count.Game.{column_sets, Strategy, IsPassed}
use Rattle.lzk_soundness.specs.Extract.Extraction.{all_elements}
use Rattle.lzk_soundness.specs.Count.Laws.{Encodes}
use Rattle.lzk_soundness.specs.Ligero.States.{all_weights, IsPassedOften, IsOpen}

-- What is not let through often is let through by one set of columns in column_share at most.
abbrev pub ColumnsAreFew : {A : Type 0} → Ops A → Coding A → Type 0
ColumnsAreFew {A} o e =
    (c : Wiring A) (public : List A) (strategy : Strategy A) (draws : List A) (test : List ℕ → Bool) → IsValid o c
    → (IsPassedOften o e c public strategy draws → ⊥)
    → ((columns : List ℕ) → length columns ≡ opened_count → test columns ≡ true
    → IsPassed o e c public strategy draws columns)
    → count test (column_sets c) * column_share ≤ length (column_sets c)

module _ {A : Type 0} (o : Ops A) (e : Coding A) (c : Wiring A) (public : List A) (table : ℕ → ℕ → A) where
  -- A test says yes only to weights behind which there are answers that are let through often, for these draws of the
  -- sumchecks and sent elements.
  pub record IsOpening (draws messages : List A) (test : List A → Bool) : Type 0 where
    pub count : length draws ≡ draw_count c
    pub only : (weights : List A) → length weights ≡ all_weights c → test weights ≡ true
        → IsOpen o e c public table messages (draws ++ weights)

  -- Such a test says yes to at most this share of all weights, over the number of elements.
  abbrev pub IsOpenedBy : ℕ → (List A → Bool) → Type 0
  IsOpenedBy most test =
      count test (draws_from (all_elements e) (all_weights c)) * e.size ≤ most * e.size ^ all_weights c

  -- What a table holds that stands before all draws: either few weights open it, whatever is drawn and sent before
  -- them; or it holds a list with its products, by which a target is not 0, and few weights open it where not all
  -- residuals are 0.
  pub data Held : Type 0 where
    nothing : ((draws messages : List A) (test : List A → Bool) → IsOpening draws messages test
        → IsOpenedBy ((params_of c).block + 2) test) → Held
    list : (w : List A) (target : Target) → length w ≡ committed_count c → HasProducts o c public w → IsOf c target
        → (AreZero o (entry o (table_of o c public w target)) → ⊥)
        → ((draws messages : List A) (test : List A → Bool) → IsOpening draws messages test
        → (Vanish o c public w e.element (script_of o c draws) messages → ⊥)
        → IsOpenedBy ((params_of c).block + 1) test)
        → Held

-- Each table is so that does not encode private inputs which satisfy a valid circuit with these public ones.
abbrev pub WeightsAreFew : {A : Type 0} → Ops A → Coding A → Type 0
WeightsAreFew {A} o e =
    (c : Wiring A) (public : List A) (table : ℕ → ℕ → A) → IsValid o c → length public ≡ c.publics
    → (Encodes o e c public table → ⊥) → least_size ≤ e.size
    → (Held o e c public table → ⊥) → ⊥
