use Rattle.std.proofs.Common.{◌≡◌, ℕ, ◌%◌, ◌<◌, List, length, get_or, sym, refl, ap, subst, ◌∙◌, arith}
use Rattle.std.proofs.lemmas.List.{take_all}
use Rattle.lzk_transcript.specs.Columns.{after_draws, opened}
use Rattle.lzk_transcript.specs.Tape.{drawn}
use Rattle.lzk_transcript.proofs.Opened.{opened-zero, columns_step, after_step, opened-ascends, opened-below}
use Rattle.lzk_transcript.proofs.tape.Tape.draw_columns.Goals as goal

pub loop-k-init : goal.loop-k-init
unfolding after_draws
loop-k-init c = (sym (opened-zero _ _), refl)

pub loop-k-preserved : goal.loop-k-preserved
loop-k-preserved c =
    let k = c.loop-k.k in
    let before = c.args.self.now in (
      columns_step c.args.mcol k before c.loop-k.self c.loop-k.out c.insert.new.columns (c.draw_block.result % c.from.result)
          (omega arith) (omega arith) c.loop-k.invariant.0 c.loop-k.invariant.1 (ap (λ n. n % c.from.result) c.draw_block.ensures.value ∙ ap (λ w. drawn c.loop-k.self % w) c.from.ensures) c.insert.ensures,
      after_step k before c.loop-k.self c.draw_block.new.self c.loop-k.invariant.1 c.draw_block.ensures.after,
    )

pub returns-clause-ascending : goal.returns-clause-ascending
returns-clause-ascending c =
    let k = c.loop-k.k in
    let all : c.loop-k.out ≡ opened c.args.mcol k c.args.self.now = sym (take_all k c.loop-k.out (omega arith)) ∙ c.loop-k.invariant.0 in
    let Ascends : List ℕ → Type 0 = λ xs. (i j : ℕ) → i < j → j < length xs → get_or xs i 0 < get_or xs j 0 in
    subst Ascends (sym all) (opened-ascends c.args.mcol k c.args.self.now)

pub returns-clause-below : goal.returns-clause-below
returns-clause-below c =
    let k = c.loop-k.k in
    let all : c.loop-k.out ≡ opened c.args.mcol k c.args.self.now = sym (take_all k c.loop-k.out (omega arith)) ∙ c.loop-k.invariant.0 in
    let Below : List ℕ → Type 0 = λ xs. (i : ℕ) → i < length xs → get_or xs i 0 < c.args.mcol in
    subst Below (sym all) (opened-below c.args.mcol k c.args.self.now)
