use Rattle.std.proofs.Common.{inl, inr, refl, ◌∙◌, arith}
use Rattle.lzk_outside_memory.specs.Memory.{files_of, bytes_of}
use Rattle.lzk_cmd.specs.Sights.{texts}
use Rattle.lzk_cmd_words.specs.Words.{Eval, Compile}
use Rattle.lzk_tests_cmd.proofs.ChainLaws.{no_fault, done_or_memory, chained}
use Rattle.lzk_tests_cmd.proofs.cmd.chained.compile_then_eval.Goals as goal

pub returns-then-first-ne0 : goal.returns-then-first-ne0
returns-then-first-ne0 g c = λ chain quiet silent.
    done_or_memory _ _ _ _ (c.run-first.ensures.run.complete (Compile chain.source chain.circuit chain.version) chain.compiles (chain.tree, chain.has_source) (no_fault _ _ _ quiet) (no_fault _ _ _ quiet) (no_fault _ _ _ silent))

pub returns : goal.returns
returns g c = λ chain quiet silent.
    let first = c.run-first.ensures.run.complete (Compile chain.source chain.circuit chain.version) chain.compiles (chain.tree, chain.has_source) (no_fault _ _ _ quiet) (no_fault _ _ _ quiet) (no_fault _ _ _ silent) in
    elim first [
      | inl done ↦ done_or_memory _ _ _ _
          (c.run.ensures.run.complete (Eval chain.circuit chain.public chain.private) chain.evaluates
          (chained (texts c.args.compile.now) (texts c.args.eval.now) (files_of c.args.shelf.now) chain _ _ (files_of c.run-first.new.shelf) (bytes_of c.args.out.now) refl refl done)
          (no_fault _ _ _ (c.run-first.ensures.run.shelf_kept ∙ quiet)) (no_fault _ _ _ (c.run-first.ensures.run.shelf_kept ∙ quiet)) (no_fault _ _ _ (c.run-first.ensures.run.sink_kept ∙ silent)))
      | inr want ↦ absurd (omega (arith, want, c.if-first-ne0.false))
    ]
