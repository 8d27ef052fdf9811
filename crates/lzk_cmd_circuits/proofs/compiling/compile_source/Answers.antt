use Rattle.std.proofs.Common.{ℕ, List}
use Rattle.lzk_expr.specs.Trees.{SourceTree}
use Rattle.lzk_outside.specs.Outside.{Files}
use Rattle.lzk_cmd_circuits.specs.Compiled.{CompileTree, CompileRun}
use Rattle.lzk_cmd_files.specs.Decoded.{source_files}
use Rattle.lzk_cmd_files.specs.Ends.{End, Stop}
use Rattle.lzk_cmd_files.specs.Seen.{seen}
use Rattle.lzk_cmd_files.proofs.Laws as laws
use Rattle.lzk_cmd_files.proofs.Steps.{ends, then}
use Rattle.lzk_cmd_words.specs.declared.words.Version.{Version}
use Rattle.lzk_cmd_files.proofs.Sights.{only_moves, moves_then}
use Rattle.lzk_cmd_circuits.proofs.compiling.compile_source.Goals as goal

-- the walk that has the source
abbrev next : Version → List ℕ → List ℕ → Files → Stop → End → SourceTree → Type 0
next version source circuit files stop end s = CompileTree version source circuit s stop end

pub returns-in_err-code-clause-walks : goal.returns-in_err-code-clause-walks
unfolding CompileRun
returns-in_err-code-clause-walks g c =
    ends source_files (λ (s : SourceTree). s) c.args.source.now 0 (next c.args.version c.args.source.now c.args.circuit.now) (Unit {0}) (seen g.S.Shelf c.args.shelf.now) (seen g.S.Shelf c.read_source.new.shelf) c.in_err-code.field-0.0 _ (laws.sources.quiet c.args.source.now) c.in_err-code.ensures.reads c.in_err-code.ensures.gives c.from_residual.ensures.1

pub returns-clause-walks : goal.returns-clause-walks
unfolding CompileRun
returns-clause-walks g c =
    let given = c.in_ok-code.ensures.gives in
    then source_files (λ (s : SourceTree). s) c.args.source.now 0 (next c.args.version c.args.source.now c.args.circuit.now) (Unit {0}) (seen g.S.Shelf c.args.shelf.now) (seen g.S.Shelf c.read_source.new.shelf) (seen g.S.Shelf c.put_compiled.new.shelf) given.0 c.put_compiled.result c.in_ok-code.ensures.reads given.2 (c.put_compiled.ensures.walks given.0 given.1)

pub returns-in_err-code-clause-moves : goal.returns-in_err-code-clause-moves
returns-in_err-code-clause-moves g c = only_moves (seen g.S.Shelf c.args.shelf.now) (seen g.S.Shelf c.read_source.new.shelf) c.read_source.ensures.reads

pub returns-clause-moves : goal.returns-clause-moves
returns-clause-moves g c = moves_then (seen g.S.Shelf c.args.shelf.now) (seen g.S.Shelf c.read_source.new.shelf) (seen g.S.Shelf c.put_compiled.new.shelf) c.read_source.ensures.reads c.put_compiled.ensures.moves
