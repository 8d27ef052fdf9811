use Rattle.lzk_level.specs.Compiled.{source_limit}
use Rattle.lzk_demo.specs.Demo.{demo_tree}
use Rattle.lzk_demo.proofs.Coded.{memory_out}
use Rattle.lzk_demo.proofs.Limits.{limits_kept}
use Rattle.lzk_demo.proofs.circuit.compiled.Goals as goal

pub returns-clause-memory : goal.returns-clause-memory
returns-clause-memory c =
    memory_out c.compile_code.result (source_limit (demo_tree c.args.n)) (limits_kept c.args.n c.requires.some c.requires.few) (c.compile_code.ensures.fault (demo_tree c.args.n) c.in-Ok.ensures)
