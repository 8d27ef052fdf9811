-- The demo's source has a circuit with a file.
use Rattle.std.proofs.Common.{ℕ, ◌≤◌}
use Rattle.lzk_level.specs.SomeCircuit.{HasSomeCircuit, SomeCircuit}
use Rattle.lzk_demo.specs.Demo.{demo_tree}
use Rattle.lzk_demo.proofs.Formed.{demo_built}
use Rattle.lzk_demo.proofs.Limits.{limits_kept}
use Rattle.lzk_demo.proofs.Written.{demo_formed}

pub demo_has_circuit : SomeCircuit → (n : ℕ) → 1 ≤ n → n ≤ 16384 → HasSomeCircuit (demo_tree n)
demo_has_circuit circuits n some few = circuits (demo_tree n) (demo_formed n some few (demo_built n some few)) (limits_kept n some few)
