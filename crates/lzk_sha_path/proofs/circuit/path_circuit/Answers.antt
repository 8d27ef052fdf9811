use Rattle.std.proofs.Common.{ℕ, List, ◌++◌, length, ◌≡◌, sym, subst, arith}
use Rattle.std.specs.Prelude.{◌↔◌}
use Rattle.lzk_circuit.specs.Checks.{IsSatisfied}
use Rattle.lzk_circuit.specs.Wires.{inputs_of}
use Rattle.lzk_goldilocks.specs.Elements.{ops, number}
use Rattle.lzk_goldilocks.specs.declared.element.Gold.{Gold}
use Rattle.lzk_sha_path.specs.Climbs.{IsClimb}
use Rattle.lzk_sha_path.proofs.Climbing.{climbs_exactly}
use Rattle.lzk_sha_path.proofs.circuit.path_circuit.Goals as goal

pub returns-then-depth-eq1-clause-climbs : goal.returns-then-depth-eq1-clause-climbs
returns-then-depth-eq1-clause-climbs c = λ leaf root ll lr.
    let level = c.in_ok-level.level in
    let made = c.in_ok-level.ensures in
    subst (λ (n : ℕ). ((private : List Gold) × (length private ≡ level.privates) × IsSatisfied ops number level.layers (inputs_of ops (leaf ++ root) private)) ↔ IsClimb n leaf root) (sym c.if-depth-eq1.true)
    (climbs_exactly 1 leaf root level.layers level.privates (omega arith) ll lr made.privates (λ private lp. made.satisfied leaf root private ll lr lp))

pub returns-clause-climbs : goal.returns-clause-climbs
returns-clause-climbs c = λ leaf root ll lr.
    let made = c.in_ok-whole.ensures.levels in
    climbs_exactly c.args.depth leaf root c.in_ok-whole.whole.layers c.in_ok-whole.whole.privates (omega arith) ll lr made.privates (λ private lp. made.satisfied leaf root private ll lr lp)
