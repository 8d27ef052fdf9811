use Rattle.lzk_cmd_words.specs.Keys.{number_of}
use Rattle.lzk_cmd_words.specs.Digits.{seed_of}
use Rattle.lzk_cmd_prove.proofs.DemoCounts.{demo_compiled}
use Rattle.lzk_cmd_prove.proofs.Told.{same_end}
use Rattle.lzk_cmd_prove.proofs.demos.demo.Goals as goal

pub demo_over-ending-requires-clause-compiled : goal.demo_over-ending-requires-clause-compiled
demo_over-ending-requires-clause-compiled g c κs within =
    let made = c.in_ok-circuit.ensures in
    demo_compiled c.count_of-n.result c.in_ok-circuit.circuit made.version made.publics made.privates made.layers made.outputs made.reduced

pub returns : goal.returns
returns g c =
    same_end c.count_of-n.result (number_of c.args.count.now) c.seed_bytes.result (seed_of c.args.seed.now) c.demo_over-ending.result c.count_of-n.ensures.number c.seed_bytes.ensures c.demo_over-ending.ensures

pub demo_circuit-requires-clause-some : goal.demo_circuit-requires-clause-some
demo_circuit-requires-clause-some g c = c.count_of-n.ensures.some

pub demo_circuit-requires-clause-few : goal.demo_circuit-requires-clause-few
demo_circuit-requires-clause-few g c = c.count_of-n.ensures.most

pub invariant_of-by : goal.invariant_of-by
invariant_of-by g c = record { some = c.workers_of.ensures.some; few = c.workers_of.ensures.most }

pub invariant_of-own : goal.invariant_of-own
invariant_of-own g c =
    let made = c.in_ok-circuit.ensures in
    record { some = c.count_of-n.ensures.some; publics = made.publics; privates = made.privates; satisfied = made.satisfied }
