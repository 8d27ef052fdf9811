use Rattle.std.proofs.Common.{◌≡◌, ℕ, ◌+◌, ◌-◌, ◌*◌, ◌∙◌, ◌↔◌, List, ◌++◌, length, take, ap, sym, subst, arith}
use Rattle.lzk_goldilocks.specs.Elements.{ops, number}
use Rattle.lzk_goldilocks.specs.declared.element.Gold.{Gold}
use Rattle.lzk_circuit.specs.Checks.{IsSatisfied}
use Rattle.lzk_circuit.specs.Wires.{inputs_of}
use Rattle.lzk_circuit_reduce.specs.Renumbering.{AreNumbersBelow}
use Rattle.lzk_circuit_beside.specs.Chosen.{chosen}
use Rattle.lzk_sha_path.specs.Climbs.{private_count, middle_of}
use Rattle.lzk_sha_path.proofs.Levels.{AreJoined, levels_joined}
use Rattle.lzk_sha_path.proofs.Seen.{rows_below, length-rows, lower_seen, upper_seen, words_length}
use Rattle.lzk_sha_path.proofs.circuit.with_levels.Goals as goal

pub invariant_of-first : goal.invariant_of-first
invariant_of-first c =
    let own = private_count c.args.stack.own in
    let long = ap length (c.deref.ensures.value ∙ c.in_ok-lower.ensures) ∙ length-rows 1 (17 + own) 17 own in
    record { version = c.requires.below.version; count = omega (arith, long, c.requires.below.publics, c.requires.below.privates) }

pub invariant_of-second : goal.invariant_of-second
invariant_of-second c =
    let own = private_count c.args.stack.own in
    let more = private_count c.args.stack.others in
    let long = ap length (c.deref-2.ensures.value ∙ c.in_ok-upper.ensures) ∙ length-rows (17 + own) 9 (25 + own) more in
    record { version = c.requires.above.version; count = omega (arith, long, c.requires.above.publics, c.requires.above.privates) }

pub beside-requires-clause-first : goal.beside-requires-clause-first
beside-requires-clause-first c κs =
    let own = private_count c.args.stack.own in
    let more = private_count c.args.stack.others in
    let width = 1 + 16 + (own + 8 + more) in
    subst (AreNumbersBelow width) (sym (c.deref.ensures.value ∙ c.in_ok-lower.ensures))
    (rows_below width 1 (17 + own) 17 own (omega arith) (omega arith) (omega arith))

pub beside-requires-clause-second : goal.beside-requires-clause-second
beside-requires-clause-second c κs =
    let own = private_count c.args.stack.own in
    let more = private_count c.args.stack.others in
    let width = 1 + 16 + (own + 8 + more) in
    subst (AreNumbersBelow width) (sym (c.deref-2.ensures.value ∙ c.in_ok-upper.ensures))
    (rows_below width (17 + own) 9 (25 + own) more (omega arith) (omega arith) (omega arith))

joined : (c : goal.After-drop-lower-in-Ok) → AreJoined c.args.stack.own c.args.below.now c.args.above.now c.in-Ok.whole (c.args.stack.own + c.args.stack.others)
joined c = λ leaf root private ll lr lp.
    let own = private_count c.args.stack.own in
    let more = private_count c.args.stack.others in
    let xs = inputs_of ops (leaf ++ root) private in
    let W = IsSatisfied ops number c.in-Ok.whole.layers xs in
    let F = λ (l : List Gold). IsSatisfied ops number c.args.below.now.layers l in
    let G = λ (l : List Gold). IsSatisfied ops number c.args.above.now.layers l in
    let total : length private ≡ own + 8 + more = omega (arith, lp, c.args.stack.some, c.args.stack.more) in
    let lower = ap (λ (l : List ℕ). chosen ops l xs) (c.deref.ensures.value ∙ c.in_ok-lower.ensures) ∙ lower_seen ops leaf root private ll lr own (omega (arith, total)) in
    let upper = ap (λ (l : List ℕ). chosen ops l xs) (c.deref-2.ensures.value ∙ c.in_ok-upper.ensures) ∙ upper_seen ops leaf root private ll lr own more total in
    let both = c.in-Ok.ensures.satisfied (leaf ++ root) private (words_length leaf root ll lr) total in
    subst (λ (l : List Gold). W ↔ (F (inputs_of ops (leaf ++ middle_of c.args.stack.own private) (take own private)) × G l)) upper
    (subst (λ (l : List Gold). W ↔ (F l × G (chosen ops c.deref-2.result.now xs))) lower both)

pub returns-in-Ok-clause-levels : goal.returns-in-Ok-clause-levels
returns-in-Ok-clause-levels c =
    levels_joined c.args.stack.own c.args.stack.others c.args.stack.some c.args.stack.more c.args.below.now c.args.above.now c.in-Ok.whole c.requires.below c.requires.above
    c.in-Ok.ensures.version c.in-Ok.ensures.publics c.in-Ok.ensures.privates (joined c)
