use Rattle.std.proofs.Common.{◌≡◌, ℕ, ◌∙◌, ◌↔◌, List, ◌++◌, length, take, ap, sym, subst, arith}
use Rattle.std.proofs.lemmas.List.{length-take-le}
use Rattle.std.proofs.lemmas.List.FromFn.{length-range_with_len}
use Rattle.lzk_goldilocks.specs.Elements.{ops, number}
use Rattle.lzk_goldilocks.specs.declared.element.Gold.{Gold}
use Rattle.lzk_circuit.specs.Checks.{IsSatisfied}
use Rattle.lzk_circuit.specs.Wires.{inputs_of}
use Rattle.lzk_circuit_reduce.specs.Renumbering.{AreNumbersBelow}
use Rattle.lzk_circuit_beside.specs.Chosen.{chosen}
use Rattle.lzk_sha_path.proofs.LevelLaws.{level_exactly}
use Rattle.lzk_circuit_beside.proofs.PlaceLaws.{row_below}
use Rattle.lzk_sha_path.proofs.Seen.{front_seen, root_seen, words_length}
use Rattle.lzk_sha_path.proofs.level.level_circuit.Goals as goal

pub invariant_of-first : goal.invariant_of-first
invariant_of-first c =
    let long = ap length (c.deref.ensures.value ∙ c.in_ok-front.ensures) ∙ length-range_with_len 1 529 in
    record { version = c.in_ok-statement.ensures.version; count = omega (arith, long, c.in_ok-statement.ensures.publics, c.in_ok-statement.ensures.privates) }

pub invariant_of-second : goal.invariant_of-second
invariant_of-second c =
    let long = ap length (c.deref-2.ensures.value ∙ c.in_ok-behind.ensures) ∙ length-range_with_len 9 6897 in
    record { version = c.in_ok-block.ensures.version; count = omega (arith, long, c.in_ok-block.ensures.publics, c.in_ok-block.ensures.privates) }

pub beside-requires-clause-first : goal.beside-requires-clause-first
beside-requires-clause-first c κs = subst (AreNumbersBelow 6906) (sym (c.deref.ensures.value ∙ c.in_ok-front.ensures)) (row_below 6906 1 529 (omega arith))

pub beside-requires-clause-second : goal.beside-requires-clause-second
beside-requires-clause-second c κs = subst (AreNumbersBelow 6906) (sym (c.deref-2.ensures.value ∙ c.in_ok-behind.ensures)) (row_below 6906 9 6897 (omega arith))

pub returns-in-Ok-clause-satisfied : goal.returns-in-Ok-clause-satisfied
returns-in-Ok-clause-satisfied c = λ node above private ln la lp.
    let statement = c.in_ok-statement.statement in
    let block = c.in_ok-block.block in
    let xs = inputs_of ops (node ++ above) private in
    let W = IsSatisfied ops number c.in-Ok.whole.layers xs in
    let S = λ (l : List Gold). IsSatisfied ops number statement.layers l in
    let B = λ (l : List Gold). IsSatisfied ops number block.layers l in
    let front = ap (λ (l : List ℕ). chosen ops l xs) (c.deref.ensures.value ∙ c.in_ok-front.ensures) ∙ front_seen ops node above private ln la 513 (omega (arith, lp)) in
    let behind = ap (λ (l : List ℕ). chosen ops l xs) (c.deref-2.ensures.value ∙ c.in_ok-behind.ensures) ∙ root_seen ops node above private ln la 6889 lp in
    let words = words_length node above ln la in
    let both = c.in-Ok.ensures.satisfied (node ++ above) private words lp in
    let first = take 513 private in
    let long : length first ≡ 513 = length-take-le 513 private (omega (arith, lp)) in
    level_exactly W (S (inputs_of ops (node ++ above) first)) (B (inputs_of ops above private)) node above private ln la lp
    (subst (λ (l : List Gold). W ↔ (S (inputs_of ops (node ++ above) first) × B l)) behind
    (subst (λ (l : List Gold). W ↔ (S l × B (chosen ops c.deref-2.result.now xs))) front both))
    (λ small. c.in_ok-statement.ensures.satisfied (node ++ above) first words long small)
    (c.in_ok-block.ensures.satisfied above private la lp)
