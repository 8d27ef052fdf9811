use Rattle.std.proofs.Common.{◌≡◌, ◌∙◌, ap, sym, arith, ◌+◌, ◌≤◌, min, inl, inr, subst, refl}
use Rattle.std.proofs.lemmas.Bool.{cases_lt}
use Rattle.std.proofs.lemmas.List.{get_or_default}
use Rattle.lzk_circuit_reduce.specs.Renumbering.{at}
use Rattle.lzk_level.proofs.uses.use_nodes.Goals as goal

pub loop-i-preserved : goal.loop-i-preserved
loop-i-preserved c =
    let nodes = c.args.nodes.now in
    let depths = c.args.depths.now in
    let i = c.loop-i.i in
    let v = c.loop-i.invariant in
    let e = c.use_node.ensures in
    let f = c.use_node-in-loop-i.ensures in
    let new = c.use_node-in-loop-i.new.last.items in
    let k = c.number-k.result in
    let own : c.index-nodes-i.result ≡ at nodes i = c.index-nodes-i.is ∙ get_or_default nodes i c.index-nodes-i.result 0 c.loop-i-test.true in
    let same : k ≡ at nodes i = c.number-k.ensures ∙ own in
    let depth : c.of_node-depth.result ≡ at depths k = c.of_node-depth.ensures ∙ ap (at depths) (sym c.number-k.ensures) in
    record {
      count = omega (arith, v.count, e.count, f.count);
      grown = λ j. omega (arith, v.grown j, e.grown j, f.grown j);
      lowest = λ j l. elim (cases_lt j i) [
        | inl m ↦ omega (arith, v.lowest j m, e.grown (at nodes j), f.grown (at nodes j))
        | inr m ↦ omega (arith, f.used, same, ap (λ m. at new (at nodes m)) (let is : j ≡ i = omega (arith, l, m) in is), ap (at new) same)
      ];
      used = λ j l. elim (cases_lt j i) [
        | inl m ↦ omega (arith, v.used j m, e.grown (at nodes j), f.grown (at nodes j))
        | inr m ↦
            let is : i ≡ j = omega (arith, l, m) in
            subst (λ m. min c.args.count (at depths (at nodes m) + 1) ≤ at new (at nodes m)) is
            (subst (λ n. min c.args.count (at depths n + 1) ≤ at new n) same (omega (arith, e.used, f.grown k, depth)))
      ];
    }

pub loop-i-init : goal.loop-i-init
loop-i-init c = record { count = refl; grown = λ j. omega arith; lowest = λ i l. absurd (omega (arith, l)); used = λ i l. absurd (omega (arith, l)) }

pub bounds-nodes-i : goal.bounds-nodes-i
bounds-nodes-i c = c.loop-i-test.true

pub use_node-requires : goal.use_node-requires
use_node-requires c =
    let nodes = c.args.nodes.now in
    let own : c.index-nodes-i.result ≡ at nodes c.loop-i.i = c.index-nodes-i.is ∙ get_or_default nodes c.loop-i.i c.index-nodes-i.result 0 c.loop-i-test.true in
    omega (arith, c.number-k.ensures, own, c.requires.nodes c.loop-i.i c.loop-i-test.true, c.loop-i.invariant.count, c.requires.count)

pub use_node-requires-in-loop-i : goal.use_node-requires-in-loop-i
use_node-requires-in-loop-i c =
    let nodes = c.args.nodes.now in
    let own : c.index-nodes-i.result ≡ at nodes c.loop-i.i = c.index-nodes-i.is ∙ get_or_default nodes c.loop-i.i c.index-nodes-i.result 0 c.loop-i-test.true in
    omega (arith, c.number-k.ensures, own, c.requires.nodes c.loop-i.i c.loop-i-test.true, c.loop-i.invariant.count, c.requires.count, c.use_node.ensures.count)

pub returns-clause-count : goal.returns-clause-count
returns-clause-count c = c.loop-i.invariant.count

pub returns-clause-grown : goal.returns-clause-grown
returns-clause-grown c = c.loop-i.invariant.grown

pub returns-clause-lowest : goal.returns-clause-lowest
returns-clause-lowest c i l = c.loop-i.invariant.lowest i (omega (arith, l, c.loop-i-test.false))

pub returns-clause-used : goal.returns-clause-used
returns-clause-used c i l = c.loop-i.invariant.used i (omega (arith, l, c.loop-i-test.false))
