use Rattle.std.proofs.Common.{rules, ◌≡◌, ap, arith, ℕ, length, replicate, slice_set}
use Rattle.lzk_circuit_reduce.specs.Renumbering.{at}
use Rattle.lzk_level.proofs.UseLaws.{uses-start, uses-first}
use Rattle.std.proofs.lemmas.Result.{IfOk-from_err}
use Rattle.std.proofs.lemmas.List.{length-set}
use Rattle.lzk_level.proofs.uses.last_uses.Goals as goal

pub returns-clause-uses : goal.returns-clause-uses
returns-clause-uses g c =
    let n = length c.args.depths.now in
    let count = c.args.count in
    let one : ℕ = 1 in
    let all : c.in_ok-last.last.items ≡ replicate n one = search rules in
    let start = ap (λ ns. slice_set ns 0 count) all in
    let v = c.use_forms.ensures in
    let formed = c.requires.formed in
    record {
      count = v.count;
      at_inputs = λ k l. omega (arith, uses-start n count k (omega (arith, c.requires.outputs.some)) (omega (arith, l, formed.within)), ap (λ ns. at ns k) start, c.use_nodes.ensures.grown k, c.use_nodes-2.ensures.grown k, v.grown k);
      made = v.used;
    }

pub returns-clause-outputs : goal.returns-clause-outputs
returns-clause-outputs g c =
    let n = length c.args.depths.now in
    let count = c.args.count in
    let one : ℕ = 1 in
    let all : c.in_ok-last.last.items ≡ replicate n one = search rules in
    let formed = c.requires.formed in
    let outputs = c.args.outputs.now in
    record {
      one = omega (arith, uses-first n count (omega (arith, formed.one, formed.within)), ap (λ ns. at (slice_set ns 0 count) 0) all, c.use_nodes.ensures.grown 0, c.use_nodes-2.ensures.grown 0, c.use_forms.ensures.grown 0);
      each = λ i l. omega (arith, c.use_nodes.ensures.lowest i l, c.use_nodes-2.ensures.grown (at outputs i), c.use_forms.ensures.grown (at outputs i));
    }

pub returns-clause-asserts : goal.returns-clause-asserts
returns-clause-asserts g c = record { nodes = c.requires.asserts; used = λ i l. omega (arith, c.use_nodes-2.ensures.used i l, c.use_forms.ensures.grown (at c.args.asserts.now i)) }

pub returns-in_err-last-clause-uses : goal.returns-in_err-last-clause-uses
returns-in_err-last-clause-uses g c = IfOk-from_err _ _ c.from_residual.ensures.0

pub returns-in_err-last-clause-outputs : goal.returns-in_err-last-clause-outputs
returns-in_err-last-clause-outputs g c = IfOk-from_err _ _ c.from_residual.ensures.0

pub returns-in_err-last-clause-asserts : goal.returns-in_err-last-clause-asserts
returns-in_err-last-clause-asserts g c = IfOk-from_err _ _ c.from_residual.ensures.0

pub index_mut-requires : goal.index_mut-requires
index_mut-requires g c = omega (arith, c.in_ok-last.ensures.len, c.requires.formed.one, c.requires.formed.within)

pub use_nodes-requires-clause-count : goal.use_nodes-requires-clause-count
use_nodes-requires-clause-count g c = omega (arith, length-set c.in_ok-last.last.items 0 c.args.count, c.in_ok-last.last.ok.0, c.in_ok-last.ensures.len)

pub use_nodes-requires-clause-nodes : goal.use_nodes-requires-clause-nodes
use_nodes-requires-clause-nodes g c = c.requires.outputs.nodes

pub use_nodes-requires-2-clause-count : goal.use_nodes-requires-2-clause-count
use_nodes-requires-2-clause-count g c = omega (arith, c.use_nodes.ensures.count, length-set c.in_ok-last.last.items 0 c.args.count, c.in_ok-last.last.ok.0, c.in_ok-last.ensures.len)

pub use_nodes-requires-2-clause-nodes : goal.use_nodes-requires-2-clause-nodes
use_nodes-requires-2-clause-nodes g c = c.requires.asserts

pub use_forms-requires-clause-count : goal.use_forms-requires-clause-count
use_forms-requires-clause-count g c κs within = omega (arith, c.use_nodes-2.ensures.count, c.use_nodes.ensures.count, length-set c.in_ok-last.last.items 0 c.args.count, c.in_ok-last.last.ok.0, c.in_ok-last.ensures.len)

pub use_forms-requires-clause-formed : goal.use_forms-requires-clause-formed
use_forms-requires-clause-formed g c κs within = c.requires.formed
