use Rattle.std.proofs.Common.{◌∙◌, ◌+◌, ap, arith}
use Rattle.lzk_level.specs.Nodes.{Nodes, node_count}
use Rattle.lzk_level.proofs.builder.Builder.len.Goals as goal

pub overflow_add-result : goal.overflow_add-result
overflow_add-result g c = omega (arith, c.self.invariant.2)

pub overflow_cast-result : goal.overflow_cast-result
overflow_cast-result g c = omega (arith, c.self.invariant.2, c.len.ensures)

pub overflow_add-result-2 : goal.overflow_add-result-2
overflow_add-result-2 g c = omega (arith, c.self.invariant.2, c.len.ensures)

pub returns-clause-count : goal.returns-clause-count
returns-clause-count g c =
    let b = c.self.inside in
    ap (λ k. b.publics + b.privates + k) c.len.ensures ∙ ap (λ (n : Nodes _). node_count n) c.self.view_is

pub returns-clause-limit : goal.returns-clause-limit
returns-clause-limit g c = omega (arith, c.self.invariant.2, ap (λ (n : Nodes _). node_count n) c.self.view_is)
