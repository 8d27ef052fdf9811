use Rattle.std.proofs.Common.{[], ap, sym, subst, arith, reverse}
use Rattle.lzk_level.specs.Stacks.{AreLevels}
use Rattle.lzk_level.specs.Uses.{node_form}
use Rattle.lzk_level.proofs.StackLaws.{levels-begin}
use Rattle.std.proofs.lemmas.Result.{IfOk-from_err}
use Rattle.lzk_level.proofs.tower.no_layers.Goals as goal

pub returns : goal.returns
returns g c asserts =
    let o = g.F.Field.ops in
    let graph = c.args.graph.now in
    let inputs = graph.inputs in
    let form = node_form inputs graph.forms.now in
    let depths = graph.depths.now in
    let last = graph.last.now in
    let numbers = c.in_ok-below.below.items in
    let e = c.in_ok-below.ensures in
    let n = c.in_ok-next.ensures in
    record {
      passed = record {
        count = omega (arith, n.count, graph.uses.count);
        behind = λ k l. (omega (arith, n.each k (omega (arith, l, graph.uses.count))), omega (arith, n.each k (omega (arith, l, graph.uses.count)), l));
        each = λ k j l m q. absurd (omega (arith, n.each k (omega (arith, l, graph.uses.count)), m, q));
      };
      room = omega (arith, c.in_ok-here.ensures.len, c.in_ok-here.here.ok.0);
      levels =
          subst (λ ls. AreLevels o inputs form depths last asserts 0 ls (reverse c.new-2.result.items) numbers) (sym (ap reverse c.new.ensures.items))
          (subst (λ ws. AreLevels o inputs form depths last asserts 0 [] ws numbers) (sym (ap reverse c.new-2.ensures.items)) (levels-begin o inputs graph.forms.now depths last asserts graph.formed numbers e.count (λ k l. omega (arith, e.each k l))));
    }

pub returns-in_err-here : goal.returns-in_err-here
returns-in_err-here g c asserts = IfOk-from_err _ _ c.from_residual.ensures.0

pub returns-in_err-below : goal.returns-in_err-below
returns-in_err-below g c asserts = IfOk-from_err _ _ c.from_residual-in_err-below.ensures.0

pub returns-in_err-next : goal.returns-in_err-next
returns-in_err-next g c asserts = IfOk-from_err _ _ c.from_residual-in_err-next.ensures.0

pub overflow_cast-nodes : goal.overflow_cast-nodes
overflow_cast-nodes g c = omega (arith, c.args.graph.now.formed.few)

pub overflow_cast-nodes-2 : goal.overflow_cast-nodes-2
overflow_cast-nodes-2 g c = omega (arith, c.args.graph.now.formed.few)

pub numbers_from-requires : goal.numbers_from-requires
numbers_from-requires g c = omega (arith, c.args.graph.now.formed.few)

pub numbers_from-requires-2 : goal.numbers_from-requires-2
numbers_from-requires-2 g c = omega (arith, c.args.graph.now.formed.few)
