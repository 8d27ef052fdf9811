use Rattle.std.proofs.Common.{◌∙◌, ap, sym, subst, arith, None, ◌++◌, List, length, [], ◌∷◌}
use Rattle.std.proofs.lemmas.List.{length-append}
use Rattle.std.specs.Option.{option_to_list}
use Rattle.std.proofs.lemmas.Result.{on_ok_weaker}
use Rattle.lzk_level.specs.Nodes.{node_count}
use Rattle.lzk_level.specs.declared.half.Half.{Half}
use Rattle.lzk_level.specs.declared.lets.Operand.{Operand}
use Rattle.lzk_level.specs.Steps.{Held, CanJoin, held_in, held_sum, sum_ended, with_value}
use Rattle.lzk_level.proofs.FlatGateLaws.{not-on-ok}
use Rattle.lzk_level.proofs.StepLaws.{sum-ended, last-half, last-same}
use Rattle.lzk_level.proofs.maker.Maker.close.Goals as goal

pub value-requires-clause-operand : goal.value-requires-clause-operand
value-requires-clause-operand g c κs within =
    let m = held_in c.args.self.now in
    let n = node_count m.nodes in
    let before = c.in-Some.before in
    let held = c.in_ok-operand.ensures.held in
    let outer = ap (λ (h : Held _). h.outer) (sym held) ∙ c.pop.ensures.items ∙ ap (λ x. c.pop.new.self.items ++ option_to_list x) c.in-Some.is in
    let can = sum-ended g.F.Field.ops m.nodes m.now m.parts before.node c.requires.can.node (last-half g.F.Field.ops n m.outer c.pop.new.self.items before outer c.requires.outer) in
    subst (λ (h : Held _). CanJoin (node_count h.nodes) before.node c.in_ok-operand.operand) (sym held)
    (subst (λ x. CanJoin (node_count (held_sum g.F.Field.ops m).nodes) before.node x) (sym c.in_ok-operand.ensures.value) can.can)

pub returns-in-Some : goal.returns-in-Some
returns-in-Some g c = λ outer before is.
    let o = g.F.Field.ops in
    let m = held_in c.args.self.now in
    let e = c.in_ok-operand.ensures in
    let own = c.pop.new.self.items in
    let same =
    last-same outer own before c.in-Some.before
    (sym is ∙ ap (λ (h : Held _). h.outer) (sym e.held) ∙ c.pop.ensures.items ∙ ap (λ x. own ++ option_to_list x) c.in-Some.is) in
    let closed : Held _ → Operand _ → List (Half _) → Half _ → Held _ = λ h x hs b. with_value o (record {
      nodes = h.nodes;
      outer = hs;
      now = b;
      ready = h.ready;
      parts = h.parts;
      lets = h.lets;
      outputs = h.outputs;
      left = h.left;
    }) x in
    let v = held_sum o m in
    on_ok_weaker c.value.result
    (λ d. d ∙ ap (λ h. closed h c.in_ok-operand.operand own c.in-Some.before) e.held ∙ ap (λ x. closed (sum_ended o m) x own c.in-Some.before) e.value
    ∙ ap (λ hs. closed (sum_ended o m) v.operand hs c.in-Some.before) (sym same.0) ∙ ap (closed (sum_ended o m) v.operand outer) (sym same.1))
    c.value.ensures

pub sum-requires-after_bounds : goal.sum-requires-after_bounds
sum-requires-after_bounds g c κs within = c.requires.can

pub returns-in_err-operand : goal.returns-in_err-operand
returns-in_err-operand g c = λ outer before is. not-on-ok _ c.from_residual.result _ c.from_residual.ensures.1

pub value-requires-clause-room : goal.value-requires-clause-room
value-requires-clause-room g c κs within =
    let m = held_in c.args.self.now in
    omega (arith, c.requires.can.room, (sum-ended g.F.Field.ops m.nodes m.now m.parts None c.requires.can.node tt).few, ap (λ (h : Held _). node_count h.nodes) c.in_ok-operand.ensures.held)

pub returns-in-None : goal.returns-in-None
returns-in-None g c = λ outer before is.
    absurd (omega (arith, c.in-None.ensures.cases.0, c.sum.new.self.outer.ok.0, ap (λ (h : Held _). length h.outer) c.in_ok-operand.ensures.held, ap length is, length-append outer (before ∷ [])))
