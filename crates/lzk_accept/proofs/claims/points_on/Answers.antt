use Rattle.std.proofs.Common.{◌≡◌, ◌-◌, suc, length, ap, ◌∙◌, arith}
use Rattle.lzk_sumcheck.specs.Script.{point_a, point_b}
use Rattle.lzk_accept.proofs.ShapeLaws.{point_a_length, point_b_length}
use Rattle.lzk_accept.proofs.claims.points_on.Goals as goal

pub returns-then-l-eq0-clause-first : goal.returns-then-l-eq0-clause-first
returns-then-l-eq0-clause-first g c =
    let top : 0 ≡ c.args.l = omega (arith, c.if-l-eq0.true) in
    c.as_slice-point.ensures ∙ ap (point_a g.F.Field.ops c.args.scripted.now.script.now) top

pub returns-then-l-eq0-clause-second : goal.returns-then-l-eq0-clause-second
returns-then-l-eq0-clause-second g c =
    let top : 0 ≡ c.args.l = omega (arith, c.if-l-eq0.true) in
    c.as_slice-point.ensures ∙ ap (point_b g.F.Field.ops c.args.scripted.now.script.now) top

pub returns-then-l-eq0-clause-first_length : goal.returns-then-l-eq0-clause-first_length
returns-then-l-eq0-clause-first_length g c =
    let o = g.F.Field.ops in
    let a = c.args.scripted.now in
    let top : 0 ≡ c.args.l = omega (arith, c.if-l-eq0.true) in
    ap length c.as_slice-point.ensures ∙ ap (λ l. length (point_a o a.script.now l)) top ∙ point_a_length o a.circuit.now a.script.now a.shape c.args.l c.requires.layer

pub returns-then-l-eq0-clause-second_length : goal.returns-then-l-eq0-clause-second_length
returns-then-l-eq0-clause-second_length g c =
    let o = g.F.Field.ops in
    let a = c.args.scripted.now in
    let top : 0 ≡ c.args.l = omega (arith, c.if-l-eq0.true) in
    ap length c.as_slice-point.ensures ∙ ap (λ l. length (point_b o a.script.now l)) top ∙ point_b_length o a.circuit.now a.script.now a.shape c.args.l c.requires.layer

pub overflow_sub-l : goal.overflow_sub-l
overflow_sub-l g c = omega (arith, c.if-l-eq0.false)

pub layer_of-layer-requires-clause-layer : goal.layer_of-layer-requires-clause-layer
layer_of-layer-requires-clause-layer g c κs within = omega (arith, c.requires.layer, c.if-l-eq0.false)

pub returns-clause-first : goal.returns-clause-first
returns-clause-first g c =
    let next : suc (c.args.l - 1) ≡ c.args.l = omega (arith, c.if-l-eq0.false) in
    c.as_slice.ensures ∙ ap (λ x. x.ra) c.layer_of-layer.ensures.layer ∙ ap (point_a g.F.Field.ops c.args.scripted.now.script.now) next

pub returns-clause-second : goal.returns-clause-second
returns-clause-second g c =
    let next : suc (c.args.l - 1) ≡ c.args.l = omega (arith, c.if-l-eq0.false) in
    c.as_slice-2.ensures ∙ ap (λ x. x.rb) c.layer_of-layer.ensures.layer ∙ ap (point_b g.F.Field.ops c.args.scripted.now.script.now) next

pub returns-clause-first_length : goal.returns-clause-first_length
returns-clause-first_length g c =
    let o = g.F.Field.ops in
    let a = c.args.scripted.now in
    let next : suc (c.args.l - 1) ≡ c.args.l = omega (arith, c.if-l-eq0.false) in
    ap length c.as_slice.ensures ∙ ap (λ x. length x.ra) c.layer_of-layer.ensures.layer ∙ ap (λ l. length (point_a o a.script.now l)) next ∙ point_a_length o a.circuit.now a.script.now a.shape c.args.l c.requires.layer

pub returns-clause-second_length : goal.returns-clause-second_length
returns-clause-second_length g c =
    let o = g.F.Field.ops in
    let a = c.args.scripted.now in
    let next : suc (c.args.l - 1) ≡ c.args.l = omega (arith, c.if-l-eq0.false) in
    ap length c.as_slice-2.ensures ∙ ap (λ x. length x.rb) c.layer_of-layer.ensures.layer ∙ ap (λ l. length (point_b o a.script.now l)) next ∙ point_b_length o a.circuit.now a.script.now a.shape c.args.l c.requires.layer
