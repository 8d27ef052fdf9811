use Rattle.std.proofs.lemmas.List.{length-set}
use Rattle.std.proofs.Common.{◌<◌, length, sym, ap, ◌∙◌, subst, arith}
use Rattle.std.specs.Prelude.{slice_set}
use Rattle.lzk_layout.specs.Places.{depth}
use Rattle.lzk_layout.proofs.PlaceLaws.{pads_within}
use Rattle.lzk_sumcheck.specs.Coefficients.{coefficients}
use Rattle.lzk_accept.specs.Kept.{form_at, IsPlacedAt, IsConstraint}
use Rattle.lzk_accept.proofs.KeptLaws.{placed_set, start_after, end_is, last_start, last_end}
use Rattle.lzk_accept.proofs.LinearLaws.{constraints_more, last_is}
use Rattle.lzk_accept.proofs.ShapeLaws.{width_last}
use Rattle.lzk_accept.proofs.WholeLaws.{whole_of, whole_is, whole_last, rest_is}
use Rattle.lzk_accept.proofs.linear.fill_forms.Goals as goal

pub last_form-last-requires-clause-form : goal.last_form-last-requires-clause-form
last_form-last-requires-clause-form g c κs within =
    let o = g.F.Field.ops in
    let w = c.args.prepared.now.exchange.scripted.circuit.now in
    subst (IsPlacedAt w (depth w)) (sym (c.form_of-old.ensures ∙ ap (form_at o c.fill_layers-above.new.forms) c.depth-depth.ensures.depth)) (c.fill_layers-above.ensures.placed.places (depth w) (omega arith))

pub last_form-last-requires-clause-own : goal.last_form-last-requires-clause-own
last_form-last-requires-clause-own g c κs within = omega (arith, c.fill_layers-above.ensures.placed.own)

pub fill_layers-above-requires-clause-placed : goal.fill_layers-above-requires-clause-placed
fill_layers-above-requires-clause-placed g c κs within = c.requires.placed

pub form_of-old-requires-clause-place : goal.form_of-old-requires-clause-place
form_of-old-requires-clause-place g c κs within = omega (arith, c.fill_layers-above.ensures.placed.count, c.depth-depth.ensures.depth)

pub set_form-requires-clause-place : goal.set_form-requires-clause-place
set_form-requires-clause-place g c κs within = omega (arith, c.fill_layers-above.ensures.placed.count, c.depth-depth.ensures.depth)

pub returns-clause-forms_length : goal.returns-clause-forms_length
returns-clause-forms_length g c =
    ap length c.set_form.ensures ∙ length-set c.fill_layers-above.new.forms c.depth-depth.result c.last_form-last.result ∙ c.fill_layers-above.ensures.forms_length

pub returns-clause-own_length : goal.returns-clause-own_length
returns-clause-own_length g c = c.last_form-last.ensures.length ∙ c.fill_layers-above.ensures.own_length

pub returns-clause-placed : goal.returns-clause-placed
returns-clause-placed g c =
    let o = g.F.Field.ops in
    let w = c.args.prepared.now.exchange.scripted.circuit.now in
    let forms = c.fill_layers-above.new.forms in
    let form = c.last_form-last.result in
    let before = c.fill_layers-above.ensures.placed in
    let inside : depth w < length forms = omega (arith, before.count) in
    let put = c.set_form.ensures ∙ ap (λ n. slice_set forms n form) c.depth-depth.ensures.depth in
    record {
      count = ap length put ∙ length-set forms (depth w) form ∙ before.count;
      own = c.last_form-last.ensures.length ∙ before.own;
      places = λ i k. subst (λ fs. IsPlacedAt w i (form_at o fs i)) (sym put) (placed_set w o (depth w) forms form inside c.last_form-last.ensures.placed i (before.places i k));
    }

pub returns-clause-rest : goal.returns-clause-rest
returns-clause-rest g c =
    let f = g.F.Field in
    let o = f.ops in
    let w = c.args.prepared.now.exchange.scripted.circuit.now in
    let s = c.args.prepared.now.exchange.scripted.script.now in
    let ms = c.args.prepared.now.exchange.messages.now in
    let public = c.args.prepared.now.exchange.public.now in
    let q = coefficients o w s in
    let layers = c.fill_layers-above in
    let forms = layers.new.forms in
    let form = c.last_form-last.result in
    let own = c.last_form-last.new.own in
    let skip = c.args.prepared.now.skip in
    let first = c.args.prepared.now.first.now in
    let second = c.args.prepared.now.second.now in
    let whole = whole_of o w s skip own in
    let is = whole_is o w s skip own (omega (arith, c.args.prepared.now.few)) in
    let inside : depth w < length forms = omega (arith, layers.ensures.placed.count) in
    let put = c.set_form.ensures ∙ ap (λ n. slice_set forms n form) c.depth-depth.ensures.depth in
    let at = c.last_form-last.ensures.placed in
    let wide = width_last w in
    rest_is o f.laws.ring f.coding.element w public s ms skip c.set_form.new.forms own c.args.prepared.now.few (returns-clause-placed g c).places
    (λ i k. subst (λ fs. IsConstraint o f.coding.element w q public s ms i whole (form_at o fs i)) (sym put)
    (constraints_more o f.laws.ring f.coding.element w q public s ms (depth w) layers.new.own whole forms form inside (omega arith) (λ i m. layers.ensures.placed.places i (omega arith))
    (λ i m j a b. is.after j (omega (arith, start_after w i m, c.args.prepared.now.few)) (omega (arith, end_is w i m, pads_within w i m)) ∙ c.last_form-last.ensures.after j (omega (arith, start_after w i m)))
    (last_is o f.laws.ring f.coding.element w q public s ms layers.result first second whole form c.depth-depth.ensures.valid.some c.args.prepared.now.exchange.publics layers.ensures.above_a layers.ensures.above_b
    (λ j b. c.args.prepared.now.at.first j (omega (arith, wide))) (λ j b. c.args.prepared.now.at.second j (omega (arith, wide)))
    (at.start ∙ last_start w (depth w) (omega arith)) (at.end ∙ last_end w (depth w) (omega arith)) at.above
    (whole_last o w s public layers.result first second skip own whole form is
    (λ j b. c.args.prepared.now.at.first j (omega (arith, wide))) (λ j b. c.args.prepared.now.at.second j (omega (arith, wide))) c.last_form-last.ensures.form))
    (layers.ensures.constraints public) i k))
