use Rattle.std.proofs.Common.{subst}
use Rattle.lzk_accept.specs.Kept.{AreRest}
use Rattle.lzk_accept.proofs.factored.combine_factored.Goals as goal

pub filled_inputs-skip-requires-clause-rows : goal.filled_inputs-skip-requires-clause-rows
filled_inputs-skip-requires-clause-rows g c κs within = c.requires.room.rows

pub rest_forms-requires-clause-skip : goal.rest_forms-requires-clause-skip
rest_forms-requires-clause-skip g c κs within = c.filled_inputs-skip.ensures.few

pub rest_forms-requires-clause-made : goal.rest_forms-requires-clause-made
rest_forms-requires-clause-made g c κs within = c.requires.forms

pub fill-requires-clause-challenges : goal.fill-requires-clause-challenges
fill-requires-clause-challenges g c κs within = c.requires.challenges

pub fill-requires-clause-forms : goal.fill-requires-clause-forms
fill-requires-clause-forms g c κs within = c.rest_forms.ensures.made

pub fill-requires-clause-room : goal.fill-requires-clause-room
fill-requires-clause-room g c κs within = c.requires.room

pub returns-clause-forms : goal.returns-clause-forms
returns-clause-forms g c = c.fill.ensures.forms

pub returns-clause-room : goal.returns-clause-room
returns-clause-room g c = c.fill.ensures.room

pub returns-clause-combined : goal.returns-clause-combined
returns-clause-combined g c =
    let f = g.F.Field in
    let public = c.args.public.now in
    let messages = c.args.messages.now in
    let forms = c.rest_forms.new.forms in
    c.fill.ensures.combined public messages
    (subst (λ skip. AreRest f.ops f.coding.element c.args.circuit.now public c.args.script.now messages skip forms.forms forms.own) c.filled_inputs-skip.ensures.number c.rest_forms.ensures.rest)

pub returns-clause-wanted : goal.returns-clause-wanted
returns-clause-wanted g c =
    let f = g.F.Field in
    let public = c.args.public.now in
    let messages = c.args.messages.now in
    let forms = c.rest_forms.new.forms in
    c.fill.ensures.wanted public messages
    (subst (λ skip. AreRest f.ops f.coding.element c.args.circuit.now public c.args.script.now messages skip forms.forms forms.own) c.filled_inputs-skip.ensures.number c.rest_forms.ensures.rest)
