use Rattle.std.proofs.Common.{List, sym, subst, ap, ◌∙◌}
use Rattle.lzk_layout.specs.Sizes.{params_of}
use Rattle.lzk_accept.specs.Challenges.{Transcript}
use Rattle.lzk_accept.specs.Checks.{coefficient_of, combined_of, combined_row_of, wanted_of}
use Rattle.lzk_accept.specs.Factored.{HasRoomFor, GivesCombined}
use Rattle.lzk_verify.specs.Desk.{Rooms, AreAnswers, AreRows}
use Rattle.lzk_verify.specs.Kept.{messages_in}
use Rattle.lzk_verify.proofs.CombinedRows.{rows_are, factors_are}
use Rattle.lzk_verify.proofs.WeightedAnswers.{answers_long}
use Rattle.lzk_layout.specs.declared.params.Params.{Params}
use Rattle.lzk_sumcheck.specs.Script as sumcheck
use Rattle.lzk_accept.specs.Challenges as accept
use Rattle.lzk_accept.specs.Kept.{AreFormsOf}
use Rattle.lzk_verify.proofs.room.Room.prepare.Goals as goal

pub weigh_rows-requires-clause-factors : goal.weigh_rows-requires-clause-factors
weigh_rows-requires-clause-factors g c κs within =
    let plan = c.args.sent.now.plan.now in
    factors_are plan.circuit.now plan.params c.combine_factored-wanted.new.factored plan.are plan.bounded c.combine_factored-wanted.ensures.room

pub returns-clause-rooms : goal.returns-clause-rooms
returns-clause-rooms g c =
    let f = g.F.Field in
    let p = c.args.sent.now.plan.now.params in
    record {
      combined = c.weigh_rows.ensures.factors;
      answers = subst (AreAnswers p) (sym c.set.ensures) (answers_long f.ops f.coding.element p c.args.sent.now.plan.now.bounded c.args.sent.now.elements.now c.args.sent.now.all);
      inverses = ap (λ (r : Rooms g.row.F.Denot). r.inverses) c.self.view_is ∙ c.requires.rooms.inverses;
      nodes = ap (λ (r : Rooms g.row.F.Denot). r.nodes) c.self.view_is ∙ c.requires.rooms.nodes;
      rows = ap (λ (r : Rooms g.row.F.Denot). r.rows) c.self.view_is ∙ c.requires.rooms.rows;
      products = ap (λ (r : Rooms g.row.F.Denot). r.products) c.self.view_is ∙ c.requires.rooms.products;
    }

pub returns-clause-rows : goal.returns-clause-rows
returns-clause-rows g c =
    let f = g.F.Field in
    let o = f.ops in
    let plan = c.args.sent.now.plan.now in
    let w = plan.circuit.now in
    let d = c.args.drawn.now in
    let public = c.args.public.now in
    let messages = messages_in plan.params c.args.sent.now.elements.now in
    let factored = c.combine_factored-wanted.new.factored in
    let given = subst (λ (ms : List g.row.F.Denot). GivesCombined o (params_of w) factored (combined_of o f.coding.element w public c.drawn.inside.script ms c.drawn.inside.challenges)) c.messages_of.ensures.value c.combine_factored-wanted.ensures.combined in
    c.weigh_rows.ensures.rows _
    (subst (λ q. AreRows o q factored (combined_row_of o f.coding.element w public d.script messages d.challenges)) (sym plan.are)
    (rows_are o w d.challenges (coefficient_of o f.coding.element w public d.script messages) factored
    (subst (λ (t : Transcript g.row.F.Denot). GivesCombined o (params_of w) factored (combined_of o f.coding.element w public t.script messages t.challenges)) c.drawn.view_is given)))

pub returns-clause-wanted : goal.returns-clause-wanted
returns-clause-wanted g c =
    let f = g.F.Field in
    let w = c.args.sent.now.plan.now.circuit.now in
    let view = c.drawn.view_is in
    c.combine_factored-wanted.ensures.wanted
    ∙ (λ i. wanted_of f.ops f.coding.element w c.args.public.now (view i).script (c.messages_of.ensures.value i) (view i).challenges)

pub combine_factored-wanted-requires-clause-public : goal.combine_factored-wanted-requires-clause-public
combine_factored-wanted-requires-clause-public g c κs within = c.requires.public

pub combine_factored-wanted-requires-clause-script : goal.combine_factored-wanted-requires-clause-script
combine_factored-wanted-requires-clause-script g c κs within =
    subst (λ (t : Transcript g.row.F.Denot). sumcheck.HasShape c.args.sent.now.plan.now.circuit.now t.script) (sym c.drawn.view_is) c.requires.drawn.script

pub combine_factored-wanted-requires-clause-messages : goal.combine_factored-wanted-requires-clause-messages
combine_factored-wanted-requires-clause-messages g c κs within = c.messages_of.ensures.length ∙ ap (λ (p : Params). p.nsum) c.args.sent.now.plan.now.are

pub combine_factored-wanted-requires-clause-challenges : goal.combine_factored-wanted-requires-clause-challenges
combine_factored-wanted-requires-clause-challenges g c κs within =
    subst (λ (z : Params × Transcript g.row.F.Denot). accept.HasShape z.0 z.1.challenges) (λ i. (c.args.sent.now.plan.now.are i, sym c.drawn.view_is i)) c.requires.drawn.challenges

pub combine_factored-wanted-requires-clause-forms : goal.combine_factored-wanted-requires-clause-forms
combine_factored-wanted-requires-clause-forms g c κs within =
    subst (λ (r : Rooms g.row.F.Denot). AreFormsOf g.F.Field.ops c.args.sent.now.plan.now.circuit.now r.forms) (sym c.self.view_is) c.requires.forms

pub combine_factored-wanted-requires-clause-room : goal.combine_factored-wanted-requires-clause-room
combine_factored-wanted-requires-clause-room g c κs within =
    subst (λ (r : Rooms g.row.F.Denot). HasRoomFor c.args.sent.now.plan.now.circuit.now r.combined) (sym c.self.view_is) c.requires.factors

pub weigh_rows-requires-clause-rows : goal.weigh_rows-requires-clause-rows
weigh_rows-requires-clause-rows g c κs within = ap (λ (r : Rooms g.row.F.Denot). r.rows) c.self.view_is ∙ c.requires.rooms.rows

pub set-requires-clause-room : goal.set-requires-clause-room
set-requires-clause-room g c κs within = subst (λ (r : Rooms g.row.F.Denot). AreAnswers c.args.sent.now.plan.now.params r.answers) (sym c.self.view_is) c.requires.rooms.answers

pub set-requires-clause-rows : goal.set-requires-clause-rows
set-requires-clause-rows g c κs within = ap (λ (r : Rooms g.row.F.Denot). r.rows) c.self.view_is ∙ c.requires.rooms.rows

pub set-requires-clause-products : goal.set-requires-clause-products
set-requires-clause-products g c κs within = ap (λ (r : Rooms g.row.F.Denot). r.products) c.self.view_is ∙ c.requires.rooms.products

pub returns-clause-forms : goal.returns-clause-forms
returns-clause-forms g c = c.combine_factored-wanted.ensures.forms

pub returns-clause-factors : goal.returns-clause-factors
returns-clause-factors g c = c.weigh_rows.ensures.room c.args.sent.now.plan.now.circuit.now c.combine_factored-wanted.ensures.room

pub returns-clause-answers : goal.returns-clause-answers
returns-clause-answers g c = c.set.ensures
