use Rattle.std.proofs.Common.{ap, ◌∙◌}
use Rattle.lzk_field.specs.Sums.{minus}
use Rattle.lzk_accept.proofs.linear.last_form.Goals as goal

pub set_privates-requires-clause-room : goal.set_privates-requires-clause-room
set_privates-requires-clause-room g c κs within = c.requires.own

pub returns-clause-length : goal.returns-clause-length
returns-clause-length g c = c.set_privates.ensures.length

pub returns-clause-after : goal.returns-clause-after
returns-clause-after g c = c.set_privates.ensures.after

pub returns-clause-placed : goal.returns-clause-placed
returns-clause-placed g c = let at = c.requires.form in record { start = at.start; end = at.end; above = at.above }

pub returns-clause-form : goal.returns-clause-form
returns-clause-form g c =
    let o = g.F.Field.ops in
    let above = c.args.above in
    let gamma = c.args.prepared.now.exchange.scripted.script.now.gamma in
    record {
      privates = c.set_privates.ensures.entries;
      left = c.neg.ensures ∙ ap o.neg c.one.ensures;
      other = c.neg-2.ensures;
      right = c.neg-3.ensures ∙ ap o.neg (c.sub-2.ensures ∙ ap (minus o c.sub.result) c.mul.ensures ∙ ap (λ x. minus o x (o.times gamma above.second)) (c.sub.ensures
          ∙ ap (λ x. minus o x above.first) c.public_part-known.ensures));
    }
