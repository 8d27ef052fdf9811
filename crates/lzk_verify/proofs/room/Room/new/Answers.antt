use Rattle.lzk_verify.proofs.CombinedRows.{factors_are}
use Rattle.lzk_verify.proofs.room.Room.new.Goals as goal

pub returns-clause-rooms : goal.returns-clause-rooms
returns-clause-rooms g c = record {
  combined = factors_are c.args.plan.now.circuit.now c.args.plan.now.params c.in-Ok-new-3.linear.combined c.args.plan.now.are c.args.plan.now.bounded c.in-Ok-new-3.ensures.factors;
  answers = c.in-Ok-new.ensures.answers;
  inverses = c.in-Ok-new.ensures.inverses;
  nodes = c.in-Ok.ensures;
  rows = c.in-Ok-new-2.ensures.rows;
  products = c.in-Ok-new-2.ensures.products;
}

pub returns-clause-forms : goal.returns-clause-forms
returns-clause-forms g c = c.in-Ok-new-3.ensures.forms

pub returns-clause-factors : goal.returns-clause-factors
returns-clause-factors g c = c.in-Ok-new-3.ensures.factors
