use Rattle.std.proofs.Common.{refl, ◌+◌, ◌<◌, List, length, ap, sym, subst, ◌∙◌, arith}
use Rattle.std.specs.Prelude.{slice_index, slice_set}
use Rattle.lzk_merkle.specs.Leaf.{leaf_of}
use Rattle.lzk_accept.specs.declared.challenges.Challenges.{Challenges}
use Rattle.lzk_accept.specs.Challenges.{Transcript, HasShape}
use Rattle.lzk_verify.specs.Columns.{IsLowDegreeIn, IsLinearIn, IsQuadraticIn, values_of}
use Rattle.lzk_verify.specs.Desk.{WeightedAnswers}
use Rattle.lzk_verify.specs.Kept.{ldt_in, dot_in, head_in, tail_in}
use Rattle.lzk_verify.specs.Leaves.{LeafList}
use Rattle.lzk_verify.proofs.LeastLaws.{noted_at}
use Rattle.lzk_verify.proofs.intake.Intake.check.Goals as goal

pub column-index-requires-after_bounds : goal.column-index-requires-after_bounds
column-index-requires-after_bounds g c κs within = omega (arith, c.requires.lists.columns, c.requires.inside)

pub invariant_of-column : goal.invariant_of-column
invariant_of-column g c = record {
  whole = ap length c.deref.ensures.value ∙ c.requires.lists.column;
  shape = subst (λ (t : Transcript g.row.F.Denot). HasShape c.args.plan.now.params t.challenges) (sym c.drawn.view_is) c.requires.lists.challenges;
}

pub set-requires-clause-inside : goal.set-requires-clause-inside
set-requires-clause-inside g c κs within = omega (arith, c.requires.lists.leaves, c.requires.inside)

pub set-requires-clause-rows : goal.set-requires-clause-rows
set-requires-clause-rows g c κs within = ap length c.deref.ensures.value ∙ c.requires.lists.column ∙ sym c.requires.lists.rows

pub check_column-right-requires-clause-rooms : goal.check_column-right-requires-clause-rooms
check_column-right-requires-clause-rooms g c κs within = c.requires.rooms

pub check_column-right-requires-clause-index : goal.check_column-right-requires-clause-index
check_column-right-requires-clause-index g c κs within =
    subst (λ i. i < c.args.plan.now.params.mcol) (sym c.column-index.ensures) (c.requires.lists.opened.below c.args.k (omega (arith, c.requires.lists.columns, c.requires.inside)))

pub returns-clause-others : goal.returns-clause-others
returns-clause-others g c = refl

pub returns-clause-leaf : goal.returns-clause-leaf
returns-clause-leaf g c =
    let e = g.F.Field.coding in
    let k = c.args.self.now in
    ap (λ (l : LeafList). l.items) c.set.ensures ∙ ap (λ xs. slice_set k.leaves.items c.args.k (leaf_of e.bytes e.number k.nonce xs)) c.deref.ensures.value

pub returns-clause-rows : goal.returns-clause-rows
returns-clause-rows g c = ap (λ (l : LeafList). l.rows) c.set.ensures

pub returns-clause-low_degree : goal.returns-clause-low_degree
returns-clause-low_degree g c = λ is.
    let f = g.F.Field in
    let p = c.args.plan.now.params in
    let k = c.args.self.now in
    let ldt = ldt_in p k.sent.items in
    noted_at (λ (z : List g.row.F.Denot × Challenges g.row.F.Denot) j. IsLowDegreeIn f.ops f.coding.element p z.0 (p.dblock + j) ldt z.1.u) (c.deref.result.now, c.drawn.inside.challenges) (k.column.items, k.drawn.challenges)
    c.column-index.result (slice_index k.drawn.columns c.args.k) k.failing.low_degree c.least.result c.check_column-right.result.low_degree (λ i. (c.deref.ensures.value i, (c.drawn.view_is i).challenges)) c.column-index.ensures c.least.ensures
    (c.check_column-right.ensures.low_degree ldt (ap (λ (a : WeightedAnswers g.row.F.Denot). a.ldt) is))

pub returns-clause-linear : goal.returns-clause-linear
returns-clause-linear g c = λ is lists are.
    let f = g.F.Field in
    let p = c.args.plan.now.params in
    let k = c.args.self.now in
    let dot = dot_in p k.sent.items in
    noted_at (λ (xs : List g.row.F.Denot) j. IsLinearIn f.ops f.coding.element p xs (p.dblock + j) dot lists) c.deref.result.now k.column.items
    c.column-index.result (slice_index k.drawn.columns c.args.k) k.failing.linear c.least-2.result c.check_column-right.result.linear c.deref.ensures.value c.column-index.ensures c.least-2.ensures
    (c.check_column-right.ensures.linear dot lists (ap (λ (a : WeightedAnswers g.row.F.Denot). a.dot) is) are)

pub returns-clause-quadratic : goal.returns-clause-quadratic
returns-clause-quadratic g c = λ is.
    let f = g.F.Field in
    let p = c.args.plan.now.params in
    let k = c.args.self.now in
    let values = values_of f.ops p (head_in p k.sent.items) (tail_in p k.sent.items) in
    noted_at (λ (z : List g.row.F.Denot × Challenges g.row.F.Denot) j. IsQuadraticIn f.ops f.coding.element p z.0 (p.dblock + j) values z.1.v) (c.deref.result.now, c.drawn.inside.challenges) (k.column.items, k.drawn.challenges)
    c.column-index.result (slice_index k.drawn.columns c.args.k) k.failing.quadratic c.least-3.result c.check_column-right.result.quadratic (λ i. (c.deref.ensures.value i, (c.drawn.view_is i).challenges)) c.column-index.ensures c.least-3.ensures
    (c.check_column-right.ensures.quadratic values (ap (λ (a : WeightedAnswers g.row.F.Denot). a.quadratic) is))

pub returns-clause-room : goal.returns-clause-room
returns-clause-room g c = c.check_column-right.ensures.room
