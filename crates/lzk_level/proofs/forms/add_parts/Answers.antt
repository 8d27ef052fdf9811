use Rattle.std.proofs.Common.{◌≡◌, ◌∙◌, ℕ, ◌+◌, ◌++◌, ◌∷◌, [], ap, sym, subst, take, length, arith}
use Rattle.std.proofs.lemmas.List.{take_all, take_more}
use Rattle.lzk_level.specs.Forms.{IsPart, IsSumForm}
use Rattle.lzk_level.proofs.NodeForms.{no-parts}
use Rattle.std.proofs.lemmas.Result.{IfOk-from_err}
use Rattle.std.proofs.lemmas.Bool.{false≢true, true≢false}
use Rattle.lzk_level.proofs.forms.add_parts.Goals as goal

pub loop-j-init : goal.loop-j-init
loop-j-init g c =
    let n = c.args.next.now in
    record {
      sum = subst (IsSumForm g.F.Field.ops n.inputs n.made.now n.depths.now (n.inputs + n.i) n.depth []) (sym c.clear.ensures.items)
          (no-parts g.F.Field.ops g.F.Field.laws.ring n.inputs n.made.now n.depths.now (n.inputs + n.i) n.depth);
      some = λ l. absurd (omega (arith, l, ap length c.clear.ensures.items));
    }

pub is_part_late-requires-after_bounds : goal.is_part_late-requires-after_bounds
is_part_late-requires-after_bounds g c κs within =
    let n = c.args.next.now in
    subst (λ (p : _ × ℕ). IsPart n.depths.now (n.inputs + n.i) n.depth p.1) (sym c.index-parts-j.is) (c.requires c.loop-j.j c.index-parts-j.result c.loop-j-test.true)

pub add_part-requires-after_bounds : goal.add_part-requires-after_bounds
add_part-requires-after_bounds g c κs within =
    let n = c.args.next.now in
    subst (λ (p : _ × ℕ). IsPart n.depths.now (n.inputs + n.i) n.depth p.1) (sym c.index-parts-j.is) (c.requires c.loop-j.j c.index-parts-j.result c.loop-j-test.true)

pub returns-then-is_part_late-clause-many : goal.returns-then-is_part_late-clause-many
returns-then-is_part_late-clause-many g c e =
    let row = c.is_part_late.ensures c.if-is_part_late.true in
    omega (arith, c.loop-j-test.true, c.loop-j.invariant.some (omega (arith, row, ap length c.deref.ensures.value)))

pub loop-j-preserved : goal.loop-j-preserved
loop-j-preserved g c =
    let n = c.args.next.now in
    let parts = c.args.parts.now in
    let j = c.loop-j.j in
    let p = c.index-parts-j.result in
    let more : take j parts ++ p ∷ [] ≡ take (j + 1) parts = ap (λ q. take j parts ++ q ∷ []) c.index-parts-j.is ∙ sym (take_more parts j p c.loop-j-test.true) in
    record {
      sum = subst (λ ps. IsSumForm g.F.Field.ops n.inputs n.made.now n.depths.now (n.inputs + n.i) n.depth ps c.add_part.new.row.items) more (c.in_ok-add_part.ensures (take j parts) c.loop-j.invariant.sum);
      some = λ l. omega arith;
    }

pub returns-clause-all : goal.returns-clause-all
returns-clause-all g c e =
    let n = c.args.next.now in
    subst (λ ps. IsSumForm g.F.Field.ops n.inputs n.made.now n.depths.now (n.inputs + n.i) n.depth ps c.loop-j.row.items) (take_all c.loop-j.j c.args.parts.now (omega (arith, c.loop-j-test.false))) c.loop-j.invariant.sum

pub offset_bounds-parts-j : goal.offset_bounds-parts-j
offset_bounds-parts-j g c = omega (arith, c.loop-j-test.true)

pub bounds-parts-j : goal.bounds-parts-j
bounds-parts-j g c = c.loop-j-test.true

pub returns-then-is_part_late-clause-all : goal.returns-then-is_part_late-clause-all
returns-then-is_part_late-clause-all g c e = absurd (false≢true e)

pub returns-in_err-add_part-clause-all : goal.returns-in_err-add_part-clause-all
returns-in_err-add_part-clause-all g c = IfOk-from_err _ _ c.from_residual.ensures.0

pub returns-in_err-add_part-clause-many : goal.returns-in_err-add_part-clause-many
returns-in_err-add_part-clause-many g c = IfOk-from_err _ _ c.from_residual.ensures.0

pub returns-clause-many : goal.returns-clause-many
returns-clause-many g c e = absurd (true≢false e)
