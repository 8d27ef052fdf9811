use Rattle.std.proofs.Common.{◌≡◌, arith}
use Rattle.lzk_poly.specs.Extension.{Reach}
use Rattle.lzk_ligero_steps.proofs.Together.{made, first_made, second_made}
use Rattle.lzk_ligero_steps.proofs.parts.make_extenders.Goals as goal

pub make-requires-clause-some : goal.make-requires-clause-some
make-requires-clause-some g c = let b = c.args.plan.now.bounded in omega (arith, b.block, b.wide)

pub make-requires-clause-order : goal.make-requires-clause-order
make-requires-clause-order g c = let b = c.args.plan.now.bounded in omega (arith, b.columns, b.mcol, b.dblock, b.block)

pub make-requires-clause-limit : goal.make-requires-clause-limit
make-requires-clause-limit g c = omega (arith, c.args.plan.now.bounded.ncol)

pub make-requires-2-clause-some : goal.make-requires-2-clause-some
make-requires-2-clause-some g c = let b = c.args.plan.now.bounded in omega (arith, b.dblock, b.block, b.wide)

pub make-requires-2-clause-order : goal.make-requires-2-clause-order
make-requires-2-clause-order g c = omega (arith, c.args.plan.now.bounded.columns)

pub make-requires-2-clause-limit : goal.make-requires-2-clause-limit
make-requires-2-clause-limit g c = omega (arith, c.args.plan.now.bounded.ncol)

pub make-lines-requires-clause-some : goal.make-lines-requires-clause-some
make-lines-requires-clause-some g c = let b = c.args.plan.now.bounded in omega (arith, b.block, b.wide)

pub make-lines-requires-clause-order : goal.make-lines-requires-clause-order
make-lines-requires-clause-order g c = let b = c.args.plan.now.bounded in omega (arith, b.dblock, b.block, b.wide)

pub make-lines-requires-clause-limit : goal.make-lines-requires-clause-limit
make-lines-requires-clause-limit g c = let b = c.args.plan.now.bounded in omega (arith, b.columns, b.ncol)

pub returns : goal.returns
returns g c =
    let p = c.args.plan.now.params in
    let reach = g.X.RowExtend.reach in
    let rows = c.in_ok-short.ensures.first in
    let short : Reach = record { count = p.block; upto = p.ncol } in
    let long : Reach = record { count = p.dblock; upto = p.ncol } in
    let lines : Reach = record { count = p.block; upto = p.dblock } in
    record {
      short = first_made c.both-rows.result _ rows c.make.result (λ x. reach x ≡ short) c.both-rows.ensures.first c.make.ensures.reach;
      long = second_made c.both-rows.result _ rows c.make-2.result (λ x. reach x ≡ long) c.both-rows.ensures.second c.make-2.ensures.reach;
      coefficients = made c.make-lines.result _ (λ x. reach x ≡ lines) c.in_ok-short.ensures.second c.make-lines.ensures.reach;
    }
