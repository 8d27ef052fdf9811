use Rattle.std.proofs.Common.{◌≤◌, ◌+◌, ◌-◌, length, arith}
use Rattle.lzk_sumcheck_rounds.proofs.MergeLaws.{add_sums, add_within, push_sums, push_within, drop-set}
use Rattle.lzk_sumcheck.proofs.ProvingLaws.{times-less}
use Rattle.lzk_sumcheck_rounds.proofs.pairs.absorb.Goals as goal

pub returns-then-last-p-2-clause-count : goal.returns-then-last-p-2-clause-count
returns-then-last-p-2-clause-count g c = omega arith

pub returns-then-last-p-2-clause-rest : goal.returns-then-last-p-2-clause-rest
returns-then-last-p-2-clause-rest g c =
    let m = g.F.Field in
    let k = c.args.kept in
    drop-set m.ops m.laws.ring (k + 1) (k - 1) c.args.pairs.now _ (omega (arith, c.if-kept-gt0.true))

pub returns-then-last-p-2-clause-sums : goal.returns-then-last-p-2-clause-sums
returns-then-last-p-2-clause-sums g c = λ i j.
    let m = g.F.Field in
    let fits : c.args.kept ≤ length c.args.pairs.now = omega (arith, c.requires) in
    add_sums m.ops m.laws.ring c.args.kept c.args.pairs.now c.index-pairs-kept.result c.args.p c.sum_of.result i j c.if-kept-gt0.true fits c.index-pairs-kept.is c.if-last-p.true c.if-last-p-2.true c.sum_of.ensures

pub returns-then-last-p-2-clause-within : goal.returns-then-last-p-2-clause-within
returns-then-last-p-2-clause-within g c = λ n k h hp.
    let m = g.F.Field in
    let fits : c.args.kept ≤ length c.args.pairs.now = omega (arith, c.requires) in
    add_within m.ops m.laws.ring c.args.kept c.args.pairs.now c.index-pairs-kept.result c.args.p c.sum_of.result n k c.if-kept-gt0.true fits h hp

pub returns-clause-count : goal.returns-clause-count
returns-clause-count g c = omega arith

pub returns-clause-rest : goal.returns-clause-rest
returns-clause-rest g c = let m = g.F.Field in drop-set m.ops m.laws.ring (c.args.kept + 1) c.args.kept c.args.pairs.now c.args.p (omega arith)

pub returns-clause-sums : goal.returns-clause-sums
returns-clause-sums g c = λ i j. let m = g.F.Field in push_sums m.ops m.laws.ring c.args.kept c.args.pairs.now c.args.p i j c.requires

pub returns-clause-within : goal.returns-clause-within
returns-clause-within g c = λ n k h hp. let m = g.F.Field in push_within m.ops m.laws.ring c.args.kept c.args.pairs.now c.args.p n k c.requires h hp

pub overflow_sub-last : goal.overflow_sub-last
overflow_sub-last g c = omega (arith, c.if-kept-gt0.true)

pub bounds-pairs-kept : goal.bounds-pairs-kept
bounds-pairs-kept g c = omega (arith, c.requires, c.if-kept-gt0.true)

pub overflow_sub-kept : goal.overflow_sub-kept
overflow_sub-kept g c = omega (arith, c.if-kept-gt0.true)

pub bounds-pairs-kept-then-last-p-2 : goal.bounds-pairs-kept-then-last-p-2
bounds-pairs-kept-then-last-p-2 g c = omega (arith, c.requires, c.if-kept-gt0.true)

pub bounds-pairs-kept-2 : goal.bounds-pairs-kept-2
bounds-pairs-kept-2 g c = c.requires

pub offset_bounds-pairs-kept : goal.offset_bounds-pairs-kept
offset_bounds-pairs-kept g c = record { fits = times-less (c.args.kept - 1) (length c.args.pairs.now) _ _ (omega (arith, c.requires, c.if-kept-gt0.true)) (omega arith) }

pub offset_bounds-pairs-kept-then-last-p-2 : goal.offset_bounds-pairs-kept-then-last-p-2
offset_bounds-pairs-kept-then-last-p-2 g c = record { fits = times-less (c.args.kept - 1) (length c.args.pairs.now) _ _ (omega (arith, c.requires, c.if-kept-gt0.true)) (omega arith) }

pub offset_bounds-pairs-kept-2 : goal.offset_bounds-pairs-kept-2
offset_bounds-pairs-kept-2 g c = record { fits = times-less c.args.kept (length c.args.pairs.now) _ _ c.requires (omega arith) }
