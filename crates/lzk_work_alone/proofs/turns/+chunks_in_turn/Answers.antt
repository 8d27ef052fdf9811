use Rattle.std.proofs.Common.{◌/◌, ◌<◌, refl, arith}
use borrow.Author.Rules.{rules}
use Rattle.std.specs.Fork.{AcceptsAt, ChangesAt}
use Rattle.lzk_work_alone.proofs.Halving.{covers_one, at_only, by_only, by_both, ready_halves}
use Rattle.lzk_work_alone.proofs.turns.+chunks_in_turn.Goals as goal

pub f-requires : goal.f-requires
f-requires g t c =
    let one = covers_one _ _ _ c.if-count-eq1.true c.requires.covers in
    at_only (AcceptsAt g.F.Fn c.args.f.now) c.args.base c.args.size c.args.s.now one.0 one.1 c.requires.each _ refl

pub returns-then-count-eq1 : goal.returns-then-count-eq1
returns-then-count-eq1 g t c =
    by_only (ChangesAt g.F.Fn c.args.f.now) c.args.base c.args.size c.args.s.now c.f.new.arg3
    (covers_one _ _ _ c.if-count-eq1.true c.requires.covers).1 (search rules) (search rules)

pub chunks_in_turn-requires : goal.chunks_in_turn-requires
chunks_in_turn-requires g t c κs within =
    let cut = c.split_at_mut-a in let low = c.args.count / 2 in
    let both = ready_halves (AcceptsAt g.F.Fn c.args.f.now) c.args.base c.args.size c.args.count low c.args.s.now cut.result.0.now cut.result.1.now
    (omega (arith, c.requires.covers.0)) (omega (arith, c.requires.covers.0)) cut.ensures.value cut.ensures.front_len c.requires in
    let some : 0 < c.args.count = c.requires.covers.0 in
    (search rules, (within.0, (within.1, both.0)))

pub chunks_in_turn-requires-2 : goal.chunks_in_turn-requires-2
chunks_in_turn-requires-2 g t c κs within =
    let cut = c.split_at_mut-a in let low = c.args.count / 2 in
    let both = ready_halves (AcceptsAt g.F.Fn c.args.f.now) c.args.base c.args.size c.args.count low c.args.s.now cut.result.0.now cut.result.1.now
    (omega (arith, c.requires.covers.0)) (omega (arith, c.requires.covers.0)) cut.ensures.value cut.ensures.front_len c.requires in
    let some : 0 < c.args.count = c.requires.covers.0 in
    (search rules, (within.0, (within.1, both.1)))

pub returns : goal.returns
returns g t c =
    let cut = c.split_at_mut-a in
    by_both (ChangesAt g.F.Fn c.args.f.now) c.args.base c.args.size (c.args.count / 2) _ _ _ _ _ _
    c.requires.covers.1 cut.ensures.value cut.ensures.front_len refl c.chunks_in_turn.ensures c.chunks_in_turn-2.ensures
