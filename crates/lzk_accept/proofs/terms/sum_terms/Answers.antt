use Rattle.std.proofs.Common.{◌≡◌, sym, ap, ◌∙◌, subst, arith}
use Rattle.std.specs.Prelude.{Some}
use Rattle.std.proofs.lemmas.Option.{slice_get-get_or}
use Rattle.lzk_field.specs.Sums.{entry}
use Rattle.lzk_circuit.specs.Sums.{sum_list}
use Rattle.lzk_accept.specs.Walks.{counted, counted_so_far}
use Rattle.lzk_accept.proofs.TermWalks.{walk_starts, walk_more, walk_ends}
use Rattle.lzk_accept.proofs.terms.sum_terms.Goals as goal

pub loop-i-init : goal.loop-i-init
loop-i-init g c =
    let o = g.F.Field.ops in
    let first = c.args.weighed.now.first.now in
    walk_starts o g.F.Field.laws.ring c.args.beta c.args.weighed.now.weights.now first c.args.weighed.now.second.now c.args.weighed.now.terms.now (entry o first 0)
    (record { total = c.zero.result; wire = 0; linear = c.zero-2.result; inner = c.zero-3.result }) c.zero.ensures c.zero-2.ensures c.zero-3.ensures

pub with_term-walk-requires-clause-a : goal.with_term-walk-requires-clause-a
with_term-walk-requires-clause-a g c κs within =
    let t = c.index-terms-i.result in
    (c.args.weighed.now.placed c.loop-i.i t (slice_get-get_or c.args.weighed.now.terms.now c.loop-i.i t c.loop-i-test.true ∙ ap Some (sym c.index-terms-i.is))).1

pub with_term-walk-requires-clause-b : goal.with_term-walk-requires-clause-b
with_term-walk-requires-clause-b g c κs within =
    let t = c.index-terms-i.result in
    (c.args.weighed.now.placed c.loop-i.i t (slice_get-get_or c.args.weighed.now.terms.now c.loop-i.i t c.loop-i-test.true ∙ ap Some (sym c.index-terms-i.is))).2

pub loop-i-preserved : goal.loop-i-preserved
loop-i-preserved g c =
    let o = g.F.Field.ops in
    let t = c.index-terms-i.result in
    let ts = c.args.weighed.now.terms.now in
    let weights = c.args.weighed.now.weights.now in
    let first = c.args.weighed.now.first.now in
    let second = c.args.weighed.now.second.now in
    let z = entry o first 0 in
    let walk = c.loop-i.walk in
    let there = subst (λ b. counted_so_far o weights b c.at_wire-there.result ≡ counted_so_far o weights b walk) c.entry_at-base.ensures c.at_wire-there.ensures.sum in
    walk_more o g.F.Field.laws.ring c.args.beta weights first second ts (counted_so_far o weights z walk) (counted_so_far o weights z c.with_term-walk.result)
    (sum_list o ts (counted o c.args.beta weights first second)) c.loop-i.i t c.loop-i-test.true c.index-terms-i.is
    (c.with_term-walk.ensures.sum weights ∙ ap (λ x. o.plus x (counted o c.args.beta weights first second t)) there) c.loop-i.invariant

pub returns : goal.returns
returns g c =
    let o = g.F.Field.ops in
    let ts = c.args.weighed.now.terms.now in
    let weights = c.args.weighed.now.weights.now in
    let first = c.args.weighed.now.first.now in
    c.summed.ensures ∙ ap (λ b. counted_so_far o weights b c.loop-i.walk) c.entry_at-base.ensures
    ∙ walk_ends o g.F.Field.laws.ring c.args.beta weights first c.args.weighed.now.second.now ts (counted_so_far o weights (entry o first 0) c.loop-i.walk) (sum_list o ts (counted o c.args.beta weights first c.args.weighed.now.second.now)) c.loop-i.i (omega arith) c.loop-i.invariant
