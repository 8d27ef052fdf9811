use Rattle.std.proofs.Common.{◌≡◌, ℕ, ◌+◌, ◌^◌, ◌≤◌, ◌∙◌, length, take, ap, arith, subst, sym}
use Rattle.std.proofs.lemmas.List.{length-take, length-take-le}
use Rattle.lzk_sumcheck_rounds.specs.Rows.{round_at}
use Rattle.lzk_sumcheck.specs.States.{State, bind_state, total}
use Rattle.lzk_sumcheck_rounds.specs.Tables.{AreKept}
use Rattle.lzk_sumcheck_rounds.proofs.TableLaws.{round-kept, matching-same, whole-size}
use Rattle.lzk_sumcheck_prover.proofs.summing.sums.Goals as goal

pub returns-clause-value : goal.returns-clause-value
returns-clause-value g c =
    let m = g.F.Field in
    let o = m.ops in
    let sums = rw (c.deref.ensures.value, c.deref-2.ensures.value, c.deref-3.ensures.value, c.deref-4.ensures.value) at c.sum_round.ensures in
    subst (λ v. (j k : ℕ) (st : State g.row.F.Denot) → AreKept o (j + 1) k st v → length v.first ≤ 2 ^ (j + 1) → length v.second ≤ 2 ^ k → (t : g.row.F.Denot) → round_at o c.sum_round.result t ≡ total o (bind_state o t st))
    c.tables.view_is (λ j k st h fits room t. round-kept o m.laws.ring j k st _ _ _ _ _ _ c.sum_round.result c.tables.invariant.1 sums h fits room t)

pub invariant_of-round : goal.invariant_of-round
invariant_of-round g c =
    let i = c.tables.inside in
    record {
      matching = matching-same i.of_a (take i.pair_count i.pairs.items) (take i.pair_count c.deref-4.result.now) (take i.linear_count i.linear.items) (take i.linear_count c.deref.result.now)
          (take i.first_count i.first.items) (take i.first_count c.deref-2.result.now) (take i.second_count i.second.items) (take i.second_count c.deref-3.result.now)
          (ap (take i.pair_count) c.deref-4.ensures.value) (ap (take i.linear_count) c.deref.ensures.value) (ap (take i.first_count) c.deref-2.ensures.value) (ap (take i.second_count) c.deref-3.ensures.value)
          c.tables.invariant.1;
    }

pub sum_round-requires-after_bounds : goal.sum_round-requires-after_bounds
sum_round-requires-after_bounds g c =
    let i = c.tables.inside in
    omega (arith, length-take i.first_count c.deref-2.result.now, ap length c.deref-2.ensures.value, c.tables.invariant.0.rows_places, ap length c.deref_mut.ensures.value)

pub invariant_of-tables : goal.invariant_of-tables
invariant_of-tables g c =
    let i = c.tables.inside in
    let r = c.tables.invariant.0 in (
      record {
        pairs = r.pairs;
        linear = r.linear;
        first = r.first;
        second = r.second;
        linear_places = r.linear_places;
        second_places = r.second_places;
        rows_places = whole-size i.rows c.deref_mut.result.now c.sum_round.new.rows c.deref_mut.ensures.value c.sum_round.auto.rows ∙ r.rows_places;
        few = r.few;
      },
      c.tables.invariant.1,
    )

pub returns-clause-same : goal.returns-clause-same
returns-clause-same g c = c.tables.view_is

pub slice_bounds-round-end : goal.slice_bounds-round-end
slice_bounds-round-end g c = sym (length-take-le c.tables.inside.linear_count c.deref.result.now (omega (arith, c.tables.invariant.0.linear, ap length c.deref.ensures.value)))

pub slice_bounds-round-end-2 : goal.slice_bounds-round-end-2
slice_bounds-round-end-2 g c = sym (length-take-le c.tables.inside.first_count c.deref-2.result.now (omega (arith, c.tables.invariant.0.first, ap length c.deref-2.ensures.value)))

pub slice_bounds-round-end-3 : goal.slice_bounds-round-end-3
slice_bounds-round-end-3 g c = sym (length-take-le c.tables.inside.second_count c.deref-3.result.now (omega (arith, c.tables.invariant.0.second, ap length c.deref-3.ensures.value)))

pub slice_bounds-round-end-4 : goal.slice_bounds-round-end-4
slice_bounds-round-end-4 g c = sym (length-take-le c.tables.inside.pair_count c.deref-4.result.now (omega (arith, c.tables.invariant.0.pairs, ap length c.deref-4.ensures.value)))
