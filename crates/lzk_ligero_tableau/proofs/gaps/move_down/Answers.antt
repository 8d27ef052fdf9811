use Rattle.std.proofs.Common.{◌≡◌, ◌<◌, ◌+◌, ℕ, length, refl, sym, ap, ◌∙◌, arith}
use Rattle.std.specs.Prelude.{slice_set}
use Rattle.std.proofs.lemmas.List.{get_or_default, get_or-set_same, get_or-set_other}
use native.Mathlib.Decide.{dec_lt}
use Rattle.lzk_field.specs.Sums.{entry}
use Rattle.lzk_ligero_tableau.proofs.gaps.move_down.Goals as goal

pub loop-k-init : goal.loop-k-init
loop-k-init g c = record { moved = λ i h. absurd (omega (arith, h)); before = λ j h. refl; behind = λ j h. refl }

pub bounds-table-from : goal.bounds-table-from
bounds-table-from g c = omega (arith, c.requires.inside, c.loop-k-test.true, c.loop-k.auto.table)

pub loop-k-preserved : goal.loop-k-preserved
loop-k-preserved g c =
    let o = g.F.Field.ops in
    let l = c.loop-k in
    let a = c.args in
    let x = c.index-table-from.result in
    let from : a.from + l.k < length l.table = omega (arith, c.requires.inside, c.loop-k-test.true, l.auto.table) in
    let to : a.to + l.k < length l.table = omega (arith, from, c.requires.down) in
    let own : x ≡ entry o a.table.now (a.from + l.k) =
    c.index-table-from.is ∙ get_or_default l.table (a.from + l.k) x o.zero from ∙ l.invariant.behind (a.from + l.k) (omega (arith, c.requires.down)) in
    record {
      moved = λ i h.
          elim (dec_lt i l.k) [
            | yes q ↦ get_or-set_other l.table (a.to + l.k) (a.to + i) x o.zero (λ e. omega (arith, e, q)) ∙ l.invariant.moved i q
            | no q ↦
                let same : i ≡ l.k = omega (arith, h, q) in
                ap (λ (n : ℕ). entry o (slice_set l.table (a.to + l.k) x) (a.to + n)) same ∙ get_or-set_same l.table (a.to + l.k) x o.zero to ∙ own
                ∙ ap (λ (n : ℕ). entry o a.table.now (a.from + n)) (sym same)
          ];
      before = λ j h. get_or-set_other l.table (a.to + l.k) j x o.zero (λ e. omega (arith, e, h)) ∙ l.invariant.before j h;
      behind = λ j h. get_or-set_other l.table (a.to + l.k) j x o.zero (λ e. omega (arith, e, h)) ∙ l.invariant.behind j (omega (arith, h));
    }

pub returns-clause-length : goal.returns-clause-length
returns-clause-length g c = c.loop-k.auto.table

pub returns-clause-moved : goal.returns-clause-moved
returns-clause-moved g c = λ k h. c.loop-k.invariant.moved k (omega (arith, h, c.loop-k-test.false))

pub returns-clause-before : goal.returns-clause-before
returns-clause-before g c = c.loop-k.invariant.before

pub returns-clause-behind : goal.returns-clause-behind
returns-clause-behind g c = λ j h. c.loop-k.invariant.behind j (omega (arith, h, c.loop-k.auto.k-end))
