use Rattle.std.proofs.Common.{◌≡◌, ◌+◌, ◌<◌, length, refl, ap, ◌∙◌, inl, inr, arith}
use Rattle.std.specs.Prelude.{slice_set}
use Rattle.std.proofs.lemmas.Bool.{cases_eq}
use Rattle.std.proofs.lemmas.List.{get_or-set_same, get_or-set_other, length-set}
use Rattle.lzk_field.specs.Sums.{entry}
use Rattle.lzk_accept.proofs.linear.set_privates.Goals as goal

pub loop-k-init : goal.loop-k-init
loop-k-init g c = record { length = refl; entries = λ i l h. absurd (omega (arith, l, h)); after = λ i h. refl }

pub bounds-own-k : goal.bounds-own-k
bounds-own-k g c = omega (arith, c.loop-k-test.true, c.privates-privates.ensures, c.requires.room, c.loop-k.invariant.length)

pub loop-k-preserved : goal.loop-k-preserved
loop-k-preserved g c =
    let o = g.F.Field.ops in
    let p = c.args.prepared.now in
    let own = c.loop-k.own in
    let k = c.loop-k.k in
    let inv = c.loop-k.invariant in
    let x = c.joined.result in
    let inside : k < length own = omega (arith, c.loop-k-test.true, c.privates-privates.ensures, c.requires.room, inv.length) in
    record {
      length = length-set own k x ∙ inv.length;
      entries = λ i l h. elim (cases_eq i k) [
        | inl e ↦ ap (entry o (slice_set own k x)) e ∙ get_or-set_same own k x o.zero inside ∙ c.joined.ensures
            ∙ ap (λ n. o.plus (entry o p.first.now n) (o.times p.exchange.scripted.script.now.gamma (entry o p.second.now n))) (let n : 1 + c.publics-publics.result + k ≡ 1 + c.publics-publics.result + i = omega (arith, e) in n)
        | inr other ↦ get_or-set_other own k i x o.zero other ∙ inv.entries i l (omega (arith, h, other))
      ];
      after = λ i h. get_or-set_other own k i x o.zero (omega (arith, h)) ∙ inv.after i (omega (arith, h));
    }

pub returns-clause-length : goal.returns-clause-length
returns-clause-length g c = c.loop-k.invariant.length

pub returns-clause-after : goal.returns-clause-after
returns-clause-after g c k h = c.loop-k.invariant.after k (omega (arith, h, c.loop-k-test.false, c.privates-privates.ensures, c.args.prepared.now.few, c.loop-k.auto.k-end))

pub returns-clause-entries : goal.returns-clause-entries
returns-clause-entries g c k h b =
    let o = g.F.Field.ops in
    let p = c.args.prepared.now in
    let e = p.exchange in
    let here : 1 + c.publics-publics.result + k ≡ 1 + e.scripted.circuit.now.publics + k = omega (arith, c.publics-publics.ensures) in
    c.loop-k.invariant.entries k h (omega (arith, b, c.privates-privates.ensures, p.few))
    ∙ ap (λ n. o.plus (entry o p.first.now n) (o.times e.scripted.script.now.gamma (entry o p.second.now n))) here
