use Rattle.std.proofs.Common.{◌≡◌, ◌/◌, ◌+◌, ◌%◌, length, take, ap, ◌∙◌, sym, arith, subst}
use Rattle.std.specs.Prelude.{true, false, not}
use Rattle.std.proofs.lemmas.List.{take_all}
use Rattle.lzk_field.specs.Sums.{minus}
use Rattle.lzk_sumcheck_rounds.specs.Rows.{linear_at}
use Rattle.lzk_sumcheck.specs.States.{bound}
use Rattle.lzk_sumcheck_rounds.proofs.KeptLaws.{linear-bound_a, linear-bound_b, bound-taken}
use Rattle.lzk_sumcheck_rounds.proofs.kept.bind_linear.Goals as goal

pub returns-then-of_a-clause-entries : goal.returns-then-of_a-clause-entries
returns-then-of_a-clause-entries g c = λ i j.
    let m = g.F.Field in
    let o = m.ops in
    let a = c.args in
    let list = a.linear.now in
    let scale : c.mul.result ≡ o.times a.scale (minus o o.one a.x) = c.mul.ensures ∙ ap (o.times a.scale) (c.sub.ensures ∙ ap (λ w. minus o w a.x) c.one.ensures) in
    subst (λ q. linear_at o (not q) c.mul.result (take (length list) list) j i ≡ bound o a.x (λ k. linear_at o q a.scale list k j) i) (sym c.if-of_a.true)
    (ap (λ xs. linear_at o false c.mul.result xs j i) (take_all (length list) list (omega arith)) ∙ ap (λ w. linear_at o false w list j i) scale ∙ linear-bound_a o m.laws.ring a.scale a.x list i j)

pub returns-else-of_a-clause-entries : goal.returns-else-of_a-clause-entries
returns-else-of_a-clause-entries g c = λ i j.
    let m = g.F.Field in
    let o = m.ops in
    let a = c.args in
    let list = a.linear.now in
    let new = c.bind_table.new.table in
    let half = length list / 2 + length list % 2 in
    let e = c.bind_table.ensures in
    let taken = bound-taken o m.laws.ring list new half a.x i (omega arith) (omega (arith, c.bind_table.auto.table)) e.entries in
    subst (λ q. linear_at o (not q) a.scale (take c.bind_table.result new) j i ≡ bound o a.x (λ k. linear_at o q a.scale list k j) i) (sym c.if-of_a.false)
    (ap (λ n. linear_at o true a.scale (take n new) j i) e.half ∙ linear-bound_b o m.laws.ring a.scale a.x list (take half new) i j taken)
