use Rattle.std.proofs.Common.{◌/◌, ◌%◌, cond, sym, ap, ◌∙◌}
use Rattle.std.proofs.lemmas.Bool.{eq-eqb, ne_eqb}
use Rattle.lzk_field.specs.Sums.{entry}
use Rattle.lzk_accept.proofs.rounds.round_challenge.Goals as goal

pub returns-then-n-eq0 : goal.returns-then-n-eq0
returns-then-n-eq0 g c =
    let o = g.F.Field.ops in
    let n = c.args.n in
    let s = c.args.layer.now in
    c.entry_at.ensures ∙ ap (λ xs. entry o xs (n / 2)) c.as_slice.ensures ∙ sym (ap (λ b. cond b (entry o s.ra (n / 2)) (entry o s.rb (n / 2))) (eq-eqb (n % 2) 0 c.if-n-eq0.true))

pub returns-else-n-eq0 : goal.returns-else-n-eq0
returns-else-n-eq0 g c =
    let o = g.F.Field.ops in
    let n = c.args.n in
    let s = c.args.layer.now in
    c.entry_at-else-n-eq0.ensures ∙ ap (λ xs. entry o xs (n / 2)) c.as_slice-else-n-eq0.ensures
    ∙ sym (ap (λ b. cond b (entry o s.ra (n / 2)) (entry o s.rb (n / 2))) (ne_eqb (n % 2) 0 c.if-n-eq0.false))
