use Rattle.std.specs.Prelude.{cond}
use Rattle.std.proofs.Common.{ap, ◌∙◌, sym}
use Rattle.std.proofs.lemmas.Bool.{eq-eqb, ne_eqb}
use Rattle.lzk_transcript.specs.Tape.{drawn, after_draw}
use Rattle.lzk_sumcheck.specs.Script.{drawn_beta, after_beta}
use Rattle.lzk_sumcheck.proofs.draws.draw_beta.Goals as goal

pub returns-then-version-eq2-clause-beta : goal.returns-then-version-eq2-clause-beta
unfolding drawn_beta
returns-then-version-eq2-clause-beta g c =
    let m = g.F.Field in
    c.draw.ensures.value ∙ sym (ap (λ b. cond b (m.coding.element (drawn c.args.tape.now)) m.ops.zero) (eq-eqb c.args.version 2 c.if-version-eq2.true))

pub returns-then-version-eq2-clause-after : goal.returns-then-version-eq2-clause-after
unfolding after_beta
returns-then-version-eq2-clause-after g c =
    c.draw.ensures.after ∙ sym (ap (λ b. cond b (after_draw c.args.tape.now) c.args.tape.now) (eq-eqb c.args.version 2 c.if-version-eq2.true))

pub returns-else-version-eq2-clause-beta : goal.returns-else-version-eq2-clause-beta
unfolding drawn_beta
returns-else-version-eq2-clause-beta g c =
    let m = g.F.Field in
    c.zero.ensures ∙ sym (ap (λ b. cond b (m.coding.element (drawn c.args.tape.now)) m.ops.zero) (ne_eqb c.args.version 2 c.if-version-eq2.false))

pub returns-else-version-eq2-clause-after : goal.returns-else-version-eq2-clause-after
unfolding after_beta
returns-else-version-eq2-clause-after g c =
    sym (ap (λ b. cond b (after_draw c.args.tape.now) c.args.tape.now) (ne_eqb c.args.version 2 c.if-version-eq2.false))
