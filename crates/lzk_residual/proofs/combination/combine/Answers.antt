use Rattle.std.proofs.Common.{◌≡◌, ◌+◌, ◌-◌, ◌*◌, ap, ◌∙◌, arith}
use Rattle.lzk_accept.specs.Combination.{combined}
use Rattle.lzk_accept.specs.Kept.{coefficient}
use Rattle.lzk_residual.proofs.combination.combine.Goals as goal

pub invariant_of-combining : goal.invariant_of-combining
invariant_of-combining g c = record { bounded = c.requires.bounded; drawn = c.requires.shape; filled = λ d e are. omega arith }

pub combine_from-requires-clause-forms : goal.combine_from-requires-clause-forms
combine_from-requires-clause-forms g c κs within = c.requires.forms

pub combine_from-requires-clause-room : goal.combine_from-requires-clause-room
combine_from-requires-clause-room g c κs within =
    let p = c.args.params.now in
    let all : p.nrow - 3 ≡ p.nrow - 3 - 0 = omega arith in
    c.requires.room ∙ ap (λ n. n * p.wr) all

pub returns-clause-room : goal.returns-clause-room
returns-clause-room g c = c.combine_from.auto.table

pub returns-clause-wanted : goal.returns-clause-wanted
returns-clause-wanted g c = c.combine_from.ensures.wanted

pub returns-clause-combined : goal.returns-clause-combined
returns-clause-combined g c w e are i s h k =
    let o = g.F.Field.ops in
    let first : 0 + i ≡ i = omega arith in
    c.combine_from.ensures.combined w e are i s (omega (arith, h)) k ∙ ap (λ n. combined o w (coefficient o c.args.forms.now) c.args.challenges.now (3 + n) s) first
