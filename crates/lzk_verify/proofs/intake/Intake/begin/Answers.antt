use Rattle.std.proofs.Common.{refl, ap, ◌∙◌}
use Rattle.std.specs.Prelude.{false, []}
use Rattle.lzk_sumcheck.specs.Opening.{public_tape}
use Rattle.lzk_verify.proofs.Beginning.{stored_none}
use Rattle.lzk_verify.proofs.Stored.{stored_kept}
use Rattle.lzk_verify.proofs.intake.Intake.begin.Goals as goal

pub returns-clause-kept : goal.returns-clause-kept
returns-clause-kept g c = λ w p bounded own.
    let f = g.F.Field in
    let e = f.coding in
    let session = c.args.session.now in
    let public = c.args.public.now in
    let k = record c.args.self.now { public = c.copy_from_slice.new.self; tape = c.public_tape-self.result; is_drawn = false; leaves = c.forget.new.self; failing = c.none-self.result; count = 0 } in
    stored_kept f.ops e w p session public [] k []
    (stored_none f.ops e w p session public k c.copy_from_slice.ensures.items refl (c.public_tape-self.ensures ∙ ap (λ i. public_tape e session i public) own) c.none-self.ensures refl)
