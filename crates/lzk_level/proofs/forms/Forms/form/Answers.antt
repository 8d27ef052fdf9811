use Rattle.std.proofs.Common.{arith, ap, sym, subst, ◌∙◌, length}
use Rattle.lzk_level.specs.Forms.{form_at, ArePieces}
use Rattle.lzk_level.proofs.forms.Forms.form.Goals as goal

pub form_at-requires-clause-there : goal.form_at-requires-clause-there
form_at-requires-clause-there g c κs within = omega (arith, c.requires, ap length c.deref-2.ensures.value)

pub form_at-requires-clause-pieces : goal.form_at-requires-clause-pieces
form_at-requires-clause-pieces g c κs within =
    let forms = c.args.self.now in
    subst (ArePieces (length c.deref.result.now)) (sym c.deref-2.ensures.value) (subst (λ ts. ArePieces (length ts) forms.starts.items) (sym c.deref.ensures.value) forms.pieces)

pub returns : goal.returns
returns g c =
    let forms = c.args.self.now in
    c.form_at.ensures ∙ ap (λ ns. form_at ns c.deref.result.now c.args.i) c.deref-2.ensures.value ∙ ap (λ ts. form_at forms.starts.items ts c.args.i) c.deref.ensures.value
