use Rattle.lzk_level.proofs.NodeForms.{product-of}
use Rattle.lzk_level.proofs.forms.fill_product.Goals as goal

pub returns : goal.returns
returns g c =
    let e = c.add_term.ensures in
    product-of g.F.Field.ops g.F.Field.laws.ring c.add_term.result c.args.coef c.args.a c.args.b c.clear.new.self.items c.add_term.new.row.items c.clear.ensures.items e.row e.under e.value e.short
