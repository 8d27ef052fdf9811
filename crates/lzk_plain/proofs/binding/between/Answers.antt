use Rattle.std.proofs.Common.{◌∙◌, ap, refl, ◌∷◌, []}
use Rattle.lzk_field.proofs.Solve.{var, unit, ◌⊞◌, ◌⊟◌, ◌⊠◌, solve}
use Rattle.lzk_plain.proofs.binding.between.Goals as goal

pub returns : goal.returns
returns g c =
    let o = g.F.Field.ops in
    let a = c.args in
    c.add.ensures ∙ ap (o.plus a.low) (c.mul.ensures ∙ ap (o.times a.x) c.sub.ensures)
    ∙ solve o g.F.Field.laws.ring (a.low ∷ a.high ∷ a.x ∷ []) (var 0 ⊞ var 2 ⊠ (var 1 ⊟ var 0)) ((unit ⊟ var 2) ⊠ var 0 ⊞ var 2 ⊠ var 1) refl
