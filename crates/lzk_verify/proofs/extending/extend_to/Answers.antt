use Rattle.std.proofs.Common.{◌≡◌, ap, sym, ◌∙◌}
use Rattle.lzk_field.specs.Sums.{dot_product}
use Rattle.lzk_poly.specs.Extension.{extension}
use Rattle.lzk_verify.proofs.Extended.{same_length}
use Rattle.lzk_verify.proofs.extending.extend_to.Goals as goal

pub returns : goal.returns
returns g c = λ point values is extends.
    let f = g.F.Field in
    let o = f.ops in
    let inverses = c.args.inverses.now in
    let value : c.mul.result ≡ extension o f.coding.element values point =
    c.mul.ensures ∙ ap (λ z. o.times z c.args.last) (c.dot.ensures ∙ ap (λ xs. dot_product o xs inverses) is) ∙ extends values (sym (same_length o f.coding.element values c.args.weighted.now is) ∙ c.requires.lengths) in
    (λ h. sym value ∙ c.are_equal.ensures.0 h, λ e. c.are_equal.ensures.1 (value ∙ e))
