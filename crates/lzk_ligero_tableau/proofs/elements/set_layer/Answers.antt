use Rattle.std.proofs.Common.{◌≡◌, ◌-◌, List, [], ◌∷◌, ◌++◌, length, refl, ap, ◌∙◌, arith}
use Rattle.std.specs.Prelude.{slice_set}
use Rattle.std.proofs.lemmas.List.{get_or_read}
use Rattle.lzk_field.specs.Sums.{entry}
use Rattle.lzk_ligero_tableau.proofs.elements.set_layer.Goals as goal

one_set : {X : Type 0} (xs : List X) (x : X) → length xs ≡ 1 → slice_set xs 0 x ≡ x ∷ []
one_set [] x e = absurd (omega arith)
one_set (y ∷ []) x e = refl
one_set (y ∷ (z ∷ zs)) x e = absurd (omega arith)

pub returns : goal.returns
returns g c =
    let o = g.F.Field.ops in
    let pads = c.args.pads.now in
    let two = c.requires.two in
    let back = c.split_at_mut-own.result.1.now in
    let one : length back ≡ 1 = omega (arith, c.split_at_mut-own.ensures.back_len, c.requires.room) in
    let x = c.index-pads-count.result in
    let y = c.index-pads-count-2.result in
    let first : x ≡ entry o pads (length pads - 2) = get_or_read pads (length pads - 2) x (omega arith) c.index-pads-count.is o.zero in
    let second : y ≡ entry o pads (length pads - 1) = get_or_read pads (length pads - 1) y (omega arith) c.index-pads-count-2.is o.zero in
    ap (λ zs. zs ++ slice_set back 0 c.mul-product.result) c.copy_from_slice.ensures.after
    ∙ ap (λ zs. pads ++ zs) (one_set back c.mul-product.result one)
    ∙ ap (λ z. pads ++ z ∷ []) (c.mul-product.ensures ∙ ap (λ z. o.times z y) first ∙ ap (o.times (entry o pads (length pads - 2))) second)
