use Rattle.std.proofs.Common.{rules, ◌≡◌, ◌+◌, ◌^◌, List, length, sym, ap, ◌∙◌, arith, subst}
use Rattle.lzk_field.specs.Sums.{entry}
use Rattle.lzk_gf128.specs.declared.element.Gf128.{Gf128}
use Rattle.lzk_gf128.specs.Elements.{of_number, ops, laws}
use Rattle.lzk_poly.proofs.Blocks.{is_extension_of}
use Rattle.lzk_afft.specs.Basis.{basis_sum}
use Rattle.lzk_afft.specs.Blocks.{IsReady}
use Rattle.lzk_afft.proofs.Rooms.{first_factors}
use Rattle.lzk_afft.proofs.RowLaws.{row_extension}
use Rattle.lzk_afft.proofs.transform.Transform.extend.Goals as goal

pub interpolate-requires-clause-factors : goal.interpolate-requires-clause-factors
interpolate-requires-clause-factors c κs =
    let inv = c.self.invariant in
    let room : 2 ^ c.self.inside.bits ≡ c.args.self.now.room = search rules in
    let full : length c.deref.result.now ≡ 2 ^ c.self.inside.depth = search rules in
    first_factors c.self.inside.bits c.self.inside.depth c.args.room.now c.deref.result.now inv.smaller inv.few (c.requires.room ∙ sym room) full

pub evaluate-requires-clause-whole : goal.evaluate-requires-clause-whole
evaluate-requires-clause-whole c κs =
    let room : 2 ^ c.self.inside.bits ≡ c.args.self.now.room = search rules in
    omega (arith, c.interpolate.auto.room, c.requires.room, room)

pub returns-clause-value : goal.returns-clause-value
returns-clause-value c =
    let bits = c.self.inside.bits in
    let depth = c.self.inside.depth in
    let count = c.self.inside.count in
    let upto = c.self.inside.upto in
    let values = c.args.values.now in
    let room = c.interpolate.new.room in
    let from : count ≡ c.args.self.now.reach.count = search rules in
    let kept : 2 ^ bits ≡ c.args.self.now.room = search rules in
    let same : c.deref.result.now ≡ c.self.inside.twiddles.items = search rules in
    let ready : IsReady ops of_number count upto bits depth c.deref.result.now = subst (λ (xs : List Gf128). IsReady ops of_number count upto bits depth xs) (sym same) c.self.invariant in
    let counted : length values ≡ count = omega (arith, c.requires.fits, from) in
    let whole : length room ≡ 2 ^ bits = omega (arith, c.interpolate.auto.room, c.requires.room, kept) in
    λ k h.
    let place : length values + k ≡ c.args.self.now.reach.count + k = omega (arith, c.requires.fits) in
    (row_extension laws count upto bits depth c.deref.result.now values room ready counted whole c.interpolate.ensures.meets c.interpolate.ensures.rest (c.args.self.now.reach.count + k) (entry ops c.evaluate.new.out k)
    (c.evaluate.ensures.values k h ∙ ap (λ n. basis_sum ops of_number (entry ops room) (2 ^ bits) (of_number n)) place)).1

pub returns-clause-through : goal.returns-clause-through
returns-clause-through c =
    let inv = c.self.invariant in
    let from : c.self.inside.count ≡ c.args.self.now.reach.count = search rules in
    λ k h. is_extension_of laws c.args.values.now (c.args.self.now.reach.count + k) (entry ops c.evaluate.new.out k) (omega (arith, c.requires.fits, from, inv.order, inv.limit)) (returns-clause-value c k h)
