use Rattle.std.proofs.Common.{rules, ◌≡◌, ◌^◌, ◌≤◌, List, length, take, sym, ◌∙◌, arith, subst}
use Rattle.lzk_gf128.specs.declared.element.Gf128.{Gf128}
use Rattle.lzk_gf128.specs.Elements.{of_number, ops, laws}
use Rattle.lzk_afft.specs.Basis.{AreCoefficients}
use Rattle.lzk_afft.specs.Blocks.{IsReady}
use Rattle.lzk_afft.proofs.Binary.{binary}
use Rattle.lzk_afft.proofs.Rooms.{first_factors}
use Rattle.lzk_afft.proofs.RowLaws.{row_coefficients}
use Rattle.lzk_afft.proofs.Uniqueness.{only_coefficients, coefficients_through}
use Rattle.lzk_afft.proofs.transform.Transform.basis.Goals as goal

pub interpolate-requires-clause-factors : goal.interpolate-requires-clause-factors
interpolate-requires-clause-factors c κs =
    let inv = c.self.invariant in
    let room : 2 ^ c.self.inside.bits ≡ c.args.self.now.room = search rules in
    let full : length c.deref.result.now ≡ 2 ^ c.self.inside.depth = search rules in
    first_factors c.self.inside.bits c.self.inside.depth c.args.room.now c.deref.result.now inv.smaller inv.few (c.requires.room ∙ sym room) full

pub returns-clause-meets : goal.returns-clause-meets
returns-clause-meets c =
    let bits = c.self.inside.bits in
    let depth = c.self.inside.depth in
    let count = c.self.inside.count in
    let upto = c.self.inside.upto in
    let values = c.args.values.now in
    let room = c.interpolate.new.room in
    let from : count ≡ c.args.self.now.reach.count = search rules in
    let kept : 2 ^ bits ≡ c.args.self.now.room = search rules in
    let same : c.deref.result.now ≡ c.self.inside.twiddles.items = search rules in
    let ready : IsReady ops of_number count upto bits depth c.deref.result.now = subst (λ (xs : List Gf128). IsReady ops of_number count upto bits depth xs) (sym same) c.self.invariant in
    let counted : length values ≡ count = omega (arith, c.requires.fits, from) in
    let whole : length room ≡ 2 ^ bits = omega (arith, c.interpolate.auto.room, c.requires.room, kept) in
    let is : AreCoefficients ops of_number values (take (length values) room) = row_coefficients laws count upto bits depth c.deref.result.now values room ready counted whole c.interpolate.ensures.meets c.interpolate.ensures.rest in
    subst (λ (xs : List Gf128). AreCoefficients ops of_number values xs) (sym c.copy_from_slice.ensures.after) is

pub returns-clause-only : goal.returns-clause-only
returns-clause-only c =
    let inv = c.self.invariant in
    let bits = c.self.inside.bits in
    let values = c.args.values.now in
    let from : c.self.inside.count ≡ c.args.self.now.reach.count = search rules in
    let few : bits ≤ 16 = omega (arith, inv.smaller, inv.few) in
    λ others is.
    only_coefficients laws values c.copy_from_slice.new.self others bits few (binary bits few) (omega (arith, c.requires.fits, from, inv.enough)) (omega (arith, c.requires.fits, from, inv.order, inv.limit)) (returns-clause-meets c) is

pub returns-clause-same : goal.returns-clause-same
returns-clause-same c =
    let inv = c.self.invariant in
    let from : c.self.inside.count ≡ c.args.self.now.reach.count = search rules in
    coefficients_through laws c.args.values.now c.copy_from_slice.new.self (omega (arith, c.requires.fits, from, inv.order, inv.limit)) (returns-clause-meets c)
