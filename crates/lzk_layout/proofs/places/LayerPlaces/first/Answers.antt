use Rattle.std.proofs.Common.{◌∙◌, ap, arith, subst, sym, ℕ}
use Rattle.lzk_layout.specs.declared.places.LayerPlaces.{LayerPlaces}
use Rattle.lzk_layout.specs.Places.{begun, AreWithin}
use Rattle.lzk_layout.proofs.PlaceLaws.{first_is, within}
use Rattle.lzk_layout.proofs.places.LayerPlaces.first.Goals as goal

pub from-requires-clause-pads : goal.from-requires-clause-pads
from-requires-clause-pads g c = let valid = c.depth.ensures.valid in omega (arith, c.privates.ensures, valid.privates)

pub returns-clause-places : goal.returns-clause-places
returns-clause-places g c =
    c.from.ensures ∙ ap (λ (k : ℕ). begun k 0 c.privates.result) c.bits_below-bits.ensures.bits ∙ ap (begun _ 0) c.privates.ensures ∙ first_is c.args.circuit.now

pub returns-clause-within : goal.returns-clause-within
returns-clause-within g c =
    let valid = c.depth.ensures.valid in
    subst (λ (p : LayerPlaces). AreWithin c.args.circuit.now p) (sym (returns-clause-places g c)) (within c.args.circuit.now g.F.Field.ops valid 0 valid.some)
