use Rattle.std.proofs.Common.{◌+◌, ◌∙◌, subst, sym, arith}
use Rattle.lzk_layout.specs.declared.places.LayerPlaces.{LayerPlaces}
use Rattle.lzk_layout.specs.Places.{AreWithin}
use Rattle.lzk_layout.proofs.PlaceLaws.{next_is, within, few_sent_before, few_pads_before}
use Rattle.lzk_layout.proofs.places.LayerPlaces.next.Goals as goal

pub overflow_add-self : goal.overflow_add-self
overflow_add-self g c = omega (arith, few_sent_before c.args.circuit.now g.F.Field.ops c.depth-depth.ensures.valid c.args.l c.args.self c.requires.layer c.requires.places)

pub overflow_add-self-2 : goal.overflow_add-self-2
overflow_add-self-2 g c = omega (arith, few_pads_before c.args.circuit.now g.F.Field.ops c.depth-depth.ensures.valid c.args.l c.args.self c.requires.layer c.requires.places)

pub from-requires-clause-messages : goal.from-requires-clause-messages
from-requires-clause-messages g c = few_sent_before c.args.circuit.now g.F.Field.ops c.depth-depth.ensures.valid c.args.l c.args.self c.requires.layer c.requires.places

pub from-requires-clause-pads : goal.from-requires-clause-pads
from-requires-clause-pads g c = few_pads_before c.args.circuit.now g.F.Field.ops c.depth-depth.ensures.valid c.args.l c.args.self c.requires.layer c.requires.places

pub returns-clause-places : goal.returns-clause-places
returns-clause-places g c = c.from.ensures ∙ next_is c.args.circuit.now c.args.l c.bits_below-bits.result c.args.self c.requires.layer c.requires.places c.bits_below-bits.ensures.bits

pub returns-clause-within : goal.returns-clause-within
returns-clause-within g c = λ more.
    subst (λ (p : LayerPlaces). AreWithin c.args.circuit.now p) (sym (returns-clause-places g c)) (within c.args.circuit.now g.F.Field.ops c.depth-depth.ensures.valid (c.args.l + 1) more)
