use Rattle.std.proofs.Common.{◌≡◌, map, take}
use Rattle.lzk_policy_circuit.specs.Met.{text_element}
use Rattle.lzk_policy_circuit.proofs.texts.elements_of.Given as goal

abbrev pub invariant-loop-text : goal.invariant-loop-text
invariant-loop-text l = l.elements.items ≡ map text_element (take l.text-index l.texts)
