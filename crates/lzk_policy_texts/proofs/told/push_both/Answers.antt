use Rattle.std.proofs.Common.{◌++◌, map, ap, ◌∙◌}
use Rattle.lzk_goldilocks.specs.Elements.{of_number}
use Rattle.lzk_policy_circuit.specs.Meaning.{tag_words}
use Rattle.lzk_policy_texts.proofs.Behind.{behind}
use Rattle.lzk_policy_texts.proofs.told.push_both.Goals as goal

pub returns : goal.returns
returns c =
    behind c.push_words.result c.push_words.new.numbers.items c.extend_from_slice.new.self.items c.args.numbers.now.items (map of_number (tag_words c.args.tag.now)) (map of_number c.args.words.now)
    (c.in_ok-extend_from_slice.ensures.items ∙ ap (λ xs. c.args.numbers.now.items ++ xs) c.tag_numbers.ensures) c.push_words.ensures
