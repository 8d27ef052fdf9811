use Rattle.std.proofs.Common.{◌∙◌, ap}
use Rattle.lzk_goldilocks.specs.Elements.{of_number}
use Rattle.lzk_policy_circuit.proofs.TextClaims.{squares_of_text}
use Rattle.lzk_policy_circuit.proofs.texts.+text_squares.Goals as goal

pub returns : goal.returns
returns t c =
    squares_of_text c.in-Some.field-0-0.now c.in-Some.rest.now c.args.text.now c.of_word-byte.result c.text_squares.result c.mul.result c.add.result
    (c.of_word-byte.ensures ∙ ap of_number c.from.ensures) c.text_squares.ensures c.mul.ensures c.add.ensures c.in-Some.ensures.cases.0
