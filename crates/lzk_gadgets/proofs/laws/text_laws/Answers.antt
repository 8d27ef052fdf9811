use Rattle.lzk_gadgets.proofs.TextLaws.{texts_are_spelled, worths_are_bytes, bits_are_of_one_text}
use Rattle.lzk_gadgets.proofs.laws.text_laws.Goals as goal

pub returns-clause-spelled : goal.returns-clause-spelled
returns-clause-spelled c = texts_are_spelled

pub returns-clause-bytes : goal.returns-clause-bytes
returns-clause-bytes c = worths_are_bytes

pub returns-clause-one : goal.returns-clause-one
returns-clause-one c = bits_are_of_one_text
