use Rattle.std.proofs.Common.{ap, ◌∙◌}
use Rattle.lzk_field.specs.Bytes.{bytes_of}
use Rattle.lzk_gf128.proofs.ByteLists.{list_back}
use Rattle.lzk_gf128.proofs.element.Gf128Field.of_le.Goals as goal

pub returns-clause-only : goal.returns-clause-only
returns-clause-only c = ap (bytes_of 16) c.read.ensures ∙ list_back c.args.bytes.now c.requires c.type_inv.bytes
