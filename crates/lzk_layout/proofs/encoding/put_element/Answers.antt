use Rattle.std.proofs.Common.{ℕ, List, ◌+◌, ◌++◌, ◌∙◌, ap, take}
use Rattle.lzk_layout.proofs.FileLaws.{element_taken, element_long, element_room}
use Rattle.lzk_layout.proofs.encoding.put_element.Goals as goal

pub put-requires : goal.put-requires
put-requires g c = element_room g.F.Field.coding.bytes c.BYTES-2.result (g.F.Field.coding.number c.args.x) c.args.at _ c.to_le.new.out _ (c.BYTES-2.ensures ∙ g.F.Field.coded_bytes) c.to_le.ensures.bytes c.requires

pub returns-clause-end : goal.returns-clause-end
returns-clause-end g c = c.put.ensures.end ∙ ap (λ (k : ℕ). c.args.at + k) (element_long g.F.Field.coding.bytes c.BYTES-2.result (g.F.Field.coding.number c.args.x) c.to_le.new.out _ (c.BYTES-2.ensures ∙ g.F.Field.coded_bytes) c.to_le.ensures.bytes)

pub returns-clause-length : goal.returns-clause-length
returns-clause-length g c = c.put.ensures.length

pub returns-clause-front : goal.returns-clause-front
returns-clause-front g c =
    c.put.ensures.front ∙ ap (λ (bs : List ℕ). take c.args.at c.args.out.now ++ bs) (element_taken g.F.Field.coding.bytes c.BYTES-2.result (g.F.Field.coding.number c.args.x) c.to_le.new.out _ (c.BYTES-2.ensures ∙ g.F.Field.coded_bytes) c.to_le.ensures.bytes)
