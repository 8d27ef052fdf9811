use Rattle.lzk_layout.specs.Fields.{shape}
use Rattle.lzk_layout_decode.proofs.FirstFaultLaws.{first_fault}
use Rattle.lzk_layout_decode.proofs.laws.fault_laws.Goals as goal

pub returns : goal.returns
returns g c =
    let f = g.F.Field in
    record { first = λ p. first_fault (shape f.coding.bytes f.coding.size) p f.laws.numbers.some_bytes }
