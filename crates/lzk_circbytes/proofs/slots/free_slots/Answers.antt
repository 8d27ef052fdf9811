use Rattle.std.proofs.Common.{arith}
use Rattle.std.proofs.lemmas.List.Elements.{All-replicate}
use Rattle.lzk_circbytes.specs.Recent.{WasMet}
use Rattle.lzk_circbytes.proofs.slots.free_slots.Goals as goal

pub returns : goal.returns
returns c = λ numbers. All-replicate (WasMet numbers) 512 0 (λ some. absurd (omega (arith, some)))
