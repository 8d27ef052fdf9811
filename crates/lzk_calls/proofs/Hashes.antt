-- The file of a circuit of SHA-256.
use Rattle.std.specs.Prelude.{ℕ, Result, Ok, Err, IfOk, Vec}
use Rattle.std.specs.declared.alloc.Global.{Global}
use Rattle.lzk_circbytes.specs.Files.{IsFile}
use Rattle.lzk_circbytes.specs.Numbered.{shape}
use Rattle.lzk_circuit.specs.Valid.{Wiring}
use Rattle.lzk_goldilocks.specs.declared.element.Gold.{Gold as GoldElement}
use Rattle.lzk_goldilocks.specs.Elements as gold
use Rattle.lzk_goldilocks.specs.Prime.{p, element_bytes, field_byte}
use Rattle.lzk_sha_circuit.specs.Circuits.{IsShaCircuit}
use Rattle.lzk_calls.specs.Hashed.{IsShaFile}

pub sha_filed : {E : Type 0} (len : ℕ) (c : Wiring GoldElement) (r : Result (Vec ℕ Global) E) → IsShaCircuit len c
    → IfOk r (λ bytes. IsFile gold.ops gold.number (shape field_byte element_bytes p) c bytes.items)
    → IfOk r (λ bytes. IsShaFile len bytes.items)
sha_filed len c (Ok v) is file = (c, is, file)
sha_filed len c (Err e) is file = tt
