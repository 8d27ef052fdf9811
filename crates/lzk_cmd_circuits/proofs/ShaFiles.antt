-- The walk of `shacircuit`.
use Rattle.std.proofs.Common.{◌≡◌, ℕ, List, length, Result, Ok, Err, inl, inr, sym, ap, subst}
use Rattle.std.specs.Prelude.{IfOk, String, Vec, string_bytes}
use Rattle.std.specs.declared.alloc.Global.{Global}
use Rattle.std.specs.Result.{IsErrAnd}
use Rattle.lzk_circbytes.specs.declared.any.AnyCircuit.TheVariants.{Gold}
use Rattle.lzk_circbytes.specs.Files.{IsFile}
use Rattle.lzk_circbytes.specs.Numbered.{shape}
use Rattle.lzk_circbytes.proofs.Sizes.{files_fit}
use Rattle.lzk_circuit.specs.Valid.{Wiring}
use Rattle.lzk_goldilocks.specs.declared.element.Gold.{Gold as GoldElement}
use Rattle.lzk_goldilocks.specs.Elements as gold
use Rattle.lzk_goldilocks.specs.Prime.{p, element_bytes, field_byte}
use Rattle.lzk_outside.specs.Outside.{Files}
use Rattle.lzk_sha_circuit.specs.Circuits.{IsShaCircuit}
use Rattle.lzk_cmd_files.specs.declared.ending.Ending.{Ending}
use Rattle.lzk_cmd_files.specs.declared.ending.Halt.{Halt}
use Rattle.lzk_cmd_files.specs.declared.ending.Halt.TheVariants as halts
use Rattle.lzk_cmd_circuits.specs.Compiled.{term_count}
use Rattle.lzk_cmd_files.specs.Ends.{End, Stop, puts}
use Rattle.lzk_cmd_circuits.specs.ShaCircuits.{ShaCircuitRun, IsShaFile}
use Rattle.lzk_cmd_files.specs.Lines.{compiled_line}
use Rattle.lzk_cmd_files.specs.Seen.{Seen}
use Rattle.lzk_cmd_files.specs.Walks.{EndsAtPut, Puts, WalksToPut}
use Rattle.lzk_cmd_files.proofs.Sights.{where_told}
use Rattle.lzk_cmd_files.proofs.Steps.{handed_on, at_put}

-- ---- there was no memory, and nothing was put
pub no_memory : (tail : Files → Stop → End → Type 0) (k : ℕ) (old : Seen) (r : Result Ending Halt) → IsErrAnd r (λ y. y ≡ halts.Memory) → WalksToPut tail k old old r
no_memory tail k old r is = handed_on (WalksToPut tail k old old) r halts.Memory is (where_told old.files _ (λ f at. at))

-- ---- the circuit is put

-- the file of a circuit for messages of so many bytes, and the line that tells of it
pub sha_filed : {E : Type 0} (len : ℕ) (name : List ℕ) (c : Wiring GoldElement) (r : Result (Vec ℕ Global × String Global) E) → IsShaCircuit len c → IfOk r (λ made. IsFile gold.ops gold.number (shape field_byte element_bytes p) c made.0.items)
    → IfOk r (λ made. string_bytes made.1 ≡ compiled_line name (length c.layers) (term_count c.layers) (length made.0.items)) → IfOk r (λ made. IsShaFile len name made.0.items (string_bytes made.1))
sha_filed len name c (Ok made) is file text = record { made = c; is = is; file = file; text_is = text }
sha_filed len name c (Err e) is file text = tt

pub puts_sha : (len : ℕ) (name given text : List ℕ) (bytes : List ℕ) (old new : Seen) (r : Result Ending Halt) → IsShaFile len name bytes text → given ≡ bytes → Puts name given text old new r → WalksToPut (ShaCircuitRun len name) 0 old new r
unfolding ShaCircuitRun
puts_sha len name given text bytes old new r c same h =
    at_put (ShaCircuitRun len name) 0 name bytes text old new r (λ files stop. (c.made, bytes, c.is, c.file, files_fit (Gold c.made) bytes c.file, ap (puts stop name bytes) c.text_is))
    (subst (λ (bs : List ℕ). Puts name bs text old new r) same h)

-- it was put or not, and nothing was refused
pub ends_at_put : (name bytes text : List ℕ) (old new : Seen) (r : Result Ending Halt) → Puts name bytes text old new r → EndsAtPut r
ends_at_put name bytes text old new (Ok e) (inl (holds, is)) = inl (sym is.status)
ends_at_put name bytes text old new (Ok e) (inr (failed, torn, is)) = inr (sym is.status)
ends_at_put name bytes text old new (Err halts.Memory) h = tt
ends_at_put name bytes text old new (Err (halts.End e)) h = absurd h
