-- The fault that reading a circuit's file finds is the first, and the first is found.
use Rattle.std.proofs.Common.{◌≡◌, ℕ, ◌-◌, ◌≤◌, List, length, Result, Ok, Err, refl, sym, ap, subst, ◌∙◌, arith, inl, inr}
use Rattle.lzk_circbytes.specs.declared.fault.ByteKind.{ByteKind}
use Rattle.lzk_circbytes.specs.Reading.{Stop}
use Rattle.lzk_circbytes.specs.Files.{circuit_at, CircuitFaultAt}
use Rattle.lzk_circuit_faults.specs.Circuits.{file_fields}
use Rattle.lzk_circuit_faults.specs.Laws.{IsFirstFault, FaultIsFirst, OneFirstFault, FileOrFault, NeverBoth}
use Rattle.lzk_circuit_faults.proofs.Runs.{Run, run, first_is_found, found_is_first}
use Rattle.lzk_circuit_faults.proofs.Ties.{by_result, void, file_same}
use Rattle.lzk_circuit_faults.proofs.Circuits.{some_circuit}
use Rattle.lzk_circbytes.proofs.Whole.{no_fault, fault_found}
use Rattle.lzk_circuit_faults.proofs.Places.{within_bytes, file_within}

stop_of : Stop → Run
stop_of stop = Err stop

no_void : {A : Type 0} (r : Result A Stop) (stop : Stop) → void r ≡ Err stop → r ≡ Err stop
no_void (Ok x) stop e = absurd cc
no_void (Err d) stop e = ap (λ (s : Stop). Err s) (same d stop e)
  where
    same : (d stop : Stop) → ◌≡◌ {A = Run} (Err d) (Err stop) → d ≡ stop
    same d stop e = cc

within : (bytes : List ℕ) (offset : ℕ) (kind : ByteKind) → IsFirstFault bytes offset kind → offset ≤ length bytes
within bytes offset kind h = omega (arith, within_bytes file_fields 0 bytes offset kind file_within h)

first_is_fault : (bytes : List ℕ) (offset : ℕ) (kind : ByteKind) → IsFirstFault bytes offset kind → CircuitFaultAt bytes offset kind
first_is_fault bytes offset kind h =
    let total : ℕ = length bytes in (
      no_void (circuit_at bytes) (record { left = total - offset; kind = kind }) (sym (file_same total bytes refl) ∙ first_is_found total file_fields 0 bytes offset kind (omega arith) h),
      within bytes offset kind h,
    )

fault_is_first : (bytes : List ℕ) (offset : ℕ) (kind : ByteKind) → CircuitFaultAt bytes offset kind → IsFirstFault bytes offset kind
fault_is_first bytes offset kind h =
    let total : ℕ = length bytes in
    let stop : Stop = record { left = total - offset; kind = kind } in
    let there : run total file_fields bytes ≡ Err stop = file_same total bytes refl ∙ ap void h.0 in
    let found = found_is_first total file_fields 0 bytes stop (omega arith) there in
    let same : found.0 ≡ offset = omega (arith, found.1, h.1, within bytes found.0 kind found.2) in
    subst (λ (n : ℕ). IsFirstFault bytes n kind) same found.2

pub faults_are_first : FaultIsFirst
faults_are_first bytes offset kind = (fault_is_first bytes offset kind, first_is_fault bytes offset kind)

kind_of : ByteKind → {A : Type 0} → Result A Stop → ByteKind
kind_of kind (Ok x) = kind
kind_of kind (Err stop) = stop.kind

left_of : {A : Type 0} → Result A Stop → ℕ
left_of (Ok x) = 0
left_of (Err stop) = stop.left

pub one_first_fault : OneFirstFault
unfolding left_of kind_of
one_first_fault bytes m n k l first second =
    let f = first_is_fault bytes m k first in
    let g = first_is_fault bytes n l second in
    let left : length bytes - m ≡ length bytes - n = ap left_of (sym f.0 ∙ g.0) in
    (omega (arith, left, f.1, g.1), ap (kind_of k) (sym f.0 ∙ g.0))

pub file_or_fault : FileOrFault
file_or_fault bytes fits = by_result (circuit_at bytes) (λ x e. inl (some_circuit bytes fits x e)) (λ stop e.
    inr (length bytes - stop.left, stop.kind, fault_is_first bytes (length bytes - stop.left) stop.kind (fault_found bytes stop.left stop.kind e)))

pub never_both : NeverBoth
never_both c bytes offset kind file first = no_fault c bytes offset kind file (first_is_fault bytes offset kind first)
