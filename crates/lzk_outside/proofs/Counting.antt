-- Counts that stand still, and counts that rise.
use Rattle.std.proofs.Common.{◌≡◌, ◌≤◌, ℕ, Result, Ok, Err, ap, arith}
use Rattle.lzk_outside.specs.Outside.{Counts, counted, last_count}
use Rattle.lzk_outside.specs.Tallies.{Tally}
use Rattle.lzk_outside.specs.declared.outside.ShelfFault.{ShelfFault}
use Rattle.lzk_outside.specs.declared.outside.ShelfFault.TheVariants as shelf
use Rattle.lzk_outside.specs.declared.outside.PutFault.{PutFault}
use Rattle.lzk_outside.specs.declared.outside.PutFault.TheVariants as put
use Rattle.lzk_outside.specs.declared.outside.SinkFault.{SinkFault}
use Rattle.lzk_outside.specs.declared.outside.SinkFault.TheVariants as sink

-- answers that are not one another
pub ok_is_no_fault : {T E : Type 0} (x : T) (f : E) → Ok x ≡ Err f → ⊥
ok_is_no_fault x f e = cc

pub failed_is_not_missing : {T : Type 0} → ◌≡◌ {A = Result T ShelfFault} (Err shelf.Failed) (Err shelf.Missing) → ⊥
failed_is_not_missing e = cc

pub failed_has_memory : {T : Type 0} → ◌≡◌ {A = Result T ShelfFault} (Err shelf.Failed) (Err shelf.OutOfMemory) → ⊥
failed_has_memory e = cc

pub missing_is_not_failed : {T : Type 0} → ◌≡◌ {A = Result T ShelfFault} (Err shelf.Missing) (Err shelf.Failed) → ⊥
missing_is_not_failed e = cc

pub missing_has_memory : {T : Type 0} → ◌≡◌ {A = Result T ShelfFault} (Err shelf.Missing) (Err shelf.OutOfMemory) → ⊥
missing_has_memory e = cc

pub no_memory_is_no_failed_put : {T : Type 0} → ◌≡◌ {A = Result T PutFault} (Err put.OutOfMemory) (Err put.Failed) → ⊥
no_memory_is_no_failed_put e = cc

pub failed_put_has_memory : {T : Type 0} → ◌≡◌ {A = Result T PutFault} (Err put.Failed) (Err put.OutOfMemory) → ⊥
failed_put_has_memory e = cc

pub no_memory_is_no_failed_write : {T : Type 0} → ◌≡◌ {A = Result T SinkFault} (Err sink.OutOfMemory) (Err sink.Failed) → ⊥
no_memory_is_no_failed_write e = cc

pub count_stays : {P : Type 0} (n : ℕ) → n ≤ last_count → (P → ⊥) → Counts P n n
count_stays n fits never = record { later = omega arith; count = fits; rose = λ p. absurd (never p) }

pub count_rises : {P : Type 0} (n now : ℕ) → n ≤ last_count → now ≡ counted n → Counts P n now
count_rises n now fits is = record {
  later = omega (arith, fits, is);
  count = omega (arith, is);
  rose = λ p. record { later = omega (arith, fits, is); more = omega (arith, is); count = omega (arith, is) };
}

pub one_failure : (t : Tally) (n : ℕ) → n ≡ counted t.read_faults → record t { read_faults = n } ≡ record t { read_faults = counted t.read_faults }
one_failure t n is = ap (λ m. record t { read_faults = m }) is

pub one_miss : (t : Tally) (n : ℕ) → n ≡ counted t.misses → record t { misses = n } ≡ record t { misses = counted t.misses }
one_miss t n is = ap (λ m. record t { misses = m }) is

pub one_failed_put : (t : Tally) (n : ℕ) → n ≡ counted t.put_faults → record t { put_faults = n } ≡ record t { put_faults = counted t.put_faults }
one_failed_put t n is = ap (λ m. record t { put_faults = m }) is
