use Rattle.std.proofs.Common.{◌≤◌, refl, arith}
use Rattle.lzk_outside.specs.Outside.{last_count}
use Rattle.lzk_outside.specs.Real.{tally_of}
use Rattle.lzk_outside.proofs.Counting.{ok_is_no_fault, failed_is_not_missing, failed_has_memory, missing_is_not_failed, missing_has_memory, count_stays, count_rises, one_failure, one_miss}
use Rattle.lzk_outside.proofs.real.DiskShelfShelf.read.Goals as goal

pub returns-in-Ok : goal.returns-in-Ok
returns-in-Ok g c =
    let s = c.args.self.now in
    let read_fits : s.read_faults ≤ last_count = omega arith in
    let miss_fits : s.misses ≤ last_count = omega arith in
    record {
      within = c.in-Ok.ensures;
      failed = count_stays s.read_faults read_fits (ok_is_no_fault _ _);
      missing = count_stays s.misses miss_fits (ok_is_no_fault _ _);
      puts = refl;
      memory = ok_is_no_fault _ _;
      tally = refl;
    }

pub returns-then-eq : goal.returns-then-eq
returns-then-eq g c =
    let s = c.args.self.now in
    let read_fits : s.read_faults ≤ last_count = omega arith in
    let miss_fits : s.misses ≤ last_count = omega arith in
    record {
      within = tt;
      failed = count_stays s.read_faults read_fits missing_is_not_failed;
      missing = count_rises s.misses c.saturating_add-self.result miss_fits c.saturating_add-self.ensures;
      puts = refl;
      memory = missing_has_memory;
      tally = one_miss (tally_of s) c.saturating_add-self.result c.saturating_add-self.ensures;
    }

pub returns-else-eq : goal.returns-else-eq
returns-else-eq g c =
    let s = c.args.self.now in
    let read_fits : s.read_faults ≤ last_count = omega arith in
    let miss_fits : s.misses ≤ last_count = omega arith in
    record {
      within = tt;
      failed = count_rises s.read_faults c.saturating_add-self-else-eq.result read_fits c.saturating_add-self-else-eq.ensures;
      missing = count_stays s.misses miss_fits failed_is_not_missing;
      puts = refl;
      memory = failed_has_memory;
      tally = one_failure (tally_of s) c.saturating_add-self-else-eq.result c.saturating_add-self-else-eq.ensures;
    }
