use Rattle.std.proofs.Common.{◌≤◌, refl, arith}
use Rattle.lzk_outside.specs.Outside.{last_count}
use Rattle.lzk_outside.specs.Real.{tally_of}
use Rattle.lzk_outside.proofs.Counting.{ok_is_no_fault, failed_put_has_memory, count_stays, count_rises, one_failed_put}
use Rattle.lzk_outside.proofs.real.DiskShelfShelf.put.Goals as goal

pub returns-then-is_err : goal.returns-then-is_err
returns-then-is_err g c =
    let s = c.args.self.now in
    let fits : s.put_faults ≤ last_count = omega arith in
    record {
      cause = count_rises s.put_faults c.saturating_add-self.result fits c.saturating_add-self.ensures;
      reads = refl;
      misses = refl;
      memory = failed_put_has_memory;
      tally = one_failed_put (tally_of s) c.saturating_add-self.result c.saturating_add-self.ensures;
    }

pub returns : goal.returns
returns g c =
    let s = c.args.self.now in
    let fits : s.put_faults ≤ last_count = omega arith in
    record { cause = count_stays s.put_faults fits (ok_is_no_fault _ _); reads = refl; misses = refl; memory = ok_is_no_fault _ _; tally = refl }
