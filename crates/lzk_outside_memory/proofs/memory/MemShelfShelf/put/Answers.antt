use Rattle.std.proofs.Common.{rules, ◌≤◌, refl, arith}
use Rattle.lzk_outside_memory.specs.Memory.{settings_of}
use Rattle.lzk_outside.specs.Outside.{last_count}
use Rattle.lzk_outside.proofs.Counting.{ok_is_no_fault, no_memory_is_no_failed_put, failed_put_has_memory, count_stays}
use Rattle.lzk_outside_memory.proofs.Calls.{one_call}
use Rattle.lzk_outside_memory.proofs.memory.MemShelfShelf.put.Goals as goal

pub returns-then-is_err : goal.returns-then-is_err
returns-then-is_err c =
    let s = c.args.self.now in
    let fits : s.put_faults ≤ last_count = omega arith in
    record {
      ok = tt;
      failed = λ e. absurd (no_memory_is_no_failed_put e);
      memory = λ e. search rules;
      cause = count_stays s.put_faults fits no_memory_is_no_failed_put;
      reads = refl;
      misses = refl;
      unfailed = λ e. refl;
      never = λ none. no_memory_is_no_failed_put;
      uncounted = λ none. refl;
      kept = refl;
      numbered = λ e. absurd (no_memory_is_no_failed_put e);
      passes = tt;
      fails = search rules;
      torn = λ e. absurd (no_memory_is_no_failed_put e);
      settings = refl;
      tally = refl;
    }

pub returns-then-not-contains : goal.returns-then-not-contains
returns-then-not-contains c =
    let s = c.args.self.now in
    let fits : s.put_faults ≤ last_count = omega arith in
    record {
      ok = search rules;
      failed = λ e. absurd (ok_is_no_fault _ _ e);
      memory = λ e. absurd (ok_is_no_fault _ _ e);
      cause = count_stays s.put_faults fits (ok_is_no_fault _ _);
      reads = refl;
      misses = refl;
      unfailed = λ e. refl;
      never = λ none. ok_is_no_fault _ _;
      uncounted = λ none. refl;
      kept = refl;
      numbered = λ e. absurd (ok_is_no_fault _ _ e);
      passes = search rules;
      fails = search rules;
      torn = λ e. absurd (ok_is_no_fault _ _ e);
      settings = one_call (settings_of s) c.saturating_add-self.result c.saturating_add-self.ensures;
      tally = refl;
    }

pub returns-then-is_err-2-clause-failed : goal.returns-then-is_err-2-clause-failed
returns-then-is_err-2-clause-failed c = λ e. absurd (no_memory_is_no_failed_put e)

pub returns-then-is_err-2-clause-numbered : goal.returns-then-is_err-2-clause-numbered
returns-then-is_err-2-clause-numbered c = λ e. absurd (no_memory_is_no_failed_put e)

pub returns-then-is_err-2-clause-torn : goal.returns-then-is_err-2-clause-torn
returns-then-is_err-2-clause-torn c = λ e. absurd (no_memory_is_no_failed_put e)

pub returns-then-is_err-2-clause-never : goal.returns-then-is_err-2-clause-never
returns-then-is_err-2-clause-never c = λ none. no_memory_is_no_failed_put

pub returns-clause-memory : goal.returns-clause-memory
returns-clause-memory c = λ e. absurd (failed_put_has_memory e)

pub returns-clause-unfailed : goal.returns-clause-unfailed
returns-clause-unfailed c = λ e. absurd (failed_put_has_memory e)
