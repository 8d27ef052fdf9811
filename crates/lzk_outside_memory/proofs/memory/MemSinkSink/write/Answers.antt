use Rattle.std.proofs.Common.{rules, ◌≤◌, refl, arith}
use Rattle.lzk_outside_memory.specs.Memory.{sink_settings_of}
use Rattle.lzk_outside.specs.Outside.{last_count}
use Rattle.lzk_outside.proofs.Counting.{ok_is_no_fault, no_memory_is_no_failed_write, count_stays}
use Rattle.lzk_outside_memory.proofs.Calls.{one_write}
use Rattle.lzk_outside_memory.proofs.memory.MemSinkSink.write.Goals as goal

pub returns-then-is_err : goal.returns-then-is_err
returns-then-is_err c =
    let s = c.args.self.now in
    let fits : s.faults ≤ last_count = omega arith in
    record {
      some = tt;
      within = tt;
      ok = tt;
      err = search rules;
      cause = count_stays s.faults fits no_memory_is_no_failed_write;
      never = λ none. no_memory_is_no_failed_write;
      uncounted = λ none. refl;
      kept = refl;
      numbered = search rules;
      count = tt;
      settings = refl;
      faults = refl;
    }

pub returns : goal.returns
returns c =
    let s = c.args.self.now in
    let fits : s.faults ≤ last_count = omega arith in
    record {
      some = search rules;
      within = omega (arith, c.min-count.ensures);
      ok = search rules;
      err = tt;
      cause = count_stays s.faults fits (ok_is_no_fault _ _);
      never = λ none. ok_is_no_fault _ _;
      uncounted = λ none. refl;
      kept = refl;
      numbered = search rules;
      count = c.min-count.ensures;
      settings = one_write (sink_settings_of s) c.saturating_add-self-2.result c.saturating_add-self-2.ensures;
      faults = refl;
    }
