use Rattle.std.proofs.Common.{rules, ◌≤◌, refl, arith}
use Rattle.lzk_outside_memory.specs.Memory.{IsFailing, settings_of, tally_of}
use Rattle.lzk_outside.specs.Outside.{last_count}
use Rattle.lzk_outside.proofs.Counting.{ok_is_no_fault, failed_is_not_missing, failed_has_memory, missing_is_not_failed, missing_has_memory, count_stays, count_rises, one_failure, one_miss}
use Rattle.lzk_outside_memory.proofs.Calls.{none_stands, one_call}
use Rattle.lzk_outside_memory.proofs.memory.MemShelfShelf.read.Goals as goal

pub returns-then-contains : goal.returns-then-contains
returns-then-contains c =
    let s = c.args.self.now in
    let read_fits : s.read_faults ≤ last_count = omega arith in
    let miss_fits : s.misses ≤ last_count = omega arith in
    let there : IsFailing (settings_of s) = search rules in
    record {
      within = tt;
      told = tt;
      same = refl;
      failed = count_rises s.read_faults c.saturating_add-self-then-contains.result read_fits c.saturating_add-self-then-contains.ensures;
      missing = count_stays s.misses miss_fits failed_is_not_missing;
      puts = refl;
      never = λ none e. none_stands s.failing.items s.calls none there;
      uncounted = λ none. absurd (none_stands s.failing.items s.calls none there);
      kept = refl;
      numbered = (λ e. there, λ t. refl);
      memory = failed_has_memory;
      count = tt;
      rest = tt;
      untouched = refl;
      settings = one_call (settings_of s) c.saturating_add-self.result c.saturating_add-self.ensures;
      tally = one_failure (tally_of s) c.saturating_add-self-then-contains.result c.saturating_add-self-then-contains.ensures;
    }

pub returns-in-Some : goal.returns-in-Some
returns-in-Some c =
    let s = c.args.self.now in
    let read_fits : s.read_faults ≤ last_count = omega arith in
    let miss_fits : s.misses ≤ last_count = omega arith in
    record {
      within = c.copy_from.ensures.within;
      told = search rules;
      same = refl;
      failed = count_stays s.read_faults read_fits (ok_is_no_fault _ _);
      missing = count_stays s.misses miss_fits (ok_is_no_fault _ _);
      puts = refl;
      never = λ none. ok_is_no_fault _ _;
      uncounted = λ none. refl;
      kept = refl;
      numbered = search rules;
      memory = ok_is_no_fault _ _;
      count = search rules;
      rest = c.copy_from.ensures.rest;
      untouched = tt;
      settings = one_call (settings_of s) c.saturating_add-self.result c.saturating_add-self.ensures;
      tally = refl;
    }

pub returns-in-None : goal.returns-in-None
returns-in-None c =
    let s = c.args.self.now in
    let read_fits : s.read_faults ≤ last_count = omega arith in
    let miss_fits : s.misses ≤ last_count = omega arith in
    record {
      within = tt;
      told = search rules;
      same = refl;
      failed = count_stays s.read_faults read_fits missing_is_not_failed;
      missing = count_rises s.misses c.saturating_add-self-in-None.result miss_fits c.saturating_add-self-in-None.ensures;
      puts = refl;
      never = λ none. missing_is_not_failed;
      uncounted = λ none. refl;
      kept = refl;
      numbered = search rules;
      memory = missing_has_memory;
      count = tt;
      rest = tt;
      untouched = refl;
      settings = one_call (settings_of s) c.saturating_add-self.result c.saturating_add-self.ensures;
      tally = one_miss (tally_of s) c.saturating_add-self-in-None.result c.saturating_add-self-in-None.ensures;
    }
