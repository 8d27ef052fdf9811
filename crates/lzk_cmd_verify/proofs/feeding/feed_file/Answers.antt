use Rattle.std.proofs.Common.{◌≡◌, true, false, None, Ok, Err, refl, ap, subst, ◌∙◌, arith}
use Rattle.std.specs.Prelude.{IfSome}
use Rattle.lzk_outside.specs.Outside.{Reads}
use Rattle.lzk_cmd_files.specs.Seen.{seen}
use Rattle.lzk_cmd_files.specs.Walks.{OnlyReads}
use Rattle.lzk_cmd_files.specs.declared.load.LoadFault.TheVariants.{Missing, Failed, OutOfMemory}
use Rattle.lzk_cmd_files.proofs.Sights.{no_step, reads_then, read_later, missed_later}
use Rattle.lzk_cmd_files.proofs.Loads.{read_failed, ok_is_no_fault, missing_is_not_failed, failed_is_not_missing}
use Rattle.lzk_cmd_files.proofs.Loads.{memory_is_not_missing, memory_is_not_failed, large_is_not_missing, large_is_not_failed}
use Rattle.lzk_cmd_verify.proofs.Fronts.{nothing_read, more_read, all_read, too_large}
use Rattle.lzk_cmd_verify.proofs.feeding.feed_file.Goals as goal

pub loop-at-init : goal.loop-at-init
loop-at-init g c =
    let f = g.F.Field in
    let e = f.coding in
    record {
      front = nothing_read f.ops e (g.S.Shelf.held c.args.shelf.now) c.args.name.now c.args.desk.now;
      fed = c.requires.fed;
      circuit = refl;
      buffer = refl;
      within = omega arith;
      reads = no_step (seen g.S.Shelf c.args.shelf.now);
    }

pub loop-at-preserved : goal.loop-at-preserved
loop-at-preserved g c =
    let f = g.F.Field in
    let e = f.coding in
    let i = c.loop-at.invariant in
    let read = c.in-Ok.ensures in
    record {
      front = more_read f.ops e (g.S.Shelf.held c.args.shelf.now) c.args.name.now c.args.desk.now (g.S.Shelf.held c.loop-at.shelf) c.loop-at.desk c.feed.new.self c.loop-at.at c.in-Ok.count _ i.reads.files i.front read.told read.within c.feed.ensures.stands;
      fed = c.feed.ensures.fed;
      circuit = c.feed.ensures.circuit ∙ i.circuit;
      buffer = c.read.auto.buf ∙ i.buffer;
      within = omega (arith, c.loop-at-test.true, read.within, c.read.auto.buf, i.buffer, c.requires.few);
      reads = record {
        files = read.same ∙ i.reads.files;
        puts = read.puts ∙ i.reads.puts;
        reads = omega (arith, read.failed.later, i.reads.reads);
        misses = omega (arith, read.missing.later, i.reads.misses);
        never = read.kept ∙ i.reads.never;
        uncounted = λ quiet. read.uncounted (i.reads.never ∙ quiet) ∙ i.reads.uncounted quiet;
      };
    }

pub returns-in-Err-Missing : goal.returns-in-Err-Missing
returns-in-Err-Missing g c =
    let old = seen g.S.Shelf c.args.shelf.now in
    let mid = seen g.S.Shelf c.loop-at.shelf in
    let new = seen g.S.Shelf c.read.new.self in
    let i = c.loop-at.invariant in
    let e = c.in-Err-Missing.ensures in
    let is_missing = c.in-Err-Missing.field-0-is in
    let none : IfSome mid.files (λ files. files c.args.name.now ≡ None) =
    subst (λ fault. Reads mid.files c.args.name.now c.loop-at.at (Err fault) c.read.new.buf) is_missing e.told in
    let step : OnlyReads mid new = record { files = e.same; puts = e.puts; reads = e.failed.later; misses = e.missing.later; never = e.kept; uncounted = e.uncounted } in
    record {
      told = subst (λ o. IfSome o (λ files. files c.args.name.now ≡ None)) i.reads.files none;
      fed = i.fed;
      circuit = i.circuit;
      reads = reads_then old mid new i.reads step;
      missing = λ is. missed_later old mid new i.reads (e.missing.rose (ap Err is_missing));
      fault = λ is. absurd (missing_is_not_failed is);
    }

pub returns-in-Err-Failed : goal.returns-in-Err-Failed
returns-in-Err-Failed g c =
    let old = seen g.S.Shelf c.args.shelf.now in
    let mid = seen g.S.Shelf c.loop-at.shelf in
    let new = seen g.S.Shelf c.read.new.self in
    let i = c.loop-at.invariant in
    let e = c.in-Err-Failed.ensures in
    let step : OnlyReads mid new = record { files = e.same; puts = e.puts; reads = e.failed.later; misses = e.missing.later; never = e.kept; uncounted = e.uncounted } in
    record {
      told = tt;
      fed = i.fed;
      circuit = i.circuit;
      reads = reads_then old mid new i.reads step;
      missing = λ is. absurd (failed_is_not_missing is);
      fault = λ is. read_later old mid new i.reads (read_failed mid new (λ never. e.never never (ap Err c.in-Err-Failed.field-0-is)) (e.failed.rose (ap Err c.in-Err-Failed.field-0-is)));
    }

pub returns-in-Err-OutOfMemory : goal.returns-in-Err-OutOfMemory
returns-in-Err-OutOfMemory g c =
    let old = seen g.S.Shelf c.args.shelf.now in
    let mid = seen g.S.Shelf c.loop-at.shelf in
    let new = seen g.S.Shelf c.read.new.self in
    let i = c.loop-at.invariant in
    let e = c.in-Err-OutOfMemory.ensures in
    let step : OnlyReads mid new = record { files = e.same; puts = e.puts; reads = e.failed.later; misses = e.missing.later; never = e.kept; uncounted = e.uncounted } in
    record {
      told = tt;
      fed = i.fed;
      circuit = i.circuit;
      reads = reads_then old mid new i.reads step;
      missing = λ is. absurd (memory_is_not_missing is);
      fault = λ is. absurd (memory_is_not_failed is);
    }

pub returns-then-count-eq0 : goal.returns-then-count-eq0
returns-then-count-eq0 g c =
    let f = g.F.Field in
    let old = seen g.S.Shelf c.args.shelf.now in
    let mid = seen g.S.Shelf c.loop-at.shelf in
    let new = seen g.S.Shelf c.read.new.self in
    let i = c.loop-at.invariant in
    let e = c.in-Ok.ensures in
    let step : OnlyReads mid new = record { files = e.same; puts = e.puts; reads = e.failed.later; misses = e.missing.later; never = e.kept; uncounted = e.uncounted } in
    record {
      told = all_read f.ops f.coding old.files c.args.name.now c.args.desk.now mid.files c.loop-at.desk c.loop-at.at c.in-Ok.count c.args.limit c.read.new.buf i.reads.files i.front e.told c.if-count-eq0.true c.loop-at-test.true;
      fed = i.fed;
      circuit = i.circuit;
      reads = reads_then old mid new i.reads step;
      missing = λ is. absurd (ok_is_no_fault _ _ is);
      fault = λ is. absurd (ok_is_no_fault _ _ is);
    }

pub returns : goal.returns
returns g c =
    let f = g.F.Field in
    let old = seen g.S.Shelf c.args.shelf.now in
    let mid = seen g.S.Shelf c.loop-at.shelf in
    let i = c.loop-at.invariant in
    record {
      told = too_large f.ops f.coding old.files c.args.name.now c.args.desk.now c.loop-at.desk c.loop-at.at c.args.limit i.front c.loop-at-test.false;
      fed = i.fed;
      circuit = i.circuit;
      reads = i.reads;
      missing = λ is. absurd (large_is_not_missing is);
      fault = λ is. absurd (large_is_not_failed is);
    }
