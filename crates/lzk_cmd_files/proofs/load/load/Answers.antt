use Rattle.std.proofs.Common.{◌≡◌, ◌<◌, ◌≤◌, ◌++◌, ◌∙◌, cond, length, take, refl, ap, subst, arith, None, Err}
use Rattle.std.specs.Prelude.{IfSome}
use Rattle.lzk_outside.specs.Outside.{Reads}
use Rattle.lzk_cmd_files.specs.Seen.{seen}
use Rattle.lzk_cmd_files.specs.Walks.{OnlyReads}
use Rattle.lzk_cmd_files.proofs.Loads.{ok_is_no_fault, missing_is_not_failed, failed_is_not_missing, memory_is_not_missing, memory_is_not_failed, large_is_not_missing, large_is_not_failed, read_failed, front_none, told_larger, told_whole, told_more}
use Rattle.lzk_cmd_files.proofs.Sights.{where_told, no_step, reads_then, read_later, missed_later}
use Rattle.lzk_cmd_files.proofs.load.load.Goals as goal

pub loop-chunk-init : goal.loop-chunk-init
loop-chunk-init g c = record {
  front = where_told (g.S.Shelf.held c.args.shelf.now) _ (λ files at. front_none (files c.args.name.now) c.new-bytes.result.items c.new-bytes.ensures.items);
  chunk = refl;
  reads = no_step (seen g.S.Shelf c.args.shelf.now);
}

pub read-requires : goal.read-requires
read-requires g c = omega (arith, c.loop-chunk.invariant.chunk)

pub returns-in-Err-Missing : goal.returns-in-Err-Missing
returns-in-Err-Missing g c =
    let old = seen g.S.Shelf c.args.shelf.now in
    let mid = seen g.S.Shelf c.loop-chunk.shelf in
    let new = seen g.S.Shelf c.read.new.self in
    let e = c.in-Err-Missing.ensures in
    let is_missing = c.in-Err-Missing.field-0-is in
    let none : IfSome mid.files (λ files. files c.args.name.now ≡ None) =
    subst (λ fault. Reads mid.files c.args.name.now c.len-in-loop-chunk.result (Err fault) c.read.new.buf) is_missing e.told in
    let first = c.loop-chunk.invariant.reads in
    let step : OnlyReads mid new = record { files = e.same; puts = e.puts; reads = e.failed.later; misses = e.missing.later; never = e.kept; uncounted = e.uncounted } in
    record {
      told = subst (λ o. IfSome o (λ files. files c.args.name.now ≡ None)) first.files none;
      fits = tt;
      reads = reads_then old mid new first step;
      missing = λ is. missed_later old mid new first (e.missing.rose (ap Err is_missing));
      fault = λ is. absurd (missing_is_not_failed is);
    }

pub returns-in-Err-Failed : goal.returns-in-Err-Failed
returns-in-Err-Failed g c =
    let old = seen g.S.Shelf c.args.shelf.now in
    let mid = seen g.S.Shelf c.loop-chunk.shelf in
    let new = seen g.S.Shelf c.read.new.self in
    let e = c.in-Err-Failed.ensures in
    let first = c.loop-chunk.invariant.reads in
    let step : OnlyReads mid new = record { files = e.same; puts = e.puts; reads = e.failed.later; misses = e.missing.later; never = e.kept; uncounted = e.uncounted } in
    record {
      told = where_told old.files _ (λ files at. tt);
      fits = tt;
      reads = reads_then old mid new first step;
      missing = λ is. absurd (failed_is_not_missing is);
      fault = λ is. read_later old mid new first (read_failed mid new (λ never. e.never never (ap Err c.in-Err-Failed.field-0-is)) (e.failed.rose (ap Err c.in-Err-Failed.field-0-is)));
    }

pub returns-in-Err-OutOfMemory : goal.returns-in-Err-OutOfMemory
returns-in-Err-OutOfMemory g c =
    let old = seen g.S.Shelf c.args.shelf.now in
    let mid = seen g.S.Shelf c.loop-chunk.shelf in
    let new = seen g.S.Shelf c.read.new.self in
    let e = c.in-Err-OutOfMemory.ensures in
    let step : OnlyReads mid new = record { files = e.same; puts = e.puts; reads = e.failed.later; misses = e.missing.later; never = e.kept; uncounted = e.uncounted } in
    record {
      told = where_told old.files _ (λ files at. tt);
      fits = tt;
      reads = reads_then old mid new c.loop-chunk.invariant.reads step;
      missing = λ is. absurd (memory_is_not_missing is);
      fault = λ is. absurd (memory_is_not_failed is);
    }

pub returns-then-count-eq0 : goal.returns-then-count-eq0
returns-then-count-eq0 g c =
    let old = seen g.S.Shelf c.args.shelf.now in
    let mid = seen g.S.Shelf c.loop-chunk.shelf in
    let new = seen g.S.Shelf c.read.new.self in
    let e = c.in-Ok.ensures in
    let bytes = c.loop-chunk.bytes.items in
    let first = c.loop-chunk.invariant.reads in
    let step : OnlyReads mid new = record { files = e.same; puts = e.puts; reads = e.failed.later; misses = e.missing.later; never = e.kept; uncounted = e.uncounted } in
    let fits : length bytes ≤ c.args.limit = omega (arith, c.loop-chunk-test.true, c.len.ensures, c.loop-chunk.bytes.ok.0) in
    let at : c.len-in-loop-chunk.result ≡ length bytes = omega (arith, c.len-in-loop-chunk.ensures, c.loop-chunk.bytes.ok.0) in
    record {
      told = told_whole old.files mid.files first.files c.args.name.now bytes c.loop-chunk.invariant.front c.len-in-loop-chunk.result c.in-Ok.count c.read.new.buf at e.told c.args.limit c.if-count-eq0.true fits;
      fits = fits;
      reads = reads_then old mid new first step;
      missing = λ is. absurd (ok_is_no_fault _ _ is);
      fault = λ is. absurd (ok_is_no_fault _ _ is);
    }

pub returns-then-is_err : goal.returns-then-is_err
returns-then-is_err g c =
    let old = seen g.S.Shelf c.args.shelf.now in
    let mid = seen g.S.Shelf c.loop-chunk.shelf in
    let new = seen g.S.Shelf c.read.new.self in
    let e = c.in-Ok.ensures in
    let step : OnlyReads mid new = record { files = e.same; puts = e.puts; reads = e.failed.later; misses = e.missing.later; never = e.kept; uncounted = e.uncounted } in
    record {
      told = where_told old.files _ (λ files at. tt);
      fits = tt;
      reads = reads_then old mid new c.loop-chunk.invariant.reads step;
      missing = λ is. absurd (memory_is_not_missing is);
      fault = λ is. absurd (memory_is_not_failed is);
    }

pub returns : goal.returns
returns g c =
    let old = seen g.S.Shelf c.args.shelf.now in
    let mid = seen g.S.Shelf c.loop-chunk.shelf in
    let bytes = c.loop-chunk.bytes.items in
    let first = c.loop-chunk.invariant.reads in
    let long : c.args.limit < length bytes = omega (arith, c.loop-chunk-test.false, c.len.ensures, c.loop-chunk.bytes.ok.0) in
    record {
      told = told_larger old.files mid.files first.files c.args.name.now bytes c.loop-chunk.invariant.front c.args.limit long;
      fits = tt;
      reads = first;
      missing = λ is. absurd (large_is_not_missing is);
      fault = λ is. absurd (large_is_not_failed is);
    }

pub loop-chunk-preserved : goal.loop-chunk-preserved
loop-chunk-preserved g c =
    let old = seen g.S.Shelf c.args.shelf.now in
    let mid = seen g.S.Shelf c.loop-chunk.shelf in
    let new = seen g.S.Shelf c.read.new.self in
    let e = c.in-Ok.ensures in
    let bytes = c.loop-chunk.bytes.items in
    let next = c.extend_from_slice.new.self.items in
    let first = c.loop-chunk.invariant.reads in
    let step : OnlyReads mid new = record { files = e.same; puts = e.puts; reads = e.failed.later; misses = e.missing.later; never = e.kept; uncounted = e.uncounted } in
    let at : c.len-in-loop-chunk.result ≡ length bytes = omega (arith, c.len-in-loop-chunk.ensures, c.loop-chunk.bytes.ok.0) in
    let more : next ≡ bytes ++ take c.in-Ok.count c.read.new.buf = c.extend_from_slice.ensures.items ∙ ap (λ b. cond b (bytes ++ take c.in-Ok.count c.read.new.buf) bytes) c.if-is_err.ensures.negation in
    record {
      front =
          told_more old.files mid.files first.files c.args.name.now bytes c.loop-chunk.invariant.front c.len-in-loop-chunk.result c.in-Ok.count c.read.new.buf at e.told new.files next e.same e.within more;
      chunk = omega (arith, c.read.auto.buf, c.loop-chunk.invariant.chunk);
      reads = reads_then old mid new first step;
    }
