use Rattle.std.proofs.Common.{◌≡◌, ◌≤◌, Err, inl, inr, refl, sym, ap, arith}
use Rattle.std.specs.Prelude.{IsTrue, string_bytes}
use Rattle.std.proofs.lemmas.Bool.{false_from_ne_true}
use Rattle.lzk_cmd_files.specs.declared.ending.Halt.TheVariants as halts
use Rattle.lzk_cmd_files.specs.Seen.{Seen, seen}
use Rattle.lzk_cmd_files.specs.Walks.{Moves, Puts}
use Rattle.lzk_cmd_files.proofs.Sights.{no_step, only_moves}
use Rattle.lzk_cmd_files.proofs.Steps.{handed_on}
use Rattle.lzk_cmd_files.proofs.files.put_file.Goals as goal

-- what was put moves the shelf on
put_moves : (old new : Seen) → new.reads ≡ old.reads → old.puts ≤ new.puts → new.misses ≡ old.misses → new.never ≡ old.never → (IsTrue old.never → new.puts ≡ old.puts) → Moves old new
put_moves old new reads puts misses never uncounted = record {
  reads = omega (arith, reads);
  puts = puts;
  misses = omega (arith, misses);
  never = never;
  uncounted_reads = λ h. reads;
  uncounted_puts = uncounted;
}

pub returns-in-Ok-clause-puts : goal.returns-in-Ok-clause-puts
returns-in-Ok-clause-puts g c = inl (c.in-Ok.ensures.ok, record { status = refl; text = refl })

pub returns-in-Ok-clause-moves : goal.returns-in-Ok-clause-moves
returns-in-Ok-clause-moves g c = put_moves (seen g.S.Shelf c.args.shelf.now) (seen g.S.Shelf c.put.new.self) c.in-Ok.ensures.reads c.in-Ok.ensures.cause.later c.in-Ok.ensures.misses c.in-Ok.ensures.kept c.in-Ok.ensures.uncounted

pub returns-in-Err-Failed-clause-puts : goal.returns-in-Err-Failed-clause-puts
returns-in-Err-Failed-clause-puts g c =
    let e = c.in-Err-Failed.ensures in
    let is = ap Err c.in-Err-Failed.field-0-is in
    inr (record { may = false_from_ne_true _ (λ never. e.never never is); rose = e.cause.rose is }, e.failed is, record { status = refl; text = sym c.in_ok-fault.ensures })

pub returns-in-Err-Failed-clause-moves : goal.returns-in-Err-Failed-clause-moves
returns-in-Err-Failed-clause-moves g c = put_moves (seen g.S.Shelf c.args.shelf.now) (seen g.S.Shelf c.put.new.self) c.in-Err-Failed.ensures.reads c.in-Err-Failed.ensures.cause.later c.in-Err-Failed.ensures.misses c.in-Err-Failed.ensures.kept c.in-Err-Failed.ensures.uncounted

pub returns-clause-puts : goal.returns-clause-puts
returns-clause-puts g c = c.in-Err-OutOfMemory.ensures.memory (ap Err c.in-Err-OutOfMemory.field-0-is)

pub returns-clause-moves : goal.returns-clause-moves
returns-clause-moves g c = put_moves (seen g.S.Shelf c.args.shelf.now) (seen g.S.Shelf c.put.new.self) c.in-Err-OutOfMemory.ensures.reads c.in-Err-OutOfMemory.ensures.cause.later c.in-Err-OutOfMemory.ensures.misses c.in-Err-OutOfMemory.ensures.kept c.in-Err-OutOfMemory.ensures.uncounted

pub returns-in_err-fault-clause-puts : goal.returns-in_err-fault-clause-puts
returns-in_err-fault-clause-puts g c = handed_on (Puts c.args.name.now c.args.bytes.now (string_bytes c.args.text) (seen g.S.Shelf c.args.shelf.now) (seen g.S.Shelf c.args.shelf.now)) _ halts.Memory c.from_residual.ensures.1 refl

pub returns-in_err-fault-clause-moves : goal.returns-in_err-fault-clause-moves
returns-in_err-fault-clause-moves g c = only_moves (seen g.S.Shelf c.args.shelf.now) (seen g.S.Shelf c.args.shelf.now) (no_step (seen g.S.Shelf c.args.shelf.now))
