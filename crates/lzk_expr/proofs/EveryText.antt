-- Every text is a source or has a first fault.
use Rattle.std.proofs.Common.{ℕ, ◌+◌, Bool, true, false, List, [], ◌∷◌, length, Ok, Err, Result, refl}
use Rattle.lzk_expr.specs.declared.source_fault.SourceKind.{SourceKind}
use Rattle.lzk_expr.specs.declared.source_fault.SourceFault.{SourceFault}
use Rattle.lzk_expr.specs.SomeReading.{SomeReading}
use Rattle.lzk_expr.specs.Sources.{Before, nothing_yet, line_read, LineReads, LineThen, LineAt, LinesRead, ended_read}
use Rattle.lzk_expr.specs.Texts.{lines, content}
use Rattle.lzk_expr.specs.Tokens.{tokens, is_empty_line}
use Rattle.lzk_expr.proofs.Forms.{formed}

some_step : (b : Before) (bytes : List ℕ) → (step : Result Before SourceKind) × LineReads b bytes step
some_step b bytes = let f = formed (tokens bytes) in (line_read b bytes f.form, record { form = f.form; is_form = f.is_form; read_is = refl })

module _ (rest : Result Before SourceFault → Before → Type 0) (behind : (next : Before) → (read : Result Before SourceFault) × rest read next) (n : ℕ) where
  some_then : (step : Result Before SourceKind) → (read : Result Before SourceFault) × LineThen n read (rest read) step
  some_then (Err kind) = (Err (record { line = n; kind = kind }), refl)
  some_then (Ok next) = behind next

  some_at : (b : Before) (bytes : List ℕ) (empty : Bool) → (read : Result Before SourceFault) × LineAt n b bytes read (rest read) empty
  some_at b bytes true = behind b
  some_at b bytes false = let (step, reads) = some_step b bytes in let (read, then) = some_then step in (read, (step, reads, then))

some_lines : (ls : List (List ℕ)) (n : ℕ) (b : Before) → (read : Result Before SourceFault) × LinesRead n b ls read
unfolding LinesRead
some_lines [] n b = (Ok b, refl)
some_lines (l ∷ ls) n b = some_at (λ read next. LinesRead (n + 1) next ls read) (some_lines ls (n + 1)) n b (content l) (is_empty_line (content l))

pub some_reading : SomeReading
some_reading text =
    let (all, reads) = some_lines (lines text) 1 nothing_yet in
    (ended_read (length (lines text)) all, record { all = all; lines_read = reads; read_is = refl })
