-- The lines by which a run refuses what is under a name.
use Rattle.std.specs.Prelude.{◌≡◌, ℕ, List, codes}
use Rattle.lzk_circbytes.specs.declared.fault.ByteKind.{ByteKind}
use Rattle.lzk_expr.specs.declared.fault.NumberKind.{NumberKind}
use Rattle.lzk_expr.specs.declared.source_fault.SourceKind.{SourceKind}
use Rattle.lzk_level.specs.declared.fault.LevelFault.{LevelFault}
use Rattle.lzk_cmd_files.specs.Lines.{missing_line, larger_line, byte_line, byte_kind_name, text_line, number_kind_name, source_kind_name, level_line, unfit_line}

-- what a line of a list of jobs breaks: the form of a line, or a limit
pub data ListBreak : Type 0 where
  Form : ListBreak
  Limit : ListBreak

abbrev pub list_break_name : ListBreak → List ℕ
list_break_name Form = codes "Syntax"
list_break_name Limit = codes "Limit"

-- what is refused: a missing file, one that is larger than a limit, the contents of a circuit's, number or source file
-- or of a list, a source that passes a limit, or a circuit that is not for messages of so many bytes
pub data Refusal : Type 0 where
  Missing : List ℕ → Refusal
  Larger : List ℕ → ℕ → Refusal
  Bytes : List ℕ → ℕ → ByteKind → Refusal
  Numbers : List ℕ → ℕ → NumberKind → Refusal
  Source : List ℕ → ℕ → SourceKind → Refusal
  Jobs : List ℕ → ℕ → ListBreak → Refusal
  Level : List ℕ → LevelFault → Refusal
  Unfit : List ℕ → ℕ → Refusal

abbrev pub refusal_line : Refusal → List ℕ
refusal_line (Missing name) = missing_line name
refusal_line (Larger name limit) = larger_line name limit
refusal_line (Bytes name offset kind) = byte_line name offset (byte_kind_name kind)
refusal_line (Numbers name number kind) = text_line name number (number_kind_name kind)
refusal_line (Source name number kind) = text_line name number (source_kind_name kind)
refusal_line (Jobs name number kind) = text_line name number (list_break_name kind)
refusal_line (Level name fault) = level_line name fault
refusal_line (Unfit name len) = unfit_line name len

-- such a line tells of a missing file only where one was missed
abbrev pub MayRefuse : Type 0 → Refusal → Type 0
MayRefuse missed (Missing name) = missed
MayRefuse missed refusal = Unit {0}

-- Why contents are refused: the line tells it. A missing file is told only where one was missed.
pub record IsRefusal (missed : Type 0) (text : List ℕ) : Type 0 where
  pub refusal : Refusal
  pub line : text ≡ refusal_line refusal
  pub may : MayRefuse missed refusal
