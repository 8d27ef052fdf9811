-- The formats of the files that a run reads.
use Rattle.std.specs.Prelude.{◌≡◌, ℕ, List, map}
use Rattle.lzk_circbytes.specs.declared.any.AnyCircuit.{AnyCircuit}
use Rattle.lzk_circbytes.specs.declared.fault.ByteKind.{ByteKind}
use Rattle.lzk_circbytes.specs.Files.{CircuitBytes, CircuitFaultAt, most_file}
use Rattle.lzk_expr.specs.declared.fault.NumberFault.{NumberFault}
use Rattle.lzk_expr.specs.Numbers.{NumberText, IsNumberFault}
use Rattle.lzk_expr.specs.declared.source_fault.SourceFault.{SourceFault}
use Rattle.lzk_expr.specs.Sources.{SourceText, IsSourceFault}
use Rattle.lzk_expr.specs.Trees.{SourceTree}
use Rattle.lzk_level.specs.declared.fault.LevelFault.{LevelFault}
use Rattle.lzk_cmd_files.specs.Ends.{End, says}
use Rattle.lzk_cmd_files.specs.Formats.{Format}
use Rattle.lzk_cmd_files.specs.Lines.{byte_line, byte_kind_name, text_line, number_kind_name, source_kind_name, level_line}

abbrev pub circuit_limit : ℕ
circuit_limit = most_file

-- circuit files, with the offset and the kind of a fault
abbrev pub circuit_files : Format AnyCircuit (ℕ × ByteKind)
circuit_files = record {
  limit = circuit_limit;
  means = λ bytes c. CircuitBytes c bytes;
  breaks = λ bytes fault. CircuitFaultAt bytes fault.0 fault.1;
  refused = λ name fault. says 3 (byte_line name fault.0 (byte_kind_name fault.1));
}

abbrev pub text_limit : ℕ
text_limit = 4194304

-- files of so many numbers of a field
abbrev pub number_files : {A : Type 0} → ℕ → (A → ℕ) → ℕ → Format (List A) NumberFault
number_files size number count = record {
  limit = text_limit;
  means = λ text values. NumberText size count text (map number values);
  breaks = IsNumberFault size count;
  refused = λ name fault. says 3 (text_line name fault.line (number_kind_name fault.kind));
}

-- sources
abbrev pub source_files : Format SourceTree SourceFault
source_files = record {
  limit = text_limit;
  means = SourceText;
  breaks = IsSourceFault;
  refused = λ name fault. says 3 (text_line name fault.line (source_kind_name fault.kind));
}

abbrev pub proof_limit : ℕ
proof_limit = 2097152

-- files of proofs, which are taken as they are: no contents are refused
abbrev pub proof_files : Format (List ℕ) ⊥
proof_files = record {
  limit = proof_limit;
  means = λ bytes file. file ≡ bytes;
  breaks = λ bytes fault. ⊥;
  refused = λ name fault. absurd fault;
}

-- a source whose circuit passes a limit
abbrev pub level_refused : List ℕ → LevelFault → End
level_refused name fault = says 3 (level_line name fault)
