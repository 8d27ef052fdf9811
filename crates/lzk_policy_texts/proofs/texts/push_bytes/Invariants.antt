use Rattle.std.proofs.Common.{◌≡◌, ◌++◌, drop}
use Rattle.std.specs.Prelude.{string_bytes}
use Rattle.lzk_policy_texts.specs.Bytes.{shown_bytes}
use Rattle.lzk_policy_texts.proofs.texts.push_bytes.Given as goal

abbrev pub invariant-loop-b : goal.invariant-loop-b
invariant-loop-b l = string_bytes l.text ++ shown_bytes (drop l.b-index l.bytes) ≡ string_bytes l.fn.text ++ shown_bytes l.bytes
