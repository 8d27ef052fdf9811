use Rattle.std.proofs.Common.{◌≡◌, ◌++◌, map, take}
use Rattle.lzk_transcript.proofs.written.Written.append.Given as goal

abbrev pub invariant-loop-byte : goal.invariant-loop-byte
invariant-loop-byte l = map (λ entry. entry.0) l.self-inside.log.items ≡ l.fn.self ++ take l.byte-index l.bytes
