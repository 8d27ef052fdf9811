use Rattle.std.proofs.Common.{◌≡◌, ◌++◌}
use Rattle.sha2.specs.Sha256.{digest_bytes}
use Rattle.lzk_sha_path.proofs.inputs.push_node.Given as goal

abbrev pub invariant-loop-i : goal.invariant-loop-i
invariant-loop-i l = l.block.items ≡ l.initial.block.items ++ digest_bytes l.node l.i
