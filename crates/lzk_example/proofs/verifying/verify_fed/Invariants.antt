use Rattle.std.proofs.Common.{◌≡◌, true}
use Rattle.lzk_verify.specs.Kept.{is_fed}
use Rattle.lzk_example.proofs.verifying.verify_fed.Given as goal

abbrev pub invariant-loop-piece : goal.invariant-loop-piece
invariant-loop-piece g l = record { fed : is_fed l.verifier ≡ true; circuit : l.verifier.circuit ≡ l.fn.verifier.circuit }
