use Rattle.std.proofs.Common.{◌≡◌, length}
use Rattle.lzk_ligero_steps.proofs.opening.clear_path.Given as goal

abbrev pub invariant-loop : goal.invariant-loop
invariant-loop l = (length l.path.digests ≡ l.counter) × (l.path.room ≡ l.fn.path.room)
