use Rattle.std.proofs.Common.{◌≡◌, ◌-◌, map}
use Rattle.lzk_goldilocks.specs.Elements.{of_number}
use Rattle.lzk_sha_blocks.specs.Witness.{state_of}
use Rattle.lzk_sha_blocks.proofs.Filled.{front_of}
use Rattle.lzk_sha_blocks.proofs.inputs.digest_inputs.Given as goal

abbrev pub invariant-loop-i : goal.invariant-loop-i
invariant-loop-i l = record {
  public : l.public.items ≡ map of_number (state_of l.message l.i);
  private : l.private.items ≡ front_of of_number l.message (l.i - 1);
}
