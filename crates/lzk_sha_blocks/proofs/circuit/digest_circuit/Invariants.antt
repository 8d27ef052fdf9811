use Rattle.std.proofs.Common.{◌≡◌, ◌↔◌, List, length}
use Rattle.lzk_goldilocks.specs.Elements.{ops, number, of_number}
use Rattle.lzk_goldilocks.specs.declared.element.Gold.{Gold}
use Rattle.lzk_circuit.specs.Checks.{IsSatisfied}
use Rattle.lzk_circuit.specs.Wires.{inputs_of}
use Rattle.lzk_sha_blocks.specs.Hashed.{AreBlocksSatisfied}
use Rattle.lzk_sha_blocks.specs.Layout.{private_count}
use Rattle.lzk_sha_blocks.proofs.circuit.digest_circuit.Given as goal

abbrev pub invariant-loop-i : goal.invariant-loop-i
invariant-loop-i l = record {
  version : l.whole.version ≡ 1;
  publics : l.whole.publics ≡ 8;
  privates : l.whole.privates ≡ private_count l.len;
  satisfied : (public private : List Gold) → length public ≡ 8 → length private ≡ private_count l.len
      → IsSatisfied ops number l.whole.layers (inputs_of ops public private) ↔ AreBlocksSatisfied ops of_number l.len (inputs_of ops public private) l.i;
}
