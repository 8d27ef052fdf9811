use Rattle.std.proofs.Common.{◌≡◌, ◌∙◌, ◌↔◌, ap, sym, subst}
use Rattle.lzk_goldilocks.specs.Elements.{ops, number, of_number}
use Rattle.lzk_circuit.specs.Checks.{IsSatisfied}
use Rattle.lzk_circuit.specs.Wires.{inputs_of}
use Rattle.lzk_sha_circuit.specs.Found.{places_of}
use Rattle.lzk_sha_circuit.specs.Outputs.{AreCompressing}
use Rattle.lzk_sha_circuit.specs.Places.{Places, total_count}
use Rattle.lzk_sha_blocks.specs.Layout.{block_places}
use Rattle.lzk_sha_blocks.proofs.circuit.block_circuit.Goals as goal

pub returns : goal.returns
returns c =
    let same : places_of c.in_ok-given.given ≡ block_places c.args.block.len c.args.block.i = c.in_ok-given.ensures in
    let made = c.in_ok-circuit.ensures in
    record {
      version = made.version;
      publics = made.publics;
      privates = made.privates ∙ ap total_count same;
      satisfied = λ public private short long.
          subst (λ (g : Places). IsSatisfied ops number c.in_ok-circuit.circuit.layers (inputs_of ops public private) ↔ AreCompressing ops of_number g public private) same
          (made.satisfied public private short (long ∙ ap total_count (sym same)));
    }
