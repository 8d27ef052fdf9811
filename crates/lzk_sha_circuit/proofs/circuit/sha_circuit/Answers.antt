use Rattle.std.proofs.Common.{◌≡◌, ◌∙◌, ap, sym}
use Rattle.lzk_goldilocks.specs.Elements.{ops, of_number}
use Rattle.lzk_sha_circuit.specs.Found.{places_of}
use Rattle.lzk_sha_circuit.specs.Outputs.{compression_outputs}
use Rattle.lzk_sha_circuit.specs.Places.{Places, message_places, total_count}
use Rattle.lzk_sha_circuit.proofs.circuit.sha_circuit.Goals as goal

pub returns : goal.returns
returns c =
    let same : places_of c.in_ok-given.given ≡ message_places c.args.len = c.in_ok-given.ensures in
    let made = c.in_ok-circuit.ensures in
    record {
      version = made.version;
      publics = made.publics;
      privates = made.privates ∙ ap total_count same;
      layers = made.layers;
      outputs = λ public private short long.
          made.outputs public private short (long ∙ ap total_count (sym same))
          ∙ ap (λ (g : Places). compression_outputs ops of_number g public private) same;
      reduced = made.reduced;
    }
