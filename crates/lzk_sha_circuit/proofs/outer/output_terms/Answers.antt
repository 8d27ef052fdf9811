use Rattle.lzk_goldilocks.specs.Elements.{ops, of_number}
use Rattle.lzk_sha_circuit.specs.Found.{places_of}
use Rattle.lzk_sha_circuit.specs.Layers.{inner_count, output_rows}
use Rattle.lzk_sha_circuit.proofs.Growth.{built_from}
use Rattle.lzk_sha_circuit.proofs.outer.output_terms.Goals as goal

pub returns : goal.returns
returns c =
    let given = places_of c.args.given.now in
    built_from ops (inner_count given) (output_rows ops of_number given) c.push_outputs.new.terms.items c.new-terms.result.items c.new-terms.ensures.items c.in_ok-push_outputs.ensures
