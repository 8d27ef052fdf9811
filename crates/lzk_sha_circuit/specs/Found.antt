-- What the circuit of a compression is made from.
use Rattle.lzk_sha_circuit.specs.declared.given.Given.{Given}
use Rattle.lzk_sha_circuit.specs.Places.{Places}

abbrev pub places_of : Given → Places
places_of g = record { inputs = g.inputs; state = g.state.items; block = g.block.items }
