use Rattle.std.proofs.Common.{refl}
use Rattle.lzk_layout.specs.Fields.{shape}
use Rattle.lzk_layout.proofs.Faults.{proof_left, fault_found, one_fault}
use Rattle.lzk_layout.proofs.Lengths.{file_length}
use Rattle.lzk_layout.proofs.OneProof.{proof_takes, one_proof, no_proof, no_fault}
use Rattle.lzk_layout.proofs.ReadProof.{some_proof}
use Rattle.lzk_layout_decode.proofs.decoding.decode_proof.Goals as goal

pub overflow_sub-result : goal.overflow_sub-result
overflow_sub-result g c = proof_left (shape g.F.Field.coding.bytes g.F.Field.coding.size) c.args.params.now c.args.bytes.now c.in-Err.stop c.in-Err.ensures.read

pub returns-in-Ok-clause-proof : goal.returns-in-Ok-clause-proof
returns-in-Ok-clause-proof g c =
    let h = c.in-Ok.ensures in
    record {
      lengths = h.lengths;
      few = h.few;
      id = h.id;
      root = h.root;
      nonces = h.nonces;
      path = h.path;
      are = proof_takes (shape g.F.Field.coding.bytes g.F.Field.coding.size) c.args.params.now c.args.bytes.now _ h.read;
    }

pub returns-in-Ok-clause-read : goal.returns-in-Ok-clause-read
returns-in-Ok-clause-read g c = λ q f. (
  refl,
  one_proof g.F.Field.ops g.F.Field.coding.size g.F.Field.coding.number g.F.Field.coding.element g.F.Field.coding.bytes g.F.Field.laws c.args.params.now c.args.bytes.now q c.file_into.new.proof f (returns-in-Ok-clause-proof g c),
)

pub returns-in-Ok-clause-one_proof : goal.returns-in-Ok-clause-one_proof
returns-in-Ok-clause-one_proof g c = one_proof g.F.Field.ops g.F.Field.coding.size g.F.Field.coding.number g.F.Field.coding.element g.F.Field.coding.bytes g.F.Field.laws c.args.params.now

pub returns-in-Ok-clause-no_fault : goal.returns-in-Ok-clause-no_fault
returns-in-Ok-clause-no_fault g c = no_fault g.F.Field.ops g.F.Field.coding.size g.F.Field.coding.number g.F.Field.coding.element g.F.Field.coding.bytes g.F.Field.laws c.args.params.now

pub returns-in-Err-clause-fault : goal.returns-in-Err-clause-fault
returns-in-Err-clause-fault g c = fault_found (shape g.F.Field.coding.bytes g.F.Field.coding.size) c.args.params.now c.args.bytes.now c.in-Err.stop.left c.in-Err.stop.kind c.in-Err.ensures.read

pub returns-in-Err-clause-no_proof : goal.returns-in-Err-clause-no_proof
returns-in-Err-clause-no_proof g c =
    no_proof g.F.Field.ops g.F.Field.coding.size g.F.Field.coding.number g.F.Field.coding.element g.F.Field.coding.bytes g.F.Field.laws c.args.params.now c.args.bytes.now c.in-Err.stop c.in-Err.ensures.read

pub returns-in-Err-clause-read : goal.returns-in-Err-clause-read
returns-in-Err-clause-read g c = λ q f. absurd (returns-in-Err-clause-no_proof g c q f)

pub returns-in-Err-clause-one_proof : goal.returns-in-Err-clause-one_proof
returns-in-Err-clause-one_proof g c = one_proof g.F.Field.ops g.F.Field.coding.size g.F.Field.coding.number g.F.Field.coding.element g.F.Field.coding.bytes g.F.Field.laws c.args.params.now

pub returns-in-Err-clause-no_fault : goal.returns-in-Err-clause-no_fault
returns-in-Err-clause-no_fault g c = no_fault g.F.Field.ops g.F.Field.coding.size g.F.Field.coding.number g.F.Field.coding.element g.F.Field.coding.bytes g.F.Field.laws c.args.params.now

pub returns-in-Ok-clause-length : goal.returns-in-Ok-clause-length
returns-in-Ok-clause-length g c = file_length g.F.Field.coding.bytes g.F.Field.coding.number c.args.params.now c.file_into.new.proof c.args.bytes.now (returns-in-Ok-clause-proof g c)

pub returns-in-Ok-clause-some_proof : goal.returns-in-Ok-clause-some_proof
returns-in-Ok-clause-some_proof g c = some_proof g.F.Field.ops g.F.Field.coding.size g.F.Field.coding.number g.F.Field.coding.element g.F.Field.coding.bytes g.F.Field.laws c.args.params.now

pub returns-in-Err-clause-some_proof : goal.returns-in-Err-clause-some_proof
returns-in-Err-clause-some_proof g c = some_proof g.F.Field.ops g.F.Field.coding.size g.F.Field.coding.number g.F.Field.coding.element g.F.Field.coding.bytes g.F.Field.laws c.args.params.now

pub file_into-requires-clause-lengths : goal.file_into-requires-clause-lengths
file_into-requires-clause-lengths g c κs within = c.requires.lengths

pub file_into-requires-clause-room : goal.file_into-requires-clause-room
file_into-requires-clause-room g c κs within = c.requires.room

pub returns-in-Ok-clause-lengths : goal.returns-in-Ok-clause-lengths
returns-in-Ok-clause-lengths g c = c.in-Ok.ensures.lengths

pub returns-in-Ok-clause-room : goal.returns-in-Ok-clause-room
returns-in-Ok-clause-room g c = c.in-Ok.ensures.room

pub returns-in-Ok-clause-one_fault : goal.returns-in-Ok-clause-one_fault
returns-in-Ok-clause-one_fault g c = one_fault (shape g.F.Field.coding.bytes g.F.Field.coding.size) c.args.params.now

pub returns-in-Err-clause-lengths : goal.returns-in-Err-clause-lengths
returns-in-Err-clause-lengths g c = c.in-Err.ensures.lengths

pub returns-in-Err-clause-room : goal.returns-in-Err-clause-room
returns-in-Err-clause-room g c = c.in-Err.ensures.room

pub returns-in-Err-clause-one_fault : goal.returns-in-Err-clause-one_fault
returns-in-Err-clause-one_fault g c = one_fault (shape g.F.Field.coding.bytes g.F.Field.coding.size) c.args.params.now
