use Rattle.std.proofs.Common.{◌≡◌, ◌++◌, length, take, sym, ap, ◌∙◌, arith, subst}
use Rattle.std.proofs.Math.Seq.{take-append_seam}
use Rattle.std.proofs.lemmas.List.{length-append}
use Rattle.lzk_layout.specs.Proofs.{ProofBytes}
use Rattle.lzk_layout.specs.Sizes.{proof_length}
use Rattle.lzk_ligero_steps.proofs.writing.write_file.Goals as goal

pub overflow_cast-len : goal.overflow_cast-len
overflow_cast-len g c = omega (arith, c.len.ensures, c.requires.few)

pub proof_len-len-requires-after_bounds : goal.proof_len-len-requires-after_bounds
proof_len-len-requires-after_bounds g c κs within = c.params_laws.ensures

pub split_at_mut-file-requires : goal.split_at_mut-file-requires
split_at_mut-file-requires g c = omega (arith, c.proof_len-len.ensures.length, c.requires.room, c.len.ensures, c.requires.few)

pub encode_proof-requires-clause-params : goal.encode_proof-requires-clause-params
encode_proof-requires-clause-params g c κs within = c.params_laws.ensures

pub encode_proof-requires-clause-lengths : goal.encode_proof-requires-clause-lengths
encode_proof-requires-clause-lengths g c κs within = c.requires.lengths

pub encode_proof-requires-clause-few : goal.encode_proof-requires-clause-few
encode_proof-requires-clause-few g c κs within = c.requires.few

pub encode_proof-requires-clause-room : goal.encode_proof-requires-clause-room
encode_proof-requires-clause-room g c κs within =
    c.split_at_mut-file.ensures.front_len ∙ c.proof_len-len.ensures.length ∙ ap (proof_length g.F.Field.coding.bytes c.args.plan.now.params) c.len.ensures

pub returns-clause-file : goal.returns-clause-file
returns-clause-file g c =
    let e = g.F.Field.coding in
    let file = c.encode_proof.new.out in
    let rest = c.split_at_mut-file.result.1.now in
    let size : length file ≡ c.proof_len-len.result = omega (arith, c.encode_proof.auto.out, c.split_at_mut-file.ensures.front_len) in
    subst (ProofBytes e.bytes e.number c.args.plan.now.params c.args.proof.now) (sym (ap (λ n. take n (file ++ rest)) (sym size) ∙ take-append_seam file rest)) c.encode_proof.ensures.file

pub returns-clause-inside : goal.returns-clause-inside
returns-clause-inside g c =
    omega (arith, length-append c.encode_proof.new.out c.split_at_mut-file.result.1.now, c.encode_proof.auto.out, c.split_at_mut-file.ensures.front_len)

pub returns-clause-room : goal.returns-clause-room
returns-clause-room g c =
    let cut = c.split_at_mut-file in
    omega (
      arith,
      length-append c.encode_proof.new.out cut.result.1.now,
      c.encode_proof.auto.out,
      ap length cut.ensures.value,
      length-append cut.result.0.now cut.result.1.now,
    )
