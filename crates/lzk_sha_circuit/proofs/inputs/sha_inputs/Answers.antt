use Rattle.std.proofs.Common.{◌∙◌, ◌++◌, List, length, map, ap, sym, subst, arith}
use Rattle.std.specs.List.{flat_map}
use Rattle.sha2.specs.Sha256.{compress, initial_hash_256, padded_message}
use Rattle.lzk_goldilocks.specs.Prime.{p}
use Rattle.lzk_goldilocks.specs.Elements.{ops, of_number}
use Rattle.lzk_goldilocks.specs.declared.element.Gold.{Gold}
use Rattle.lzk_sha_circuit.specs.Outputs.{AreSatisfying}
use Rattle.lzk_sha_circuit.specs.Digest.{AreBytes, HaveDigest, digest_words}
use Rattle.lzk_sha_circuit.specs.Inputs.{bit_list, compression_private, sha_private}
use Rattle.lzk_sha_circuit.proofs.Numbered.{gold_numbered}
use Rattle.std.proofs.lemmas.List.{length-map}
use Rattle.lzk_sha_circuit.proofs.Compressed.{length-compress}
use Rattle.lzk_sha_circuit.proofs.Digests.{length-padded}
use Rattle.lzk_sha_circuit.proofs.Messages.{digest_words_are, satisfied, has_digest, length-sha_private}
use Rattle.lzk_sha_circuit.proofs.inputs.sha_inputs.Goals as goal

pub compression_inputs-requires : goal.compression_inputs-requires
compression_inputs-requires c = ap length (c.deref.ensures.value ∙ c.in_ok-block.ensures) ∙ length-padded c.args.message.now c.requires

pub returns : goal.returns
returns c =
    let m = c.args.message.now in
    let bytes : AreBytes m = λ k lt. omega (arith, c.type_inv.message k) in
    let block = c.deref.ensures.value ∙ c.in_ok-block.ensures in
    let bits = c.in_ok-write_message.ensures ∙ (λ i. c.new-bits.ensures.items i ++ flat_map (bit_list of_number 8) m) in
    let public = c.in_ok-inputs.ensures.publics ∙ (λ i. map of_number (compress initial_hash_256 (block i))) ∙ ap (map of_number) (sym (digest_words_are m c.requires)) in
    let private = c.in_ok-inputs.ensures.privates ∙ (λ i. compression_private of_number (bits i) initial_hash_256 (block i)) in
    let good = satisfied ops of_number p gold_numbered m c.requires bytes in
    let digest = has_digest ops of_number p gold_numbered m c.requires bytes in
    let eight = length-compress initial_hash_256 (padded_message m) in
    record {
      publics = ap length public ∙ length-map (digest_words m) of_number ∙ ap length (digest_words_are m c.requires) ∙ eight;
      privates = ap length private ∙ length-sha_private ops of_number p gold_numbered m c.requires bytes;
      satisfying =
          subst (λ (l : List Gold). AreSatisfying ops of_number (length m) c.in_ok-inputs.inputs.public.items l) (sym private)
          (subst (λ (l : List Gold). AreSatisfying ops of_number (length m) l (sha_private of_number m)) (sym public) good);
      digest =
          subst (λ (l : List Gold). HaveDigest of_number c.in_ok-inputs.inputs.public.items l m) (sym private)
          (subst (λ (l : List Gold). HaveDigest of_number l (sha_private of_number m) m) (sym public) digest);
      exact = private;
    }
