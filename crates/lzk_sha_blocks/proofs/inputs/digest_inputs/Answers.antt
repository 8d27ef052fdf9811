use Rattle.std.proofs.Common.{◌≡◌, suc, ◌+◌, ◌-◌, ◌≤◌, ◌∙◌, ◌++◌, [], List, length, map, take, ap, sym, subst, arith}
use Rattle.std.proofs.lemmas.List.{length-map}
use Rattle.sha2.specs.Sha256.{compress, hash_after, initial_hash_256, padded_message}
use Rattle.lzk_goldilocks.specs.Prime.{p}
use Rattle.lzk_goldilocks.specs.Elements.{ops, number, of_number}
use Rattle.lzk_goldilocks.specs.declared.element.Gold.{Gold}
use Rattle.lzk_sha_circuit.specs.Digest.{AreBytes, HaveDigest}
use Rattle.lzk_sha_circuit.specs.Inputs.{compression_private}
use Rattle.lzk_sha_circuit.proofs.Numbered.{gold_numbered}
use Rattle.lzk_sha_blocks.specs.Hashed.{AreHashing}
use Rattle.lzk_sha_blocks.specs.Layout.{blocks}
use Rattle.lzk_sha_blocks.specs.Witness.{state_of, digest_private}
use Rattle.lzk_sha_blocks.proofs.Filled.{front_none, front_more, front_all, small_words, words_back, block_slice}
use Rattle.lzk_sha_blocks.proofs.Filling.{are_hashing, has_digest, length-digest_private}
use Rattle.lzk_sha_blocks.proofs.Steps.{is_state, next_state, digest_words_are, length-padded}
use Rattle.lzk_sha_blocks.proofs.inputs.digest_inputs.Goals as goal

pub loop-i-init : goal.loop-i-init
unfolding hash_after
loop-i-init c =
    let m = c.args.message.now in
    let all : c.deref.result.now ≡ padded_message m = c.deref.ensures.value ∙ c.in_ok-padded.ensures in
    record {
      public = c.in_ok-public.ensures.words ∙ (λ j. map of_number (compress initial_hash_256 (take 64 (all j))));
      private =
          front_none of_number m c.new-private.result.items c.write_message.new.bits.items c.add_block.new.private.items c.new-private.ensures.items c.in_ok-write_message.ensures
          (c.in_ok-public.ensures.added ∙ (λ j. c.write_message.new.bits.items ++ compression_private of_number [] initial_hash_256 (take 64 (all j))));
    }

pub numbers_of-requires : goal.numbers_of-requires
numbers_of-requires c = small_words c.deref-in-loop-i-2.result.now c.args.message.now c.loop-i.i (c.deref-in-loop-i-2.ensures.value ∙ c.loop-i.invariant.public)

pub state_from-state-requires : goal.state_from-state-requires
state_from-state-requires c =
    let m = c.args.message.now in
    let is = is_state m c.loop-i.i in
    ap length (c.deref-in-loop-i-3.ensures.value ∙ c.in_ok-words.ensures) ∙ length-map c.deref-in-loop-i-2.result.now number
    ∙ ap length (c.deref-in-loop-i-2.ensures.value ∙ c.loop-i.invariant.public) ∙ length-map (state_of m c.loop-i.i) of_number ∙ is.eight

pub loop-i-preserved : goal.loop-i-preserved
loop-i-preserved c =
    let m = c.args.message.now in
    let i = c.loop-i.i in
    let some : 1 ≤ i = omega arith in
    let all : c.deref-in-loop-i-4.result.now ≡ padded_message m = c.deref-in-loop-i-4.ensures.value ∙ c.in_ok-padded.ensures in
    let state : c.state_from-state.result ≡ state_of m i =
    c.state_from-state.ensures ∙ c.deref-in-loop-i-3.ensures.value ∙ c.in_ok-words.ensures ∙ ap (map number) (c.deref-in-loop-i-2.ensures.value ∙ c.loop-i.invariant.public) ∙ words_back m i in
    let block = block_slice c.deref-in-loop-i-4.result.now (padded_message m) i all in
    let next : suc i ≡ i + 1 = omega arith in
    record {
      public = c.in_ok-next.ensures.words ∙ (λ j. map of_number (compress (state j) (block j))) ∙ ap (map of_number) (next_state m i ∙ ap (state_of m) next);
      private =
          front_more of_number m i c.loop-i.private.items c.deref-in-loop-i.result.now c.extend_from_slice.new.self.items c.add_block-in-loop-i.new.private.items some
          c.loop-i.invariant.private c.in_ok-extend_from_slice.ensures.items (c.deref-in-loop-i.ensures.value ∙ c.loop-i.invariant.public)
          (c.in_ok-next.ensures.added ∙ (λ j. c.extend_from_slice.new.self.items ++ compression_private of_number [] (state j) (block j)));
    }

pub returns-clause-public : goal.returns-clause-public
returns-clause-public c =
    let m = c.args.message.now in
    let all = ap length c.in_ok-padded.ensures in
    let long = length-padded m in
    let end : c.loop-i.i ≡ blocks (length m) = omega (arith, all, long) in
    c.loop-i.invariant.public ∙ ap (map of_number) (ap (state_of m) end ∙ sym (digest_words_are m))

pub returns-clause-private : goal.returns-clause-private
returns-clause-private c =
    let m = c.args.message.now in
    let all = ap length c.in_ok-padded.ensures in
    let long = length-padded m in
    let end : c.loop-i.i - 1 ≡ blocks (length m) - 1 = omega (arith, all, long) in
    c.loop-i.invariant.private ∙ front_all of_number m (c.loop-i.i - 1) end

pub returns-clause-privates : goal.returns-clause-privates
returns-clause-privates c = ap length (returns-clause-private c) ∙ length-digest_private of_number ops.zero c.args.message.now

pub returns-clause-satisfying : goal.returns-clause-satisfying
returns-clause-satisfying c =
    let m = c.args.message.now in
    let bytes : AreBytes m = λ k lt. omega (arith, c.type_inv.message k) in
    subst (λ (l : List Gold). AreHashing ops of_number (length m) c.loop-i.public.items l) (sym (returns-clause-private c))
    (subst (λ (l : List Gold). AreHashing ops of_number (length m) l (digest_private of_number m)) (sym (returns-clause-public c)) (are_hashing ops of_number p gold_numbered (omega arith) m bytes))

pub returns-clause-digest : goal.returns-clause-digest
returns-clause-digest c =
    let m = c.args.message.now in
    let bytes : AreBytes m = λ k lt. omega (arith, c.type_inv.message k) in
    subst (λ (l : List Gold). HaveDigest of_number c.loop-i.public.items l m) (sym (returns-clause-private c))
    (subst (λ (l : List Gold). HaveDigest of_number l (digest_private of_number m) m) (sym (returns-clause-public c)) (has_digest ops of_number p gold_numbered (omega arith) m bytes))
