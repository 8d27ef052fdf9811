use Rattle.std.proofs.Common.{◌++◌, ap, map, take, ◌∙◌}
use Rattle.lzk_goldilocks.specs.Elements.{of_number}
use Rattle.lzk_sha_circuit.specs.Digest.{digest_words}
use Rattle.lzk_sha_blocks.specs.Witness.{digest_private}
use Rattle.lzk_policy_inputs.proofs.Pieces.{always, two_more}
use Rattle.lzk_policy_inputs.proofs.append.Draft.append_seal.Goals as goal

pub returns-clause-stated : goal.returns-clause-stated
returns-clause-stated c =
    let told = c.deref.ensures.value ∙ c.in_ok-message.ensures.message in
    let front = c.split_at.ensures.front ∙ ap (take 160) (c.deref-2.ensures.value ∙ (c.in_ok-inputs.ensures.private ∙ ap (digest_private of_number) told)) in
    let words = c.deref-3.ensures.value ∙ (c.in_ok-inputs.ensures.public ∙ ap (λ m. map of_number (digest_words m)) told) in
    always c.extend_from_slice-3.result _
    (two_more c.args.self.now.stated.items _ _ _ _ (c.in_ok-extend_from_slice.ensures.items ∙ ap (λ l. c.args.self.now.stated.items ++ l) front) (c.in_ok-extend_from_slice-2.ensures.items ∙ ap (λ l. c.extend_from_slice.new.self.items ++ l) words))
