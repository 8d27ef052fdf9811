use Rattle.std.proofs.Common.{List, ℕ, ◌∷◌, [], ap, ◌∙◌}
use Rattle.sha2.specs.Sha256.{word_at}
use Rattle.lzk_sha_circuit.specs.Digest.{digest_words}
use Rattle.lzk_policy_inputs.proofs.seal.seal_words.Goals as goal

pub returns : goal.returns
unfolding digest_words
returns c =
    (λ i. (c.from.ensures ∙ c.word_at.ensures) i ∷ (c.from-2.ensures ∙ c.word_at-2.ensures) i ∷ (c.from-3.ensures ∙ c.word_at-3.ensures) i ∷ (c.from-4.ensures ∙ c.word_at-4.ensures) i
    ∷ (c.from-5.ensures ∙ c.word_at-5.ensures) i ∷ (c.from-6.ensures ∙ c.word_at-6.ensures) i ∷ (c.from-7.ensures ∙ c.word_at-7.ensures) i ∷ (c.from-8.ensures ∙ c.word_at-8.ensures) i ∷ [])
    ∙ ap words c.seal_digest-digest.ensures where
      words : List ℕ → List ℕ
      words d = word_at d 0 ∷ word_at d 4 ∷ word_at d 8 ∷ word_at d 12 ∷ word_at d 16 ∷ word_at d 20 ∷ word_at d 24 ∷ word_at d 28 ∷ []
