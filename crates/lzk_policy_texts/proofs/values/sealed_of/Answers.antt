use Rattle.std.proofs.Common.{◌≡◌, ℕ, List, length, refl, ◌∙◌, arith}
use Rattle.std.proofs.lemmas.List.{take_all}
use Rattle.hex.specs.Hex.{decode_sized}
use Rattle.lzk_policy_texts.specs.Chosen.{sealed_in, sealed_of}
use Rattle.lzk_policy_texts.proofs.values.sealed_of.Goals as goal

-- a secret of 16 bytes is its first 16 bytes
sealed_is : (secret word own : List ℕ) → length secret ≡ 16 → own ≡ secret → sealed_in own (decode_sized word 16) ≡ sealed_of secret word
unfolding sealed_of
sealed_is secret word own size same = rw (same, size) refl

pub returns-in-Some : goal.returns-in-Some
returns-in-Some c =
    let size : length c.args.secret.now ≡ 16 = search in
    c.beside_secret.ensures ∙ sealed_is c.args.secret.now c.args.word.now c.in-Some.own.now size (c.in-Some.ensures.cases.same ∙ take_all 16 c.args.secret.now (omega (arith, size)))
