use Rattle.std.proofs.Common.{◌++◌, ap, length, ◌∙◌}
use Rattle.lzk_policy_inputs.specs.Filled.{front_of, rest_of}
use Rattle.lzk_policy_inputs.proofs.Pieces.{two_more}
use Rattle.lzk_policy_inputs.proofs.append.Draft.append_sealed.Goals as goal

pub returns-clause-stated : goal.returns-clause-stated
returns-clause-stated c =
    let told = c.deref.ensures.value ∙ c.in_ok-message.ensures.message in
    let size = ap length c.deref.ensures.value ∙ c.in_ok-message.ensures.size in
    two_more c.args.self.now.stated.items _ _ _ _ c.in_ok-append_seal.ensures.stated (c.in_ok-append_hash.ensures.stated ∙ (ap (λ n. c.append_seal.new.self.stated.items ++ front_of n c.deref.result.now) size ∙ ap (λ m. c.append_seal.new.self.stated.items ++ front_of 36 m) told))

pub returns-clause-hashed : goal.returns-clause-hashed
returns-clause-hashed c =
    let told = c.deref.ensures.value ∙ c.in_ok-message.ensures.message in
    let size = ap length c.deref.ensures.value ∙ c.in_ok-message.ensures.size in
    two_more c.args.self.now.hashed.items _ _ _ _ c.in_ok-append_seal.ensures.hashed (c.in_ok-append_hash.ensures.hashed ∙ (ap (λ n. c.append_seal.new.self.hashed.items ++ rest_of n c.deref.result.now) size ∙ ap (λ m. c.append_seal.new.self.hashed.items ++ rest_of 36 m) told))
