use Rattle.std.proofs.Common.{◌≡◌, ◌++◌, List, ℕ, subst}
use Rattle.std.specs.Prelude.{OnOk, codes, string_bytes}
use Rattle.lzk_policy_texts.specs.Shown.{said}
use Rattle.lzk_policy_texts.proofs.Behind.{behind}
use Rattle.lzk_policy_texts.proofs.showing.push_claim.Goals as goal

pub returns-in_ok-push_str-in-Pseudonym : goal.returns-in_ok-push_str-in-Pseudonym
returns-in_ok-push_str-in-Pseudonym c =
    let old = string_bytes c.args.text.now in
    let new = string_bytes c.push_line-in-Pseudonym.new.text in
    let front = codes "a pseudonym of " in
    let told = behind c.push_line-in-Pseudonym.result new (string_bytes c.push_str-in-Pseudonym.new.self) old front (said c.args.name.now (codes " for ") c.text-in-Pseudonym.result.now) c.in_ok-push_str-in-Pseudonym.ensures.bytes c.push_line-in-Pseudonym.ensures in
    rw c.in-Pseudonym.is
    (subst (λ (v : List ℕ). OnOk c.push_line-in-Pseudonym.result (new ≡ old ++ (front ++ said c.args.name.now (codes " for ") v))) c.text-in-Pseudonym.ensures.text told)

pub returns-in_ok-push_str-in-Sealed : goal.returns-in_ok-push_str-in-Sealed
returns-in_ok-push_str-in-Sealed c =
    let old = string_bytes c.args.text.now in
    let new = string_bytes c.push_line-in-Sealed.new.text in
    let front = codes "a pseudonym of " in
    let told = behind c.push_line-in-Sealed.result new (string_bytes c.push_str-in-Sealed.new.self) old front (said c.args.name.now (codes " for ") c.text-in-Sealed.result.now) c.in_ok-push_str-in-Sealed.ensures.bytes c.push_line-in-Sealed.ensures in
    rw c.in-Sealed.is
    (subst (λ (v : List ℕ). OnOk c.push_line-in-Sealed.result (new ≡ old ++ (front ++ said c.args.name.now (codes " for ") v))) c.text-in-Sealed.ensures.text told)
