use Rattle.std.proofs.Common.{Some, Vec, Global, ap, sym, subst, ◌∙◌, ◌≡◌}
use Rattle.std.specs.Prelude.{IfOk, codes}
use Rattle.std.specs.Option.{option_copied, option_map}
use Rattle.lzk_expr.specs.Texts.{runs, is_plain}
use Rattle.lzk_batch.specs.Lists.{and_then, behind, session_bytes, session_of}
use Rattle.lzk_batch.proofs.Listing.{too_many, one_word}
use Rattle.lzk_batch.proofs.list.read_session.Goals as goal

pub returns-in_default : goal.returns-in_default
returns-in_default c = ap Some c.new.ensures.items ∙ ap session_of (sym c.in_default.ensures)

pub returns-then-is_some : goal.returns-then-is_some
returns-then-is_some c =
    too_many c.in-Some.word.now (runs is_plain c.args.others.now) c.in-Some.rest.now c.next_word-2.result c.in-Some.ensures.runs_are c.next_word-2.ensures (sym c.is_some.ensures ∙ c.if-is_some.true)

pub returns-in-None : goal.returns-in-None
returns-in-None c =
    let word = c.in-Some.word.now in
    let one = one_word word (runs is_plain c.args.others.now) c.in-Some.rest.now c.next_word-2.result c.in-Some.ensures.runs_are c.next_word-2.ensures (sym c.is_some.ensures ∙ c.if-is_some.false) in
    let found : behind (codes "session=") word ≡ option_copied c.behind.result =
    sym (c.behind.ensures ∙ (ap (λ f. behind f c.as_bytes-2.result.now) c.as_bytes.ensures.value ∙ ap (behind (codes "session=")) c.as_bytes-2.ensures.value)) in
    sym (one ∙ ap (λ o. and_then o session_bytes) (found ∙ ap option_copied c.in-None.is))

pub returns-in-Some-behind : goal.returns-in-Some-behind
returns-in-Some-behind c =
    let word = c.in-Some.word.now in
    let one = one_word word (runs is_plain c.args.others.now) c.in-Some.rest.now c.next_word-2.result c.in-Some.ensures.runs_are c.next_word-2.ensures (sym c.is_some.ensures ∙ c.if-is_some.false) in
    let found : behind (codes "session=") word ≡ option_copied c.behind.result =
    sym (c.behind.ensures ∙ (ap (λ f. behind f c.as_bytes-2.result.now) c.as_bytes.ensures.value ∙ ap (behind (codes "session=")) c.as_bytes-2.ensures.value)) in
    let same : session_bytes c.in-Some-behind.digits.now ≡ session_of (runs is_plain c.args.others.now) = sym (one ∙ ap (λ o. and_then o session_bytes) (found ∙ ap option_copied c.in-Some-behind.is)) in
    subst (λ p. IfOk c.read_digits.result (λ o. option_map (λ (v : Vec _ Global). v.items) o ≡ p)) same c.read_digits.ensures
