use Rattle.std.proofs.Common.{subst, Option, Bor, List, ℕ}
use Rattle.std.proofs.lemmas.Result.{err_from_is_err_and}
use Rattle.lzk_policy_texts.specs.Told.{Partial, nothing, partial_of, with_line}
use Rattle.lzk_policy_texts.proofs.ToldCounts.{empty}
use Rattle.lzk_policy_texts.proofs.EntryLines.{Left, left_first, left_next, left_stop, left_done}
use Rattle.lzk_policy_texts.proofs.told.read_told.Goals as goal

pub loop-left-init : goal.loop-left-init
loop-left-init c =
    let have : Partial = record { words = c.new-words.result.items; entries = c.new-entries.result.items } in
    left_first (with_line c.args.policy.now) nothing c.args.text have (empty c.new-words.result.items c.new-entries.result.items c.new-words.ensures.items c.new-entries.ensures.items)

pub returns-in_err-take_told : goal.returns-in_err-take_told
returns-in_err-take_told c =
    let p = err_from_is_err_and c.from_residual.result c.from_residual.ensures.1 in
    let takes = with_line c.args.policy.now in
    let have = partial_of c.loop-left.have in
    let left = subst (λ (o : Option (Bor (List ℕ))). Left takes nothing c.loop-left.line c.args.text.now o have) c.in-Some.is c.loop-left.invariant in
    let fails = left_stop takes nothing c.loop-left.line c.args.text.now c.next_line.result.0.now have c.in-Some.behind c.next_line.result.1 c.in_err-take_told.field-0.0 c.next_line.ensures left c.in_err-take_told.ensures in
    rw (p.1, p.2) fails

pub loop-left-preserved : goal.loop-left-preserved
loop-left-preserved c =
    let takes = with_line c.args.policy.now in
    let have = partial_of c.loop-left.have in
    let left = subst (λ (o : Option (Bor (List ℕ))). Left takes nothing c.loop-left.line c.args.text.now o have) c.in-Some.is c.loop-left.invariant in
    left_next takes nothing c.loop-left.line c.args.text.now c.next_line.result.0.now have (partial_of c.take_told.new.have) c.in-Some.behind c.next_line.result.1 c.next_line.ensures left c.in_ok-take_told.ensures

pub returns : goal.returns
returns c = left_done (with_line c.args.policy.now) nothing c.loop-left.line c.args.text.now (partial_of c.loop-left.have) (subst (λ (o : Option (Bor (List ℕ))). Left (with_line c.args.policy.now) nothing c.loop-left.line c.args.text.now o (partial_of c.loop-left.have)) c.in_default.is c.loop-left.invariant)
