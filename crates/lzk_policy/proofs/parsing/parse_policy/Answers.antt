use Rattle.std.proofs.Common.{◌≡◌, MatchResult, Ok, Result, subst, sym, Option, Bor, List, ℕ}
use Rattle.std.proofs.lemmas.Result.{err_from_is_err_and}
use Rattle.lzk_policy.specs.declared.fault.PolicyFault.{PolicyFault}
use Rattle.lzk_policy.specs.Policies.{Contents, Fails, partial_of}
use Rattle.lzk_policy.proofs.LinesLeft.{Left, left_first, left_next, left_stop, left_done}
use Rattle.lzk_policy.proofs.Partials.{bytes_kept}
use Rattle.lzk_policy.proofs.parsing.parse_policy.Goals as goal

pub loop-left-init : goal.loop-left-init
loop-left-init c = left_first c.args.text (partial_of c.new-draft.result) c.new-draft.ensures

pub returns-in_err-take_line : goal.returns-in_err-take_line
returns-in_err-take_line c =
    let p = err_from_is_err_and c.from_residual.result c.from_residual.ensures.1 in
    let have = partial_of c.loop-left.draft in
    let left = subst (λ (o : Option (Bor (List ℕ))). Left c.loop-left.line c.args.text.now o have) c.in-Some.is c.loop-left.invariant in
    let fails = left_stop c.loop-left.line c.args.text.now c.next_line.result.0.now have c.in-Some.behind c.next_line.result.1 c.in_err-take_line.field-0.0 c.next_line.ensures left c.in_err-take_line.ensures in
    rw (p.1, p.2) fails

pub loop-left-preserved : goal.loop-left-preserved
loop-left-preserved c =
    let have = partial_of c.loop-left.draft in
    let more = partial_of c.take_line.new.self in
    let left = subst (λ (o : Option (Bor (List ℕ))). Left c.loop-left.line c.args.text.now o have) c.in-Some.is c.loop-left.invariant in
    let is = bytes_kept c.loop-left.line have more c.next_line.result.0.now left.well c.in_ok-take_line.ensures in
    left_next c.loop-left.line c.args.text.now c.next_line.result.0.now have more c.in-Some.behind c.next_line.result.1 c.next_line.ensures left c.in_ok-take_line.ensures is

pub returns : goal.returns
returns c =
    let have = partial_of c.loop-left.draft in
    let read = left_done c.loop-left.line c.args.text.now have (subst (λ (o : Option (Bor (List ℕ))). Left c.loop-left.line c.args.text.now o have) c.in_default.is c.loop-left.invariant) in
    subst (λ (r : Result Contents PolicyFault). MatchResult c.finish.result (λ policy. r ≡ Ok policy) (λ e. Fails e r)) (sym read) c.finish.ensures
