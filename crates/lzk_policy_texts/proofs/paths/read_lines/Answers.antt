use Rattle.std.proofs.Common.{ap, subst, None, Option, Bor, List, ℕ}
use Rattle.std.proofs.lemmas.Result.{err_from_is_err_and}
use Rattle.lzk_policy_texts.specs.Paths.{Partial, nothing, partial_of, with_line}
use Rattle.lzk_policy_texts.proofs.EntryLines.{Left, left_first, left_next, left_stop, left_done}
use Rattle.lzk_policy_texts.proofs.paths.read_lines.Goals as goal

abbrev made : List (List ℕ) → Partial
made ns = record { leaf = None; nodes = ns }

pub loop-left-init : goal.loop-left-init
loop-left-init c = left_first with_line nothing c.args.text (made c.new.result.items) (ap made c.new.ensures.items)

pub returns-in_err-take_line : goal.returns-in_err-take_line
returns-in_err-take_line c =
    let p = err_from_is_err_and c.from_residual.result c.from_residual.ensures.1 in
    let have = partial_of c.loop-left.have in
    let left = subst (λ (o : Option (Bor (List ℕ))). Left with_line nothing c.loop-left.line c.args.text.now o have) c.in-Some.is c.loop-left.invariant in
    let fails = left_stop with_line nothing c.loop-left.line c.args.text.now c.next_line.result.0.now have c.in-Some.behind c.next_line.result.1 c.in_err-take_line.field-0.0 c.next_line.ensures left c.in_err-take_line.ensures in
    rw (p.1, p.2) fails

pub loop-left-preserved : goal.loop-left-preserved
loop-left-preserved c =
    let have = partial_of c.loop-left.have in
    let left = subst (λ (o : Option (Bor (List ℕ))). Left with_line nothing c.loop-left.line c.args.text.now o have) c.in-Some.is c.loop-left.invariant in
    left_next with_line nothing c.loop-left.line c.args.text.now c.next_line.result.0.now have (partial_of c.take_line.new.have) c.in-Some.behind c.next_line.result.1 c.next_line.ensures left c.in_ok-take_line.ensures

pub returns : goal.returns
returns c = left_done with_line nothing c.loop-left.line c.args.text.now (partial_of c.loop-left.have) (subst (λ (o : Option (Bor (List ℕ))). Left with_line nothing c.loop-left.line c.args.text.now o (partial_of c.loop-left.have)) c.in_default.is c.loop-left.invariant)
