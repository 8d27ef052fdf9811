use Rattle.std.proofs.Common.{map, subst, Option, Bor, List, ℕ}
use Rattle.std.proofs.lemmas.Result.{err_from_is_err_and}
use Rattle.lzk_batch.specs.Lists.{entry_view}
use Rattle.lzk_batch.proofs.Listing.{Left, left_first, left_next, left_stop, left_done}
use Rattle.lzk_batch.proofs.ListTexts.{list_text, list_read, only_memory, first_fault, ok_same}
use Rattle.lzk_batch.proofs.list.parse_list.Goals as goal

pub loop-left-init : goal.loop-left-init
loop-left-init c = rw c.new-entries.ensures.items (left_first c.args.text)

pub returns-in_err-take_line-clause-only : goal.returns-in_err-take_line-clause-only
returns-in_err-take_line-clause-only c = λ entries is.
    let p = err_from_is_err_and c.from_residual.result c.from_residual.ensures.1 in
    let have = map entry_view c.loop-left.entries.items in
    let left = subst (λ (o : Option (Bor (List ℕ))). Left c.loop-left.line c.args.text.now o have) c.in-Some.is c.loop-left.invariant in
    let fails = left_stop c.loop-left.line c.args.text.now c.next_line.result.0.now have c.in-Some.behind c.next_line.result.1 c.in_err-take_line.field-0.0 c.next_line.ensures left c.in_err-take_line.ensures in
    rw (p.1, p.2) (only_memory c.args.text.now entries c.in_err-take_line.field-0.0 is fails)

pub returns-in_err-take_line-clause-fault : goal.returns-in_err-take_line-clause-fault
returns-in_err-take_line-clause-fault c =
    let p = err_from_is_err_and c.from_residual.result c.from_residual.ensures.1 in
    let have = map entry_view c.loop-left.entries.items in
    let left = subst (λ (o : Option (Bor (List ℕ))). Left c.loop-left.line c.args.text.now o have) c.in-Some.is c.loop-left.invariant in
    let fails = left_stop c.loop-left.line c.args.text.now c.next_line.result.0.now have c.in-Some.behind c.next_line.result.1 c.in_err-take_line.field-0.0 c.next_line.ensures left c.in_err-take_line.ensures in
    rw (p.1, p.2) (first_fault c.args.text.now c.in_err-take_line.field-0.0 fails)

pub loop-left-preserved : goal.loop-left-preserved
loop-left-preserved c =
    let have = map entry_view c.loop-left.entries.items in
    let more = map entry_view c.take_line.new.entries.items in
    let left = subst (λ (o : Option (Bor (List ℕ))). Left c.loop-left.line c.args.text.now o have) c.in-Some.is c.loop-left.invariant in
    left_next c.loop-left.line c.args.text.now c.next_line.result.0.now have more c.in-Some.behind c.next_line.result.1 c.next_line.ensures left c.in_ok-take_line.ensures

pub returns-clause-read : goal.returns-clause-read
returns-clause-read c =
    let have = map entry_view c.loop-left.entries.items in
    left_done c.loop-left.line c.args.text.now have (subst (λ (o : Option (Bor (List ℕ))). Left c.loop-left.line c.args.text.now o have) c.in_default.is c.loop-left.invariant)

pub returns-clause-entries : goal.returns-clause-entries
returns-clause-entries c =
    let have = map entry_view c.loop-left.entries.items in
    list_text c.args.text.now have (left_done c.loop-left.line c.args.text.now have (subst (λ (o : Option (Bor (List ℕ))). Left c.loop-left.line c.args.text.now o have) c.in_default.is c.loop-left.invariant))

pub returns-clause-only : goal.returns-clause-only
returns-clause-only c = λ entries is.
    let have = map entry_view c.loop-left.entries.items in
    let read = left_done c.loop-left.line c.args.text.now have (subst (λ (o : Option (Bor (List ℕ))). Left c.loop-left.line c.args.text.now o have) c.in_default.is c.loop-left.invariant) in
    ok_same c.args.text.now have entries read (list_read c.args.text.now entries is)
