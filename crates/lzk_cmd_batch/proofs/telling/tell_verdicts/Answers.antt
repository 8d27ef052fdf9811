use Rattle.std.proofs.Common.{ℕ, map, sym, ap, ◌∙◌, arith}
use Rattle.std.specs.Prelude.{◌==◌, cond, string_bytes}
use Rattle.lzk_cmd_batch.specs.Gathered.{any_end}
use Rattle.lzk_cmd_batch.proofs.Tells.{telling_begins, telling_goes_on, telling_ends, few_accepted, at_most_one, end_at}
use Rattle.lzk_cmd_batch.proofs.telling.tell_verdicts.Goals as goal

pub loop-i-init : goal.loop-i-init
loop-i-init c = telling_begins (map any_end c.args.verdicts.now) (string_bytes c.new-text.result) c.new-text.ensures.bytes

pub overflow_add-accepted : goal.overflow_add-accepted
overflow_add-accepted c =
    let few = few_accepted c.args.verdicts.now c.loop-i.i c.loop-i.accepted (string_bytes c.loop-i.text) c.loop-i.invariant in
    omega (arith, few, c.requires, c.accepted_by-accepted.ensures, at_most_one (c.in_ok-ending.ending.status == 0))

pub loop-i-preserved : goal.loop-i-preserved
loop-i-preserved c =
    let ending = c.in_ok-ending.ensures in
    let at = end_at c.args.verdicts.now c.loop-i.i c.index-verdicts-i.result c.loop-i-test.true c.index-verdicts-i.is in
    telling_goes_on (map any_end c.args.verdicts.now) c.loop-i.i (any_end c.index-verdicts-i.result) at c.loop-i.accepted c.accepted_by-accepted.result (string_bytes c.loop-i.text) (string_bytes c.push_job.new.text) c.deref.result.now c.loop-i.invariant
    (c.deref.ensures ∙ sym ending.text) c.in_ok-push_job.ensures (c.accepted_by-accepted.ensures ∙ ap (λ (n : ℕ). cond (n == 0) 1 0) (sym ending.status))

pub overflow_sub-rejected : goal.overflow_sub-rejected
overflow_sub-rejected c = few_accepted c.args.verdicts.now c.loop-i.i c.loop-i.accepted (string_bytes c.loop-i.text) c.loop-i.invariant

pub returns : goal.returns
returns c =
    telling_ends c.args.verdicts.now c.loop-i.i c.loop-i.accepted (string_bytes c.loop-i.text) (record { status = c.status_of.result; text = c.push_batch.new.text }) c.loop-i.invariant c.loop-i.auto.i-end c.loop-i-test.false c.status_of.ensures c.in_ok-push_batch.ensures
