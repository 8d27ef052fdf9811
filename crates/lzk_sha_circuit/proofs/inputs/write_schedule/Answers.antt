use Rattle.std.proofs.Common.{◌≡◌, ◌≤◌, ◌%◌, ◌^◌, ◌∙◌, ap, sym, arith, append-nil, take_all, length, take}
use Rattle.sha2.specs.Sha256.{schedule}
use Rattle.sha2.proofs.Schedule256.{length-schedule}
use Rattle.std.proofs.lemmas.List.{length-take-le}
use Rattle.lzk_goldilocks.specs.Elements.{of_number}
use Rattle.lzk_sha_circuit.specs.Inputs.{schedule_list, next_total}
use Rattle.lzk_sha_circuit.proofs.Filled.{first_word_more, next_word_more, next_total_is, schedule_more}
use Rattle.lzk_sha_circuit.proofs.inputs.write_schedule.Goals as goal

pub loop-i-preserved : goal.loop-i-preserved
loop-i-preserved c = first_word_more c.args.block.now c.loop-i.words.items c.push.new.self.items c.loop-i.i c.word_at.result c.loop-i-test.true c.loop-i.invariant c.in_ok-push.ensures.items c.word_at.ensures

pub loop-t-init : goal.loop-t-init
unfolding schedule_list
loop-t-init c =
    let e : c.loop-i.i ≡ 16 = omega arith in
    record { words = c.loop-i.invariant ∙ ap (λ n. take n (schedule c.args.block.now 48)) e; bits = sym (append-nil c.args.bits.now.items) }

pub next_sum-requires-clause-high : goal.next_sum-requires-clause-high
next_sum-requires-clause-high c =
    let ws = schedule c.args.block.now 48 in
    let t = c.loop-t.t in
    let whole = length-schedule c.args.block.now 48 in
    let below = c.loop-t-test.true in
    let front : length (take t ws) ≡ t = length-take-le t ws (omega (arith, whole, below)) in
    let same = ap length (c.deref.ensures.value ∙ c.loop-t.invariant.words) in
    omega (arith, front, same)

pub loop-t-preserved : goal.loop-t-preserved
loop-t-preserved c =
    let block = c.args.block.now in
    let words = c.loop-t.words.items in
    let t = c.loop-t.t in
    let low : 16 ≤ t = omega arith in
    let sum : c.next_sum.result ≡ next_total words t = c.next_sum.ensures ∙ ap (λ l. next_total l t) c.deref.ensures.value in
    record {
      words = next_word_more block words c.push-in-loop-t.new.self.items t c.in_ok-word.word low c.loop-t-test.true c.loop-t.invariant.words c.in_ok-push-2.ensures.items (c.in_ok-word.ensures.word ∙ ap (λ n. n % 2 ^ 32) sum);
      bits = schedule_more of_number (schedule block 48) c.args.bits.now.items c.loop-t.bits.items c.write_sum.new.bits.items t c.next_sum.result low c.loop-t.invariant.bits c.in_ok-word.ensures.bits (sum ∙ next_total_is block words t low c.loop-t.invariant.words);
    }

pub returns-clause-words : goal.returns-clause-words
returns-clause-words c =
    let ws = schedule c.args.block.now 48 in
    let whole = length-schedule c.args.block.now 48 in
    let past = c.loop-t-test.false in
    c.loop-t.invariant.words ∙ take_all c.loop-t.t ws (omega (arith, whole, past))
