use Rattle.std.proofs.Common.{ℕ, ◌+◌, ◌*◌, ◌<◌, length, take, ap, ◌∙◌, arith}
use Rattle.std.specs.List.{sum_by}
use Rattle.std.proofs.lemmas.List.{take_all}
use Rattle.lzk_layout.specs.Sizes.{sent_count, pad_count, under_widths}
use Rattle.lzk_layout.proofs.SizeLaws.{narrow, under_count, counts_more}
use Rattle.lzk_layout.proofs.params.counts_of.Goals as goal

pub bits_of-bits-requires : goal.bits_of-bits-requires
bits_of-bits-requires g c = rw c.width.ensures (narrow g.F.Field.ops c.args.circuit.now (c.loop-l.l + 1) c.depth-l-end.ensures.valid)

pub loop-l-preserved : goal.loop-l-preserved
loop-l-preserved g c =
    let now = c.loop-l.invariant in
    let circuit = c.args.circuit.now in
    let w = c.width.result in
    let lt : c.loop-l.l < length circuit.layers = omega (arith, c.depth-l-end.ensures.depth) in
    let few = c.bits_of-bits.ensures.few in
    let bits = c.bits_of-bits.ensures.bits in
    record {
      sent = ap (λ (n : ℕ). n + (4 * c.bits_of-bits.result + 2)) now.sent ∙ ap (λ (n : ℕ). sum_by sent_count (take c.loop-l.l (under_widths circuit)) + (4 * n + 2)) bits ∙ counts_more sent_count circuit c.loop-l.l w lt c.width.ensures;
      pads = ap (λ (n : ℕ). n + (4 * c.bits_of-bits.result + 3)) now.pads ∙ ap (λ (n : ℕ). sum_by pad_count (take c.loop-l.l (under_widths circuit)) + (4 * n + 3)) bits ∙ counts_more pad_count circuit c.loop-l.l w lt c.width.ensures;
      few_sent = omega (arith, now.few_sent, few);
      few_pads = omega (arith, now.few_pads, few);
    }

pub overflow_mul-sent : goal.overflow_mul-sent
overflow_mul-sent g c = omega (arith, c.bits_of-bits.ensures.few)

pub overflow_add-sent : goal.overflow_add-sent
overflow_add-sent g c = omega (arith, c.bits_of-bits.ensures.few)

pub overflow_add-sent-in-loop-l : goal.overflow_add-sent-in-loop-l
overflow_add-sent-in-loop-l g c = let valid = c.depth-l-end.ensures.valid in omega (arith, c.bits_of-bits.ensures.few, c.loop-l.invariant.few_sent, c.loop-l-test.true, c.depth-l-end.ensures.depth, valid.depth)

pub overflow_mul-pads : goal.overflow_mul-pads
overflow_mul-pads g c = omega (arith, c.bits_of-bits.ensures.few)

pub overflow_add-pads : goal.overflow_add-pads
overflow_add-pads g c = omega (arith, c.bits_of-bits.ensures.few)

pub overflow_add-pads-in-loop-l : goal.overflow_add-pads-in-loop-l
overflow_add-pads-in-loop-l g c = let valid = c.depth-l-end.ensures.valid in omega (arith, c.bits_of-bits.ensures.few, c.loop-l.invariant.few_pads, c.loop-l-test.true, c.depth-l-end.ensures.depth, valid.depth)

pub overflow_add-result : goal.overflow_add-result
overflow_add-result g c = let valid = c.depth-l-end.ensures.valid in omega (arith, c.privates.ensures, valid.privates, c.loop-l.invariant.few_pads, c.loop-l.auto.l-end, c.depth-l-end.ensures.depth, valid.depth)

pub returns-clause-few_sent : goal.returns-clause-few_sent
returns-clause-few_sent g c = let valid = c.depth-l-end.ensures.valid in omega (arith, c.loop-l.invariant.few_sent, c.loop-l.auto.l-end, c.depth-l-end.ensures.depth, valid.depth)

pub returns-clause-few_committed : goal.returns-clause-few_committed
returns-clause-few_committed g c = let valid = c.depth-l-end.ensures.valid in omega (arith, c.privates.ensures, valid.privates, c.loop-l.invariant.few_pads, c.loop-l.auto.l-end, c.depth-l-end.ensures.depth, valid.depth)

pub returns-clause-sent : goal.returns-clause-sent
returns-clause-sent g c =
    let circuit = c.args.circuit.now in
    let whole = take_all c.loop-l.l (under_widths circuit) (omega (arith, under_count circuit, c.loop-l-test.false, c.depth-l-end.ensures.depth)) in
    c.loop-l.invariant.sent ∙ ap (sum_by sent_count) whole

pub returns-clause-committed : goal.returns-clause-committed
returns-clause-committed g c =
    let circuit = c.args.circuit.now in
    let whole = take_all c.loop-l.l (under_widths circuit) (omega (arith, under_count circuit, c.loop-l-test.false, c.depth-l-end.ensures.depth)) in
    ap (λ (n : ℕ). n + c.loop-l.pads) c.privates.ensures ∙ ap (λ (n : ℕ). circuit.privates + n) (c.loop-l.invariant.pads ∙ ap (sum_by pad_count) whole)
