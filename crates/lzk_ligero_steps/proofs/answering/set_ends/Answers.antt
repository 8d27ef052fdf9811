use Rattle.std.proofs.Common.{length, ap, sym, ◌∙◌, arith}
use Rattle.lzk_sumcheck.proofs.Filled.{refill_whole}
use Rattle.lzk_ligero_steps.proofs.answering.set_ends.Goals as goal

pub split_at-requires : goal.split_at-requires
split_at-requires g c =
    let b = c.args.plan.now.bounded in
    omega (arith, c.requires.all, b.block, b.wide, b.dblock)

pub copy_from_slice-requires : goal.copy_from_slice-requires
copy_from_slice-requires g c = ap length c.as_mut_slice.ensures.value ∙ c.requires.head ∙ sym c.split_at.ensures.front_len

pub split_at-requires-2 : goal.split_at-requires-2
split_at-requires-2 g c =
    let b = c.args.plan.now.bounded in
    omega (arith, c.requires.all, b.block, b.wide, b.dblock)

pub copy_from_slice-requires-2 : goal.copy_from_slice-requires-2
copy_from_slice-requires-2 g c =
    omega (arith, ap length c.as_mut_slice-2.ensures.value, c.requires.tail, c.split_at-2.ensures.back_len, c.requires.all)

pub returns-clause-head_length : goal.returns-clause-head_length
returns-clause-head_length g c =
    let size = c.copy_from_slice.auto.self ∙ ap length c.as_mut_slice.ensures.value in
    ap length (refill_whole (length c.args.head.now) c.args.head.now c.copy_from_slice.new.self size) ∙ size ∙ c.requires.head

pub returns-clause-tail_length : goal.returns-clause-tail_length
returns-clause-tail_length g c =
    let size = c.copy_from_slice-2.auto.self ∙ ap length c.as_mut_slice-2.ensures.value in
    ap length (refill_whole (length c.args.tail.now) c.args.tail.now c.copy_from_slice-2.new.self size) ∙ size ∙ c.requires.tail

pub returns-clause-head : goal.returns-clause-head
returns-clause-head g c =
    let size = c.copy_from_slice.auto.self ∙ ap length c.as_mut_slice.ensures.value in
    refill_whole (length c.args.head.now) c.args.head.now c.copy_from_slice.new.self size ∙ c.copy_from_slice.ensures.after ∙ c.split_at.ensures.front

pub returns-clause-tail : goal.returns-clause-tail
returns-clause-tail g c =
    let size = c.copy_from_slice-2.auto.self ∙ ap length c.as_mut_slice-2.ensures.value in
    refill_whole (length c.args.tail.now) c.args.tail.now c.copy_from_slice-2.new.self size ∙ c.copy_from_slice-2.ensures.after ∙ c.split_at-2.ensures.back
