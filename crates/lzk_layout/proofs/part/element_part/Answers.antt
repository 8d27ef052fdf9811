use Rattle.lzk_profile.specs.Profile.{opened_count}
use Rattle.std.proofs.Common.{◌++◌, ◌∙◌, sym}
use Rattle.lzk_layout.specs.Parts.{opened_parts, path_parts}
use Rattle.lzk_layout.proofs.PartLaws.{message_at, ldt_at, dot_at, head_at, tail_at, past_elements}
use Rattle.lzk_layout.proofs.part.element_part.Goals as goal

pub returns-then-k-params : goal.returns-then-k-params
returns-then-k-params c = sym (message_at c.args.params.now (opened_parts c.args.params.now.nrow opened_count ++ path_parts c.args.digests) c.args.k c.if-k-params.true)

pub returns-then-k-params-2 : goal.returns-then-k-params-2
returns-then-k-params-2 c = sym (ldt_at c.args.params.now (opened_parts c.args.params.now.nrow opened_count ++ path_parts c.args.digests) c.args.k c.if-k-params.false c.if-k-params-2.true)

pub returns-then-k-params-3 : goal.returns-then-k-params-3
returns-then-k-params-3 c =
    sym (dot_at c.args.params.now (opened_parts c.args.params.now.nrow opened_count ++ path_parts c.args.digests) c.args.k c.if-k-params.false c.if-k-params-2.false c.if-k-params-3.true)

pub returns-then-k : goal.returns-then-k
returns-then-k c =
    sym (head_at c.args.params.now (opened_parts c.args.params.now.nrow opened_count ++ path_parts c.args.digests) c.args.k c.if-k-params.false c.if-k-params-2.false c.if-k-params-3.false c.if-k.true)

pub returns-then-k-tail : goal.returns-then-k-tail
returns-then-k-tail c =
    sym (tail_at c.args.params.now (opened_parts c.args.params.now.nrow opened_count ++ path_parts c.args.digests) c.args.k c.if-k-params.false c.if-k-params-2.false c.if-k-params-3.false c.if-k.false
    c.if-k-tail.true)

pub returns : goal.returns
returns c =
    c.opened_part.ensures
    ∙ sym (past_elements c.args.params.now (opened_parts c.args.params.now.nrow opened_count ++ path_parts c.args.digests) c.args.k c.if-k-params.false c.if-k-params-2.false c.if-k-params-3.false c.if-k.false
    c.if-k-tail.false)
