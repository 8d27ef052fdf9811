use Rattle.std.proofs.Common.{◌++◌, ◌∙◌, ap, sym, append-nil}
use Rattle.sha2.specs.Sha256.{digest_bytes}
use Rattle.lzk_sha_path.proofs.Made.{node_more}
use Rattle.lzk_sha_path.proofs.inputs.push_node.Goals as goal

pub loop-i-init : goal.loop-i-init
unfolding digest_bytes
loop-i-init c = sym (append-nil c.args.block.now.items)

pub loop-i-preserved : goal.loop-i-preserved
loop-i-preserved c =
    node_more c.args.node c.loop-i.i c.args.block.now.items c.loop-i.block.items c.extend_from_slice.new.self.items c.loop-i.invariant
    (c.in_ok-extend_from_slice.ensures.items ∙ ap (λ l. c.loop-i.block.items ++ l) c.to_be_bytes.ensures)
