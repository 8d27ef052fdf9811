use Rattle.lzk_demo.proofs.WordLaws.{assert_added}
use Rattle.lzk_demo.proofs.coding.push_assert.Goals as goal

pub returns : goal.returns
returns c =
    λ ss h. assert_added c.args.entry c.word_of.result ss c.args.words.now.items c.extend_from_slice.new.self.items c.extend_from_slice.result c.word_of.ensures c.extend_from_slice.ensures.items h
