use Rattle.lzk_demo.proofs.WordLaws.{let_added}
use Rattle.lzk_demo.proofs.coding.push_let.Goals as goal

pub returns : goal.returns
returns c =
    λ k ss h. let_added k c.args.a c.args.b c.word_of-x.result c.word_of-y.result ss c.args.words.now.items c.extend_from_slice.new.self.items c.extend_from_slice.result c.word_of-x.ensures c.word_of-y.ensures
    c.extend_from_slice.ensures.items h
