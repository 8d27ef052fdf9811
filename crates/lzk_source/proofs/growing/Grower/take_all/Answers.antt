use Rattle.lzk_source.proofs.GrowthLaws.{word_taken, words_taken}
use Rattle.lzk_source.proofs.growing.Grower.take_all.Goals as goal

pub loop-word-init : goal.loop-word-init
loop-word-init c = λ old new g h. record { so_far = old; grown = g; goes_on = h }

pub loop-word-preserved : goal.loop-word-preserved
loop-word-preserved c = λ old new g h.
    let l = c.loop-word in
    word_taken c.args.numbers.now c.args.words.now l.word-index l.self c.take.new.self new c.loop-word-test.true (l.invariant old new g h) c.in-Ok.ensures

pub returns : goal.returns
returns c = λ old new g h.
    let l = c.loop-word in
    words_taken c.args.numbers.now c.args.words.now l.word-index l.self new c.loop-word-test.false (l.invariant old new g h)
