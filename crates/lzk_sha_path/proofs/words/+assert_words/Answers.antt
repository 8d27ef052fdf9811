use Rattle.std.proofs.Common.{◌≡◌, ◌-◌, ◌*◌, ◌<◌, arith}
use Rattle.lzk_field.specs.Sums.{entry}
use Rattle.lzk_goldilocks.specs.Elements.{ops}
use Rattle.lzk_gadgets.proofs.ClaimLaws.{inputs_kept, keeps_then}
use Rattle.lzk_sha_path.specs.Levels.{chosen_word}
use Rattle.lzk_sha_path.proofs.Worth.{words_more, no_words}
use Rattle.lzk_sha_path.proofs.words.+assert_words.Goals as goal

pub returns-then-count-eq0-clause-claim : goal.returns-then-count-eq0-clause-claim
returns-then-count-eq0-clause-claim t c = λ p q a small.
    (λ h. (h, λ i lt. no_words (λ j. entry ops p j ≡ chosen_word q j) i c.args.count c.if-count-eq0.true lt), λ h. h.0)

pub returns-clause-keeps : goal.returns-clause-keeps
returns-clause-keeps t c =
    let n = c.args.count in
    keeps_then ops (70 * (n - 1)) 70 (70 * n) c.args.s.now c.assert_words.new.s c.assert_word.new.s c.in_ok-assert_words.ensures.keeps c.in_ok-assert_word.ensures.keeps (omega arith)

pub returns-clause-claim : goal.returns-clause-claim
returns-clause-claim t c = λ p q a small.
    let n = c.args.count in
    let some : 0 < n = omega arith in
    let s = c.args.s.now in
    let k = c.in_ok-assert_words.ensures.keeps in
    let later = inputs_kept ops (70 * (n - 1)) s c.assert_words.new.s p q k a in
    let before = c.in_ok-assert_words.ensures.claim p q a small in
    let last = c.in_ok-assert_word.ensures.claim p q later small in
    let more = words_more n (λ i. entry ops p i ≡ chosen_word q i) some in (
      λ h. let r = last.0 h in let b = before.0 r.0 in (b.0, more.0 (b.1, r.1)),
      λ h. let w = more.1 h.1 in last.1 (before.1 (h.0, w.0), w.1),
    )
