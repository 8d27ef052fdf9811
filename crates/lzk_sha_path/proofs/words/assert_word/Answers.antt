use Rattle.std.proofs.Common.{◌≡◌, ◌+◌, ◌*◌, ◌∙◌, sym}
use Rattle.lzk_field.specs.Sums.{entry}
use Rattle.lzk_goldilocks.specs.Elements.{ops}
use Rattle.lzk_gadgets.specs.Claims.{value}
use Rattle.lzk_gadgets.proofs.ClaimLaws.{inputs_kept}
use Rattle.lzk_sha_path.specs.Levels.{bits_worth, chosen_word}
use Rattle.lzk_sha_path.proofs.Worth.{selected}
use Rattle.lzk_sha_path.proofs.words.assert_word.Goals as goal

pub returns-clause-claim : goal.returns-clause-claim
returns-clause-claim c = λ p q a small.
    let s = c.args.s.now in
    let i = c.args.i in
    let t = c.number.new.s in
    let u = c.number-2.new.s in
    let v = c.select.new.self in
    let left = c.in_ok-left.left in
    let right = c.in_ok-right.right in
    let bit = c.private-side.result in
    let chosen = c.in_ok-chosen.chosen in
    let word = c.public-word.result in
    let ml = c.in_ok-left.ensures.makes in
    let mr = c.in_ok-right.ensures.makes in
    let mc = c.in_ok-chosen.ensures.makes in
    let at = inputs_kept ops 33 s t p q ml.keeps a in
    let au = inputs_kept ops 33 t u p q mr.keeps at in
    let av = inputs_kept ops 3 u v p q mc.keeps au in
    let lv : value ops u p q left ≡ bits_worth q (32 * i) 32 = mr.keeps.same p q at left ml.there.1 ∙ c.in_ok-left.ensures.value p q a in
    let rv : value ops u p q right ≡ bits_worth q (256 + 32 * i) 32 = c.in_ok-right.ensures.value p q at in
    let bv : value ops u p q bit ≡ entry ops q 512 = c.private-side.ensures.value p q au in
    let wv : value ops v p q word ≡ entry ops p i = c.public-word.ensures.value p q av in
    let cv : value ops v p q chosen ≡ chosen_word q i =
    selected q i (value ops u p q bit) (value ops v p q chosen) (value ops u p q left) (value ops u p q right) bv lv rv
    (λ e. c.in_ok-chosen.ensures.one p q au e) (λ e. c.in_ok-chosen.ensures.zero p q au e) small in
    let both = c.in_ok-assert_equal.ensures.claims p q av in (
      λ h. let r = both.0 h in ((ml.holds p q a).0 ((mr.holds p q at).0 ((mc.holds p q au).0 r.0)), sym wv ∙ r.1 ∙ cv),
      λ h. both.1 ((mc.holds p q au).1 ((mr.holds p q at).1 ((ml.holds p q a).1 h.0)), wv ∙ h.1 ∙ sym cv),
    )
