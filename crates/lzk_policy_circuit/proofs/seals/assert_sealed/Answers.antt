use Rattle.std.proofs.Common.{◌+◌, ◌*◌, drop, arith}
use Rattle.lzk_policy_circuit.specs.Met.{AreSameBytes, AreWordsOf, IsLabelled, IsSealLabelled, IsTagged, IsSealComposed}
use Rattle.lzk_policy_circuit.proofs.Adding.{adds_as, adds_both}
use Rattle.lzk_policy_circuit.proofs.SealClaims.{seal_composed}
use Rattle.lzk_policy_circuit.proofs.seals.assert_sealed.Goals as goal

pub returns : goal.returns
returns c =
    let s = c.args.s.now in
    let f = c.args.field.now in
    let own = c.args.own in
    let i = c.args.i in
    let t = c.assert_seal_label.new.s in
    let u = c.assert_words.new.s in
    let v = c.assert_label.new.s in
    let w = c.assert_same.new.s in
    let x = c.assert_tag.new.s in
    adds_as 4000 36 s x
    (λ p q. (((IsSealLabelled (drop own q) × AreWordsOf q (8 * f.place) q (own + 160) 8) × IsLabelled (drop (own + 168) q)) × AreSameBytes q (own + 32) q (own + 200) 16) × IsTagged q (own + 328) (drop i p))
    (λ p q. IsSealComposed q f (drop i p) (drop own q))
    (adds_both 744 168 4000 32 4 36 s w x (λ p q. ((IsSealLabelled (drop own q) × AreWordsOf q (8 * f.place) q (own + 160) 8) × IsLabelled (drop (own + 168) q)) × AreSameBytes q (own + 32) q (own + 200) 16) (λ p q. IsTagged q (own + 328) (drop i p))
    (adds_both 440 304 744 16 16 32 s v w (λ p q. (IsSealLabelled (drop own q) × AreWordsOf q (8 * f.place) q (own + 160) 8) × IsLabelled (drop (own + 168) q)) (λ p q. AreSameBytes q (own + 32) q (own + 200) 16)
    (adds_both 388 52 440 12 4 16 s u v (λ p q. IsSealLabelled (drop own q) × AreWordsOf q (8 * f.place) q (own + 160) 8) (λ p q. IsLabelled (drop (own + 168) q))
    (adds_both 52 336 388 4 8 12 s t u (λ p q. IsSealLabelled (drop own q)) (λ p q. AreWordsOf q (8 * f.place) q (own + 160) 8) c.in_ok-assert_seal_label.ensures c.in_ok-assert_words.ensures (omega arith) (omega arith))
    c.in_ok-assert_label.ensures (omega arith) (omega arith))
    c.in_ok-assert_same.ensures (omega arith) (omega arith))
    c.in_ok-assert_tag.ensures (omega arith) (omega arith))
    (λ p q a. seal_composed q (drop i p) f own)
