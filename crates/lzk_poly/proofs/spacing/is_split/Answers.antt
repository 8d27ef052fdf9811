use Rattle.std.proofs.Common.{◌≡◌, ℕ, ◌+◌, ◌*◌, ◌%◌, ◌^◌, ◌<◌, ◌≤◌, true, false, refl, sym, ap, ◌∙◌, arith, below_more}
use Rattle.std.proofs.Math.Nat.{mod-eq_of_lt}
use Rattle.std.proofs.Math.Pow.{pow_mono}
use Rattle.lzk_poly.proofs.Inverses.{same_by_number}
use Rattle.lzk_poly.proofs.spacing.is_split.Goals as goal

-- a low bit is a word
low_bit : (b : ℕ) → b < 16 → (1 * 2 ^ b % 4294967296 ≡ 2 ^ b) × (2 ^ b ≤ 32768)
low_bit b h =
    let few : 2 ^ b ≤ 32768 = pow_mono {i = b} {j = 15} (omega (arith, h)) in
    let one : 1 * 2 ^ b ≡ 2 ^ b = omega arith in
    (mod-eq_of_lt (omega (arith, few)) ∙ one, few)

no_truth : false ≡ true → ⊥
no_truth e = cc

pub overflow_shl-bit : goal.overflow_shl-bit
overflow_shl-bit g c = omega (arith, c.requires)

pub loop-k-init : goal.loop-k-init
loop-k-init g c = ((low_bit c.args.b c.requires).0, λ k h. absurd (omega (arith, h)))

pub point-requires : goal.point-requires
point-requires g c = let bit = low_bit c.args.b c.requires in omega (arith, bit.0, bit.1)

pub point-requires-in-loop-k : goal.point-requires-in-loop-k
point-requires-in-loop-k g c = let bit = low_bit c.args.b c.requires in omega (arith, bit.0, bit.1, c.loop-k-test.true)

pub overflow_add-bit : goal.overflow_add-bit
overflow_add-bit g c = let bit = low_bit c.args.b c.requires in omega (arith, bit.0, bit.1, c.loop-k-test.true)

pub point-requires-in-loop-k-2 : goal.point-requires-in-loop-k-2
point-requires-in-loop-k-2 g c = let bit = low_bit c.args.b c.requires in omega (arith, bit.0, bit.1, c.loop-k-test.true)

pub returns-then-number : goal.returns-then-number
returns-then-number g c =
    let m = g.F.Field in
    let o = m.ops in
    let b = c.args.b in
    let k = c.loop-k.k in
    let bit = low_bit b c.requires in
    let sum : c.add-sum.result ≡ o.plus (m.coding.element (2 ^ b)) (m.coding.element k) =
    c.add-sum.ensures ∙ ap (λ w. o.plus w c.point-in-loop-k.result) (c.point.ensures ∙ ap m.coding.element bit.0) ∙ ap (o.plus (m.coding.element (2 ^ b))) c.point-in-loop-k.ensures in
    let there : c.point-in-loop-k-2.result ≡ m.coding.element (2 ^ b + k) = c.point-in-loop-k-2.ensures ∙ ap (λ n. m.coding.element (n + k)) bit.0 in (
      λ yes. absurd (no_truth yes),
      λ all. absurd (c.if-number.true (c.number.ensures ∙ ap m.coding.number (there ∙ all k (omega (arith, bit.0, c.loop-k-test.true)) ∙ sym sum) ∙ sym c.number-in-loop-k.ensures)),
    )

pub loop-k-preserved : goal.loop-k-preserved
loop-k-preserved g c =
    let m = g.F.Field in
    let o = m.ops in
    let b = c.args.b in
    let k = c.loop-k.k in
    let bit = low_bit b c.requires in
    let sum : c.add-sum.result ≡ o.plus (m.coding.element (2 ^ b)) (m.coding.element k) =
    c.add-sum.ensures ∙ ap (λ w. o.plus w c.point-in-loop-k.result) (c.point.ensures ∙ ap m.coding.element bit.0) ∙ ap (o.plus (m.coding.element (2 ^ b))) c.point-in-loop-k.ensures in
    let there : c.point-in-loop-k-2.result ≡ m.coding.element (2 ^ b + k) = c.point-in-loop-k-2.ensures ∙ ap (λ n. m.coding.element (n + k)) bit.0 in
    let same = same_by_number m.laws c.point-in-loop-k-2.result c.add-sum.result (sym c.number.ensures ∙ c.if-number.false ∙ c.number-in-loop-k.ensures) in (
      bit.0,
      below_more (λ i. m.coding.element (2 ^ b + i) ≡ o.plus (m.coding.element (2 ^ b)) (m.coding.element i)) k c.loop-k.invariant.1 (sym there ∙ same ∙ sum),
    )

pub returns : goal.returns
returns g c = (λ yes k h. c.loop-k.invariant.1 k (omega (arith, h, c.loop-k.invariant.0, c.loop-k-test.false)), λ all. refl)
