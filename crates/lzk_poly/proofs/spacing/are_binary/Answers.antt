use Rattle.std.proofs.Common.{◌≡◌, ℕ, ◌+◌, ◌^◌, ◌<◌, Bool, true, false, refl, sym, ap, ◌∙◌, arith, below_more}
use Rattle.lzk_field.proofs.Numbering.{zero_by_number}
use Rattle.lzk_poly.proofs.spacing.are_binary.Goals as goal

no_truth : false ≡ true → ⊥
no_truth e = cc

no_both : (b : Bool) → b ≡ true → b ≡ false → ⊥
no_both b is other = no_truth (sym other ∙ is)

pub returns-then-number-ne0 : goal.returns-then-number-ne0
returns-then-number-ne0 g c =
    let m = g.F.Field in
    let o = m.ops in
    let sum : c.add.result ≡ o.plus o.one o.one = c.add.ensures ∙ ap (λ w. o.plus w c.one-2.result) c.one.ensures ∙ ap (o.plus o.one) c.one-2.ensures in (
      λ yes. absurd (no_truth yes),
      λ binary. absurd (c.if-number-ne0.true (c.number.ensures ∙ ap m.coding.number (sum ∙ binary.twice) ∙ m.laws.numbers.zero_number)),
    )

pub loop-b-init : goal.loop-b-init
loop-b-init g c = λ b k h l. absurd (omega (arith, h))

pub is_split-requires-after_bounds : goal.is_split-requires-after_bounds
is_split-requires-after_bounds g c κs within = omega (arith, c.requires, c.loop-b-test.true)

pub returns-then-not-is_split : goal.returns-then-not-is_split
returns-then-not-is_split g c = (
  λ yes. absurd (no_truth yes),
  λ binary. absurd (no_both c.is_split.result (c.is_split.ensures.1 (λ k l. binary.splits c.loop-b.b k c.loop-b-test.true l)) c.if-not-is_split.true),
)

pub loop-b-preserved : goal.loop-b-preserved
loop-b-preserved g c =
    let m = g.F.Field in
    let o = m.ops in
    λ b k h l.
    below_more (λ i. (j : ℕ) → j < 2 ^ i → m.coding.element (2 ^ i + j) ≡ o.plus (m.coding.element (2 ^ i)) (m.coding.element j)) c.loop-b.b (λ i p j q. c.loop-b.invariant i j p q)
    (c.is_split.ensures.0 c.if-not-is_split.false) b h k l

pub returns : goal.returns
returns g c =
    let m = g.F.Field in
    let o = m.ops in
    let sum : c.add.result ≡ o.plus o.one o.one = c.add.ensures ∙ ap (λ w. o.plus w c.one-2.result) c.one.ensures ∙ ap (o.plus o.one) c.one-2.ensures in
    let twice : o.plus o.one o.one ≡ o.zero = sym sum ∙ zero_by_number m.laws.numbers c.add.result (sym c.number.ensures ∙ c.if-number-ne0.false) in
    (λ yes. record { twice = twice; splits = λ b k p l. c.loop-b.invariant b k (omega (arith, p, c.loop-b-test.false)) l }, λ binary. refl)
