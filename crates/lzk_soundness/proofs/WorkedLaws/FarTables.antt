-- A table of which half the columns are 0 and half are 1 is not near codewords.
use Rattle.std.specs.Prelude.{◌≡◌, ℕ, ◌+◌, ◌-◌, ◌*◌, ◌<◌, ◌≤◌, ◌||◌, nat_lt, Bool, true, false, cond, [], ◌∷◌, length}
use Rattle.std.specs.List.{range_with_len}
use Rattle.std.proofs.Common.{zero, suc, refl, sym, ap, ◌∙◌, arith}
use Rattle.std.proofs.lemmas.Bool.{false≢true, ltb-true, lt-ltb}
use Rattle.std.proofs.lemmas.List.FromFn.{length-range_with_len}
use native.Mathlib.Decide.{dec_lt}
use Rattle.lzk_field.specs.Coding.{Coding}
use Rattle.lzk_field.specs.Ring.{Ops, Laws}
use Rattle.lzk_field.proofs.RingBasics.{times_zero}
use Rattle.lzk_poly.specs.Polynomial.{eval}
use Rattle.lzk_circuit.specs.Valid.{Wiring}
use Rattle.lzk_layout.specs.declared.params.Params.{Params}
use Rattle.lzk_layout.specs.Sizes.{AreBounded, params_of}
use Rattle.lzk_layout.proofs.SizeLaws.{row_below}
use Rattle.lzk_soundness.specs.Chance.Draws.{count}
use Rattle.lzk_soundness.proofs.ChanceLaws.Counting.{count-most}
use Rattle.lzk_soundness.proofs.NearLaws.Agreeing.{or_false, count_or, same_but_few}
use Rattle.lzk_soundness.specs.Tables.Table.{place, IsNear}
use Rattle.lzk_soundness.proofs.TablesLaws.Far.{columns_apart}
use Rattle.lzk_soundness.specs.Worked.Zeros.{half_table, HasZeroMasks}

-- the columns below the half, and the others
abbrev low : ℕ → ℕ → Bool
low half j = nat_lt j half

abbrev high : ℕ → ℕ → Bool
high half j = cond (nat_lt j half) false true

low_few : (half a k : ℕ) → count (low half) (range_with_len a k) ≤ half - a
low_few half a zero = omega arith
low_few half a (suc k) = elim (dec_lt a half) [
  | yes less ↦ let one : ◌≡◌ {A = ℕ} (cond (low half a) 1 0) 1 = ap {B = ℕ} (λ (x : Bool). cond x 1 0) (lt-ltb a half less) in omega (arith, less, low_few half (a + 1) k, one)
  | no more ↦ let none : ◌≡◌ {A = ℕ} (cond (low half a) 1 0) 0 = not_low (nat_lt a half) refl more in omega (arith, more, low_few half (a + 1) k, none)
]
  where
    not_low : (b : Bool) → nat_lt a half ≡ b → (a < half → ⊥) → ◌≡◌ {A = ℕ} (cond b 1 0) 0
    not_low true is more = absurd (more (ltb-true a half is))
    not_low false is more = refl

high_few : (half a k : ℕ) → a ≤ half → count (high half) (range_with_len a k) ≤ a + k - half
high_few half a zero h = omega arith
high_few half a (suc k) h = elim (dec_lt a half) [
  | yes less ↦ let none : ◌≡◌ {A = ℕ} (cond (high half a) 1 0) 0 = ap {B = ℕ} (λ (x : Bool). cond (cond x false true) 1 0) (lt-ltb a half less) in omega (arith, less, high_few half (a + 1) k (omega (arith, less)), none)
  | no more ↦ omega (arith, h, more, count-most (high half) (range_with_len a (suc k)), length-range_with_len a (suc k))
]

module _ {A : Type 0} (o : Ops A) (e : Coding A) (laws : Laws o e.size e.number e.element e.bytes) (c : Wiring A) (b : AreBounded (params_of c)) where
  abbrev p : Params
  p = params_of c

  abbrev half : ℕ
  half = 2 * p.block

  abbrev table : ℕ → ℕ → A
  table = half_table o c

  pub half_masks : HasZeroMasks o (half_table o c)
  half_masks row column h = ap (λ (b : Bool). cond b o.zero (cond (nat_lt column half) o.zero o.one)) (lt-ltb row 3 h)

  some_rows : 1 ≤ p.nrow - 3
  some_rows = omega (arith, row_below 0 p.layers p.wr (omega (arith, b.wide)) (omega (arith, b.some)), b.ntriple, b.rows)

  pub half_far : IsNear o e.element p (half_table o c) p.block → ⊥
  half_far near =
      let at : ℕ → A = place o e.element p table in
      let all = range_with_len 0 p.mcol in
      let code = near.code 1 in
      let below : ℕ → Bool = λ j. near.outside j || high half j in
      let above : ℕ → Bool = λ j. near.outside j || low half j in
      let short : length code ≤ p.block = near.short 1 (omega (arith, some_rows)) in
      let apart = columns_apart laws p table b in
      let is : (j : ℕ) → j < p.mcol → near.outside j ≡ false → cond (nat_lt j half) o.zero o.one ≡ eval o code (at j) = λ j h inside. near.agree 1 j (omega (arith, some_rows)) h inside in
      let zeros : (t : A) → eval o code t ≡ eval o [] t =
      same_but_few o at below laws.ring laws.field p.block p.mcol code [] short (omega arith) apart
      (omega (arith, count_or near.outside (high half) all, near.few, high_few half 0 p.mcol (omega arith), b.mcol))
      (λ j h good.
      let both = or_false (near.outside j) (high half j) good in
      sym (is j h both.0) ∙ at_low (nat_lt j half) both.1) in
      let ones : (t : A) → eval o code t ≡ eval o (o.one ∷ []) t =
      same_but_few o at above laws.ring laws.field p.block p.mcol code (o.one ∷ []) short (omega (arith, b.block)) apart
      (omega (arith, count_or near.outside (low half) all, near.few, low_few half 0 p.mcol, b.mcol))
      (λ j h good.
      let both = or_false (near.outside j) (low half j) good in
      sym (is j h both.0) ∙ at_high (nat_lt j half) both.1 ∙ sym (one_is (at j))) in
      laws.field.one_not_zero (sym (one_is o.zero) ∙ sym (ones o.zero) ∙ zeros o.zero)
    where
      at_low : (b : Bool) → cond b false true ≡ false → cond b o.zero o.one ≡ o.zero
      at_low true is = refl
      at_low false is = absurd (false≢true (sym is))

      at_high : (b : Bool) → b ≡ false → cond b o.zero o.one ≡ o.one
      at_high true is = absurd (false≢true (sym is))
      at_high false is = refl

      one_is : (t : A) → eval o (o.one ∷ []) t ≡ o.one
      one_is t = ap (o.plus o.one) (times_zero o laws.ring t) ∙ laws.ring.plus_zero o.one
