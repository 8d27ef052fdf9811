-- Bits of numbers, the lowest first.
use Rattle.std.proofs.Common.{◌≡◌, ℕ, ◌-◌, ◌*◌, ◌/◌, ◌%◌, ◌^◌, ◌<◌, ◌≤◌, List, [], ◌∷◌, ◌++◌, length, take, drop, zero, suc, refl, sym, ap, subst, ◌∙◌, arith, append_assoc, length-append}
use Rattle.std.proofs.Math.Nat.{pow-suc}
use Rattle.lzk_goldilocks.specs.Elements.{of_number}
use Rattle.lzk_goldilocks.specs.declared.element.Gold.{Gold}
use Rattle.lzk_gadgets.specs.Inverses.{difference}
use Rattle.lzk_gadgets.specs.Spelled.{AreBits, spelled, Spells}
use Rattle.lzk_gadgets.proofs.SpelledLaws.{at_most_backward}
use Rattle.lzk_policy_circuit.specs.Met.{IsOrdered}
use Rattle.lzk_policy_circuit.proofs.Lists.{take_front, drop_front}
use Rattle.lzk_policy_circuit.proofs.Dates.{number_of_small, own_number}
use Rattle.lzk_policy_inputs.specs.Filled.{low_bits, order_bits}

half : (n m : ℕ) → n < 2 * m → n / 2 < m
half n m l = omega (arith, l)

pub length-low_bits : (k n : ℕ) → length (low_bits k n) ≡ k
unfolding low_bits
length-low_bits zero n = refl
length-low_bits (suc k) n = ap suc (length-low_bits k (n / 2))

pub length-order_bits : (difference value : ℕ) → length (order_bits difference value) ≡ 64
length-order_bits difference value =
    omega (arith, length-append (low_bits 32 difference) (low_bits 32 value), length-low_bits 32 difference, length-low_bits 32 value)

-- they spell it
pub low_spells : (k n : ℕ) → n < 2 ^ k → Spells n (low_bits k n)
unfolding low_bits
low_spells zero n l = record { bits = tt; number = omega (arith, l) }
low_spells (suc k) n l =
    let rest = low_spells k (n / 2) (half n (2 ^ k) (omega (arith, l, pow-suc 2 k))) in
    let small : n % 2 < 2 = omega arith in
    let is : (of_number (n % 2)).n ≡ n % 2 = number_of_small (n % 2) (omega (arith, small)) in
    record {
      bits = (omega (arith, is, small), rest.bits);
      number = omega (arith, is, rest.number);
    }

-- and no others of their number do
spelled_low : (k n : ℕ) (xs : List Gold) → length xs ≡ k → AreBits xs → n ≡ spelled xs → xs ≡ low_bits k n
unfolding low_bits
spelled_low zero n [] e h s = refl
spelled_low zero n (x ∷ xs) e h s = absurd (omega (arith, e))
spelled_low (suc k) n [] e h s = absurd (omega (arith, e))
spelled_low (suc k) n (x ∷ xs) e h s =
    let long : length xs ≡ k = omega (arith, e) in
    let low : x.n ≡ n % 2 = omega (arith, s, h.0) in
    let high : n / 2 ≡ spelled xs = omega (arith, s, h.0) in
    (λ i. (own_number x ∙ ap of_number low) i ∷ spelled_low k (n / 2) xs long h.1 high i)

pub spelled_are_low : (k n : ℕ) (xs : List Gold) → length xs ≡ k → Spells n xs → xs ≡ low_bits k n
spelled_are_low k n xs e h = spelled_low k n xs e h.bits h.number

-- the bits of the difference of two dates and of one of them, whatever stands behind
pub order_is : (low high value : ℕ) (more : List Gold) → low ≤ high → high < 2 ^ 32 → value < 2 ^ 32
    → IsOrdered (difference (of_number high) (of_number low)) (of_number value) (order_bits (high - low) value ++ more)
order_is low high value more le lh lv =
    let a = low_bits 32 (high - low) in
    let b = low_bits 32 value in
    let la = length-low_bits 32 (high - low) in
    let lb = length-low_bits 32 value in
    let nl = number_of_small low (omega (arith, le, lh)) in
    let nh = number_of_small high (omega (arith, lh)) in
    let nv = number_of_small value (omega (arith, lv)) in
    let whole : (a ++ b) ++ more ≡ a ++ (b ++ more) = append_assoc a b more in
    let one : take 32 ((a ++ b) ++ more) ≡ a = ap (take 32) whole ∙ take_front 32 a (b ++ more) (sym la) in
    let two : take 32 (drop 32 ((a ++ b) ++ more)) ≡ b =
    ap (λ l. take 32 (drop 32 l)) whole ∙ (ap (take 32) (drop_front 32 a (b ++ more) (sym la)) ∙ take_front 32 b more (sym lb)) in
    let gap : high - low ≡ (of_number high).n - (of_number low).n = λ i. sym nh i - sym nl i in
    let spells : Spells ((of_number high).n - (of_number low).n) a = subst (λ (n : ℕ). Spells n a) gap (low_spells 32 (high - low) (omega (arith, lh))) in
    record {
      difference_is = subst (λ (l : List Gold). Spells (difference (of_number high) (of_number low)).n l) (sym one)
          (at_most_backward (of_number low) (of_number high) a (omega (arith, nl, nh, le)) spells);
      value_is = subst (λ (l : List Gold). Spells (of_number value).n l) (sym two) (subst (λ (n : ℕ). Spells n b) (sym nv) (low_spells 32 value lv));
    }
