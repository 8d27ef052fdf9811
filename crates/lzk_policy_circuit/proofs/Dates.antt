-- What is asserted of dates, and what is shown of them.
use Rattle.std.proofs.Common.{◌≡◌, ℕ, ◌-◌, ◌^◌, ◌<◌, ◌≤◌, List, ◌++◌, length, take, drop, refl, sym, ap, subst, ◌∙◌, arith, mod-eq_of_lt, append_assoc, length-append, length-drop}
use Rattle.std.proofs.lemmas.List.{length-take-le}
use Rattle.lzk_goldilocks.specs.Prime.{p}
use Rattle.lzk_goldilocks.specs.Elements.{of_number, Gold-ext}
use Rattle.lzk_goldilocks.specs.declared.element.Gold.{Gold}
use Rattle.lzk_gadgets.specs.Inverses.{difference}
use Rattle.lzk_gadgets.specs.Spelled.{Spells}
use Rattle.lzk_gadgets.proofs.SpelledLaws.{spelled_are_below, below_are_spelled, at_most_forward, at_most_backward}
use Rattle.lzk_policy_circuit.specs.Met.{IsOrdered}
use Rattle.lzk_policy_circuit.proofs.Lists.{take_front, drop_front}

-- ---- order

-- the number of an element
pub number_of_small : (n : ℕ) → n < p → (of_number n).n ≡ n
number_of_small n l = mod-eq_of_lt l

pub own_number : (x : Gold) → x ≡ of_number x.n
own_number x = Gold-ext x (of_number x.n) (sym (mod-eq_of_lt x.small))

below_of : (n : ℕ) (own : List Gold) → length own ≡ 32 → Spells n own → n < 2 ^ 32
below_of n own e h = subst (λ (k : ℕ). n < 2 ^ k) e (spelled_are_below n own h)

module _ (x v : Gold) (own : List Gold) (room : 64 ≤ length own) where
  long_first : length (take 32 own) ≡ 32
  long_first = length-take-le 32 own (omega (arith, room))

  long_second : length (take 32 (drop 32 own)) ≡ 32
  long_second = length-take-le 32 (drop 32 own) (omega (arith, length-drop 32 own, room))

  -- x is at most v, where the difference is v less x
  pub most_forward : x.n < 2 ^ 32 → IsOrdered (difference v x) v own → (x.n ≤ v.n) × (v.n < 2 ^ 32)
  most_forward small h =
      let few : length (take 32 own) ≤ 62 = omega (arith, long_first) in
      ((at_most_forward x v (take 32 own) few (omega (arith, small)) h.difference_is).0, below_of v.n (take 32 (drop 32 own)) long_second h.value_is)

  -- v is at most x, where the difference is x less v
  pub least_forward : IsOrdered (difference x v) v own → v.n ≤ x.n
  least_forward h =
      let few : length (take 32 own) ≤ 62 = omega (arith, long_first) in
      let small = below_of v.n (take 32 (drop 32 own)) long_second h.value_is in
      (at_most_forward v x (take 32 own) few (omega (arith, small)) h.difference_is).0

-- bits of two numbers below 2 ^ 32
pub record Bits (n m : ℕ) : Type 0 where
  pub own : List Gold
  pub size_is : length own ≡ 64
  pub first : List Gold
  pub second : List Gold
  pub own_is : own ≡ first ++ second
  pub long_first : length first ≡ 32
  pub long_second : length second ≡ 32
  pub first_is : Spells n first
  pub second_is : Spells m second

pub some_bits : (n m : ℕ) → n < 2 ^ 32 → m < 2 ^ 32 → Bits n m
some_bits n m ln lm =
    let a = below_are_spelled 32 n ln in
    let b = below_are_spelled 32 m lm in
    record {
      own = a.0 ++ b.0;
      size_is = omega (arith, length-append a.0 b.0, a.1, b.1);
      first = a.0;
      second = b.0;
      own_is = refl;
      long_first = a.1;
      long_second = b.1;
      first_is = a.2;
      second_is = b.2;
    }

-- bits of the difference and of the value, whatever stands behind them
ordered_by : (low high v : Gold) (more : List Gold) → low.n ≤ high.n → (b : Bits (high.n - low.n) v.n) → IsOrdered (difference high low) v (b.own ++ more)
ordered_by low high v more le b =
    let whole : b.own ++ more ≡ b.first ++ (b.second ++ more) = ap (λ l. l ++ more) b.own_is ∙ append_assoc b.first b.second more in
    let one : take 32 (b.own ++ more) ≡ b.first = ap (take 32) whole ∙ take_front 32 b.first (b.second ++ more) (sym b.long_first) in
    let two : take 32 (drop 32 (b.own ++ more)) ≡ b.second = ap (λ l. take 32 (drop 32 l)) whole ∙ (ap (take 32) (drop_front 32 b.first (b.second ++ more) (sym b.long_first)) ∙ take_front 32 b.second more (sym b.long_second)) in
    record {
      difference_is = subst (λ (l : List Gold). Spells (difference high low).n l) (sym one) (at_most_backward low high b.first le b.first_is);
      value_is = subst (λ (l : List Gold). Spells v.n l) (sym two) b.second_is;
    }

pub ordered : (low high v : Gold) → low.n ≤ high.n → high.n < 2 ^ 32 → v.n < 2 ^ 32
    → (own : List Gold) × (length own ≡ 64) × ((more : List Gold) → IsOrdered (difference high low) v (own ++ more))
ordered low high v le lh lv =
    let b = some_bits (high.n - low.n) v.n (omega (arith, lh)) lv in
    (b.own, b.size_is, λ more. ordered_by low high v more le b)
