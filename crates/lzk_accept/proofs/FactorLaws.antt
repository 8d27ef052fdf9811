-- How numbers agree with a point, by their upper and their lower bits.
use Rattle.std.specs.Prelude.{◌≡◌, ℕ, ◌+◌, ◌-◌, ◌*◌, ◌/◌, ◌%◌, ◌<◌, ◌≤◌, ◌^◌, ◌==◌, cond, nat_lt, List, [], ◌∷◌, ◌++◌, length, slice_set}
use Rattle.std.proofs.Common.{suc, refl, sym, ap, ◌∙◌, inl, inr, arith}
use Rattle.std.proofs.lemmas.Bool.{lt-ltb, le-ltb, cases_eq}
use Rattle.std.proofs.lemmas.List.{get_or_past, get_or_append_left, get_or-append-add, get_or-set_same, get_or-set_other, length-set}
use Rattle.std.proofs.lemmas.Nat.{div-add-mod'}
use Rattle.std.proofs.Math.Nat.{pow-succ', mod-lt, lt_of_mul-lt-mul_right}
use Rattle.std.proofs.Math.Pow.{pow_mono}
use native.Mathlib.Decide.{dec_lt}
use Rattle.lzk_field.specs.Ring.{Ops, RingLaws}
use Rattle.lzk_field.specs.Sums.{sum_below, entry}
use Rattle.lzk_field.proofs.RingBasics.{one_times}
use Rattle.lzk_field.proofs.Solve.{var, null, ◌⊞◌, ◌⊠◌, solve}
use Rattle.lzk_mle.specs.Multilinear.{low_bit, agree, eq}
use Rattle.lzk_circuit.specs.Bits.{bits}
use Rattle.lzk_circuit.proofs.BitLaws.{bits_enough, bits_least}
use Rattle.lzk_layout.specs.Sizes.{row_width}

-- as many numbers as a power of two take as many bits as its exponent says
power_bits : (e : ℕ) → 2 ^ bits (2 ^ e) ≡ 2 ^ e
power_bits e =
    elim (dec_lt e (bits (2 ^ e))) [
      | yes l ↦ absurd (omega (arith, bits_least (2 ^ e) e l))
      | no l ↦ omega (arith, bits_enough (2 ^ e), pow_mono {i = bits (2 ^ e)} {j = e} (omega arith))
    ]

-- a row is as wide as there are numbers of so many bits
pub width_power : (n : ℕ) → 2 ^ bits (row_width n) ≡ row_width n
unfolding row_width
width_power n = power_bits _

-- where rows have something to hold among so many numbers, their positions take no more bits
pub bits_within : (b n rows x : ℕ) → 0 < rows → rows * 2 ^ b ≤ x → x < 2 ^ n → b ≤ n
bits_within b n rows x some few fits =
    elim (dec_lt n b) [
      | yes l ↦
          let all : rows ≡ 1 + (rows - 1) = omega arith in
          let parts : (1 + (rows - 1)) * 2 ^ b ≡ 2 ^ b + (rows - 1) * 2 ^ b = omega arith in
          absurd (omega (arith, ap (λ k. k * 2 ^ b) all, parts, few, fits, pow_mono {i = n} {j = b} (omega arith)))
      | no l ↦ omega arith
    ]

-- the places of a row come before the next row's
pub row_end : (w rows i s : ℕ) → i < rows → s < w → i * w + s < rows * w
row_end w rows i s here inside =
    let all : rows ≡ i + 1 + (rows - i - 1) = omega arith in
    let up : (i + 1 + (rows - i - 1)) * w ≡ i * w + w + (rows - i - 1) * w = omega arith in
    omega (arith, ap (λ n. n * w) all, up)

-- two lists of n entries, one after the other, of which the first i of each are set
pub record AreSetTo {A : Type 0} (o : Ops A) (f g : ℕ → A) (n i : ℕ) (list : List A) : Type 0 where
  pub here : (k : ℕ) → k < i → entry o list k ≡ f k
  pub next : (k : ℕ) → k < i → entry o list (n + k) ≡ g k

pub two_set : {A : Type 0} (o : Ops A) (f g : ℕ → A) (n : ℕ) (list : List A) (i : ℕ) (x y : A) → i < n → n + i < length list → AreSetTo o f g n i list → x ≡ f i → y ≡ g i
    → AreSetTo o f g n (i + 1) (slice_set (slice_set list i x) (n + i) y)
two_set o f g n list i x y inside room h ex ey =
    let mid = slice_set list i x in
    let sized : length mid ≡ length list = length-set list i x in
    record {
      here = λ k l. get_or-set_other mid (n + i) k y o.zero (omega (arith, l, inside)) ∙ elim (cases_eq k i) [
        | inl e ↦ ap (entry o mid) e ∙ get_or-set_same list i x o.zero (omega (arith, room)) ∙ ex ∙ ap f (sym e)
        | inr d ↦ get_or-set_other list i k x o.zero d ∙ h.here k (omega (arith, l, d))
      ];
      next = λ k l. elim (cases_eq k i) [
        | inl e ↦ ap (λ (m : ℕ). entry o (slice_set mid (n + i) y) (n + m)) e ∙ get_or-set_same mid (n + i) y o.zero (omega (arith, sized, room)) ∙ ey ∙ ap g (sym e)
        | inr d ↦ get_or-set_other mid (n + i) (n + k) y o.zero (omega (arith, d)) ∙ get_or-set_other list i (n + k) x o.zero (omega (arith, inside)) ∙ h.next k (omega (arith, l, d))
      ];
    }

module _ {A : Type 0} (o : Ops A) (r : RingLaws o) where
  open o use {plus, times, neg}

  -- the lower bits agree with the first entries, and the upper ones with the others
  pub eq_split : (lows highs : List A) (h l : ℕ) → l < 2 ^ length lows → eq o (h * 2 ^ length lows + l) (lows ++ highs) ≡ times (eq o l lows) (eq o h highs)
  eq_split [] highs h l b =
      let e : h * 1 + l ≡ h = omega arith in
      ap (λ k. eq o k highs) e ∙ sym (one_times o r (eq o h highs))
  eq_split (x ∷ xs) highs h l b =
      let w = 2 ^ length xs in
      let n = h * 2 ^ suc (length xs) + l in
      let twice : 2 ^ suc (length xs) ≡ 2 * w = pow-succ' 2 (length xs) in
      let whole : n ≡ 2 * (h * w) + l = ap (λ k. h * k + l) twice ∙ omega arith in
      let low : n % 2 ≡ l % 2 = omega (arith, whole) in
      let half : n / 2 ≡ h * w + l / 2 = omega (arith, whole) in
      let below : l / 2 < w = omega (arith, b, twice) in
      let a = agree o (low_bit o l) x in
      ap (λ k. times (agree o (cond (k == 0) o.zero o.one) x) (eq o (n / 2) (xs ++ highs))) low
      ∙ ap (λ k. times a (eq o k (xs ++ highs))) half
      ∙ ap (times a) (eq_split xs highs h (l / 2) below)
      ∙ solve o r (a ∷ eq o (l / 2) xs ∷ eq o h highs ∷ []) (var 0 ⊠ (var 1 ⊠ var 2)) ((var 0 ⊠ var 1) ⊠ var 2) refl

  -- what two factors of a row and two of a position, from tables of the upper and of the lower bits, give
  module _ (lows highs low_table high_table : List A) (by : A) where
    pub products_at : (w first i s : ℕ) (r0 r1 p0 p1 : A) → w ≡ 2 ^ length lows → length low_table ≡ w
        → ((k : ℕ) → k < w → entry o low_table k ≡ eq o k lows) → ((k : ℕ) → k < 2 ^ length highs → entry o high_table k ≡ eq o k highs)
        → first + (i * w + s) < 2 ^ length highs * w → s < w
        → r0 ≡ times by (entry o high_table (first / w + i)) → r1 ≡ times by (entry o high_table (first / w + i + 1))
        → p0 ≡ entry o low_table (first % w + s) → p1 ≡ cond (nat_lt (first % w + s) w) o.zero (entry o low_table (first % w + s - w))
        → plus (times r0 p0) (times r1 p1) ≡ times by (eq o (first + (i * w + s)) (lows ++ highs))
    products_at w first i s r0 r1 p0 p1 ew size el eh inside small er0 er1 ep0 ep1 =
        let h = first / w in
        let l = first % w in
        let parts : h * w + l ≡ first = div-add-mod' first w in
        let rest : l < w = mod-lt first (omega arith) in
        elim (dec_lt (l + s) w) [
          | yes m ↦
              let number : first + (i * w + s) ≡ (h + i) * w + (l + s) = omega (arith, parts) in
              let high : h + i < 2 ^ length highs = at_high (h + i) (l + s) (omega (arith, number, inside)) in
              ap (λ x. plus (times x p0) (times r1 p1)) (er0 ∙ ap (times by) (eh (h + i) high))
              ∙ ap (λ x. plus (times (times by (eq o (h + i) highs)) x) (times r1 p1)) (ep0 ∙ el (l + s) m)
              ∙ ap (λ x. plus (times (times by (eq o (h + i) highs)) (eq o (l + s) lows)) (times r1 x)) (ep1 ∙ ap (λ b. cond b o.zero (entry o low_table (l + s - w))) (lt-ltb (l + s) w m))
              ∙ solve o r (by ∷ eq o (h + i) highs ∷ eq o (l + s) lows ∷ r1 ∷ []) ((var 0 ⊠ var 1) ⊠ var 2 ⊞ var 3 ⊠ null) (var 0 ⊠ (var 2 ⊠ var 1)) refl
              ∙ ap (times by) (joined (h + i) (l + s) m ∙ ap (λ k. eq o k (lows ++ highs)) (sym number))
          | no m ↦
              let k = l + s - w in
              let up : (h + i + 1) * w ≡ (h + i) * w + w = omega arith in
              let number : first + (i * w + s) ≡ (h + i + 1) * w + k = omega (arith, parts, up) in
              let low : k < w = omega arith in
              let high : h + i + 1 < 2 ^ length highs = at_high (h + i + 1) k (omega (arith, number, inside)) in
              ap (λ x. plus (times r0 x) (times r1 p1)) (ep0 ∙ get_or_past low_table (l + s) o.zero (omega (arith, size)))
              ∙ ap (λ x. plus (times r0 o.zero) (times x p1)) (er1 ∙ ap (times by) (eh (h + i + 1) high))
              ∙ ap (λ x. plus (times r0 o.zero) (times (times by (eq o (h + i + 1) highs)) x)) (ep1 ∙ ap (λ b. cond b o.zero (entry o low_table k)) (le-ltb (l + s) w (omega arith)) ∙ el k low)
              ∙ solve o r (by ∷ eq o (h + i + 1) highs ∷ eq o k lows ∷ r0 ∷ []) (var 3 ⊠ null ⊞ (var 0 ⊠ var 1) ⊠ var 2) (var 0 ⊠ (var 2 ⊠ var 1)) refl
              ∙ ap (times by) (joined (h + i + 1) k low ∙ ap (λ k. eq o k (lows ++ highs)) (sym number))
        ]
      where
        joined : (h l : ℕ) → l < w → times (eq o l lows) (eq o h highs) ≡ eq o (h * w + l) (lows ++ highs)
        joined h l b = sym (eq_split lows highs h l (omega (arith, b, ew))) ∙ ap (λ k. eq o (h * k + l) (lows ++ highs)) (sym ew)

        at_high : (h l : ℕ) → h * w + l < 2 ^ length highs * w → h < 2 ^ length highs
        at_high h l b = let less : h * w < 2 ^ length highs * w = omega arith in lt_of_mul-lt-mul_right w less

  -- entries of two lists that are joined, each of which has two parts of one length
  module _ (n : ℕ) (xs ys : List A) (i : ℕ) (size : length xs ≡ 2 * n) (h : i < n) where
    part_0 : entry o (xs ++ ys) (0 * n + i) ≡ entry o xs i
    part_0 = let e : 0 * n + i ≡ i = omega arith in ap (entry o (xs ++ ys)) e ∙ get_or_append_left xs ys o.zero i (omega (arith, size))

    part_1 : entry o (xs ++ ys) (1 * n + i) ≡ entry o xs (n + i)
    part_1 = let e : 1 * n + i ≡ n + i = omega arith in ap (entry o (xs ++ ys)) e ∙ get_or_append_left xs ys o.zero (n + i) (omega (arith, size))

    part_2 : entry o (xs ++ ys) (2 * n + i) ≡ entry o ys i
    part_2 = let e : 2 * n + i ≡ length xs + i = omega (arith, size) in ap (entry o (xs ++ ys)) e ∙ get_or-append-add xs ys i o.zero

    part_3 : entry o (xs ++ ys) (3 * n + i) ≡ entry o ys (n + i)
    part_3 = let e : 3 * n + i ≡ length xs + (n + i) = omega (arith, size) in ap (entry o (xs ++ ys)) e ∙ get_or-append-add xs ys (n + i) o.zero

  both : (x y u v : A) → x ≡ u → y ≡ v → times x y ≡ times u v
  both x y u v e f = ap (λ z. times z y) e ∙ ap (times u) f

  pub joined_products : (rows width : ℕ) (ra rb pa pb : List A) (i s : ℕ) → length ra ≡ 2 * rows → length pa ≡ 2 * width → i < rows → s < width
      → sum_below o 4 (λ k. times (entry o (ra ++ rb) (k * rows + i)) (entry o (pa ++ pb) (k * width + s)))
      ≡ plus (plus (plus (plus o.zero (times (entry o ra i) (entry o pa s))) (times (entry o ra (rows + i)) (entry o pa (width + s)))) (times (entry o rb i) (entry o pb s)))
      (times (entry o rb (rows + i)) (entry o pb (width + s)))
  joined_products rows width ra rb pa pb i s er ep hr hp =
      let t : ℕ → A = λ k. times (entry o (ra ++ rb) (k * rows + i)) (entry o (pa ++ pb) (k * width + s)) in
      let x0 = times (entry o ra i) (entry o pa s) in
      let x1 = times (entry o ra (rows + i)) (entry o pa (width + s)) in
      let x2 = times (entry o rb i) (entry o pb s) in
      ap (λ x. plus (plus (plus (plus o.zero x) (t 1)) (t 2)) (t 3)) (both _ _ _ _ (part_0 rows ra rb i er hr) (part_0 width pa pb s ep hp))
      ∙ ap (λ x. plus (plus (plus (plus o.zero x0) x) (t 2)) (t 3)) (both _ _ _ _ (part_1 rows ra rb i er hr) (part_1 width pa pb s ep hp))
      ∙ ap (λ x. plus (plus (plus (plus o.zero x0) x1) x) (t 3)) (both _ _ _ _ (part_2 rows ra rb i er hr) (part_2 width pa pb s ep hp))
      ∙ ap (plus (plus (plus (plus o.zero x0) x1) x2)) (both _ _ _ _ (part_3 rows ra rb i er hr) (part_3 width pa pb s ep hp))

  -- the sum of four such products, for two points
  pub four_products : (by gamma ea eb p0 p1 p2 p3 : A) → plus p0 p1 ≡ times by ea → plus p2 p3 ≡ times (times by gamma) eb
      → plus (plus (plus (plus o.zero p0) p1) p2) p3 ≡ times by (plus ea (times gamma eb))
  four_products by gamma ea eb p0 p1 p2 p3 e1 e2 =
      solve o r (p0 ∷ p1 ∷ p2 ∷ p3 ∷ []) ((((null ⊞ var 0) ⊞ var 1) ⊞ var 2) ⊞ var 3) ((var 0 ⊞ var 1) ⊞ (var 2 ⊞ var 3)) refl
      ∙ ap (λ x. plus x (plus p2 p3)) e1 ∙ ap (plus (times by ea)) e2
      ∙ solve o r (by ∷ gamma ∷ ea ∷ eb ∷ []) (var 0 ⊠ var 2 ⊞ (var 0 ⊠ var 1) ⊠ var 3) (var 0 ⊠ (var 2 ⊞ var 1 ⊠ var 3)) refl
