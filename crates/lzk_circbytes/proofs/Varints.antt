-- Numbers in their shortest form.
use Rattle.std.proofs.Common.{◌≡◌, ℕ, zero, suc, ◌+◌, ◌-◌, ◌*◌, ◌/◌, ◌%◌, ◌^◌, ◌<◌, ◌≤◌, Bool, true, false, cond, ltb, eqb, List, [], ◌∷◌, ◌++◌, Ok, refl, ap, subst, ◌∙◌, arith, inl, inr, ◌⊎◌, lit≤, sub-one}
use Rattle.std.proofs.lemmas.Bool.{ltb-true, ltb-false, le-ltb, lt-ltb, cases_lt, eqb-false, ne_eqb}
use Rattle.std.proofs.Math.Nat.{pow-succ', pow-zero}
use Rattle.lzk_circbytes.specs.declared.fault.ByteKind.TheVariants.{Varint, Range}
use Rattle.lzk_circbytes.specs.Reading.{◌>>=◌, stops, septets_at, varint_at, step_at}
use Rattle.lzk_circbytes.specs.Spelling.{septets, varint}
use Rattle.lzk_circbytes.proofs.Steps.{IsBytes, IsBytes-rest, bind_ok, passed, not_refused, ok_is, Takes}

chosen : {A : Type 0} (b : Bool) (x y z : A) → cond b x y ≡ z → ((b ≡ true) × (x ≡ z)) ⊎ ((b ≡ false) × (y ≡ z))
chosen true x y z e = inl (refl, e)
chosen false x y z e = inr (refl, e)

septets_long : (k n : ℕ) → 128 ≤ n → septets (suc k) n ≡ (128 + n % 128) ∷ septets k (n / 128)
unfolding septets
septets_long k n h = rw (le-ltb n 128 h) refl

septets_short : (k n : ℕ) → n < 128 → septets (suc k) n ≡ n ∷ []
unfolding septets
septets_short k n h = rw (lt-ltb n 128 h) refl

pub septets_take : (k : ℕ) (field bytes : List ℕ) (x : ℕ × List ℕ) → IsBytes bytes → septets_at k field bytes ≡ Ok x → Takes bytes (septets k x.0) x.1
unfolding septets_at
septets_take zero field bytes x fits e = absurd cc
septets_take (suc k) field [] x fits e = absurd cc
septets_take (suc k) field (b ∷ bytes) x fits e =
    elim (chosen (ltb b 128) (Ok (b, bytes)) (septets_at k field bytes >>= λ high. cond (eqb high.0 0) (stops Varint field) (Ok (b - 128 + 128 * high.0, high.1))) (Ok x) e) [
      | inl h ↦
          let short : b < 128 = omega (arith, ltb-true b 128 h.0) in
          subst (λ (y : ℕ × List ℕ). Takes (b ∷ bytes) (septets (suc k) y.0) y.1) (ok_is (b, bytes) x h.1)
          (record { parts = rw (septets_short k b short) refl; rest_fits = IsBytes-rest b bytes fits })
      | inr h ↦
          let a = bind_ok (septets_at k field bytes) (λ high. cond (eqb high.0 0) (stops Varint field) (Ok (b - 128 + 128 * high.0, high.1))) x h.1 in
          let g = not_refused (eqb a.0.0 0) _ (Ok (b - 128 + 128 * a.0.0, a.0.1)) x a.2 in
          let long : 128 ≤ b = ltb-false b 128 h.0 in
          let top : b < 256 = fits 0 in
          let some : 1 ≤ a.0.0 = omega (arith, eqb-false a.0.0 0 g.0) in
          let n : ℕ = b - 128 + 128 * a.0.0 in
          let low : 128 + n % 128 ≡ b = omega arith in
          let high : n / 128 ≡ a.0.0 = omega arith in
          let big : 128 ≤ n = omega arith in
          let rest = septets_take k field bytes a.0 (IsBytes-rest b bytes fits) a.1 in
          subst (λ (y : ℕ × List ℕ). Takes (b ∷ bytes) (septets (suc k) y.0) y.1) (ok_is (n, a.0.1) x g.1)
          (record { parts = rw (septets_long k n big, low, high) (ap (λ (t : List ℕ). b ∷ t) rest.parts); rest_fits = rest.rest_fits })
    ]

left_over : (k n : ℕ) → n / 128 < 128 ^ k → 1 ≤ n / 128 → 1 ≤ k
left_over zero n less more = absurd (let e : 128 ^ 0 ≡ 1 = pow-zero 128 in omega (arith, e))
left_over (suc k) n less more = omega arith

pub septets_again : (k n : ℕ) (field rest : List ℕ) → 1 ≤ k → n < 128 ^ k → septets_at k field (septets k n ++ rest) ≡ Ok (n, rest)
unfolding septets_at septets
septets_again zero n field rest some h = absurd (omega arith)
septets_again (suc k) n field rest some h =
    elim (cases_lt n 128) [
      | inl short ↦ rw (lt-ltb n 128 short, lt-ltb n 128 short) refl
      | inr long ↦
          let e : 128 ^ suc k ≡ 128 * 128 ^ k = pow-succ' 128 k in
          let less : n / 128 < 128 ^ k = omega (arith, e) in
          let more : 1 ≤ n / 128 = omega arith in
          let again = septets_again k (n / 128) field rest (left_over k n less more) less in
          let low : ltb (128 + n % 128) 128 ≡ false = le-ltb (128 + n % 128) 128 (omega arith) in
          let some_high : eqb (n / 128) 0 ≡ false = ne_eqb (n / 128) 0 (omega arith) in
          let whole : 128 + n % 128 - 128 + 128 * (n / 128) ≡ n = omega arith in
          rw (le-ltb n 128 long, low, again, some_high, whole) refl
    ]

varint_take : (bytes : List ℕ) (x : ℕ × List ℕ) → IsBytes bytes → varint_at bytes ≡ Ok x → Takes bytes (varint x.0) x.1 × (x.0 < 2 ^ 32)
unfolding varint_at
varint_take bytes x fits e =
    let a = bind_ok (septets_at 5 bytes bytes) (λ n. cond (ltb n.0 (2 ^ 32)) (Ok n) (stops Varint bytes)) x e in
    let g = passed (ltb a.0.0 (2 ^ 32)) _ (Ok a.0) x a.2 in
    subst (λ (y : ℕ × List ℕ). Takes bytes (varint y.0) y.1 × (y.0 < 2 ^ 32)) (ok_is a.0 x g.1) (septets_take 5 bytes bytes a.0 fits a.1, ltb-true a.0.0 (2 ^ 32) g.0)

varint_again : (n : ℕ) (rest : List ℕ) → n < 2 ^ 32 → varint_at (varint n ++ rest) ≡ Ok (n, rest)
unfolding varint_at
varint_again n rest h =
    let less : n < 128 ^ 5 = omega arith in
    rw (septets_again 5 n (varint n ++ rest) rest (lit≤ tt) less, lt-ltb n (2 ^ 32) h) refl

-- a step from base stays below limit
pub record Steps (base limit n : ℕ) : Type 0 where
  pub up : base ≤ n
  pub below : n < limit

pub step_take : (base limit : ℕ) (bytes : List ℕ) (x : ℕ × List ℕ) → IsBytes bytes → step_at base limit bytes ≡ Ok x → Takes bytes (varint (x.0 - base)) x.1 × Steps base limit x.0
unfolding step_at
step_take base limit bytes x fits e =
    let a = bind_ok (varint_at bytes) (λ n. cond (ltb (base + n.0) limit) (Ok (base + n.0, n.1)) (stops Range bytes)) x e in
    let g = passed (ltb (base + a.0.0) limit) _ (Ok (base + a.0.0, a.0.1)) x a.2 in
    let v = varint_take bytes a.0 fits a.1 in
    let less : base + a.0.0 < limit = ltb-true (base + a.0.0) limit g.0 in
    let back : base + a.0.0 - base ≡ a.0.0 = omega arith in
    subst (λ (y : ℕ × List ℕ). Takes bytes (varint (y.0 - base)) y.1 × Steps base limit y.0) (ok_is (base + a.0.0, a.0.1) x g.1) (rw back v.0, record { up = omega arith; below = less })

pub step_again : (base limit n : ℕ) (rest : List ℕ) → n < 2 ^ 32 → Steps base limit n → step_at base limit (varint (n - base) ++ rest) ≡ Ok (n, rest)
unfolding step_at
step_again base limit n rest small h =
    let back : base + (n - base) ≡ n = omega (arith, h.up) in
    rw (varint_again (n - base) rest (omega arith), back, lt-ltb n limit h.below) refl

-- ---- as they are written

pub septets_small : (k n : ℕ) → 1 ≤ k → n < 128 → septets k n ≡ n ∷ []
septets_small zero n some h = absurd (omega arith)
septets_small (suc k) n some h = septets_short k n h

pub septets_big : (k n : ℕ) → 1 ≤ k → 128 ≤ n → septets k n ≡ (128 + n % 128) ∷ septets (k - 1) (n / 128)
septets_big zero n some h = absurd (omega arith)
septets_big (suc k) n some h = rw sub-one (septets_long k n h)

pub varint_of_one : (n : ℕ) → n < 128 → varint n ≡ n ∷ []
varint_of_one n h = septets_small 5 n (lit≤ tt) h

pub varint_of_two : (n : ℕ) → 128 ≤ n → n < 16384 → varint n ≡ (128 + n % 128) ∷ (n / 128) ∷ []
varint_of_two n big small =
    septets_big 5 n (lit≤ tt) big ∙ ap (λ (xs : List ℕ). (128 + n % 128) ∷ xs) (septets_small 4 (n / 128) (lit≤ tt) (omega arith))

pub varint_of_three : (n : ℕ) → 16384 ≤ n → n < 2097152 → varint n ≡ (128 + n % 128) ∷ (128 + n / 128 % 128) ∷ (n / 16384) ∷ []
varint_of_three n big small =
    let last : n / 128 / 128 ≡ n / 16384 = omega arith in
    septets_big 5 n (lit≤ tt) (omega arith)
    ∙ ap (λ (xs : List ℕ). (128 + n % 128) ∷ xs) (septets_big 4 (n / 128) (lit≤ tt) (omega arith)
    ∙ ap (λ (xs : List ℕ). (128 + n / 128 % 128) ∷ xs) (septets_small 3 (n / 128 / 128) (lit≤ tt) (omega arith) ∙ ap (λ (k : ℕ). k ∷ []) last))
