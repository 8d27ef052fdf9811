-- The distance of elements from a text.
use Rattle.std.proofs.Common.{◌≡◌, ℕ, ◌+◌, ◌-◌, ◌*◌, ◌<◌, ◌≤◌, List, [], ◌∷◌, length, map, zero, suc, refl, sym, ap, ◌∙◌, arith, inl, inr, mul-suc}
use Rattle.std.specs.Prelude.{◌↔◌, IsTrue, Bool, true, false, ◌&&◌, ◌==◌, nat_lt}
use Rattle.std.specs.List.{list_all}
use Rattle.std.proofs.lemmas.Bool.{cases_eq, cases_lt, eqb-true, ltb-true}
use Rattle.std.proofs.lemmas.Nat.{mul-le}
use Rattle.lzk_field.proofs.RingBasics.{no_divisors, zero_times, times_zero}
use Rattle.lzk_field.proofs.Solve.{var, null, unit, ◌⊞◌, ◌⊟◌, ◌⊠◌, solve}
use Rattle.lzk_goldilocks.specs.Prime.{p}
use Rattle.lzk_goldilocks.specs.Elements.{ops, of_number, ring, field, Gold-ext}
use Rattle.lzk_goldilocks.specs.declared.element.Gold.{Gold}
use Rattle.lzk_gadgets.specs.Inverses.{difference}
use Rattle.lzk_sha_circuit.proofs.Numbered.{gold_numbered}
use Rattle.lzk_policy.specs.Policies.{is_text_of, are_texts_of}
use Rattle.lzk_policy_circuit.specs.Squares.{square, distance, squares, text_squares, inner, distance_by, distances, IsAtText}

pub both_true : (a b : Bool) → IsTrue (a && b) → IsTrue a × IsTrue b
both_true true b h = (refl, h)
both_true false b h = absurd cc

pub text_long : (n : ℕ) (text : List ℕ) → IsTrue (is_text_of n text) → length text ≡ n
text_long n text h = eqb-true (length text) n (both_true (length text == n) (list_all (λ b. nat_lt b 256) text) h).0

pub text_small : (n : ℕ) (text : List ℕ) → IsTrue (is_text_of n text) → IsTrue (list_all (λ b. nat_lt b 256) text)
text_small n text h = (both_true (length text == n) (list_all (λ b. nat_lt b 256) text) h).1

pub first_text : (n : ℕ) (text : List ℕ) (texts : List (List ℕ)) → IsTrue (are_texts_of n (text ∷ texts)) → IsTrue (is_text_of n text) × IsTrue (are_texts_of n texts)
first_text n text texts h = both_true (is_text_of n text) (list_all (is_text_of n) texts) h

-- ---- the law of cosines

step_is : (x n c t i : Gold) → difference (ops.plus (ops.plus (ops.times x x) n) (ops.plus (ops.times c c) t)) (ops.times (ops.plus ops.one ops.one) (ops.plus (ops.times c x) i))
    ≡ ops.plus (square (difference x c)) (difference (ops.plus n t) (ops.times (ops.plus ops.one ops.one) i))
step_is x n c t i =
    solve ops ring (x ∷ n ∷ c ∷ t ∷ i ∷ []) (var 0 ⊠ var 0 ⊞ var 1 ⊞ (var 2 ⊠ var 2 ⊞ var 3) ⊟ (unit ⊞ unit) ⊠ (var 2 ⊠ var 0 ⊞ var 4))
    ((var 0 ⊟ var 2) ⊠ (var 0 ⊟ var 2) ⊞ (var 1 ⊞ var 3 ⊟ (unit ⊞ unit) ⊠ var 4)) refl

none_is : (two : Gold) → difference (ops.plus ops.zero ops.zero) (ops.times two ops.zero) ≡ ops.zero
none_is two = solve ops ring (two ∷ []) (null ⊞ null ⊟ var 0 ⊠ null) null refl

two_is : of_number 2 ≡ ops.plus ops.one ops.one
two_is = sym (gold_numbered.plus_is 1 1)

cosines : (xs : List Gold) (text : List ℕ) → length text ≡ length xs → distance_by (squares xs) xs text ≡ distance xs text
cosines [] [] e = none_is (of_number 2)
cosines [] (b ∷ bs) e = absurd (omega (arith, e))
cosines (x ∷ xs) [] e = absurd (omega (arith, e))
cosines (x ∷ xs) (b ∷ bs) e =
    let n = squares xs in
    let c = of_number b in
    let t = of_number (text_squares bs) in
    let i = inner xs bs in
    let own : of_number (b * b + text_squares bs) ≡ ops.plus (ops.times c c) t =
    sym (ap (λ (y : Gold). ops.plus y t) (gold_numbered.times_is b b) ∙ gold_numbered.plus_is (b * b) (text_squares bs)) in
    let later : difference (ops.plus n t) (ops.times (ops.plus ops.one ops.one) i) ≡ distance xs bs =
    ap (λ (two : Gold). difference (ops.plus n t) (ops.times two i)) (sym two_is) ∙ cosines xs bs (omega (arith, e)) in
    (λ j. difference (ops.plus (ops.plus (ops.times x x) n) (own j)) (ops.times (two_is j) (ops.plus (ops.times c x) i)))
    ∙ step_is x n c t i
    ∙ ap (ops.plus (square (difference x c))) later

-- ---- the product

at_forward : (xs : List Gold) (texts : List (List ℕ)) → IsTrue (are_texts_of (length xs) texts) → distances (squares xs) xs texts ≡ ops.zero → IsAtText xs texts
at_forward xs [] w h = field.one_not_zero h
at_forward xs (text ∷ texts) w h =
    let t = first_text (length xs) text texts w in
    let is = cosines xs text (text_long (length xs) text t.0) in
    elim (cases_eq (distance xs text).n 0) [
      | inl none ↦ inl (Gold-ext (distance xs text) ops.zero none)
      | inr some ↦ inr (at_forward xs texts t.1 (no_divisors ops ring field (distance_by (squares xs) xs text) (distances (squares xs) xs texts) (λ e. some (ap (λ (u : Gold). u.n) (sym is ∙ e))) h))
    ]

at_backward : (xs : List Gold) (texts : List (List ℕ)) → IsTrue (are_texts_of (length xs) texts) → IsAtText xs texts → distances (squares xs) xs texts ≡ ops.zero
at_backward xs [] w h = absurd h
at_backward xs (text ∷ texts) w (inl here) =
    let is = cosines xs text (text_long (length xs) text (first_text (length xs) text texts w).0) in
    ap (λ (u : Gold). ops.times u (distances (squares xs) xs texts)) (is ∙ here) ∙ zero_times ops ring (distances (squares xs) xs texts)
at_backward xs (text ∷ texts) w (inr later) =
    ap (ops.times (distance_by (squares xs) xs text)) (at_backward xs texts (first_text (length xs) text texts w).1 later) ∙ times_zero ops ring (distance_by (squares xs) xs text)

pub at_claim : (d n : Gold) (xs : List Gold) (texts : List (List ℕ)) → n ≡ squares xs → d ≡ distances n xs texts → IsTrue (are_texts_of (length xs) texts) → (d ≡ ops.zero) ↔ IsAtText xs texts
at_claim d n xs texts en ed w =
    let is : d ≡ distances (squares xs) xs texts = ed ∙ ap (λ (k : Gold). distances k xs texts) en in
    (λ h. at_forward xs texts w (sym is ∙ h), λ h. is ∙ at_backward xs texts w h)

-- ---- bytes

-- by how much the greater of two numbers passes the other
gap : ℕ → ℕ → ℕ
gap a b = (a - b) + (b - a)

more_squared : (d b : Gold) → square (difference (ops.plus d b) b) ≡ ops.times d d
more_squared d b = solve ops ring (d ∷ b ∷ []) ((var 0 ⊞ var 1 ⊟ var 1) ⊠ (var 0 ⊞ var 1 ⊟ var 1)) (var 0 ⊠ var 0) refl

less_squared : (d a : Gold) → square (difference a (ops.plus d a)) ≡ ops.times d d
less_squared d a = solve ops ring (d ∷ a ∷ []) ((var 1 ⊟ (var 0 ⊞ var 1)) ⊠ (var 1 ⊟ (var 0 ⊞ var 1))) (var 0 ⊠ var 0) refl

gap_less : (a b : ℕ) → a < b → b ≡ gap a b + a
unfolding gap
gap_less a b l = omega (arith, l)

gap_more : (a b : ℕ) → b ≤ a → a ≡ gap a b + b
unfolding gap
gap_more a b l = omega (arith, l)

gap_below : (a b : ℕ) → a < 256 → b < 256 → gap a b ≤ 255
unfolding gap
gap_below a b la lb = omega (arith, la, lb)

gap_none : (a b : ℕ) → gap a b ≡ 0 → a ≡ b
unfolding gap
gap_none a b e = omega (arith, e)

own_gap : (a : ℕ) → gap a a ≡ 0
unfolding gap
own_gap a = omega arith

gap_squared : (a b : ℕ) → square (difference (of_number a) (of_number b)) ≡ of_number (gap a b * gap a b)
gap_squared a b =
    let d = gap a b in
    elim (cases_lt a b) [
      | inl less ↦
          ap (λ (y : Gold). square (difference (of_number a) y)) (ap of_number (gap_less a b less) ∙ sym (gold_numbered.plus_is d a))
          ∙ less_squared (of_number d) (of_number a) ∙ gold_numbered.times_is d d
      | inr more ↦
          ap (λ (y : Gold). square (difference y (of_number b))) (ap of_number (gap_more a b (omega (arith, more))) ∙ sym (gold_numbered.plus_is d b))
          ∙ more_squared (of_number d) (of_number b) ∙ gold_numbered.times_is d d
    ]

-- the distance as a number
far : List ℕ → List ℕ → ℕ
far [] text = 0
far (a ∷ ns) [] = 0
far (a ∷ ns) (b ∷ bs) = gap a b * gap a b + far ns bs

distance_is : (ns text : List ℕ) → distance (map of_number ns) text ≡ of_number (far ns text)
unfolding far
distance_is [] text = refl
distance_is (a ∷ ns) [] = refl
distance_is (a ∷ ns) (b ∷ bs) =
    (λ i. ops.plus (gap_squared a b i) (distance_is ns bs i)) ∙ gold_numbered.plus_is (gap a b * gap a b) (far ns bs)

abbrev Small : List ℕ → Type 0
Small bs = IsTrue (list_all (λ b. nat_lt b 256) bs)

first_small : (b : ℕ) (bs : List ℕ) → Small (b ∷ bs) → (b < 256) × Small bs
first_small b bs h = let r = both_true (nat_lt b 256) (list_all (λ c. nat_lt c 256) bs) h in (ltb-true b 256 r.0, r.1)

gap_small : (a b : ℕ) → a < 256 → b < 256 → gap a b * gap a b ≤ 65025
gap_small a b la lb = mul-le (gap a b) (gap a b) 255 255 (gap_below a b la lb) (gap_below a b la lb)

one_more : (x y n : ℕ) → x ≤ 65025 → y ≤ 65025 * n → x + y ≤ 65025 * suc n
one_more x y n lx ly = omega (arith, lx, ly)

far_small : (ns text : List ℕ) → Small ns → Small text → far ns text ≤ 65025 * length ns
unfolding far
far_small [] text ha ht = omega arith
far_small (a ∷ ns) [] ha ht = omega arith
far_small (a ∷ ns) (b ∷ bs) ha ht =
    let fa = first_small a ns ha in
    let fb = first_small b bs ht in
    one_more (gap a b * gap a b) (far ns bs) (length ns) (gap_small a b fa.0 fb.0) (far_small ns bs fa.1 fb.1)

square_none : (k : ℕ) → k * k ≡ 0 → k ≡ 0
square_none zero e = refl
square_none (suc k) e = absurd (omega (arith, e, mul-suc (suc k) k))

sum_none : (x y : ℕ) → x + y ≡ 0 → (x ≡ 0) × (y ≡ 0)
sum_none x y e = (omega (arith, e), omega (arith, e))

near_same : (ns text : List ℕ) → length text ≡ length ns → far ns text ≡ 0 → text ≡ ns
unfolding far
near_same [] [] e h = refl
near_same [] (b ∷ bs) e h = absurd (omega (arith, e))
near_same (a ∷ ns) [] e h = absurd (omega (arith, e))
near_same (a ∷ ns) (b ∷ bs) e h =
    let none = sum_none (gap a b * gap a b) (far ns bs) h in
    let first : a ≡ b = gap_none a b (square_none (gap a b) none.0) in
    let later : bs ≡ ns = near_same ns bs (omega (arith, e)) none.1 in
    (λ i. sym first i ∷ later i)

few_squares : (n : ℕ) → n ≤ 65025 * 119 → n < p
few_squares n l = omega (arith, l)

few_in_all : (x n : ℕ) → x ≤ 65025 * n → n ≤ 119 → x ≤ 65025 * 119
few_in_all x n lx ln = omega (arith, lx, ln)

pub distance_forward : (ns text : List ℕ) → Small ns → Small text → length text ≡ length ns → length ns ≤ 119 → distance (map of_number ns) text ≡ ops.zero → text ≡ ns
distance_forward ns text ha ht e few h =
    let small = few_in_all (far ns text) (length ns) (far_small ns text ha ht) few in
    near_same ns text e (gold_numbered.same (far ns text) 0 (few_squares (far ns text) small) (omega arith) (sym (distance_is ns text) ∙ h))

own_far : (ns : List ℕ) → far ns ns ≡ 0
unfolding far
own_far [] = refl
own_far (a ∷ ns) = (λ i. own_gap a i * own_gap a i + own_far ns i)

pub distance_backward : (ns text : List ℕ) → text ≡ ns → distance (map of_number ns) text ≡ ops.zero
distance_backward ns text e = ap (distance (map of_number ns)) e ∙ distance_is ns ns ∙ ap of_number (own_far ns)
