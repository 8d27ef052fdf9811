-- Words pick columns evenly.
use Rattle.lzk_profile.specs.Profile.{opened_count, most_row}
use Rattle.lzk_shares.specs.Shares.{column_words, set_share}
use Rattle.std.specs.Prelude.{◌≡◌, ◌≢◌, ℕ, ◌+◌, ◌-◌, ◌*◌, ◌/◌, ◌%◌, ◌^◌, ◌<◌, ◌≤◌, ◌&&◌, ◌||◌, not, nat_eq, cond, Bool, true, false, List, [], ◌∷◌, ◌++◌, length, map, flat_map, slice_index}
use Rattle.std.specs.List.{AllByRecursion, range_with_len}
use Rattle.std.proofs.Common.{zero, suc, refl, sym, ap, ◌∙◌, arith, subst, add-mul, suc-mul, zero-mul, mul_comm, mul_assoc, mul-le-mul_right, pow-suc}
use Rattle.std.proofs.Math.Nat.{pow-zero, mod-lt, div-lt_iff_lt-mul, le_of_mul-le-mul_right}
use Rattle.std.proofs.lemmas.Bool.{false≢true, eqb-true, eq-eqb, ne_eqb, leb-true, ltb-true}
use Rattle.std.proofs.lemmas.List.FromFn.{length-range_with_len}
use Rattle.std.proofs.lemmas.Nat.{mod-mul-add, div-add-mod', mul-le}
use native.Mathlib.Decide.{dec_lt}
use Rattle.lzk_field.specs.Ring.{Ops}
use Rattle.lzk_transcript.specs.Tape.{TapeState}
use Rattle.lzk_transcript.specs.Columns.{has, numbers_from, draw_at, left_columns, picks}
use Rattle.lzk_circuit.specs.Valid.{Wiring}
use Rattle.lzk_layout.specs.Sizes.{params_of}
use Rattle.lzk_layout.proofs.SizeLaws.{params_bounded}
use Rattle.lzk_soundness.specs.Chance.Draws.{count, draws_from}
use Rattle.lzk_soundness.specs.Chance.Few.{AreDistinct}
use Rattle.lzk_soundness.proofs.ChanceLaws.Counting.{count-most, count-append, count-map}
use Rattle.lzk_soundness.proofs.ChanceLaws.Sets.{count-none, four}
use Rattle.lzk_soundness.proofs.ChanceLaws.Splitting.{count-ext}
use Rattle.lzk_soundness.specs.Drawn.Picks.{picked_by, onto, TapesPick, are_same, least_words, most_words, picking_count, all_in, orders, set_count, PicksAreEven, SetsArePicked, SetsAreEven, BiasIsSmall}

-- ---- counting in a range

passed_over : (a k c : ℕ) → c < a → count (nat_eq c) (range_with_len a k) ≡ 0
passed_over a zero c h = refl
passed_over a (suc k) c h =
    omega (arith, ap (λ (b : Bool). cond {A = ℕ} b 1 0) (ne_eqb c a (λ e. omega (arith, e, h))), passed_over (a + 1) k c (omega (arith, h)))

count_one : (a k c : ℕ) → a ≤ c → c < a + k → count (nat_eq c) (range_with_len a k) ≡ 1
count_one a zero c l h = absurd (omega (arith, l, h))
count_one a (suc k) c l h = elim (dec_lt a c) [
  | yes more ↦ omega (arith, ap (λ (b : Bool). cond {A = ℕ} b 1 0) (ne_eqb c a (λ e. omega (arith, e, more))), count_one (a + 1) k c (omega (arith, more)) (omega (arith, h)))
  | no same ↦
      let z : c ≡ a = omega (arith, l, same) in
      omega (arith, ap (λ (b : Bool). cond {A = ℕ} b 1 0) (eq-eqb c a z), passed_over (a + 1) k c (omega (arith, z)))
]

count_either : (p q : ℕ → Bool) (xs : List ℕ) → ((x : ℕ) → p x ≡ true → q x ≡ false) → count (λ x. p x || q x) xs ≡ count p xs + count q xs
count_either p q [] apart = refl
count_either p q (x ∷ xs) apart = omega (arith, one (p x) refl, count_either p q xs apart)
  where
    one : (b : Bool) → p x ≡ b → cond (b || q x) 1 0 ≡ cond b 1 0 + cond (q x) 1 0
    one true is = omega (arith, ap (λ (b : Bool). cond {A = ℕ} b 1 0) (apart x is))
    one false is = omega arith

count_not : (p : ℕ → Bool) (xs : List ℕ) → count (λ x. not (p x)) xs + count p xs ≡ length xs
count_not p [] = refl
count_not p (x ∷ xs) = omega (arith, one (p x), count_not p xs)
  where
    one : (b : Bool) → cond (not b) 1 0 + cond b 1 0 ≡ 1
    one true = omega arith
    one false = omega arith

has_not : (p : ℕ) (ps : List ℕ) → AllByRecursion (λ y. p ≢ y) ps → has p ps ≡ false
has_not p [] all = refl
has_not p (y ∷ ys) all = ap (λ b. b || has p ys) (ne_eqb y p (λ e. all.0 (sym e))) ∙ has_not p ys all.1

not_has : (p : ℕ) (ps : List ℕ) → has p ps ≡ false → AllByRecursion (λ y. p ≢ y) ps
not_has p [] is = tt
not_has p (y ∷ ys) is = go (nat_eq y p) refl is (not_has p ys)
  where
    go : (b : Bool) → nat_eq y p ≡ b → (b || has p ys) ≡ false → (has p ys ≡ false → AllByRecursion (λ y. p ≢ y) ys) → (p ≢ y) × AllByRecursion (λ y. p ≢ y) ys
    go true here other rest = absurd (false≢true (sym other))
    go false here other rest = (λ e. false≢true (sym here ∙ eq-eqb y p (sym e)), rest other)

count_has : (mcol : ℕ) (before : List ℕ) → AreDistinct before → AllByRecursion (λ c. c < mcol) before → count (λ x. has x before) (range_with_len 0 mcol) ≡ length before
count_has mcol [] distinct below = count-none (λ x. has x []) (range_with_len 0 mcol) (λ x is. false≢true is)
count_has mcol (p ∷ ps) distinct below =
    count_either (nat_eq p) (λ x. has x ps) (range_with_len 0 mcol)
    (λ x is. subst (λ (y : ℕ). has y ps ≡ false) (eqb-true p x is) (has_not p ps distinct.0))
    ∙ omega (arith, count_one 0 mcol p (omega arith) (omega (arith, below.0)), count_has mcol ps distinct.1 below.1)

-- ---- the columns that are left

numbers_count : (g test : ℕ → Bool) (low n : ℕ) → count g (numbers_from low n test) ≡ count (λ x. test x && g x) (range_with_len low n)
unfolding numbers_from
numbers_count g test low zero = refl
numbers_count g test low (suc n) =
    let y : suc low ≡ low + 1 = omega arith in
    go (test low) (numbers_count g test (suc low) n ∙ ap (λ (k : ℕ). count (λ x. test x && g x) (range_with_len k n)) y)
  where
    go : (b : Bool) → count g (numbers_from (suc low) n test) ≡ count (λ x. test x && g x) (range_with_len (low + 1) n)
        → count g (cond b (low ∷ numbers_from (suc low) n test) (numbers_from (suc low) n test)) ≡ cond (b && g low) 1 0 + count (λ x. test x && g x) (range_with_len (low + 1) n)
    go true rest = ap (λ (k : ℕ). cond (g low) 1 0 + k) rest
    go false rest = omega (arith, rest)

count_all : (xs : List ℕ) → count (λ x. true) xs ≡ length xs
count_all [] = refl
count_all (x ∷ xs) = omega (arith, count_all xs)

and_true : (b : Bool) → (b && true) ≡ b
and_true true = refl
and_true false = refl

left_long : (mcol : ℕ) (before : List ℕ) → AreDistinct before → AllByRecursion (λ c. c < mcol) before → length (left_columns mcol before) ≡ mcol - length before
left_long mcol before distinct below =
    let test : ℕ → Bool = λ x. not (has x before) in
    let long = count_all (left_columns mcol before) in
    let same = numbers_count (λ x. true) test 0 mcol ∙ count-ext (λ x. test x && true) test (range_with_len 0 mcol) (λ x. and_true (test x)) in
    omega (arith, long, same, count_not (λ x. has x before) (range_with_len 0 mcol), count_has mcol before distinct below, length-range_with_len 0 mcol)

left_one : (mcol : ℕ) (before : List ℕ) (c : ℕ) → c < mcol → has c before ≡ false → count (nat_eq c) (left_columns mcol before) ≡ 1
left_one mcol before c h free =
    numbers_count (nat_eq c) (λ x. not (has x before)) 0 mcol
    ∙ count-ext (λ x. not (has x before) && nat_eq c x) (nat_eq c) (range_with_len 0 mcol) (λ x. go x (nat_eq c x) refl (not (has x before)) refl)
    ∙ count_one 0 mcol c (omega arith) (omega (arith, h))
  where
    go : (x : ℕ) (b : Bool) → nat_eq c x ≡ b → (n : Bool) → not (has x before) ≡ n → (n && b) ≡ b
    go x b is true no_one = refl
    go x false is false one = refl
    go x true is false one = sym one ∙ ap not (subst (λ (y : ℕ). has y before ≡ false) (eqb-true c x is) free)

-- ---- words

shift : (h : ℕ → Bool) (a k : ℕ) → count h (range_with_len (a + 1) k) ≡ count (λ r. h (suc r)) (range_with_len a k)
shift h a zero = refl
shift h a (suc k) =
    let y : a + 1 ≡ suc a = omega arith in
    ap (λ (x : ℕ). cond (h x) 1 0 + count h (range_with_len (a + 1 + 1) k)) y ∙ ap (λ (n : ℕ). cond (h (suc a)) 1 0 + n) (shift h (a + 1) k)

index_count : (g : ℕ → Bool) (xs : List ℕ) → count (λ r. g (slice_index xs r)) (range_with_len 0 (length xs)) ≡ count g xs
index_count g [] = refl
index_count g (x ∷ xs) = ap (λ (n : ℕ). cond (g x) 1 0 + n) (shift (λ r. g (slice_index (x ∷ xs) r)) 0 (length xs) ∙ index_count g xs)

shift_by : (h : ℕ → Bool) (L a k : ℕ) → count h (range_with_len (a + L) k) ≡ count (λ d. h (d + L)) (range_with_len a k)
shift_by h L a zero = refl
shift_by h L a (suc k) =
    let y : a + L + 1 ≡ a + 1 + L = omega arith in
    ap (λ (x : ℕ). cond (h (a + L)) 1 0 + count h (range_with_len x k)) y ∙ ap (λ (n : ℕ). cond (h (a + L)) 1 0 + n) (shift_by h L (a + 1) k)

range_split : (h : ℕ → Bool) (a k j : ℕ) → count h (range_with_len a (k + j)) ≡ count h (range_with_len a k) + count h (range_with_len (a + k) j)
range_split h a zero j =
    let y : zero + j ≡ j = omega arith in
    let z : a ≡ a + zero = omega arith in
    omega (arith, ap (λ (n : ℕ). count h (range_with_len a n)) y, ap (λ (n : ℕ). count h (range_with_len n j)) z)
range_split h a (suc k) j =
    let y : suc k + j ≡ suc (k + j) = omega arith in
    let z : a + 1 + k ≡ a + suc k = omega arith in
    ap (λ (n : ℕ). count h (range_with_len a n)) y
    ∙ omega (arith, range_split h (a + 1) k j, ap (λ (n : ℕ). count h (range_with_len n j)) z)

range_ext : (p q : ℕ → Bool) (a k : ℕ) → ((x : ℕ) → x < a + k → p x ≡ q x) → count p (range_with_len a k) ≡ count q (range_with_len a k)
range_ext p q a zero same = refl
range_ext p q a (suc k) same =
    ap (λ (b : Bool). cond {A = ℕ} b 1 0 + count p (range_with_len (a + 1) k)) (same a (omega arith))
    ∙ ap (λ (n : ℕ). cond (q a) 1 0 + n) (range_ext p q (a + 1) k (λ x h. same x (omega (arith, h))))

mod_more : (d L : ℕ) → 0 < L → (d + L) % L ≡ d % L
mod_more d L some =
    let parts = div-add-mod' d L in
    let y : d + L ≡ (d / L + 1) * L + d % L = omega (arith, parts, add-mul (d / L) 1 L) in
    ap (λ (n : ℕ). n % L) y ∙ mod-mul-add (d / L + 1) L (d % L) (mod-lt d some)

module _ (L : ℕ) (some : 0 < L) (P : ℕ → Bool) where
  abbrev T : ℕ → Bool
  T d = P (d % L)

  abbrev f : ℕ → ℕ
  f n = count T (range_with_len 0 n)

  block : f L ≡ count P (range_with_len 0 L)
  block = range_ext T P 0 L (λ x h. (let y : x ≡ 0 * L + x = omega arith in ap P (ap (λ (n : ℕ). n % L) y ∙ mod-mul-add 0 L x (omega (arith, h)))))

  next : (k : ℕ) → f (L + k) ≡ f L + f k
  next k =
      let z : 0 + L ≡ L = omega arith in
      range_split T 0 L k
      ∙ ap (λ (n : ℕ). f L + n) (shift_by T L 0 k ∙ count-ext (λ d. T (d + L)) T (range_with_len 0 k) (λ d. ap P (mod_more d L some)))

  many : (r q : ℕ) → f (r + q * L) ≡ f r + q * f L
  many r zero = let z : r + zero * L ≡ r = omega (arith, zero-mul L) in ap f z ∙ omega (arith, zero-mul (f L))
  many r (suc q) =
      let z : r + suc q * L ≡ L + (r + q * L) = omega (arith, suc-mul q L) in
      ap f z ∙ next (r + q * L) ∙ omega (arith, many r q, suc-mul q (f L))

  fewer : (r : ℕ) → r ≤ L → f r ≤ f L
  fewer r h = let z : r + (L - r) ≡ L = omega (arith, h) in omega (arith, range_split T 0 r (L - r), ap f z)

  -- of C places in L each has as many numbers
  places_count : (n C : ℕ) → count P (range_with_len 0 L) ≡ C → (C * (n / L) ≤ f n) × (f n ≤ C * (n / L + 1))
  places_count n C once =
      let q = n / L in
      let r = n % L in
      let parts : r + q * L ≡ n = omega (arith, div-add-mod' n L) in
      let is : f n ≡ f r + q * f L = ap f (sym parts) ∙ many r q in
      let one : f L ≡ C = block ∙ once in
      let all : q * f L ≡ C * q = ap (λ (x : ℕ). q * x) one ∙ mul_comm q C in
      let up : C * (q + 1) ≡ C * q + C = mul_comm C (q + 1) ∙ omega (arith, add-mul q 1 C, mul_comm q C) in
      let few : f r ≤ f L = fewer r (omega (arith, mod-lt n some)) in
      (omega (arith, is, all), omega (arith, is, all, few, one, up))

  -- a place that one in L numbers has
  pub place_count : (n : ℕ) → count P (range_with_len 0 L) ≡ 1 → (n / L ≤ f n) × (f n ≤ n / L + 1)
  place_count n once =
      let q = n / L in
      let r = n % L in
      let parts : r + q * L ≡ n = omega (arith, div-add-mod' n L) in
      let is : f n ≡ f r + q * f L = ap f (sym parts) ∙ many r q in
      let one : f L ≡ 1 = block ∙ once in
      let all : q * f L ≡ q = ap (λ (x : ℕ). q * x) one ∙ omega arith in
      let few : f r ≤ f L = fewer r (omega (arith, mod-lt n some)) in
      (omega (arith, is, all), omega (arith, is, all, few, one))

pick_count : (mcol n : ℕ) (before : List ℕ) (c : ℕ) → AreDistinct before → AllByRecursion (λ c. c < mcol) before → c < mcol → has c before ≡ false
    → (n / (mcol - length before) ≤ count (λ w. nat_eq c (slice_index (left_columns mcol before) (w % (mcol - length before)))) (range_with_len 0 n))
    × (count (λ w. nat_eq c (slice_index (left_columns mcol before) (w % (mcol - length before)))) (range_with_len 0 n) ≤ n / (mcol - length before) + 1)
pick_count mcol n before c distinct below h free =
    let left = left_columns mcol before in
    let L = mcol - length before in
    let P : ℕ → Bool = λ r. nat_eq c (slice_index left r) in
    let long = left_long mcol before distinct below in
    let one = left_one mcol before c h free in
    let once : count P (range_with_len 0 L) ≡ 1 = ap (λ (k : ℕ). count P (range_with_len 0 k)) (sym long) ∙ index_count (nat_eq c) left ∙ one in
    place_count L (omega (arith, long, one, count-most (nat_eq c) left)) P n once

-- ---- lists of words

pair_count : (P : ℕ → Bool) (Q T : List ℕ → Bool) → ((w : ℕ) (ws : List ℕ) → T (w ∷ ws) ≡ (P w && Q ws)) → (R : List (List ℕ)) (ds : List ℕ)
    → count T (flat_map (λ d. map (λ rest. d ∷ rest) R) ds) ≡ count P ds * count Q R
pair_count P Q T is R [] = omega (arith, zero-mul (count Q R))
pair_count P Q T is R (d ∷ ds) =
    count-append T (map (λ rest. d ∷ rest) R) (flat_map (λ d. map (λ rest. d ∷ rest) R) ds)
    ∙ omega (arith, count-map (λ rest. d ∷ rest) T R ∙ count-ext (λ r. T (d ∷ r)) (λ r. P d && Q r) R (λ r. is d r) ∙ one (P d), pair_count P Q T is R ds, add-mul (cond (P d) 1 0) (count P ds) (count Q R))
  where
    one : (b : Bool) → count (λ r. b && Q r) R ≡ cond b 1 0 * count Q R
    one true = omega arith
    one false = count-none (λ r. false) R (λ r won. false≢true won) ∙ omega (arith, zero-mul (count Q R))

all_free : (c : ℕ) (before cs : List ℕ) → AllByRecursion (λ y. c ≢ y) cs → AllByRecursion (λ y. has y before ≡ false) cs → AllByRecursion (λ y. has y (c ∷ before) ≡ false) cs
all_free c before [] apart free = tt
all_free c before (y ∷ ys) apart free = (ap (λ b. b || has y before) (ne_eqb c y apart.0) ∙ free.0, all_free c before ys apart.1 free.1)

module _ (mcol n : ℕ) where
  abbrev C : List ℕ → List ℕ → ℕ
  C before cs = count (λ ws. are_same (picked_by mcol before ws) cs) (draws_from (range_with_len 0 n) (length cs))

  even_from : (before cs : List ℕ) → AreDistinct before → AllByRecursion (λ c. c < mcol) before → AreDistinct cs → AllByRecursion (λ c. c < mcol) cs → AllByRecursion (λ c. has c before ≡ false) cs
      → (least_words n (mcol - length before) (length cs) ≤ C before cs) × (C before cs ≤ most_words n (mcol - length before) (length cs))
  even_from before [] distinct below apart inside free = (omega arith, omega arith)
  even_from before (c ∷ cs) distinct below apart inside free =
      let L = mcol - length before in
      let pick : ℕ → ℕ = λ w. slice_index (left_columns mcol before) (w % L) in
      let P : ℕ → Bool = λ w. nat_eq c (pick w) in
      let R = draws_from (range_with_len 0 n) (length cs) in
      let k = length cs in
      let rest = even_from (c ∷ before) cs (not_has c before free.0, distinct) (inside.0, below) apart.1 inside.1 (all_free c before cs apart.0 free.1) in
      let here = pick_count mcol n before c distinct below inside.0 free.0 in
      let X = count P (range_with_len 0 n) in
      let Y = C (c ∷ before) cs in
      let z : mcol - suc (length before) ≡ L - 1 = omega arith in
      let least : least_words n (L - 1) k ≤ Y = subst (λ (m : ℕ). least_words n m k ≤ Y) z rest.0 in
      let most : Y ≤ most_words n (L - 1) k = subst (λ (m : ℕ). Y ≤ most_words n m k) z rest.1 in
      let is : C before (c ∷ cs) ≡ X * Y =
      pair_count P (λ ws. are_same (picked_by mcol (c ∷ before) ws) cs) (λ ws. are_same (picked_by mcol before ws) (c ∷ cs)) (λ w ws. first pick w ws (P w) refl) R (range_with_len 0 n) in (
        subst (λ (m : ℕ). n / L * least_words n (L - 1) k ≤ m) (sym is) (mul-le (n / L) (least_words n (L - 1) k) X Y here.0 least),
        subst (λ (m : ℕ). m ≤ (n / L + 1) * most_words n (L - 1) k) (sym is) (mul-le X Y (n / L + 1) (most_words n (L - 1) k) here.1 most),
      )
    where
      first : (pick : ℕ → ℕ) (w : ℕ) (ws : List ℕ) (b : Bool) → nat_eq c (pick w) ≡ b → (b && are_same (picked_by mcol (pick w ∷ before) ws) cs) ≡ (b && are_same (picked_by mcol (c ∷ before) ws) cs)
      first pick w ws true is = ap (λ (x : ℕ). are_same (picked_by mcol (x ∷ before) ws) cs) (sym (eqb-true c (pick w) is))
      first pick w ws false is = refl

all_none : (cs : List ℕ) → AllByRecursion (λ c. has c [] ≡ false) cs
all_none [] = tt
all_none (c ∷ cs) = (refl, all_none cs)

pub picks_even : PicksAreEven
picks_even = λ mcol n columns distinct below.
    (let both = even_from mcol n [] columns tt tt distinct below (all_none columns) in
    let z : mcol - 0 ≡ mcol = omega arith in (
      subst (λ (m : ℕ). least_words n m (length columns) ≤ picking_count mcol n columns) z both.0,
      subst (λ (m : ℕ). picking_count mcol n columns ≤ most_words n m (length columns)) z both.1,
    ))

-- ---- sets

count_sub : (p q : ℕ → Bool) (xs : List ℕ) → ((x : ℕ) → p x ≡ true → q x ≡ true) → count q xs ≡ count p xs + count (λ x. not (p x) && q x) xs
count_sub p q [] inside = refl
count_sub p q (x ∷ xs) inside = omega (arith, one (p x) refl, count_sub p q xs inside)
  where
    one : (b : Bool) → p x ≡ b → cond {A = ℕ} (q x) 1 0 ≡ cond {A = ℕ} b 1 0 + cond {A = ℕ} (not b && q x) 1 0
    one true is = ap (λ (b : Bool). cond {A = ℕ} b 1 0) (inside x is) ∙ omega arith
    one false is = omega arith

none_passes : (t : ℕ → Bool) (a k x : ℕ) → count t (range_with_len a k) ≡ 0 → a ≤ x → x < a + k → t x ≡ false
none_passes t a zero x none l h = absurd (omega (arith, l, h))
none_passes t a (suc k) x none l h = elim (dec_lt a x) [
  | yes more ↦ none_passes t (a + 1) k x (omega (arith, none)) (omega (arith, more)) (omega (arith, h))
  | no same ↦ let z : a ≡ x = omega (arith, l, same) in subst (λ (y : ℕ). t y ≡ false) z (here (t a) refl none)
]
  where
    here : (b : Bool) → t a ≡ b → cond {A = ℕ} b 1 0 + count t (range_with_len (a + 1) k) ≡ 0 → t a ≡ false
    here true is sum = absurd (omega (arith, sum))
    here false is sum = is

has_all_in : (s xs : List ℕ) → all_in s xs ≡ true → (x : ℕ) → has x xs ≡ true → has x s ≡ true
has_all_in s [] all x is = absurd (false≢true is)
has_all_in s (y ∷ ys) all x is = go (nat_eq y x) refl is (has y s) refl all (λ rest. has_all_in s ys rest x)
  where
    go : (b : Bool) → nat_eq y x ≡ b → (b || has x ys) ≡ true → (h : Bool) → has y s ≡ h → (h && all_in s ys) ≡ true → (all_in s ys ≡ true → has x ys ≡ true → has x s ≡ true) → has x s ≡ true
    go b same there false is_y both rest = absurd (false≢true both)
    go true same there true is_y both rest = subst (λ (z : ℕ). has z s ≡ true) (eqb-true y x same) is_y
    go false same there true is_y both rest = rest both there

all_in_by : (s xs : List ℕ) → ((x : ℕ) → has x xs ≡ true → has x s ≡ true) → all_in s xs ≡ true
all_in_by s [] inside = refl
all_in_by s (y ∷ ys) inside =
    ap (λ b. b && all_in s ys) (inside y (ap (λ b. b || has y ys) (eq-eqb y y refl)))
    ∙ all_in_by s ys (λ x is. inside x (either (nat_eq y x) (has x ys) is))
  where
    either : (b c : Bool) → c ≡ true → (b || c) ≡ true
    either true c is = refl
    either false c is = is

below_has : (mcol : ℕ) (xs : List ℕ) → AllByRecursion (λ c. c < mcol) xs → (x : ℕ) → has x xs ≡ true → x < mcol
below_has mcol [] below x is = absurd (false≢true is)
below_has mcol (y ∷ ys) below x is = go (nat_eq y x) refl is (below_has mcol ys below.1 x)
  where
    go : (b : Bool) → nat_eq y x ≡ b → (b || has x ys) ≡ true → (has x ys ≡ true → x < mcol) → x < mcol
    go true same there rest = let z : y ≡ x = eqb-true y x same in omega (arith, z, below.0)
    go false same there rest = rest there

-- what is left passes the test
numbers_pass : (low n : ℕ) (test : ℕ → Bool) (i : ℕ) → i < length (numbers_from low n test) → (test (slice_index (numbers_from low n test) i) ≡ true) × (slice_index (numbers_from low n test) i < low + n)
unfolding numbers_from
numbers_pass low zero test i h = absurd (omega (arith, h))
numbers_pass low (suc n) test i h = go (test low) refl i h (numbers_pass (suc low) n test)
  where
    N : List ℕ
    N = numbers_from (suc low) n test

    go : (b : Bool) → test low ≡ b → (i : ℕ) → i < length (cond b (low ∷ numbers_from (suc low) n test) (numbers_from (suc low) n test))
        → ((i : ℕ) → i < length (numbers_from (suc low) n test) → (test (slice_index (numbers_from (suc low) n test) i) ≡ true) × (slice_index (numbers_from (suc low) n test) i < suc low + n))
        → (test (slice_index (cond b (low ∷ numbers_from (suc low) n test) (numbers_from (suc low) n test)) i) ≡ true) × (slice_index (cond b (low ∷ numbers_from (suc low) n test) (numbers_from (suc low) n test)) i < low + suc n)
    go true is zero h rest = (is, omega arith)
    go true is (suc i) h rest = let one = rest i (omega (arith, h)) in (one.0, omega (arith, one.1))
    go false is i h rest = let one = rest i h in (one.0, omega (arith, one.1))

-- the picks are different columns of which none was picked before
record ArePicked (mcol : ℕ) (before xs : List ℕ) (k : ℕ) : Type 0 where
  pub count : length xs ≡ k
  pub distinct : AreDistinct xs
  pub below : AllByRecursion (λ c. c < mcol) xs
  pub new : AllByRecursion (λ c. has c before ≡ false) xs

not_true : (b : Bool) → not b ≡ true → b ≡ false
not_true true is = absurd (false≢true is)
not_true false is = refl

apart_of : (c : ℕ) (before xs : List ℕ) → AllByRecursion (λ y. has y (c ∷ before) ≡ false) xs → AllByRecursion (λ y. c ≢ y) xs × AllByRecursion (λ y. has y before ≡ false) xs
apart_of c before [] all = (tt, tt)
apart_of c before (y ∷ ys) all =
    let rest = apart_of c before ys all.1 in
    let one = go (nat_eq c y) refl all.0 in ((one.0, rest.0), (one.1, rest.1))
  where
    go : (b : Bool) → nat_eq c y ≡ b → (b || has y before) ≡ false → (c ≢ y) × (has y before ≡ false)
    go true is free = absurd (false≢true (sym free))
    go false is free = (λ e. false≢true (sym is ∙ eq-eqb c y e), free)

picked_are : (mcol : ℕ) (before ws : List ℕ) → AreDistinct before → AllByRecursion (λ c. c < mcol) before → length before + length ws ≤ mcol → ArePicked mcol before (picked_by mcol before ws) (length ws)
picked_are mcol before [] distinct below room = record { count = refl; distinct = tt; below = tt; new = tt }
picked_are mcol before (w ∷ ws) distinct below room =
    let L = mcol - length before in
    let left = left_columns mcol before in
    let some : 0 < L = omega (arith, room) in
    let inside : w % L < length left = omega (arith, mod-lt w some, left_long mcol before distinct below) in
    let one = numbers_pass 0 mcol (λ x. not (has x before)) (w % L) inside in
    let c = slice_index left (w % L) in
    let free : has c before ≡ false = not_true (has c before) one.0 in
    let low : c < mcol = omega (arith, one.1) in
    let rest = picked_are mcol (c ∷ before) ws (not_has c before free, distinct) (low, below) (omega (arith, room)) in
    let apart = apart_of c before (picked_by mcol (c ∷ before) ws) rest.new in
    record { count = ap suc rest.count; distinct = (apart.0, rest.distinct); below = (low, rest.below); new = (free, apart.1) }

pub sets_picked : SetsArePicked
sets_picked = λ mcol columns ws distinct below long room.
    (let xs = picked_by mcol [] ws in
    let are = picked_are mcol [] ws tt tt (omega (arith, long, room)) in (
      λ all x h.
          (let inside : (y : ℕ) → has y xs ≡ true → has y columns ≡ true = has_all_in columns xs all in
          let sub = count_sub (λ y. has y xs) (λ y. has y columns) (range_with_len 0 mcol) inside in
          let mine = count_has mcol xs are.distinct are.below in
          let whole = count_has mcol columns distinct below in
          let rest : count (λ y. not (has y xs) && has y columns) (range_with_len 0 mcol) ≡ 0 = omega (arith, sub, mine, whole, are.count, long) in
          let none = none_passes (λ y. not (has y xs) && has y columns) 0 mcol x rest (omega arith) (omega (arith, h)) in
          same (has x xs) (has x columns) (has x xs) refl (has x columns) refl none (inside x)),
      λ equal. all_in_by columns xs (λ x is. sym (equal x (below_has mcol xs are.below x is)) ∙ is),
    ))
  where
    same : (x y b : Bool) → x ≡ b → (d : Bool) → y ≡ d → (not x && y) ≡ false → (x ≡ true → y ≡ true) → x ≡ y
    same x y true is d other none up = is ∙ sym (up is)
    same x y false is true other none up = absurd (false≢true (sym none ∙ ap (λ z. not z && y) is ∙ other))
    same x y false is false other none up = is ∙ sym other

-- how many of the columns that are left stand in a set of which some are picked
left_in : (mcol : ℕ) (before s : List ℕ) → AreDistinct before → AllByRecursion (λ c. c < mcol) before → AreDistinct s → AllByRecursion (λ c. c < mcol) s → all_in s before ≡ true
    → count (λ x. has x s) (left_columns mcol before) + length before ≡ length s
left_in mcol before s distinct below apart inside all =
    let sub = count_sub (λ y. has y before) (λ y. has y s) (range_with_len 0 mcol) (has_all_in s before all) in
    omega (arith, numbers_count (λ x. has x s) (λ x. not (has x before)) 0 mcol, sub, count_has mcol before distinct below, count_has mcol s apart inside)

bounded_pairs : (P : ℕ → Bool) (T : List ℕ → Bool) (R : List (List ℕ)) (lo hi : ℕ)
    → ((w : ℕ) → P w ≡ true → (lo ≤ count (λ r. T (w ∷ r)) R) × (count (λ r. T (w ∷ r)) R ≤ hi)) → ((w : ℕ) → P w ≡ false → count (λ r. T (w ∷ r)) R ≡ 0) → (ds : List ℕ)
    → (count P ds * lo ≤ count T (flat_map (λ d. map (λ rest. d ∷ rest) R) ds)) × (count T (flat_map (λ d. map (λ rest. d ∷ rest) R) ds) ≤ count P ds * hi)
bounded_pairs P T R lo hi in_set not_in [] = (omega (arith, zero-mul lo), omega (arith, zero-mul hi))
bounded_pairs P T R lo hi in_set not_in (d ∷ ds) =
    let rest = bounded_pairs P T R lo hi in_set not_in ds in
    let front = count-append T (map (λ rest. d ∷ rest) R) (flat_map (λ d. map (λ rest. d ∷ rest) R) ds) in
    let first = count-map (λ rest. d ∷ rest) T R in
    let one = go (P d) refl in
    (omega (arith, front, first, one.0, rest.0, add-mul (cond {A = ℕ} (P d) 1 0) (count P ds) lo), omega (arith, front, first, one.1, rest.1, add-mul (cond {A = ℕ} (P d) 1 0) (count P ds) hi))
  where
    go : (b : Bool) → P d ≡ b → (cond {A = ℕ} b 1 0 * lo ≤ count (λ r. T (d ∷ r)) R) × (count (λ r. T (d ∷ r)) R ≤ cond {A = ℕ} b 1 0 * hi)
    go true is = let both = in_set d is in (omega (arith, both.0), omega (arith, both.1))
    go false is = let none = not_in d is in (omega (arith, none, zero-mul lo), omega (arith, none, zero-mul hi))

module _ (mcol n : ℕ) (s : List ℕ) (apart : AreDistinct s) (inside : AllByRecursion (λ c. c < mcol) s) where
  abbrev S : List ℕ → ℕ → ℕ
  S before k = count (λ ws. all_in s (picked_by mcol before ws)) (draws_from (range_with_len 0 n) k)

  sets_from : (k : ℕ) (before : List ℕ) → AreDistinct before → AllByRecursion (λ c. c < mcol) before → all_in s before ≡ true → k + length before ≡ length s
      → (orders k * least_words n (mcol - length before) k ≤ S before k) × (S before k ≤ orders k * most_words n (mcol - length before) k)
  sets_from zero before distinct below all long = (omega arith, omega arith)
  sets_from (suc k) before distinct below all long =
      let L = mcol - length before in
      let left = left_columns mcol before in
      let pick : ℕ → ℕ = λ w. slice_index left (w % L) in
      let P : ℕ → Bool = λ w. has (pick w) s in
      let R = draws_from (range_with_len 0 n) k in
      let T : List ℕ → Bool = λ ws. all_in s (picked_by mcol before ws) in
      let ds = range_with_len 0 n in
      let size = left_long mcol before distinct below in
      let there : count (λ x. has x s) left ≡ suc k = omega (arith, left_in mcol before s distinct below apart inside all, long) in
      let some : 0 < L = omega (arith, size, there, count-most (λ x. has x s) left) in
      let once : count (λ r. has (slice_index left r) s) (range_with_len 0 L) ≡ suc k =
      ap (λ (j : ℕ). count (λ r. has (slice_index left r) s) (range_with_len 0 j)) (sym size) ∙ index_count (λ x. has x s) left ∙ there in
      let many_picks = places_count L some (λ r. has (slice_index left r) s) n (suc k) once in
      let lo = orders k * least_words n (L - 1) k in
      let hi = orders k * most_words n (L - 1) k in
      let z : mcol - suc (length before) ≡ L - 1 = omega arith in
      let deeper : (w : ℕ) → P w ≡ true → (lo ≤ S (pick w ∷ before) k) × (S (pick w ∷ before) k ≤ hi) =
      λ w is.
      (let at : w % L < length left = omega (arith, mod-lt w some, size) in
      let one = numbers_pass 0 mcol (λ x. not (has x before)) (w % L) at in
      let free : has (pick w) before ≡ false = not_true (has (pick w) before) one.0 in
      let low : pick w < mcol = omega (arith, one.1) in
      let rest = sets_from k (pick w ∷ before) (not_has (pick w) before free, distinct) (low, below) (ap (λ b. b && all_in s before) is ∙ all) (omega (arith, long)) in
      (subst (λ (m : ℕ). orders k * least_words n m k ≤ S (pick w ∷ before) k) z rest.0, subst (λ (m : ℕ). S (pick w ∷ before) k ≤ orders k * most_words n m k) z rest.1)) in
      let in_set : (w : ℕ) → P w ≡ true → (lo ≤ count (λ r. T (w ∷ r)) R) × (count (λ r. T (w ∷ r)) R ≤ hi) =
      λ w is.
      (let equal : count (λ r. T (w ∷ r)) R ≡ S (pick w ∷ before) k =
      count-ext (λ r. has (pick w) s && all_in s (picked_by mcol (pick w ∷ before) r)) (λ r. all_in s (picked_by mcol (pick w ∷ before) r)) R (λ r. ap (λ b. b && all_in s (picked_by mcol (pick w ∷ before) r)) is) in
      let both = deeper w is in (omega (arith, equal, both.0), omega (arith, equal, both.1))) in
      let not_in : (w : ℕ) → P w ≡ false → count (λ r. T (w ∷ r)) R ≡ 0 =
      λ w is. count-none (λ r. T (w ∷ r)) R (λ r won. false≢true (sym (ap (λ b. b && all_in s (picked_by mcol (pick w ∷ before) r)) is) ∙ won)) in
      let pairs = bounded_pairs P T R lo hi in_set not_in ds in
      let X = count P ds in
      let q = n / L in
      let low_end : suc k * q * lo ≤ X * lo = mul-le-mul_right lo many_picks.0 in
      let high_end : X * hi ≤ suc k * (q + 1) * hi = mul-le-mul_right hi many_picks.1 in
      (omega (arith, pairs.0, low_end, four (suc k) q (orders k) (least_words n (L - 1) k)), omega (arith, pairs.1, high_end, four (suc k) (q + 1) (orders k) (most_words n (L - 1) k)))

pub sets_even : SetsAreEven
sets_even = λ mcol n columns distinct below.
    (let whole : length columns + 0 ≡ length columns = omega arith in
    let both = sets_from mcol n columns distinct below (length columns) [] tt tt refl whole in
    let z : mcol - 0 ≡ mcol = omega arith in (
      subst (λ (m : ℕ). orders (length columns) * least_words n m (length columns) ≤ set_count mcol n columns) z both.0,
      subst (λ (m : ℕ). set_count mcol n columns ≤ orders (length columns) * most_words n m (length columns)) z both.1,
    ))

-- ---- a tape's picks

length_picks : (mcol m : ℕ) (t : TapeState) → length (picks mcol m t) ≡ m
unfolding picks
length_picks mcol zero t = refl
length_picks mcol (suc m) t = ap suc (length_picks mcol m t)

picks_on : (mcol a m : ℕ) (t : TapeState) → onto (picked_by mcol (picks mcol a t) (map (λ k. draw_at k t) (range_with_len a m))) (picks mcol a t) ≡ picks mcol (a + m) t
unfolding picks
picks_on mcol a zero t = let z : a ≡ a + zero = omega arith in ap (λ (k : ℕ). picks mcol k t) z
picks_on mcol a (suc m) t =
    let before = picks mcol a t in
    let pick : ℕ → ℕ = λ k. slice_index (left_columns mcol before) (draw_at a t % (mcol - k)) in
    let ws = map (λ k. draw_at k t) (range_with_len (a + 1) m) in
    let y : suc a ≡ a + 1 = omega arith in
    let z : a + 1 + m ≡ a + suc m = omega arith in
    ap (λ (k : ℕ). onto (picked_by mcol (pick k ∷ before) ws) (pick k ∷ before)) (length_picks mcol a t)
    ∙ ap (λ (k : ℕ). onto (picked_by mcol (picks mcol k t) ws) (picks mcol k t)) y
    ∙ picks_on mcol (a + 1) m t ∙ ap (λ (k : ℕ). picks mcol k t) z

pub tapes_pick : TapesPick
unfolding picks
tapes_pick = λ mcol m t. (let z : 0 + m ≡ m = omega arith in sym (picks_on mcol 0 m t ∙ ap (λ (k : ℕ). picks mcol k t) z))

-- ---- the bias

module _ (X n : ℕ) where
  enough : (L : ℕ) → 0 < L → X * L ≤ n → X ≤ n / L
  enough L some h = elim (dec_lt (n / L) X) [
    | yes less ↦ let more : n < X * L = (div-lt_iff_lt-mul {k = L} {x = n} {y = X} some).0 less in absurd (omega (arith, more, h))
    | no more ↦ omega (arith, more)
  ]

  nearly : (q : ℕ) → X ≤ q → (q + 1) * X ≤ q * (X + 1)
  nearly q h = omega (arith, h, add-mul q 1 X, mul_comm q (X + 1), add-mul X 1 q, mul_comm X q)

  close : (k L : ℕ) → k ≤ L → X * L ≤ n → most_words n L k * X ^ k ≤ least_words n L k * (X + 1) ^ k
  close zero L fits h = omega (arith, pow-zero X, pow-zero (X + 1))
  close (suc k) L fits h =
      let q = n / L in
      let M = most_words n (L - 1) k in
      let l = least_words n (L - 1) k in
      let down : X * (L - 1) ≤ X * L = mul-le X (L - 1) X L (omega arith) (omega arith) in
      let rest : M * X ^ k ≤ l * (X + 1) ^ k = close k (L - 1) (omega (arith, fits)) (omega (arith, down, h)) in
      let here : (q + 1) * X ≤ q * (X + 1) = nearly q (enough L (omega (arith, fits)) h) in
      let both : (q + 1) * X * (M * X ^ k) ≤ q * (X + 1) * (l * (X + 1) ^ k) = mul-le ((q + 1) * X) (M * X ^ k) (q * (X + 1)) (l * (X + 1) ^ k) here rest in
      let left : (q + 1) * M * X ^ suc k ≡ (q + 1) * X * (M * X ^ k) = ap (λ (y : ℕ). (q + 1) * M * y) (pow-suc X k ∙ mul_comm (X ^ k) X) ∙ four (q + 1) M X (X ^ k) in
      let right : q * l * (X + 1) ^ suc k ≡ q * (X + 1) * (l * (X + 1) ^ k) = ap (λ (y : ℕ). q * l * y) (pow-suc (X + 1) k ∙ mul_comm ((X + 1) ^ k) (X + 1)) ∙ four q l (X + 1) ((X + 1) ^ k) in
      omega (arith, both, left, right)

bias_of : (m l x y Y : ℕ) → m * x ≤ l * y → y * Y ≤ x * (Y + 1) → 0 < x → m * Y ≤ l * (Y + 1)
bias_of m l x y Y first second some =
    let a : m * x * Y ≤ l * y * Y = mul-le-mul_right Y first in
    let b : l * (y * Y) ≤ l * (x * (Y + 1)) = mul-le l (y * Y) l (x * (Y + 1)) (omega arith) second in
    let left : m * Y * x ≡ m * x * Y = mul_assoc m Y x ∙ ap (λ (z : ℕ). m * z) (mul_comm Y x) ∙ sym (mul_assoc m x Y) in
    let right : l * (Y + 1) * x ≡ l * (x * (Y + 1)) = mul_assoc l (Y + 1) x ∙ ap (λ (z : ℕ). l * z) (mul_comm (Y + 1) x) in
    le_of_mul-le-mul_right {m = m * Y} {n = l * (Y + 1)} {k = x} (omega (arith, a, b, left, right, mul_assoc l y Y)) some

-- the numbers are last, so that nothing looks into them
bias_at : (X Y n most : ℕ) → (k L : ℕ) → k ≤ L → L ≤ most → X * most ≤ n → (X + 1) ^ k * Y ≤ X ^ k * (Y + 1) → 0 < X ^ k → most_words n L k * Y ≤ least_words n L k * (Y + 1)
bias_at X Y n most k L fits narrow room small some =
    let down : X * L ≤ X * most = mul-le X L X most (omega arith) narrow in
    bias_of (most_words n L k) (least_words n L k) (X ^ k) ((X + 1) ^ k) Y (close X n k L fits (omega (arith, down, room))) small some

room_enough : column_words * (4 * (opened_count + most_row)) ≤ 2 ^ 128
room_enough = leb-true (column_words * (4 * (opened_count + most_row))) (2 ^ 128) refl

small_enough : (column_words + 1) ^ opened_count * set_share ≤ column_words ^ opened_count * (set_share + 1)
small_enough = leb-true ((column_words + 1) ^ opened_count * set_share) (column_words ^ opened_count * (set_share + 1)) refl

some_at_all : 0 < column_words ^ opened_count
some_at_all = ltb-true 0 (column_words ^ opened_count) refl

pub bias_small : {A : Type 0} (o : Ops A) → BiasIsSmall o
bias_small o = λ c valid.
    (let b = params_bounded o c valid in
    bias_at column_words set_share (2 ^ 128) (4 * (opened_count + most_row)) opened_count (params_of c).mcol (omega (arith, b.mcol, b.block)) (omega (arith, b.mcol, b.block, b.wr)) room_enough small_enough some_at_all)
