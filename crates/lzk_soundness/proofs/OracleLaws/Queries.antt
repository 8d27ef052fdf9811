-- Of few oracles somebody hears a wrong answer: by induction on the questions that are left.
use Rattle.std.specs.Prelude.{◌≡◌, ◌⊎◌, ℕ, ◌+◌, ◌*◌, ◌^◌, ◌<◌, ◌≤◌, ◌&&◌, Bool, true, false, cond, Option, None, List, [], ◌∷◌, length, map}
use Rattle.std.specs.List.{AllByRecursion}
use Rattle.std.proofs.Common.{zero, suc, inl, inr, refl, sym, ap, ◌∙◌, arith, subst, add-mul, mul_assoc, mul_comm, pow-suc, mul-le-mul_right, zero-mul, one-mul, suc-mul}
use Rattle.std.proofs.lemmas.List.{length-map, length-replicate}
use Rattle.std.proofs.lemmas.Bool.{false≢true}
use native.Mathlib.Decide.{ℕ_discrete, dec_lt}
use Rattle.lzk_soundness.specs.Chance.Draws.{count, draws_from, total_from}
use Rattle.lzk_soundness.specs.Chance.Few.{AreDistinct, HasAtMost, IsIn}
use Rattle.lzk_soundness.specs.Chance.Sets.{count_pairs}
use Rattle.lzk_soundness.proofs.ChanceLaws.Alls.{added, added_most, pairs_turned}
use Rattle.lzk_soundness.proofs.ChanceLaws.FewLaws.{counts_few}
use Rattle.lzk_soundness.proofs.ChanceLaws.Lists.{count_more, all_of}
use Rattle.lzk_soundness.specs.Oracle.Oracle.{IsOracle, answer, put, asked, AllRight}
use Rattle.lzk_soundness.specs.Oracle.Laws.{IsWrongRarely, IsAsker, Collide}
use Rattle.lzk_soundness.proofs.OracleLaws.Parts.{each_in, one_in, in_map, answer-put, answer-other, fill, IsFree, free, length-fill, free-fill, still_free, filled, free_before, dec_free, Fits, completions, length-completions, completions_fit, in_completions, length-fits, fits_fill, known, blank, blank_completions, blank_free, blank_count, blank_fits, by_answer, by_others, added_same}

-- ---- counts

pub count-never : {X : Type 0} (test : X → Bool) (xs : List X) → AllByRecursion (λ x. test x ≡ true → ⊥) xs → count test xs ≡ 0
count-never test [] never = refl
count-never test (x ∷ xs) never = omega (arith, none (test x) refl, count-never test xs never.1)
  where
    none : (b : Bool) → test x ≡ b → cond b 1 0 ≤ 0
    none true is = absurd (never.0 is)
    none false is = omega arith

-- the contrary
abbrev pub contrary : Bool → Bool
contrary b = cond b false true

pub contrary_true : (b : Bool) → contrary b ≡ true → b ≡ false
contrary_true true is = absurd (false≢true is)
contrary_true false is = refl

pub left_true : (a b : Bool) → (a && b) ≡ true → a ≡ true
left_true true b is = refl
left_true false b is = absurd (false≢true is)

pub right_true : (a b : Bool) → (a && b) ≡ true → b ≡ true
right_true true b is = is
right_true false b is = absurd (false≢true is)

-- what passes a test, passes another, or the first and not the other
pub count-parted : {X : Type 0} (test other : X → Bool) (xs : List X) → count test xs ≤ count other xs + count (λ x. test x && contrary (other x)) xs
count-parted test other [] = omega arith
count-parted test other (x ∷ xs) = omega (arith, one (test x) (other x), count-parted test other xs)
  where
    one : (a b : Bool) → cond a 1 0 ≤ cond b 1 0 + cond (a && contrary b) 1 0
    one true true = omega arith
    one true false = omega arith
    one false true = omega arith
    one false false = omega arith

pub added-share : {X : Type 0} (h : X → ℕ) (by most : ℕ) (xs : List X) → AllByRecursion (λ x. h x * by ≤ most) xs → added h xs * by ≤ length xs * most
added-share h by most [] all = omega (arith, zero-mul by, zero-mul most)
added-share h by most (x ∷ xs) all = omega (arith, all.0, added-share h by most xs all.1, add-mul (h x) (added h xs) by, suc-mul (length xs) most)

pub pairs-added : {X Y : Type 0} (test : X → Y → Bool) (xs : List X) (ys : List Y) → added (λ x. count (test x) ys) xs ≡ count_pairs test xs ys
pairs-added test [] ys = refl
pairs-added test (x ∷ xs) ys = ap (λ (n : ℕ). count (test x) ys + n) (pairs-added test xs ys)

-- ---- what can be decided of each entry of a list

pub stable_at_most : (a b : ℕ) → ((a ≤ b → ⊥) → ⊥) → a ≤ b
stable_at_most a b not_not = elim (dec_lt b a) [
  | yes more ↦ absurd (not_not (λ le. omega (arith, more, le)))
  | no less ↦ omega (arith, less)
]

pub decide_all : {X : Type 0} (P : X → Type 0) (xs : List X) → (AllByRecursion (λ x. Dec (P x)) xs → ⊥) → ⊥
decide_all P [] not = not tt
decide_all {X} P (x ∷ xs) not = decide_all P xs (λ rest. (let never : P x → ⊥ = λ p. not (yes p, rest) in not (no never, rest)))

abbrev pick : {P : Type 0} {Y : Type 0} → Dec P → Y → Y → Y
pick (yes p) x y = x
pick (no n) x y = y

abbrev says : {P : Type 0} → Dec P → Bool
says (yes p) = true
says (no n) = false

module _ {X : Type 0} (same : (x y : X) → Dec (x ≡ y)) (P : X → Type 0) where
  -- whether it holds, for entries of the list
  holds : (xs : List X) → AllByRecursion (λ x. Dec (P x)) xs → X → Bool
  holds [] all y = false
  holds (x ∷ xs) all y = pick (same x y) (says all.0) (holds xs all.1 y)

  holds_so : (xs : List X) (all : AllByRecursion (λ x. Dec (P x)) xs) (y : X) → holds xs all y ≡ true → P y
  unfolding holds
  holds_so [] all y is = absurd (false≢true is)
  holds_so (x ∷ xs) all y is = go (same x y) all.0 is (holds_so xs all.1 y)
    where
      go : (d : Dec (x ≡ y)) (e : Dec (P x)) → pick d (says e) (holds xs all.1 y) ≡ true → (holds xs all.1 y ≡ true → P y) → P y
      go (yes s) (yes p) is rest = subst P s p
      go (yes s) (no n) is rest = absurd (false≢true is)
      go (no n) e is rest = rest is

  fails_so : (xs : List X) (all : AllByRecursion (λ x. Dec (P x)) xs) (y : X) → IsIn y xs → holds xs all y ≡ false → P y → ⊥
  unfolding holds
  fails_so [] all y there is p = there
  fails_so (x ∷ xs) all y there is p = go (same x y) all.0 there is (λ i is. fails_so xs all.1 y i is p)
    where
      go : (d : Dec (x ≡ y)) (e : Dec (P x)) → (x ≡ y) ⊎ IsIn y xs → pick d (says e) (holds xs all.1 y) ≡ false → (IsIn y xs → holds xs all.1 y ≡ false → ⊥) → ⊥
      go (yes s) (yes q) there is rest = false≢true (sym is)
      go (yes s) (no n) there is rest = n (subst P (sym s) p)
      go (no n) e (inl s) is rest = n s
      go (no n) e (inr i) is rest = rest i is

pub same_list : {X : Type 0} → ((x y : X) → Dec (x ≡ y)) → (xs ys : List X) → Dec (xs ≡ ys)
same_list same [] [] = yes refl
same_list same [] (y ∷ ys) = no (λ e. cc)
same_list same (x ∷ xs) [] = no (λ e. cc)
same_list {X} same (x ∷ xs) (y ∷ ys) = both (same x y) (same_list same xs ys)
  where
    both : Dec (x ≡ y) → Dec (xs ≡ ys) → Dec (x ∷ xs ≡ y ∷ ys)
    both (yes p) (yes q) = yes (ap (λ z. z ∷ xs) p ∙ ap (λ zs. y ∷ zs) q)
    both (no n) q = no (λ e. n (cc))
    both (yes p) (no n) = no (λ e. n (cc))

-- ---- the questions, one after the other

module _ {X : Type 0} (same : (x y : X) → Dec (x ≡ y)) (none : X) (ds : List X) (questions by : ℕ) (weight : ℕ → ℕ) (IsWrong : List ℕ → List X → ℕ → Type 0) (few : IsWrongRarely ds questions by weight IsWrong) where
  abbrev N : ℕ
  N = length ds

  -- Behind questions of which the answers are known, and no others: by the oracles that are left and won by, one of k more is wrong.
  record IsLeft (k : ℕ) (p : List (Option X)) (earlier : List ℕ) (ask : List X → ℕ) (test : List X → Bool) : Type 0 where
    pub long : length p ≡ questions
    pub inside : (before : List X) → ask before < questions
    pub taken : (n : ℕ) → n < questions → (IsFree n p → ⊥) → IsIn n earlier
    pub open_still : (n : ℕ) → IsIn n earlier → IsFree n p → ⊥
    pub caught : (f : List X) → Fits ds p f → test f ≡ true → AllRight IsWrong earlier f (asked none ask f k) → ⊥

  Bound : ℕ → Type 0
  Bound k = (p : List (Option X)) (earlier : List ℕ) (ask : List X → ℕ) (test : List X → Bool) → IsLeft k p earlier ask test → count test (completions ds p) * by ≤ total_from weight (length earlier) k * N ^ free p

  no_more : Bound 0
  unfolding Bound
  no_more p earlier ask test left =
      let never = each_in (λ f. test f ≡ true → ⊥) (completions ds p) (λ f i won. left.caught f (one_in (Fits ds p) f (completions ds p) (completions_fit ds p) i) won tt) in
      omega (arith, ap (λ (n : ℕ). n * by) (count-never test (completions ds p) never), zero-mul by, zero-mul (N ^ free p))

  module _ (k : ℕ) (rest : Bound k) (p : List (Option X)) (earlier : List ℕ) (ask : List X → ℕ) (test : List X → Bool) (left : IsLeft (suc k) p earlier ask test) where
    abbrev n : ℕ
    n = ask []

    abbrev next : X → List X → ℕ
    next x before = ask (x ∷ before)

    abbrev now : ℕ
    now = weight (length earlier)

    abbrev then : ℕ
    then = total_from weight (suc (length earlier)) k

    -- the question was asked before
    again : (IsFree n p → ⊥) → count test (completions ds p) * by ≤ (now + then) * N ^ free p
    unfolding Bound
    again taken =
        let it = known ds none n p (omega (arith, left.inside [], left.long)) taken in
        let x = it.0 in
        let less = rest p (n ∷ earlier) (next x) test (record {
          long = left.long;
          inside = λ before. left.inside (x ∷ before);
          taken = λ m h is. inr (left.taken m h is);
          open_still = open_still;
          caught = λ f fit won good.
              left.caught f fit won (
                (λ new wrong. new (left.taken n (left.inside []) taken)),
                subst (λ y. AllRight IsWrong (n ∷ earlier) f (asked none (next y) f k)) (sym (it.1 f fit)) good,
              );
        }) in
        omega (arith, less, add-mul now then (N ^ free p))
      where
        open_still : (m : ℕ) → IsIn m (n ∷ earlier) → IsFree m p → ⊥
        open_still m (inl e) is = taken (subst (λ j. IsFree j p) (sym e) is)
        open_still m (inr i) is = left.open_still m i is

    -- which oracles make it wrong, of those that are left
    abbrev said : AllByRecursion (λ f. Dec (IsWrong earlier f n)) (completions ds p) → List X → Bool
    said decisions f = holds (same_list same) (λ f. IsWrong earlier f n) (completions ds p) decisions f

    -- it was not: few answers make it wrong, and by the others one of the questions left is
    fresh : IsFree n p → AllByRecursion (λ f. Dec (IsWrong earlier f n)) (completions ds p) → count test (completions ds p) * by ≤ (now + then) * N ^ free p
    unfolding Bound
    fresh is decisions =
        let all = completions ds p in
        let W : List X → Bool = holds (same_list same) (λ f. IsWrong earlier f n) all decisions in
        let later : List X → Bool = λ f. test f && contrary (W f) in
        let others = completions ds (fill n none p) in
        let u = free (fill n none p) in
        let T = N ^ u in
        let parted : count test all ≤ count W all + count later all = count-parted test W all in
        let one : count W all ≡ count_pairs (λ g x. W (put n x g)) others ds =
        by_answer ds W n p is ∙ sums W ∙ pairs_turned (λ x g. W (put n x g)) ds others in
        let first : count_pairs (λ g x. W (put n x g)) others ds * by ≤ length others * (now * N) =
        pairs-share (λ g x. W (put n x g)) ds others (each_in (λ g. count (λ x. W (put n x g)) ds * by ≤ now * N) others
        (λ g i. few earlier g n (λ x. W (put n x g)) (length-fits ds (fill n none p) g (one_in (Fits ds (fill n none p)) g others (completions_fit ds (fill n none p)) i) ∙ length-fill n none p ∙ left.long) (left.inside [])
        (λ known. left.open_still n known is)
        (λ x yes_wrong. holds_so (same_list same) (λ f. IsWrong earlier f n) all decisions (put n x g) yes_wrong))) in
        let second : added (λ x. count later (completions ds (fill n x p))) ds * by ≤ N * (then * T) =
        added-share (λ x. count later (completions ds (fill n x p))) by (then * T) ds (each_in (λ x. count later (completions ds (fill n x p)) * by ≤ then * T) ds (λ x i.
        let few_left = rest (fill n x p) (n ∷ earlier) (next x) later (after x i) in
        omega (arith, few_left, ap (λ (v : ℕ). then * N ^ v) (suc_same (free (fill n x p)) u (sym (free-fill n x p is) ∙ free-fill n none p is))))) in
        let split : count later all ≡ added (λ x. count later (completions ds (fill n x p))) ds = by_answer ds later n p is in
        let whole : N ^ free p ≡ T * N = ap (λ (v : ℕ). N ^ v) (free-fill n none p is) ∙ pow-suc N u in
        final (count test all) (count W all) (count later all) (count_pairs (λ g x. W (put n x g)) others ds) (added (λ x. count later (completions ds (fill n x p))) ds) (length others) T (N ^ free p)
        parted one split first second (length-completions ds (fill n none p)) whole
      where
        suc_same : (a b : ℕ) → suc a ≡ suc b → a ≡ b
        suc_same a b e = omega (arith, e)

        sums : (W : List X → Bool) → added (λ x. count W (completions ds (fill n x p))) ds ≡ count_pairs (λ x g. W (put n x g)) ds (completions ds (fill n none p))
        sums W =
            let others = completions ds (fill n none p) in
            added_same (λ x. count W (completions ds (fill n x p))) (λ x. count (λ g. W (put n x g)) others) ds (λ x. by_others ds W n x none p is)
            ∙ pairs-added (λ x g. W (put n x g)) ds others

        pairs-share : {Y Z : Type 0} (t : Y → Z → Bool) (zs : List Z) (ys : List Y) → AllByRecursion (λ y. count (t y) zs * by ≤ now * N) ys → count_pairs t ys zs * by ≤ length ys * (now * N)
        pairs-share t zs ys all = omega (arith, added-share (λ y. count (t y) zs) by (now * N) ys all, ap (λ (m : ℕ). m * by) (pairs-added t ys zs))

        after : (x : X) → IsIn x ds → IsLeft k (fill n x p) (n ∷ earlier) (next x) (λ f. test f && contrary (holds (same_list same) (λ f. IsWrong earlier f n) (completions ds p) decisions f))
        after x there = record {
          long = length-fill n x p ∙ left.long;
          inside = λ before. left.inside (x ∷ before);
          taken = taken;
          open_still = open_still;
          caught = λ f fit won good.
              let was = fits_fill ds none n x p f is there fit in
              left.caught f was.0 (left_true (test f) _ won)
              ((λ new wrong. right_here f was.0 won wrong), subst (λ y. AllRight IsWrong (n ∷ earlier) f (asked none (next y) f k)) (sym was.1) good);
        }
          where
            right_here : (f : List X) → Fits ds p f → (test f && contrary (said decisions f)) ≡ true → IsWrong earlier f n → ⊥
            right_here f fit won wrong =
                fails_so (same_list same) (λ f. IsWrong earlier f n) (completions ds p) decisions f (in_completions ds p f fit) (contrary_true (said decisions f) (right_true (test f) (contrary (said decisions f)) won)) wrong

            taken : (m : ℕ) → m < questions → (IsFree m (fill n x p) → ⊥) → IsIn m (n ∷ earlier)
            taken m h not = elim (ℕ_discrete n m) [
              | yes e ↦ inl e
              | no d ↦ inr (left.taken m h (λ open_one. not (still_free n m x p d open_one)))
            ]

            open_still : (m : ℕ) → IsIn m (n ∷ earlier) → IsFree m (fill n x p) → ⊥
            open_still m (inl e) free_one = filled n x p (subst (λ j. IsFree j (fill n x p)) (sym e) free_one)
            open_still m (inr i) free_one = left.open_still m i (free_before n m x p free_one)

        final : (a w l c s o T F : ℕ) → a ≤ w + l → w ≡ c → l ≡ s → c * by ≤ o * (now * N) → s * by ≤ N * (then * T) → o ≡ T → F ≡ T * N → a * by ≤ (now + then) * F
        final a w l c s o T F h wc ls few_c few_s oT FT =
            let up = mul-le-mul_right by h in
            let b : w * by ≡ c * by = ap (λ (j : ℕ). j * by) wc in
            let d : l * by ≡ s * by = ap (λ (j : ℕ). j * by) ls in
            let m : o * (now * N) ≡ now * (T * N) = ap (λ (j : ℕ). j * (now * N)) oT ∙ sym (mul_assoc T now N) ∙ ap (λ (j : ℕ). j * N) (mul_comm T now) ∙ mul_assoc now T N in
            let turned : N * (then * T) ≡ then * (T * N) = mul_comm N (then * T) ∙ mul_assoc then T N in
            let whole : (now + then) * F ≡ now * (T * N) + then * (T * N) = ap (λ (j : ℕ). (now + then) * j) FT ∙ add-mul now then (T * N) in
            omega (arith, up, add-mul w l by, b, d, m, turned, whole, few_c, few_s)

  step : (k : ℕ) → Bound k → Bound (suc k)
  unfolding Bound
  step k rest p earlier ask test left = elim (dec_free (ask []) p) [
    | no taken ↦ again k rest p earlier ask test left taken
    | yes is ↦
        stable_at_most (count test (completions ds p) * by) (total_from weight (length earlier) (suc k) * N ^ free p)
        (λ not. decide_all (λ f. IsWrong earlier f (ask [])) (completions ds p) (λ all. not (fresh k rest p earlier ask test left is all)))
  ]

  bound : (k : ℕ) → Bound k
  bound zero = no_more
  bound (suc k) = step k (bound k)

  pub tries_add : (tries : ℕ) (ask : List X → ℕ) (wins : List X → Bool) → IsAsker none ds questions tries IsWrong ask wins → count wins (draws_from ds questions) * by ≤ total_from weight 0 tries * N ^ questions
  unfolding Bound
  tries_add tries ask wins asker =
      let all = bound tries (blank ds questions) [] ask wins (record {
        long = length-replicate questions None;
        inside = asker.inside;
        taken = λ n h not. absurd (not (blank_free ds questions n h));
        open_still = λ n i. absurd i;
        caught = λ f fit won good. asker.only f (blank_fits ds questions f fit) won good;
      }) in
      omega (arith, all, ap (λ fs. count wins fs * by) (blank_completions ds questions), ap (λ (m : ℕ). total_from weight 0 tries * N ^ m) (blank_count ds questions))

-- ---- in any order

pub in_dec : (n : ℕ) (ns : List ℕ) → Dec (IsIn n ns)
in_dec n [] = no (λ i. i)
in_dec n (m ∷ ns) = next (ℕ_discrete m n) (in_dec n ns)
  where
    next : Dec (m ≡ n) → Dec (IsIn n ns) → Dec ((m ≡ n) ⊎ IsIn n ns)
    next (yes e) d = yes (inl e)
    next (no d) (yes i) = yes (inr i)
    next (no d) (no j) = no (λ b. neither b)
      where
        neither : (m ≡ n) ⊎ IsIn n ns → ⊥
        neither (inl e) = d e
        neither (inr i) = j i

ones : (k n : ℕ) → total_from (λ k. 1) k n ≡ n
ones k zero = refl
ones k (suc n) = omega (arith, ones (suc k) n)

all_good : {X : Type 0} (IsWrong : List X → ℕ → Type 0) (f : List X) (earlier ns : List ℕ) → AllByRecursion (λ n. IsWrong f n → ⊥) earlier → AllRight (λ es f n. IsWrong f n) earlier f ns → AllByRecursion (λ n. IsWrong f n → ⊥) ns
all_good IsWrong f earlier [] before right = tt
all_good {X} IsWrong f earlier (n ∷ ns) before right = (here, all_good IsWrong f (n ∷ earlier) ns (here, before) right.1)
  where
    here : IsWrong f n → ⊥
    here = elim (in_dec n earlier) [
      | yes i ↦ one_in (λ n. IsWrong f n → ⊥) n earlier before i
      | no new ↦ right.0 new
    ]

module _ {X : Type 0} (same : (x y : X) → Dec (x ≡ y)) (none : X) (ds : List X) (questions by : ℕ) (IsWrong : List X → ℕ → Type 0)
    (few : (f : List X) (n : ℕ) (test : X → Bool) → length f ≡ questions → n < questions → ((x : X) → test x ≡ true → IsWrong (put n x f) n) → count test ds * by ≤ length ds) where
  pub queries_few : (tries : ℕ) (ask : List X → ℕ) (wins : List X → Bool) → ((before : List X) → ask before < questions)
      → ((f : List X) → IsOracle ds questions f → wins f ≡ true → AllByRecursion (λ n. IsWrong f n → ⊥) (asked none ask f tries) → ⊥)
      → count wins (draws_from ds questions) * by ≤ tries * length ds ^ questions
  queries_few tries ask wins inside only =
      let all = tries_add same none ds questions by (λ k. 1) (λ es f n. IsWrong f n)
      (λ es f n test long h new wrong. omega (arith, few f n test long h wrong, one-mul (length ds))) tries ask wins (record {
        inside = inside;
        only = λ f is won right. only f is won (all_good IsWrong f [] (asked none ask f tries) tt right);
      }) in
      omega (arith, all, ap (λ (k : ℕ). k * length ds ^ questions) (ones 0 tries))

-- ---- collisions

module _ {X : Type 0} (none : X) (f : List X) where
  abbrev pub Met : List ℕ → List X → ℕ → Type 0
  Met es g n = (m : ℕ) × (IsIn m es × (answer none g m ≡ answer none g n))

  abbrev Apart : List ℕ → Type 0
  Apart es = (m n : ℕ) → IsIn m es → IsIn n es → answer none f m ≡ answer none f n → m ≡ n

  apart_next : (n : ℕ) (es : List ℕ) → Apart es → ((IsIn n es → ⊥) → Met es f n → ⊥) → Apart (n ∷ es)
  apart_next n es apart right a b (inl p) (inl q) alike = sym p ∙ q
  apart_next n es apart right a b (inr i) (inr j) alike = apart a b i j alike
  apart_next n es apart right a b (inl p) (inr j) alike = elim (in_dec n es) [
    | yes k ↦ sym p ∙ apart n b k j (ap (answer none f) p ∙ alike)
    | no new ↦ absurd (right new (b, (j, sym (ap (answer none f) p ∙ alike))))
  ]
  apart_next n es apart right a b (inr i) (inl q) alike = elim (in_dec n es) [
    | yes k ↦ apart a n i k (alike ∙ sym (ap (answer none f) q)) ∙ q
    | no new ↦ absurd (right new (a, (i, alike ∙ sym (ap (answer none f) q))))
  ]

  -- the entries of a list behind others, the last one first
  abbrev behind : List ℕ → List ℕ → List ℕ
  behind es [] = es
  behind es (n ∷ ns) = behind (n ∷ es) ns

  apart_all : (es ns : List ℕ) → Apart es → AllRight Met es f ns → Apart (behind es ns)
  apart_all es [] apart right = apart
  apart_all es (n ∷ ns) apart right = apart_all (n ∷ es) ns (apart_next n es apart right.0) right.1

  in_behind : (m : ℕ) (es ns : List ℕ) → IsIn m es ⊎ IsIn m ns → IsIn m (behind es ns)
  in_behind m es [] (inl i) = i
  in_behind m es [] (inr i) = absurd i
  in_behind m es (n ∷ ns) (inl i) = in_behind m (n ∷ es) ns (inl (inr i))
  in_behind m es (n ∷ ns) (inr (inl e)) = in_behind m (n ∷ es) ns (inl (inl e))
  in_behind m es (n ∷ ns) (inr (inr i)) = in_behind m (n ∷ es) ns (inr i)

  pub none_collide : (ns : List ℕ) → AllRight Met [] f ns → Collide none f ns → ⊥
  none_collide ns right two =
      two.differ (apart_all [] ns (λ m n i. absurd i) right two.first two.second (in_behind two.first [] ns (inr two.first_asked)) (in_behind two.second [] ns (inr two.second_asked)) two.alike)

length-added : {Y : Type 0} (ys : List Y) → added (λ y. 1) ys ≡ length ys
length-added [] = refl
length-added (y ∷ ys) = omega (arith, length-added ys)

all_in : {Y : Type 0} (ys : List Y) (zs : List Y) → AllByRecursion (λ z. IsIn z ys) zs → (z : Y) → IsIn z zs → IsIn z ys
all_in ys zs all z i = one_in (λ z. IsIn z ys) z zs all i

-- entries of one list without repetition that are in another are no more than it has
pub in_few : {Y : Type 0} → ((x y : Y) → Dec (x ≡ y)) → (ys : List Y) → HasAtMost (length ys) (λ z. IsIn z ys)
in_few same ys zs distinct all = omega (arith, added_most same (λ y. 1) zs ys distinct (all_in ys zs all), length-added zs, length-added ys)

module _ {X : Type 0} (same : (x y : X) → Dec (x ≡ y)) (none : X) (ds : List X) (questions : ℕ) (distinct : AreDistinct ds) where
  met_few : IsWrongRarely ds questions (length ds) (λ k. k) (Met none [])
  met_few es f n test long h new wrong =
      let ys = map (answer none f) es in
      let few : count test ds ≤ length ys =
      counts_few (length ys) (λ x. IsIn x ys) test ds (in_few same ys)
      (λ x won.
      let met = wrong x won in
      let other : answer none (put n x f) met.0 ≡ answer none f met.0 = answer-other none n met.0 x f (λ e. new (subst (λ m. IsIn m es) (sym e) met.1.0)) in
      let own : answer none (put n x f) n ≡ x = answer-put none n x f (omega (arith, h, long)) in
      subst (λ y. IsIn y ys) (sym other ∙ met.1.1 ∙ own) (in_map (answer none f) met.0 es met.1.0)) distinct in
      let count_is : length ys ≡ length es = length-map es (answer none f) in
      mul-le-mul_right (length ds) (omega (arith, few, count_is))

  pub collisions_few : (tries : ℕ) (ask : List X → ℕ) (wins : List X → Bool) → ((before : List X) → ask before < questions)
      → ((f : List X) → IsOracle ds questions f → wins f ≡ true → Collide none f (asked none ask f tries))
      → count wins (draws_from ds questions) * length ds ≤ total_from (λ k. k) 0 tries * length ds ^ questions
  collisions_few tries ask wins inside only =
      tries_add same none ds questions (length ds) (λ k. k) (Met none []) met_few tries ask wins (record {
        inside = inside;
        only = λ f is won right. none_collide none f (asked none ask f tries) right (only f is won);
      })

-- ---- by tests

pub queries_told : {X : Type 0} (same : (x y : X) → Dec (x ≡ y)) (none : X) (ds : List X) (questions by tries : ℕ) (wrong : List X → ℕ → Bool) (ask : List X → ℕ) (wins : List X → Bool)
    → ((f : List X) (n : ℕ) → length f ≡ questions → n < questions → count (λ x. wrong (put n x f) n) ds * by ≤ length ds)
    → ((before : List X) → ask before < questions)
    → ((f : List X) → IsOracle ds questions f → wins f ≡ true → AllByRecursion (λ n. wrong f n ≡ false) (asked none ask f tries) → ⊥)
    → count wins (draws_from ds questions) * by ≤ tries * length ds ^ questions
queries_told same none ds questions by tries wrong ask wins few inside only =
    queries_few same none ds questions by (λ f n. wrong f n ≡ true)
    (λ f n test long h told.
    let less : count test ds ≤ count (λ x. wrong (put n x f) n) ds = count_more test (λ x. wrong (put n x f) n) ds (each_in (λ x. test x ≡ true → wrong (put n x f) n ≡ true) ds (λ x i. told x)) in
    let up = mul-le-mul_right by less in
    omega (arith, up, few f n long h))
    tries ask wins inside
    (λ f is won good. only f is won (all_of (λ n. wrong f n ≡ true → ⊥) (λ n. wrong f n ≡ false) (λ n never. go (wrong f n) never) (asked none ask f tries) good))
  where
    go : (b : Bool) → (b ≡ true → ⊥) → b ≡ false
    go true never = absurd (never refl)
    go false never = refl
