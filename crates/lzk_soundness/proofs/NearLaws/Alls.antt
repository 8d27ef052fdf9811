-- Of all combinations few are close, where the words are not close together: along the lines through one that is not.
use Rattle.std.specs.Prelude.{◌≡◌, ◌≢◌, ℕ, ◌<◌, ◌≤◌, ◌+◌, ◌*◌, ◌^◌, Bool, true, List, [], ◌∷◌, length}
use Rattle.std.proofs.Common.{zero, suc, refl, sym, ap, ◌∙◌, arith, mul_comm, mul-le-mul_right, add-mul}
use native.Mathlib.Decide.{dec_lt, ℕ_discrete}
use Rattle.lzk_field.specs.Ring.{Ops, RingLaws, FieldLaws, NumberLaws}
use Rattle.lzk_field.specs.Sums.{sum_below, minus, entry}
use Rattle.lzk_field.proofs.RingBasics.{one_times}
use Rattle.lzk_field.proofs.SumLaws.{sum-ext, sum-plus, sum-times}
use Rattle.lzk_field.proofs.Solve.{var, ◌⊞◌, ◌⊟◌, ◌⊠◌, solve}
use Rattle.lzk_soundness.specs.Chance.Draws.{count, draws_from}
use Rattle.lzk_soundness.specs.Chance.Few.{AreDistinct, HasAtMost, HasAll}
use Rattle.lzk_soundness.specs.Chance.Sets.{count_pairs}
use Rattle.lzk_soundness.proofs.ChanceLaws.Alls.{added, added_more, fronts_added, moved_most, pairs_turned, pairs_most, pairs_least, without, distinct_without, none_without, length_without}
use Rattle.lzk_soundness.proofs.ChanceLaws.Counting.{length-draws, count-most}
use Rattle.lzk_soundness.proofs.ChanceLaws.FewLaws.{counts_few}
use Rattle.lzk_soundness.proofs.ChanceLaws.Lists.{all_long, all_of}
use Rattle.lzk_soundness.specs.Near.Near.{AreApart, AreClose, on_line}
use Rattle.lzk_soundness.specs.Near.Mixes.{headed, mixed}
use Rattle.lzk_soundness.specs.Near.Laws.{CombinationsAreRare}
use Rattle.lzk_soundness.proofs.NearLaws.Lines.{lines_few}
use Rattle.lzk_soundness.proofs.NearLaws.Lists.{rare}
use Rattle.lzk_soundness.proofs.NearLaws.Mixes.{close_same}

module _ {A : Type 0} (o : Ops A) (r : RingLaws o) (f : FieldLaws o) (same : (x y : A) → Dec (x ≡ y)) (ds : List A) (distinct : AreDistinct ds) (every : HasAll ds) where
  abbrev N : ℕ
  N = length ds

  -- the weights u, and t times those in the list
  abbrev line_at : (ℕ → A) → A → List A → List A
  line_at u t [] = []
  line_at u t (x ∷ xs) = o.plus (u 0) (o.times t x) ∷ line_at (λ k. u (suc k)) t xs

  length_line : (u : ℕ → A) (t : A) (xs : List A) → length (line_at u t xs) ≡ length xs
  length_line u t [] = refl
  length_line u t (x ∷ xs) = ap suc (length_line (λ k. u (suc k)) t xs)

  entry_line : (u : ℕ → A) (t : A) (xs : List A) (i : ℕ) → i < length xs → entry o (line_at u t xs) i ≡ o.plus (u i) (o.times t (entry o xs i))
  entry_line u t [] i h = absurd (omega arith)
  entry_line u t (x ∷ xs) zero h = refl
  entry_line u t (x ∷ xs) (suc i) h = entry_line (λ k. u (suc k)) t xs i (omega arith)

  module _ (t : A) (some : t ≢ o.zero) where
    -- an element of a line by its place, and back
    there : A → A → A
    there a d = o.plus a (o.times t d)

    back : A → A → A
    back a y = o.times (o.inverse t) (minus o y a)

    there_back : (a y : A) → there a (back a y) ≡ y
    unfolding there back
    there_back a y =
        let i = o.inverse t in
        solve o r (a ∷ t ∷ i ∷ y ∷ []) (var 0 ⊞ var 1 ⊠ (var 2 ⊠ (var 3 ⊟ var 0))) (var 0 ⊞ (var 1 ⊠ var 2) ⊠ (var 3 ⊟ var 0)) refl
        ∙ ap (λ w. o.plus a (o.times w (minus o y a))) (f.times_inverse t some)
        ∙ ap (o.plus a) (one_times o r (minus o y a))
        ∙ solve o r (a ∷ y ∷ []) (var 0 ⊞ (var 1 ⊟ var 0)) (var 1) refl

    back_one : (a x y : A) → back a x ≡ back a y → x ≡ y
    back_one a x y e = sym (there_back a x) ∙ ap (there a) e ∙ there_back a y

    -- all lists of weights are as many as those along t
    shifted : (m : ℕ) (u : ℕ → A) (test : List A → Bool) → count test (draws_from ds m) ≤ count (λ v. test (line_at u t v)) (draws_from ds m)
    unfolding there
    shifted zero u test = omega arith
    shifted (suc m) u test =
        let ts = draws_from ds m in
        let a = u 0 in
        let G : A → ℕ = λ y. count (λ rest. test (y ∷ rest)) ts in
        let H : A → ℕ = λ d. count (λ rest. test (there a d ∷ line_at (λ k. u (suc k)) t rest)) ts in
        let first : added G ds ≤ added (λ y. G (there a (back a y))) ds = added_more G (λ y. G (there a (back a y))) ds (λ y. (let e = ap G (there_back a y) in omega (arith, e))) in
        let second : added (λ y. G (there a (back a y))) ds ≤ added (λ d. G (there a d)) ds = moved_most same (λ d. G (there a d)) (back a) (back_one a) ds distinct every in
        let third : added (λ d. G (there a d)) ds ≤ added H ds = added_more (λ d. G (there a d)) H ds (λ d. shifted m (λ k. u (suc k)) (λ rest. test (there a d ∷ rest))) in
        omega (arith, fronts_added test ts ds, first, second, third, fronts_added (λ v. test (line_at u t v)) ts ds)

  module _ (at : ℕ → A) (n end e : ℕ) (apart : AreApart at end) (small : 3 * e + n ≤ end) (m : ℕ) (constant : ℕ → A) (rows : ℕ → ℕ → A) (wins : List A → Bool)
      (only : (ws : List A) → length ws ≡ m → wins ws ≡ true → AreClose o at n end e 1 (λ i. mixed o constant rows (entry o ws) m)) where
    -- the rows' combination without the first word
    abbrev direction : List A → ℕ → A
    direction v j = sum_below o m (λ i. o.times (entry o v i) (rows i j))

    mixed_line : (u : ℕ → A) (t : A) (v : List A) (j : ℕ) → length v ≡ m → mixed o constant rows (entry o (line_at u t v)) m j ≡ o.plus (mixed o constant rows u m j) (o.times t (direction v j))
    mixed_line u t v j long =
        let p : ℕ → A = λ i. o.times (u i) (rows i j) in
        let q : ℕ → A = λ i. o.times (entry o v i) (rows i j) in
        ap (o.plus (constant j))
        (sum-ext o r m (λ i. o.times (entry o (line_at u t v) i) (rows i j)) (λ i. o.plus (p i) (o.times t (q i)))
        (λ i h. ap (λ x. o.times x (rows i j)) (entry_line u t v i (omega (arith, h, long)))
        ∙ solve o r (u i ∷ t ∷ entry o v i ∷ rows i j ∷ []) ((var 0 ⊞ var 1 ⊠ var 2) ⊠ var 3) (var 0 ⊠ var 3 ⊞ var 1 ⊠ (var 2 ⊠ var 3)) refl)
        ∙ sum-plus o r m p (λ i. o.times t (q i)) ∙ ap (o.plus (sum_below o m p)) (sum-times o r m t q))
        ∙ sym (r.plus_assoc (constant j) (sum_below o m p) (o.times t (sum_below o m q)))

    module _ (u : ℕ → A) (far : AreClose o at n end e 1 (λ i. mixed o constant rows u m) → ⊥) where
      abbrev W : ℕ → ℕ → A
      W i = mixed o constant rows u m

      few_on_line : (v : List A) → length v ≡ m → HasAtMost (e + 1) (λ t. AreClose o at n end e 1 (on_line o at n end e W (λ i. direction v) t))
      few_on_line v long = lines_few o r f at n end e 1 W (λ i. direction v) apart small (λ b. far (record {
        outside = b.outside;
        code = b.first_code;
        few = b.few;
        short = b.first_short;
        agree = b.first_agree;
      }))

      abbrev steps : List A
      steps = without same o.zero ds

      line_count : (v : List A) → length v ≡ m → count (λ t. wins (line_at u t v)) steps ≤ e + 1
      line_count v long =
          counts_few (e + 1) (λ t. AreClose o at n end e 1 (on_line o at n end e W (λ i. direction v) t)) (λ t. wins (line_at u t v)) steps (few_on_line v long)
          (λ t won. close_same o at n end e 1 1 (λ i. mixed o constant rows (entry o (line_at u t v)) m) (on_line o at n end e W (λ i. direction v) t) (omega arith)
          (λ i j h. sym (mixed_line u t v j long)) (only (line_at u t v) (length_line u t v ∙ long) won)) (distinct_without same o.zero ds distinct)

      few_lists : count wins (draws_from ds m) * N ≤ (e + 2) * N ^ m
      few_lists =
          let V = draws_from ds m in
          let test : A → List A → Bool = λ t v. wins (line_at u t v) in
          let c = count wins V in
          let least : length steps * c ≤ count_pairs test steps V =
          pairs_least test V c steps (all_of (λ t. t ≢ o.zero) (λ t. c ≤ count (test t) V) (λ t some. shifted t some m u wins) steps (none_without same o.zero ds distinct)) in
          let most : count_pairs (λ v t. test t v) V steps ≤ length V * (e + 1) =
          pairs_most (λ v t. test t v) steps (e + 1) V (all_of (λ v. length v ≡ m) (λ v. count (λ t. test t v) steps ≤ e + 1) line_count V (all_long ds m)) in
          let long : length steps + 1 ≡ N = length_without same o.zero ds (every o.zero) in
          final (length steps) c (N ^ m) (length V) N e (omega (arith, least, most, pairs_turned test steps V)) (length-draws ds m) (omega (arith, count-most wins V)) long
        where
          final : (s c T l k d : ℕ) → s * c ≤ l * (d + 1) → l ≡ T → c ≤ l → s + 1 ≡ k → c * k ≤ (d + 2) * T
          final s c T l k d h is le one =
              let turn : s * c ≡ c * s = mul_comm s c in
              let up : l * (d + 1) ≡ (d + 1) * T = mul_comm l (d + 1) ∙ ap (λ (j : ℕ). (d + 1) * j) is in
              let more : c * k ≡ c * s + c = ap (λ (j : ℕ). c * j) (sym one) ∙ mul_comm c (s + 1) ∙ add-mul s 1 c ∙ omega (arith, mul_comm s c) in
              let right : (d + 2) * T ≡ (d + 1) * T + T = add-mul d 2 T ∙ omega (arith, add-mul d 1 T) in
              omega (arith, h, turn, up, more, right, le, is)

    -- some combination is far, if all words together are, and there are more elements than so
    pub all_rare : (AreClose o at n end e (m + 1) (headed constant rows) → ⊥) → m * (e + 1) < N → count wins (draws_from ds m) * N ≤ (e + 2) * N ^ m
    all_rare far many = elim (dec_lt ((e + 2) * N ^ m) (count wins (draws_from ds m) * N)) [
      | no less ↦ omega (arith, less)
      | yes more ↦
          let none_far : (ws : List A) → (AreClose o at n end e 1 (λ i. mixed o constant rows (entry o ws) m) → ⊥) → ⊥ =
          λ ws away. (let few = few_lists (entry o ws) away in absurd (omega (arith, few, more))) in
          let yes_all : List A → Bool = λ ws. true in
          let whole = rare o r f at n end e apart small ds distinct m constant rows yes_all far (λ ws long won. none_far ws) in
          absurd (too_many (N ^ m) N (m * (e + 1)) (count yes_all (draws_from ds m)) whole (count_all (draws_from ds m) ∙ length-draws ds m) many (some (count wins (draws_from ds m)) (N ^ m) N (omega (arith, count-most wins (draws_from ds m), length-draws ds m)) more))
    ]
      where
        count_all : {X : Type 0} (xs : List X) → count (λ x. true) xs ≡ length xs
        count_all [] = refl
        count_all (x ∷ xs) = omega (arith, count_all xs)

        some : (c T k : ℕ) → c ≤ T → (e + 2) * T < c * k → 0 < T
        some c zero k le h = let z : c ≡ 0 = omega (arith, le) in let y : c * k ≡ 0 * k = ap (λ (j : ℕ). j * k) z in absurd (omega (arith, h, y))
        some c (suc T) k le h = omega arith

        too_many : (T k a c : ℕ) → c * k ≤ a * T → c ≡ T → a < k → 0 < T → ⊥
        too_many T k a c h is less some_lists =
            let left : c * k ≡ k * T = ap (λ (j : ℕ). j * k) is ∙ mul_comm T k in
            let up : (a + 1) * T ≤ k * T = mul-le-mul_right T (omega (arith, less)) in
            absurd (omega (arith, h, left, up, add-mul a 1 T, some_lists))

pub combinations_rare : {A : Type 0} (o : Ops A) → RingLaws o → FieldLaws o → ((x y : A) → Dec (x ≡ y)) → CombinationsAreRare o
combinations_rare o r f same at n end e m constant rows wins ds test distinct every many =
    all_rare o r f same ds distinct every at n end e test.apart test.few m constant rows wins test.only test.far many

-- whether two elements are the same
pub same_elements : {A : Type 0} {o : Ops A} {size : ℕ} {number_of : A → ℕ} {element : ℕ → A} {bytes : ℕ} → NumberLaws o size number_of element bytes → (x y : A) → Dec (x ≡ y)
same_elements {number_of = number_of} {element = element} laws x y = elim (ℕ_discrete (number_of x) (number_of y)) [
  | yes e ↦ yes (sym (laws.element_number x) ∙ ap element e ∙ laws.element_number y)
  | no n ↦ no (λ e. n (ap number_of e))
]
