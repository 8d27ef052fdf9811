-- Of the answers of a step few are bad.
use Rattle.std.specs.Prelude.{◌≡◌, ℕ, ◌+◌, ◌-◌, ◌*◌, ◌^◌, ◌<◌, ◌≤◌, ◌==◌, ◌&&◌, cond, nat_lt, Bool, true, false, List, [], ◌++◌, length, take}
use Rattle.std.specs.List.{AllByRecursion}
use Rattle.std.proofs.Common.{zero, suc, refl, sym, ap, ◌∙◌, arith, subst, mul-le-mul_right, mul-suc, length-append}
use Rattle.std.proofs.lemmas.Bool.{false≢true, lt-ltb, ltb-true, ne_eqb}
use Rattle.std.proofs.lemmas.List.{length-take-le, get_or-take, get_or_append_left, get_or-append-add, ext_get_or}
use Rattle.std.proofs.lemmas.List.FromFn.{get_or-map-range_with_len, length-map-range_with_len}
use native.Mathlib.Decide.{dec_lt}
use Rattle.lzk_field.specs.Coding.{Coding}
use Rattle.lzk_field.specs.Ring.{Ops, Laws}
use Rattle.lzk_field.specs.Sums.{entry}
use Rattle.lzk_soundness.specs.Chance.Draws.{count, draws_from, has_bad, total_from}
use Rattle.lzk_soundness.specs.Chance.Few.{AreDistinct}
use Rattle.lzk_soundness.proofs.ChanceLaws.Counting.{bad_draws_few}
use Rattle.lzk_soundness.proofs.ChanceLaws.FewLaws.{counts_few}
use Rattle.lzk_soundness.proofs.ChanceLaws.Lists.{none_bad, all_long, count_more, all_of}
use Rattle.lzk_soundness.proofs.ChanceLaws.Sets.{count-none}
use Rattle.lzk_circuit.specs.Valid.{Wiring, IsValid}
use Rattle.lzk_layout.specs.Sizes.{committed_count}
use Rattle.lzk_layout.specs.Places.{depth, output_bits}
use Rattle.lzk_soundness.specs.Draws.Schedule.{Draw, drawn_at, draw_count, draw_in, draw_at, script_of}
use Rattle.lzk_soundness.specs.Draws.Schedule.Draw.{coordinate, alpha, beta, challenge, gamma, other}
use Rattle.lzk_soundness.specs.Draws.Game.{Target, IsBadDraw, degree}
use Rattle.lzk_soundness.specs.Draws.Game.Target.{outputs, assertions}
use Rattle.lzk_soundness.proofs.DrawsLaws.Alike.{shape_of}
use Rattle.lzk_soundness.proofs.DrawsLaws.Deciding.{is_yes, from_yes, dec_bad}
use Rattle.lzk_soundness.proofs.DrawsLaws.FewDraws.{few_draws}
use Rattle.lzk_soundness.proofs.DrawsLaws.Places.{inside, at_gamma, at_layer}
use Rattle.lzk_soundness.specs.Rounds.Steps.{Step, sent_before, first_of, step_of, place_in, most_draws, degrees, draws_of, IsBadAnswer}
use Rattle.lzk_soundness.specs.Rounds.Steps.Step.{head}
use Rattle.lzk_soundness.specs.Rounds.Laws.{IsAnsweredBy, DegreesAreFew}
use Rattle.lzk_soundness.proofs.RoundsLaws.Steps.{first_head, draw_is, place_few, earlier}

two_or_one : (b : Bool) → cond b 2 1 ≤ 3
two_or_one true = omega arith
two_or_one false = omega arith

three_or_two : (b : Bool) → cond b 3 2 ≤ 3
three_or_two true = omega arith
three_or_two false = omega arith

degree_most : (target : Target) (d : Draw) → degree target d ≤ 3
degree_most outputs (coordinate j) = omega arith
degree_most (assertions zero) (coordinate j) = omega arith
degree_most (assertions (suc l)) (coordinate j) = omega arith
degree_most outputs (alpha k) = omega arith
degree_most (assertions l) (alpha k) = two_or_one (l == k)
degree_most target (beta k) = omega arith
degree_most outputs (challenge k n) = omega arith
degree_most (assertions l) (challenge k n) = three_or_two _
degree_most target gamma = omega arith
degree_most target other = omega arith

both_true : (a b : Bool) → a ≡ true → b ≡ true → (a && b) ≡ true
both_true true b p q = q
both_true false b p q = absurd (false≢true p)

right_of : (a b : Bool) → (a && b) ≡ true → b ≡ true
right_of true b p = p
right_of false b p = absurd (false≢true p)

yes_is : {P : Type 0} (d : Dec P) → P → is_yes d ≡ true
yes_is (yes p) q = refl
yes_is (no n) q = absurd (n q)

-- the degrees of the first draws alone
first_few : (D : ℕ → ℕ) (a most : ℕ) → ℕ → ℕ
first_few D a most j = cond (nat_lt j most) (D (a + j)) 0

first_total : (D : ℕ → ℕ) (a most j n : ℕ) → total_from (first_few D a most) j n ≤ total_from D (a + j) (most - j)
unfolding first_few
first_total D a most j zero = omega arith
first_total D a most j (suc n) = elim (dec_lt j most) [
  | yes less ↦
      let left : most - j ≡ suc (most - suc j) = omega (arith, less) in
      let next : a + suc j ≡ suc (a + j) = omega arith in
      omega (arith, ap (λ (b : Bool). cond {A = ℕ} b (D (a + j)) 0) (lt-ltb j most less), first_total D a most (suc j) n, ap (total_from D (a + j)) left, ap (λ (k : ℕ). total_from D k (most - suc j)) next)
  | no more ↦
      let none : most - suc j ≡ 0 = omega (arith, more) in
      omega (arith, one (nat_lt j most) refl more, first_total D a most (suc j) n, ap (total_from D (a + suc j)) none)
]
  where
    one : (b : Bool) → nat_lt j most ≡ b → ((j < most) → ⊥) → cond b (D (a + j)) 0 ≤ 0
    one true is more = absurd (more (ltb-true j most is))
    one false is more = omega arith

total_most : (D : ℕ → ℕ) (most k n : ℕ) → ((i : ℕ) → D i ≤ most) → total_from D k n ≤ most * n
total_most D most k zero each = omega arith
total_most D most k (suc n) each = omega (arith, each k, total_most D most (suc k) n each, mul-suc most n)

total_none : (D : ℕ → ℕ) (k n : ℕ) → ((i : ℕ) → k ≤ i → D i ≤ 0) → total_from D k n ≤ 0
total_none D k zero each = omega arith
total_none D k (suc n) each = omega (arith, each k (omega arith), total_none D (suc k) n (λ i h. each i (omega (arith, h))))

pub entry_of_draws : {A : Type 0} (o : Ops A) (c : Wiring A) (f : Step → List A) (i : ℕ) → i < draw_count c → entry o (draws_of o c f) i ≡ entry o (f (step_of c (draw_at c i))) (place_in c (draw_at c i))
entry_of_draws o c f i h = get_or-map-range_with_len (λ k. entry o (f (step_of c (draw_at c k))) (place_in c (draw_at c k))) 0 (draw_count c) i i o.zero h (omega arith)

pub length_of_draws : {A : Type 0} (o : Ops A) (c : Wiring A) (f : Step → List A) → length (draws_of o c f) ≡ draw_count c
length_of_draws o c f = length-map-range_with_len (λ k. entry o (f (step_of c (draw_at c k))) (place_in c (draw_at c k))) 0 (draw_count c)

module _ {A : Type 0} (o : Ops A) (e : Coding A) (laws : Laws o e.size e.number e.element e.bytes) (c : Wiring A) (public w : List A) (target : Target) (messages : List A) (step : Step) (others : Step → List A) (answers : List A → Step → List A) (n : ℕ) (test : List A → Bool) (ds : List A) (valid : IsValid o c) (publics : length public ≡ c.publics) (count_is : length w ≡ committed_count c) (by : IsAnsweredBy c step others answers) (enough : most_draws c ≤ n) where
  abbrev a : ℕ
  a = first_of c step

  abbrev front : List A
  front = take a (draws_of o c others)

  abbrev sent : List A
  sent = take (sent_before c step) messages

  abbrev Bad : List A → A → Type 0
  Bad before x = IsBadDraw o c public w e.element (script_of o c (front ++ before)) sent target (draw_at c (a + length before)) x

  decide : (before : List A) (x : A) → Dec (Bad before x)
  decide before x = dec_bad laws.numbers laws.ring c public w (script_of o c (front ++ before)) sent target (draw_at c (a + length before)) x

  bad : List A → A → Bool
  bad before x = nat_lt (length before) (most_draws c) && is_yes (decide before x)

  abbrev D : ℕ → ℕ
  D k = degree target (draw_at c k)

  few_next : AreDistinct ds → (before : List A) → count (bad before) ds ≤ first_few D a (most_draws c) (length before)
  unfolding bad first_few
  few_next distinct before = go (nat_lt (length before) (most_draws c))
    where
      go : (b : Bool) → count (λ x. b && is_yes (decide before x)) ds ≤ cond b (D (a + length before)) 0
      go true =
          let d = draw_at c (a + length before) in
          counts_few (degree target d) (Bad before) (λ x. is_yes (decide before x)) ds
          (few_draws o e laws c public w (script_of o c (front ++ before)) sent publics count_is (shape_of o c (front ++ before)) target d (inside c (a + length before)))
          (λ x is. from_yes (decide before x) is) distinct
      go false = omega (arith, count-none (λ x. false) ds (λ x is. false≢true is))

  -- ---- a bad answer has a bad entry

  module _ (xs : List A) (long : length xs ≡ n) (b : IsBadAnswer o c public w target e.element (draws_of o c (answers xs)) messages step) where
    abbrev r : List A
    r = draws_of o c (answers xs)

    abbrev k : ℕ
    k = b.place

    abbrev d : Draw
    d = draw_at c k

    abbrev j : ℕ
    j = place_in c d

    here : a + j ≡ k
    here = ap (λ (s : Step). first_of c s + j) (sym b.there) ∙ (draw_is c k valid.some b.inside).1

    few_places : j < most_draws c
    few_places = place_few c d (draw_is c k valid.some b.inside).0

    own_entry : (i p : ℕ) → i < draw_count c → step_of c (draw_at c i) ≡ step → place_in c (draw_at c i) ≡ p → entry o r i ≡ entry o xs p
    own_entry i p h same place =
        entry_of_draws o c (answers xs) i h ∙ ap (λ s. entry o (answers xs s) (place_in c (draw_at c i))) same
        ∙ ap (λ ys. entry o ys (place_in c (draw_at c i))) (by.own xs) ∙ ap (entry o xs) place

    other_entry : (i : ℕ) → i < a → i < draw_count c → entry o r i ≡ entry o (draws_of o c others) i
    other_entry i h l =
        entry_of_draws o c (answers xs) i l
        ∙ ap (λ ys. entry o ys (place_in c (draw_at c i)))
        (by.same xs i l (λ same. (let at = (draw_is c i valid.some l).1 in let moved : first_of c (step_of c (draw_at c i)) ≡ a = ap (first_of c) same in absurd (omega (arith, at, moved, h)))))
        ∙ sym (entry_of_draws o c others i l)

    before : take k r ≡ front ++ take j xs
    before =
        let lr : length r ≡ draw_count c = length_of_draws o c (answers xs) in
        let lb : length (draws_of o c others) ≡ draw_count c = length_of_draws o c others in
        let left : length (take k r) ≡ k = length-take-le k r (omega (arith, b.inside, lr)) in
        let front_long : length front ≡ a = length-take-le a (draws_of o c others) (omega (arith, here, b.inside, lb)) in
        let own_long : length (take j xs) ≡ j = length-take-le j xs (omega (arith, few_places, enough, long)) in
        let right : length (front ++ take j xs) ≡ a + j = length-append front (take j xs) ∙ omega (arith, front_long, own_long) in
        ext_get_or o.zero (take k r) (front ++ take j xs) (left ∙ sym here ∙ sym right) (λ i h. each i (omega (arith, h, left)) front_long own_long)
      where
        each : (i : ℕ) → i < k → length front ≡ a → length (take j xs) ≡ j → entry o (take k r) i ≡ entry o (front ++ take j xs) i
        each i h front_long own_long = elim (dec_lt i a) [
          | yes less ↦
              get_or-take k r i o.zero h ∙ other_entry i less (omega (arith, h, b.inside))
              ∙ sym (get_or_append_left front (take j xs) o.zero i (omega (arith, less, front_long)) ∙ get_or-take a (draws_of o c others) i o.zero less)
          | no more ↦
              let p = i - a in
              let z : length front + p ≡ i = omega (arith, more, front_long) in
              let q : p < j = omega (arith, more, h, here) in
              let at : first_of c (step_of c d) + p ≡ i = omega (arith, ap (first_of c) b.there, more) in
              let facts = earlier c d (draw_is c k valid.some b.inside).0 p q in
              get_or-take k r i o.zero h
              ∙ own_entry i p (omega (arith, h, b.inside)) (sym (ap (λ (v : ℕ). step_of c (draw_at c v)) at) ∙ facts.0 ∙ b.there) (sym (ap (λ (v : ℕ). place_in c (draw_at c v)) at) ∙ facts.1)
              ∙ sym (ap (entry o (front ++ take j xs)) (sym z) ∙ get_or-append-add front (take j xs) p o.zero ∙ get_or-take j xs p o.zero q)
        ]

    moved : Bad (take j xs) (entry o xs j)
    moved =
        let own_long : length (take j xs) ≡ j = length-take-le j xs (omega (arith, few_places, enough, long)) in
        let at : k ≡ a + length (take j xs) = omega (arith, here, own_long) in
        let value : entry o r k ≡ entry o xs j = own_entry k j b.inside b.there refl in
        subst (λ (v : ℕ). IsBadDraw o c public w e.element (script_of o c (front ++ take j xs)) sent target (draw_at c v) (entry o xs j)) at
        (subst (λ x. IsBadDraw o c public w e.element (script_of o c (front ++ take j xs)) sent target d x) value
        (subst (λ (s : Step). IsBadDraw o c public w e.element (script_of o c (front ++ take j xs)) (take (sent_before c s) messages) target d (entry o r k)) b.there
        (subst (λ ys. IsBadDraw o c public w e.element (script_of o c ys) (take (sent_before c (step_of c d)) messages) target d (entry o r k)) before b.bad)))

    has_one : has_bad bad [] xs ≡ true
    unfolding bad
    has_one = go (has_bad bad [] xs) refl
      where
        go : (v : Bool) → has_bad bad [] xs ≡ v → v ≡ true
        go true is = refl
        go false is =
            let own_long : length (take j xs) ≡ j = length-take-le j xs (omega (arith, few_places, enough, long)) in
            let less : nat_lt (length (take j xs)) (most_draws c) ≡ true = lt-ltb (length (take j xs)) (most_draws c) (omega (arith, own_long, few_places)) in
            absurd (false≢true (sym (none_bad o bad [] xs is j (omega (arith, few_places, enough, long)))
            ∙ both_true (nat_lt (length (take j xs)) (most_draws c)) (is_yes (decide (take j xs) (entry o xs j))) less (yes_is (decide (take j xs) (entry o xs j)) moved)))

  pub answers_few : ((xs : List A) → length xs ≡ n → test xs ≡ true → IsBadAnswer o c public w target e.element (draws_of o c (answers xs)) messages step) → AreDistinct ds
      → count test (draws_from ds n) * length ds ≤ degrees c target step * length ds ^ n
  answers_few only distinct =
      let N = length ds in
      let all = draws_from ds n in
      let each : AllByRecursion (λ xs. test xs ≡ true → has_bad bad [] xs ≡ true) all =
      all_of (λ xs. length xs ≡ n) (λ xs. test xs ≡ true → has_bad bad [] xs ≡ true) (λ xs long is. has_one xs long (only xs long is)) all (all_long ds n) in
      let few = (bad_draws_few A bad (first_few D a (most_draws c)) ds n (few_next distinct)).1 in
      let same : total_from D (a + 0) (most_draws c - 0) ≡ total_from D a (most_draws c) = (let z : a + 0 ≡ a = omega arith in let y : most_draws c - 0 ≡ most_draws c = omega arith in ap (λ (k : ℕ). total_from D k (most_draws c - 0)) z ∙ ap (total_from D a) y) in
      let total : total_from (first_few D a (most_draws c)) 0 n * N ^ n ≤ degrees c target step * N ^ n = mul-le-mul_right (N ^ n) (omega (arith, first_total D a (most_draws c) 0 n, same)) in
      omega (arith, mul-le-mul_right N (count_more test (has_bad bad []) all each), few, total)

-- how much the degrees are
pub degrees_few : {A : Type 0} (c : Wiring A) → DegreesAreFew c
degrees_few c = record {
  all = λ target step. total_most (λ k. degree target (draw_at c k)) 3 (first_of c step) (most_draws c) (λ i. degree_most target (draw_at c i));
  last = at_end;
}
  where
    at_end : (target : Target) → 1 ≤ depth c → degrees c target (head (depth c)) ≤ 1
    at_end target some =
        let D : ℕ → ℕ = λ k. degree target (draw_at c k) in
        let at : first_of c (head (depth c)) ≡ drawn_at c (depth c) = first_head c (depth c) some in
        let here : D (drawn_at c (depth c)) ≡ degree target gamma = ap (degree target) (at_gamma c) in
        let rest = total_none D (suc (drawn_at c (depth c))) (output_bits c + 1) (λ i h. behind i h) in
        let size : most_draws c ≡ suc (output_bits c + 1) = omega arith in
        omega (arith, ap (λ (k : ℕ). total_from D k (most_draws c)) at, ap (total_from D (drawn_at c (depth c))) size, here, rest)
      where
        behind : (i : ℕ) → suc (drawn_at c (depth c)) ≤ i → degree target (draw_at c i) ≤ 0
        behind i h =
            let j = i - drawn_at c (depth c) in
            let z : i ≡ drawn_at c (depth c) + j = omega (arith, h) in
            let none : depth c - depth c ≡ 0 = omega arith in
            let some_j : (j ≡ 0 → ⊥) = λ e. omega (arith, e, h) in
            let is : draw_at c i ≡ other = ap (draw_at c) z ∙ at_layer c (depth c) (omega arith) j ∙ ap (λ (d : ℕ). draw_in c (depth c) d j) none ∙ ap (λ b. cond b gamma other) (ne_eqb j 0 some_j) in
            omega (arith, ap (degree target) is)
