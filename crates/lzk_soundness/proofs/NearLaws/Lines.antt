-- At few places of a line are words close to codewords together, where the line's words are not.
use Rattle.std.specs.Prelude.{◌≡◌, ◌≢◌, ℕ, ◌<◌, ◌≤◌, ◌+◌, ◌-◌, ◌*◌, ◌||◌, Bool, true, false, cond, List, [], ◌∷◌, length}
use Rattle.std.specs.List.{AllByRecursion, range_with_len}
use Rattle.std.proofs.Common.{suc, refl, sym, ap, ◌∙◌, arith, mul-le-mul_right, mul_comm, add-mul, suc-mul}
use Rattle.std.proofs.Math.Dec.{leb}
use Rattle.std.proofs.lemmas.Bool.{leb-true, leb-false}
use native.Mathlib.Decide.{dec_lt}
use Rattle.lzk_field.specs.Ring.{Ops, RingLaws, FieldLaws}
use Rattle.lzk_field.specs.Sums.{minus}
use Rattle.lzk_field.proofs.RingBasics.{difference_nonzero, no_divisors, same_from_difference, one_times}
use Rattle.lzk_field.proofs.Solve.{var, unit as solo, opp, ◌⊞◌, ◌⊟◌, ◌⊠◌, solve}
use Rattle.lzk_poly.specs.Polynomial.{eval, add, scale}
use Rattle.lzk_poly.proofs.Polynomials.{eval-add, eval-scale, length-add, length-scale}
use Rattle.lzk_soundness.specs.Chance.Few.{AreDistinct}
use Rattle.lzk_soundness.specs.Chance.Draws.{count}
use Rattle.lzk_soundness.specs.Near.Near.{AreApart, AreClose, AreBothClose, on_line}
use Rattle.lzk_soundness.specs.Near.Laws.{LinesAreFew}
use Rattle.lzk_soundness.proofs.NearLaws.Agreeing.{or_false, count_or, same_but_few}

all_of : {X : Type 0} (P Q : X → Type 0) → ((x : X) → P x → Q x) → (xs : List X) → AllByRecursion P xs → AllByRecursion Q xs
all_of P Q f [] all = tt
all_of P Q f (x ∷ xs) all = (f x all.0, all_of P Q f xs all.1)

module _ {A : Type 0} (o : Ops A) (r : RingLaws o) (f : FieldLaws o) (at : ℕ → A) (n end e m : ℕ) (U V : ℕ → ℕ → A) (apart : AreApart at end) (small : 3 * e + n ≤ end) where
  abbrev Close : A → Type 0
  Close x = AreClose o at n end e m (on_line o at n end e U V x)

  -- outside a small set the words are at x where a line of polynomials is
  record OnLine (p q : ℕ → List A) (x : A) : Type 0 where
    pub outside : ℕ → Bool
    pub few : count outside (range_with_len 0 end) ≤ e
    pub meets : (i j : ℕ) → i < m → j < end → outside j ≡ false → o.plus (U i j) (o.times x (V i j)) ≡ o.plus (eval o (p i) (at j)) (o.times x (eval o (q i) (at j)))

  -- ---- the line through the codewords at two places

  module _ (a b : A) (differ : a ≢ b) (ca : Close a) (cb : Close b) where
    abbrev d : A
    d = o.inverse (minus o a b)

    abbrev second : ℕ → List A
    second i = scale o d (add o (ca.code i) (scale o (o.neg o.one) (cb.code i)))

    abbrev first : ℕ → List A
    first i = add o (ca.code i) (scale o (o.neg a) (second i))

    unit_d : o.times (minus o a b) d ≡ o.one
    unit_d = f.times_inverse (minus o a b) (difference_nonzero o r f a b differ)

    eval-second : (i : ℕ) (t : A) → eval o (second i) t ≡ o.times d (minus o (eval o (ca.code i) t) (eval o (cb.code i) t))
    eval-second i t =
        let x = eval o (ca.code i) t in
        let y = eval o (cb.code i) t in
        eval-scale o r d (add o (ca.code i) (scale o (o.neg o.one) (cb.code i))) t
        ∙ ap (o.times d) (eval-add o r (ca.code i) (scale o (o.neg o.one) (cb.code i)) t ∙ ap (o.plus x) (eval-scale o r (o.neg o.one) (cb.code i) t)
        ∙ solve o r (x ∷ y ∷ []) (var 0 ⊞ opp solo ⊠ var 1) (var 0 ⊟ var 1) refl)

    eval-first : (i : ℕ) (t : A) → eval o (first i) t ≡ minus o (eval o (ca.code i) t) (o.times a (eval o (second i) t))
    eval-first i t =
        let x = eval o (ca.code i) t in
        let y = eval o (second i) t in
        eval-add o r (ca.code i) (scale o (o.neg a) (second i)) t ∙ ap (o.plus x) (eval-scale o r (o.neg a) (second i) t)
        ∙ solve o r (x ∷ a ∷ y ∷ []) (var 0 ⊞ opp (var 1) ⊠ var 2) (var 0 ⊟ var 1 ⊠ var 2) refl

    second_short : (i : ℕ) → i < m → length (second i) ≤ n
    second_short i h =
        let sum = add o (ca.code i) (scale o (o.neg o.one) (cb.code i)) in
        omega (arith, length-scale o d sum, length-add o n (ca.code i) (scale o (o.neg o.one) (cb.code i)) (ca.short i h) (omega (arith, length-scale o (o.neg o.one) (cb.code i), cb.short i h)))

    first_short : (i : ℕ) → i < m → length (first i) ≤ n
    first_short i h = length-add o n (ca.code i) (scale o (o.neg a) (second i)) (ca.short i h) (omega (arith, length-scale o (o.neg a) (second i), second_short i h))

    second_there : (i j : ℕ) → i < m → j < end → ca.outside j ≡ false → cb.outside j ≡ false → eval o (second i) (at j) ≡ V i j
    second_there i j h l p q =
        let u = U i j in
        let v = V i j in
        eval-second i (at j) ∙ ap (λ x. o.times d (minus o x (eval o (cb.code i) (at j)))) (sym (ca.agree i j h l p))
        ∙ ap (λ y. o.times d (minus o (o.plus u (o.times a v)) y)) (sym (cb.agree i j h l q))
        ∙ solve o r (d ∷ u ∷ a ∷ v ∷ b ∷ []) (var 0 ⊠ ((var 1 ⊞ var 2 ⊠ var 3) ⊟ (var 1 ⊞ var 4 ⊠ var 3))) (((var 2 ⊟ var 4) ⊠ var 0) ⊠ var 3) refl
        ∙ ap (λ x. o.times x v) unit_d ∙ one_times o r v

    first_there : (i j : ℕ) → i < m → j < end → ca.outside j ≡ false → cb.outside j ≡ false → eval o (first i) (at j) ≡ U i j
    first_there i j h l p q =
        eval-first i (at j) ∙ ap (λ x. minus o (eval o (ca.code i) (at j)) (o.times a x)) (second_there i j h l p q)
        ∙ ap (λ x. minus o x (o.times a (V i j))) (sym (ca.agree i j h l p))
        ∙ solve o r (U i j ∷ a ∷ V i j ∷ []) ((var 0 ⊞ var 1 ⊠ var 2) ⊟ var 1 ⊠ var 2) (var 0) refl

    eval-line : (x : A) (i : ℕ) (t : A) → eval o (add o (first i) (scale o x (second i))) t ≡ o.plus (eval o (first i) t) (o.times x (eval o (second i) t))
    eval-line x i t = eval-add o r (first i) (scale o x (second i)) t ∙ ap (o.plus (eval o (first i) t)) (eval-scale o r x (second i) t)

    on : (x : A) → Close x → OnLine first second x
    on x cx =
        let bad : ℕ → Bool = λ j. ca.outside j || (cb.outside j || cx.outside j) in
        let columns = range_with_len 0 end in
        let few : count bad columns ≤ 3 * e = omega (arith, count_or ca.outside (λ j. cb.outside j || cx.outside j) columns, count_or cb.outside cx.outside columns, ca.few, cb.few, cx.few) in
        record {
          outside = cx.outside;
          few = cx.few;
          meets = λ i j h l p.
              cx.agree i j h l p
              ∙ same_but_few o at bad r f n end (cx.code i) (add o (first i) (scale o x (second i))) (cx.short i h)
              (length-add o n (first i) (scale o x (second i)) (first_short i h) (omega (arith, length-scale o x (second i), second_short i h)))
              apart (omega (arith, few, small))
              (λ k q none.
              let one = or_false (ca.outside k) (cb.outside k || cx.outside k) none in
              let two = or_false (cb.outside k) (cx.outside k) one.1 in
              sym (cx.agree i k h q two.1)
              ∙ ap (λ u. o.plus u (o.times x (V i k))) (sym (first_there i k h q one.0 two.0))
              ∙ ap (λ v. o.plus (eval o (first i) (at k)) (o.times x v)) (sym (second_there i k h q one.0 two.0))
              ∙ sym (eval-line x i (at k))) (at j)
              ∙ eval-line x i (at j);
        }

  -- ---- how many columns are outside for all but one of the places

  module _ (p q : ℕ → List A) where
    abbrev contained : (xs : List A) → AllByRecursion (OnLine p q) xs → ℕ → ℕ
    contained [] all j = 0
    contained (x ∷ xs) all j = cond (all.0.outside j) 1 0 + contained xs all.1 j

    abbrev spread : (xs : List A) → AllByRecursion (OnLine p q) xs → List ℕ → ℕ
    spread [] all js = 0
    spread (x ∷ xs) all js = count all.0.outside js + spread xs all.1 js

    spread_more : (xs : List A) (all : AllByRecursion (OnLine p q) xs) (j : ℕ) (js : List ℕ) → spread xs all (j ∷ js) ≡ contained xs all j + spread xs all js
    spread_more [] all j js = omega arith
    spread_more (x ∷ xs) all j js = omega (arith, spread_more xs all.1 j js)

    spread_most : (xs : List A) (all : AllByRecursion (OnLine p q) xs) → spread xs all (range_with_len 0 end) ≤ length xs * e
    spread_most [] all = omega arith
    spread_most (x ∷ xs) all = omega (arith, all.0.few, spread_most xs all.1, suc-mul (length xs) e)

    -- columns that are outside for at least k of the places
    often : (xs : List A) (all : AllByRecursion (OnLine p q) xs) (k : ℕ) (js : List ℕ) → count (λ j. leb k (contained xs all j)) js * k ≤ spread xs all js
    often xs all k [] = omega arith
    often xs all k (j ∷ js) =
        let c = count (λ j. leb k (contained xs all j)) js in
        go (leb k (contained xs all j)) refl c (often xs all k js)
      where
        go : (b : Bool) → leb k (contained xs all j) ≡ b → (c : ℕ) → c * k ≤ spread xs all js → (cond b 1 0 + c) * k ≤ spread xs all (j ∷ js)
        go true is c rest = omega (arith, leb-true k (contained xs all j) is, rest, spread_more xs all j js, suc-mul c k)
        go false is c rest = omega (arith, rest, spread_more xs all j js)

    abbrev MeetsAt : ℕ → A → Type 0
    MeetsAt j x = (i : ℕ) → i < m → o.plus (U i j) (o.times x (V i j)) ≡ o.plus (eval o (p i) (at j)) (o.times x (eval o (q i) (at j)))

    one_free : {K : Type 0} (Q : A → Type 0) (j : ℕ) → j < end → (xs : List A) (all : AllByRecursion (OnLine p q) xs) → AllByRecursion Q xs → contained xs all j + 1 ≤ length xs → ((x : A) → Q x → MeetsAt j x → K) → K
    one_free Q j l [] all each few found = absurd (omega (arith, few))
    one_free {K} Q j l (x ∷ xs) all each few found = go (all.0.outside j) refl few (λ less. one_free Q j l xs all.1 each.1 less found)
      where
        go : (b : Bool) → all.0.outside j ≡ b → (cond b 1 0 + contained xs all.1 j) + 1 ≤ suc (length xs) → (contained xs all.1 j + 1 ≤ length xs → K) → K
        go true is less rest = rest (omega (arith, less))
        go false is less rest = found x each.0 (λ i h. all.0.meets i j h l is)

    two_free : {K : Type 0} (j : ℕ) → j < end → (xs : List A) (all : AllByRecursion (OnLine p q) xs) → AreDistinct xs → contained xs all j + 2 ≤ length xs → ((x y : A) → x ≢ y → MeetsAt j x → MeetsAt j y → K) → K
    two_free j l [] all distinct few found = absurd (omega (arith, few))
    two_free {K} j l (x ∷ xs) all distinct few found = go (all.0.outside j) refl few (λ less. two_free j l xs all.1 distinct.1 less found)
      where
        go : (b : Bool) → all.0.outside j ≡ b → (cond b 1 0 + contained xs all.1 j) + 2 ≤ suc (length xs) → (contained xs all.1 j + 2 ≤ length xs → K) → K
        go true is less rest = rest (omega (arith, less))
        go false is less rest = one_free (λ y. x ≢ y) j l xs all.1 distinct.0 (omega (arith, less)) (λ y differ meets. found x y differ (λ i h. all.0.meets i j h l is) meets)

    -- lines that meet at two places are the same
    same_line : (u v s t x y : A) → x ≢ y → o.plus u (o.times x v) ≡ o.plus s (o.times x t) → o.plus u (o.times y v) ≡ o.plus s (o.times y t) → (u ≡ s) × (v ≡ t)
    same_line u v s t x y differ one two =
        let w = minus o v t in
        let zero_w : w ≡ o.zero =
        no_divisors o r f (minus o x y) w (difference_nonzero o r f x y differ)
        (solve o r (x ∷ y ∷ v ∷ t ∷ u ∷ s ∷ []) ((var 0 ⊟ var 1) ⊠ (var 2 ⊟ var 3)) (((var 4 ⊞ var 0 ⊠ var 2) ⊟ (var 4 ⊞ var 1 ⊠ var 2)) ⊟ ((var 5 ⊞ var 0 ⊠ var 3) ⊟ (var 5 ⊞ var 1 ⊠ var 3))) refl
        ∙ ap (λ k. minus o (minus o k (o.plus u (o.times y v))) (minus o (o.plus s (o.times x t)) (o.plus s (o.times y t)))) one
        ∙ ap (λ k. minus o (minus o (o.plus s (o.times x t)) k) (minus o (o.plus s (o.times x t)) (o.plus s (o.times y t)))) two
        ∙ r.plus_neg (minus o (o.plus s (o.times x t)) (o.plus s (o.times y t)))) in
        let same_v : v ≡ t = same_from_difference o r v t zero_w in (
          solve o r (u ∷ x ∷ v ∷ []) (var 0) ((var 0 ⊞ var 1 ⊠ var 2) ⊟ var 1 ⊠ var 2) refl
              ∙ ap (λ k. minus o k (o.times x v)) one ∙ ap (λ k. minus o (o.plus s (o.times x t)) (o.times x k)) same_v
              ∙ solve o r (s ∷ x ∷ t ∷ []) ((var 0 ⊞ var 1 ⊠ var 2) ⊟ var 1 ⊠ var 2) (var 0) refl,
          same_v,
        )

    module _ (short_p : (i : ℕ) → i < m → length (p i) ≤ n) (short_q : (i : ℕ) → i < m → length (q i) ≤ n) where
      both_close : (xs : List A) → AllByRecursion (OnLine p q) xs → AreDistinct xs → e + 2 ≤ length xs → AreBothClose o at n end e m U V
      both_close xs all distinct many =
          let k = length xs - 1 in
          let out : ℕ → Bool = λ j. leb k (contained xs all j) in
          let c = count out (range_with_len 0 end) in
          let bound : c * k ≤ length xs * e = omega (arith, often xs all k (range_with_len 0 end), spread_most xs all) in
          let few : c ≤ e = elim (dec_lt e c) [
            | yes more ↦
                let less : (e + 1) * k ≤ c * k = mul-le-mul_right k (omega (arith, more)) in
                let whole : length xs ≡ suc k = omega (arith, many) in
                absurd (omega (arith, less, bound, add-mul e 1 k, ap (λ (l : ℕ). l * e) whole, suc-mul k e, mul_comm k e, many, whole))
            | no less ↦ omega (arith, less)
          ] in
          let there : (i j : ℕ) → i < m → j < end → out j ≡ false → (U i j ≡ eval o (p i) (at j)) × (V i j ≡ eval o (q i) (at j)) =
          λ i j h l is.
          let rare : contained xs all j + 2 ≤ length xs = omega (arith, leb-false k (contained xs all j) is, many) in
          two_free {K = (U i j ≡ eval o (p i) (at j)) × (V i j ≡ eval o (q i) (at j))} j l xs all distinct rare
          (λ x y differ one two. same_line (U i j) (V i j) (eval o (p i) (at j)) (eval o (q i) (at j)) x y differ (one i h) (two i h)) in
          record {
            outside = out;
            first_code = p;
            second_code = q;
            few = few;
            first_short = short_p;
            second_short = short_q;
            first_agree = λ i j h l is. (there i j h l is).0;
            second_agree = λ i j h l is. (there i j h l is).1;
          }

  pub line_few : (AreBothClose o at n end e m U V → ⊥) → (xs : List A) → AreDistinct xs → AllByRecursion Close xs → length xs ≤ e + 1
  line_few far [] distinct all = omega arith
  line_few far (a ∷ []) distinct all = omega arith
  line_few far (a ∷ b ∷ xs) distinct all =
      elim (dec_lt (e + 1) (length (a ∷ b ∷ xs))) [
        | yes more ↦
            let differ : a ≢ b = distinct.0.0 in
            let ca : Close a = all.0 in
            let cb : Close b = all.1.0 in
            let p = first a b differ ca cb in
            let q = second a b differ ca cb in
            absurd (far (both_close p q (first_short a b differ ca cb) (second_short a b differ ca cb) (a ∷ b ∷ xs)
            (all_of Close (OnLine p q) (on a b differ ca cb) (a ∷ b ∷ xs) all) distinct (omega (arith, more))))
        | no few ↦ omega (arith, few)
      ]

pub lines_few : {A : Type 0} (o : Ops A) → RingLaws o → FieldLaws o → LinesAreFew o
lines_few o r f = λ at n end e m first second apart small far xs distinct all. line_few o r f at n end e m first second apart small far xs distinct all
