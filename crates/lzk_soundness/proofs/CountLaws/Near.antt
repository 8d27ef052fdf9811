-- A table that is near codewords: by few weights u a column is shown at which it is wrong.
use Rattle.std.specs.Prelude.{◌≡◌, ℕ, ◌+◌, ◌-◌, ◌*◌, ◌^◌, ◌<◌, ◌≤◌, ◌||◌, ◌&&◌, Bool, true, false, cond, List, [], ◌∷◌, length}
use Rattle.std.specs.List.{range_with_len}
use Rattle.std.proofs.Common.{zero, suc, refl, sym, ap, ◌∙◌, arith, mul-le-mul_right}
use Rattle.std.proofs.lemmas.Bool.{false≢true}
use native.Mathlib.Decide.{ℕ_discrete}
use Rattle.lzk_field.specs.Coding.{Coding}
use Rattle.lzk_field.specs.Ring.{Ops, Laws}
use Rattle.lzk_field.specs.Sums.{sum_below, minus, entry}
use Rattle.lzk_field.proofs.RingBasics.{same_from_difference}
use Rattle.lzk_field.proofs.SumLaws.{sum-ext, sum-minus}
use Rattle.lzk_field.proofs.Solve.{var, ◌⊞◌, ◌⊟◌, ◌⊠◌, solve}
use Rattle.lzk_poly.specs.Extension.{extension}
use Rattle.lzk_poly.specs.Polynomial.{eval, add, scale}
use Rattle.lzk_poly.specs.Through.{add_below, through}
use Rattle.lzk_poly.proofs.Polynomials.{eval-add, eval-scale, length-add, length-scale}
use Rattle.lzk_poly.proofs.Through.{eval-add_below, eval-through, length-add_below_most, length-through}
use Rattle.lzk_soundness.specs.Chance.Draws.{count, draws_from}
use Rattle.lzk_soundness.specs.Chance.Few.{AreDistinct}
use Rattle.lzk_soundness.proofs.ChanceLaws.Sets.{count-none}
use Rattle.lzk_layout.specs.declared.params.Params.{Params}
use Rattle.lzk_layout.specs.Sizes.{AreBounded}
use Rattle.lzk_soundness.proofs.DrawsLaws.Deciding.{is_yes, from_yes, dec_same}
use Rattle.lzk_soundness.specs.Rows.Weights.{combination}
use Rattle.lzk_soundness.proofs.WeightsLaws.Weights.{combinations_few}
use Rattle.lzk_soundness.proofs.DrawsLaws.Looking.{is_none, none_from, some_from, look}
use Rattle.lzk_soundness.proofs.NearLaws.Agreeing.{or_false, count_or, same_but_few}
use Rattle.lzk_soundness.specs.Tables.Table.{place, IsNear}
use Rattle.lzk_soundness.proofs.TablesLaws.Far.{columns_apart}
use Rattle.lzk_soundness.proofs.CountLaws.Fronts.{some_pass, union_few}
use Rattle.lzk_soundness.proofs.CountLaws.Masks.{flip, flip_false}

pub and_left : (a b : Bool) → (a && b) ≡ true → a ≡ true
and_left true b e = refl
and_left false b e = absurd (false≢true e)

pub and_right : (a b : Bool) → (a && b) ≡ true → b ≡ true
and_right true b e = e
and_right false b e = absurd (false≢true e)

-- where no test passes, that of a column below the end does not
none_at : (test : ℕ → Bool) (a k : ℕ) → some_pass test (range_with_len a k) ≡ false → (j : ℕ) → a ≤ j → j < a + k → test j ≡ false
none_at test a zero none j l h = absurd (omega (arith, l, h))
none_at test a (suc k) none j l h = elim (native_eq j) [
  | yes same ↦ ap test same ∙ (or_false (test a) (some_pass test (range_with_len (a + 1) k)) none).0
  | no differ ↦ none_at test (a + 1) k (or_false (test a) (some_pass test (range_with_len (a + 1) k)) none).1 j (omega (arith, l, differ)) (omega (arith, h))
]
  where
    native_eq : (j : ℕ) → Dec (j ≡ a)
    native_eq j = ℕ_discrete j a

module _ {A : Type 0} (o : Ops A) (e : Coding A) (laws : Laws o e.size e.number e.element e.bytes) (p : Params) (b : AreBounded p) (table : ℕ → ℕ → A) (near : IsNear o e.element p table p.block) where
  abbrev n : ℕ
  n = p.nrow - 3

  abbrev at : ℕ → A
  at = place o e.element p table

  -- by how much row 0, and the rows from row 3 on, are not what the polynomials have
  abbrev first_gap : ℕ → A
  first_gap j = minus o (table 0 j) (eval o (near.code 0) (at j))

  abbrev gap : ℕ → ℕ → A
  gap j i = minus o (table (3 + i) j) (eval o (near.code (suc i)) (at j))

  -- the combination of the polynomials
  abbrev polynomials : List A → List A
  polynomials u = add o (near.code 0) (add_below o n (λ i. scale o (entry o u i) (near.code (suc i))))

  -- a column at which some row is wrong, and weights by which none seems to be
  abbrev hides : ℕ → List A → Bool
  hides j u = near.outside j && ((cond (is_none o (gap j) n (look o e laws (gap j) n)) false true) && is_yes (dec_same laws.numbers (combination o (first_gap j) (gap j) (entry o u) n) o.zero))

  abbrev pub hides_some : List A → Bool
  hides_some u = some_pass (λ j. hides j u) (range_with_len 0 p.mcol)

  few_at : (ds : List A) → AreDistinct ds → (j : ℕ) → count (hides j) (draws_from ds n) * length ds ≤ cond (near.outside j) 1 0 * length ds ^ n
  few_at ds distinct j = by_outside (near.outside j) refl
    where
      test : List A → Bool
      test u = is_yes (dec_same laws.numbers (combination o (first_gap j) (gap j) (entry o u) n) o.zero)

      never : (P : List A → Bool) → ((u : List A) → P u ≡ true → ⊥) → (K : ℕ) → count P (draws_from ds n) * length ds ≤ K
      never P no_one K = omega (arith, ap (λ (m : ℕ). m * length ds) (count-none P (draws_from ds n) no_one))

      by_outside : (x : Bool) → near.outside j ≡ x → count (hides j) (draws_from ds n) * length ds ≤ cond x 1 0 * length ds ^ n
      by_outside false is = never (hides j) (λ u won. false≢true (sym is ∙ and_left (near.outside j) _ won)) (cond false 1 0 * length ds ^ n)
      by_outside true is = by_found (is_none o (gap j) n (look o e laws (gap j) n)) refl
        where
          by_found : (x : Bool) → is_none o (gap j) n (look o e laws (gap j) n) ≡ x → count (hides j) (draws_from ds n) * length ds ≤ cond true 1 0 * length ds ^ n
          by_found true none = never (hides j) (λ u won. false≢true (sym (ap (λ (y : Bool). cond y false true) none) ∙ and_left _ _ (and_right (near.outside j) _ won))) (cond true 1 0 * length ds ^ n)
          by_found false some =
              let found = some_from o (gap j) n (look o e laws (gap j) n) some in
              let few : count (hides j) (draws_from ds n) * length ds ≤ length ds ^ n = combinations_few laws (first_gap j) (gap j) n found.0 (hides j) ds found.1.0 found.1.1
              (λ ws long won. from_yes (dec_same laws.numbers (combination o (first_gap j) (gap j) (entry o ws) n) o.zero) (and_right _ _ (and_right (near.outside j) _ won))) distinct in
              omega (arith, few)

  pub few_hide : (ds : List A) → AreDistinct ds → count hides_some (draws_from ds n) * length ds ≤ p.block * length ds ^ n
  few_hide ds distinct =
      let all = union_few hides near.outside (length ds) (length ds ^ n) (draws_from ds n) (range_with_len 0 p.mcol) (few_at ds distinct) in
      let most : count near.outside (range_with_len 0 p.mcol) * length ds ^ n ≤ p.block * length ds ^ n = mul-le-mul_right (length ds ^ n) near.few in
      omega (arith, all, most)

  eval-polynomials : (u : List A) (t : A) → eval o (polynomials u) t ≡ o.plus (eval o (near.code 0) t) (sum_below o n (λ i. o.times (entry o u i) (eval o (near.code (suc i)) t)))
  eval-polynomials u t =
      let f : ℕ → List A = λ i. scale o (entry o u i) (near.code (suc i)) in
      eval-add o laws.ring (near.code 0) (add_below o n f) t
      ∙ ap (o.plus (eval o (near.code 0) t)) (eval-add_below o laws.ring n f t
      ∙ sum-ext o laws.ring n (λ i. eval o (f i) t) (λ i. o.times (entry o u i) (eval o (near.code (suc i)) t)) (λ i h. eval-scale o laws.ring (entry o u i) (near.code (suc i)) t))

  polynomials_short : (u : List A) → length (polynomials u) ≤ p.block
  polynomials_short u =
      let f : ℕ → List A = λ i. scale o (entry o u i) (near.code (suc i)) in
      length-add o p.block (near.code 0) (add_below o n f) (near.short 0 (omega arith))
      (length-add_below_most o p.block n f (λ i h. omega (arith, length-scale o (entry o u i) (near.code (suc i)), near.short (suc i) (omega (arith, h)))))

  -- what the answer is to be at column j
  abbrev pub low_degree_there : List A → ℕ → A
  low_degree_there u j = o.plus (table 0 j) (sum_below o n (λ i. o.times (entry o u i) (table (3 + i) j)))

  module _ (u ldt : List A) (here : ℕ → Bool) (few : count (flip here) (range_with_len 0 p.mcol) ≤ p.block) (long : length ldt ≡ p.block)
      (passes : (j : ℕ) → j < p.mcol → here j ≡ true → extension o e.element ldt (p.dblock + j) ≡ low_degree_there u j) (good : hides_some u ≡ false) where
    ldt_is : (t : A) → eval o (through o e.element ldt) t ≡ eval o (polynomials u) t
    ldt_is =
        let all = range_with_len 0 p.mcol in
        let bad : ℕ → Bool = λ j. flip here j || near.outside j in
        same_but_few o at bad laws.ring laws.field p.block p.mcol (through o e.element ldt) (polynomials u) (omega (arith, length-through o e.element ldt, long)) (polynomials_short u) (columns_apart laws p table b)
        (omega (arith, count_or (flip here) near.outside all, few, near.few, b.mcol))
        (λ j h none.
        let both = or_false (flip here j) (near.outside j) none in
        eval-through o laws.ring e.element ldt (at j) ∙ passes j h (flip_false here j both.0)
        ∙ ap (λ x. o.plus x (sum_below o n (λ i. o.times (entry o u i) (table (3 + i) j)))) (near.agree 0 j (omega arith) h both.1)
        ∙ ap (o.plus (eval o (near.code 0) (at j))) (sum-ext o laws.ring n (λ i. o.times (entry o u i) (table (3 + i) j)) (λ i. o.times (entry o u i) (eval o (near.code (suc i)) (at j)))
        (λ i q. ap (o.times (entry o u i)) (near.agree (suc i) j (omega (arith, q)) h both.1)))
        ∙ sym (eval-polynomials u (at j)))

    -- the gaps' combination is 0 where the answer passes
    gaps_hide : (j : ℕ) → j < p.mcol → here j ≡ true → combination o (first_gap j) (gap j) (entry o u) n ≡ o.zero
    gaps_hide j h yes_here =
        let c : ℕ → A = λ i. eval o (near.code i) (at j) in
        let x = sum_below o n (λ i. o.times (entry o u i) (table (3 + i) j)) in
        let y = sum_below o n (λ i. o.times (entry o u i) (c (suc i))) in
        ap (o.plus (first_gap j))
        (sum-ext o laws.ring n (λ i. o.times (entry o u i) (gap j i)) (λ i. minus o (o.times (entry o u i) (table (3 + i) j)) (o.times (entry o u i) (c (suc i))))
        (λ i q. solve o laws.ring (entry o u i ∷ table (3 + i) j ∷ c (suc i) ∷ []) (var 0 ⊠ (var 1 ⊟ var 2)) (var 0 ⊠ var 1 ⊟ var 0 ⊠ var 2) refl)
        ∙ sum-minus o laws.ring n (λ i. o.times (entry o u i) (table (3 + i) j)) (λ i. o.times (entry o u i) (c (suc i))))
        ∙ solve o laws.ring (table 0 j ∷ c 0 ∷ x ∷ y ∷ []) ((var 0 ⊟ var 1) ⊞ (var 2 ⊟ var 3)) ((var 0 ⊞ var 2) ⊟ (var 1 ⊞ var 3)) refl
        ∙ ap (λ w. minus o w (o.plus (c 0) y)) (sym (passes j h yes_here) ∙ sym (eval-through o laws.ring e.element ldt (at j)) ∙ ldt_is (at j) ∙ eval-polynomials u (at j))
        ∙ laws.ring.plus_neg (o.plus (c 0) y)

    -- so the rows from row 3 on are the polynomials' there
    pub clean : (j : ℕ) → j < p.mcol → here j ≡ true → (i : ℕ) → i < n → table (3 + i) j ≡ eval o (near.code (suc i)) (at j)
    clean j h yes_here i q = by_outside (near.outside j) refl (none_at (λ j. hides j u) 0 p.mcol good j (omega arith) (omega (arith, h)))
      where
        by_outside : (x : Bool) → near.outside j ≡ x → hides j u ≡ false → table (3 + i) j ≡ eval o (near.code (suc i)) (at j)
        by_outside false is none = near.agree (suc i) j (omega (arith, q)) h is
        by_outside true is none = by_found (is_none o (gap j) n (look o e laws (gap j) n)) refl
          where
            yes_zero : is_yes (dec_same laws.numbers (combination o (first_gap j) (gap j) (entry o u) n) o.zero) ≡ true
            yes_zero = go (dec_same laws.numbers (combination o (first_gap j) (gap j) (entry o u) n) o.zero)
              where
                go : (d : Dec (combination o (first_gap j) (gap j) (entry o u) n ≡ o.zero)) → is_yes d ≡ true
                go (yes e) = refl
                go (no m) = absurd (m (gaps_hide j h yes_here))

            all_true : (x y z : Bool) → x ≡ true → y ≡ true → z ≡ true → (x && (y && z)) ≡ true
            all_true true true true p q r = refl
            all_true false y z p q r = absurd (false≢true p)
            all_true true false z p q r = absurd (false≢true q)
            all_true true true false p q r = absurd (false≢true r)

            by_found : (x : Bool) → is_none o (gap j) n (look o e laws (gap j) n) ≡ x → table (3 + i) j ≡ eval o (near.code (suc i)) (at j)
            by_found true all = same_from_difference o laws.ring (table (3 + i) j) (eval o (near.code (suc i)) (at j)) (none_from o (gap j) n (look o e laws (gap j) n) all i q)
            by_found false some = absurd (false≢true (sym none ∙ all_true (near.outside j) _ _ is (ap (λ (y : Bool). cond y false true) some) yes_zero))
