-- Forms of sums and multiples, and what the coefficients are.
use Rattle.std.specs.Prelude.{◌≡◌, ℕ, ◌<◌, ◌==◌, List, [], ◌∷◌, length, true, false, Bool, cond, slice_index_or}
use Rattle.std.proofs.Common.{refl, sym, ap, ◌∙◌, arith, inl, inr}
use Rattle.std.proofs.lemmas.Bool.{cases_eq, eq-eqb, ne_eqb}
use Rattle.std.proofs.lemmas.List.{get_or-replicate, get_or-set_same, get_or-set_other, length-replicate, length-set}
use Rattle.lzk_field.specs.Ring.{Ops, RingLaws}
use Rattle.lzk_field.specs.Sums.{sum_below, minus}
use Rattle.lzk_field.proofs.RingBasics.{zero_plus, one_times, zero_times, times_zero}
use Rattle.lzk_field.proofs.Solve.{var, opp, unit as solo, ◌⊞◌, ◌⊟◌, ◌⊠◌, solve}
use Rattle.lzk_field.proofs.SumLaws.{sum-ext, sum-zero, sum-plus, sum-times, sum-single}
use Rattle.lzk_accept.specs.Forms.{IsForm, IsAffine}
use Rattle.lzk_accept.specs.Residuals.{unit, zeros}

module _ {A : Type 0} (o : Ops A) (r : RingLaws o) (n : ℕ) where
  open o use {plus, times, neg}

  abbrev pub entry : List A → ℕ → A
  entry w j = slice_index_or w j o.zero

  abbrev parts : (ℕ → A) → List A → A
  parts c w = sum_below o n (λ j. times (c j) (entry w j))

  pub form-constant : (c : A) → IsForm o n (λ w. c) c (λ j. o.zero)
  form-constant c = record {
    is = λ w e. sym (ap (plus c) (sum-ext o r n (λ j. times o.zero (entry w j)) (λ j. o.zero) (λ j l. zero_times o r (entry w j)) ∙ sum-zero o r n) ∙ r.plus_zero c);
  }

  pub form-entry : (j : ℕ) → j < n → IsForm o n (λ w. entry w j) o.zero (λ i. cond (i == j) o.one o.zero)
  form-entry j l = record {
    is = λ w e. sym (
        zero_plus o r _
        ∙ sum-ext o r n (λ i. times (cond (i == j) o.one o.zero) (entry w i)) (λ i. cond (i == j) (entry w i) o.zero) (λ i k. alone (i == j) (entry w i))
        ∙ sum-single o r n j (entry w) l
        );
  }
    where
      alone : (p : Bool) (x : A) → times (cond p o.one o.zero) x ≡ cond p x o.zero
      alone true x = one_times o r x
      alone false x = zero_times o r x

  pub form-plus : (f h : List A → A) (b d : A) (u v : ℕ → A) → IsForm o n f b u → IsForm o n h d v → IsForm o n (λ w. plus (f w) (h w)) (plus b d) (λ j. plus (u j) (v j))
  form-plus f h b d u v p q = record {
    is = λ w e.
        ap (λ x. plus x (h w)) (p.is w e) ∙ ap (plus (plus b (parts u w))) (q.is w e)
        ∙ solve o r (b ∷ d ∷ parts u w ∷ parts v w ∷ []) ((var 0 ⊞ var 2) ⊞ (var 1 ⊞ var 3)) ((var 0 ⊞ var 1) ⊞ (var 2 ⊞ var 3)) refl
        ∙ ap (plus (plus b d)) (sym (sum-plus o r n (λ j. times (u j) (entry w j)) (λ j. times (v j) (entry w j)))
        ∙ sum-ext o r n (λ j. plus (times (u j) (entry w j)) (times (v j) (entry w j))) (λ j. times (plus (u j) (v j)) (entry w j))
        (λ j l. solve o r (u j ∷ v j ∷ entry w j ∷ []) (var 0 ⊠ var 2 ⊞ var 1 ⊠ var 2) ((var 0 ⊞ var 1) ⊠ var 2) refl));
  }

  pub form-times : (c : A) (f : List A → A) (b : A) (u : ℕ → A) → IsForm o n f b u → IsForm o n (λ w. times c (f w)) (times c b) (λ j. times c (u j))
  form-times c f b u p = record {
    is = λ w e.
        ap (times c) (p.is w e) ∙ r.times_plus c b (parts u w)
        ∙ ap (plus (times c b)) (sym (sum-times o r n c (λ j. times (u j) (entry w j)))
        ∙ sum-ext o r n (λ j. times c (times (u j) (entry w j))) (λ j. times (times c (u j)) (entry w j)) (λ j l. sym (r.times_assoc c (u j) (entry w j))));
  }

  pub form-same : (f h : List A → A) (b : A) (u : ℕ → A) → ((w : List A) → length w ≡ n → h w ≡ f w) → IsForm o n f b u → IsForm o n h b u
  form-same f h b u e p = record { is = λ w l. e w l ∙ p.is w l }

  -- what the constant and the coefficients are
  pub constant-is : (f : List A → A) (b : A) (u : ℕ → A) → IsForm o n f b u → b ≡ f (zeros o n)
  constant-is f b u p = sym (
      p.is (zeros o n) (length-replicate n o.zero)
      ∙ ap (plus b) (sum-ext o r n (λ j. times (u j) (entry (zeros o n) j)) (λ j. o.zero) (λ j l. ap (times (u j)) (get_or-replicate n j o.zero o.zero l) ∙ times_zero o r (u j)) ∙ sum-zero o r n)
      ∙ r.plus_zero b
      )

  pub coefficient-is : (f : List A → A) (b : A) (u : ℕ → A) (j : ℕ) → j < n → IsForm o n f b u → u j ≡ minus o (f (unit o n j)) (f (zeros o n))
  coefficient-is f b u j l p =
      let at : f (unit o n j) ≡ plus b (u j) =
      p.is (unit o n j) (length-set (zeros o n) j o.one ∙ length-replicate n o.zero)
      ∙ ap (plus b) (sum-ext o r n (λ i. times (u i) (entry (unit o n j) i)) (λ i. cond (i == j) (u i) o.zero) (λ i k. place i k) ∙ sum-single o r n j u l) in
      solve o r (b ∷ u j ∷ []) (var 1) ((var 0 ⊞ var 1) ⊟ var 0) refl
      ∙ sym (ap (λ x. minus o x (f (zeros o n))) at ∙ ap (minus o (plus b (u j))) (sym (constant-is f b u p)))
    where
      place : (i : ℕ) → i < n → times (u i) (entry (unit o n j) i) ≡ cond (i == j) (u i) o.zero
      place i k = elim (cases_eq i j) [
        | inl s ↦
            let fits : i < length (zeros o n) = omega (arith, length-replicate n o.zero) in
            ap (λ x. times (u i) (entry (unit o n x) i)) (sym s) ∙ ap (times (u i)) (get_or-set_same (zeros o n) i o.one o.zero fits) ∙ r.times_one (u i) ∙ sym (ap (λ c. cond c (u i) o.zero) (eq-eqb i j s))
        | inr d ↦
            ap (times (u i)) (get_or-set_other (zeros o n) j i o.one o.zero d ∙ get_or-replicate n i o.zero o.zero k) ∙ times_zero o r (u i) ∙ sym (ap (λ c. cond c (u i) o.zero) (ne_eqb i j d))
      ]

  pub affine-constant : (c : A) → IsAffine o n (λ w. c)
  affine-constant c = record { constant = c; coefficient = λ j. o.zero; form = form-constant c }

  pub affine-entry : (j : ℕ) → j < n → IsAffine o n (λ w. entry w j)
  affine-entry j l = record { constant = o.zero; coefficient = λ i. cond (i == j) o.one o.zero; form = form-entry j l }

  pub affine-plus : (f h : List A → A) → IsAffine o n f → IsAffine o n h → IsAffine o n (λ w. plus (f w) (h w))
  affine-plus f h p q = record { constant = plus p.constant q.constant; coefficient = λ j. plus (p.coefficient j) (q.coefficient j); form = form-plus f h p.constant q.constant p.coefficient q.coefficient p.form q.form }

  pub affine-times : (c : A) (f : List A → A) → IsAffine o n f → IsAffine o n (λ w. times c (f w))
  affine-times c f p = record { constant = times c p.constant; coefficient = λ j. times c (p.coefficient j); form = form-times c f p.constant p.coefficient p.form }

  pub affine-same : (f h : List A → A) → ((w : List A) → length w ≡ n → h w ≡ f w) → IsAffine o n f → IsAffine o n h
  affine-same f h e p = record { constant = p.constant; coefficient = p.coefficient; form = form-same f h p.constant p.coefficient e p.form }

  pub affine-minus : (f h : List A → A) → IsAffine o n f → IsAffine o n h → IsAffine o n (λ w. minus o (f w) (h w))
  affine-minus f h p q =
      affine-same (λ w. plus (f w) (times (neg o.one) (h w))) (λ w. minus o (f w) (h w))
      (λ w e. solve o r (f w ∷ h w ∷ []) (var 0 ⊟ var 1) (var 0 ⊞ opp solo ⊠ var 1) refl)
      (affine-plus f (λ w. times (neg o.one) (h w)) p (affine-times (neg o.one) h q))
