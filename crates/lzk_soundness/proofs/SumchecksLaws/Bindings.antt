-- A table that is 0 when all its variables are bound, by a point that hides nothing of it, is 0.
use Rattle.std.specs.Prelude.{◌≡◌, ◌≢◌, ℕ, ◌≤◌, ◌+◌, ◌*◌, ◌^◌, List, [], ◌∷◌, ◌++◌, length, take}
use Rattle.std.proofs.Common.{zero, suc, refl, sym, ap, ◌∙◌, arith, subst, take_all}
use Rattle.std.proofs.lemmas.List.{get_or_past, take_more}
use Rattle.std.proofs.Math.Nat.{pow-succ'}
use native.Mathlib.Decide.{ℕ_discrete}
use Rattle.lzk_field.specs.Ring.{Ops, RingLaws, NumberLaws}
use Rattle.lzk_field.specs.Sums.{entry, minus}
use Rattle.lzk_field.proofs.Solve.{var, null, unit, ◌⊞◌, ◌⊟◌, ◌⊠◌, solve}
use Rattle.lzk_mle.specs.Multilinear.{tilde}
use Rattle.lzk_mle.proofs.TableLaws.{extension, extension-bound, extension-one, tilde-is}
use Rattle.lzk_sumcheck.specs.States.{bound}
use Rattle.lzk_soundness.specs.Sumchecks.Bad.{bound_by, AreZero, HidesNothing}

-- elements that cannot differ are the same
pub stable : {A : Type 0} {o : Ops A} {size : ℕ} {number_of : A → ℕ} {element : ℕ → A} {bytes : ℕ} (laws : NumberLaws o size number_of element bytes) (x y : A) → (x ≢ y → ⊥) → x ≡ y
stable {number_of = number_of} {element = element} laws x y never = elim (ℕ_discrete (number_of x) (number_of y)) [
  | yes e ↦ sym (laws.element_number x) ∙ ap element e ∙ laws.element_number y
  | no n ↦ absurd (never (λ e. n (ap number_of e)))
]

module _ {A : Type 0} (o : Ops A) (r : RingLaws o) where
  -- an extension is the table with all variables bound
  extension-is : (xs : List A) (f : ℕ → A) → extension o (2 ^ length xs) f xs ≡ bound_by o xs f 0
  extension-is [] f = extension-one o r f
  extension-is (x ∷ xs) f =
      let twice : 2 ^ length (x ∷ xs) ≡ 2 * 2 ^ length xs = pow-succ' 2 (length xs) in
      ap (λ (k : ℕ). extension o k f (x ∷ xs)) twice ∙ extension-bound o r (2 ^ length xs) f x xs ∙ extension-is xs (bound o x f)

  pub tilde-bound : (values xs : List A) → length values ≤ 2 ^ length xs → tilde o values xs ≡ bound_by o xs (entry o values) 0
  tilde-bound values xs fits = tilde-is o r (2 ^ length xs) values xs fits ∙ extension-is xs (entry o values)

  bound-zero : (x a b : A) → a ≡ o.zero → b ≡ o.zero → o.plus (o.times (minus o o.one x) a) (o.times x b) ≡ o.zero
  bound-zero x a b p q =
      ap (λ w. o.plus (o.times (minus o o.one x) w) (o.times x b)) p ∙ ap (λ w. o.plus (o.times (minus o o.one x) o.zero) (o.times x w)) q
      ∙ solve o r (x ∷ []) ((unit ⊟ var 0) ⊠ null ⊞ var 0 ⊠ null) null refl

  -- past the first entry there is nothing
  past : (xs : List A) (f : ℕ → A) → ((i : ℕ) → 2 ^ length xs ≤ i → f i ≡ o.zero) → (i : ℕ) → 1 ≤ i → bound_by o xs f i ≡ o.zero
  past [] f none i h = none i (omega (arith, h))
  past (x ∷ xs) f none i h =
      past xs (bound o x f)
      (λ j l.
      let twice : 2 ^ length (x ∷ xs) ≡ 2 * 2 ^ length xs = pow-succ' 2 (length xs) in
      bound-zero x (f (2 * j)) (f (2 * j + 1)) (none (2 * j) (omega (arith, twice, l))) (none (2 * j + 1) (omega (arith, twice, l)))) i h

  all-bound : (values xs : List A) → length values ≤ 2 ^ length xs → tilde o values xs ≡ o.zero → AreZero o (bound_by o xs (entry o values))
  all-bound values xs fits none zero = sym (tilde-bound values xs fits) ∙ none
  all-bound values xs fits none (suc i) = past xs (entry o values) (λ j l. get_or_past values j o.zero (omega (arith, fits, l))) (suc i) (omega arith)

  module _ {size : ℕ} {number_of : A → ℕ} {element : ℕ → A} {bytes : ℕ} (laws : NumberLaws o size number_of element bytes) (values xs : List A) (shows : HidesNothing o values xs) where
    back : (d k : ℕ) → k + d ≡ length xs → AreZero o (bound_by o xs (entry o values)) → AreZero o (bound_by o (take k xs) (entry o values))
    back zero k e h = subst (λ ys. AreZero o (bound_by o ys (entry o values))) (sym (take_all k xs (omega (arith, e)))) h
    back (suc d) k e h =
        let more : take (k + 1) xs ≡ take k xs ++ entry o xs k ∷ [] = take_more xs k o.zero (omega (arith, e)) in
        let next : AreZero o (bound_by o (take k xs ++ entry o xs k ∷ []) (entry o values)) =
        subst (λ ys. AreZero o (bound_by o ys (entry o values))) more (back d (k + 1) (omega (arith, e)) h) in
        λ i. stable laws (bound_by o (take k xs) (entry o values) i) o.zero (λ differ. shows k (omega (arith, e)) (λ all. differ (all i), next))

    -- a table whose extension is 0 at the point is 0
    pub shown : length values ≤ 2 ^ length xs → tilde o values xs ≡ o.zero → AreZero o (entry o values)
    shown fits none = back (length xs) 0 (omega arith) (all-bound values xs fits none)
