-- The rounds of a layer, as sums over the pairs of wires below.
use Rattle.std.specs.Prelude.{◌≡◌, ℕ, ◌<◌, ◌≤◌, ◌+◌, ◌*◌, ◌-◌, ◌^◌, nat_lt, List, [], ◌∷◌, ◌++◌, length, true, false, cond}
use Rattle.std.proofs.Common.{suc, refl, sym, ap, ◌∙◌, arith, append_assoc}
use Rattle.std.proofs.lemmas.Bool.{lt-ltb, le-ltb}
use Rattle.std.proofs.lemmas.List.{get_or_past, length-append}
use native.Mathlib.Decide.{dec_lt}
use Rattle.lzk_field.specs.Ring.{Ops, RingLaws, Laws}
use Rattle.lzk_field.specs.Sums.{sum_below, entry}
use Rattle.lzk_field.proofs.RingBasics.{times_zero, zero_times}
use Rattle.lzk_field.proofs.Solve.{var, ◌⊠◌, solve}
use Rattle.lzk_field.proofs.SumLaws.{sum-ext, sum-zero, sum-times, sum-swap, sum-tail}
use Rattle.lzk_mle.specs.Multilinear.{eq, tilde}
use Rattle.lzk_mle.proofs.TableLaws.{extension, bound, extension-same, tilde-is}
use Rattle.lzk_circuit.specs.Sums.{sum_pairs}
use Rattle.lzk_circuit.specs.Wires.{wire}
use Rattle.lzk_sumcheck.specs.Rounds.{Layered, every_other, bound_coefficient, at, sum_fills, claim, round, IsSumcheck, IsFitting}
use Rattle.lzk_sumcheck.specs.States.{State, bind_state, after, total}
use Rattle.lzk_sumcheck.proofs.Binding.{extension2, state_at, sizes-twice, sum_fills-ext, bound-total, bound-last, after-append, sizes-after, total-bind}
use Rattle.lzk_sumcheck.proofs.Curves.{IsCurve, curve-sum, curve-bound}

module _ {A : Type 0} (o : Ops A) where
  open o use {plus, times}

  -- a function that is 0 from n on
  abbrev pub cut : ℕ → (ℕ → A) → ℕ → A
  cut n f i = cond (nat_lt i n) (f i) o.zero

  -- the coefficient of a pair, over all weights
  abbrev pub weighted : Layered A → ℕ → ℕ → A
  weighted s a b = sum_below o (length s.weights) (λ g. times (entry o s.weights g) (s.coefficient g a b))

  abbrev pub state_of : Layered A → State A
  state_of s = record {
    n = 2 ^ s.bits;
    m = 2 ^ s.bits;
    q = λ a b. cut (length s.values) (λ c. cut (length s.values) (weighted s c) b) a;
    f = entry o s.values;
    h = entry o s.values;
  }

module _ {A : Type 0} (o : Ops A) (r : RingLaws o) where
  open o use {plus, times, neg}

  pub cut-below : (n : ℕ) (f : ℕ → A) (i : ℕ) → i < n → cut o n f i ≡ f i
  cut-below n f i l = ap (λ b. cond b (f i) o.zero) (lt-ltb i n l)

  pub cut-above : (n : ℕ) (f : ℕ → A) (i : ℕ) → n ≤ i → cut o n f i ≡ o.zero
  cut-above n f i l = ap (λ b. cond b (f i) o.zero) (le-ltb i n l)

  extension-cut : (m n : ℕ) (f : ℕ → A) (xs : List A) → n ≤ m → extension o n f xs ≡ extension o m (cut o n f) xs
  extension-cut m n f xs l =
      extension-same o r n f (cut o n f) xs (λ i k. sym (cut-below n f i k))
      ∙ sym (sum-tail o r n m (λ i. times (eq o i xs) (cut o n f i)) l (λ i p q. ap (times (eq o i xs)) (cut-above n f i p) ∙ times_zero o r _))

  extension-zero : (m : ℕ) (f : ℕ → A) (xs : List A) → ((i : ℕ) → f i ≡ o.zero) → extension o m f xs ≡ o.zero
  extension-zero m f xs e = sum-ext o r m (λ i. times (eq o i xs) (f i)) (λ i. o.zero) (λ i l. ap (times (eq o i xs)) (e i) ∙ times_zero o r _) ∙ sum-zero o r m

  extension2-cut : (m n : ℕ) (q : ℕ → ℕ → A) (xs ys : List A) → n ≤ m → extension2 o n n q xs ys ≡ extension2 o m m (λ a b. cut o n (λ c. cut o n (q c) b) a) xs ys
  extension2-cut m n q xs ys l =
      extension-same o r n (λ a. extension o n (q a) ys) (λ a. extension o m (cut o n (q a)) ys) xs (λ a k. extension-cut m n (q a) ys l)
      ∙ extension-cut m n (λ a. extension o m (cut o n (q a)) ys) xs l
      ∙ extension-same o r m (cut o n (λ a. extension o m (cut o n (q a)) ys)) (λ a. extension o m (λ b. cut o n (λ c. cut o n (q c) b) a) ys) xs (λ a k. inner a (dec_lt a n))
    where
      inner : (a : ℕ) → Dec (a < n) → cut o n (λ a. extension o m (cut o n (q a)) ys) a ≡ extension o m (λ b. cut o n (λ c. cut o n (q c) b) a) ys
      inner a (yes p) = cut-below n (λ a. extension o m (cut o n (q a)) ys) a p ∙ extension-same o r m (cut o n (q a)) (λ b. cut o n (λ c. cut o n (q c) b) a) ys (λ b k. sym (cut-below n (λ c. cut o n (q c) b) a p))
      inner a (no p) =
          let np : n ≤ a = omega arith in
          cut-above n (λ a. extension o m (cut o n (q a)) ys) a np ∙ sym (extension-zero m (λ b. cut o n (λ c. cut o n (q c) b) a) ys (λ b. cut-above n (λ c. cut o n (q c) b) a np))

  -- a sum over g is taken first or last
  sum-last : (k n : ℕ) (f : ℕ → ℕ → ℕ → A) → sum_below o k (λ g. sum_pairs o n (f g)) ≡ sum_pairs o n (λ a b. sum_below o k (λ g. f g a b))
  sum-last k n f =
      sum-swap o r k n (λ g a. sum_below o n (f g a))
      ∙ sum-ext o r n (λ a. sum_below o k (λ g. sum_below o n (f g a))) (λ a. sum_below o n (λ b. sum_below o k (λ g. f g a b))) (λ a l. sum-swap o r k n (λ g b. f g a b))

  sum_pairs-same : (n : ℕ) (f h : ℕ → ℕ → A) → ((a b : ℕ) → a < n → b < n → f a b ≡ h a b) → sum_pairs o n f ≡ sum_pairs o n h
  sum_pairs-same n f h e = sum-ext o r n (λ a. sum_below o n (f a)) (λ a. sum_below o n (h a)) (λ a l. sum-ext o r n (f a) (h a) (λ b k. e a b l k))

  sum_pairs-times : (n : ℕ) (c : A) (f : ℕ → ℕ → A) → sum_pairs o n (λ a b. times c (f a b)) ≡ times c (sum_pairs o n f)
  sum_pairs-times n c f = sum-ext o r n (λ a. sum_below o n (λ b. times c (f a b))) (λ a. times c (sum_below o n (f a))) (λ a l. sum-times o r n c (f a)) ∙ sum-times o r n c (λ a. sum_below o n (f a))

  bound_coefficient-is : (s : Layered A) (xs ys : List A) → bound_coefficient o s.coefficient s.weights (length s.values) xs ys ≡ extension2 o (length s.values) (length s.values) (weighted o s) xs ys
  bound_coefficient-is s xs ys =
      let n = length s.values in
      let k = length s.weights in
      let w = entry o s.weights in
      let c = s.coefficient in
      let x : ℕ → A = λ a. eq o a xs in
      let y : ℕ → A = λ b. eq o b ys in
      sum-last k n (λ g a b. times (times (times (w g) (c g a b)) (x a)) (y b))
      ∙ sum_pairs-same n (λ a b. sum_below o k (λ g. times (times (times (w g) (c g a b)) (x a)) (y b))) (λ a b. times (x a) (times (y b) (weighted o s a b)))
      (λ a b l m. sum-ext o r k (λ g. times (times (times (w g) (c g a b)) (x a)) (y b)) (λ g. times (times (x a) (y b)) (times (w g) (c g a b)))
      (λ g i. solve o r (w g ∷ c g a b ∷ x a ∷ y b ∷ []) (((var 0 ⊠ var 1) ⊠ var 2) ⊠ var 3) ((var 2 ⊠ var 3) ⊠ (var 0 ⊠ var 1)) refl)
      ∙ sum-times o r k (times (x a) (y b)) (λ g. times (w g) (c g a b)) ∙ r.times_assoc (x a) (y b) (weighted o s a b))
      ∙ sum-ext o r n (λ a. sum_below o n (λ b. times (x a) (times (y b) (weighted o s a b)))) (λ a. times (x a) (extension o n (weighted o s a) ys)) (λ a l. sum-times o r n (x a) (λ b. times (y b) (weighted o s a b)))

  at-is : (s : Layered A) (xs : List A) → length s.values ≤ 2 ^ s.bits → at o s xs ≡ state_at o (state_of o s) xs
  at-is s xs l =
      let xa = every_other true xs in
      let xb = every_other false xs in
      let m = 2 ^ s.bits in
      let n = length s.values in
      ap (λ w. times (times w (tilde o s.values xa)) (tilde o s.values xb)) (bound_coefficient-is s xa xb ∙ extension2-cut m n (weighted o s) xa xb l)
      ∙ ap (λ w. times (times (extension2 o m m (state_of o s).q xa xb) w) (tilde o s.values xb)) (tilde-is o r m s.values xa l)
      ∙ ap (times (times (extension2 o m m (state_of o s).q xa xb) (extension o m (entry o s.values) xa))) (tilde-is o r m s.values xb l)

  -- the sum over all pairs is the weighted sum of the wires
  total-is : (s : Layered A) → length s.values ≤ 2 ^ s.bits
      → total o (state_of o s) ≡ sum_below o (length s.weights) (λ g. times (entry o s.weights g) (wire o s.coefficient s.values g))
  unfolding wire
  total-is s l =
      let n = length s.values in
      let m = 2 ^ s.bits in
      let k = length s.weights in
      let w = entry o s.weights in
      let v = entry o s.values in
      let c = s.coefficient in
      let q = (state_of o s).q in
      let past : (i : ℕ) → n ≤ i → v i ≡ o.zero = λ i p. get_or_past s.values i o.zero p in
      sum-tail o r n m (λ a. sum_below o m (λ b. times (times (q a b) (v a)) (v b))) l
      (λ a p u. sum-ext o r m (λ b. times (times (q a b) (v a)) (v b)) (λ b. o.zero)
      (λ b j. ap (λ z. times (times (q a b) z) (v b)) (past a p) ∙ ap (λ z. times z (v b)) (times_zero o r (q a b)) ∙ zero_times o r (v b)) ∙ sum-zero o r m)
      ∙ sum-ext o r n (λ a. sum_below o m (λ b. times (times (q a b) (v a)) (v b))) (λ a. sum_below o n (λ b. times (times (q a b) (v a)) (v b)))
      (λ a i. sum-tail o r n m (λ b. times (times (q a b) (v a)) (v b)) l (λ b p u. ap (times (times (q a b) (v a))) (past b p) ∙ times_zero o r _))
      ∙ sum_pairs-same n (λ a b. times (times (q a b) (v a)) (v b)) (λ a b. sum_below o k (λ g. times (w g) (times (times (c g a b) (v a)) (v b))))
      (λ a b i j. ap (λ z. times (times z (v a)) (v b)) (cut-below n (λ d. cut o n (weighted o s d) b) a i ∙ cut-below n (weighted o s a) b j)
      ∙ solve o r (weighted o s a b ∷ v a ∷ v b ∷ []) ((var 0 ⊠ var 1) ⊠ var 2) ((var 1 ⊠ var 2) ⊠ var 0) refl
      ∙ sym (sum-times o r k (times (v a) (v b)) (λ g. times (w g) (c g a b)))
      ∙ sum-ext o r k (λ g. times (times (v a) (v b)) (times (w g) (c g a b))) (λ g. times (w g) (times (times (c g a b) (v a)) (v b)))
      (λ g d. solve o r (w g ∷ c g a b ∷ v a ∷ v b ∷ []) ((var 2 ⊠ var 3) ⊠ (var 0 ⊠ var 1)) (var 0 ⊠ ((var 1 ⊠ var 2) ⊠ var 3)) refl))
      ∙ sym (sum-last k n (λ g a b. times (w g) (times (times (c g a b) (v a)) (v b))))
      ∙ sum-ext o r k (λ g. sum_pairs o n (λ a b. times (w g) (times (times (c g a b) (v a)) (v b)))) (λ g. times (w g) (wire o c s.values g)) (λ g d. sum_pairs-times n (w g) (λ a b. times (times (c g a b) (v a)) (v b)))

  -- what is left to sum when some variables are bound
  pub claim-is : (s : Layered A) (bs : List A) → length s.values ≤ 2 ^ s.bits → length bs ≤ 2 * s.bits → claim o s bs ≡ total o (after o bs (state_of o s))
  claim-is s bs l b =
      let v = 2 * s.bits - length bs in
      sum_fills-ext o r v (λ z. at o s (bs ++ z)) (λ z. state_at o (state_of o s) (bs ++ z)) (λ z. at-is s (bs ++ z) l)
      ∙ bound-total o r bs v (2 * s.bits) (state_of o s) (omega arith) (sizes-twice s.bits)

  pub round-is : (s : Layered A) (bs : List A) (t : A) → length s.values ≤ 2 ^ s.bits → length bs < 2 * s.bits → round o s bs t ≡ total o (bind_state o t (after o bs (state_of o s)))
  round-is s bs t l b = claim-is s (bs ++ t ∷ []) l (omega (arith, length-append bs (t ∷ []))) ∙ ap (total o) (after-append o r bs t (state_of o s))

  -- what is left of a layer's coefficients when all variables are bound
  pub bound-is : (s : Layered A) (bs : List A) → length s.values ≤ 2 ^ s.bits → length bs ≡ 2 * s.bits
      → (after o bs (state_of o s)).q 0 0 ≡ bound_coefficient o s.coefficient s.weights (length s.values) (every_other true bs) (every_other false bs)
  bound-is s bs l e =
      let xa = every_other true bs in
      let xb = every_other false bs in
      bound-last o r bs (2 * s.bits) (state_of o s) (sym e) (sizes-twice s.bits)
      ∙ sym (bound_coefficient-is s xa xb ∙ extension2-cut (2 ^ s.bits) (length s.values) (weighted o s) xa xb l)

  curve-total : (half : ℕ) (s : State A) → s.n ≡ 2 * half → IsCurve o (λ t. total o (bind_state o t s))
  curve-total half s e =
      let p : ℕ → A → A = λ i t. sum_below o s.m (λ j. times (times (bound o t (λ a. s.q a j) i) (bound o t s.f i)) (s.h j)) in
      let c = curve-sum o r half p (λ i. curve-sum o r s.m (λ j t. times (times (bound o t (λ a. s.q a j) i) (bound o t s.f i)) (s.h j))
      (λ j. curve-bound o r (s.q (2 * i) j) (s.q (2 * i + 1) j) (s.f (2 * i)) (s.f (2 * i + 1)) (s.h j))) in
      record { c0 = c.c0; c1 = c.c1; c2 = c.c2; is = λ t. total-bind o r half s t e ∙ c.is t }

  pub sumcheck : (element : ℕ → A) (s : Layered A) → element 0 ≡ o.zero → element 1 ≡ o.one → length s.values ≤ 2 ^ s.bits → IsSumcheck o element s
  sumcheck element s z u l = record {
    first = claim-is s [] l (omega arith) ∙ total-is s l;
    next = λ bs b. both bs b;
    curve = λ bs b.
        let st = after o bs (state_of o s) in
        let sizes = sizes-after o r bs (suc (2 * s.bits - length bs - 1)) (2 * s.bits) (state_of o s) (omega arith) (sizes-twice s.bits) in
        let c = curve-total sizes.0 st sizes.1.0 in
        (c.c0 ∷ c.c1 ∷ c.c2 ∷ [], (refl, λ t. round-is s bs t l b ∙ c.is t));
    last = λ bs b.
        let none : 2 * s.bits - length bs ≡ 0 = omega arith in
        ap (λ v. sum_fills o v (λ y. at o s (bs ++ y))) none ∙ ap (at o s) (append_nil bs);
  }
    where
      append_nil : (bs : List A) → bs ++ [] ≡ bs
      append_nil [] = refl
      append_nil (x ∷ bs) = ap (λ ys. x ∷ ys) (append_nil bs)

      both : (bs : List A) → length bs < 2 * s.bits → plus (round o s bs (element 0)) (round o s bs (element 1)) ≡ claim o s bs
      both bs b =
          let v = 2 * s.bits - length bs - 1 in
          let more : 2 * s.bits - length bs ≡ suc v = omega arith in
          let at_one : (t : A) → round o s bs t ≡ sum_fills o v (λ y. at o s (bs ++ t ∷ y)) =
          λ t.
          let e : 2 * s.bits - length (bs ++ t ∷ []) ≡ v = omega (arith, length-append bs (t ∷ [])) in
          ap (λ w. sum_fills o w (λ y. at o s ((bs ++ t ∷ []) ++ y))) e ∙ sum_fills-ext o r v (λ y. at o s ((bs ++ t ∷ []) ++ y)) (λ y. at o s (bs ++ t ∷ y)) (λ y. ap (at o s) (append_assoc bs (t ∷ []) y)) in
          ap (λ w. plus w (round o s bs (element 1))) (at_one (element 0) ∙ ap (λ x. sum_fills o v (λ y. at o s (bs ++ x ∷ y))) z)
          ∙ ap (plus (sum_fills o v (λ y. at o s (bs ++ o.zero ∷ y)))) (at_one (element 1) ∙ ap (λ x. sum_fills o v (λ y. at o s (bs ++ x ∷ y))) u)
          ∙ sym (ap (λ w. sum_fills o w (λ y. at o s (bs ++ y))) more)

-- the same by a field's laws
pub sumcheck_of : {A : Type 0} {o : Ops A} {size : ℕ} {number_of : A → ℕ} {element : ℕ → A} {bytes : ℕ} → Laws o size number_of element bytes
    → (s : Layered A) → IsFitting s → IsSumcheck o element s
sumcheck_of {A} {o} {size} {number_of} {element} {bytes} laws s fits =
    let n = laws.numbers in
    sumcheck o laws.ring element s
    (ap element (sym n.zero_number) ∙ n.element_number o.zero)
    (ap element (sym n.one_number) ∙ n.element_number o.one) fits
