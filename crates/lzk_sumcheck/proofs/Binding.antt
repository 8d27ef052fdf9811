-- Sums over the open variables, by binding one variable after the other.
use Rattle.std.specs.Prelude.{◌≡◌, ℕ, ◌+◌, ◌*◌, ◌/◌, ◌^◌, List, [], ◌∷◌, ◌++◌, length, true, false}
use Rattle.std.proofs.Common.{zero, suc, refl, sym, ap, ◌∙◌, arith, subst}
use Rattle.std.proofs.Math.Nat.{pow-succ'}
use Rattle.lzk_field.specs.Ring.{Ops, RingLaws}
use Rattle.lzk_field.specs.Sums.{sum_below, minus}
use Rattle.lzk_field.proofs.Solve.{var, null, unit, ◌⊞◌, ◌⊟◌, ◌⊠◌, solve}
use Rattle.lzk_field.proofs.SumLaws.{sum-ext, sum-plus, sum-times, sum-swap}
use Rattle.lzk_mle.specs.Multilinear.{eq}
use Rattle.lzk_field.proofs.SumPlaces.{sum-halves}
use Rattle.lzk_mle.proofs.TableLaws.{extension, bound, extension-bound, extension-same}
use Rattle.lzk_sumcheck.specs.States.{State, bind_state, after, total, Sizes}
use Rattle.lzk_sumcheck.specs.Rounds.{every_other, sum_fills}

module _ {A : Type 0} (o : Ops A) where
  open o use {plus, times}

  -- the extension in both numbers
  abbrev pub extension2 : ℕ → ℕ → (ℕ → ℕ → A) → List A → List A → A
  extension2 n m q xs ys = extension o n (λ i. extension o m (q i) ys) xs

  abbrev pub state_at : State A → List A → A
  state_at s x = let xa = every_other true x in let xb = every_other false x in
      times (times (extension2 s.n s.m s.q xa xb) (extension o s.n s.f xa)) (extension o s.m s.h xb)

pub sizes-twice : (k : ℕ) → Sizes (2 * k) (2 ^ k) (2 ^ k)
sizes-twice zero = (refl, refl)
sizes-twice (suc k) =
    let two : suc (suc (2 * k)) ≡ 2 * suc k = omega arith in
    subst (λ v. Sizes v (2 ^ suc k) (2 ^ suc k)) two (2 ^ k, (pow-succ' 2 k, (2 ^ k, (pow-succ' 2 k, sizes-twice k))))

module _ {A : Type 0} (o : Ops A) (r : RingLaws o) where
  open o use {plus, times, neg}

  pub sum_fills-ext : (v : ℕ) (f h : List A → A) → ((z : List A) → f z ≡ h z) → sum_fills o v f ≡ sum_fills o v h
  sum_fills-ext zero f h e = e []
  sum_fills-ext (suc v) f h e =
      ap (λ w. plus w (sum_fills o v (λ z. f (o.one ∷ z)))) (sum_fills-ext v (λ z. f (o.zero ∷ z)) (λ z. h (o.zero ∷ z)) (λ z. e (o.zero ∷ z)))
      ∙ ap (plus (sum_fills o v (λ z. h (o.zero ∷ z)))) (sum_fills-ext v (λ z. f (o.one ∷ z)) (λ z. h (o.one ∷ z)) (λ z. e (o.one ∷ z)))

  -- an extension is linear in its table
  pub extension-bound_inner : (m : ℕ) (q : ℕ → ℕ → A) (x : A) (ys : List A) (i : ℕ) → bound o x (λ a. extension o m (q a) ys) i ≡ extension o m (λ j. bound o x (λ a. q a j) i) ys
  extension-bound_inner m q x ys i =
      let e : ℕ → A = λ j. eq o j ys in
      ap (λ w. plus w (times x (extension o m (q (2 * i + 1)) ys))) (sym (sum-times o r m (minus o o.one x) (λ j. times (e j) (q (2 * i) j))))
      ∙ ap (plus (sum_below o m (λ j. times (minus o o.one x) (times (e j) (q (2 * i) j))))) (sym (sum-times o r m x (λ j. times (e j) (q (2 * i + 1) j))))
      ∙ sym (sum-plus o r m (λ j. times (minus o o.one x) (times (e j) (q (2 * i) j))) (λ j. times x (times (e j) (q (2 * i + 1) j))))
      ∙ sum-ext o r m (λ j. plus (times (minus o o.one x) (times (e j) (q (2 * i) j))) (times x (times (e j) (q (2 * i + 1) j)))) (λ j. times (e j) (bound o x (λ a. q a j) i))
      (λ j l. solve o r (x ∷ e j ∷ q (2 * i) j ∷ q (2 * i + 1) j ∷ [])
      ((unit ⊟ var 0) ⊠ (var 1 ⊠ var 2) ⊞ var 0 ⊠ (var 1 ⊠ var 3)) (var 1 ⊠ ((unit ⊟ var 0) ⊠ var 2 ⊞ var 0 ⊠ var 3)) refl)

  pub extension2-swap : (n m : ℕ) (q : ℕ → ℕ → A) (xs ys : List A) → extension2 o n m q xs ys ≡ extension2 o m n (λ j i. q i j) ys xs
  extension2-swap n m q xs ys =
      sum-ext o r n (λ i. times (eq o i xs) (extension o m (q i) ys)) (λ i. sum_below o m (λ j. times (eq o i xs) (times (eq o j ys) (q i j))))
      (λ i l. sym (sum-times o r m (eq o i xs) (λ j. times (eq o j ys) (q i j))))
      ∙ sum-swap o r n m (λ i j. times (eq o i xs) (times (eq o j ys) (q i j)))
      ∙ sum-ext o r m (λ j. sum_below o n (λ i. times (eq o i xs) (times (eq o j ys) (q i j)))) (λ j. times (eq o j ys) (extension o n (λ i. q i j) xs))
      (λ j l. sum-ext o r n (λ i. times (eq o i xs) (times (eq o j ys) (q i j))) (λ i. times (eq o j ys) (times (eq o i xs) (q i j)))
      (λ i k. solve o r (eq o i xs ∷ eq o j ys ∷ q i j ∷ []) (var 0 ⊠ (var 1 ⊠ var 2)) (var 1 ⊠ (var 0 ⊠ var 2)) refl)
      ∙ sum-times o r n (eq o j ys) (λ i. times (eq o i xs) (q i j)))

  extension2-bound : (n m : ℕ) (q : ℕ → ℕ → A) (x : A) (xs ys : List A) → extension2 o (2 * n) m q (x ∷ xs) ys ≡ extension2 o m n (λ j i. bound o x (λ a. q a j) i) ys xs
  extension2-bound n m q x xs ys =
      extension-bound o r n (λ i. extension o m (q i) ys) x xs
      ∙ extension-same o r n (bound o x (λ i. extension o m (q i) ys)) (λ i. extension o m (λ j. bound o x (λ a. q a j) i) ys) xs (λ i l. extension-bound_inner m q x ys i)
      ∙ extension2-swap n m (λ i j. bound o x (λ a. q a j) i) xs ys

  -- a bound variable leaves the value
  pub state_at-bind : (half : ℕ) (s : State A) (x : A) (xs : List A) → s.n ≡ 2 * half → state_at o s (x ∷ xs) ≡ state_at o (bind_state o x s) xs
  state_at-bind half s x xs e =
      let xa = every_other true xs in
      let xb = every_other false xs in
      let e' : s.n / 2 ≡ half = omega arith in
      let p = extension2 o s.m half (λ j i. bound o x (λ a. s.q a j) i) xa xb in
      let u = extension o half (bound o x s.f) xb in
      let v = extension o s.m s.h xa in
      ap (λ k. times (times (extension2 o k s.m s.q (x ∷ xb) xa) (extension o k s.f (x ∷ xb))) v) e
      ∙ ap (λ w. times (times w (extension o (2 * half) s.f (x ∷ xb))) v) (extension2-bound half s.m s.q x xb xa)
      ∙ ap (λ w. times (times p w) v) (extension-bound o r half s.f x xb)
      ∙ solve o r (p ∷ u ∷ v ∷ []) ((var 0 ⊠ var 1) ⊠ var 2) ((var 0 ⊠ var 2) ⊠ var 1) refl
      ∙ sym (ap (λ k. times (times (extension2 o s.m k (λ j i. bound o x (λ a. s.q a j) i) xa xb) v) (extension o k (bound o x s.f) xb)) e')

  -- what is summed after a variable is bound
  pub total-bind : (half : ℕ) (s : State A) (x : A) → s.n ≡ 2 * half
      → total o (bind_state o x s) ≡ sum_below o half (λ i. sum_below o s.m (λ j. times (times (bound o x (λ a. s.q a j) i) (bound o x s.f i)) (s.h j)))
  total-bind half s x e =
      let e' : s.n / 2 ≡ half = omega arith in
      let q : ℕ → ℕ → A = λ i j. bound o x (λ a. s.q a j) i in
      let f = bound o x s.f in
      ap (λ k. sum_below o s.m (λ j. sum_below o k (λ i. times (times (q i j) (s.h j)) (f i)))) e'
      ∙ sum-swap o r s.m half (λ j i. times (times (q i j) (s.h j)) (f i))
      ∙ sum-ext o r half (λ i. sum_below o s.m (λ j. times (times (q i j) (s.h j)) (f i))) (λ i. sum_below o s.m (λ j. times (times (q i j) (f i)) (s.h j)))
      (λ i l. sum-ext o r s.m (λ j. times (times (q i j) (s.h j)) (f i)) (λ j. times (times (q i j) (f i)) (s.h j))
      (λ j k. solve o r (q i j ∷ f i ∷ s.h j ∷ []) ((var 0 ⊠ var 2) ⊠ var 1) ((var 0 ⊠ var 1) ⊠ var 2) refl))

  bound-zero : (f : ℕ → A) (i : ℕ) → bound o o.zero f i ≡ f (2 * i)
  bound-zero f i = solve o r (f (2 * i) ∷ f (2 * i + 1) ∷ []) ((unit ⊟ null) ⊠ var 0 ⊞ null ⊠ var 1) (var 0) refl

  bound-one : (f : ℕ → A) (i : ℕ) → bound o o.one f i ≡ f (2 * i + 1)
  bound-one f i = solve o r (f (2 * i) ∷ f (2 * i + 1) ∷ []) ((unit ⊟ unit) ⊠ var 0 ⊞ unit ⊠ var 1) (var 1) refl

  -- both values of a variable together
  pub total-both : (half : ℕ) (s : State A) → s.n ≡ 2 * half → plus (total o (bind_state o o.zero s)) (total o (bind_state o o.one s)) ≡ total o s
  total-both half s e =
      let row : ℕ → A = λ i. sum_below o s.m (λ j. times (times (s.q i j) (s.f i)) (s.h j)) in
      let at : (x : A) (place : ℕ → ℕ) → ((f : ℕ → A) (i : ℕ) → bound o x f i ≡ f (place i)) → total o (bind_state o x s) ≡ sum_below o half (λ i. row (place i)) =
      λ x place is. total-bind half s x e
      ∙ sum-ext o r half (λ i. sum_below o s.m (λ j. times (times (bound o x (λ a. s.q a j) i) (bound o x s.f i)) (s.h j))) (λ i. row (place i))
      (λ i l. sum-ext o r s.m (λ j. times (times (bound o x (λ a. s.q a j) i) (bound o x s.f i)) (s.h j)) (λ j. times (times (s.q (place i) j) (s.f (place i))) (s.h j))
      (λ j k. ap (λ w. times (times w (bound o x s.f i)) (s.h j)) (is (λ a. s.q a j) i) ∙ ap (λ w. times (times (s.q (place i) j) w) (s.h j)) (is s.f i))) in
      ap (λ w. plus w (total o (bind_state o o.one s))) (at o.zero (λ i. 2 * i) bound-zero)
      ∙ ap (plus (sum_below o half (λ i. row (2 * i)))) (at o.one (λ i. 2 * i + 1) bound-one)
      ∙ sym (sum-plus o r half (λ i. row (2 * i)) (λ i. row (2 * i + 1)))
      ∙ sym (sum-halves o r half row)
      ∙ ap (λ k. sum_below o k row) (sym e)

  pub sizes-bind : (v half : ℕ) (s : State A) → s.n ≡ 2 * half → Sizes v s.m half → Sizes v s.m (s.n / 2)
  sizes-bind v half s e z = let e' : half ≡ s.n / 2 = omega arith in subst (Sizes v s.m) e' z

  -- the sum over all open variables is the sum over all pairs
  pub open-total : (v : ℕ) (s : State A) → Sizes v s.n s.m → sum_fills o v (state_at o s) ≡ total o s
  open-total zero s z =
      ap (λ k. times (times (extension2 o k s.m s.q [] []) (extension o k s.f [])) (extension o s.m s.h [])) z.0
      ∙ ap (λ k. times (times (extension2 o 1 k s.q [] []) (extension o 1 s.f [])) (extension o k s.h [])) z.1
      ∙ solve o r (s.q 0 0 ∷ s.f 0 ∷ s.h 0 ∷ [])
      (((null ⊞ unit ⊠ (null ⊞ unit ⊠ var 0)) ⊠ (null ⊞ unit ⊠ var 1)) ⊠ (null ⊞ unit ⊠ var 2)) (null ⊞ (null ⊞ (var 0 ⊠ var 1) ⊠ var 2)) refl
      ∙ sym (ap (λ k. sum_below o k (λ i. sum_below o s.m (λ j. times (times (s.q i j) (s.f i)) (s.h j)))) z.0
      ∙ ap (λ k. sum_below o 1 (λ i. sum_below o k (λ j. times (times (s.q i j) (s.f i)) (s.h j)))) z.1)
  open-total (suc v) s z =
      let half = z.0 in
      let each : (x : A) → sum_fills o v (λ xs. state_at o s (x ∷ xs)) ≡ total o (bind_state o x s) =
      λ x. sum_fills-ext v (λ xs. state_at o s (x ∷ xs)) (state_at o (bind_state o x s)) (λ xs. state_at-bind half s x xs z.1.0)
      ∙ open-total v (bind_state o x s) (sizes-bind v half s z.1.0 z.1.1) in
      ap (λ w. plus w (sum_fills o v (λ xs. state_at o s (o.one ∷ xs)))) (each o.zero)
      ∙ ap (plus (total o (bind_state o o.zero s))) (each o.one)
      ∙ total-both half s z.1.0

  -- the same where the first variables are bound
  pub bound-total : (bs : List A) (v k : ℕ) (s : State A) → k ≡ length bs + v → Sizes k s.n s.m → sum_fills o v (λ xs. state_at o s (bs ++ xs)) ≡ total o (after o bs s)
  bound-total [] v k s e z = let e' : k ≡ v = omega arith in open-total v s (subst (λ w. Sizes w s.n s.m) e' z)
  bound-total (x ∷ bs) v zero s e z = absurd (omega arith)
  bound-total (x ∷ bs) v (suc k) s e z =
      sum_fills-ext v (λ xs. state_at o s (x ∷ bs ++ xs)) (λ xs. state_at o (bind_state o x s) (bs ++ xs)) (λ xs. state_at-bind z.0 s x (bs ++ xs) z.1.0)
      ∙ bound-total bs v k (bind_state o x s) (omega arith) (sizes-bind k z.0 s z.1.0 z.1.1)

  pub after-append : (bs : List A) (x : A) (s : State A) → after o (bs ++ x ∷ []) s ≡ bind_state o x (after o bs s)
  after-append [] x s = refl
  after-append (b ∷ bs) x s = after-append bs x (bind_state o b s)

  pub sizes-after : (bs : List A) (v k : ℕ) (s : State A) → k ≡ length bs + v → Sizes k s.n s.m → Sizes v (after o bs s).n (after o bs s).m
  sizes-after [] v k s e z = let e' : k ≡ v = omega arith in subst (λ w. Sizes w s.n s.m) e' z
  sizes-after (x ∷ bs) v zero s e z = absurd (omega arith)
  sizes-after (x ∷ bs) v (suc k) s e z = sizes-after bs v k (bind_state o x s) (omega arith) (sizes-bind k z.0 s z.1.0 z.1.1)

  -- what is left of the coefficients when all variables are bound
  pub bound-last : (bs : List A) (k : ℕ) (s : State A) → k ≡ length bs → Sizes k s.n s.m → (after o bs s).q 0 0 ≡ extension2 o s.n s.m s.q (every_other true bs) (every_other false bs)
  bound-last [] zero s e z =
      sym (ap (λ n. extension2 o n s.m s.q [] []) z.0 ∙ ap (λ m. extension2 o 1 m s.q [] []) z.1
      ∙ solve o r (s.q 0 0 ∷ []) (null ⊞ unit ⊠ (null ⊞ unit ⊠ var 0)) (var 0) refl)
  bound-last [] (suc k) s e z = absurd (omega arith)
  bound-last (x ∷ bs) zero s e z = absurd (omega arith)
  bound-last (x ∷ bs) (suc k) s e z =
      let xa = every_other true bs in
      let xb = every_other false bs in
      let half : z.0 ≡ s.n / 2 = let twice = z.1.0 in omega (arith, twice) in
      bound-last bs k (bind_state o x s) (omega arith) (sizes-bind k z.0 s z.1.0 z.1.1)
      ∙ sym (ap (λ n. extension2 o n s.m s.q (x ∷ xb) xa) z.1.0 ∙ extension2-bound z.0 s.m s.q x xb xa
      ∙ ap (λ n. extension2 o s.m n (λ j i. bound o x (λ a. s.q a j) i) xa xb) half)
