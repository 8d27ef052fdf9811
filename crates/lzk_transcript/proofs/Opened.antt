-- The picked columns, and how one draw puts another one in.
use Rattle.std.proofs.Common.{◌≡◌, ℕ, zero, suc, ◌+◌, ◌-◌, ◌%◌, ◌<◌, ◌≤◌, Bool, true, false, ◌||◌, not, cond, nat_eq, nat_lt, List, [], ◌∷◌, ◌++◌, length, get_or, take, drop, refl, sym, ap, subst, ◌∙◌, inl, inr, arith}
use Rattle.std.proofs.lemmas.Bool.{cases_lt, cases_Bool, lt-ltb, le-ltb, ne_eqb, eq-eqb}
use Rattle.std.proofs.lemmas.Nat.{mod_below}
use Rattle.std.proofs.lemmas.List.{length-take-le, take-take, take_at}
use Rattle.lzk_transcript.specs.Tape.{TapeState, drawn, after_draw}
use Rattle.lzk_transcript.specs.Columns.{has, numbers_from, after_draws, draw_at, picks, opened}
use Rattle.lzk_transcript.specs.Insertion.{put_in}

-- ascending numbers from low on, below high
abbrev pub Rises : ℕ → ℕ → List ℕ → Type 0
Rises low high [] = Unit {0}
Rises low high (p ∷ ps) = (low ≤ p) × ((p < high) × Rises (suc p) high ps)

rises_lower : (low high : ℕ) (ps : List ℕ) → Rises (suc low) high ps → Rises low high ps
rises_lower low high [] h = tt
rises_lower low high (p ∷ ps) h = (omega (arith, h.0), (h.1.0, h.1.1))

-- numbers below those of the list do not stand in it
has_none : (low high x : ℕ) (ps : List ℕ) → Rises low high ps → x < low → has x ps ≡ false
has_none low high x [] h lt = refl
has_none low high x (p ∷ ps) h lt = rw (ne_eqb p x (λ e. omega (arith, h.0)), has_none (suc p) high x ps h.1.1 (omega (arith, h.0))) refl

pub rises-numbers_from : (low n high : ℕ) (test : ℕ → Bool) → low + n ≡ high → Rises low high (numbers_from low n test)
unfolding numbers_from
rises-numbers_from low zero high test e = tt
rises-numbers_from low (suc n) high test e =
    let rest = rises-numbers_from (suc low) n high test (omega arith) in
    elim (cases_Bool (test low)) [
      | inl t ↦ rw t (omega arith, (omega arith, rest))
      | inr f ↦ rw f (rises_lower low high (numbers_from (suc low) n test) rest)
    ]

pub rises-below : (low high : ℕ) (xs : List ℕ) → Rises low high xs → (i : ℕ) → i < length xs → (low ≤ get_or xs i 0) × (get_or xs i 0 < high)
rises-below low high [] h i lt = absurd (omega arith)
rises-below low high (x ∷ xs) h zero lt = (h.0, h.1.0)
rises-below low high (x ∷ xs) h (suc i) lt =
    let rest = rises-below (suc x) high xs h.1.1 i (omega arith) in (omega (arith, h.0, rest.0), rest.1)

pub rises-ascends : (low high : ℕ) (xs : List ℕ) → Rises low high xs → (i j : ℕ) → i < j → j < length xs → get_or xs i 0 < get_or xs j 0
rises-ascends low high [] h i j lt within = absurd (omega arith)
rises-ascends low high (x ∷ xs) h i zero lt within = absurd (omega arith)
rises-ascends low high (x ∷ xs) h zero (suc j) lt within = omega (arith, (rises-below (suc x) high xs h.1.1 j (omega arith)).0)
rises-ascends low high (x ∷ xs) h (suc i) (suc j) lt within = rises-ascends (suc x) high xs h.1.1 i j (omega arith) (omega arith)

-- tests that agree find the same numbers
same_numbers : (low n : ℕ) (f g : ℕ → Bool) → ((x : ℕ) → low ≤ x → x < low + n → f x ≡ g x) → numbers_from low n f ≡ numbers_from low n g
unfolding numbers_from
same_numbers low zero f g h = refl
same_numbers low (suc n) f g h =
    let rest = same_numbers (suc low) n f g (λ x a b. h x (omega arith) (omega arith)) in
    rw (h low (omega arith) (omega arith), rest) refl

-- the numbers found are those that pass
has-numbers_from : (low n : ℕ) (test : ℕ → Bool) (x : ℕ) → low ≤ x → x < low + n → has x (numbers_from low n test) ≡ test x
unfolding numbers_from
has-numbers_from low zero test x le lt = absurd (omega arith)
has-numbers_from low (suc n) test x le lt =
    let rises = rises-numbers_from (suc low) n (suc low + n) test refl in
    elim (cases_lt low x) [
      | inl above ↦
          let rest = has-numbers_from (suc low) n test x (omega arith) (omega arith) in
          elim (cases_Bool (test low)) [
            | inl t ↦ rw (t, ne_eqb low x (λ e. omega arith)) rest
            | inr f ↦ rw f rest
          ]
      | inr here ↦
          let e : low ≡ x = omega arith in
          elim (cases_Bool (test low)) [
            | inl t ↦ rw (t, eq-eqb low x e) (sym t ∙ ap test e)
            | inr f ↦ rw f (has_none (suc low) (suc low + n) x (numbers_from (suc low) n test) rises (omega arith) ∙ sym f ∙ ap test e)
          ]
    ]

-- the numbers of an ascending list are the list
numbers_from-has : (low n high : ℕ) (ps : List ℕ) → low + n ≡ high → Rises low high ps → numbers_from low n (λ x. has x ps) ≡ ps
unfolding numbers_from
numbers_from-has low zero high [] e h = refl
numbers_from-has low zero high (p ∷ ps) e h = absurd (omega (arith, h.0, h.1.0))
numbers_from-has low (suc n) high [] e h = numbers_from-has (suc low) n high [] (omega arith) tt
numbers_from-has low (suc n) high (p ∷ ps) e h = elim (cases_lt low p) [
  | inl above ↦
      let none : has low (p ∷ ps) ≡ false = has_none p high low (p ∷ ps) (omega arith, h.1) above in
      rw none (numbers_from-has (suc low) n high (p ∷ ps) (omega arith) (above, h.1))
  | inr here ↦
      let same : p ≡ low = omega (arith, h.0) in
      let here : has low (p ∷ ps) ≡ true = rw (eq-eqb p low same) refl in
      let apart = same_numbers (suc low) n (λ x. has x (p ∷ ps)) (λ x. has x ps) (λ x a b. rw (ne_eqb p x (λ q. omega arith)) refl) in
      let low_rest : Rises (suc low) high ps = subst (λ q. Rises (suc q) high ps) same h.1.1 in
      rw (here, apart, numbers_from-has (suc low) n high ps (omega arith) low_rest, same) refl
]

-- where x ends when it makes room for each number of the list that is not above it
abbrev walk : List ℕ → ℕ → ℕ
walk [] x = x
walk (p ∷ ps) x = cond (nat_lt x p) x (walk ps (x + 1))

length-put_in : (ps : List ℕ) (x : ℕ) → length (put_in ps x) ≡ suc (length ps)
length-put_in [] x = refl
length-put_in (p ∷ ps) x = elim (cases_lt x p) [
  | inl h ↦ rw (lt-ltb x p h) refl
  | inr h ↦ rw (le-ltb x p h) (ap suc (length-put_in ps (x + 1)))
]

or_swap : (a b c : Bool) → (a || (b || c)) ≡ (b || (a || c))
or_swap true true c = refl
or_swap true false c = refl
or_swap false true c = refl
or_swap false false c = refl

has-put_in : (ps : List ℕ) (x y : ℕ) → has y (put_in ps x) ≡ has y (walk ps x ∷ ps)
has-put_in [] x y = refl
has-put_in (p ∷ ps) x y = elim (cases_lt x p) [
  | inl h ↦ rw (lt-ltb x p h) refl
  | inr h ↦ rw (le-ltb x p h) (ap (λ v. nat_eq p y || v) (has-put_in ps (x + 1) y) ∙ or_swap (nat_eq p y) (nat_eq (walk ps (x + 1)) y) (has y ps))
]

put_in-rises : (low high : ℕ) (ps : List ℕ) (x : ℕ) → Rises low high ps → low ≤ x → x + length ps < high → Rises low high (put_in ps x)
put_in-rises low high [] x h le lt = (le, (omega arith, tt))
put_in-rises low high (p ∷ ps) x h le lt = elim (cases_lt x p) [
  | inl a ↦ rw (lt-ltb x p a) (le, (omega arith, (a, (h.1.0, h.1.1))))
  | inr a ↦ rw (le-ltb x p a) (h.0, (h.1.0, put_in-rises (suc p) high ps (x + 1) h.1.1 (omega arith) (omega arith)))
]

-- the number at a place among those that do not stand in an ascending list
left_at : (low n high : ℕ) (ps : List ℕ) (r : ℕ) → low + n ≡ high → Rises low high ps → r + length ps < n
    → get_or (numbers_from low n (λ x. not (has x ps))) r 0 ≡ walk ps (low + r)
unfolding numbers_from
left_at low zero high ps r e h lt = absurd (omega arith)
left_at low (suc n) high [] zero e h lt = omega arith
left_at low (suc n) high [] (suc r) e h lt = omega (arith, left_at (suc low) n high [] r (omega arith) tt (omega arith))
left_at low (suc n) high (p ∷ ps) zero e h lt = elim (cases_lt low p) [
  | inl above ↦
      let none : has low (p ∷ ps) ≡ false = has_none p high low (p ∷ ps) (omega arith, h.1) above in
      let walked : walk (p ∷ ps) (low + 0) ≡ low + 0 = rw (lt-ltb (low + 0) p (omega arith)) refl in
      let start : low ≡ low + 0 = omega arith in
      rw none (start ∙ sym walked)
  | inr here ↦
      let same : p ≡ low = omega (arith, h.0) in
      let stands : has low (p ∷ ps) ≡ true = rw (eq-eqb p low same) refl in
      let apart = same_numbers (suc low) n (λ x. not (has x (p ∷ ps))) (λ x. not (has x ps)) (λ x a b. rw (ne_eqb p x (λ q. omega arith)) refl) in
      let low_rest : Rises (suc low) high ps = subst (λ q. Rises (suc q) high ps) same h.1.1 in
      let walked : walk (p ∷ ps) (low + zero) ≡ walk ps (low + zero + 1) = rw (le-ltb (low + zero) p (omega arith)) refl in
      let moved : walk ps (suc low + zero) ≡ walk ps (low + zero + 1) = let q : suc low + zero ≡ low + zero + 1 = omega arith in ap (walk ps) q in
      rw (stands, apart) (left_at (suc low) n high ps zero (omega arith) low_rest (omega arith) ∙ moved ∙ sym walked)
]
left_at low (suc n) high (p ∷ ps) (suc r) e h lt = elim (cases_lt low p) [
  | inl above ↦
      let none : has low (p ∷ ps) ≡ false = has_none p high low (p ∷ ps) (omega arith, h.1) above in
      let moved : walk (p ∷ ps) (suc low + r) ≡ walk (p ∷ ps) (low + suc r) = let q : suc low + r ≡ low + suc r = omega arith in ap (walk (p ∷ ps)) q in
      rw none (left_at (suc low) n high (p ∷ ps) r (omega arith) (above, h.1) (omega arith) ∙ moved)
  | inr here ↦
      let same : p ≡ low = omega (arith, h.0) in
      let stands : has low (p ∷ ps) ≡ true = rw (eq-eqb p low same) refl in
      let apart = same_numbers (suc low) n (λ x. not (has x (p ∷ ps))) (λ x. not (has x ps)) (λ x a b. rw (ne_eqb p x (λ q. omega arith)) refl) in
      let low_rest : Rises (suc low) high ps = subst (λ q. Rises (suc q) high ps) same h.1.1 in
      let walked : walk (p ∷ ps) (low + suc r) ≡ walk ps (low + suc r + 1) = rw (le-ltb (low + suc r) p (omega arith)) refl in
      let moved : walk ps (suc low + suc r) ≡ walk ps (low + suc r + 1) = let q : suc low + suc r ≡ low + suc r + 1 = omega arith in ap (walk ps) q in
      rw (stands, apart) (left_at (suc low) n high ps (suc r) (omega arith) low_rest (omega arith) ∙ moved ∙ sym walked)
]

-- a draw puts one more column in
opened-step : (mcol k : ℕ) (t : TapeState) → k < mcol → length (opened mcol k t) ≡ k → opened mcol (suc k) t ≡ put_in (opened mcol k t) (draw_at k t % (mcol - k))
unfolding opened picks
opened-step mcol k t lt len =
    let ps = picks mcol k t in
    let r = draw_at k t % (mcol - k) in
    let w = get_or (numbers_from 0 mcol (λ x. not (has x ps))) r 0 in
    let some = numbers_from 0 mcol (λ x. has x ps) in
    let small : r < mcol - k = mod_below (draw_at k t) (mcol - k) (omega arith) in
    let whole : 0 + mcol ≡ mcol = omega arith in
    let rises : Rises 0 mcol some = rises-numbers_from 0 mcol mcol (λ x. has x ps) whole in
    let room : r + length some < mcol = omega arith in
    let agree : (x : ℕ) → x < 0 + mcol → has x some ≡ has x ps = λ x h. has-numbers_from 0 mcol (λ x. has x ps) x (omega arith) h in
    let left : numbers_from 0 mcol (λ x. not (has x ps)) ≡ numbers_from 0 mcol (λ x. not (has x some)) =
    same_numbers 0 mcol (λ x. not (has x ps)) (λ x. not (has x some)) (λ x a h. ap not (sym (agree x h))) in
    let start : 0 + r ≡ r = omega arith in
    let picked : w ≡ walk some r = ap (λ xs. get_or xs r 0) left ∙ left_at 0 mcol mcol some r whole rises room ∙ ap (walk some) start in
    let put = same_numbers 0 mcol (λ x. has x (w ∷ ps)) (λ x. has x (put_in some r))
    (λ x a h. sym (has-put_in some r x ∙ ap (λ v. nat_eq (walk some r) x || v) (agree x h) ∙ ap (λ v. nat_eq v x || has x ps) (sym picked))) in
    put ∙ numbers_from-has 0 mcol mcol (put_in some r) whole (put_in-rises 0 mcol some r rises (omega arith) room)

pub opened-zero : (mcol : ℕ) (t : TapeState) → opened mcol 0 t ≡ []
unfolding opened picks
opened-zero mcol t = let whole : 0 + mcol ≡ mcol = omega arith in numbers_from-has 0 mcol mcol [] whole tt

pub length-opened : (mcol k : ℕ) (t : TapeState) → k ≤ mcol → length (opened mcol k t) ≡ k
length-opened mcol zero t le = ap length (opened-zero mcol t)
length-opened mcol (suc k) t le =
    let before = length-opened mcol k t (omega arith) in
    ap length (opened-step mcol k t (omega arith) before) ∙ length-put_in (opened mcol k t) (draw_at k t % (mcol - k)) ∙ ap suc before

pub opened_more : (mcol k : ℕ) (t : TapeState) → k < mcol → opened mcol (suc k) t ≡ put_in (opened mcol k t) (draw_at k t % (mcol - k))
opened_more mcol k t lt = opened-step mcol k t lt (length-opened mcol k t (omega arith))

rises-opened : (mcol k : ℕ) (t : TapeState) → Rises 0 mcol (opened mcol k t)
unfolding opened
rises-opened mcol k t = let whole : 0 + mcol ≡ mcol = omega arith in rises-numbers_from 0 mcol mcol (λ x. has x (picks mcol k t)) whole

pub opened-ascends : (mcol k : ℕ) (t : TapeState) (i j : ℕ) → i < j → j < length (opened mcol k t) → get_or (opened mcol k t) i 0 < get_or (opened mcol k t) j 0
opened-ascends mcol k t = rises-ascends 0 mcol (opened mcol k t) (rises-opened mcol k t)

pub opened-below : (mcol k : ℕ) (t : TapeState) (i : ℕ) → i < length (opened mcol k t) → get_or (opened mcol k t) i 0 < mcol
opened-below mcol k t i lt = (rises-below 0 mcol (opened mcol k t) (rises-opened mcol k t) i lt).1

-- the first k columns and one draw more
pub columns_step : (mcol k : ℕ) (t now : TapeState) (out new : List ℕ) (r : ℕ) → k < mcol → k < length out → take k out ≡ opened mcol k t → now ≡ after_draws k t
    → r ≡ drawn now % (mcol - k) → new ≡ put_in (take (length (take (k + 1) out) - 1) (take (k + 1) out)) r
    → take (k + 1) (new ++ drop (k + 1) out) ≡ opened mcol (k + 1) t
columns_step mcol k t now out new r lt within before at place put =
    let count : length (take (k + 1) out) - 1 ≡ k = omega (arith, length-take-le (k + 1) out (omega arith)) in
    let first : take k (take (k + 1) out) ≡ take k out = take-take k (k + 1) out (omega arith) in
    let had : new ≡ put_in (take k out) r = rw (count, first) at put in
    let r_is : r ≡ draw_at k t % (mcol - k) = place ∙ ap (λ n. drawn n % (mcol - k)) at in
    let is : new ≡ opened mcol (suc k) t = had ∙ ap (λ xs. put_in xs r) before ∙ ap (put_in (opened mcol k t)) r_is ∙ sym (opened_more mcol k t lt) in
    let up : k + 1 ≡ suc k = omega arith in
    let many : length new ≡ k + 1 = ap length is ∙ length-opened mcol (suc k) t (omega arith) ∙ sym up in
    take_at new (drop (k + 1) out) (k + 1) many ∙ is ∙ ap (λ n. opened mcol n t) (sym up)

pub after_step : (k : ℕ) (t now next : TapeState) → now ≡ after_draws k t → next ≡ after_draw now → next ≡ after_draws (k + 1) t
unfolding after_draws
after_step k t now next at e = let up : k + 1 ≡ suc k = omega arith in e ∙ ap after_draw at ∙ ap (λ n. after_draws n t) (sym up)
