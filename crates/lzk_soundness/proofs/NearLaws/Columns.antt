-- A word that is not close agrees with a codeword at few columns.
use Rattle.std.specs.Prelude.{◌≡◌, ◌≢◌, ℕ, ◌<◌, ◌≤◌, ◌+◌, ◌-◌, Bool, true, false, cond, List, [], ◌∷◌, length}
use Rattle.std.specs.List.{AllByRecursion, range_with_len}
use Rattle.std.proofs.Common.{zero, suc, refl, sym, ap, ◌∙◌, arith, eqb, subst}
use Rattle.std.proofs.lemmas.Bool.{false≢true, eqb-true, ne_eqb, eq-eqb}
use Rattle.std.proofs.lemmas.List.FromFn.{length-range_with_len}
use native.Mathlib.Decide.{dec_lt}
use Rattle.lzk_field.specs.Ring.{Ops}
use Rattle.lzk_poly.specs.Polynomial.{eval}
use Rattle.lzk_soundness.specs.Chance.Few.{AreDistinct}
use Rattle.lzk_soundness.specs.Chance.Draws.{count}
use Rattle.lzk_soundness.specs.Near.Laws.{FarAgreesRarely}

-- not an entry of the list
abbrev pub absent : List ℕ → ℕ → Bool
absent [] j = true
absent (i ∷ is) j = cond (eqb i j) false (absent is j)

absent_out : (i : ℕ) (is : List ℕ) → AllByRecursion (λ (j : ℕ). i ≢ j) is → absent is i ≡ true
absent_out i [] all = refl
absent_out i (k ∷ is) all = ap (λ (b : Bool). cond b false (absent is i)) (ne_eqb k i (λ e. all.0 (sym e))) ∙ absent_out i is all.1

pub absent_in : (P : ℕ → Type 0) (is : List ℕ) (j : ℕ) → AllByRecursion P is → absent is j ≡ false → P j
absent_in P [] j all e = absurd (false≢true (sym e))
absent_in P (i ∷ is) j all e = go (eqb i j) refl e (absent_in P is j all.1)
  where
    go : (b : Bool) → eqb i j ≡ b → cond b false (absent is j) ≡ false → (absent is j ≡ false → P j) → P j
    go true same not rest = subst P (eqb-true i j same) all.0
    go false differ not rest = rest not

less : (b c : Bool) → cond (cond b false c) 1 0 ≤ cond c 1 0
less true true = omega arith
less true false = omega arith
less false c = omega arith

fewer_left : (i : ℕ) (is : List ℕ) (js : List ℕ) → count (absent (i ∷ is)) js ≤ count (absent is) js
fewer_left i is [] = omega arith
fewer_left i is (j ∷ js) = omega (arith, less (eqb i j) (absent is j), fewer_left i is js)

one_left : (i : ℕ) (is : List ℕ) (a k : ℕ) → absent is i ≡ true → a ≤ i → i < a + k → count (absent (i ∷ is)) (range_with_len a k) + 1 ≤ count (absent is) (range_with_len a k)
one_left i is a zero out l h = absurd (omega (arith, l, h))
one_left i is a (suc k) out l h = go (eqb i a) refl (absent is a) refl (fewer_left i is (range_with_len (a + 1) k)) (λ q. one_left i is (a + 1) k out q (omega (arith, h)))
  where
    go : (b : Bool) → eqb i a ≡ b → (c : Bool) → absent is a ≡ c → count (absent (i ∷ is)) (range_with_len (a + 1) k) ≤ count (absent is) (range_with_len (a + 1) k)
        → (a + 1 ≤ i → count (absent (i ∷ is)) (range_with_len (a + 1) k) + 1 ≤ count (absent is) (range_with_len (a + 1) k))
        → (cond (cond b false c) 1 0 + count (absent (i ∷ is)) (range_with_len (a + 1) k)) + 1 ≤ cond c 1 0 + count (absent is) (range_with_len (a + 1) k)
    go true same true there rest more = omega (arith, rest)
    go true same false there rest more = absurd (false≢true (sym there ∙ ap (absent is) (sym (eqb-true i a same)) ∙ out))
    go false differ c there rest more =
        elim (dec_lt a i) [
          | yes before ↦ omega (arith, more (omega (arith, before)))
          | no here ↦ absurd (false≢true (sym differ ∙ eq_is (omega (arith, l, here))))
        ]
      where
        eq_is : i ≡ a → eqb i a ≡ true
        eq_is e = eq-eqb i a e

pub left_over : (end : ℕ) (is : List ℕ) → AreDistinct is → AllByRecursion (λ (j : ℕ). j < end) is → count (absent is) (range_with_len 0 end) + length is ≤ end
left_over end [] distinct all = omega (arith, every (range_with_len 0 end), length-range_with_len 0 end)
  where
    every : (js : List ℕ) → count (absent []) js ≤ length js
    every [] = omega arith
    every (j ∷ js) = omega (arith, every js)
left_over end (i ∷ is) distinct all =
    omega (arith, one_left i is 0 end (absent_out i is distinct.0) (omega arith) (omega (arith, all.0)), left_over end is distinct.1 all.1)

weaker : {X : Type 0} (P Q : X → Type 0) → ((x : X) → P x → Q x) → (xs : List X) → AllByRecursion P xs → AllByRecursion Q xs
weaker P Q f [] all = tt
weaker P Q f (x ∷ xs) all = (f x all.0, weaker P Q f xs all.1)

pub far_agrees_rarely : {A : Type 0} (o : Ops A) → FarAgreesRarely o
far_agrees_rarely o at n end e word cs far short js distinct all =
    elim (dec_lt (end - e - 1) (length js)) [
      | yes more ↦
          let below = weaker (λ (j : ℕ). (j < end) × (word j ≡ eval o cs (at j))) (λ (j : ℕ). j < end) (λ j p. p.0) js all in
          let most = left_over end js distinct below in
          absurd (far (record {
            outside = absent js;
            code = λ i. cs;
            few = omega (arith, more, most);
            short = λ i h. short;
            agree = λ i j h l is. (absent_in (λ (j : ℕ). (j < end) × (word j ≡ eval o cs (at j))) js j all is).1;
          }))
      | no few ↦ omega (arith, few)
    ]
