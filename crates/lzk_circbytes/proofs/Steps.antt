-- What a step that did not fail tells, and items one after the other.
use Rattle.std.proofs.Common.{◌≡◌, ℕ, zero, suc, ◌+◌, ◌<◌, Bool, true, false, cond, List, [], ◌∷◌, ◌++◌, length, get_or, take, drop, Result, Ok, Err, refl, sym, ap, subst, ◌∙◌, append_assoc, arith, inl, inr}
use Rattle.std.proofs.lemmas.Bool.{cases_lt}
use Rattle.std.proofs.lemmas.List.{get_or-drop, get_or-take, get_or_past, length-take}
use Rattle.lzk_circbytes.specs.declared.fault.ByteKind.{ByteKind}
use Rattle.lzk_circbytes.specs.Reading.{Stop, ◌>>=◌, must, many}
use Rattle.lzk_circbytes.specs.Spelling.{spells}
use Rattle.lzk_circbytes.specs.Fits.{FitAlong}

abbrev pub IsBytes : List ℕ → Type 0
IsBytes bytes = (i : ℕ) → get_or bytes i 0 < 256

pub IsBytes-drop : (n : ℕ) (bytes : List ℕ) → IsBytes bytes → IsBytes (drop n bytes)
IsBytes-drop n bytes h i = rw get_or-drop (h (n + i))

pub IsBytes-take : (n : ℕ) (bytes : List ℕ) → IsBytes bytes → IsBytes (take n bytes)
IsBytes-take n bytes h i =
    elim (cases_lt i n) [
      | inl lt ↦ rw (get_or-take n bytes i 0 lt) (h i)
      | inr le ↦ rw (get_or_past (take n bytes) i 0 (omega (arith, length-take n bytes))) (omega arith)
    ]

pub IsBytes-rest : (b : ℕ) (bytes : List ℕ) → IsBytes (b ∷ bytes) → IsBytes bytes
IsBytes-rest b bytes h i = h (suc i)

-- the value of a step that did not fail
pub bind_ok : {A B : Type 0} (r : Result A Stop) (f : A → Result B Stop) (y : B) → (r >>= f) ≡ Ok y → (x : A) × (r ≡ Ok x) × (f x ≡ Ok y)
bind_ok (Ok x) f y e = (x, refl, e)
bind_ok (Err d) f y e = absurd cc

-- what stands_behind from a step that did not fail
pub from : {A B G : Type 0} (r : Result A Stop) (f : A → Result B Stop) (y : B) → (r >>= f) ≡ Ok y → ((x : A) → r ≡ Ok x → f x ≡ Ok y → G) → G
from (Ok x) f y e k = k x refl e
from (Err d) f y e k = absurd cc

-- a test that did not fail
pub passed : {A : Type 0} (b : Bool) (d : Stop) (r : Result A Stop) (y : A) → cond b r (Err d) ≡ Ok y → (b ≡ true) × (r ≡ Ok y)
passed true d r y e = (refl, e)
passed false d r y e = absurd cc

pub not_refused : {A : Type 0} (b : Bool) (d : Stop) (r : Result A Stop) (y : A) → cond b (Err d) r ≡ Ok y → (b ≡ false) × (r ≡ Ok y)
not_refused true d r y e = absurd cc
not_refused false d r y e = (refl, e)

pub must_ok : (b : Bool) (kind : ByteKind) (bytes : List ℕ) (y : Unit {0}) → must b kind bytes ≡ Ok y → b ≡ true
must_ok true kind bytes y e = refl
must_ok false kind bytes y e = absurd cc

abbrev done : {A : Type 0} → A → Result A Stop
done x = Ok x

pub ok_is : {A : Type 0} (x y : A) → done x ≡ done y → x ≡ y
ok_is x y e = cc

-- what a reader took from the front
pub record Takes (bytes text rest : List ℕ) : Type 0 where
  pub parts : bytes ≡ text ++ rest
  pub rest_fits : IsBytes rest

pub Takes-then : (a x b y c : List ℕ) → Takes a x b → Takes b y c → Takes a (x ++ y) c
Takes-then a x b y c p q = record { parts = p.parts ∙ ap (λ (t : List ℕ). x ++ t) q.parts ∙ sym (append_assoc x y c); rest_fits = q.rest_fits }

module _ {S A : Type 0} (next : S → A → S) (item : S → List ℕ → Result (A × List ℕ) Stop) (spell : S → A → List ℕ) (Fits : S → A → Type 0) where
  pub many_takes : ((s : S) (bytes : List ℕ) (x : A × List ℕ) → IsBytes bytes → item s bytes ≡ Ok x → Takes bytes (spell s x.0) x.1 × Fits s x.0)
      → (n : ℕ) (s : S) (bytes : List ℕ) (x : List A × List ℕ) → IsBytes bytes → many next item n s bytes ≡ Ok x
      → Takes bytes (spells next spell s x.0) x.1 × (length x.0 ≡ n) × FitAlong next Fits s x.0
  unfolding many spells
  many_takes one zero s bytes x fits e =
      subst (λ (y : List A × List ℕ). Takes bytes (spells next spell s y.0) y.1 × (length y.0 ≡ 0) × FitAlong next Fits s y.0) (ok_is ([], bytes) x e) (record { parts = refl; rest_fits = fits }, refl, tt)
  many_takes one (suc n) s bytes x fits e =
      let a = bind_ok (item s bytes) (λ first. many next item n (next s first.0) first.1 >>= λ others. Ok (first.0 ∷ others.0, others.1)) x e in
      let b = bind_ok (many next item n (next s a.0.0) a.0.1) (λ others. Ok (a.0.0 ∷ others.0, others.1)) x a.2 in
      let first = one s bytes a.0 fits a.1 in
      let second = many_takes one n (next s a.0.0) a.0.1 b.0 first.0.rest_fits b.1 in
      let both = Takes-then bytes (spell s a.0.0) a.0.1 (spells next spell (next s a.0.0) b.0.0) b.0.1 first.0 second.0 in
      let made : List A × List ℕ = (a.0.0 ∷ b.0.0, b.0.1) in
      subst (λ (y : List A × List ℕ). Takes bytes (spells next spell s y.0) y.1 × (length y.0 ≡ suc n) × FitAlong next Fits s y.0) (ok_is made x b.2) (both, ap suc second.1, (first.1, second.2))

  pub many_again : ((s : S) (x : A) (rest : List ℕ) → Fits s x → item s (spell s x ++ rest) ≡ Ok (x, rest))
      → (xs : List A) (s : S) (rest : List ℕ) → FitAlong next Fits s xs → many next item (length xs) s (spells next spell s xs ++ rest) ≡ Ok (xs, rest)
  unfolding many spells
  many_again one [] s rest fits = refl
  many_again one (x ∷ xs) s rest fits =
      ap (many next item (suc (length xs)) s) (append_assoc (spell s x) (spells next spell (next s x) xs) rest)
      ∙ rw (one s x (spells next spell (next s x) xs ++ rest) fits.0, many_again one xs (next s x) rest fits.1) refl
