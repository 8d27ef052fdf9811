-- Reading items one after the other, as a loop does.
use Rattle.std.proofs.Common.{◌≡◌, ℕ, suc, ◌-◌, ◌+◌, ◌≤◌, ◌<◌, List, [], ◌∷◌, ◌++◌, Result, Ok, Err, refl, sym, ap, ◌∙◌, append_assoc, arith}
use Rattle.std.proofs.lemmas.List.{append-nil}
use Rattle.lzk_circbytes.specs.declared.fault.ReadError.{ReadError}
use Rattle.lzk_circbytes.specs.declared.fault.ReadError.TheVariants as errors
use Rattle.lzk_circbytes.specs.Reading.{Stop, ◌>>=◌, many}
use Rattle.lzk_circbytes.specs.Answers.{Fails}

-- what was read before, and what is still read
abbrev pub with_front : {A : Type 0} → List A → Result (List A × List ℕ) Stop → Result (List A × List ℕ) Stop
with_front front read = read >>= λ x. Ok (front ++ x.0, x.1)

regroup : {A : Type 0} (front : List A) (n : A) (read : Result (List A × List ℕ) Stop) → with_front front (read >>= λ x. Ok (n ∷ x.0, x.1)) ≡ with_front (front ++ n ∷ []) read
regroup front n (Ok x) = ap (λ ns. Ok (ns, x.1)) (simp append_assoc)
regroup front n (Err f) = refl

front_nil : {A : Type 0} (read : Result (List A × List ℕ) Stop) → with_front [] read ≡ read
front_nil (Ok x) = refl
front_nil (Err f) = refl

module _ {S A : Type 0} (next : S → A → S) (item : S → List ℕ → Result (A × List ℕ) Stop) where
  pub goes_on : (front : List A) (count i : ℕ) (s : S) (bytes : List ℕ) (x : A) (after : List ℕ) (total : Result (List A × List ℕ) Stop) → i < count → item s bytes ≡ Ok (x, after)
      → with_front front (many next item (count - i) s bytes) ≡ total → with_front (front ++ x ∷ []) (many next item (count - (i + 1)) (next s x) after) ≡ total
  unfolding many
  goes_on front count i s bytes x after total lt h so_far =
      let k : count - i ≡ suc (count - (i + 1)) = omega arith in
      let one : with_front front (many next item (count - i) s bytes) ≡ with_front (front ++ x ∷ []) (many next item (count - (i + 1)) (next s x) after) = rw (k, h) (regroup front x (many next item (count - (i + 1)) (next s x) after)) in
      sym one ∙ so_far

  pub ends : (e : ReadError) (front : List A) (count i : ℕ) (s : S) (bytes : List ℕ) (total : Result (List A × List ℕ) Stop) → i < count → Fails e (item s bytes)
      → with_front front (many next item (count - i) s bytes) ≡ total → Fails e total
  unfolding many
  ends errors.OutOfMemory front count i s bytes total lt h so_far = tt
  ends (errors.Stops left kind) front count i s bytes total lt h so_far =
      let k : count - i ≡ suc (count - (i + 1)) = omega arith in
      let one : with_front front (many next item (count - i) s bytes) ≡ Err (record { left = left; kind = kind }) = rw (k, h) refl in
      sym so_far ∙ one

  pub is_done : (front : List A) (count i : ℕ) (s : S) (bytes : List ℕ) (total : Result (List A × List ℕ) Stop) → count ≤ i → with_front front (many next item (count - i) s bytes) ≡ total → total ≡ Ok (front, bytes)
  unfolding many
  is_done front count i s bytes total le so_far =
      let k : count - i ≡ 0 = omega arith in
      let one : with_front front (many next item (count - i) s bytes) ≡ Ok (front, bytes) = rw k (ap (λ ns. Ok (ns, bytes)) (append-nil front)) in
      sym so_far ∙ one

  pub begins : (count : ℕ) (s : S) (bytes : List ℕ) → with_front [] (many next item (count - 0) s bytes) ≡ many next item count s bytes
  begins count s bytes =
      let k : count - 0 ≡ count = omega arith in
      rw k (front_nil (many next item count s bytes))
