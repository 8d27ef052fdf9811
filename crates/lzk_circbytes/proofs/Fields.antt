-- Words, and constants.
use Rattle.std.proofs.Common.{◌≡◌, ℕ, zero, suc, ◌+◌, ◌*◌, ◌/◌, ◌%◌, ◌^◌, ◌<◌, ◌≤◌, false, cond, ltb, ◌&&◌, List, [], ◌∷◌, ◌++◌, length, take, drop, Ok, refl, sym, ap, subst, ◌∙◌, arith, ltb-true}
use Rattle.std.specs.Int.{w32, to_le_bytes, from_le_bytes}
use Rattle.std.proofs.lemmas.Bool.{ltb-false, le-ltb, lt-ltb, and_parts}
use Rattle.std.proofs.lemmas.List.{take_at, drop_at, take-append-drop, length-append, length-take}
use Rattle.std.proofs.lemmas.Nat.{le_bytes_4, from_le_bytes-to_le_bytes_4}
use Rattle.std.proofs.Math.Nat.{pow-succ', pow-zero}
use Rattle.lzk_field.specs.Bytes.{bytes_of, number_from}
use Rattle.lzk_circbytes.specs.declared.fault.ByteKind.TheVariants.{Constant}
use Rattle.lzk_circbytes.specs.Numbered.{Shape}
use Rattle.lzk_circbytes.specs.Reading.{stops, word_at, constant_at, constants_at, as_last}
use Rattle.lzk_circbytes.specs.Spelling.{constants_bytes}
use Rattle.lzk_circbytes.specs.Fits.{FitsConstant, AreConstants}
use Rattle.lzk_circbytes.proofs.Steps.{IsBytes, IsBytes-rest, IsBytes-take, IsBytes-drop, passed, not_refused, ok_is, Takes, many_takes, many_again}

pub word_take : (bytes : List ℕ) (x : ℕ × List ℕ) → IsBytes bytes → word_at bytes ≡ Ok x → Takes bytes (to_le_bytes w32 x.0) x.1 × (x.0 < 2 ^ 32)
unfolding word_at
word_take bytes x fits e =
    let g = not_refused (ltb (length bytes) 4) _ (Ok (from_le_bytes w32 (take 4 bytes), drop 4 bytes)) x e in
    let long : 4 ≤ length bytes = ltb-false _ _ g.0 in
    let front : IsBytes (take 4 bytes) = IsBytes-take 4 bytes fits in
    let back : to_le_bytes w32 (from_le_bytes w32 (take 4 bytes)) ≡ take 4 bytes = le_bytes_4 (take 4 bytes) _ (omega (arith, length-take 4 bytes)) front refl in
    let small : from_le_bytes w32 (take 4 bytes) < 2 ^ 32 = omega (arith, front 0, front 1, front 2, front 3) in
    subst (λ (y : ℕ × List ℕ). Takes bytes (to_le_bytes w32 y.0) y.1 × (y.0 < 2 ^ 32)) (ok_is (from_le_bytes w32 (take 4 bytes), drop 4 bytes) x g.1)
    (record { parts = sym (take-append-drop 4 bytes) ∙ ap (λ (t : List ℕ). t ++ drop 4 bytes) (sym back); rest_fits = IsBytes-drop 4 bytes fits }, small)

pub word_again : (n : ℕ) (rest : List ℕ) → n < 2 ^ 32 → word_at (to_le_bytes w32 n ++ rest) ≡ Ok (n, rest)
unfolding word_at
word_again n rest lt =
    let len : length (to_le_bytes w32 n) ≡ 4 = refl in
    let long : ltb (length (to_le_bytes w32 n ++ rest)) 4 ≡ false = le-ltb _ _ (omega (arith, length-append (to_le_bytes w32 n) rest)) in
    let back : from_le_bytes w32 (to_le_bytes w32 n) ≡ n = from_le_bytes-to_le_bytes_4 n lt in
    rw long (ap (λ (m : ℕ). Ok (m, rest)) back)

-- ---- so many bytes

pub le_length : (k n : ℕ) → length (bytes_of k n) ≡ k
le_length zero n = refl
le_length (suc k) n = ap suc (le_length k (n / 256))

pub le_back : (k : ℕ) (bs : List ℕ) → length bs ≡ k → IsBytes bs → bytes_of k (number_from bs) ≡ bs
le_back zero [] len fits = refl
le_back zero (b ∷ bs) len fits = absurd (omega arith)
le_back (suc k) [] len fits = absurd (omega arith)
le_back (suc k) (b ∷ bs) len fits =
    let byte : b < 256 = fits 0 in
    let n : ℕ = number_from bs in
    let low : (b + 256 * n) % 256 ≡ b = omega arith in
    let high : (b + 256 * n) / 256 ≡ n = omega arith in
    let same : length bs ≡ k = omega arith in
    let rest : bytes_of k n ≡ bs = le_back k bs same (IsBytes-rest b bs fits) in
    rw (low, high, rest) refl

pub le_again : (k n : ℕ) → n < 256 ^ k → number_from (bytes_of k n) ≡ n
le_again zero n h = let e : 256 ^ 0 ≡ 1 = pow-zero 256 in omega (arith, e)
le_again (suc k) n h =
    let e : 256 ^ suc k ≡ 256 * 256 ^ k = pow-succ' 256 k in
    let less : n / 256 < 256 ^ k = omega (arith, e) in
    rw (le_again k (n / 256) less) (let whole : n % 256 + 256 * (n / 256) ≡ n = omega arith in whole)

-- ---- constants

constant_take : (shape : Shape) (before : ℕ) (bytes : List ℕ) (x : ℕ × List ℕ) → IsBytes bytes → constant_at shape before bytes ≡ Ok x → Takes bytes (bytes_of shape.bytes x.0) x.1 × FitsConstant shape before x.0
unfolding constant_at
constant_take shape before bytes x fits e =
    let n : ℕ = number_from (take shape.bytes bytes) in
    let g = not_refused (ltb (length bytes) shape.bytes) _ (cond (ltb before n && ltb n shape.size) (Ok (n, drop shape.bytes bytes)) (stops Constant bytes)) x e in
    let long : shape.bytes ≤ length bytes = ltb-false _ _ g.0 in
    let h = passed (ltb before n && ltb n shape.size) _ (Ok (n, drop shape.bytes bytes)) x g.1 in
    let two = and_parts (ltb before n) (ltb n shape.size) h.0 in
    let back : bytes_of shape.bytes n ≡ take shape.bytes bytes = le_back shape.bytes (take shape.bytes bytes) (omega (arith, length-take shape.bytes bytes)) (IsBytes-take shape.bytes bytes fits) in
    subst (λ (y : ℕ × List ℕ). Takes bytes (bytes_of shape.bytes y.0) y.1 × FitsConstant shape before y.0) (ok_is (n, drop shape.bytes bytes) x h.1) (
      record { parts = sym (take-append-drop shape.bytes bytes) ∙ ap (λ (t : List ℕ). t ++ drop shape.bytes bytes) (sym back); rest_fits = IsBytes-drop shape.bytes bytes fits },
      record { above = ltb-true before n two.0; below = ltb-true n shape.size two.1 },
    )

constant_again : (shape : Shape) → shape.size ≤ 256 ^ shape.bytes → (before c : ℕ) (rest : List ℕ) → FitsConstant shape before c → constant_at shape before (bytes_of shape.bytes c ++ rest) ≡ Ok (c, rest)
unfolding constant_at
constant_again shape room before c rest fits =
    let k : ℕ = shape.bytes in
    let len = le_length k c in
    let long : ltb (length (bytes_of k c ++ rest)) k ≡ false = le-ltb _ _ (omega (arith, length-append (bytes_of k c) rest)) in
    let value : number_from (bytes_of k c) ≡ c = le_again k c (omega (arith, fits.below)) in
    rw (long, take_at (bytes_of k c) rest k len, drop_at (bytes_of k c) rest k len, value, lt-ltb before c fits.above, lt-ltb c shape.size fits.below) refl

pub constants_take : (shape : Shape) (count : ℕ) (bytes : List ℕ) (x : List ℕ × List ℕ) → IsBytes bytes → constants_at shape count bytes ≡ Ok x → Takes bytes (constants_bytes shape x.0) x.1 × (length x.0 ≡ count) × AreConstants shape 0 x.0
unfolding constants_bytes
constants_take shape count bytes x fits e = many_takes as_last (constant_at shape) (λ before c. bytes_of shape.bytes c) (FitsConstant shape) (constant_take shape) count 0 bytes x fits e

pub constants_again : (shape : Shape) → shape.size ≤ 256 ^ shape.bytes → (cs : List ℕ) (rest : List ℕ) → AreConstants shape 0 cs → constants_at shape (length cs) (constants_bytes shape cs ++ rest) ≡ Ok (cs, rest)
unfolding constants_bytes
constants_again shape room cs rest fits = many_again as_last (constant_at shape) (λ before c. bytes_of shape.bytes c) (FitsConstant shape) (constant_again shape room) cs 0 rest fits
