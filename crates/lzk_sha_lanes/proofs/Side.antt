-- Four lanes, one by one.
use Rattle.std.proofs.Common.{◌≡◌, ℕ, zero, suc, ◌<◌, ◌-◌, ◌*◌, ◌/◌, ◌%◌, ◌^◌, List, [], ◌∷◌, length, slice_index, slice_index_or, slice_set, bit_or, Fits, w32, arith, refl}
use Rattle.std.specs.Simd.Lanes.{zip2, Each1}
use Rattle.std.proofs.lemmas.Simd.{Each1-get_or}
use Rattle.std.proofs.lemmas.List.{map-set}
use Rattle.std.specs.Int.{rotate_right}
use Rattle.sha2.specs.Sha256.{add32, add_state}
use Rattle.lzk_sha_lanes.specs.Lanes.{lane, of_four}

-- what holds of each of the four lanes
pub below_four : (P : ℕ → Type 0) → P 0 → P 1 → P 2 → P 3 → (j : ℕ) → j < 4 → P j
below_four P p0 p1 p2 p3 zero h = p0
below_four P p0 p1 p2 p3 (suc zero) h = p1
below_four P p0 p1 p2 p3 (suc (suc zero)) h = p2
below_four P p0 p1 p2 p3 (suc (suc (suc zero))) h = p3
below_four P p0 p1 p2 p3 (suc (suc (suc (suc n)))) h = absurd (omega arith)

-- what holds of each list of four elements
pub four_lanes : (P : List ℕ → Type 0) → ((a b c d : ℕ) → P (a ∷ b ∷ c ∷ d ∷ [])) → (xs : List ℕ) → length xs ≡ 4 → P xs
four_lanes P p (a ∷ b ∷ c ∷ d ∷ []) h = p a b c d
four_lanes P p [] h = absurd (omega arith)
four_lanes P p (a ∷ []) h = absurd (omega arith)
four_lanes P p (a ∷ b ∷ []) h = absurd (omega arith)
four_lanes P p (a ∷ b ∷ c ∷ []) h = absurd (omega arith)
four_lanes P p (a ∷ b ∷ c ∷ d ∷ e ∷ xs) h = absurd (omega arith)

-- a lane is a word
pub lane_fits : (xs : List ℕ) → length xs ≡ 4 → Each1 (Fits w32) xs → (j : ℕ) → j < 4 → slice_index xs j < 2 ^ 32
lane_fits xs long each j h = (Each1-get_or (Fits w32) xs j 0 (omega arith) each).fits

-- a shift of each lane
abbrev Shifts : ℕ → List ℕ → Type 0
Shifts k x = (j : ℕ) → j < 4 → slice_index (zip2 (λ x n. x / 2 ^ n) x (k ∷ k ∷ k ∷ k ∷ [])) j ≡ slice_index x j / 2 ^ k

pub shifts_each : (k : ℕ) → (x : List ℕ) → length x ≡ 4 → Shifts k x
shifts_each k = four_lanes (Shifts k) (λ a b c d. below_four _ refl refl refl refl)

-- two shifts of each lane and an or are a rotation
abbrev Rotates : ℕ → List ℕ → Type 0
Rotates k x = (j : ℕ) → j < 4
    → slice_index (zip2 bit_or
    (zip2 (λ x n. x / 2 ^ n) x (k ∷ k ∷ k ∷ k ∷ []))
    (zip2 (λ x n. x * 2 ^ n % 2 ^ 32) x ((32 - k) ∷ (32 - k) ∷ (32 - k) ∷ (32 - k) ∷ []))) j
    ≡ rotate_right w32 (slice_index x j) k

pub shifts_rotate : (k : ℕ) → 0 < k → k < 32 → (x : List ℕ) → length x ≡ 4 → Rotates k x
shifts_rotate k low high =
    let left : k % 32 ≡ k = omega arith in
    let right : (32 - k) % 32 ≡ 32 - k = omega arith in
    four_lanes (Rotates k) (λ a b c d.
    below_four _ (rw (left, right) refl) (rw (left, right) refl) (rw (left, right) refl) (rw (left, right) refl))

-- a word that stands in each lane
pub splat_at : (k j : ℕ) → j < 4 → slice_index (k ∷ k ∷ k ∷ k ∷ []) j ≡ k
splat_at k = below_four _ refl refl refl refl

-- word k of a lane
pub slice_index-lane : (j : ℕ) (vs : List (List ℕ)) (k : ℕ) → slice_index (lane j vs) k ≡ slice_index (slice_index_or vs k []) j
slice_index-lane j [] k = refl
slice_index-lane j (v ∷ vs) zero = refl
slice_index-lane j (v ∷ vs) (suc k) = slice_index-lane j vs k

-- a lane of vectors of which one is changed
pub lane-set : (j : ℕ) (vs : List (List ℕ)) (k : ℕ) (v : List ℕ) → lane j (slice_set vs k v) ≡ slice_set (lane j vs) k (slice_index v j)
lane-set j vs k v = map-set (λ x. slice_index x j) vs k v

-- what is done to each of four lists
pub of_four-each : (f : List ℕ → List ℕ) (a b c d : List ℕ) → (j : ℕ) → j < 4 → of_four (f a) (f b) (f c) (f d) j ≡ f (of_four a b c d j)
of_four-each f a b c d = below_four _ refl refl refl refl

-- the length of each of four lists
pub length-of_four : (a b c d : List ℕ) → length b ≡ length a → length c ≡ length a → length d ≡ length a
    → (j : ℕ) → j < 4 → length (of_four a b c d j) ≡ length a
length-of_four a b c d eb ec ed = below_four _ refl eb ec ed

-- sums of the words of two states in a lane
pub add_lanes : (j : ℕ) (hs vs : List (List ℕ)) (r0 r1 r2 r3 r4 r5 r6 r7 : ℕ)
    → r0 ≡ add32 (slice_index (slice_index_or hs 0 []) j) (slice_index (slice_index_or vs 0 []) j)
    → r1 ≡ add32 (slice_index (slice_index_or hs 1 []) j) (slice_index (slice_index_or vs 1 []) j)
    → r2 ≡ add32 (slice_index (slice_index_or hs 2 []) j) (slice_index (slice_index_or vs 2 []) j)
    → r3 ≡ add32 (slice_index (slice_index_or hs 3 []) j) (slice_index (slice_index_or vs 3 []) j)
    → r4 ≡ add32 (slice_index (slice_index_or hs 4 []) j) (slice_index (slice_index_or vs 4 []) j)
    → r5 ≡ add32 (slice_index (slice_index_or hs 5 []) j) (slice_index (slice_index_or vs 5 []) j)
    → r6 ≡ add32 (slice_index (slice_index_or hs 6 []) j) (slice_index (slice_index_or vs 6 []) j)
    → r7 ≡ add32 (slice_index (slice_index_or hs 7 []) j) (slice_index (slice_index_or vs 7 []) j)
    → r0 ∷ r1 ∷ r2 ∷ r3 ∷ r4 ∷ r5 ∷ r6 ∷ r7 ∷ [] ≡ add_state (lane j hs) (lane j vs)
add_lanes j hs vs r0 r1 r2 r3 r4 r5 r6 r7 e0 e1 e2 e3 e4 e5 e6 e7 =
    rw (
      e0,
      e1,
      e2,
      e3,
      e4,
      e5,
      e6,
      e7,
      slice_index-lane j hs 0,
      slice_index-lane j hs 1,
      slice_index-lane j hs 2,
      slice_index-lane j hs 3,
      slice_index-lane j hs 4,
      slice_index-lane j hs 5,
      slice_index-lane j hs 6,
      slice_index-lane j hs 7,
      slice_index-lane j vs 0,
      slice_index-lane j vs 1,
      slice_index-lane j vs 2,
      slice_index-lane j vs 3,
      slice_index-lane j vs 4,
      slice_index-lane j vs 5,
      slice_index-lane j vs 6,
      slice_index-lane j vs 7,
    ) refl
