-- Words that follow from one another as the standard says are those of its schedule and its rounds.
use Rattle.std.specs.Prelude.{◌≡◌, ℕ, ◌+◌, ◌-◌, ◌*◌, ◌%◌, ◌^◌, ◌<◌, ◌≤◌, List, [], ◌∷◌, slice_index, nat_lt, if◌then◌else◌}
use Rattle.std.proofs.Common.{refl, sym, ap, ◌∙◌, arith, zero, suc, inl, inr}
use Rattle.std.proofs.Math.Nat.{mod-add-mod, add-mod-mod}
use Rattle.std.proofs.lemmas.Bool.{cases_lt}
use Rattle.sha2.specs.Sha256.{word_at, schedule, next_word, rounds, round, round_constants, add_state, compress, temp1, temp2, add32}
use Rattle.sha2.specs.Sha256 as standard
use Rattle.sha2.proofs.Schedule256.{slice_index-schedule_first, slice_index-schedule_next}
use Rattle.lzk_sha_circuit.specs.Inputs.{first_total, second_total}
use Rattle.lzk_sha_circuit.proofs.WordSums.{next_number, first_number, second_number}

-- ---- sums whose carries are dropped on the way
four : (m a b c d : ℕ) → (((a + b) % m + c) % m + d) % m ≡ (a + b + c + d) % m
four m a b c d = simp (mod-add-mod)

five : (m a b c d e : ℕ) → ((((a + b) % m + c) % m + d) % m + e) % m ≡ (a + b + c + d + e) % m
five m a b c d e = simp (mod-add-mod)

sum_of_two : (m a b x y : ℕ) → a ≡ x % m → b ≡ y % m → (a + b) % m ≡ (x + y) % m
sum_of_two m a b x y ea eb = (λ i. (ea i + eb i) % m) ∙ mod-add-mod x m (y % m) ∙ add-mod-mod x y m

second_of_two : (m a b y : ℕ) → b ≡ y % m → (a + b) % m ≡ (a + y) % m
second_of_two m a b y eb = ap (λ v. (a + v) % m) eb ∙ add-mod-mod a y m

-- ---- the schedule
pub next_word_is : (w : List ℕ) (t : ℕ) → next_word w t ≡ next_number (slice_index w) t % 2 ^ 32
next_word_is w t = four (2 ^ 32) (standard.small_sigma1 (slice_index w (t - 2))) (slice_index w (t - 7)) (standard.small_sigma0 (slice_index w (t - 15))) (slice_index w (t - 16))

module _ (block : List ℕ) (w : ℕ → ℕ) (first : (t : ℕ) → t < 16 → w t ≡ word_at block (4 * t)) (next : (t : ℕ) → 16 ≤ t → t < 64 → w t ≡ next_number w t % 2 ^ 32) where
  schedule_below : (n t : ℕ) → t < n → t < 64 → w t ≡ slice_index (schedule block 48) t
  schedule_below zero t lt few = absurd (omega arith)
  schedule_below (suc n) t lt few = elim (cases_lt t 16) [
    | inl low ↦ first t low ∙ sym (slice_index-schedule_first block 48 t low)
    | inr high ↦
        let ws = schedule block 48 in
        let e2 = schedule_below n (t - 2) (omega arith) (omega arith) in
        let e7 = schedule_below n (t - 7) (omega arith) (omega arith) in
        let e15 = schedule_below n (t - 15) (omega arith) (omega arith) in
        let e16 = schedule_below n (t - 16) (omega arith) (omega arith) in
        next t high few
        ∙ (λ i. (standard.small_sigma1 (e2 i) + e7 i + standard.small_sigma0 (e15 i) + e16 i) % 2 ^ 32)
        ∙ sym (next_word_is ws t) ∙ sym (slice_index-schedule_next block 48 t high few)
  ]

  pub schedule_is : (t : ℕ) → t < 64 → w t ≡ slice_index (schedule block 48) t
  schedule_is t few = schedule_below (suc t) t (omega arith) few

-- ---- the rounds

-- the working variables before round t, from words that begin four places before it
abbrev pub variables : (ℕ → ℕ) → (ℕ → ℕ) → ℕ → List ℕ
variables a e t = a (t + 3) ∷ a (t + 2) ∷ a (t + 1) ∷ a t ∷ e (t + 3) ∷ e (t + 2) ∷ e (t + 1) ∷ e t ∷ []

pub temp1_is : (v : List ℕ) (k w : ℕ) → temp1 v k w ≡ first_total v k w % 2 ^ 32
temp1_is v k w = five (2 ^ 32) (slice_index v 7) (standard.big_sigma1 (slice_index v 4)) (standard.ch (slice_index v 4) (slice_index v 5) (slice_index v 6)) k w

-- the words A and E of a round are sums without their carries
pub a_of_round : (v : List ℕ) (k w : ℕ) → add32 (temp1 v k w) (temp2 v) ≡ (first_total v k w + second_total v) % 2 ^ 32
a_of_round v k w = sum_of_two (2 ^ 32) (temp1 v k w) (temp2 v) (first_total v k w) (second_total v) (temp1_is v k w) refl

pub e_of_round : (v : List ℕ) (k w : ℕ) → add32 (slice_index v 3) (temp1 v k w) ≡ (slice_index v 3 + first_total v k w) % 2 ^ 32
e_of_round v k w = second_of_two (2 ^ 32) (slice_index v 3) (temp1 v k w) (first_total v k w) (temp1_is v k w)

-- a round on them gives the next ones
pub round_is : (a e : ℕ → ℕ) (t k w : ℕ) → a (t + 4) ≡ (first_number k w e t + second_number a t) % 2 ^ 32 → e (t + 4) ≡ (a t + first_number k w e t) % 2 ^ 32
    → round (variables a e t) k w ≡ variables a e (suc t)
round_is a e t k w ea ee =
    let v = variables a e t in
    let next_a : add32 (temp1 v k w) (temp2 v) ≡ a (t + 4) = a_of_round v k w ∙ sym ea in
    let next_e : add32 (a t) (temp1 v k w) ≡ e (t + 4) = e_of_round v k w ∙ sym ee in
    let p4 : t + 4 ≡ suc t + 3 = omega arith in
    let p3 : t + 3 ≡ suc t + 2 = omega arith in
    let p2 : t + 2 ≡ suc t + 1 = omega arith in
    let p1 : t + 1 ≡ suc t = omega arith in
    (λ i. next_a i ∷ a (t + 3) ∷ a (t + 2) ∷ a (t + 1) ∷ next_e i ∷ e (t + 3) ∷ e (t + 2) ∷ e (t + 1) ∷ [])
    ∙ (λ i. a (p4 i) ∷ a (p3 i) ∷ a (p2 i) ∷ a (p1 i) ∷ e (p4 i) ∷ e (p3 i) ∷ e (p2 i) ∷ e (p1 i) ∷ [])

module _ (ws : List ℕ) (a e : ℕ → ℕ)
    (next_a : (t : ℕ) → t < 64 → a (t + 4) ≡ (first_number (slice_index round_constants t) (slice_index ws t) e t + second_number a t) % 2 ^ 32)
    (next_e : (t : ℕ) → t < 64 → e (t + 4) ≡ (a t + first_number (slice_index round_constants t) (slice_index ws t) e t) % 2 ^ 32) where
  pub rounds_are : (h : List ℕ) → h ≡ variables a e 0 → (t : ℕ) → t ≤ 64 → rounds h ws t ≡ variables a e t
  unfolding rounds
  rounds_are h start zero le = start
  rounds_are h start (suc t) le =
      ap (λ v. round v (slice_index round_constants t) (slice_index ws t)) (rounds_are h start t (omega arith))
      ∙ round_is a e t (slice_index round_constants t) (slice_index ws t) (next_a t (omega arith)) (next_e t (omega arith))

-- ---- the digest

-- the word that is added to word i of the hash value
abbrev pub last_number : (ℕ → ℕ) → (ℕ → ℕ) → ℕ → ℕ
last_number a e i = if nat_lt i 4 then a (67 - i) else e (71 - i)

pub eight_cases : (P : ℕ → Type 0) → P 0 → P 1 → P 2 → P 3 → P 4 → P 5 → P 6 → P 7 → (i : ℕ) → i < 8 → P i
eight_cases P p0 p1 p2 p3 p4 p5 p6 p7 zero lt = p0
eight_cases P p0 p1 p2 p3 p4 p5 p6 p7 (suc zero) lt = p1
eight_cases P p0 p1 p2 p3 p4 p5 p6 p7 (suc (suc zero)) lt = p2
eight_cases P p0 p1 p2 p3 p4 p5 p6 p7 (suc (suc (suc zero))) lt = p3
eight_cases P p0 p1 p2 p3 p4 p5 p6 p7 (suc (suc (suc (suc zero)))) lt = p4
eight_cases P p0 p1 p2 p3 p4 p5 p6 p7 (suc (suc (suc (suc (suc zero))))) lt = p5
eight_cases P p0 p1 p2 p3 p4 p5 p6 p7 (suc (suc (suc (suc (suc (suc zero)))))) lt = p6
eight_cases P p0 p1 p2 p3 p4 p5 p6 p7 (suc (suc (suc (suc (suc (suc (suc zero))))))) lt = p7
eight_cases P p0 p1 p2 p3 p4 p5 p6 p7 (suc (suc (suc (suc (suc (suc (suc (suc i)))))))) lt = absurd (omega arith)

-- word i of the state behind the block
pub compress_is : (h block : List ℕ) (a e : ℕ → ℕ) → rounds h (schedule block 48) 64 ≡ variables a e 64 → (i : ℕ) → i < 8
    → slice_index (compress h block) i ≡ (slice_index h i + last_number a e i) % 2 ^ 32
unfolding compress
compress_is h block a e eq i lt =
    ap (λ v. slice_index (add_state h v) i) eq
    ∙ eight_cases (λ j. slice_index (add_state h (variables a e 64)) j ≡ (slice_index h j + last_number a e j) % 2 ^ 32) refl refl refl refl refl refl refl refl i lt
