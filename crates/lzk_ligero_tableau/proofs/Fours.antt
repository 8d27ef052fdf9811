-- Four columns at a time.
use Rattle.std.specs.Prelude.{◌≡◌, ℕ, zero, suc, ◌+◌, ◌-◌, ◌*◌, ◌%◌, ◌^◌, ◌<◌, List, [], ◌∷◌, ◌++◌, length, slice_index_or, slice_set}
use Rattle.std.proofs.Common.{ap, ◌∙◌, arith, inl, inr}
use Rattle.std.proofs.lemmas.Bool.{cases_lt}
use Rattle.std.proofs.lemmas.List.{get_or-set_same, get_or-set_other}
use Rattle.lzk_field.specs.Bytes.{bytes_of}
use Rattle.lzk_layout.specs.declared.params.Params.{Params}
use Rattle.lzk_ligero_tableau.specs.Filled.{nonce_at}
use Rattle.lzk_ligero_tableau.specs.Tableau.{low_words, nonce_words}

-- two words are a column's nonce
pub nonce_from : (at : ℕ → ℕ) (p : Params) (j low high a b : ℕ) (nonce : List ℕ) → nonce ≡ bytes_of 16 low ++ bytes_of 16 high
    → low ≡ at a % 2 ^ 128 → high ≡ at b % 2 ^ 128 → a ≡ nonce_words p + 2 * j → b ≡ nonce_words p + 2 * j + 1 → nonce ≡ nonce_at (low_words at) p j
nonce_from at p j low high a b nonce en el eh ea eb =
    let first : low ≡ low_words at (nonce_words p + 2 * j) = el ∙ ap (low_words at) ea in
    let second : high ≡ low_words at (nonce_words p + 2 * j + 1) = eh ∙ ap (low_words at) eb in
    en ∙ ap (λ (x : ℕ). bytes_of 16 x ++ bytes_of 16 high) first ∙ ap (λ (x : ℕ). bytes_of 16 (low_words at (nonce_words p + 2 * j)) ++ bytes_of 16 x) second

-- what holds of each of four
pub below_four : (P : ℕ → Type 0) → P 0 → P 1 → P 2 → P 3 → (j : ℕ) → j < 4 → P j
below_four P p0 p1 p2 p3 zero h = p0
below_four P p0 p1 p2 p3 (suc zero) h = p1
below_four P p0 p1 p2 p3 (suc (suc zero)) h = p2
below_four P p0 p1 p2 p3 (suc (suc (suc zero))) h = p3
below_four P p0 p1 p2 p3 (suc (suc (suc (suc n)))) h = absurd (omega arith)

-- four more leaves are set
pub four_more : (digest : ℕ → List ℕ) (first q : ℕ) (old new four : List (List ℕ))
    → ((k : ℕ) → k < 4 * q → slice_index_or old k [] ≡ digest (first + k))
    → ((k : ℕ) → k < 4 → slice_index_or new (4 * q + k) [] ≡ slice_index_or four k [])
    → ((k : ℕ) → k < 4 * q → slice_index_or new k [] ≡ slice_index_or old k [])
    → ((k : ℕ) → k < 4 → slice_index_or four k [] ≡ digest (first + 4 * q + k))
    → (k : ℕ) → k < 4 * (q + 1) → slice_index_or new k [] ≡ digest (first + k)
four_more digest first q old new four before set others are k lt = elim (cases_lt k (4 * q)) [
  | inl a ↦ others k a ∙ before k a
  | inr b ↦
      let m : ℕ = k - 4 * q in
      let place : k ≡ 4 * q + m = omega arith in
      let number : first + 4 * q + m ≡ first + k = omega arith in
      let below : m < 4 = omega arith in
      ap (λ (i : ℕ). slice_index_or new i []) place ∙ set m below ∙ are m below ∙ ap digest number
]

-- one more leaf is set
pub leaf_more : (digest : ℕ → List ℕ) (first i : ℕ) (old : List (List ℕ)) (d : List ℕ) → i < length old
    → ((k : ℕ) → k < i → slice_index_or old k [] ≡ digest (first + k)) → d ≡ digest (first + i)
    → (k : ℕ) → k < i + 1 → slice_index_or (slice_set old i d) k [] ≡ digest (first + k)
leaf_more digest first i old d inside before is k lt = elim (cases_lt k i) [
  | inl a ↦ get_or-set_other old i k d [] (omega arith) ∙ before k a
  | inr b ↦
      let e : i ≡ k = omega arith in
      rw (← e) (get_or-set_same old i d [] inside ∙ is)
]

-- the digests of four columns in a row
pub are_four : (digest : ℕ → List ℕ) (j : ℕ) (four : List (List ℕ)) → four ≡ digest j ∷ digest (j + 1) ∷ digest (j + 2) ∷ digest (j + 3) ∷ []
    → (k : ℕ) → k < 4 → slice_index_or four k [] ≡ digest (j + k)
are_four digest j four e =
    let zero_more : j ≡ j + 0 = omega arith in
    below_four (λ k. slice_index_or four k [] ≡ digest (j + k))
    (ap (λ (l : List (List ℕ)). slice_index_or l 0 []) e ∙ ap digest zero_more)
    (ap (λ (l : List (List ℕ)). slice_index_or l 1 []) e)
    (ap (λ (l : List (List ℕ)). slice_index_or l 2 []) e)
    (ap (λ (l : List (List ℕ)). slice_index_or l 3 []) e)
