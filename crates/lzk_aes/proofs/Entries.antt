-- Each table is its definition, by computation over the whole table.
use Rattle.std.proofs.Common.{◌≡◌, ℕ, zero, suc, ◌<◌, Bool, true, ◌&&◌, false, map, List, [], ◌∷◌, refl, arith}
use Rattle.std.specs.Prelude.{slice_index}
use Rattle.std.proofs.Math.Dec.{eqb}
use Rattle.std.proofs.lemmas.Bool.{and_parts, eqb-true, cases_eq, false≢true}
use mathlib.Core.Logic.{inl, inr}
use Rattle.lzk_aes.specs.Bytes.{times_bits, inverse_from, sbox, times}
use Rattle.lzk_aes.specs.Words.{word_bytes, products}
use Rattle.lzk_aes.specs.declared.tables.TheConstants.{SBOX, COLUMN_0, COLUMN_1, COLUMN_2, COLUMN_3}

-- p holds of each number below n
abbrev pub holds_below : (ℕ → Bool) → ℕ → Bool
holds_below p zero = true
holds_below p (suc n) = p n && holds_below p n

pub holds_at : (p : ℕ → Bool) (n b : ℕ) → holds_below p n ≡ true → b < n → p b ≡ true
holds_at p zero b h lt = absurd (omega arith)
holds_at p (suc n) b h lt =
    let both = and_parts _ _ h in
    elim (cases_eq b n) [
      | inl e ↦ rw e both.0
      | inr ne ↦ holds_at p n b both.1 (omega arith)
    ]

-- the S-box's entry at a byte
abbrev pub sbox_entry : ℕ → Bool
sbox_entry b = eqb (slice_index SBOX b) (sbox b)

sbox_entries : holds_below sbox_entry 256 ≡ true
unfolding sbox inverse_from times_bits
sbox_entries = refl

pub sbox_at : (b : ℕ) → b < 256 → slice_index SBOX b ≡ sbox b
sbox_at b lt = eqb-true _ _ (holds_at sbox_entry 256 b sbox_entries lt)

-- the two lists are one
abbrev pub same : List ℕ → List ℕ → Bool
same [] [] = true
same [] (y ∷ ys) = false
same (x ∷ xs) [] = false
same (x ∷ xs) (y ∷ ys) = eqb x y && same xs ys

pub same_true : (xs ys : List ℕ) → same xs ys ≡ true → xs ≡ ys
same_true [] [] h = refl
same_true [] (y ∷ ys) h = absurd (false≢true h)
same_true (x ∷ xs) [] h = absurd (false≢true h)
same_true (x ∷ xs) (y ∷ ys) h =
    let both = and_parts _ _ h in
    rw (eqb-true x y both.0, same_true xs ys both.1)

-- the bytes of a column table's entry are the S-box's, times these factors
abbrev pub column_entry : List ℕ → List ℕ → ℕ → Bool
column_entry table factors b = same (word_bytes (slice_index table b)) (map (λ m. times m (slice_index SBOX b)) factors)

column_at : (table factors : List ℕ) → holds_below (column_entry table factors) 256 ≡ true
    → (b : ℕ) → b < 256 → word_bytes (slice_index table b) ≡ products factors b
column_at table factors h b lt =
    rw (← sbox_at b lt) (same_true _ _ (holds_at (column_entry table factors) 256 b h lt))

column_0_entries : holds_below (column_entry COLUMN_0 (2 ∷ 1 ∷ 1 ∷ 3 ∷ [])) 256 ≡ true
unfolding times_bits
column_0_entries = refl

column_1_entries : holds_below (column_entry COLUMN_1 (3 ∷ 2 ∷ 1 ∷ 1 ∷ [])) 256 ≡ true
unfolding times_bits
column_1_entries = refl

column_2_entries : holds_below (column_entry COLUMN_2 (1 ∷ 3 ∷ 2 ∷ 1 ∷ [])) 256 ≡ true
unfolding times_bits
column_2_entries = refl

column_3_entries : holds_below (column_entry COLUMN_3 (1 ∷ 1 ∷ 3 ∷ 2 ∷ [])) 256 ≡ true
unfolding times_bits
column_3_entries = refl

pub column_0_at : (b : ℕ) → b < 256 → word_bytes (slice_index COLUMN_0 b) ≡ products (2 ∷ 1 ∷ 1 ∷ 3 ∷ []) b
column_0_at = column_at COLUMN_0 (2 ∷ 1 ∷ 1 ∷ 3 ∷ []) column_0_entries

pub column_1_at : (b : ℕ) → b < 256 → word_bytes (slice_index COLUMN_1 b) ≡ products (3 ∷ 2 ∷ 1 ∷ 1 ∷ []) b
column_1_at = column_at COLUMN_1 (3 ∷ 2 ∷ 1 ∷ 1 ∷ []) column_1_entries

pub column_2_at : (b : ℕ) → b < 256 → word_bytes (slice_index COLUMN_2 b) ≡ products (1 ∷ 3 ∷ 2 ∷ 1 ∷ []) b
column_2_at = column_at COLUMN_2 (1 ∷ 3 ∷ 2 ∷ 1 ∷ []) column_2_entries

pub column_3_at : (b : ℕ) → b < 256 → word_bytes (slice_index COLUMN_3 b) ≡ products (1 ∷ 1 ∷ 3 ∷ 2 ∷ []) b
column_3_at = column_at COLUMN_3 (1 ∷ 1 ∷ 3 ∷ 2 ∷ []) column_3_entries
