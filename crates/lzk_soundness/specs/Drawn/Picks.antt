-- The columns that words pick, and how evenly they are picked.
use Rattle.lzk_shares.specs.Shares.{set_share}
use Rattle.lzk_profile.specs.Profile.{opened_count}
use Rattle.std.specs.Prelude.{◌≡◌, ◌↔◌, ℕ, ◌+◌, ◌-◌, ◌*◌, ◌/◌, ◌%◌, ◌^◌, ◌<◌, ◌≤◌, ◌&&◌, nat_eq, Bool, true, false, List, [], ◌∷◌, length, map, slice_index}
use Rattle.std.specs.List.{AllByRecursion, range_with_len}
use Rattle.std.proofs.Common.{zero, suc}
use Rattle.lzk_field.specs.Ring.{Ops}
use Rattle.lzk_transcript.specs.Tape.{TapeState}
use Rattle.lzk_transcript.specs.Columns.{draw_at, has, left_columns, picks}
use Rattle.lzk_circuit.specs.Valid.{Wiring, IsValid}
use Rattle.lzk_layout.specs.Sizes.{params_of}
use Rattle.lzk_soundness.specs.Chance.Draws.{count, draws_from}
use Rattle.lzk_soundness.specs.Chance.Few.{AreDistinct}

-- The columns that words pick one after the other, where some are picked already: a word picks by its place among those
-- that are left.
abbrev pub picked_by : ℕ → List ℕ → List ℕ → List ℕ
picked_by mcol before [] = []
picked_by mcol before (w ∷ ws) =
    slice_index (left_columns mcol before) (w % (mcol - length before))
    ∷ picked_by mcol (slice_index (left_columns mcol before) (w % (mcol - length before)) ∷ before) ws

-- a list before which another one stands in reverse
abbrev pub onto : List ℕ → List ℕ → List ℕ
onto [] ys = ys
onto (x ∷ xs) ys = onto xs (x ∷ ys)

-- So a tape picks by its draws. Its picks are listed with the last one first.
abbrev pub TapesPick : Type 0
TapesPick = (mcol m : ℕ) (t : TapeState)
    → picks mcol m t ≡ onto (picked_by mcol [] (map (λ k. draw_at k t) (range_with_len 0 m))) []

-- two lists have the same entries
abbrev pub are_same : List ℕ → List ℕ → Bool
are_same [] [] = true
are_same [] (y ∷ ys) = false
are_same (x ∷ xs) [] = false
are_same (x ∷ xs) (y ∷ ys) = nat_eq y x && are_same xs ys

-- a product of k numbers: how many words below n each of so many columns has at least, with one column less each time
abbrev pub least_words : ℕ → ℕ → ℕ → ℕ
least_words n left zero = 1
least_words n left (suc k) = n / left * least_words n (left - 1) k

-- and at most
abbrev pub most_words : ℕ → ℕ → ℕ → ℕ
most_words n left zero = 1
most_words n left (suc k) = (n / left + 1) * most_words n (left - 1) k

-- how many lists of words below n pick these columns in this order
abbrev pub picking_count : ℕ → ℕ → List ℕ → ℕ
picking_count mcol n columns =
    count (λ ws. are_same (picked_by mcol [] ws) columns) (draws_from (range_with_len 0 n) (length columns))

-- Any different columns, in any order, are picked by so many lists of words, whichever they are.
abbrev pub PicksAreEven : Type 0
PicksAreEven = (mcol n : ℕ) (columns : List ℕ) → AreDistinct columns → AllByRecursion (λ c. c < mcol) columns
    → (least_words n mcol (length columns) ≤ picking_count mcol n columns)
    × (picking_count mcol n columns ≤ most_words n mcol (length columns))

-- all entries of a list stand in another
abbrev pub all_in : List ℕ → List ℕ → Bool
all_in columns [] = true
all_in columns (x ∷ xs) = has x columns && all_in columns xs

-- how many orders k things have
abbrev pub orders : ℕ → ℕ
orders zero = 1
orders (suc k) = suc k * orders k

-- As many words as a set has columns pick it where each pick is in it.
abbrev pub SetsArePicked : Type 0
SetsArePicked = (mcol : ℕ) (columns ws : List ℕ) → AreDistinct columns → AllByRecursion (λ c. c < mcol) columns
    → length ws ≡ length columns → length columns ≤ mcol
    → (all_in columns (picked_by mcol [] ws) ≡ true)
    ↔ ((x : ℕ) → x < mcol → has x (picked_by mcol [] ws) ≡ has x columns)

-- how many lists of words below n pick this set of columns
abbrev pub set_count : ℕ → ℕ → List ℕ → ℕ
set_count mcol n columns =
    count (λ ws. all_in columns (picked_by mcol [] ws)) (draws_from (range_with_len 0 n) (length columns))

-- So each set of columns is picked by so many lists of words: those of each of its orders.
abbrev pub SetsAreEven : Type 0
SetsAreEven = (mcol n : ℕ) (columns : List ℕ) → AreDistinct columns → AllByRecursion (λ c. c < mcol) columns
    → (orders (length columns) * least_words n mcol (length columns) ≤ set_count mcol n columns)
    × (set_count mcol n columns ≤ orders (length columns) * most_words n mcol (length columns))

-- For the opened columns of a valid circuit and words of 128 bits these two numbers differ by at most one part in
-- set_share.
abbrev pub BiasIsSmall : {A : Type 0} → Ops A → Type 0
BiasIsSmall {A} o = (c : Wiring A) → IsValid o c
    → most_words (2 ^ 128) (params_of c).mcol opened_count * set_share
    ≤ least_words (2 ^ 128) (params_of c).mcol opened_count * (set_share + 1)
