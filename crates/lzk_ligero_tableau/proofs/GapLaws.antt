-- Chunks of rows that are moved down over the room between them.
use Rattle.std.specs.Prelude.{◌≡◌, ℕ, ◌+◌, ◌-◌, ◌*◌, ◌/◌, ◌%◌, ◌<◌, ◌≤◌, min, List}
use Rattle.std.specs.Int.{div_ceil}
use Rattle.std.proofs.Common.{suc, ap, ◌∙◌, arith, inl, inr}
use Rattle.std.proofs.Math.Nat.{suc-mul, mul-le-mul_right}
use Rattle.std.proofs.lemmas.Bool.{cases_lt, cases_eq}
use Rattle.std.proofs.lemmas.Nat.{div-add-mod'}
use Rattle.lzk_field.specs.Ring.{Ops}
use Rattle.lzk_field.specs.Sums.{entry}
use Rattle.lzk_ligero_tableau.specs.Filled.{place_in_chunks}
use Rattle.lzk_ligero_tableau.proofs.ChunkLaws.{chunks_enough, chunks_few, begins_below}
use Rattle.lzk_ligero_tableau.proofs.CopyLaws.{same_row, same_position}

-- something, shared out and rounded up, is something
pub some_each : (rows workers : ℕ) → 0 < rows → 0 < workers → 0 < div_ceil rows workers
some_each rows workers some h =
    elim (cases_eq (div_ceil rows workers) 0) [
      | inl e ↦ let z : div_ceil rows workers * workers ≡ 0 * workers = ap (λ m. m * workers) e in absurd (omega (arith, z, chunks_enough rows workers h))
      | inr ne ↦ omega arith
    ]

-- a chunk has no more rows than there are
pub each_few : (rows workers : ℕ) → 0 < workers → div_ceil rows workers ≤ rows
each_few rows workers h =
    elim (cases_lt rows (div_ceil rows workers)) [
      | inl l ↦
          let a : suc rows * workers ≤ div_ceil rows workers * workers = mul-le-mul_right workers l in
          let b : 1 * rows ≤ workers * rows = mul-le-mul_right rows h in
          absurd (omega (arith, a, b, suc-mul rows workers, chunks_few rows workers h))
      | inr ge ↦ ge
    ]

-- there is at most one chunk for each worker
pub few_chunks : (rows workers : ℕ) → 0 < rows → 0 < workers → div_ceil rows (div_ceil rows workers) ≤ workers
few_chunks rows workers some h =
    let each = div_ceil rows workers in
    elim (cases_lt workers (div_ceil rows each)) [
      | inl l ↦
          let low : suc workers * each ≤ div_ceil rows each * each = mul-le-mul_right each l in
          absurd (omega (arith, low, suc-mul workers each, chunks_few rows each (some_each rows workers some h), chunks_enough rows workers h))
      | inr ge ↦ ge
    ]

module _ (rows width each room : ℕ) (some : 0 < each) where
  -- where a value of row number q of chunk n stands
  pub place_is : (i n q k : ℕ) → i ≡ n * each + q → q < each → place_in_chunks each width room i k ≡ n * (each * width + room) + q * width + k
  place_is i n q k e h =
      let whole : i / each * each + i % each ≡ n * each + q = div-add-mod' i each ∙ e in
      let row : i / each ≡ n = same_row each (i / each) n (i % each) q (omega arith) h whole in
      let position : i % each ≡ q = same_position each (i / each) n (i % each) q (omega arith) h whole in
      ap (λ m. m * (each * width + room) + i % each * width + k) row ∙ ap (λ m. n * (each * width + room) + m * width + k) position

  -- a chunk is inside of a table that has room for so many chunks
  pub chunk_inside : (n most : ℕ) → n < div_ceil rows each → n ≤ most → n * each * width + n * room + min each (rows - n * each) * width ≤ rows * width + most * room
  chunk_inside n most h few =
      let count = min each (rows - n * each) in
      let low : (n * each + count) * width ≤ rows * width = mul-le-mul_right width (omega (arith, begins_below rows each some n h)) in
      let rooms : n * room ≤ most * room = mul-le-mul_right room few in
      omega (arith, low, rooms)

  -- the next chunk begins behind what is moved
  pub chunk_ends : (n : ℕ) → n * each * width + min each (rows - n * each) * width ≤ (n + 1) * each * width
  chunk_ends n =
      let a : min each (rows - n * each) * width ≤ each * width = mul-le-mul_right width (omega arith) in
      omega (arith, a)

module _ {A : Type 0} (o : Ops A) (rows width each room : ℕ) (some : 0 < each) where
  -- the rows of the first n chunks are moved
  abbrev pub IsMoved : ℕ → List A → List A → Type 0
  IsMoved n old table = (i k : ℕ) → i < n * each → i < rows → k < width → entry o table (i * width + k) ≡ entry o old (place_in_chunks each width room i k)

  pub first_moved : (old : List A) → IsMoved 1 old old
  first_moved old i k h l m =
      let place : i * width + k ≡ place_in_chunks each width room i k = omega (arith, place_is rows width each room some i 0 i k (omega arith) (omega arith)) in
      ap (entry o old) place

  pub next_moved : (n to from count m : ℕ) (old table new : List A) → to ≡ n * each * width → from ≡ to + n * room → count ≡ min each (rows - n * each) → m ≡ count * width
      → IsMoved n old table → ((j : ℕ) → n * each * width ≤ j → entry o table j ≡ entry o old j)
      → ((k : ℕ) → k < m → entry o new (to + k) ≡ entry o table (from + k)) → ((j : ℕ) → j < to → entry o new j ≡ entry o table j)
      → IsMoved (n + 1) old new
  next_moved n to from count m old table new e_to e_from e_count e_m was later moved before i k h l hk =
      elim (cases_lt i (n * each)) [
        | inl low ↦
            let a : suc i * width ≤ n * each * width = mul-le-mul_right width low in
            before (i * width + k) (omega (arith, a, suc-mul i width)) ∙ was i k low l hk
        | inr ge ↦
            let q = i - n * each in
            let row : i ≡ n * each + q = omega arith in
            let wide : i * width ≡ (n * each + q) * width = ap (λ x. x * width) row in
            let inside : q < count = omega arith in
            let short : suc q * width ≤ count * width = mul-le-mul_right width inside in
            let at : i * width + k ≡ to + (q * width + k) = omega (arith, wide) in
            let place : from + (q * width + k) ≡ place_in_chunks each width room i k = omega (arith, place_is rows width each room some i n q k row (omega arith)) in
            ap (entry o new) at
            ∙ moved (q * width + k) (omega (arith, short, suc-mul q width))
            ∙ later (from + (q * width + k)) (omega arith)
            ∙ ap (entry o old) place
      ]
