-- Rows cut into chunks, with three places before each.
use Rattle.std.specs.Prelude.{◌≡◌, ℕ, ◌+◌, ◌-◌, ◌*◌, ◌/◌, ◌%◌, ◌<◌, ◌≤◌, min}
use Rattle.std.specs.Int.{div_ceil}
use Rattle.std.proofs.Common.{suc, ap, ◌∙◌, arith, inl, inr}
use Rattle.std.proofs.Math.Nat.{suc-mul, mul-le-mul_left, mul-le-mul_right}
use Rattle.std.proofs.lemmas.Bool.{cases_lt, cases_eq}
use Rattle.std.proofs.lemmas.Nat.{div-add-mod'}
use Rattle.std.proofs.lemmas.Grind.{div_ceil_times}

-- something, shared out and rounded up, is something
pub some_each : (rows parts : ℕ) → 0 < rows → 0 < parts → 0 < div_ceil rows parts
some_each rows parts some h =
    elim (cases_eq (div_ceil rows parts) 0) [
      | inl e ↦ let z : div_ceil rows parts * parts ≡ 0 * parts = ap (λ m. m * parts) e in absurd (omega (arith, z, (div_ceil_times rows parts h).0))
      | inr ne ↦ omega arith
    ]

module _ (rows each : ℕ) (some : 0 < each) where
  -- how long a whole chunk is
  abbrev pub size : ℕ
  size = 3 + each

  -- how long all chunks are
  abbrev pub used : ℕ
  used = rows + 3 * div_ceil rows each

  pub chunks_enough : rows ≤ div_ceil rows each * each
  chunks_enough = (div_ceil_times rows each some).0

  chunks_few : div_ceil rows each * each < rows + each
  chunks_few = (div_ceil_times rows each some).1

  -- there are no more chunks than parts that hold all
  pub few_chunks : (parts : ℕ) → rows ≤ parts * each → div_ceil rows each ≤ parts
  few_chunks parts h =
      elim (cases_lt parts (div_ceil rows each)) [
        | inl l ↦
            let low : suc parts * each ≤ div_ceil rows each * each = mul-le-mul_right each l in
            absurd (omega (arith, low, suc-mul parts each, chunks_few, h))
        | inr ge ↦ ge
      ]

  -- a chunk begins with a row
  pub begins_below : (n : ℕ) → n < div_ceil rows each → n * each < rows
  begins_below n h =
      let a : suc n * each ≤ div_ceil rows each * each = mul-le-mul_right each h in
      omega (arith, a, suc-mul n each, chunks_few)

  -- a chunk that is not whole is the last
  last_chunk : (n r : ℕ) → n < div_ceil rows each → rows ≡ n * each + r → r < each → div_ceil rows each ≡ suc n
  last_chunk n r h parts few =
      elim (cases_lt (suc n) (div_ceil rows each)) [
        | inl l ↦
            let a : suc (suc n) * each ≤ div_ceil rows each * each = mul-le-mul_right each l in
            absurd (omega (arith, a, suc-mul n each, suc-mul (suc n) each, chunks_few))
        | inr ge ↦ omega arith
      ]

  -- chunk n has three places and so many rows
  pub chunk_long : (n : ℕ) → n < div_ceil rows each → min size (used - n * size) ≡ 3 + min each (rows - n * each)
  chunk_long n h =
      let r = rows - n * each in
      let parts : rows ≡ n * each + r = omega (arith, begins_below n h) in
      let long : n * size ≡ n * 3 + n * each = omega arith in
      elim (cases_lt r each) [
        | inl lt ↦
            let last : div_ceil rows each ≡ suc n = last_chunk n r h parts lt in
            omega (arith, last, parts, long)
        | inr ge ↦ omega (arith, h, parts, long)
      ]

  -- chunk n begins within all chunks, and its first three places stand there
  pub begins_used : (n : ℕ) → n < div_ceil rows each → n * size + 3 < used
  begins_used n h = let long : n * size ≡ n * 3 + n * each = omega arith in omega (arith, h, long, begins_below n h)

  -- what begins within all chunks begins a chunk
  pub chunk_below : (start : ℕ) → start % size ≡ 0 → start < used → start / size < div_ceil rows each
  chunk_below start whole inside =
      elim (cases_lt (start / size) (div_ceil rows each)) [
        | inl l ↦ l
        | inr ge ↦
            let a : div_ceil rows each * size ≤ start / size * size = mul-le-mul_right size ge in
            let b : div_ceil rows each * size ≡ div_ceil rows each * 3 + div_ceil rows each * each = omega arith in
            absurd (omega (arith, a, b, chunks_enough, div-add-mod' start size))
      ]

  -- a chunk by the place where it begins
  pub cut : (start len : ℕ) → start % size ≡ 0 → start < used → len ≡ min size (used - start)
      → (start / size * each < rows) × (len ≡ 3 + min each (rows - start / size * each))
  cut start len whole begins is_len =
      let n = start / size in
      let below : n < div_ceil rows each = chunk_below start whole begins in
      let at : start ≡ n * size = omega (arith, div-add-mod' start size) in
      (begins_below n below, is_len ∙ ap (λ s. min size (used - s)) at ∙ chunk_long n below)

-- Halves that are shared out among parts: some for each, and the parts hold all.
pub shared : (rows parts half each : ℕ) → 1 ≤ rows → 1 ≤ parts → half ≡ div_ceil rows 2 → each ≡ div_ceil half parts → (0 < 2 * each) × (rows ≤ parts * (2 * each))
shared rows parts half each some h is_half is_each =
    let all : rows ≤ half * 2 = rw is_half ((div_ceil_times rows 2 (omega arith)).0) in
    let own : 0 < each = rw is_each (some_each half parts (omega (arith, all, some)) h) in
    let held : half ≤ each * parts = rw is_each ((div_ceil_times half parts h).0) in
    (omega (arith, own), omega (arith, all, held))

-- something, shared out and rounded up, is no more than it was
few_each : (rows parts : ℕ) → 0 < parts → div_ceil rows parts ≤ rows
few_each rows parts some =
    elim (cases_lt rows (div_ceil rows parts)) [
      | inl l ↦
          let low : suc rows * parts ≤ div_ceil rows parts * parts = mul-le-mul_right parts l in
          let whole : rows * 1 ≤ rows * parts = mul-le-mul_left rows some in
          absurd (omega (arith, low, suc-mul rows parts, whole, (div_ceil_times rows parts some).1))
      | inr ge ↦ ge
    ]

-- so twice a share of halves is hardly more than all
pub share_short : (rows parts half each : ℕ) → 1 ≤ parts → half ≡ div_ceil rows 2 → each ≡ div_ceil half parts → 2 * each < rows + 2
share_short rows parts half each some is_half is_each =
    omega (arith, few_each half parts some, is_half, is_each, (div_ceil_times rows 2 (omega arith)).1)

-- the same number, with the two before it
pub twice : (q each : ℕ) → q * (2 * each) ≡ 2 * (q * each)
twice q each = omega arith
