-- Rows that are filled chunk by chunk.
use Rattle.std.specs.Prelude.{◌≡◌, ℕ, ◌+◌, ◌-◌, ◌*◌, ◌/◌, ◌%◌, ◌<◌, ◌≤◌, min, List, length, drop}
use Rattle.std.specs.Fork.{slice_chunk}
use Rattle.std.specs.Int.{div_ceil}
use Rattle.std.proofs.Common.{suc, sym, ap, ◌∙◌, arith, subst, length-take, length-drop}
use Rattle.std.proofs.Math.Nat.{suc-mul, mul-le-mul_right, mul-div_cancel}
use Rattle.std.proofs.lemmas.Nat.{div-add-mod'}
use Rattle.std.proofs.lemmas.List.{get_or-take, get_or-drop}
use Rattle.lzk_field.specs.Coding.{Coding}
use Rattle.lzk_field.specs.Ring.{Ops}
use Rattle.lzk_field.specs.Sums.{entry}
use Rattle.lzk_poly.specs.Extension.{extension}
use Rattle.lzk_layout.specs.declared.params.Params.{Params}
use Rattle.lzk_layout.specs.Sizes.{AreBounded}
use Rattle.lzk_ligero_tableau.specs.Filled.{AreFilled, filled_row, place_in_chunks}
use Rattle.lzk_ligero_tableau.proofs.GapLaws.{chunk_inside, some_each, each_few, few_chunks}
use Rattle.lzk_ligero_tableau.proofs.ChunkLaws.{size, used, some_size, chunk_of, chunk_long, begins_used}

-- so many rows a chunk and so many chunks, where there are no more chunks than workers
pub record AreShared (p : Params) (workers room each of : ℕ) : Type 0 where
  pub wide : 0 < p.ncol
  pub some : 0 < each
  pub rows : each * p.ncol ≤ p.nrow * p.ncol
  pub one : room ≤ workers * room
  pub rooms : of * room ≤ workers * room

pub shared : (p : Params) (workers room each of : ℕ) → AreBounded p → 1 ≤ workers → each ≡ div_ceil p.nrow workers → of ≡ div_ceil p.nrow each → AreShared p workers room each of
shared p workers room each of b working is_each is_of =
    let some_rows : 0 < p.nrow = omega (arith, b.rows) in
    let few : div_ceil p.nrow each ≤ workers = subst (λ n. div_ceil p.nrow n ≤ workers) (sym is_each) (few_chunks p.nrow workers some_rows working) in
    let whole : each ≤ p.nrow = subst (λ n. n ≤ p.nrow) (sym is_each) (each_few p.nrow workers working) in
    let one : 1 * room ≤ workers * room = mul-le-mul_right room working in
    record {
      wide = omega (arith, b.columns, b.mcol, b.block);
      some = subst (λ n. 0 < n) (sym is_each) (some_each p.nrow workers some_rows working);
      rows = mul-le-mul_right p.ncol whole;
      one = omega (arith, one);
      rooms = mul-le-mul_right room (subst (λ n. n ≤ workers) (sym is_of) few);
    }

module _ {A : Type 0} (o : Ops A) (e : Coding A) (word : ℕ → ℕ) (p : Params) (elements : List A) (each room : ℕ) (wide : 0 < p.ncol) (some : 0 < each) where
  abbrev whole : ℕ
  whole = size p.nrow p.ncol each room wide some

  -- a chunk before and after it is filled
  abbrev pub IsDone : List A → List A → ℕ → Type 0
  IsDone xs ys n =
      (a : List A) × ((b : List A) × ((a ≡ slice_chunk xs whole n) × ((b ≡ slice_chunk ys whole n) × AreFilled o e word p elements (n * whole / whole * each) ((length a - room) / p.ncol) b)))

  pub chunks_filled : (xs ys : List A) → length xs ≡ used p.nrow p.ncol each room wide some → ((n : ℕ) → n * whole < length xs → IsDone xs ys n)
      → (i k : ℕ) → i < p.nrow → k < p.ncol → entry o ys (place_in_chunks each p.ncol room i k) ≡ extension o e.element (filled_row o e word p elements i) k
  chunks_filled xs ys long chunks i k hi hk =
      let n = i / each in
      let q = i % each in
      let parts : n * each + q ≡ i = div-add-mod' i each in
      let below : n < div_ceil p.nrow each = chunk_of p.nrow each some i hi in
      let inside : n * whole < length xs = omega (arith, begins_used p.nrow p.ncol each room wide some n below, long) in
      let d = chunks n inside in
      let a = d.0 in
      let b = d.1.0 in
      let own : length a ≡ min each (p.nrow - n * each) * p.ncol + room =
      ap length d.1.1.0 ∙ length-take whole (drop (n * whole) xs) ∙ ap (min whole) (length-drop (n * whole) xs ∙ ap (λ m. m - n * whole) long) ∙ chunk_long p.nrow p.ncol each room wide some n below in
      let rows_only : length a - room ≡ min each (p.nrow - n * each) * p.ncol = omega (arith, own) in
      let count : (length a - room) / p.ncol ≡ min each (p.nrow - n * each) = ap (λ m. m / p.ncol) rows_only ∙ mul-div_cancel (min each (p.nrow - n * each)) wide in
      let first : n * whole / whole ≡ n = mul-div_cancel n (some_size p.nrow p.ncol each room wide some) in
      let begins : n * whole / whole * each ≡ n * each = ap (λ m. m * each) first in
      let row_inside : suc q * p.ncol ≤ each * p.ncol = mul-le-mul_right p.ncol (omega arith) in
      let place : place_in_chunks each p.ncol room i k ≡ n * whole + (q * p.ncol + k) = omega arith in
      let short : q * p.ncol + k < whole = omega (arith, row_inside, suc-mul q p.ncol) in
      let number : n * whole / whole * each + q ≡ i = omega (arith, begins, parts) in
      ap (entry o ys) place
      ∙ sym (get_or-drop (n * whole) ys (q * p.ncol + k) o.zero)
      ∙ sym (get_or-take whole (drop (n * whole) ys) (q * p.ncol + k) o.zero short)
      ∙ sym (ap (λ zs. entry o zs (q * p.ncol + k)) d.1.1.1.0)
      ∙ d.1.1.1.1.values q k (omega (arith, count, parts)) hk
      ∙ ap (λ m. extension o e.element (filled_row o e word p elements m) k) number

  -- a value of a row stands within the chunks
  pub place_inside : (i k : ℕ) → i < p.nrow → k < p.ncol → place_in_chunks each p.ncol room i k < used p.nrow p.ncol each room wide some
  place_inside i k hi hk =
      let n = i / each in
      let q = i % each in
      let count = min each (p.nrow - n * each) in
      let parts : n * each + q ≡ i = div-add-mod' i each in
      let below : n < div_ceil p.nrow each = chunk_of p.nrow each some i hi in
      let inside = chunk_inside p.nrow p.ncol each room some n (div_ceil p.nrow each) below (omega arith) in
      let own : q < each = omega arith in
      let short : q < count = omega (arith, parts) in
      let row_inside : suc q * p.ncol ≤ count * p.ncol = mul-le-mul_right p.ncol short in
      omega (arith, inside, row_inside, suc-mul q p.ncol)
