-- Lists that are filled place by place with a function's values.
use Rattle.std.specs.Prelude.{◌≡◌, ℕ, ◌<◌, ◌+◌, List, length, map, take, drop, ◌++◌, slice_index_or, slice_set}
use Rattle.std.specs.List.{range_with_len, refill}
use Rattle.std.proofs.Common.{sym, ap, ◌∙◌, arith}
use Rattle.std.proofs.lemmas.List.{same_lists, get_or_default, get_or-set_same, get_or-set_other}
use Rattle.std.proofs.lemmas.List.FromFn.{get_or-map-range_with_len, length-map-range_with_len}
use Rattle.std.proofs.Math.Seq.{take-append_seam}
use native.Mathlib.Decide.{dec_lt}

-- a list that is written over whole
pub refill_whole : {X : Type 0} (n : ℕ) (xs ws : List X) → length ws ≡ n → refill n xs ws ≡ ws
refill_whole n xs ws e = ap (λ k. take k (ws ++ drop (length ws) xs)) (sym e) ∙ take-append_seam ws (drop (length ws) xs)

module _ {X : Type 0} (d : X) where
  -- the places below j have the values
  abbrev pub IsFilled : (ℕ → X) → ℕ → List X → Type 0
  IsFilled f j xs = (k : ℕ) → k < j → slice_index_or xs k d ≡ f k

  -- one more is written
  pub filled_more : (f : ℕ → X) (j : ℕ) (xs : List X) (x : X) → j < length xs → x ≡ f j → IsFilled f j xs → IsFilled f (j + 1) (slice_set xs j x)
  filled_more f j xs x within is old k h =
      elim (dec_lt k j) [
        | yes l ↦ get_or-set_other xs j k x d (omega arith) ∙ old k l
        | no l ↦ let same : k ≡ j = omega arith in ap (λ i. slice_index_or (slice_set xs j x) i d) same ∙ get_or-set_same xs j x d within ∙ is ∙ ap f (sym same)
      ]

  -- all are written
  pub filled_whole : (f : ℕ → X) (n : ℕ) (xs : List X) → length xs ≡ n → IsFilled f n xs → xs ≡ map f (range_with_len 0 n)
  filled_whole f n xs size each =
      same_lists xs (map f (range_with_len 0 n)) (size ∙ sym (length-map-range_with_len f 0 n))
      (λ k e h.
      get_or_default xs k e d h ∙ each k (omega arith) ∙ sym (get_or-map-range_with_len f 0 n k k e (omega arith) (omega arith)))
