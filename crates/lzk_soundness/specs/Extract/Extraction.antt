-- The private inputs that a table encodes.
use Rattle.lzk_profile.specs.Profile.{opened_count}
use Rattle.std.specs.Prelude.{ℕ, ◌+◌, ◌==◌, nat_le, Bool, true, false, cond, List, [], ◌∷◌, map, replicate}
use Rattle.std.specs.List.{range_with_len}
use Rattle.lzk_field.specs.Coding.{Coding}
use Rattle.lzk_field.specs.Ring.{Ops}
use Rattle.lzk_field.specs.Sums.{entry}
use Rattle.lzk_poly.specs.Extension.{extension}
use Rattle.lzk_soundness.specs.Chance.Draws.{count, draws_from}
use Rattle.lzk_circuit.specs.Valid.{Wiring}
use Rattle.lzk_layout.specs.declared.params.Params.{Params}
use Rattle.lzk_layout.specs.Sizes.{params_of, place_of}

-- the first entry that passes a test, or x where none does
abbrev pub first_or : {X : Type 0} → (X → Bool) → X → List X → X
first_or test x [] = x
first_or test x (y ∷ ys) = cond (test y) y (first_or test x ys)

-- all elements, each once
abbrev pub all_elements : {A : Type 0} → Coding A → List A
all_elements e = map e.element (range_with_len 0 e.size)

module _ {A : Type 0} (o : Ops A) (e : Coding A) (p : Params) (word : ℕ → A) where
  -- column j of the word is not that of the row with these values
  abbrev pub is_wrong : List A → ℕ → Bool
  is_wrong values j =
      cond (e.number (word j) == e.number (extension o e.element values (p.dblock + j))) false true

  -- at how many columns the word is not that row
  abbrev pub distance : List A → ℕ
  distance values = count (is_wrong values) (range_with_len 0 p.mcol)

  -- The values of the row that the word is at all columns but block at most, a quarter of them; zeros where there is
  -- none. That there is no second one is the law `DecodingIsUnique`.
  unfoldable pub decoded : List A
  decoded =
      first_or (λ values. nat_le (distance values) p.block) (replicate p.block o.zero)
      (draws_from (all_elements e) p.block)

-- The private inputs that a table encodes: each row of the committed list is decoded by itself, and read at the private
-- inputs' places, an element at position s being value 128 + s. Nothing else goes into it: no public input, no draw,
-- and nothing that is sent.
abbrev pub extracted : {A : Type 0} → Ops A → Coding A → Wiring A → (ℕ → ℕ → A) → List A
extracted o e c table =
    map (λ k. (let place = place_of (params_of c) k in
    entry o (decoded o e (params_of c) (table place.0)) (opened_count + place.1)))
    (range_with_len 0 c.privates)
