-- How far elements are from a text: the sum of the squares of their differences from its bytes. For bytes this is 0 for
-- no text but their own, since 32 squares of numbers below 256 are less than the field has elements.
use Rattle.std.specs.Prelude.{◌≡◌, ℕ, ◌+◌, ◌*◌, ◌⊎◌, List, [], ◌∷◌}
use Rattle.lzk_goldilocks.specs.Elements.{ops, of_number}
use Rattle.lzk_goldilocks.specs.declared.element.Gold.{Gold}
use Rattle.lzk_gadgets.specs.Inverses.{difference}

abbrev pub square : Gold → Gold
square x = ops.times x x

abbrev pub distance : List Gold → List ℕ → Gold
distance [] text = ops.zero
distance (x ∷ xs) [] = ops.zero
distance (x ∷ xs) (b ∷ bs) = ops.plus (square (difference x (of_number b))) (distance xs bs)

-- they are at one of these texts
abbrev pub IsAtText : List Gold → List (List ℕ) → Type 0
IsAtText xs [] = ⊥
IsAtText xs (text ∷ texts) = (distance xs text ≡ ops.zero) ⊎ IsAtText xs texts

-- ---- by the law of cosines: one sum of squares serves all texts

-- the sum of the squares of elements, and of bytes
abbrev pub squares : List Gold → Gold
squares [] = ops.zero
squares (x ∷ xs) = ops.plus (square x) (squares xs)

abbrev pub text_squares : List ℕ → ℕ
text_squares [] = 0
text_squares (b ∷ bs) = b * b + text_squares bs

-- the inner product of elements and bytes
abbrev pub inner : List Gold → List ℕ → Gold
inner [] text = ops.zero
inner (x ∷ xs) [] = ops.zero
inner (x ∷ xs) (b ∷ bs) = ops.plus (ops.times (of_number b) x) (inner xs bs)

-- the distance of elements from a text, where n is the sum of their squares
abbrev pub distance_by : Gold → List Gold → List ℕ → Gold
distance_by n xs text =
    difference (ops.plus n (of_number (text_squares text))) (ops.times (of_number 2) (inner xs text))

-- the product of those from texts
abbrev pub distances : Gold → List Gold → List (List ℕ) → Gold
distances n xs [] = ops.one
distances n xs (text ∷ texts) = ops.times (distance_by n xs text) (distances n xs texts)
