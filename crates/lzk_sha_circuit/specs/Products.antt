-- Sums of products of wires, as rows of a layer.
use Rattle.std.specs.Prelude.{ℕ, ◌+◌, ◌^◌, ◌<◌, List, [], ◌∷◌, length}
use Rattle.std.specs.List.{range_with_len, flat_map}
use Rattle.lzk_field.specs.Ring.{Ops}
use Rattle.lzk_field.specs.Sums.{entry}
use Rattle.lzk_sha_circuit.specs.declared.products.Product.{Product}
use Rattle.lzk_sha_circuit.specs.declared.products.Entry.{Entry}

-- ---- values over those of the wires below
abbrev pub product_value : {A : Type 0} → Ops A → List A → Product A → A
product_value o below p = o.times p.coef (o.times (entry o below p.a) (entry o below p.b))

abbrev pub products_value : {A : Type 0} → Ops A → List A → List (Product A) → A
products_value o below [] = o.zero
products_value o below (p ∷ ps) = o.plus (product_value o below p) (products_value o below ps)

abbrev pub entry_value : {A : Type 0} → Ops A → List A → Entry A → A
entry_value o below x = o.times x.factor (entry o below x.wire)

-- the products name wires of so many
abbrev pub AreWithin : {A : Type 0} → ℕ → List (Product A) → Type 0
AreWithin width [] = Unit {0}
AreWithin width (p ∷ ps) = (p.a < width) × (p.b < width) × AreWithin width ps

-- how many products the rows have
abbrev pub sizes : {A : Type 0} → List (List (Product A)) → ℕ
sizes [] = 0
sizes (ps ∷ rows) = length ps + sizes rows

-- ---- formulas of entries, times a scale; wire 0 is the one
module _ {A : Type 0} (o : Ops A) where
  abbrev pub linear : A → Entry A → Product A
  linear s x = record { coef = o.times s x.factor; a = 0; b = x.wire }

  abbrev pub bilinear : A → Entry A → Entry A → Product A
  bilinear s x y = record { coef = o.times s (o.times x.factor y.factor); a = x.wire; b = y.wire }

  -- the exclusive or of two entries
  abbrev pub or_list : (ℕ → A) → A → Entry A → Entry A → List (Product A)
  or_list element s x y = linear s x ∷ linear s y ∷ bilinear (o.neg (o.times (element 2) s)) x y ∷ []

  -- e * f - e * g + g
  abbrev pub chosen_list : A → Entry A → Entry A → Entry A → List (Product A)
  chosen_list s e f g = bilinear s e f ∷ bilinear (o.neg s) e g ∷ linear s g ∷ []

  -- x * y + z * u, where u is the exclusive or of x and y
  abbrev pub most_list : A → Entry A → Entry A → Entry A → Entry A → List (Product A)
  most_list s x y z u = bilinear s x y ∷ bilinear s z u ∷ []

  -- ---- sums over the places of a word
  module _ (element : ℕ → A) where
    unfoldable pub worth_list : A → ℕ → (ℕ → Entry A) → List (Product A)
    worth_list s n w = flat_map (λ i. linear (o.times s (element (2 ^ i))) (w i) ∷ []) (range_with_len 0 n)

    unfoldable pub or_word_list : (ℕ → Entry A) → (ℕ → Entry A) → List (Product A)
    or_word_list u z = flat_map (λ i. or_list element (element (2 ^ i)) (u i) (z i)) (range_with_len 0 32)

    unfoldable pub ch_word_list : (ℕ → Entry A) → (ℕ → Entry A) → (ℕ → Entry A) → List (Product A)
    ch_word_list e f g = flat_map (λ i. chosen_list (element (2 ^ i)) (e i) (f i) (g i)) (range_with_len 0 32)

    unfoldable pub maj_word_list : (ℕ → Entry A) → (ℕ → Entry A) → (ℕ → Entry A) → (ℕ → Entry A) → List (Product A)
    maj_word_list x y z u = flat_map (λ i. most_list (element (2 ^ i)) (x i) (y i) (z i) (u i)) (range_with_len 0 32)
