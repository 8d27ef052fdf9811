-- The layer at a place of a valid circuit, and how wide it is, for the crates above.
use Rattle.std.specs.Prelude.{◌≡◌, ℕ, ◌+◌, ◌<◌, ◌≤◌, ◌++◌, List, [], ◌∷◌, length, map, drop, None}
use Rattle.std.proofs.Common.{zero, suc, refl, sym, ap, ◌∙◌, arith, subst, get_or}
use Rattle.lzk_field.specs.Ring.{Ops}
use Rattle.lzk_circuit.specs.declared.layer.Layer.{Layer}
use Rattle.lzk_circuit.specs.Wires.{AreDistinct}
use Rattle.lzk_circuit.specs.Valid.{Wiring, input_width, under_of, AreLayersOf, IsLayerOf, IsValid, widths}
use Rattle.lzk_circuit.proofs.OrderLaws.{placed-distinct}

module _ {A : Type 0} (o : Ops A) where
  layers-at : (version n l m : ℕ) (layers : List (Layer A)) (d : Layer A) → m ≡ l + 1 → l < length layers → AreLayersOf o version n layers → IsLayerOf o version (under_of n (drop m layers)) (get_or layers l d)
  layers-at version n l m [] d e h all = absurd (omega arith)
  layers-at version n zero m (layer ∷ layers) d e h all = let e' : 1 ≡ m = omega arith in subst (λ k. IsLayerOf o version (under_of n (drop k (layer ∷ layers))) layer) e' all.0
  layers-at version n (suc l) zero (layer ∷ layers) d e h all = absurd (omega arith)
  layers-at version n (suc l) (suc m) (layer ∷ layers) d e h all = layers-at version n l m layers d (omega arith) (omega arith) all.1

  pub layer-at : (c : Wiring A) (l : ℕ) (d : Layer A) → l < length c.layers → IsValid o c → IsLayerOf o c.version (under_of (input_width c) (drop (l + 1) c.layers)) (get_or c.layers l d)
  layer-at c l d h valid = layers-at c.version (input_width c) l (l + 1) c.layers d refl h valid.layers

  widths-at : (n l : ℕ) (layers : List (Layer A)) → l ≤ length layers → get_or (map (λ layer. layer.wires) layers ++ n ∷ []) l 0 ≡ (under_of n (drop l layers)).width
  widths-at n zero [] h = refl
  widths-at n (suc l) [] h = absurd (omega arith)
  widths-at n zero (layer ∷ layers) h = refl
  widths-at n (suc l) (layer ∷ layers) h = widths-at n l layers (omega arith)

  pub width-at : (c : Wiring A) (l : ℕ) → l ≤ length c.layers → get_or (widths c) l 0 ≡ (under_of (input_width c) (drop l c.layers)).width
  width-at c l h = widths-at (input_width c) l c.layers h

  -- the terms of a layer have each three numbers once, below the two widths
  pub terms-distinct : (c : Wiring A) (l : ℕ) (d : Layer A) → l < length c.layers → IsValid o c → AreDistinct o (get_or c.layers l d).wires (get_or (widths c) (l + 1) 0) (get_or c.layers l d).terms
  terms-distinct c l d h valid =
      let layer = get_or c.layers l d in
      subst (λ n. AreDistinct o layer.wires n layer.terms) (sym (width-at c (l + 1) (omega arith))) (placed-distinct o layer.wires (under_of (input_width c) (drop (l + 1) c.layers)).width None layer.terms (layer-at c l d h valid).each)

-- the width at a place, as it is looked up
module _ {A : Type 0} where
  read-width : (l n : ℕ) (layers : List (Layer A)) (d : Layer A) → l < length layers → get_or (map (λ layer. layer.wires) layers ++ n ∷ []) l 0 ≡ (get_or layers l d).wires
  read-width l n [] d h = absurd (omega arith)
  read-width zero n (layer ∷ layers) d h = refl
  read-width (suc l) n (layer ∷ layers) d h = read-width l n layers d (omega arith)

  read-last : (l n : ℕ) (layers : List (Layer A)) → l ≡ length layers → get_or (map (λ layer. layer.wires) layers ++ n ∷ []) l 0 ≡ n
  read-last zero n [] h = refl
  read-last (suc l) n [] h = absurd (omega arith)
  read-last zero n (layer ∷ layers) h = absurd (omega arith)
  read-last (suc l) n (layer ∷ layers) h = read-last l n layers (omega arith)

  pub width-within : (c : Wiring A) (layers : List (Layer A)) (l : ℕ) (layer : Layer A) → c.layers ≡ layers → l < length layers → layer ≡ get_or layers l layer → layer.wires ≡ get_or (widths c) l 0
  width-within c layers l layer same h is =
      let read : get_or (map (λ layer. layer.wires) layers ++ input_width c ∷ []) l 0 ≡ (get_or layers l layer).wires = read-width l (input_width c) layers layer h in
      ap (λ (x : Layer A). x.wires) is ∙ sym read ∙ ap (λ (ls : List (Layer A)). get_or (map (λ layer. layer.wires) ls ++ input_width c ∷ []) l 0) (sym same)

  pub width-last : (c : Wiring A) (layers : List (Layer A)) (l : ℕ) → c.layers ≡ layers → l ≡ length layers → input_width c ≡ get_or (widths c) l 0
  width-last c layers l same h = sym (read-last l (input_width c) layers h) ∙ ap (λ (ls : List (Layer A)). get_or (map (λ layer. layer.wires) ls ++ input_width c ∷ []) l 0) (sym same)
