-- What a wire comes to with beta for assertion terms, and the claim with which a layer's sumcheck begins.
use Rattle.std.specs.Prelude.{◌≡◌, ℕ, ◌+◌, ◌<◌, ◌≤◌, ◌^◌, ◌++◌, List, [], ◌∷◌, length, map, slice_index_or}
use Rattle.std.proofs.Common.{zero, suc, refl, sym, ap, ◌∙◌, arith}
use Rattle.std.proofs.lemmas.List.FromFn.{length-map-range_with_len, get_or-map-range_with_len}
use Rattle.lzk_field.specs.Ring.{Ops, RingLaws, Laws}
use Rattle.lzk_field.specs.Sums.{sum_below, entry}
use Rattle.lzk_field.proofs.RingBasics.{times_zero}
use Rattle.lzk_field.proofs.Solve.{var, ◌⊞◌, ◌⊠◌, solve}
use Rattle.lzk_field.proofs.SumLaws.{sum-ext, sum-plus, sum-times}
use Rattle.lzk_circuit.specs.declared.layer.Term.{Term}
use Rattle.lzk_circuit.specs.Sums.{sum_pairs}
use Rattle.lzk_circuit.specs.declared.layer.Layer.{Layer}
use Rattle.lzk_circuit.specs.Valid.{Wiring, HaveWidths}
use Rattle.lzk_circuit.specs.Wires.{coef, zero_at, layer_coefficient, wire, wires_of, all_values, inputs_of, list_at}
use Rattle.lzk_circuit.proofs.BitLaws.{bits_enough}
use Rattle.lzk_circuit.proofs.CheckLaws.{satisfied-asserts}
use Rattle.lzk_circuit.proofs.DepthLaws.{all-widths, inputs-count, list-width, first-values}
use Rattle.lzk_circuit.proofs.TermSums.{sum_pairs-ext}
use Rattle.lzk_layout.specs.Places.{width_at, bits_under}
use Rattle.lzk_sumcheck.specs.Coefficients.{terms_at}
use Rattle.lzk_sumcheck.specs.Layers.{layer_of_terms, BeginsWithChecks, SatisfiedClaims}
use Rattle.lzk_sumcheck.proofs.SumcheckLaws.{sumcheck_of}

module _ {A : Type 0} (o : Ops A) (r : RingLaws o) where
  open o use {plus, times}

  -- a wire with beta for its assertion terms is the wire, and beta times what these terms count
  pub wire-weighed : (ts : List (Term A)) (beta : A) (values : List A) (g : ℕ)
      → wire o (layer_coefficient o ts beta) values g ≡ plus (wire o (coef o ts) values g) (times beta (wire o (zero_at o ts) values g))
  unfolding wire
  wire-weighed ts beta values g =
      let n = length values in
      let v : ℕ → A = λ i. slice_index_or values i o.zero in
      let c : ℕ → ℕ → A = λ a b. times (times (coef o ts g a b) (v a)) (v b) in
      let z : ℕ → ℕ → A = λ a b. times (times (zero_at o ts g a b) (v a)) (v b) in
      sum_pairs-ext o r n (λ a b. times (times (layer_coefficient o ts beta g a b) (v a)) (v b)) (λ a b. plus (c a b) (times beta (z a b)))
      (λ a b. solve o r (coef o ts g a b ∷ beta ∷ zero_at o ts g a b ∷ v a ∷ v b ∷ []) (((var 0 ⊞ var 1 ⊠ var 2) ⊠ var 3) ⊠ var 4) ((var 0 ⊠ var 3) ⊠ var 4 ⊞ var 1 ⊠ ((var 2 ⊠ var 3) ⊠ var 4)) refl)
      ∙ sum-ext o r n (λ a. sum_below o n (λ b. plus (c a b) (times beta (z a b)))) (λ a. plus (sum_below o n (c a)) (times beta (sum_below o n (z a))))
      (λ a l. sum-plus o r n (c a) (λ b. times beta (z a b)) ∙ ap (plus (sum_below o n (c a))) (sum-times o r n beta (z a)))
      ∙ sum-plus o r n (λ a. sum_below o n (c a)) (λ a. times beta (sum_below o n (z a)))
      ∙ ap (plus (sum_pairs o n c)) (sum-times o r n beta (λ a. sum_below o n (z a)))

module _ {A : Type 0} (o : Ops A) where
  -- each value is the sum of its wire over the values below
  pub values_are : (layers : List (Layer A)) (inputs : List A) (l g : ℕ) → l < length layers → g < length (list_at (all_values o layers inputs) l)
      → entry o (list_at (all_values o layers inputs) l) g ≡ wire o (coef o (slice_index_or (map (λ layer. layer.terms) layers) l [])) (list_at (all_values o layers inputs) (suc l)) g
  values_are [] inputs l g h k = absurd (omega (arith, h))
  values_are (layer ∷ layers) inputs zero g h k =
      let f : ℕ → A = wire o (coef o layer.terms) (wires_of o layers inputs) in
      get_or-map-range_with_len f 0 layer.wires g g o.zero (omega (arith, k, length-map-range_with_len f 0 layer.wires)) (omega arith)
      ∙ ap (λ below. wire o (coef o layer.terms) below g) (sym (first-values o layers inputs))
  values_are (layer ∷ layers) inputs (suc l) g h k = values_are layers inputs l g (omega (arith, h)) k

  -- each layer has as many values as it is wide
  pub length_values : (c : Wiring A) (public private : List A) (l : ℕ) → length public ≡ c.publics → length private ≡ c.privates
      → length (list_at (all_values o c.layers (inputs_of o public private)) l) ≡ width_at c l
  length_values c public private l publics privates =
      let inputs = inputs_of o public private in
      let size : length inputs ≡ 1 + c.publics + c.privates = inputs-count o public private ∙ omega (arith, publics, privates) in
      let are : HaveWidths c (all_values o c.layers inputs) = all-widths o c.layers inputs ∙ ap (λ n. map (λ layer. layer.wires) c.layers ++ n ∷ []) size in
      list-width c (all_values o c.layers inputs) l are

module _ {A : Type 0} {o : Ops A} {size : ℕ} {number_of : A → ℕ} {element : ℕ → A} {bytes : ℕ} (laws : Laws o size number_of element bytes) where
  pub begins-with-checks : (terms : List (Term A)) (beta : A) (weights values : List A) (bits : ℕ) → length values ≤ 2 ^ bits → BeginsWithChecks o terms beta weights values bits
  begins-with-checks terms beta weights values bits fits =
      let w = entry o weights in
      (sumcheck_of laws (layer_of_terms o terms beta weights values bits) fits).first
      ∙ sum-ext o laws.ring (length weights) (λ g. o.times (w g) (wire o (layer_coefficient o terms beta) values g)) (λ g. o.times (w g) (o.plus (wire o (coef o terms) values g) (o.times beta (wire o (zero_at o terms) values g))))
      (λ g h. ap (o.times (w g)) (wire-weighed o laws.ring terms beta values g))

  pub satisfied-claims : SatisfiedClaims o number_of
  satisfied-claims = λ c public private l weights beta valid publics privates satisfied h many.
      let inputs = inputs_of o public private in
      let V = all_values o c.layers inputs in
      let w = entry o weights in
      let ts = terms_at c l in
      let below = list_at V (l + 1) in
      let next : suc l ≡ l + 1 = omega arith in
      let count : length inputs ≡ 1 + c.publics + c.privates = inputs-count o public private ∙ omega (arith, publics, privates) in
      begins-with-checks ts beta weights below (bits_under c l) (omega (arith, length_values o c public private (l + 1) publics privates, bits_enough (width_at c (l + 1))))
      ∙ ap (λ k. sum_below o k (λ g. o.times (w g) (o.plus (wire o (coef o ts) below g) (o.times beta (wire o (zero_at o ts) below g))))) many
      ∙ sum-ext o laws.ring (width_at c l) (λ g. o.times (w g) (o.plus (wire o (coef o ts) below g) (o.times beta (wire o (zero_at o ts) below g)))) (λ g. o.times (w g) (entry o (list_at V l) g))
      (λ g k. ap (o.times (w g))
      (ap (λ z. o.plus (wire o (coef o ts) below g) (o.times beta z)) (satisfied-asserts o size number_of element bytes laws c inputs l g valid count satisfied h)
      ∙ ap (o.plus (wire o (coef o ts) below g)) (times_zero o laws.ring beta) ∙ laws.ring.plus_zero _
      ∙ ap (λ i. wire o (coef o ts) (list_at V i) g) (sym next)
      ∙ sym (values_are o c.layers inputs l g h (omega (arith, k, length_values o c public private l publics privates)))))
