-- A layer's bound coefficient as a sum over its terms.
use Rattle.std.specs.Prelude.{◌≡◌, ℕ, ◌<◌, ◌+◌, List, [], ◌∷◌, None, map}
use Rattle.std.proofs.Common.{refl, sym, ap, ◌∙◌, arith}
use Rattle.std.proofs.lemmas.List.FromFn.{get_or-map-range_with_len, length-map-range_with_len}
use Rattle.lzk_field.specs.Ring.{Ops, RingLaws}
use Rattle.lzk_field.specs.Sums.{sum_below, entry}
use Rattle.lzk_field.proofs.Solve.{var, ◌⊠◌, solve}
use Rattle.lzk_mle.specs.Multilinear.{eq}
use Rattle.lzk_circuit.specs.declared.layer.Term.{Term}
use Rattle.lzk_circuit.specs.Sums.{sum_pairs, sum_list}
use Rattle.lzk_circuit.specs.Valid.{Wiring, ArePlaced}
use Rattle.lzk_circuit.specs.Wires.{coef, layer_coefficient, weighed_term, weighed, AreDistinct}
use Rattle.lzk_circuit.proofs.AssertLaws.{weighed-coef, weighed-placed}
use Rattle.lzk_circuit.proofs.OrderLaws.{placed-distinct}
use Rattle.lzk_circuit.proofs.TermSums.{coefficient_sum, sum_triples-ext}
use Rattle.lzk_layout.specs.Places.{width_at}
use Rattle.lzk_sumcheck.specs.declared.script.Script.{Script}
use Rattle.lzk_sumcheck.specs.Rounds.{bound_coefficient}
use Rattle.lzk_sumcheck.specs.Script.{layer_at, point_a, point_b}
use Rattle.lzk_sumcheck.specs.Coefficients.{coefficients, terms_at, weights_at, bound_at}
use Rattle.lzk_accept.specs.Bound.{counts_at}

module _ {A : Type 0} (o : Ops A) (r : RingLaws o) where
  open o use {plus, times}

  -- the weights as a list
  listed : (k n : ℕ) (first second ra rb W : List A) (alpha beta : A) (ts : List (Term A)) → AreDistinct o k n ts
      → ((g : ℕ) → g < k → plus (eq o g first) (times alpha (eq o g second)) ≡ entry o W g)
      → sum_list o ts (counts_at o alpha beta first second ra rb) ≡ sum_list o ts (λ t. times (weighed_term o beta t).coef (times (times (entry o W t.g) (eq o t.a ra)) (eq o t.b rb)))
  listed k n first second ra rb W alpha beta [] h e = refl
  listed k n first second ra rb W alpha beta (t ∷ ts) h e =
      let y = (weighed_term o beta t).coef in
      ap (λ x. plus (times y (times (times x (eq o t.a ra)) (eq o t.b rb))) (sum_list o ts (counts_at o alpha beta first second ra rb))) (e t.g h.0)
      ∙ ap (plus (times y (times (times (entry o W t.g) (eq o t.a ra)) (eq o t.b rb)))) (listed k n first second ra rb W alpha beta ts h.4 e)

  list_mapped : {X Y : Type 0} (h : X → Y) (ts : List X) (f : Y → A) → sum_list o (map h ts) f ≡ sum_list o ts (λ t. f (h t))
  list_mapped h [] f = refl
  list_mapped h (t ∷ ts) f = ap (plus (f (h t))) (list_mapped h ts f)

  pub bound_sum : (c : Wiring A) (s : Script A) (l : ℕ) (terms : List (Term A)) → terms ≡ terms_at c l
      → ArePlaced (width_at c l) (width_at c (l + 1)) None terms
      → sum_list o terms (counts_at o (layer_at o s l).alpha (layer_at o s l).beta (point_a o s l) (point_b o s l) (layer_at o s l).ra (layer_at o s l).rb) ≡ bound_at o c (coefficients o c s) s l
  unfolding bound_at coefficients
  bound_sum c s l terms et placed =
      let k = width_at c l in
      let n = width_at c (l + 1) in
      let ra = (layer_at o s l).ra in
      let rb = (layer_at o s l).rb in
      let W = weights_at o c s l in
      let f : ℕ → A = λ g. plus (eq o g (point_a o s l)) (times (layer_at o s l).alpha (eq o g (point_b o s l))) in
      let h : ℕ → ℕ → ℕ → A = λ g a b. times (times (entry o W g) (eq o a ra)) (eq o b rb) in
      let beta = (layer_at o s l).beta in
      let q = layer_coefficient o terms beta in
      let ts = weighed o beta terms in
      listed k n (point_a o s l) (point_b o s l) ra rb W (layer_at o s l).alpha beta terms (placed-distinct o k n None terms placed) (λ g lt. sym (get_or-map-range_with_len f 0 k g g o.zero lt (omega arith)))
      ∙ sym (list_mapped (weighed_term o beta) terms (λ t. times t.coef (h t.g t.a t.b)))
      ∙ sym (coefficient_sum o r k n ts h (placed-distinct o k n None ts (weighed-placed o beta k n terms placed)))
      ∙ sum_triples-ext o r k n (λ g a b. times (coef o ts g a b) (h g a b)) (λ g a b. times (times (times (entry o W g) (q g a b)) (eq o a ra)) (eq o b rb))
      (λ g a b. ap (λ x. times x (h g a b)) (sym (weighed-coef o r beta terms g a b)) ∙ solve o r (q g a b ∷ entry o W g ∷ eq o a ra ∷ eq o b rb ∷ []) (var 0 ⊠ ((var 1 ⊠ var 2) ⊠ var 3)) (((var 1 ⊠ var 0) ⊠ var 2) ⊠ var 3) refl)
      ∙ ap (λ m. sum_below o m (λ g. sum_pairs o n (λ a b. times (times (times (entry o W g) (q g a b)) (eq o a ra)) (eq o b rb)))) (sym (length-map-range_with_len f 0 k))
      ∙ ap (λ xs. bound_coefficient o (layer_coefficient o xs beta) W n ra rb) et
