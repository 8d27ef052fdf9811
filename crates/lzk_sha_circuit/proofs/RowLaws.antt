-- Sums of products, half by half.
use Rattle.std.specs.Prelude.{◌≡◌, ℕ, ◌+◌, List, [], ◌∷◌, ◌++◌, length, take, drop, get_or}
use Rattle.std.proofs.Common.{sym, ap, ◌∙◌, arith}
use Rattle.std.proofs.lemmas.List.{take-append-drop}
use Rattle.lzk_field.specs.Ring.{Ops, RingLaws}
use Rattle.lzk_field.proofs.RingBasics.{zero_plus}
use Rattle.lzk_sha_circuit.specs.declared.products.Product.{Product}
use Rattle.lzk_sha_circuit.specs.Products.{product_value, products_value, AreWithin, sizes}

module _ {A : Type 0} where
  pub within-split : (width : ℕ) (ps qs : List (Product A)) → AreWithin width (ps ++ qs) → AreWithin width ps × AreWithin width qs
  within-split width [] qs h = (tt, h)
  within-split width (p ∷ ps) qs h = let rest = within-split width ps qs h.2 in ((h.0, h.1, rest.0), rest.1)

  pub within-append : (width : ℕ) (ps qs : List (Product A)) → AreWithin width ps → AreWithin width qs → AreWithin width (ps ++ qs)
  within-append width [] qs hp hq = hq
  within-append width (p ∷ ps) qs hp hq = (hp.0, hp.1, within-append width ps qs hp.2 hq)

  pub halves : (i : ℕ) (ps front back : List (Product A)) → front ≡ take i ps → back ≡ drop i ps → ps ≡ front ++ back
  halves i ps front back e f = sym (ap (λ xs. xs ++ back) e ∙ ap (λ ys. take i ps ++ ys) f ∙ take-append-drop i ps)

  pub one_product : (ps : List (Product A)) (p : Product A) → length ps ≡ 1 → p ≡ get_or ps 0 p → ps ≡ p ∷ []
  one_product [] p l e = absurd (omega (arith, l))
  one_product (q ∷ []) p l e = ap (λ x. x ∷ []) (sym e)
  one_product (q ∷ s ∷ ps) p l e = absurd (omega (arith, l))

  pub sizes-append : (rows : List (List (Product A))) (ps : List (Product A)) → sizes (rows ++ ps ∷ []) ≡ sizes rows + length ps
  sizes-append [] ps = omega arith
  sizes-append (r ∷ rows) ps = omega (arith, sizes-append rows ps)

module _ {A : Type 0} (o : Ops A) (r : RingLaws o) where
  pub value-append : (below : List A) (ps qs : List (Product A)) → products_value o below (ps ++ qs) ≡ o.plus (products_value o below ps) (products_value o below qs)
  value-append below [] qs = sym (zero_plus o r (products_value o below qs))
  value-append below (p ∷ ps) qs = ap (o.plus (product_value o below p)) (value-append below ps qs) ∙ sym (r.plus_assoc _ _ _)

  pub value-of-one : (below : List A) (ps : List (Product A)) (p : Product A) → length ps ≡ 1 → p ≡ get_or ps 0 p → product_value o below p ≡ products_value o below ps
  value-of-one below ps p l e = sym (r.plus_zero (product_value o below p)) ∙ ap (products_value o below) (sym (one_product ps p l e))

  pub value-of-halves : (below : List A) (i : ℕ) (ps front back : List (Product A)) (x y : A) → front ≡ take i ps → back ≡ drop i ps
      → x ≡ products_value o below front → y ≡ products_value o below back → o.plus x y ≡ products_value o below ps
  value-of-halves below i ps front back x y e f hx hy =
      (λ j. o.plus (hx j) (hy j)) ∙ sym (value-append below front back) ∙ ap (products_value o below) (sym (halves i ps front back e f))
