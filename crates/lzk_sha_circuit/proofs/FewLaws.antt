-- Products that are added to a row one by one, the last one first.
use Rattle.std.specs.Prelude.{◌≡◌, ◌≢◌, ℕ, ◌+◌, ◌<◌, ◌≤◌, List, [], ◌∷◌, length, drop}
use Rattle.std.proofs.Common.{refl, sym, ap, ◌∙◌, arith, subst, get_or}
use Rattle.std.proofs.lemmas.List.{drop_more, drop_all}
use Rattle.lzk_field.specs.Ring.{Ops}
use Rattle.lzk_field.specs.Sums.{entry}
use Rattle.lzk_circuit.specs.declared.layer.Term.{Term}
use Rattle.lzk_circuit_reduce.specs.Rows.{IsRow, row_value, ordered}
use Rattle.lzk_sha_circuit.specs.declared.products.Product.{Product}
use Rattle.lzk_sha_circuit.specs.Products.{AreWithin, product_value, products_value}
use Rattle.lzk_sha_circuit.specs.Layers.{one_row}

module _ {A : Type 0} (o : Ops A) where
  -- a row counts what products count
  pub record IsSum (products : List (Product A)) (row : List (Term A)) : Type 0 where
    pub terms : (width : ℕ) → AreWithin width products → IsRow o width row
    pub value : (below : List A) → row_value o below row ≡ products_value o below products
    pub short : length row ≤ length products
    pub one : products ≡ one_row o → row ≡ ordered o.one 0 0 ∷ []

  no_terms : (row : List (Term A)) → length row ≤ 0 → row ≡ []
  no_terms [] l = refl
  no_terms (t ∷ ts) l = absurd (omega (arith, l))

  -- at first none
  sum-starts : (products : List (Product A)) (i : ℕ) (row : List (Term A)) → length products ≤ i → row ≡ [] → IsSum (drop i products) row
  sum-starts products i row l e = subst (λ ps. IsSum ps row) (sym (drop_all i products l)) (subst (IsSum []) (sym e) (record {
    terms = λ width h. tt;
    value = λ below. refl;
    short = omega arith;
    one = λ same. absurd cc;
  }))

  first_of : (p q : Product A) (ps : List (Product A)) → p ∷ ps ≡ q ∷ [] → p ≡ q
  first_of p q ps e = cc

  rest_of : (p q : Product A) (ps : List (Product A)) → p ∷ ps ≡ q ∷ [] → ps ≡ []
  rest_of p q ps e = cc

  -- then one more
  sum_more : (p : Product A) (ps : List (Product A)) (old new : List (Term A)) → o.one ≢ o.zero
      → ((width : ℕ) → IsRow o width old → p.a < width → p.b < width → IsRow o width new)
      → ((below : List A) → row_value o below new ≡ o.plus (o.times p.coef (o.times (entry o below p.a) (entry o below p.b))) (row_value o below old))
      → length new ≤ length old + 1
      → (old ≡ [] → p.coef ≢ o.zero → new ≡ ordered p.coef p.a p.b ∷ [])
      → IsSum ps old → IsSum (p ∷ ps) new
  sum_more p ps old new some row value short alone s = record {
    terms = λ width h. row width (s.terms width h.2) h.0 h.1;
    value = λ below. value below ∙ ap (o.plus (product_value o below p)) (s.value below);
    short = omega (arith, short, s.short);
    one = λ same.
        let q : Product A = record { coef = o.one; a = 0; b = 0 } in
        let is : p ≡ q = first_of p q ps same in
        let none : old ≡ [] = no_terms old (omega (arith, s.short, ap length (rest_of p q ps same))) in
        alone none (λ z. some (sym (ap (λ (x : Product A). x.coef) is) ∙ z)) ∙ ap (λ (x : Product A). ordered x.coef x.a x.b ∷ []) is;
  }

  pub sum-adds : (products : List (Product A)) (i n : ℕ) (p : Product A) (old new : List (Term A)) → o.one ≢ o.zero → i < length products → n ≡ i + 1 → p ≡ get_or products i p
      → ((width : ℕ) → IsRow o width old → p.a < width → p.b < width → IsRow o width new)
      → ((below : List A) → row_value o below new ≡ o.plus (o.times p.coef (o.times (entry o below p.a) (entry o below p.b))) (row_value o below old))
      → length new ≤ length old + 1
      → (old ≡ [] → p.coef ≢ o.zero → new ≡ ordered p.coef p.a p.b ∷ [])
      → IsSum (drop n products) old → IsSum (drop i products) new
  sum-adds products i n p old new some l m e row value short alone s =
      subst (λ ps. IsSum ps new) (sym (drop_more products i p l ∙ ap (λ q. q ∷ drop (i + 1) products) (sym e)))
      (sum_more p (drop (i + 1) products) old new some row value short alone (subst (λ k. IsSum (drop k products) old) m s))

  -- before any is added, and when all are
  pub sum-none : (products : List (Product A)) (row : List (Term A)) → row ≡ [] → IsSum (drop (length products) products) row
  sum-none products row e = sum-starts products (length products) row (omega arith) e

  pub sum-whole : (products : List (Product A)) (i : ℕ) (row : List (Term A)) → i ≤ 0 → IsSum (drop i products) row → IsSum products row
  sum-whole products i row l s = let first : i ≡ 0 = omega (arith, l) in subst (λ k. IsSum (drop k products) row) first s
