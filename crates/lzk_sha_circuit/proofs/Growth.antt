-- Layers that grow by rows.
use Rattle.std.specs.Prelude.{◌≡◌, ℕ, ◌+◌, ◌<◌, ◌≤◌, None, List, [], ◌∷◌, ◌++◌, length, map, Result, Ok, Err, IfOk, OnOk}
use Rattle.std.specs.List.{range_with_len, flat_map}
use Rattle.std.proofs.Common.{inl, inr, refl, sym, ap, ◌∙◌, arith, subst, append_assoc, append-nil, length-append}
use Rattle.std.proofs.lemmas.List.{get_or_append_left, get_or_push}
use Rattle.std.proofs.lemmas.Bool.{cases_lt}
use Rattle.std.proofs.lemmas.List.FromFn.{map-range_with_len_more}
use Rattle.lzk_field.specs.Ring.{Ops}
use Rattle.lzk_circuit.specs.declared.layer.Term.{Term}
use Rattle.lzk_circuit.specs.Valid.{AreTerms}
use Rattle.lzk_circuit.specs.Wires.{coef, wire}
use Rattle.lzk_circuit_reduce.specs.Rows.{IsRow, row_value, placed, ordered}
use Rattle.lzk_circuit_reduce.specs.Reduced.{terms_of}
use Rattle.lzk_circuit_reduce.proofs.KeptLaws.{own-before}
use Rattle.lzk_sha_circuit.specs.declared.products.Product.{Product}
use Rattle.lzk_sha_circuit.specs.Products.{products_value, AreWithin, sizes}
use Rattle.lzk_sha_circuit.specs.Layers.{row_at, one_row, IsBuilt, Grows}
use Rattle.lzk_sha_circuit.proofs.RowLaws.{sizes-append}
use Rattle.lzk_sha_circuit.proofs.Written.{range_more}
use Rattle.std.proofs.lemmas.List.Concat.{flat_map-append}

module _ {A : Type 0} (o : Ops A) where
  no_terms : (ts : List (Term A)) → length ts ≤ 0 → ts ≡ []
  no_terms [] l = refl
  no_terms (t ∷ ts) l = absurd (omega (arith, l))

  one_first : (rows : List (List (Product A))) (products : List (Product A)) (wires : ℕ) (old new row : List (Term A)) → length rows ≡ wires → length old ≤ sizes rows → new ≡ old ++ map (placed wires) row
      → (products ≡ one_row o → row ≡ ordered o.one 0 0 ∷ []) → (1 ≤ length rows → row_at rows 0 ≡ one_row o → terms_of 0 old ≡ (0, 0, o.one) ∷ [])
      → row_at (rows ++ products ∷ []) 0 ≡ one_row o → terms_of 0 new ≡ (0, 0, o.one) ∷ []
  one_first [] products wires old new row long short exact own before first =
      ap (terms_of 0) (exact ∙ (λ i. no_terms old short i ++ map (placed (sym long i)) (own first i)))
  one_first (r ∷ rows) products wires old new row long short exact own before first =
      ap (terms_of 0) exact ∙ ap (map (λ t. (t.a, t.b, t.coef))) (own-before wires 0 old row (omega (arith, long))) ∙ before (omega arith) first

  pub grown : {T E : Type 0} (wires : ℕ) (products : List (Product A)) (old new row : List (Term A)) (r : Result T E)
      → ((width : ℕ) → AreTerms o wires width None old → IsRow o width row → IfOk r (λ _. AreTerms o (wires + 1) width None new))
      → ((below : List A) (i : ℕ) → i < wires → IfOk r (λ _. wire o (coef o new) below i ≡ wire o (coef o old) below i))
      → ((below : List A) → AreTerms o wires (length below) None old → IsRow o (length below) row → IfOk r (λ _. wire o (coef o new) below wires ≡ row_value o below row))
      → IfOk r (λ _. length new ≡ length old + length row)
      → IfOk r (λ _. new ≡ old ++ map (placed wires) row)
      → ((width : ℕ) → AreWithin width products → IsRow o width row)
      → ((below : List A) → row_value o below row ≡ products_value o below products)
      → length row ≤ length products
      → (products ≡ one_row o → row ≡ ordered o.one 0 0 ∷ [])
      → (width : ℕ) → AreWithin width products → OnOk r (Grows o width wires old (products ∷ []) new)
  grown wires products old new row (Err e) terms before added count exact own value short one width within = tt
  grown wires products old new row (Ok x) terms before added count exact own value short one width within = λ rows long built.
      let whole : length (rows ++ products ∷ []) ≡ wires + 1 = length-append rows (products ∷ []) ∙ ap (λ n. n + 1) long in
      let below_terms : AreTerms o wires width None old = subst (λ n. AreTerms o n width None old) long built.ordered in
      record {
        ordered = subst (λ n. AreTerms o n width None new) (sym whole) (terms width below_terms (own width within));
        values = λ below fits i lt. elim (cases_lt i (length rows)) [
          | inl less ↦
              before below i (omega (arith, long, less)) ∙ built.values below fits i less ∙ ap (products_value o below) (sym (get_or_append_left rows (products ∷ []) [] i less))
          | inr more ↦
              let here : i ≡ length rows = omega (arith, whole, long, lt, more) in
              ap (wire o (coef o new) below) (here ∙ long)
              ∙ added below (subst (λ n. AreTerms o wires n None old) (sym fits) below_terms) (subst (λ n. IsRow o n row) (sym fits) (own width within))
              ∙ value below ∙ ap (products_value o below) (sym (get_or_push rows products [] i (sym here)))
        ];
        count = let all = sizes-append rows products in let some = built.count in omega (arith, all, some, count, short);
        one = λ some first. one_first rows products wires old new row long built.count exact one built.one first;
      }

  pub grows_two : (width wires next : ℕ) (old mid new : List (Term A)) (more rest : List (List (Product A))) → next ≡ wires + length more
      → Grows o width wires old more mid → Grows o width next mid rest new → Grows o width wires old (more ++ rest) new
  grows_two width wires next old mid new more rest e g h rows long built =
      subst (λ l. IsBuilt o width l new) (append_assoc rows more rest) (h (rows ++ more) (length-append rows more ∙ ap (λ n. n + length more) long ∙ sym e) (g rows long built))

  pub grows_none : (width wires : ℕ) (old : List (Term A)) → Grows o width wires old [] old
  grows_none width wires old rows long built = subst (λ l. IsBuilt o width l old) (sym (append-nil rows)) built

  -- one row more of a row of rows
  pub row_more : (f : ℕ → List (Product A)) (width wires next a n t : ℕ) (old mid new : List (Term A)) → a + n ≡ t → next ≡ wires + n
      → length (map f (range_with_len a n)) ≡ n
      → Grows o width wires old (map f (range_with_len a n)) mid → Grows o width next mid (f t ∷ []) new → Grows o width wires old (map f (range_with_len a (n + 1))) new
  row_more f width wires next a n t old mid new e en long g h =
      subst (λ l. Grows o width wires old l new) (sym (map-range_with_len_more f a n t e)) (grows_two width wires next old mid new (map f (range_with_len a n)) (f t ∷ []) (en ∙ ap (λ k. wires + k) (sym long)) g h)

  -- several rows more
  pub rows_more : (f : ℕ → List (List (Product A))) (width wires next a n t : ℕ) (old mid new : List (Term A)) → a + n ≡ t → next ≡ wires + length (flat_map f (range_with_len a n))
      → Grows o width wires old (flat_map f (range_with_len a n)) mid → Grows o width next mid (f t) new → Grows o width wires old (flat_map f (range_with_len a (n + 1))) new
  rows_more f width wires next a n t old mid new e en g h =
      let same : flat_map f (range_with_len a n) ++ f t ≡ flat_map f (range_with_len a (n + 1)) =
      ap (λ l. flat_map f (range_with_len a n) ++ l) (sym (append-nil (f t))) ∙ sym (flat_map-append f (range_with_len a n) (t ∷ [])) ∙ ap (flat_map f) (sym (range_more a n t e)) in
      subst (λ l. Grows o width wires old l new) same (grows_two width wires next old mid new (flat_map f (range_with_len a n)) (f t) en g h)

  -- the rows of a whole layer
  pub built_from : (width : ℕ) (rows : List (List (Product A))) (terms none : List (Term A)) → none ≡ [] → Grows o width 0 none rows terms → IsBuilt o width rows terms
  built_from width rows terms none e g = g [] refl (subst (λ l. IsBuilt o width [] l) (sym e) empty) where
    empty : IsBuilt o width [] []
    empty = record {
      ordered = tt;
      values = λ below fits i lt. absurd (omega (arith, lt));
      count = omega arith;
      one = λ some first. absurd (omega (arith, some));
    }

  -- a row that is another one's
  pub pushed : (width wires : ℕ) (old new : List (Term A)) (row f : List (Product A)) → row ≡ f → AreWithin width f
      → ((n : ℕ) → AreWithin n row → Grows o n wires old (row ∷ []) new) → Grows o width wires old (f ∷ []) new
  pushed width wires old new row f same within h = subst (λ l. Grows o width wires old (l ∷ []) new) same (h width (subst (AreWithin width) (sym same) within))
