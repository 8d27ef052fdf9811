-- A row times a factor that is not zero is a row.
use Rattle.std.specs.Prelude.{◌≢◌, ℕ, IsTrue, Option, Some, None, List, [], ◌∷◌, map}
use Rattle.lzk_field.specs.Ring.{Ops, RingLaws, FieldLaws}
use Rattle.lzk_field.proofs.RingBasics.{product_nonzero}
use Rattle.lzk_circuit.specs.declared.layer.Term.{Term}
use Rattle.lzk_circuit.specs.Valid.{follows, AreTerms}
use Rattle.lzk_circuit_reduce.specs.Rows.{IsRow, multiplied}

module _ {A : Type 0} (o : Ops A) (r : RingLaws o) where
  abbrev multiplied_before : A → Option (Term A) → Option (Term A)
  multiplied_before c None = None
  multiplied_before c (Some t) = Some (multiplied o c t)

  multiple-follows : (c : A) (before : Option (Term A)) (t : Term A) → IsTrue (follows before t) → IsTrue (follows (multiplied_before c before) (multiplied o c t))
  multiple-follows c None t h = h
  multiple-follows c (Some s) t h = h

  multiple-terms : FieldLaws o → (c : A) → c ≢ o.zero → (wires width : ℕ) (before : Option (Term A)) (row : List (Term A)) → AreTerms o wires width before row → AreTerms o wires width (multiplied_before c before) (map (multiplied o c) row)
  multiple-terms f c nz wires width before [] h = tt
  multiple-terms f c nz wires width before (t ∷ ts) h =
      let one = h.0 in
      (record { g = one.g; a = one.a; b = one.b; coef = product_nonzero o r f c t.coef nz one.coef }, multiple-follows c before t h.1, multiple-terms f c nz wires width (Some t) ts h.2)

  pub multiple-row : FieldLaws o → (c : A) → c ≢ o.zero → (width : ℕ) (row : List (Term A)) → IsRow o width row → IsRow o width (map (multiplied o c) row)
  multiple-row f c nz width row h = multiple-terms f c nz 1 width None row h
