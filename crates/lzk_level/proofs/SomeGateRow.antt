-- Each gate has a row in the level of its depth.
use Rattle.std.specs.Prelude.{◌≡◌, ℕ, Option, Some, None, List, [], ◌∷◌, ◌++◌, length, map}
use Rattle.std.proofs.Common.{refl, sym, ap, ap₂, ◌∙◌, arith}
use Rattle.std.proofs.lemmas.List.{length-append, length-map}
use Rattle.lzk_field.specs.Ring.{Ops, RingLaws}
use Rattle.lzk_field.specs.Sums.{entry}
use Rattle.lzk_circuit.specs.declared.layer.Term.{Term}
use Rattle.lzk_circuit.specs.Valid.{AreTerms}
use Rattle.lzk_circuit_reduce.specs.Rows.{row_value, term_value, ordered, multiplied}
use Rattle.lzk_circuit_reduce.specs.Renumbering.{at}
use Rattle.lzk_circuit_reduce.proofs.NormalLaws.{ZeroOrNot, AreOfRow, of-row-append, ordered-of-row, ordered-value, IsNormal, normal}
use Rattle.lzk_circuit_reduce.proofs.RowLaws.{multiple-value, value-append}
use Rattle.lzk_level.specs.Gates.{Gate, Constant, Combine, Mul}
use Rattle.lzk_level.specs.Nodes.{combined}
use Rattle.lzk_level.specs.Bounds.{at_parts, total}
use Rattle.lzk_level.proofs.Unshared.{row_at, AreAllRows, IsSingle, IsGateRow}
use Rattle.lzk_level.proofs.CombineLaws.{value-at, length-at}
use Rattle.lzk_level.proofs.NodeRowLaws.{constant-row, sum-row, product-row}

module _ {A : Type 0} (o : Ops A) where
  -- the terms of the parts' rows, each times its part's coefficient
  abbrev parts_terms : List (List (Term A)) → List (A × ℕ) → List (Term A)
  parts_terms rows [] = []
  parts_terms rows (p ∷ ps) = map (multiplied o p.0) (row_at rows p.1) ++ parts_terms rows ps

  multiple-of-row : (width : ℕ) (c : A) (before : Option (Term A)) (row : List (Term A)) → AreTerms o 1 width before row → AreOfRow width (map (multiplied o c) row)
  multiple-of-row width c before [] h = tt
  multiple-of-row width c before (t ∷ ts) h = let one = h.0 in (record { g = omega (arith, one.g); a = one.a; b = one.b }, multiple-of-row width c (Some t) ts h.2)

  parts-of-row : (width : ℕ) (rows : List (List (Term A))) (ps : List (A × ℕ)) → AreAllRows o width rows → AreOfRow width (parts_terms rows ps)
  parts-of-row width rows [] all = tt
  parts-of-row width rows (p ∷ ps) all =
      of-row-append width (map (multiplied o p.0) (row_at rows p.1)) (parts_terms rows ps) (multiple-of-row width p.0 None (row_at rows p.1) (all p.1)) (parts-of-row width rows ps all)

  parts-length : (rows : List (List (Term A))) (ps : List (A × ℕ)) → length (parts_terms rows ps) ≡ total (at_parts (map length rows) ps)
  parts-length rows [] = refl
  parts-length rows (p ∷ ps) =
      length-append (map (multiplied o p.0) (row_at rows p.1)) (parts_terms rows ps) ∙ omega (arith, length-map (row_at rows p.1) (multiplied o p.0), length-at rows p.1, parts-length rows ps)

module _ {A : Type 0} (o : Ops A) (r : RingLaws o) where
  parts-value : (below : List A) (rows : List (List (Term A))) (ps : List (A × ℕ)) → row_value o below (parts_terms o rows ps) ≡ combined o (map (row_value o below) rows) ps
  parts-value below rows [] = refl
  parts-value below rows (p ∷ ps) =
      value-append o r below (map (multiplied o p.0) (row_at rows p.1)) (parts_terms o rows ps)
      ∙ ap₂ o.plus (multiple-value o r p.0 below (row_at rows p.1) ∙ ap (o.times p.0) (sym (value-at o r below rows p.1))) (parts-value below rows ps)

  module _ (decide : ZeroOrNot o) where
    -- a row of one product at most
    single-value : (below : List A) (c : A) (a b : ℕ) (row : List (Term A)) → IsNormal o r decide (ordered c a b ∷ []) row → row_value o below row ≡ o.times c (o.times (entry o below a) (entry o below b))
    single-value below c a b row n = n.value below ∙ r.plus_zero (term_value o below (ordered c a b)) ∙ ordered-value o r decide below c a b

    single : (c : A) (a b : ℕ) → (row : List (Term A)) × IsSingle o c a b row
    single c a b =
        let (row, n) = normal o r decide (ordered c a b ∷ []) in (
          row,
          record {
            terms = λ width la lb. n.terms width (ordered-of-row width c a b la lb, tt);
            value = λ below. single-value below c a b row n;
            short = n.short;
          },
        )

    pub gate-row : (places : List ℕ) (rows : List (List (Term A))) (gate : Gate A) → (row : List (Term A)) × IsGateRow o places rows gate row
    gate-row places rows (Constant c) = let (row, n) = single c 0 0 in (row, constant-row o r places rows c row n)
    gate-row places rows (Combine parts) =
        let (row, n) = normal o r decide (parts_terms o rows parts) in (
          row,
          sum-row o r places rows parts row (record {
            terms = λ width all. n.terms width (parts-of-row o width rows parts all);
            value = λ below. n.value below ∙ parts-value below rows parts;
            short = omega (arith, n.short, parts-length o rows parts);
          }),
        )
    gate-row places rows (Mul x y) = let (row, n) = single o.one (at places x) (at places y) in (row, product-row o r places rows o.one x y row refl n)
