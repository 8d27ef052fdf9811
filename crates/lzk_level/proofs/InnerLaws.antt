-- What the walks over a level's rows keep.
use Rattle.std.specs.Prelude.{◌≡◌, ℕ, ◌+◌, ◌<◌, ◌≤◌, cond, true, false, None, List, [], ◌∷◌, ◌++◌, length, map, take}
use Rattle.std.proofs.Common.{suc, ◌⊎◌, inl, inr, refl, sym, ap, ◌∙◌, arith, subst}
use Rattle.std.proofs.lemmas.Bool.{cases_lt, true≢false}
use Rattle.std.proofs.lemmas.List.{take_more}
use Rattle.lzk_field.specs.Ring.{Ops}
use Rattle.lzk_circuit.specs.declared.layer.Term.{Term}
use Rattle.lzk_circuit.specs.Valid.{AreTerms}
use Rattle.lzk_circuit.specs.Wires.{coef, wire}
use Rattle.lzk_circuit_reduce.specs.Renumbering.{at}
use Rattle.lzk_circuit_reduce.specs.Rows.{IsRow, row_value, placed}
use Rattle.lzk_level.specs.Levels.{has_wire}
use Rattle.lzk_level.proofs.Unshared.{place_in, row_at, AreRows, lengths_in, lengths_of}
use Rattle.lzk_level.proofs.LevelLaws.{place-below}
use Rattle.lzk_level.proofs.NodeRowLaws.{all-rows}
use Rattle.lzk_level.proofs.OneLaws.{FirstIsRow, first-none, first-skips, first-adds}

module _ {A : Type 0} (o : Ops A) where
  -- the terms of the wires of the first k nodes
  pub record Inner (depths last : List ℕ) (level : ℕ) (rows : List (List (Term A))) (k wires : ℕ) (terms : List (Term A)) : Type 0 where
    pub next : wires ≡ place_in depths last level k
    pub most : wires ≤ k
    pub ordered : (width : ℕ) → AreRows o width rows → AreTerms o wires width None terms
    pub each : (below : List A) → AreRows o (length below) rows → (j : ℕ) → j < k → has_wire depths last level j ≡ true → wire o (coef o terms) below (place_in depths last level j) ≡ row_value o below (row_at rows j)
    pub count : length terms ≡ lengths_in depths last level rows k
    pub one : FirstIsRow depths last level rows k terms

  pub inner-starts : (depths last : List ℕ) (level : ℕ) (rows : List (List (Term A))) → Inner depths last level rows 0 0 []
  inner-starts depths last level rows = record {
    next = refl;
    most = omega arith;
    ordered = λ width h. tt;
    each = λ below h j l d. absurd (omega (arith, l));
    count = refl;
    one = first-none depths last level rows;
  }

  last_or : (j k : ℕ) → j < suc k → (j < k) ⊎ (j ≡ k)
  last_or j k l = elim (cases_lt j k) [ inl m ↦ inl m | inr m ↦ inr (omega (arith, l, m)) ]

  pub inner-skips : (depths last : List ℕ) (level : ℕ) (rows : List (List (Term A))) (k wires : ℕ) (terms : List (Term A)) → has_wire depths last level k ≡ false → Inner depths last level rows k wires terms → Inner depths last level rows (suc k) wires terms
  inner-skips depths last level rows k wires terms away i =
      record {
        next = i.next ∙ sym (ap (λ b. cond b 1 0 + place_in depths last level k) away ∙ omega arith);
        most = omega (arith, i.most);
        ordered = i.ordered;
        each = λ below h j l d. elim (last_or j k l) [ inl m ↦ i.each below h j m d | inr e ↦ absurd (true≢false (sym d ∙ ap (has_wire depths last level) e ∙ away)) ];
        count = i.count ∙ sym (ap (λ b. cond b (length (row_at rows k)) 0 + lengths_in depths last level rows k) away ∙ omega arith);
        one = first-skips depths last level rows k terms away i.one;
      }

  pub inner-adds : (depths last : List ℕ) (level : ℕ) (rows : List (List (Term A))) (k wires : ℕ) (old new row : List (Term A)) → has_wire depths last level k ≡ true → k < length rows → row ≡ row_at rows k
      → ((width : ℕ) → AreTerms o wires width None old → IsRow o width row → AreTerms o (wires + 1) width None new)
      → ((below : List A) (i : ℕ) → i < wires → wire o (coef o new) below i ≡ wire o (coef o old) below i)
      → ((below : List A) → AreTerms o wires (length below) None old → IsRow o (length below) row → wire o (coef o new) below wires ≡ row_value o below row)
      → length new ≡ length old + length row → new ≡ old ++ map (placed wires) row → Inner depths last level rows k wires old → Inner depths last level rows (suc k) (wires + 1) new
  inner-adds depths last level rows k wires old new row here l is terms before added count exact i =
      let own : (width : ℕ) → AreRows o width rows → IsRow o width row = λ width h. subst (IsRow o width) (sym is) (h k l) in
      record {
        next = ap (λ n. n + 1) i.next ∙ sym (ap (λ b. cond b 1 0 + place_in depths last level k) here ∙ omega arith);
        most = omega (arith, i.most);
        ordered = λ width h. terms width (i.ordered width h) (own width h);
        each = λ below h j m d. elim (last_or j k m) [
          | inl n ↦ before below (place_in depths last level j) (omega (arith, i.next, place-below depths last level j k n d)) ∙ i.each below h j n d
          | inr e ↦ subst (λ q. wire o (coef o new) below (place_in depths last level q) ≡ row_value o below (row_at rows q)) (sym e)
              (ap (wire o (coef o new) below) (sym i.next) ∙ added below (i.ordered (length below) h) (own (length below) h) ∙ ap (row_value o below) is)
        ];
        count = count ∙ ap (λ n. n + length row) i.count ∙ sym (ap (λ b. cond b (length (row_at rows k)) 0 + lengths_in depths last level rows k) here ∙ ap (λ us. length us + lengths_in depths last level rows k) (sym is) ∙ omega arith);
        one = first-adds depths last level rows k wires old new row i.next i.count is exact i.one;
      }

  -- the terms of the first g outputs
  pub record Outer (rows : List (List (Term A))) (outputs : List ℕ) (g : ℕ) (terms : List (Term A)) : Type 0 where
    pub ordered : (width : ℕ) → AreRows o width rows → AreTerms o g width None terms
    pub each : (below : List A) → AreRows o (length below) rows → (i : ℕ) → i < g → wire o (coef o terms) below i ≡ row_value o below (row_at rows (at outputs i))
    pub count : length terms ≡ lengths_of rows (take g outputs)

  pub outer-starts : (rows : List (List (Term A))) (outputs : List ℕ) → Outer rows outputs 0 []
  outer-starts rows outputs = record {
    ordered = λ width h. tt;
    each = λ below h i l. absurd (omega (arith, l));
    count = refl;
  }

  lengths-append : (rows : List (List (Term A))) (ks : List ℕ) (k : ℕ) → lengths_of rows (ks ++ k ∷ []) ≡ lengths_of rows ks + length (row_at rows k)
  lengths-append rows [] k = omega arith
  lengths-append rows (j ∷ ks) k = omega (arith, lengths-append rows ks k)

  pub outer-adds : (rows : List (List (Term A))) (outputs : List ℕ) (g : ℕ) (old new row : List (Term A)) → g < length outputs → row ≡ row_at rows (at outputs g)
      → ((width : ℕ) → AreTerms o g width None old → IsRow o width row → AreTerms o (g + 1) width None new)
      → ((below : List A) (i : ℕ) → i < g → wire o (coef o new) below i ≡ wire o (coef o old) below i)
      → ((below : List A) → AreTerms o g (length below) None old → IsRow o (length below) row → wire o (coef o new) below g ≡ row_value o below row)
      → length new ≡ length old + length row → Outer rows outputs g old → Outer rows outputs (g + 1) new
  outer-adds rows outputs g old new row l is terms before added count i =
      let own : (width : ℕ) → AreRows o width rows → IsRow o width row = λ width h. subst (IsRow o width) (sym is) (all-rows o width rows h (at outputs g)) in
      record {
        ordered = λ width h. terms width (i.ordered width h) (own width h);
        each = λ below h j m. elim (last_or j g (omega (arith, m))) [
          | inl n ↦ before below j n ∙ i.each below h j n
          | inr e ↦ subst (λ q. wire o (coef o new) below q ≡ row_value o below (row_at rows (at outputs q))) (sym e) (added below (i.ordered (length below) h) (own (length below) h) ∙ ap (row_value o below) is)
        ];
        count = count ∙ ap (λ n. n + length row) i.count ∙ ap (λ us. lengths_of rows (take g outputs) + length us) is ∙ sym (lengths-append rows (take g outputs) (at outputs g)) ∙ ap (lengths_of rows) (sym (take_more outputs g 0 l));
      }
