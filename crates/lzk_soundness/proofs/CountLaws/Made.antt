-- Rows whose polynomials a table is near.
use Rattle.std.specs.Prelude.{◌≡◌, ℕ, ◌+◌, ◌-◌, ◌<◌, List, [], length, map}
use Rattle.std.specs.List.{range_with_len}
use Rattle.std.proofs.Common.{zero, suc, ap, ◌∙◌, arith}
use Rattle.std.proofs.lemmas.List.FromFn.{get_or-map-range_with_len, length-map-range_with_len}
use Rattle.lzk_field.specs.Ring.{Ops, Laws}
use Rattle.lzk_poly.specs.Extension.{extension}
use Rattle.lzk_poly.specs.Polynomial.{eval}
use Rattle.lzk_poly.specs.Through.{values_of}
use Rattle.lzk_poly.proofs.Through.{extension-values_of, length-values_of}
use Rattle.lzk_layout.specs.declared.params.Params.{Params}
use Rattle.lzk_layout.specs.Sizes.{AreBounded}
use Rattle.lzk_ligero_answers.specs.Rows.{row, AreRows}
use Rattle.lzk_ligero_answers.proofs.PassLaws.{apart}
use Rattle.lzk_soundness.specs.Tables.Table.{IsNear}

-- row 0 and the rows from row 3 on have the values of the polynomials that the table is near, and rows 1 and 2 those of two others
module _ {A : Type 0} {o : Ops A} {size : ℕ} {number_of : A → ℕ} {element : ℕ → A} {bytes : ℕ} (laws : Laws o size number_of element bytes) (p : Params) (table : ℕ → ℕ → A) (b : AreBounded p) (near : IsNear o element p table p.block) (first second : List A) where
  unfoldable pub made_row : ℕ → List A
  made_row zero = values_of o element p.block (near.code 0)
  made_row (suc zero) = values_of o element p.dblock first
  made_row (suc (suc zero)) = values_of o element p.dblock second
  made_row (suc (suc (suc i))) = values_of o element p.block (near.code (suc i))

  abbrev pub made : List (List A)
  made = map made_row (range_with_len 0 p.nrow)

  pub row_is : (i : ℕ) → i < p.nrow → row made i ≡ made_row i
  row_is i h = get_or-map-range_with_len made_row 0 p.nrow i i [] h (omega arith)

  pub made_are : AreRows p made
  unfolding made_row
  made_are = record {
    count = length-map-range_with_len made_row 0 p.nrow;
    first = ap length (row_is 0 (omega (arith, b.rows))) ∙ length-values_of o element p.block (near.code 0);
    second = ap length (row_is 1 (omega (arith, b.rows))) ∙ length-values_of o element p.dblock first;
    third = ap length (row_is 2 (omega (arith, b.rows))) ∙ length-values_of o element p.dblock second;
    others = λ i h. ap length (row_is (3 + i) (omega (arith, h))) ∙ ap (λ (k : ℕ). length (made_row k)) (three i) ∙ length-values_of o element p.block (near.code (suc i));
  }
    where
      three : (i : ℕ) → 3 + i ≡ suc (suc (suc i))
      three i = omega arith

  pub value_is : (i j : ℕ) → i < p.nrow - 3 + 1 → extension o element (values_of o element p.block (near.code i)) (p.dblock + j) ≡ eval o (near.code i) (element (p.dblock + j))
  value_is i j h = extension-values_of o laws.ring laws.field element p.block (near.code i) (near.short i h) (apart laws p b p.block (omega (arith, b.columns, b.dblock, b.block))) (p.dblock + j)

  pub other_is : (i j : ℕ) → i < p.nrow - 3 → extension o element (row made (3 + i)) (p.dblock + j) ≡ eval o (near.code (suc i)) (element (p.dblock + j))
  unfolding made_row
  other_is i j l =
      let three : 3 + i ≡ suc (suc (suc i)) = omega arith in
      ap (λ xs. extension o element xs (p.dblock + j)) (row_is (3 + i) (omega (arith, l)) ∙ ap made_row three) ∙ value_is (suc i) j (omega (arith, l))
