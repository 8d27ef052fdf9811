-- What stands in the rows whose polynomials a table is near is what is extracted from it.
use Rattle.std.specs.Prelude.{◌≡◌, ℕ, ◌+◌, List, take}
use Rattle.std.proofs.Common.{suc, sym, ◌∙◌, arith}
use Rattle.lzk_field.specs.Coding.{Coding}
use Rattle.lzk_field.specs.Ring.{Ops, Laws}
use Rattle.lzk_circuit.specs.Valid.{Wiring, IsValid}
use Rattle.lzk_layout.specs.Sizes.{AreBounded, params_of}
use Rattle.lzk_ligero_answers.specs.Rows.{row}
use Rattle.lzk_soundness.specs.Rows.Held.{held}
use Rattle.lzk_soundness.specs.Tables.Table.{IsNear}
use Rattle.lzk_soundness.specs.Extract.Extraction.{extracted}
use Rattle.lzk_soundness.proofs.ExtractLaws.Decoding.{near_outside, rows_extracted}
use Rattle.lzk_soundness.proofs.CountLaws.Made.{made, made_are, other_is}

pub read_is : {A : Type 0} (o : Ops A) (e : Coding A) (laws : Laws o e.size e.number e.element e.bytes) (c : Wiring A) (table : ℕ → ℕ → A) (valid : IsValid o c) (b : AreBounded (params_of c)) (near : IsNear o e.element (params_of c) table (params_of c).block) (first second : List A)
    → extracted o e c table ≡ take c.privates (held o c (made laws (params_of c) table b near first second))
read_is o e laws c table valid b near first second =
    let p = params_of c in
    let are = made_are laws p table b near first second in
    let R = made laws p table b near first second in
    rows_extracted o e laws c R table valid (record {
      long = λ i h. are.others i (omega (arith, h, b.rows));
      near = λ i h. near_outside o e laws p (table (3 + i)) (row R (3 + i)) near.outside p.block near.few
          (λ j l out. near.agree (suc i) j (omega (arith, h, b.rows)) l out ∙ sym (other_is laws p table b near first second i j (omega (arith, h, b.rows))));
    })
