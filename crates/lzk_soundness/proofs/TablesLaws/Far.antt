-- A table that is far from codewords is caught, unless a weight is bad.
use Rattle.std.specs.Prelude.{◌≡◌, ℕ, ◌+◌, ◌-◌, ◌<◌, slice_index}
use Rattle.std.proofs.Common.{sym, ap, ◌∙◌, arith}
use Rattle.lzk_field.specs.Ring.{Ops, Laws}
use Rattle.lzk_field.specs.Sums.{sum_below, entry}
use Rattle.lzk_field.proofs.Numbering.{points_apart}
use Rattle.lzk_field.proofs.SumLaws.{sum-ext}
use Rattle.lzk_poly.specs.Polynomial.{eval}
use Rattle.lzk_poly.specs.Through.{through}
use Rattle.lzk_poly.proofs.Through.{eval-through, length-through}
use Rattle.lzk_soundness.proofs.ChanceLaws.FewLaws.{fewer}
use Rattle.lzk_layout.specs.declared.params.Params.{Params}
use Rattle.lzk_layout.specs.Sizes.{AreBounded}
use Rattle.lzk_accept.specs.Checks.{at_row}
use Rattle.lzk_soundness.specs.Near.Near.{AreApart}
use Rattle.lzk_soundness.proofs.NearLaws.Columns.{far_agrees_rarely}
use Rattle.lzk_soundness.proofs.NearLaws.Lists.{mixes_rare}
use Rattle.lzk_soundness.proofs.NearLaws.Mixes.{mixes_few, far_unless_bad}
use Rattle.lzk_soundness.specs.Tables.Table.{place, tested, low_degree_at, PassesAt}
use Rattle.lzk_soundness.specs.Tables.Laws.{FarTablesPassRarely, FarTablesAreCaught}

module _ {A : Type 0} {o : Ops A} {size : ℕ} {number_of : A → ℕ} {element : ℕ → A} {bytes : ℕ} (laws : Laws o size number_of element bytes) where
  pub columns_apart : (p : Params) (table : ℕ → ℕ → A) → AreBounded p → AreApart (place o element p table) p.mcol
  columns_apart p table b i j l h same = points_apart laws (p.dblock + p.mcol) (omega (arith, b.ncol, b.columns)) (p.dblock + i) (p.dblock + j) (omega (arith, l)) (omega (arith, h)) same

  pub far_tables_pass_rarely : FarTablesPassRarely o element
  far_tables_pass_rarely p table e wins ds b small far only distinct =
      mixes_rare o laws.ring laws.field (place o element p table) p.block p.mcol e (p.nrow - 3) (table 0) (tested o element p table) wins ds
      (record { apart = columns_apart p table b; few = omega (arith, small, b.mcol); far = far; only = only }) distinct

  pub far_tables_are_caught : FarTablesAreCaught o element
  far_tables_are_caught p table proof columns u e b small far =
      let at = place o element p table in
      let rows = tested o element p table in
      let m = p.nrow - 3 in (
        λ k h. mixes_few o laws.ring laws.field at p.block p.mcol e m (table 0) rows (entry o u) k (columns_apart p table b) (omega (arith, small, b.mcol)) h,
        λ opened lengths passes good.
            let apart_from = far_unless_bad o laws.ring at p.block p.mcol e m (table 0) rows (entry o u) far good in
            record {
              passes = λ k h.
                  let j = slice_index columns k in
                  let H : ℕ → A = at_row o p proof k in
                  sym (passes k h
                  ∙ ap (λ x. o.plus x (sum_below o m (λ i. o.times (entry o u i) (H (3 + i))))) (opened.values k 0 h (omega (arith, b.rows)))
                  ∙ ap (o.plus (table 0 j)) (sum-ext o laws.ring m (λ i. o.times (entry o u i) (H (3 + i))) (λ i. o.times (entry o u i) (rows i j)) (λ i q. ap (o.times (entry o u i)) (opened.values k (3 + i) h (omega (arith, q))))));
              few = fewer (p.mcol - e - 1) (p.mcol - e - 1) (λ (j : ℕ). (j < p.mcol) × (low_degree_at o element p table u j ≡ eval o (through o element proof.ldt) (at j))) (λ (j : ℕ). (j < p.mcol) × PassesAt o element p table u proof j)
                  (omega arith) (λ j q. (q.0, q.1 ∙ sym (eval-through o laws.ring element proof.ldt (at j))))
                  (far_agrees_rarely o at p.block p.mcol e (low_degree_at o element p table u) (through o element proof.ldt) apart_from (omega (arith, length-through o element proof.ldt, lengths.ldt)));
            },
      )
