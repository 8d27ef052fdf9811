-- Rows of combined coefficients that are multiplied by weights.
use Rattle.lzk_profile.specs.Profile.{opened_count}
use Rattle.std.specs.Prelude.{◌≡◌, ℕ, ◌+◌, ◌-◌, ◌*◌, ◌<◌, List, length}
use Rattle.std.proofs.Common.{sym, ap, ◌∙◌, arith}
use Rattle.lzk_field.specs.Ring.{Ops, RingLaws, FieldLaws}
use Rattle.lzk_field.specs.Sums.{sum_below, entry}
use Rattle.lzk_field.proofs.RingBasics.{zero_times}
use Rattle.lzk_field.proofs.SumLaws.{sum-ext, sum-times_right}
use Rattle.lzk_poly.specs.Weights.{IsWeights}
use Rattle.lzk_layout.specs.declared.params.Params.{Params}
use Rattle.lzk_accept.specs.declared.factored.Factored.{Factored}
use Rattle.lzk_verify.specs.Desk.{AreRows, AreWeightedRows}
use Rattle.lzk_verify.specs.Extending.{weight, weighted}
use Rattle.lzk_verify.proofs.Extended.{kept_weight, length_weighted, weighted_entry}

module _ {A : Type 0} (o : Ops A) (r : RingLaws o) (laws : FieldLaws o) (element : ℕ → A) (p : Params) (ws : List A) (weights : IsWeights o element p.block ws) (block : p.block ≡ opened_count + p.wr) where
  -- an entry of a row of weighted coefficients
  at_place : (list : List A) → length list ≡ p.block → (s : ℕ) → s < p.wr → entry o (weighted o element list) (opened_count + s) ≡ o.times (entry o list (opened_count + s)) (entry o ws (opened_count + s))
  at_place list long s h =
      weighted_entry o element list (opened_count + s) (omega (arith, h, long, block))
      ∙ ap (o.times (entry o list (opened_count + s))) (ap (λ n. weight o element n (opened_count + s)) long ∙ sym (kept_weight o r laws element ws p.block (opened_count + s) weights (omega (arith, h, block))))

  -- Factors of places and a table that are multiplied by the weights of the places give the weighted rows.
  pub rows_weighted : (old new : Factored A) → new.rows ≡ old.rows → new.row_factors ≡ old.row_factors
      → ((k s : ℕ) → k < 4 → s < p.wr → entry o new.place_factors (k * p.wr + s) ≡ o.times (entry o old.place_factors (k * p.wr + s)) (entry o ws (opened_count + s)))
      → ((i s : ℕ) → i < p.nrow - 3 - old.rows → s < p.wr → entry o new.table (i * p.wr + s) ≡ o.times (entry o old.table (i * p.wr + s)) (entry o ws (opened_count + s)))
      → (lists : ℕ → List A) → AreRows o p old lists → AreWeightedRows o element p new lists
  rows_weighted old new rows factors places table lists are = record {
    lengths = λ i. length_weighted o element (lists i) ∙ are.lengths i;
    front = λ i s h.
        weighted_entry o element (lists i) s (omega (arith, h, are.lengths i, block)) ∙ ap (λ z. o.times z (weight o element (length (lists i)) s)) (are.front i s h) ∙ zero_times o r _;
    back = record {
      private_rows = λ i s h q.
          let w = entry o ws (opened_count + s) in
          let own : ℕ → A = λ k. entry o old.row_factors (k * old.rows + i) in
          let there : ℕ → A = λ k. entry o old.place_factors (k * p.wr + s) in
          (λ j. sum_below o 4 (λ k. o.times (entry o (factors j) (k * rows j + i)) (entry o new.place_factors (k * p.wr + s))))
          ∙ sum-ext o r 4 (λ k. o.times (own k) (entry o new.place_factors (k * p.wr + s))) (λ k. o.times (o.times (own k) (there k)) w)
          (λ k l. ap (o.times (own k)) (places k s l q) ∙ sym (r.times_assoc (own k) (there k) w))
          ∙ sum-times_right o r 4 w (λ k. o.times (own k) (there k))
          ∙ ap (λ z. o.times z w) (are.back.private_rows i s (omega (arith, h, rows)) q)
          ∙ sym (at_place (lists (3 + i)) (are.lengths (3 + i)) s q);
      other_rows = λ i s h q.
          table i s (omega (arith, h, rows)) q
          ∙ ap (λ z. o.times z (entry o ws (opened_count + s))) (are.back.other_rows i s (omega (arith, h, rows)) q)
          ∙ ap (λ n. o.times (entry o (lists (3 + (n + i))) (opened_count + s)) (entry o ws (opened_count + s))) (sym rows)
          ∙ sym (at_place (lists (3 + (new.rows + i))) (are.lengths (3 + (new.rows + i))) s q);
    };
  }
