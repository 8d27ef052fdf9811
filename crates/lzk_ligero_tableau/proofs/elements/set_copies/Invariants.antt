use Rattle.std.proofs.Common.{◌≡◌, ℕ, ◌+◌, ◌*◌, ◌/◌, ◌%◌, ◌<◌, length}
use Rattle.std.specs.Prelude.{cond, nat_lt}
use Rattle.lzk_field.specs.Sums.{entry}
use Rattle.lzk_layout.specs.Places.{factors_at, places_of}
use Rattle.lzk_ligero_tableau.proofs.elements.set_copies.Given as goal

-- the first layers' copies are set, and zeros elsewhere
abbrev pub invariant-loop-l : goal.invariant-loop-l
invariant-loop-l g l =
    let o = g.F.Field.ops in
    let p = l.plan.params in
    record {
      places : l.places ≡ places_of l.plan.circuit.now l.l;
      length : length l.copies ≡ length l.fn.copies;
      set : (r s : ℕ) → r < 3 * p.ntriple → s < p.wr
          → entry o l.copies (r * p.wr + s) ≡ cond (nat_lt (r / 3 * p.wr + s) l.l) (entry o l.list (factors_at l.plan.circuit.now (r / 3 * p.wr + s) + r % 3)) o.zero;
    }
