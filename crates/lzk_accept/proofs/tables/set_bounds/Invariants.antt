use Rattle.std.proofs.Common.{◌≡◌, ℕ, ◌<◌, length}
use Rattle.lzk_field.specs.Sums.{entry}
use Rattle.lzk_mle.specs.Multilinear.{eq}
use Rattle.lzk_layout.specs.Places.{width_at}
use Rattle.lzk_sumcheck.specs.Coefficients.{coefficients, bound_at}
use Rattle.lzk_sumcheck.specs.Script.{point_a, point_b}
use Rattle.lzk_accept.proofs.tables.set_bounds.Given as goal

abbrev pub invariant-loop-l : goal.invariant-loop-l
invariant-loop-l g l =
    let o = g.F.Field.ops in
    let w = l.scripted.circuit.now in
    let s = l.scripted.script.now in
    record {
      bounds_length : length l.bounds ≡ length l.fn.bounds;
      first_length : length l.first ≡ length l.fn.first;
      second_length : length l.second ≡ length l.fn.second;
      weights_length : length l.weights ≡ length l.fn.weights;
      each : (i : ℕ) → i < l.l → entry o l.bounds i ≡ bound_at o w (coefficients o w s) s i;
      first : (k : ℕ) → k < width_at w l.l → entry o l.first k ≡ eq o k (point_a o s l.l);
      second : (k : ℕ) → k < width_at w l.l → entry o l.second k ≡ eq o k (point_b o s l.l);
    }
