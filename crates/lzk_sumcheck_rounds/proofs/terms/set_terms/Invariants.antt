use Rattle.std.proofs.Common.{◌≡◌, length, map}
use Rattle.std.specs.Prelude.{slice_index_or}
use Rattle.lzk_circuit.specs.Wires.{weighed_term}
use Rattle.lzk_sumcheck_rounds.specs.Pairs.{first_pair}
use Rattle.lzk_sumcheck_rounds.proofs.KeptLaws.{IsCounted}
use Rattle.lzk_sumcheck_rounds.proofs.LayerSends.{no_term}
use Rattle.lzk_sumcheck_rounds.proofs.terms.set_terms.Given as goal

abbrev pub invariant-loop-i : goal.invariant-loop-i
invariant-loop-i g l =
    let m = g.F.Field in
    let o = m.ops in
    record {
      pairs : length l.pairs ≡ length l.fn.pairs;
      linear : length l.linear ≡ length l.fn.linear;
      counted : IsCounted o m.laws.ring (map (λ k. first_pair o l.weights (weighed_term o l.beta (slice_index_or l.terms k (no_term o)))) l.order) l.i l.kept l.pairs l.linear;
    }
