use Rattle.std.specs.Prelude.{not}
use Rattle.std.proofs.Common.{◌≡◌, ◌≤◌, ◌++◌, length}
use Rattle.lzk_sumcheck_rounds.specs.Orders.{places}
use Rattle.lzk_sumcheck_rounds.proofs.OrderLaws.{is_linear, places_where}
use Rattle.lzk_sumcheck_rounds.proofs.order.sorted_places.Given as goal

abbrev pub invariant-loop-i : goal.invariant-loop-i
invariant-loop-i g l =
    record {
      are : places l.list.items ≡ places_where (is_linear l.terms) l.i;
      room : length l.terms ≤ l.list.cap;
    }

abbrev pub invariant-loop-j : goal.invariant-loop-j
invariant-loop-j g l =
    record {
      long : l.front ≤ length l.list.items;
      are : places l.list.items ≡ places_where (is_linear l.terms) (length l.terms) ++ places_where (λ i. not (is_linear l.terms i)) l.j;
      room : length l.terms ≤ l.list.cap;
    }
