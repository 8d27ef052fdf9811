use Rattle.std.proofs.Common.{◌≡◌, ℕ, ◌<◌, map, Some}
use Rattle.lzk_circuit_reduce.specs.Kept.{IsKept, IsMet, place_of, places_of}
use Rattle.lzk_circuit_reduce.proofs.KeptLaws.{steps}
use Rattle.lzk_circuit_reduce.proofs.kept.found.Given as goal

abbrev pub invariant-loop-link : goal.invariant-loop-link
invariant-loop-link g l =
    ((w : ℕ) → l.link ≡ Some w → w < l.kept.count)
    × ((width : ℕ) → IsKept g.F.Field.ops g.F.Field.coding.number width l.kept → (i : ℕ) → i < l.kept.count → places_of g.F.Field.coding.number i l.kept.terms.items ≡ map (place_of g.F.Field.coding.number) l.row → IsMet l.kept.links.items i l.link)

abbrev pub decreases-loop-link : goal.decreases-loop-link
decreases-loop-link g l = steps l.link
