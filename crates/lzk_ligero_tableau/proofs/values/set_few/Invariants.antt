use Rattle.std.proofs.Common.{◌≡◌, ℕ, ◌+◌, ◌<◌}
use Rattle.lzk_field.specs.Sums.{entry}
use Rattle.lzk_ligero_tableau.specs.Tableau.{low_words}
use Rattle.lzk_ligero_tableau.proofs.values.set_few.Given as goal

abbrev pub invariant-loop-i : goal.invariant-loop-i
invariant-loop-i g l =
    let f = g.F.Field in
    (k : ℕ) → k < l.i → entry f.ops l.out k ≡ f.coding.element (low_words (g.W.Words.at l.words) (l.first + k))
