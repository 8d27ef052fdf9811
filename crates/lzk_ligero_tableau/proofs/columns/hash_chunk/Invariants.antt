use Rattle.std.proofs.Common.{◌≡◌, ℕ, ◌+◌, ◌*◌, ◌<◌, [], length, slice_index_or}
use Rattle.lzk_ligero_tableau.specs.Digests.{digest_at}
use Rattle.lzk_ligero_tableau.specs.Tableau.{low_words}
use Rattle.lzk_ligero_tableau.proofs.columns.hash_chunk.Given as goal

abbrev pub invariant-fours : goal.invariant-fours
invariant-fours g l =
    let f = g.F.Field in
    (length l.leaves ≡ length l.fn.leaves) × (length l.elements ≡ 4 * l.given.plan.now.params.nrow) × (length l.room ≡ 4 * (32 + l.given.plan.now.params.nrow * f.coding.bytes))
    × ((k : ℕ) → k < 4 * l.q → slice_index_or l.leaves k [] ≡ digest_at f.ops f.coding.bytes f.coding.number (low_words (g.W.Words.at l.given.words.now)) l.given.plan.now.params l.rows (l.first + k))

abbrev pub invariant-rest : goal.invariant-rest
invariant-rest g l =
    let f = g.F.Field in
    (length l.leaves ≡ length l.fn.leaves)
    × ((k : ℕ) → k < l.k → slice_index_or l.leaves k [] ≡ digest_at f.ops f.coding.bytes f.coding.number (low_words (g.W.Words.at l.given.words.now)) l.given.plan.now.params l.rows (l.first + k))
