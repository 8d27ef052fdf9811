use Rattle.std.specs.Prelude.{[], slice_index}
use Rattle.lzk_sumcheck.proofs.Filled.{IsFilled}
use Rattle.lzk_ligero_tableau.specs.Tableau.{nonce, low_words}
use Rattle.lzk_ligero_steps.proofs.opening.write_nonces.Given as goal

abbrev pub invariant-columns : goal.invariant-columns
invariant-columns g l =
    IsFilled [] (λ i. nonce g.F.Field.ops g.F.Field.coding l.given.plan.now.circuit.now l.given.private.now (low_words (g.W.Words.at l.given.words.now)) (slice_index l.columns i)) l.k l.nonces
