use Rattle.std.specs.Prelude.{slice_index}
use Rattle.std.proofs.Common.{◌≡◌, ℕ, List, [], length, map, sym, ◌∙◌, arith}
use Rattle.std.proofs.lemmas.List.{same_lists, get_or_default, get_or-map, length-map}
use Rattle.lzk_sumcheck.proofs.Filled.{IsFilled, filled_more}
use Rattle.lzk_ligero_tableau.specs.Tableau.{nonce, low_words}
use Rattle.lzk_ligero_steps.proofs.opening.write_nonces.Goals as goal

-- the values at listed places, where each was written
filled_map : {X : Type 0} (d : X) (f : ℕ → X) (ks : List ℕ) (xs : List X) (n : ℕ) → length xs ≡ length ks → length ks ≡ n → IsFilled d (λ i. f (slice_index ks i)) n xs → xs ≡ map f ks
filled_map d f ks xs n size count each =
    same_lists xs (map f ks) (size ∙ sym (length-map ks f))
    (λ k e h. get_or_default xs k e d h ∙ each k (omega (arith, h, size, count)) ∙ sym (get_or-map f ks k 0 e (omega (arith, h, size))))

pub nonce-requires-after_bounds : goal.nonce-requires-after_bounds
nonce-requires-after_bounds g c κs within = c.requires.below c.columns.k c.columns-test.true

pub columns-preserved : goal.columns-preserved
columns-preserved g c =
    let given = c.args.given.now in
    let f = g.F.Field in
    filled_more [] (λ i. nonce f.ops f.coding given.plan.now.circuit.now given.private.now (low_words (g.W.Words.at given.words.now)) (slice_index c.args.columns.now i)) c.columns.k c.columns.nonces c.nonce.result
    (omega (arith, c.columns-test.true, c.columns.auto.nonces, c.requires.room)) c.nonce.ensures c.columns.invariant

pub returns-clause-room : goal.returns-clause-room
returns-clause-room g c = c.columns.auto.nonces ∙ c.requires.room

pub returns-clause-nonces : goal.returns-clause-nonces
returns-clause-nonces g c =
    let given = c.args.given.now in
    let f = g.F.Field in
    filled_map [] (nonce f.ops f.coding given.plan.now.circuit.now given.private.now (low_words (g.W.Words.at given.words.now))) c.args.columns.now c.columns.nonces c.columns.k (c.columns.auto.nonces ∙ c.requires.room)
    (omega (arith, c.columns-test.false, c.columns.auto.k-end)) c.columns.invariant
