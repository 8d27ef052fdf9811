use Rattle.std.proofs.Common.{ℕ, ◌≤◌, [], List, map, ap, ◌∙◌, sym, subst, arith}
use Rattle.std.specs.List.{range_with_len}
use Rattle.std.proofs.lemmas.List.FromFn.{fill_by_all}
use Rattle.lzk_layout.specs.Sizes.{AreBounded, params_of}
use Rattle.lzk_layout.specs.declared.params.Params.{Params}
use Rattle.lzk_ligero_tableau.specs.Digests.{digest_at}
use Rattle.lzk_ligero_tableau.specs.Table.{IsTable}
use Rattle.lzk_ligero_tableau.specs.Tableau.{low_words, tableau}
use Rattle.lzk_ligero_tableau.proofs.TableauLaws.{leaves_are}
use Rattle.lzk_ligero_commit.proofs.hashing.hash.Goals as goal

pub returns-clause-leaves : goal.returns-clause-leaves
returns-clause-leaves g c = λ table.
    let f = g.F.Field in
    let e = f.coding in
    let given = c.args.given.now in
    let plan = given.plan.now in
    let circuit = plan.circuit.now in
    let private = given.private.now in
    let word = low_words (g.W.Words.at given.words.now) in
    let rows = c.args.rows.now in
    let digest = digest_at f.ops e.bytes e.number word plan.params rows in
    let digests : Params → List (List ℕ) = λ p. map (digest_at f.ops e.bytes e.number word p rows) (range_with_len 0 p.mcol) in
    let b : AreBounded (params_of circuit) = subst AreBounded plan.are plan.bounded in
    let three : 3 ≤ (params_of circuit).nrow = omega (arith, b.rows) in
    let kept = subst (λ (p : Params). IsTable f.ops e.element p.ncol (tableau f.ops e circuit private word) rows) plan.are table in
    fill_by_all digest c.for_each_chunk_mut.new.s plan.params.mcol [] (omega (arith, c.for_each_chunk_mut.auto.s, c.requires.leaves))
    (λ k h.
    let d = (c.for_each_chunk_mut.ensures.by_index k [] (omega (arith, c.requires.leaves))).1 in
    sym d.new_element ∙ d.call d.offset d.offset_in_chunk ∙ ap digest d.start_plus_offset)
    ∙ ap digests plan.are
    ∙ leaves_are f.ops e circuit private word three rows kept b.columns
