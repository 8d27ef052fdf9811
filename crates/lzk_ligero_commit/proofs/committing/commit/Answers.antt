use Rattle.std.proofs.Common.{◌≡◌, ◌*◌, length, drop, sym, ap, ◌∙◌, subst}
use Rattle.std.proofs.lemmas.List.{take_at}
use Rattle.lzk_layout.specs.Sizes.{params_of}
use Rattle.lzk_layout.specs.declared.params.Params.{Params}
use Rattle.lzk_merkle.specs.Nodes.{tree_node}
use Rattle.lzk_ligero_tableau.specs.Table.{IsTable}
use Rattle.lzk_ligero_tableau.specs.Tableau.{low_words, tableau}
use Rattle.lzk_ligero_commit.proofs.committing.commit.Goals as goal

pub hash-requires-clause-rows : goal.hash-requires-clause-rows
hash-requires-clause-rows g c κs within =
    c.rows.ensures.size ∙ ap (λ (p : Params). p.nrow * p.ncol) (c.fill.ensures.made.params ∙ sym c.args.given.now.plan.now.are)

pub hash-requires-clause-leaves : goal.hash-requires-clause-leaves
hash-requires-clause-leaves g c κs within =
    ap length c.leaves_mut.ensures.value ∙ c.requires.leaves ∙ sym (ap (λ (p : Params). p.mcol) c.args.given.now.plan.now.are)

pub returns-clause-leaves : goal.returns-clause-leaves
returns-clause-leaves g c =
    let f = g.F.Field in
    let e = f.coding in
    let given = c.args.given.now in
    let plan = given.plan.now in
    let word = low_words (g.W.Words.at given.words.now) in
    let rows = tableau f.ops e plan.circuit.now given.private.now word in
    let kept = subst (IsTable f.ops e.element (params_of plan.circuit.now).ncol rows) (sym c.rows.ensures.rows) c.fill.ensures.rows in
    let table = subst (λ (p : Params). IsTable f.ops e.element p.ncol rows c.rows.result.now) (sym plan.are) kept in
    let old = c.args.tree.now.leaves in
    let new = c.hash.new.leaves in
    let size : length new ≡ length old = c.hash.ensures.length ∙ ap length c.leaves_mut.ensures.value in
    c.build.ensures.leaves ∙ take_at new (drop (length new) old) (length old) size ∙ c.hash.ensures.leaves table

pub returns-clause-count : goal.returns-clause-count
returns-clause-count g c =
    let old = c.args.tree.now.leaves in
    let new = c.hash.new.leaves in
    let size : length new ≡ length old = c.hash.ensures.length ∙ ap length c.leaves_mut.ensures.value in
    ap length (c.build.ensures.leaves ∙ take_at new (drop (length new) old) (length old) size) ∙ size ∙ c.requires.leaves

pub returns-clause-root : goal.returns-clause-root
returns-clause-root g c =
    let f = g.F.Field in
    let e = f.coding in
    let given = c.args.given.now in
    let plan = given.plan.now in
    let word = low_words (g.W.Words.at given.words.now) in
    let rows = tableau f.ops e plan.circuit.now given.private.now word in
    let kept = subst (IsTable f.ops e.element (params_of plan.circuit.now).ncol rows) (sym c.rows.ensures.rows) c.fill.ensures.rows in
    let table = subst (λ (p : Params). IsTable f.ops e.element p.ncol rows c.rows.result.now) (sym plan.are) kept in
    let old = c.args.tree.now.leaves in
    let new = c.hash.new.leaves in
    let size : length new ≡ length old = c.hash.ensures.length ∙ ap length c.leaves_mut.ensures.value in
    let written = c.build.ensures.leaves ∙ take_at new (drop (length new) old) (length old) size in
    let count = ap length written ∙ size ∙ c.requires.leaves in
    let are = written ∙ c.hash.ensures.leaves table in
    c.root.ensures
    ∙ ap (λ n. tree_node n c.build.new.self.leaves 1) count
    ∙ ap (λ xs. tree_node (params_of plan.circuit.now).mcol xs 1) are
