use Rattle.std.proofs.Common.{◌+◌, ◌*◌, length, get_or, [], ap, sym, ◌∙◌, arith}
use Rattle.std.specs.Prelude.{slice_set}
use Rattle.std.proofs.lemmas.List.{length-set}
use Rattle.lzk_merkle.specs.Leaf.{leaf_of}
use Rattle.lzk_verify.proofs.leaves.make_four.Goals as goal

pub four_leaves-requires-clause-second : goal.four_leaves-requires-clause-second
four_leaves-requires-clause-second g c κs within = ap length c.deref-2.ensures.value ∙ c.requires.columns.second.elements ∙ sym (ap length c.deref.ensures.value ∙ c.requires.columns.first.elements)

pub four_leaves-requires-clause-third : goal.four_leaves-requires-clause-third
four_leaves-requires-clause-third g c κs within = ap length c.deref-3.ensures.value ∙ c.requires.columns.third.elements ∙ sym (ap length c.deref.ensures.value ∙ c.requires.columns.first.elements)

pub four_leaves-requires-clause-fourth : goal.four_leaves-requires-clause-fourth
four_leaves-requires-clause-fourth g c κs within = sym (ap length c.deref.ensures.value ∙ c.requires.columns.first.elements)

pub four_leaves-requires-clause-room : goal.four_leaves-requires-clause-room
four_leaves-requires-clause-room g c κs within = c.requires.bytes ∙ ap (λ n. 4 * (32 + n * g.F.Field.coding.bytes)) (sym (ap length c.deref.ensures.value ∙ c.requires.columns.first.elements))

pub bounds-made-first : goal.bounds-made-first
bounds-made-first g c = c.requires.columns.first.place

pub bounds-made-second : goal.bounds-made-second
bounds-made-second g c =
    omega (arith, c.requires.columns.second.place, length-set c.args.made.now c.args.columns.now.first.place (get_or c.four_leaves.result 0 []))

pub bounds-made-third : goal.bounds-made-third
bounds-made-third g c =
    let one = slice_set c.args.made.now c.args.columns.now.first.place (get_or c.four_leaves.result 0 []) in
    omega (arith, c.requires.columns.third.place, length-set c.args.made.now c.args.columns.now.first.place (get_or c.four_leaves.result 0 []), length-set one c.args.columns.now.second.place (get_or c.four_leaves.result 1 []))

pub bounds-made-place : goal.bounds-made-place
bounds-made-place g c =
    let one = slice_set c.args.made.now c.args.columns.now.first.place (get_or c.four_leaves.result 0 []) in
    let two = slice_set one c.args.columns.now.second.place (get_or c.four_leaves.result 1 []) in
    omega (arith, c.requires.inside, length-set c.args.made.now c.args.columns.now.first.place (get_or c.four_leaves.result 0 []), length-set one c.args.columns.now.second.place (get_or c.four_leaves.result 1 []), length-set two c.args.columns.now.third.place (get_or c.four_leaves.result 2 []))

pub returns : goal.returns
returns g c =
    let e = g.F.Field.coding in
    let k = c.args.columns.now in
    let leaf = leaf_of e.bytes e.number in
    let all = c.four_leaves.ensures in
    let a = ap (λ xs. get_or xs 0 []) all ∙ ap (leaf k.first.nonce) c.deref.ensures.value in
    let b = ap (λ xs. get_or xs 1 []) all ∙ ap (leaf k.second.nonce) c.deref-2.ensures.value in
    let d = ap (λ xs. get_or xs 2 []) all ∙ ap (leaf k.third.nonce) c.deref-3.ensures.value in
    let own = ap (λ xs. get_or xs 3 []) all in
    λ i. slice_set (slice_set (slice_set (slice_set c.args.made.now k.first.place (a i)) k.second.place (b i)) k.third.place (d i)) c.args.place (own i)
