use Rattle.std.proofs.Common.{◌+◌, ◌*◌, ◌∙◌, arith}
use Rattle.std.specs.Prelude.{slice_set}
use Rattle.std.proofs.lemmas.List.{get_or_default, get_or-set_same, get_or-set_other, length-set}
use Rattle.lzk_ligero_tableau.proofs.elements.set_three.Goals as goal

pub returns-clause-length : goal.returns-clause-length
returns-clause-length g c =
    let a = c.args in
    let one = slice_set a.list.now a.first c.index-values-0.result in
    let two = slice_set one (a.first + a.apart) c.index-values-1.result in
    length-set two (a.first + 2 * a.apart) c.index-values-2.result ∙ length-set one (a.first + a.apart) c.index-values-1.result ∙ length-set a.list.now a.first c.index-values-0.result

pub returns-clause-first : goal.returns-clause-first
returns-clause-first g c =
    let a = c.args in
    let zero = g.F.Field.ops.zero in
    let x = c.index-values-0.result in
    let one = slice_set a.list.now a.first x in
    let two = slice_set one (a.first + a.apart) c.index-values-1.result in
    get_or-set_other two (a.first + 2 * a.apart) a.first c.index-values-2.result zero (λ e. omega (arith, e, c.requires.apart))
    ∙ get_or-set_other one (a.first + a.apart) a.first c.index-values-1.result zero (λ e. omega (arith, e, c.requires.apart))
    ∙ get_or-set_same a.list.now a.first x zero (omega (arith, c.requires.inside)) ∙ c.index-values-0.is ∙ get_or_default a.values.now 0 x zero (omega (arith, c.requires.values))

pub returns-clause-second : goal.returns-clause-second
returns-clause-second g c =
    let a = c.args in
    let zero = g.F.Field.ops.zero in
    let y = c.index-values-1.result in
    let one = slice_set a.list.now a.first c.index-values-0.result in
    let two = slice_set one (a.first + a.apart) y in
    get_or-set_other two (a.first + 2 * a.apart) (a.first + a.apart) c.index-values-2.result zero (λ e. omega (arith, e, c.requires.apart))
    ∙ get_or-set_same one (a.first + a.apart) y zero (omega (arith, c.requires.inside, length-set a.list.now a.first c.index-values-0.result))
    ∙ c.index-values-1.is ∙ get_or_default a.values.now 1 y zero (omega (arith, c.requires.values))

pub returns-clause-third : goal.returns-clause-third
returns-clause-third g c =
    let a = c.args in
    let zero = g.F.Field.ops.zero in
    let z = c.index-values-2.result in
    let one = slice_set a.list.now a.first c.index-values-0.result in
    let two = slice_set one (a.first + a.apart) c.index-values-1.result in
    get_or-set_same two (a.first + 2 * a.apart) z zero
    (omega (arith, c.requires.inside, length-set one (a.first + a.apart) c.index-values-1.result, length-set a.list.now a.first c.index-values-0.result))
    ∙ c.index-values-2.is ∙ get_or_default a.values.now 2 z zero (omega (arith, c.requires.values))

pub returns-clause-others : goal.returns-clause-others
returns-clause-others g c = λ j p q r.
    let a = c.args in
    let zero = g.F.Field.ops.zero in
    let one = slice_set a.list.now a.first c.index-values-0.result in
    let two = slice_set one (a.first + a.apart) c.index-values-1.result in
    get_or-set_other two (a.first + 2 * a.apart) j c.index-values-2.result zero r ∙ get_or-set_other one (a.first + a.apart) j c.index-values-1.result zero q
    ∙ get_or-set_other a.list.now a.first j c.index-values-0.result zero p
