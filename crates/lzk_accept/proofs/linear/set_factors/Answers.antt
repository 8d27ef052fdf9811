use Rattle.std.proofs.Common.{◌+◌, ap, ◌∙◌, arith}
use Rattle.std.specs.Prelude.{slice_set}
use Rattle.std.proofs.lemmas.List.{get_or-set_same, get_or-set_other, length-set}
use Rattle.lzk_accept.proofs.linear.set_factors.Goals as goal

pub bounds-own-k : goal.bounds-own-k
bounds-own-k g c = omega (arith, c.requires)

pub bounds-own-k-2 : goal.bounds-own-k-2
bounds-own-k-2 g c = omega (arith, c.requires, length-set c.args.own.now c.args.k c.neg.result)

pub bounds-own-k-3 : goal.bounds-own-k-3
bounds-own-k-3 g c =
    let own = c.args.own.now in
    let k = c.args.k in
    omega (arith, c.requires, length-set own k c.neg.result, length-set (slice_set own k c.neg.result) (k + 1) c.neg-2.result)

pub returns-clause-length : goal.returns-clause-length
returns-clause-length g c =
    let own = c.args.own.now in
    let k = c.args.k in
    let one = slice_set own k c.neg.result in
    let two = slice_set one (k + 1) c.neg-2.result in
    length-set two (k + 2) c.neg-3.result ∙ length-set one (k + 1) c.neg-2.result ∙ length-set own k c.neg.result

pub returns-clause-d0 : goal.returns-clause-d0
returns-clause-d0 g c =
    let o = g.F.Field.ops in
    let own = c.args.own.now in
    let k = c.args.k in
    let one = slice_set own k c.neg.result in
    let two = slice_set one (k + 1) c.neg-2.result in
    get_or-set_other two (k + 2) k c.neg-3.result o.zero (omega arith) ∙ get_or-set_other one (k + 1) k c.neg-2.result o.zero (omega arith)
    ∙ get_or-set_same own k c.neg.result o.zero (omega (arith, c.requires)) ∙ c.neg.ensures ∙ ap o.neg c.mul.ensures

pub returns-clause-d1 : goal.returns-clause-d1
returns-clause-d1 g c =
    let o = g.F.Field.ops in
    let own = c.args.own.now in
    let k = c.args.k in
    let one = slice_set own k c.neg.result in
    let two = slice_set one (k + 1) c.neg-2.result in
    get_or-set_other two (k + 2) (k + 1) c.neg-3.result o.zero (omega arith)
    ∙ get_or-set_same one (k + 1) c.neg-2.result o.zero (omega (arith, c.requires, length-set own k c.neg.result)) ∙ c.neg-2.ensures ∙ ap o.neg c.mul-2.ensures

pub returns-clause-e : goal.returns-clause-e
returns-clause-e g c =
    let o = g.F.Field.ops in
    let own = c.args.own.now in
    let k = c.args.k in
    let one = slice_set own k c.neg.result in
    let two = slice_set one (k + 1) c.neg-2.result in
    get_or-set_same two (k + 2) c.neg-3.result o.zero (omega (arith, c.requires, length-set own k c.neg.result, length-set one (k + 1) c.neg-2.result)) ∙ c.neg-3.ensures

pub returns-clause-before : goal.returns-clause-before
returns-clause-before g c j h =
    let o = g.F.Field.ops in
    let own = c.args.own.now in
    let k = c.args.k in
    let one = slice_set own k c.neg.result in
    let two = slice_set one (k + 1) c.neg-2.result in
    get_or-set_other two (k + 2) j c.neg-3.result o.zero (omega (arith, h)) ∙ get_or-set_other one (k + 1) j c.neg-2.result o.zero (omega (arith, h))
    ∙ get_or-set_other own k j c.neg.result o.zero (omega (arith, h))

pub returns-clause-after : goal.returns-clause-after
returns-clause-after g c j h =
    let o = g.F.Field.ops in
    let own = c.args.own.now in
    let k = c.args.k in
    let one = slice_set own k c.neg.result in
    let two = slice_set one (k + 1) c.neg-2.result in
    get_or-set_other two (k + 2) j c.neg-3.result o.zero (omega (arith, h)) ∙ get_or-set_other one (k + 1) j c.neg-2.result o.zero (omega (arith, h))
    ∙ get_or-set_other own k j c.neg.result o.zero (omega (arith, h))
