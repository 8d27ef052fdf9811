use Rattle.std.proofs.Common.{◌+◌, ap, ◌∙◌, arith}
use Rattle.std.specs.Prelude.{slice_set}
use Rattle.std.proofs.lemmas.List.{get_or-set_same, get_or-set_other, length-set}
use Rattle.lzk_field.specs.Sums.{minus}
use Rattle.lzk_accept.proofs.rounds.round_back.Goals as goal

pub bounds-own-k : goal.bounds-own-k
bounds-own-k g c = omega (arith, c.requires)

pub bounds-own-k-2 : goal.bounds-own-k-2
bounds-own-k-2 g c = omega (arith, c.requires, length-set c.args.own.now c.args.k c.mul.result)

pub returns-clause-length : goal.returns-clause-length
returns-clause-length g c =
    let own = c.args.own.now in
    let k = c.args.k in
    length-set (slice_set own k c.mul.result) (k + 1) c.mul-2.result ∙ length-set own k c.mul.result

pub returns-clause-first : goal.returns-clause-first
returns-clause-first g c =
    let o = g.F.Field.ops in
    let own = c.args.own.now in
    let k = c.args.k in
    get_or-set_other (slice_set own k c.mul.result) (k + 1) k c.mul-2.result o.zero (omega arith) ∙ get_or-set_same own k c.mul.result o.zero (omega (arith, c.requires))
    ∙ c.mul.ensures ∙ ap (o.times c.args.claim.weight) c.sub-first.ensures

pub returns-clause-second : goal.returns-clause-second
returns-clause-second g c =
    let o = g.F.Field.ops in
    let own = c.args.own.now in
    let k = c.args.k in
    get_or-set_same (slice_set own k c.mul.result) (k + 1) c.mul-2.result o.zero (omega (arith, c.requires, length-set own k c.mul.result)) ∙ c.mul-2.ensures

pub returns-clause-before : goal.returns-clause-before
returns-clause-before g c j h =
    let o = g.F.Field.ops in
    let own = c.args.own.now in
    let k = c.args.k in
    get_or-set_other (slice_set own k c.mul.result) (k + 1) j c.mul-2.result o.zero (omega (arith, h)) ∙ get_or-set_other own k j c.mul.result o.zero (omega (arith, h))

pub returns-clause-after : goal.returns-clause-after
returns-clause-after g c j h =
    let o = g.F.Field.ops in
    let own = c.args.own.now in
    let k = c.args.k in
    get_or-set_other (slice_set own k c.mul.result) (k + 1) j c.mul-2.result o.zero (omega (arith, h)) ∙ get_or-set_other own k j c.mul.result o.zero (omega (arith, h))

pub returns-clause-constant : goal.returns-clause-constant
returns-clause-constant g c =
    let o = g.F.Field.ops in
    let a = c.args in
    c.add-2.ensures ∙ ap (o.plus a.claim.constant) (c.mul-5.ensures ∙ ap (o.times a.claim.weight) (c.add.ensures
    ∙ ap (λ x. o.plus x c.mul-4.result) (c.mul-3.ensures ∙ ap (λ x. o.times x a.p0) c.sub-first.ensures)
    ∙ ap (o.plus (o.times (minus o a.shares.first a.shares.second) a.p0)) c.mul-4.ensures))

pub returns-clause-weight : goal.returns-clause-weight
returns-clause-weight g c = c.mul-6.ensures
