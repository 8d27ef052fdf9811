use Rattle.std.proofs.Common.{◌≡◌, drop}
use Rattle.lzk_mle.specs.Multilinear.{eq}
use Rattle.lzk_sumcheck.specs.Rounds.{every_other}
use Rattle.lzk_sumcheck.specs.Points.{point}
use Rattle.lzk_plain.proofs.plain.eq_part.Given as goal

abbrev pub invariant-loop-j : goal.invariant-loop-j
invariant-loop-j g l =
    let o = g.F.Field.ops in
    let xs = every_other l.a (point o l.on.bits l.on.bound.now l.on.t l.on.z) in
    o.times l.product (eq o l.rest (drop l.j xs)) ≡ eq o l.number xs
