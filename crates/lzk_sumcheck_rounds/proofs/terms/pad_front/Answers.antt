use Rattle.std.proofs.Common.{◌≡◌, ◌++◌, length, take, drop, ap, sym, ◌∙◌, arith}
use Rattle.std.proofs.lemmas.List.{length-take-le}
use Rattle.std.proofs.Math.Seq.{take-append_seam}
use Rattle.lzk_field.specs.Sums.{entry}
use Rattle.lzk_sumcheck_rounds.proofs.terms.pad_front.Goals as goal

pub pad_values-requires-after_bounds : goal.pad_values-requires-after_bounds
pad_values-requires-after_bounds g c = omega (arith, c.requires.values, length-take-le c.args.size c.args.table.now c.requires.room)

pub returns : goal.returns
returns g c = λ i.
    let new = c.pad_values.new.table in
    let rest = drop c.args.size c.args.table.now in
    let size : length new ≡ c.args.size = c.pad_values.auto.table ∙ length-take-le c.args.size c.args.table.now c.requires.room in
    ap (λ n. entry g.F.Field.ops (take n (new ++ rest)) i) (sym size) ∙ ap (λ xs. entry g.F.Field.ops xs i) (take-append_seam new rest) ∙ c.pad_values.ensures i
