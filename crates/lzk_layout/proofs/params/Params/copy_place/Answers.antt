use Rattle.std.proofs.Common.{arith}
use Rattle.lzk_layout.proofs.SizeLaws.{copy_row}
use Rattle.lzk_layout.proofs.params.Params.copy_place.Goals as goal

pub returns-clause-row : goal.returns-clause-row
returns-clause-row c =
    let p = c.args.self.now in
    let h = c.requires.params in
    omega (arith, copy_row c.args.m p.layers p.wr (omega (arith, h.wide)) c.requires.value, h.rows, h.ntriple)
