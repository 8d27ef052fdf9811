use Rattle.std.proofs.Common.{arith}
use Rattle.lzk_layout.proofs.SizeLaws.{row_below}
use Rattle.lzk_layout.proofs.params.Params.place.Goals as goal

pub returns-clause-row : goal.returns-clause-row
returns-clause-row c =
    let p = c.args.self.now in
    let h = c.requires.params in
    omega (arith, row_below c.args.j p.nw p.wr (omega (arith, h.wide)) c.requires.entry, h.nwrow)
