use Rattle.std.proofs.Common.{◌≡◌, ◌+◌, ◌-◌, ◌*◌, ap, arith}
use Rattle.lzk_ligero_tableau.proofs.CopyLaws.{standing}
use Rattle.lzk_ligero_tableau.proofs.elements.fill_elements.Goals as goal

pub set_copies-requires-clause-room : goal.set_copies-requires-clause-room
set_copies-requires-clause-room g c =
    let p = c.args.plan.now.params in
    let rows : p.nrow - 3 ≡ p.nwrow + 3 * p.ntriple = omega (arith, c.args.plan.now.bounded.rows) in
    let wide : (p.nrow - 3) * p.wr ≡ (p.nwrow + 3 * p.ntriple) * p.wr = ap (λ m. m * p.wr) rows in
    omega (arith, wide, c.split_at_mut-list.ensures.back_len, c.requires.room)

pub returns-clause-entries : goal.returns-clause-entries
returns-clause-entries g c =
    let f = g.F.Field in
    let p = c.args.plan.now.params in
    let e = f.coding in
    let rows : p.nrow - 3 ≡ p.nwrow + 3 * p.ntriple = omega (arith, c.args.plan.now.bounded.rows) in
    λ word are.
    standing f.ops e c.args.plan.now.circuit.now c.args.private.now word c.set_committed.new.list c.set_copies.new.copies p c.args.plan.now.are
    (omega (arith, c.set_committed.ensures.length, c.split_at_mut-list.ensures.front_len)) rows (c.set_committed.ensures.entries word are) c.set_copies.ensures.entries
