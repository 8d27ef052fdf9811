use Rattle.lzk_ligero_tableau.proofs.rows.+set_rows.Given as goal

abbrev pub decreases-set_rows : goal.decreases-set_rows
decreases-set_rows g l = l.count
