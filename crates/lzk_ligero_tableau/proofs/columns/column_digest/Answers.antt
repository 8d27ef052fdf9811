use Rattle.std.proofs.Common.{refl, ◌∙◌}
use Rattle.lzk_ligero_tableau.proofs.columns.column_digest.Goals as goal

pub invariant_of-table : goal.invariant_of-table
invariant_of-table g c = record { bounded = c.args.given.now.plan.now.bounded; whole = c.requires.rows }

pub read_column-requires-clause-column : goal.read_column-requires-clause-column
read_column-requires-clause-column g c κs within = c.requires.column

pub read_column-requires-clause-room : goal.read_column-requires-clause-room
read_column-requires-clause-room g c κs within = c.split_at_mut-column.ensures.front_len

pub column_nonce-requires-clause-column : goal.column_nonce-requires-clause-column
column_nonce-requires-clause-column g c κs within = c.requires.column

pub returns : goal.returns
returns g c = c.leaf.ensures ∙ rw (c.column_nonce.ensures, c.read_column.ensures) refl
