use Rattle.std.proofs.Common.{◌+◌, ◌*◌, refl, sym, ap, ◌∙◌, arith}
use Rattle.lzk_ligero_tableau.proofs.columns.four_digests.Goals as goal

pub returns : goal.returns
returns g c =
    c.four_leaves.ensures
    ∙ rw (c.four_nonces.ensures, c.read_column.ensures, c.read_column-2.ensures, c.read_column-3.ensures, c.read_column-4.ensures) refl

pub invariant_of-table : goal.invariant_of-table
invariant_of-table g c = record { bounded = c.args.given.now.plan.now.bounded; whole = c.requires.rows }

pub read_column-requires-clause-column : goal.read_column-requires-clause-column
read_column-requires-clause-column g c κs within = omega (arith, c.requires.inside)

pub read_column-requires-2-clause-column : goal.read_column-requires-2-clause-column
read_column-requires-2-clause-column g c κs within = omega (arith, c.requires.inside)

pub read_column-requires-3-clause-column : goal.read_column-requires-3-clause-column
read_column-requires-3-clause-column g c κs within = omega (arith, c.requires.inside)

pub read_column-requires-4-clause-column : goal.read_column-requires-4-clause-column
read_column-requires-4-clause-column g c κs within = omega (arith, c.requires.inside)

pub read_column-requires-clause-room : goal.read_column-requires-clause-room
read_column-requires-clause-room g c κs within = c.split_at_mut-a.ensures.front_len

pub read_column-requires-2-clause-room : goal.read_column-requires-2-clause-room
read_column-requires-2-clause-room g c κs within = c.split_at_mut-b.ensures.front_len

pub read_column-requires-3-clause-room : goal.read_column-requires-3-clause-room
read_column-requires-3-clause-room g c κs within = c.split_at_mut-c.ensures.front_len

pub read_column-requires-4-clause-room : goal.read_column-requires-4-clause-room
read_column-requires-4-clause-room g c κs within =
    omega (arith, c.split_at_mut-c.ensures.back_len, c.split_at_mut-b.ensures.back_len, c.split_at_mut-a.ensures.back_len, c.requires.elements)

pub four_nonces-requires-clause-columns : goal.four_nonces-requires-clause-columns
four_nonces-requires-clause-columns g c κs within = c.requires.inside

pub four_leaves-requires-clause-second : goal.four_leaves-requires-clause-second
four_leaves-requires-clause-second g c κs within = c.read_column-2.auto.out ∙ c.split_at_mut-b.ensures.front_len ∙ sym (c.read_column.auto.out ∙ c.split_at_mut-a.ensures.front_len)

pub four_leaves-requires-clause-third : goal.four_leaves-requires-clause-third
four_leaves-requires-clause-third g c κs within = c.read_column-3.auto.out ∙ c.split_at_mut-c.ensures.front_len ∙ sym (c.read_column.auto.out ∙ c.split_at_mut-a.ensures.front_len)

pub four_leaves-requires-clause-fourth : goal.four_leaves-requires-clause-fourth
four_leaves-requires-clause-fourth g c κs within =
    omega (arith, c.read_column-4.auto.out, c.split_at_mut-c.ensures.back_len, c.split_at_mut-b.ensures.back_len, c.split_at_mut-a.ensures.back_len, c.requires.elements, c.read_column.auto.out, c.split_at_mut-a.ensures.front_len)

pub four_leaves-requires-clause-room : goal.four_leaves-requires-clause-room
four_leaves-requires-clause-room g c κs within =
    c.requires.room ∙ sym (ap (λ n. 4 * (32 + n * g.F.Field.coding.bytes)) (c.read_column.auto.out ∙ c.split_at_mut-a.ensures.front_len))
