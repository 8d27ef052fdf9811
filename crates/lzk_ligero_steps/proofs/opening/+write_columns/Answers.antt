use Rattle.std.specs.Prelude.{slice_index}
use Rattle.std.specs.List.{flat_map}
use Rattle.std.proofs.Common.{◌≡◌, ℕ, suc, ◌*◌, ◌<◌, ◌++◌, List, length, arith, sym, ap, ◌∙◌, subst}
use Rattle.std.proofs.Math.Nat.{suc-mul}
use Rattle.std.proofs.lemmas.List.{length-append}
use Rattle.lzk_ligero_tableau.specs.Table.{Table}
use Rattle.lzk_ligero_tableau.specs.Tableau.{column}
use Rattle.lzk_ligero_steps.proofs.opening.+write_columns.Goals as goal

pub split_at_mut-first-requires : goal.split_at_mut-first-requires
split_at_mut-first-requires g t c =
    let nrow = c.args.tableau.now.params.nrow in
    omega (arith, c.requires.room, ap (λ (xs : List ℕ). length xs * nrow) c.in-Some.ensures.cases.0, suc-mul (length c.in-Some.others.now) nrow, ap (λ (a : Table g.row.F.Denot). a.params.nrow) c.tableau.view_is)

pub column-requires-clause-column : goal.column-requires-clause-column
column-requires-clause-column g t c κs within =
    subst (λ (xs : List ℕ). slice_index xs 0 < c.args.tableau.now.params.mcol) c.in-Some.ensures.cases.0
    (c.requires.below 0 (omega (arith, ap length c.in-Some.ensures.cases.0)))

pub column-requires-clause-room : goal.column-requires-clause-room
column-requires-clause-room g t c κs within = c.split_at_mut-first.ensures.front_len ∙ ap (λ (a : Table g.row.F.Denot). a.params.nrow) c.tableau.view_is

pub write_columns-requires-clause-below : goal.write_columns-requires-clause-below
write_columns-requires-clause-below g t c κs within = λ k h.
    subst (λ (xs : List ℕ). slice_index xs (suc k) < c.args.tableau.now.params.mcol) c.in-Some.ensures.cases.0
    (c.requires.below (suc k) (omega (arith, h, ap length c.in-Some.ensures.cases.0)))

pub write_columns-requires-clause-room : goal.write_columns-requires-clause-room
write_columns-requires-clause-room g t c κs within =
    let nrow = c.args.tableau.now.params.nrow in
    omega (arith, c.requires.room, c.split_at_mut-first.ensures.back_len, ap (λ (xs : List ℕ). length xs * nrow) c.in-Some.ensures.cases.0, suc-mul (length c.in-Some.others.now) nrow, ap (λ (a : Table g.row.F.Denot). a.params.nrow) c.tableau.view_is)

pub returns-clause-room : goal.returns-clause-room
returns-clause-room g t c =
    let nrow = c.args.tableau.now.params.nrow in
    omega (
      arith,
      length-append c.column.new.out c.write_columns.new.out,
      c.column.ensures.length,
      c.split_at_mut-first.ensures.front_len,
      c.write_columns.ensures.room,
      ap (λ (xs : List ℕ). length xs * nrow) c.in-Some.ensures.cases.0,
      suc-mul (length c.in-Some.others.now) nrow,
      ap (λ (a : Table g.row.F.Denot). a.params.nrow) c.tableau.view_is,
    )

pub returns-clause-columns : goal.returns-clause-columns
returns-clause-columns g t c w private word params table =
    let f = column g.F.Field.ops g.F.Field.coding w private word in
    let first = c.column.ensures.column w private word params table in
    let later = c.write_columns.ensures.columns w private word params table in
    ap (λ xs. xs ++ c.write_columns.new.out) first ∙ ap (λ xs. f c.in-Some.field-0-0.now ++ xs) later ∙ sym (ap (flat_map f) c.in-Some.ensures.cases.0)
