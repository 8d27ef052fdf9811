use Rattle.std.proofs.Common.{refl, sym, ◌∙◌, ap, is_some}
use Rattle.lzk_expr.proofs.CodeTaken.{code_syntax, field_coded, field_coded_twice}
use Rattle.lzk_expr.proofs.Forms.{no_field}
use Rattle.lzk_expr.proofs.coder.Coder.take_field.Goals as goal

pub returns-in_default-clause-takes : goal.returns-in_default-clause-takes
returns-in_default-clause-takes c = λ b ts h told. code_syntax b _ _ (no_field ts (c.in_default.ensures ts told))

pub returns-then-is_some-clause-takes : goal.returns-then-is_some-clause-takes
returns-then-is_some-clause-takes c = λ b ts h told. field_coded_twice b _ ts c.in-Some.field (c.in-Some.ensures ts told) (ap is_some (sym h.field_is) ∙ sym c.if-is_some.ensures)

pub returns-clause-takes : goal.returns-clause-takes
returns-clause-takes c = λ b ts h told.
    field_coded b _ ts c.in-Some.field (c.in-Some.ensures ts told) (ap is_some (sym h.field_is) ∙ sym c.if-is_some.ensures)
    (record { field_is = refl; names_are = h.names_are; publics_are = h.publics_are; privates_are = h.privates_are; lets_are = h.lets_are; asserts_are = h.asserts_are; words_are = h.words_are })
