use Rattle.std.proofs.Common.{refl, ◌++◌, map, Some, None, sym, ap, ◌∙◌}
use Rattle.lzk_cmd_files.specs.Ends.{says}
use Rattle.lzk_cmd_files.specs.Lines.{satisfied_line, unsatisfied_line}
use Rattle.lzk_cmd_circuits.specs.Evaluated.{output_lines}
use Rattle.lzk_cmd_circuits.proofs.evaluating.evaluation.Goals as goal

pub returns-in_ok-push_satisfied-in-None : goal.returns-in_ok-push_satisfied-in-None
returns-in_ok-push_satisfied-in-None g c =
    let lines = output_lines 0 (map g.F.Field.coding.number c.args.values.now.checks) in (
      says 0 (lines ++ satisfied_line),
      (None, c.in-None.ensures, refl),
      record { status = refl; text = sym (c.in_ok-push_satisfied-in-None.ensures ∙ ap (λ w. w ++ satisfied_line) c.in_ok-text.ensures) },
    )

pub returns-in_ok-push_unsatisfied-in-Some : goal.returns-in_ok-push_unsatisfied-in-Some
returns-in_ok-push_unsatisfied-in-Some g c =
    let lines = output_lines 0 (map g.F.Field.coding.number c.args.values.now.checks) in
    let k = c.in-Some.k in (
      says 1 (lines ++ unsatisfied_line k),
      (Some (k, c.in-Some.field-0-1), rw c.in-Some.k-is at c.in-Some.ensures, refl),
      record { status = refl; text = sym (c.in_ok-push_unsatisfied-in-Some.ensures ∙ ap (λ w. w ++ unsatisfied_line k) c.in_ok-text.ensures) },
    )
