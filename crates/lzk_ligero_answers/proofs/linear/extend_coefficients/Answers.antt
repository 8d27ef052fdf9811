use Rattle.std.proofs.Common.{◌≡◌, ◌+◌, ℕ, length, arith, ap, sym, ◌∙◌}
use Rattle.lzk_field.specs.Sums.{entry}
use Rattle.lzk_field.proofs.EntryLaws.{entries_joined}
use Rattle.lzk_field.proofs.Numbering.{points_apart}
use Rattle.lzk_poly.specs.Extension.{extension}
use Rattle.lzk_poly.proofs.Extensions.{extension-given}
use Rattle.lzk_ligero_answers.proofs.linear.extend_coefficients.Goals as goal

pub returns-clause-values : goal.returns-clause-values
returns-clause-values g c list are k h =
    let m = g.F.Field in
    let o = m.ops in
    let p = c.args.given.now.extending.now.combined.now.table.now.params.now in
    let b = c.args.given.now.extending.now.combined.now.table.now.bounded in
    let values = c.extend_behind.new.values in
    let same : values ≡ list = c.extend_behind.ensures.given list are in
    entries_joined o (λ k x. x ≡ extension o m.coding.element list k) values c.extend_behind.new.behind
    (λ i q. ap (λ xs. entry o xs i) same ∙ sym (extension-given o m.laws.ring m.laws.field m.coding.element list (points_apart m.laws (length list) (omega (arith, are.count, b.block, b.wr))) i (omega (arith, ap length same))))
    (λ i q. c.extend_behind.ensures.further list are i (omega (arith, q, c.extend_behind.ensures.behind)) ∙ ap (λ (n : ℕ). extension o m.coding.element list (n + i)) (omega (arith, ap length same, are.count)))
    k (omega arith)
