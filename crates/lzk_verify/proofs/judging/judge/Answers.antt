use Rattle.std.proofs.Common.{◌≡◌, refl, ℕ, ◌≤◌, List, length, take, ap, sym, subst, ◌∙◌, inl, inr, arith}
use Rattle.std.proofs.lemmas.List.{length-take-le}
use Rattle.lzk_merkle.specs.Nodes as tree
use Rattle.lzk_merkle.specs.Nodes.{AreOpened}
use Rattle.lzk_verify.specs.declared.intake.Intake.{Intake}
use Rattle.lzk_verify.specs.declared.verdict.Verdict.TheVariants.{CircuitId, PathCount, Root}
use Rattle.lzk_verify.specs.Checks.{needed_digests}
use Rattle.lzk_verify.specs.Desk.{AreLists, AreFoundAnswers}
use Rattle.lzk_verify.proofs.judging.judge.Goals as goal

pub same-intake : goal.same-intake
same-intake g c = refl

pub same-intake-in-Some-check_path_count : goal.same-intake-in-Some-check_path_count
same-intake-in-Some-check_path_count g c = refl

pub returns-in-Some-clause-found : goal.returns-in-Some-clause-found
returns-in-Some-clause-found g c =
    let id = ap (λ (k : Intake g.row.F.Denot). k.id) c.intake.view_is in
    inl ((λ h. c.in-Some.ensures.0 (id ∙ h)), ap (λ x. CircuitId x) (c.in-Some.ensures.1 ∙ id))

pub returns-in-Some-clause-intake : goal.returns-in-Some-clause-intake
returns-in-Some-clause-intake g c = refl

pub returns-in-Some-clause-nodes : goal.returns-in-Some-clause-nodes
returns-in-Some-clause-nodes g c = c.requires.nodes

pub invariant_of-opened : goal.invariant_of-opened
invariant_of-opened g c = record {
  opened = subst (AreOpened c.args.plan.now.params.mcol) (sym (c.as_slice.ensures.value ∙ ap (λ (k : Intake g.row.F.Denot). k.drawn.columns) c.intake.view_is)) c.requires.lists.opened;
}

pub returns-in-Some-check_path_count-clause-found : goal.returns-in-Some-check_path_count-clause-found
returns-in-Some-check_path_count-clause-found g c =
    let v = c.intake.view_is in
    let e = c.in-Some-check_path_count.ensures in
    let id = ap (λ (k : Intake g.row.F.Denot). k.id) v in
    let count = ap (λ (k : Intake g.row.F.Denot). k.count) v in
    let need = ap (needed_digests c.args.plan.now.params) (c.as_slice.ensures.value ∙ ap (λ (k : Intake g.row.F.Denot). k.drawn.columns) v) in
    inr (sym id ∙ c.in_default.ensures, inl ((λ h. e.0 (count ∙ h ∙ sym need)), λ i. PathCount (count i) ((e.1 ∙ need) i)))

pub returns-in-Some-check_path_count-clause-intake : goal.returns-in-Some-check_path_count-clause-intake
returns-in-Some-check_path_count-clause-intake g c = refl

pub returns-in-Some-check_path_count-clause-nodes : goal.returns-in-Some-check_path_count-clause-nodes
returns-in-Some-check_path_count-clause-nodes g c = c.requires.nodes

pub slice_bounds-path-end : goal.slice_bounds-path-end
slice_bounds-path-end g c =
    let k = c.args.intake.now in
    let digests = c.as_slice-2.result.now in
    let long : k.count ≤ length digests = omega (arith, ap length (c.as_slice-2.ensures.value ∙ ap (λ (k : Intake g.row.F.Denot). k.digests.items) c.intake.view_is), c.requires.lists.digests, c.requires.lists.few) in
    subst (λ n. n ≡ length (take n digests)) (sym (ap (λ (k : Intake g.row.F.Denot). k.count) c.intake.view_is)) (sym (length-take-le k.count digests long))

pub check_root-requires-clause-path : goal.check_root-requires-clause-path
check_root-requires-clause-path g c κs within =
    let k = c.args.intake.now in
    let digests = c.as_slice-2.result.now in
    let long : k.count ≤ length digests = omega (arith, ap length (c.as_slice-2.ensures.value ∙ ap (λ (k : Intake g.row.F.Denot). k.digests.items) c.intake.view_is), c.requires.lists.digests, c.requires.lists.few) in
    subst (λ n. length (take n digests) ≡ n) (sym (ap (λ (k : Intake g.row.F.Denot). k.count) c.intake.view_is)) (length-take-le k.count digests long)
    ∙ c.in_default-check_path_count.ensures

pub check_root-requires-clause-leaves : goal.check_root-requires-clause-leaves
check_root-requires-clause-leaves g c κs within =
    let v = c.intake.view_is in
    ap (λ (k : Intake g.row.F.Denot). length k.leaves.items) v ∙ c.requires.lists.leaves ∙ sym c.requires.lists.columns
    ∙ sym (ap length (c.as_slice.ensures.value ∙ ap (λ (k : Intake g.row.F.Denot). k.drawn.columns) v))

pub check_root-requires-clause-nodes : goal.check_root-requires-clause-nodes
check_root-requires-clause-nodes g c κs within = c.requires.nodes

pub returns-in-Some-check_root-clause-found : goal.returns-in-Some-check_root-clause-found
returns-in-Some-check_root-clause-found g c =
    let v = c.intake.view_is in
    let e = c.in-Some-check_root.ensures.root in
    let columns = c.as_slice.ensures.value ∙ ap (λ (k : Intake g.row.F.Denot). k.drawn.columns) v in
    let digests = c.as_slice-2.ensures.value ∙ ap (λ (k : Intake g.row.F.Denot). k.digests.items) v in
    let count = ap (λ (k : Intake g.row.F.Denot). k.count) v in
    let leaves = ap (λ (k : Intake g.row.F.Denot). k.leaves.items) v in
    let root = ap (λ (k : Intake g.row.F.Denot). k.root) v in
    let found = ap (λ (z : List ℕ × (List (List ℕ) × List (List ℕ))). tree.root_of c.args.plan.now.params.mcol z.0 z.1.0 z.1.1) (λ i. (columns i, (leaves i, take (count i) (digests i)))) in
    inr (
      sym (ap (λ (k : Intake g.row.F.Denot). k.id) v) ∙ c.in_default.ensures,
      inr (
        sym count ∙ c.in_default-check_path_count.ensures ∙ ap (needed_digests c.args.plan.now.params) columns,
        inl ((λ h. e.0 (found ∙ h ∙ sym root)), ap (λ x. Root x) (e.1 ∙ found)),
      ),
    )

pub returns-in-Some-check_root-clause-intake : goal.returns-in-Some-check_root-clause-intake
returns-in-Some-check_root-clause-intake g c =
    λ i. record (c.intake.view_is i) { leaves = (c.check_root.ensures.same ∙ ap (λ (k : Intake g.row.F.Denot). k.leaves) c.intake.view_is) i }

pub returns-in-Some-check_root-clause-nodes : goal.returns-in-Some-check_root-clause-nodes
returns-in-Some-check_root-clause-nodes g c = c.check_root.ensures.nodes

pub judge_answers-requires-clause-lists : goal.judge_answers-requires-clause-lists
judge_answers-requires-clause-lists g c κs within =
    subst (AreLists c.args.plan.now.params) (λ i. record (sym c.intake.view_is i) { leaves = sym (c.check_root.ensures.same ∙ ap (λ (k : Intake g.row.F.Denot). k.leaves) c.intake.view_is) i }) c.requires.lists

pub returns-clause-found : goal.returns-clause-found
returns-clause-found g c =
    let v = c.intake.view_is in
    let p = c.args.plan.now.params in
    let columns = c.as_slice.ensures.value ∙ ap (λ (k : Intake g.row.F.Denot). k.drawn.columns) v in
    let digests = c.as_slice-2.ensures.value ∙ ap (λ (k : Intake g.row.F.Denot). k.digests.items) v in
    let count = ap (λ (k : Intake g.row.F.Denot). k.count) v in
    let leaves = ap (λ (k : Intake g.row.F.Denot). k.leaves.items) v in
    let root = ap (λ (k : Intake g.row.F.Denot). k.root) v in
    let found = ap (λ (z : List ℕ × (List (List ℕ) × List (List ℕ))). tree.root_of p.mcol z.0 z.1.0 z.1.1) (λ i. (columns i, (leaves i, take (count i) (digests i)))) in
    inr (
      sym (ap (λ (k : Intake g.row.F.Denot). k.id) v) ∙ c.in_default.ensures,
      inr (
        sym count ∙ c.in_default-check_path_count.ensures ∙ ap (needed_digests p) columns,
        inr (
          sym found ∙ c.in_default-check_root.ensures.root ∙ root,
          subst (λ (k : Intake g.row.F.Denot). AreFoundAnswers g.F.Field.ops p k c.judge_answers.result) v c.judge_answers.ensures,
        ),
      ),
    )

pub returns-clause-intake : goal.returns-clause-intake
returns-clause-intake g c =
    λ i. record (c.intake.view_is i) { leaves = (c.check_root.ensures.same ∙ ap (λ (k : Intake g.row.F.Denot). k.leaves) c.intake.view_is) i }

pub returns-clause-nodes : goal.returns-clause-nodes
returns-clause-nodes g c = c.check_root.ensures.nodes
