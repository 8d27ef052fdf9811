use Rattle.std.proofs.Common.{◌≡◌, ℕ, ◌+◌, ◌≤◌, length, ap, sym, ◌∙◌, subst, arith, add-one}
use Rattle.std.proofs.lemmas.List.{get_or_default}
use Rattle.lzk_field.specs.Sums.{entry, sum_below}
use Rattle.lzk_accept.specs.Kept.{coefficient_in, form_at, IsWithin}
use Rattle.lzk_accept.proofs.combination.sum_forms.Goals as goal

pub invariant_of-reaching-clause-within : goal.invariant_of-reaching-clause-within
invariant_of-reaching-clause-within g c =
    let o = g.F.Field.ops in
    let i = c.loop-i.i in
    let form = c.index-forms-i.result in
    let is = c.index-forms-i.is ∙ get_or_default c.args.kept.now.forms.now i form (record { start = 0; end = 0; above = 0; first = o.zero; second = o.zero; right = o.zero }) (omega arith) in
    subst (IsWithin (length c.args.kept.now.own.now)) (sym is) (c.args.kept.now.within i (omega arith))

pub invariant_of-reaching-clause-end : goal.invariant_of-reaching-clause-end
invariant_of-reaching-clause-end g c =
    let o = g.F.Field.ops in
    let i = c.loop-i.i in
    let form = c.index-forms-i.result in
    let is = c.index-forms-i.is ∙ get_or_default c.args.kept.now.forms.now i form (record { start = 0; end = 0; above = 0; first = o.zero; second = o.zero; right = o.zero }) (omega arith) in
    subst (λ x. c.args.kept.now.skip ≤ x.end) (sym is) (c.args.kept.now.behind i (omega arith)).0

pub invariant_of-reaching-clause-above : goal.invariant_of-reaching-clause-above
invariant_of-reaching-clause-above g c =
    let o = g.F.Field.ops in
    let i = c.loop-i.i in
    let form = c.index-forms-i.result in
    let is = c.index-forms-i.is ∙ get_or_default c.args.kept.now.forms.now i form (record { start = 0; end = 0; above = 0; first = o.zero; second = o.zero; right = o.zero }) (omega arith) in
    subst (λ x. c.args.kept.now.skip ≤ x.above) (sym is) (c.args.kept.now.behind i (omega arith)).1

pub loop-i-preserved : goal.loop-i-preserved
loop-i-preserved g c =
    let o = g.F.Field.ops in
    let i = c.loop-i.i in
    let form = c.index-forms-i.result in
    let by = c.index-lambda-i.result in
    let own = c.args.kept.now.own.now in
    let forms = c.args.kept.now.forms.now in
    let lambda = c.args.kept.now.lambda.now in
    let is = c.index-forms-i.is ∙ get_or_default forms i form (record { start = 0; end = 0; above = 0; first = o.zero; second = o.zero; right = o.zero }) (omega arith) in
    let by_is = c.index-lambda-i.is ∙ get_or_default lambda i by o.zero (omega (arith, c.args.kept.now.drawn)) in
    let coefficients : ℕ → ℕ → _ = λ k l. o.times (entry o lambda l) (coefficient_in o own (form_at o forms l) (c.args.kept.now.skip + k)) in
    let rights : ℕ → _ = λ l. o.times (entry o lambda l) (form_at o forms l).right in
    rw add-one (record {
      entries = λ k. c.add_form.ensures k
          ∙ ap (λ x. o.plus x (o.times by (coefficient_in o own form (c.args.kept.now.skip + k)))) (c.loop-i.invariant.entries k)
          ∙ ap (λ x. o.plus (sum_below o i (coefficients k)) (o.times x (coefficient_in o own form (c.args.kept.now.skip + k)))) by_is
          ∙ ap (λ x. o.plus (sum_below o i (coefficients k)) (o.times (entry o lambda i) (coefficient_in o own x (c.args.kept.now.skip + k)))) is;
      rights = c.add-wanted.ensures
          ∙ ap (λ x. o.plus x c.mul.result) c.loop-i.invariant.rights
          ∙ ap (o.plus (sum_below o i rights)) (c.mul.ensures ∙ ap (λ x. o.times x form.right) by_is ∙ ap (λ x. o.times (entry o lambda i) x.right) is);
    })

pub returns-clause-entries : goal.returns-clause-entries
returns-clause-entries g c j =
    let o = g.F.Field.ops in
    let all : c.loop-i.i ≡ length c.args.kept.now.forms.now = omega arith in
    c.loop-i.invariant.entries j ∙ ap (λ n. sum_below o n (λ i. o.times (entry o c.args.kept.now.lambda.now i) (coefficient_in o c.args.kept.now.own.now (form_at o c.args.kept.now.forms.now i) (c.args.kept.now.skip + j)))) all
