-- The answers of rows are right at every opened column, and those with a value changed are not.
use Rattle.lzk_profile.specs.Profile.{opened_count}
use Rattle.std.specs.Prelude.{◌≡◌, ◌≢◌, ℕ, ◌+◌, ◌-◌, ◌*◌, ◌<◌, ◌≤◌, List, ◌++◌, length, replicate, take, slice_index}
use Rattle.std.proofs.Common.{suc, sym, ap, ◌∙◌, arith, inl, inr}
use Rattle.std.proofs.lemmas.List.{length-set, get_or-set_other}
use Rattle.lzk_field.specs.Ring.{Ops, Laws}
use Rattle.lzk_field.specs.Sums.{sum_below, minus, entry}
use Rattle.lzk_field.proofs.Numbering.{points_apart}
use Rattle.lzk_field.proofs.SumLaws.{sum-ext}
use Rattle.lzk_poly.specs.Extension.{extension}
use Rattle.lzk_poly.proofs.Through.{length-values_of, extension-values_of}
use Rattle.lzk_layout.specs.declared.params.Params.{Params}
use Rattle.lzk_layout.specs.declared.proof.Proof.{Proof}
use Rattle.lzk_layout.specs.Sizes.{AreBounded}
use Rattle.lzk_accept.specs.Checks as checks
use Rattle.lzk_accept.specs.Checks.{at_row, point_of}
use Rattle.lzk_ligero_answers.specs.Rows.{row, AreRows}
use Rattle.lzk_ligero_answers.specs.Answers.{low_degree_answer, linear_answer, quadratic_answer, changed}
use Rattle.lzk_ligero_answers.specs.Opened.{AreOpened, IsSent}
use Rattle.lzk_ligero_answers.specs.Laws.{low_degree_of, linear_of, quadratic_of, HaveZeros, LowDegreePasses, LinearPasses, QuadraticPasses, AreColumns, LowDegreeFails, LinearFails, QuadraticFails, SumsChange}
use Rattle.lzk_ligero_answers.proofs.AnswerLaws.{eval-low_degree, eval-linear, eval-quadratic, triple_at}
use Rattle.lzk_ligero_answers.proofs.RowLaws.{low_degree_short, linear_short, quadratic_short, with_zeros}
use Rattle.lzk_ligero_answers.proofs.ChangedLaws.{changed_differs, middle-changed, middle-same}

module _ {A : Type 0} {o : Ops A} {size : ℕ} {number_of : A → ℕ} {element : ℕ → A} {bytes : ℕ} (laws : Laws o size number_of element bytes) where
  pub apart : (p : Params) → AreBounded p → (n : ℕ) → n ≤ p.ncol → (i j : ℕ) → i < j → j < n → element i ≢ element j
  apart p b n h = points_apart laws n (omega (arith, h, b.ncol))

  -- rows, and columns that were opened of them
  module _ (p : Params) (rows : List (List A)) (proof : Proof A) (columns : List ℕ) (b : AreBounded p) (are : AreRows p rows) (opened : AreOpened o element p rows proof columns) (k : ℕ) (h : k < length columns) where
    abbrev j : ℕ
    j = point_of o p proof element columns k

    abbrev here : ℕ → A
    here i = at_row o p proof k i

    abbrev there : ℕ → A
    there i = extension o element (row rows i) j

    low_degree_met : (u : List A) → extension o element (low_degree_of o element p rows u) j ≡ o.plus (here 0) (sum_below o (p.nrow - 3) (λ i. o.times (entry o u i) (here (3 + i))))
    low_degree_met u =
        let n = p.nrow - 3 in
        extension-values_of o laws.ring laws.field element p.block (low_degree_answer o element p rows u) (low_degree_short o element p rows b are u) (apart p b p.block (omega (arith, b.columns, b.dblock, b.block))) j
        ∙ eval-low_degree o laws.ring element p rows u (element j)
        ∙ ap (λ w. o.plus w (sum_below o n (λ i. o.times (entry o u i) (there (3 + i))))) (sym (opened.values k 0 h (omega (arith, b.rows))))
        ∙ ap (o.plus (here 0)) (sum-ext o laws.ring n (λ i. o.times (entry o u i) (there (3 + i))) (λ i. o.times (entry o u i) (here (3 + i))) (λ i q. ap (o.times (entry o u i)) (sym (opened.values k (3 + i) h (omega (arith, q))))))

    linear_met : (coefficients : ℕ → List A) → ((i : ℕ) → i < p.nrow - 3 → length (coefficients (3 + i)) ≡ p.block)
        → extension o element (linear_of o element p rows coefficients) j ≡ o.plus (here 1) (sum_below o (p.nrow - 3) (λ i. o.times (extension o element (coefficients (3 + i)) j) (here (3 + i))))
    linear_met coefficients sizes =
        let n = p.nrow - 3 in
        let a : ℕ → A = λ i. extension o element (coefficients (3 + i)) j in
        extension-values_of o laws.ring laws.field element p.dblock (linear_answer o element p rows coefficients) (linear_short o element p rows b are coefficients sizes) (apart p b p.dblock (omega (arith, b.columns))) j
        ∙ eval-linear o laws.ring element p rows coefficients (element j)
        ∙ ap (λ w. o.plus w (sum_below o n (λ i. o.times (a i) (there (3 + i))))) (sym (opened.values k 1 h (omega (arith, b.rows))))
        ∙ ap (o.plus (here 1)) (sum-ext o laws.ring n (λ i. o.times (a i) (there (3 + i))) (λ i. o.times (a i) (here (3 + i))) (λ i q. ap (o.times (a i)) (sym (opened.values k (3 + i) h (omega (arith, q))))))

    quadratic_met : (v : List A) → extension o element (quadratic_of o element p rows v) j
        ≡ o.plus (here 2) (sum_below o p.ntriple (λ i. o.times (entry o v i) (minus o (o.times (checks.in_triple o p proof k i 0) (checks.in_triple o p proof k i 1)) (checks.in_triple o p proof k i 2))))
    quadratic_met v =
        let T : ℕ → A = λ t. triple_at o laws.ring element p rows t (element j) in
        let I : ℕ → ℕ → A = checks.in_triple o p proof k in
        extension-values_of o laws.ring laws.field element p.dblock (quadratic_answer o element p rows v) (quadratic_short o element p rows b are v) (apart p b p.dblock (omega (arith, b.columns))) j
        ∙ eval-quadratic o laws.ring element p rows v (element j)
        ∙ ap (λ w. o.plus w (sum_below o p.ntriple (λ t. o.times (entry o v t) (T t)))) (sym (opened.values k 2 h (omega (arith, b.rows))))
        ∙ ap (o.plus (here 2)) (sum-ext o laws.ring p.ntriple (λ t. o.times (entry o v t) (T t)) (λ t. o.times (entry o v t) (minus o (o.times (I t 0) (I t 1)) (I t 2)))
        (λ t q.
        let first = 3 + p.nwrow + 3 * t in
        let y : first ≡ first + 0 = omega arith in
        ap (o.times (entry o v t))
        (ap (λ w. minus o (o.times w (there (first + 1))) (there (first + 2))) (ap there y ∙ sym (opened.values k (first + 0) h (omega (arith, q, b.rows))))
        ∙ ap (λ w. minus o (o.times (I t 0) w) (there (first + 2))) (sym (opened.values k (first + 1) h (omega (arith, q, b.rows))))
        ∙ ap (minus o (o.times (I t 0) (I t 1))) (sym (opened.values k (first + 2) h (omega (arith, q, b.rows)))))))

  -- what is sent of a quadratic answer, with zeros between, is all of it
  sent_is : (p : Params) (proof : Proof A) (values : List A) → AreBounded p → length values ≡ p.dblock → HaveZeros o element p values → IsSent p values proof → checks.quadratic_values o p proof ≡ values
  sent_is p proof values b many zeros sent =
      let middle = replicate (p.block - opened_count) o.zero in
      ap (λ x. x ++ middle ++ proof.quad_tail) sent.head ∙ ap (λ x. take opened_count values ++ middle ++ x) sent.tail
      ∙ with_zeros o values opened_count p.block (omega (arith, b.block)) (omega (arith, many, b.block, b.dblock))
      (λ i low high. let z : i ≡ opened_count + (i - opened_count) = omega arith in ap (entry o values) z ∙ zeros (i - opened_count) (omega (arith, low, high, b.block)))

  pub low_degree_passes : LowDegreePasses o element
  low_degree_passes p rows proof columns u b are opened is k h = ap (λ values. extension o element values (point_of o p proof element columns k)) is ∙ low_degree_met p rows proof columns b are opened k h u

  pub linear_passes : LinearPasses o element
  linear_passes p rows proof columns coefficients b are opened sizes is k h =
      ap (λ values. extension o element values (point_of o p proof element columns k)) is ∙ linear_met p rows proof columns b are opened k h coefficients sizes

  pub quadratic_passes : QuadraticPasses o element
  quadratic_passes p rows proof columns v b are opened zeros sent k h =
      ap (λ values. extension o element values (point_of o p proof element columns k)) (sent_is p proof (quadratic_of o element p rows v) b (length-values_of o element p.dblock (quadratic_answer o element p rows v)) zeros sent)
      ∙ quadratic_met p rows proof columns b are opened k h v

  -- ---- changed answers

  -- values that met an equation behind them do not once one of them is changed
  differs : (p : Params) (b : AreBounded p) (columns : List ℕ) (inside : AreColumns o element p columns) (k : ℕ) → k < length columns → (values found : List A) (n : ℕ) (by x : A) → length values ≤ p.dblock → n < length values → by ≢ o.zero
      → extension o element values (p.dblock + slice_index columns k) ≡ x → found ≡ changed o values n by → extension o element found (p.dblock + slice_index columns k) ≡ x → ⊥
  differs p b columns inside k h values found n by x few place some met is e =
      let j = p.dblock + slice_index columns k in
      changed_differs o laws.ring laws.field element values n j by x place (omega (arith, few)) (apart p b (suc j) (omega (arith, inside k h, b.columns))) some met
      (ap (λ values. extension o element values j) (sym is) ∙ e)

  pub low_degree_fails : LowDegreeFails o element
  low_degree_fails p rows proof columns u n by b are opened inside some place is k h =
      let many = length-values_of o element p.block (low_degree_answer o element p rows u) in
      differs p b columns inside k h (low_degree_of o element p rows u) proof.ldt n by _ (omega (arith, many, b.dblock, b.block)) (omega (arith, many, place)) some (low_degree_met p rows proof columns b are opened k h u) is

  pub linear_fails : LinearFails o element
  linear_fails p rows proof columns coefficients n by b are opened inside sizes some place is k h =
      let many = length-values_of o element p.dblock (linear_answer o element p rows coefficients) in
      differs p b columns inside k h (linear_of o element p rows coefficients) proof.dot n by _ (omega (arith, many)) (omega (arith, many, place)) some (linear_met p rows proof columns b are opened k h coefficients sizes) is

  pub quadratic_fails : QuadraticFails o element
  quadratic_fails p rows proof columns v n by b are opened inside zeros some outside place sent k h =
      let y = quadratic_of o element p rows v in
      let many = length-values_of o element p.dblock (quadratic_answer o element p rows v) in
      let long = length-set y n (o.plus (entry o y n) by) in
      let away : (s : ℕ) → s < p.wr → opened_count + s ≢ n = λ s q. elim outside [ inl l ↦ omega (arith, l) | inr l ↦ omega (arith, l, q, b.block) ] in
      differs p b columns inside k h y (checks.quadratic_values o p proof) n by _ (omega (arith, many)) (omega (arith, many, place)) some (quadratic_met p rows proof columns b are opened k h v)
      (sent_is p proof (changed o y n by) b (long ∙ many) (λ s q. get_or-set_other y n (opened_count + s) (o.plus (entry o y n) by) o.zero (away s q) ∙ zeros s q) sent)

  pub sums_change : SumsChange o element
  sums_change p before after n by place is = (
    λ low high. ap (λ values. sum_below o (p.block - opened_count) (λ i. entry o values (opened_count + i))) is ∙ middle-changed o laws.ring before.dot n by place opened_count (p.block - opened_count) low (omega (arith, low, high)),
    λ outside. ap (λ values. sum_below o (p.block - opened_count) (λ i. entry o values (opened_count + i))) is
        ∙ middle-same o laws.ring before.dot n by place opened_count (p.block - opened_count) (λ s q. elim outside [ inl l ↦ omega (arith, l) | inr l ↦ omega (arith, l, q) ]),
  )
