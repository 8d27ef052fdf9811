-- Rows whose answers pass hold a list that satisfies the constraints, unless some draw is bad.
use Rattle.lzk_profile.specs.Profile.{opened_count}
use Rattle.std.specs.Prelude.{◌≡◌, ℕ, ◌+◌, ◌-◌, ◌*◌, ◌/◌, ◌%◌, ◌<◌, ◌≤◌, List, [], ◌∷◌, ◌++◌, length, replicate, slice_index}
use Rattle.std.proofs.Common.{refl, sym, ap, ◌∙◌, arith}
use Rattle.std.proofs.lemmas.Grind.{div_ceil_times}
use Rattle.std.proofs.lemmas.List.{length-append, length-replicate, get_or-replicate, get_or_append_left, get_or-append-add}
use Rattle.std.proofs.lemmas.List.FromFn.{get_or-map-range_with_len}
use Rattle.std.proofs.Math.Nat.{div-lt_iff_lt-mul, mod-lt}
use Rattle.lzk_field.specs.Coding.{Coding}
use Rattle.lzk_field.specs.Ring.{Ops, Laws}
use Rattle.lzk_field.specs.Sums.{sum_below, minus, entry}
use Rattle.lzk_field.proofs.RingBasics.{same_from_difference}
use Rattle.lzk_field.proofs.Solve.{var, ◌⊞◌, ◌⊟◌, ◌⊠◌, solve}
use Rattle.lzk_field.proofs.SumLaws.{sum-ext, sum-plus, sum-minus}
use Rattle.lzk_poly.specs.Extension.{extension}
use Rattle.lzk_poly.proofs.Extensions.{extension-given}
use Rattle.lzk_poly.proofs.Through.{entry-values_of, length-values_of, extension-values_of}
use Rattle.lzk_circuit.specs.Valid.{Wiring}
use Rattle.lzk_layout.specs.declared.params.Params.{Params}
use Rattle.lzk_layout.specs.declared.proof.Proof.{Proof}
use Rattle.lzk_layout.specs.Proofs.{HasLengths}
use Rattle.lzk_layout.specs.Sizes.{AreBounded, params_of, committed_count}
use Rattle.lzk_layout.specs.Places.{depth, factors_at, constrained_at}
use Rattle.lzk_layout.proofs.PlaceLaws.{pads_within}
use Rattle.lzk_accept.specs.declared.challenges.Challenges.{Challenges}
use Rattle.lzk_accept.specs.Checks as checks
use Rattle.lzk_accept.specs.Checks.{IsLinear, HasLinearSum, IsQuadratic, AtEach, quadratic_values, point_of, at_row}
use Rattle.lzk_accept.specs.Combination.{combined, combined_row, wanted}
use Rattle.lzk_ligero_answers.specs.Rows.{row, AreRows}
use Rattle.lzk_ligero_answers.specs.Answers.{linear_answer, quadratic_answer}
use Rattle.lzk_ligero_answers.specs.Coefficients.{AreCoefficients}
use Rattle.lzk_ligero_answers.specs.Opened.{AreOpened, Satisfies, element}
use Rattle.lzk_ligero_answers.specs.Laws.{linear_of, quadratic_of}
use Rattle.lzk_ligero_answers.proofs.AnswerLaws.{eval-linear, eval-quadratic, triple_at}
use Rattle.lzk_ligero_answers.proofs.CombinedLaws.{ArePlaces}
use Rattle.lzk_ligero_answers.proofs.PassLaws.{apart, linear_passes}
use Rattle.lzk_ligero_answers.proofs.RowLaws.{in_triple, quadratic_short}
use Rattle.lzk_ligero_answers.proofs.StandLaws.{combined_rows}
use Rattle.lzk_soundness.specs.Rows.Weights.{combination}
use Rattle.lzk_soundness.specs.Rows.Held as rows_held
use Rattle.lzk_soundness.specs.Rows.Held.{placed, held, second_sum, copy_gap, product_gap, linear_gap, linear_rest, NoneBad}
use Rattle.lzk_soundness.specs.Rows.Laws.{RowsSatisfyUnlessBad}
use Rattle.lzk_soundness.proofs.RowsLaws.ColumnLaws.{stable_list}
use Rattle.lzk_soundness.proofs.RowsLaws.Gaps.{combined_sum}
use Rattle.lzk_soundness.proofs.RowsLaws.WeightLaws.{gaps_unless_bad}

-- the middle of three lists
middle_entry : {A : Type 0} (o : Ops A) (n : ℕ) (front back : List A) (m s : ℕ) → length front ≡ m → s < n → entry o (front ++ replicate n o.zero ++ back) (m + s) ≡ o.zero
middle_entry o n front back m s long h =
    let z : m + s ≡ length front + s = omega (arith, long) in
    let both : length (front ++ replicate n o.zero) ≡ m + n = omega (arith, length-append front (replicate n o.zero), length-replicate n o.zero, long) in
    get_or_append_left (front ++ replicate n o.zero) back o.zero (m + s) (omega (arith, both, h))
    ∙ ap (entry o (front ++ replicate n o.zero)) z ∙ get_or-append-add front (replicate n o.zero) s o.zero ∙ get_or-replicate n s o.zero o.zero h

module _ {A : Type 0} (o : Ops A) (e : Coding A) (laws : Laws o e.size e.number e.element e.bytes) (c : Wiring A) (coefficient : ℕ → ℕ → A) (right : ℕ → A) (ch : Challenges A) (rows : List (List A)) (proof : Proof A) (columns : List ℕ) (b : AreBounded (params_of c)) (are : AreRows (params_of c) rows) (opened : AreOpened o e.element (params_of c) rows proof columns) (lengths : HasLengths (params_of c) proof) where
  abbrev pub p : Params
  p = params_of c

  abbrev pub lists : ℕ → List A
  lists = combined_row o c coefficient ch

  abbrev E : ℕ → ℕ → A
  E = element o rows

  list_length : (i : ℕ) → length (lists i) ≡ p.block
  list_length i = let is = combined_rows o e.element c coefficient ch i in is.count

  -- a row's value at one of its points is its entry
  row_value : (i k : ℕ) → k < length (row rows i) → length (row rows i) ≤ p.dblock → extension o e.element (row rows i) k ≡ entry o (row rows i) k
  row_value i k h d = extension-given o laws.ring laws.field e.element (row rows i) (apart laws p b (length (row rows i)) (omega (arith, d, b.columns))) k h

  -- ---- the answers that were sent are those of the rows

  abbrev pub dots : List A
  dots = linear_of o e.element p rows lists

  abbrev pub quads : List A
  quads = quadratic_of o e.element p rows ch.v

  dot_is : AtEach columns (IsLinear o p proof e.element columns lists) → NoneBad o c rows coefficient right ch e.element proof columns → proof.dot ≡ dots
  dot_is linear none =
      let honest : Proof A = record proof { dot = dots } in
      let seen : AreOpened o e.element p rows honest columns = record { values = opened.values } in
      stable_list laws.numbers proof.dot dots (lengths.dot ∙ sym (length-values_of o e.element p.dblock (linear_answer o e.element p rows lists)))
      (λ differ. none.linear (differ, λ k h. linear k h ∙ sym (linear_passes laws p rows honest columns lists b are seen (λ i q. list_length (3 + i)) refl k h)))

  quadratic_met : (k : ℕ) → k < length columns → extension o e.element quads (p.dblock + slice_index columns k)
      ≡ o.plus (at_row o p proof k 2) (sum_below o p.ntriple (λ i. o.times (entry o ch.v i) (minus o (o.times (checks.in_triple o p proof k i 0) (checks.in_triple o p proof k i 1)) (checks.in_triple o p proof k i 2))))
  quadratic_met k h =
      let j = p.dblock + slice_index columns k in
      let there : ℕ → A = λ i. extension o e.element (row rows i) j in
      let T : ℕ → A = λ t. triple_at o laws.ring e.element p rows t (e.element j) in
      let I : ℕ → ℕ → A = checks.in_triple o p proof k in
      extension-values_of o laws.ring laws.field e.element p.dblock (quadratic_answer o e.element p rows ch.v) (quadratic_short o e.element p rows b are ch.v) (apart laws p b p.dblock (omega (arith, b.columns))) j
      ∙ eval-quadratic o laws.ring e.element p rows ch.v (e.element j)
      ∙ ap (λ w. o.plus w (sum_below o p.ntriple (λ t. o.times (entry o ch.v t) (T t)))) (sym (opened.values k 2 h (omega (arith, b.rows))))
      ∙ ap (o.plus (at_row o p proof k 2)) (sum-ext o laws.ring p.ntriple (λ t. o.times (entry o ch.v t) (T t)) (λ t. o.times (entry o ch.v t) (minus o (o.times (I t 0) (I t 1)) (I t 2)))
      (λ t q.
      let first = 3 + p.nwrow + 3 * t in
      let y : first ≡ first + 0 = omega arith in
      ap (o.times (entry o ch.v t))
      (ap (λ w. minus o (o.times w (there (first + 1))) (there (first + 2))) (ap there y ∙ sym (opened.values k (first + 0) h (omega (arith, q, b.rows))))
      ∙ ap (λ w. minus o (o.times (I t 0) w) (there (first + 2))) (sym (opened.values k (first + 1) h (omega (arith, q, b.rows))))
      ∙ ap (minus o (o.times (I t 0) (I t 1))) (sym (opened.values k (first + 2) h (omega (arith, q, b.rows)))))))

  abbrev pub sent_quads : List A
  sent_quads = quadratic_values o p proof

  pub quad_length : length sent_quads ≡ p.dblock
  quad_length =
      let middle = replicate (p.block - opened_count) o.zero in
      omega (arith, length-append (proof.quad_head ++ middle) proof.quad_tail, length-append proof.quad_head middle, length-replicate (p.block - opened_count) o.zero, lengths.quad_head, lengths.quad_tail, b.block, b.dblock)

  quad_is : AtEach columns (IsQuadratic o p proof e.element columns ch.v) → NoneBad o c rows coefficient right ch e.element proof columns → sent_quads ≡ quads
  quad_is quadratic none =
      stable_list laws.numbers sent_quads quads (quad_length ∙ sym (length-values_of o e.element p.dblock (quadratic_answer o e.element p rows ch.v)))
      (λ differ. none.quadratic (differ, λ k h. quadratic k h ∙ sym (quadratic_met k h)))

  -- ---- places

  some : 1 ≤ p.wr
  some = omega (arith, b.wide)

  row_below : (m n k : ℕ) → 1 ≤ k → m < n * k → m / k < n
  row_below m n k one h = (div-lt_iff_lt-mul {k = k} {x = m} {y = n} (omega (arith, one))).1 h

  entry_below : (j : ℕ) → j < committed_count c → j / p.wr < p.nwrow
  entry_below j h = row_below j p.nwrow p.wr some (omega (arith, h, (div_ceil_times p.nw p.wr some).0))

  copy_below : (l : ℕ) → l < depth c → l / p.wr < p.ntriple
  copy_below l h = row_below l p.ntriple p.wr some (omega (arith, h, (div_ceil_times p.layers p.wr some).0))

  are_places : ArePlaces c 3 (p.nrow - 3) p.wr
  are_places = record {
    rows = λ j h. (omega arith, omega (arith, entry_below j h, b.rows));
    positions = λ j h. mod-lt j some;
    sources = λ m h. omega (arith, pads_within c (m / 3) (omega (arith, h)));
    copy_rows = λ m h. (omega arith, omega (arith, copy_below (m / 3) (omega (arith, h)), b.rows));
    copy_positions = λ m h. mod-lt (m / 3) some;
  }

  held_entry : (j : ℕ) → j < committed_count c → entry o (held o c rows) j ≡ placed o c rows j
  held_entry j h = get_or-map-range_with_len (placed o c rows) 0 (committed_count c) j j o.zero h (omega arith)

  -- ---- the linear answer's sum

  coefficient_value : (i s : ℕ) → s < p.wr → extension o e.element (lists i) (opened_count + s) ≡ combined o c coefficient ch i s
  coefficient_value i s h =
      let is : AreCoefficients o p (combined o c coefficient ch i) (lists i) = combined_rows o e.element c coefficient ch i in
      extension-given o laws.ring laws.field e.element (lists i) (apart laws p b (length (lists i)) (omega (arith, is.count, b.columns, b.dblock, b.block))) (opened_count + s) (omega (arith, is.count, h, b.block)) ∙ is.back s h

  linear_there : (s : ℕ) → s < p.wr → entry o dots (opened_count + s) ≡ o.plus (E 1 s) (sum_below o (p.nrow - 3) (λ i. o.times (combined o c coefficient ch (3 + i) s) (E (3 + i) s)))
  linear_there s h =
      let k = opened_count + s in
      let n = p.nrow - 3 in
      let R : ℕ → A = λ i. extension o e.element (row rows i) k in
      let C : ℕ → A = λ i. extension o e.element (lists i) k in
      entry-values_of o e.element p.dblock (linear_answer o e.element p rows lists) k (omega (arith, h, b.block, b.dblock))
      ∙ eval-linear o laws.ring e.element p rows lists (e.element k)
      ∙ ap (λ x. o.plus x (sum_below o n (λ i. o.times (C (3 + i)) (R (3 + i))))) (row_value 1 k (omega (arith, are.second, h, b.block, b.dblock)) (omega (arith, are.second)))
      ∙ ap (o.plus (E 1 s)) (sum-ext o laws.ring n (λ i. o.times (C (3 + i)) (R (3 + i))) (λ i. o.times (combined o c coefficient ch (3 + i) s) (E (3 + i) s))
      (λ i q.
      ap (λ x. o.times x (R (3 + i))) (coefficient_value (3 + i) s h)
      ∙ ap (o.times (combined o c coefficient ch (3 + i) s)) (row_value (3 + i) k (omega (arith, are.others i q, h, b.block)) (omega (arith, are.others i q, b.block, b.dblock)))))

  abbrev line : ℕ → A
  line l = sum_below o (committed_count c) (λ j. o.times (coefficient l j) (placed o c rows j))

  -- what the constraints and the copies add up to
  pub linear_total : proof.dot ≡ dots → HasLinearSum o p proof (wanted o c right ch) → combination o (linear_rest o c rows coefficient right ch) (copy_gap o c rows) (entry o ch.mu) (3 * depth c) ≡ o.zero
  unfolding wanted
  linear_total is sum =
      let r = laws.ring in
      let n = p.nrow - 3 in
      let L = depth c + 1 in
      let f : ℕ → A = λ s. entry o dots (opened_count + s) in
      let rest : ℕ → A = λ s. sum_below o n (λ i. o.times (combined o c coefficient ch (3 + i) s) (E (3 + i) s)) in
      let width : p.block - opened_count ≡ p.wr = omega (arith, b.block) in
      let lambda : ℕ → A = entry o ch.lambda in
      let copies = sum_below o (3 * depth c) (λ k. o.times (entry o ch.mu k) (copy_gap o c rows k)) in
      let lines = sum_below o L (λ l. o.times (lambda l) (line l)) in
      let rights = sum_below o L (λ l. o.times (lambda l) (right l)) in
      let second = second_sum o c rows in
      let whole : o.plus second (o.plus lines copies) ≡ rights =
      sym (ap (λ values. sum_below o (p.block - opened_count) (λ i. entry o values (opened_count + i))) is
      ∙ ap (λ (k : ℕ). sum_below o k f) width
      ∙ sum-ext o r p.wr f (λ s. o.plus (E 1 s) (rest s)) linear_there
      ∙ sum-plus o r p.wr (E 1) rest
      ∙ ap (o.plus second) (combined_sum o r c coefficient ch 3 n p.wr E are_places))
      ∙ sum in
      let gaps : sum_below o L (λ l. o.times (lambda l) (linear_gap o c rows coefficient right ch l)) ≡ minus o lines rights =
      sum-ext o r L (λ l. o.times (lambda l) (linear_gap o c rows coefficient right ch l)) (λ l. minus o (o.times (lambda l) (line l)) (o.times (lambda l) (right l)))
      (λ l h. solve o r (lambda l ∷ line l ∷ right l ∷ []) (var 0 ⊠ (var 1 ⊟ var 2)) (var 0 ⊠ var 1 ⊟ var 0 ⊠ var 2) refl)
      ∙ sum-minus o r L (λ l. o.times (lambda l) (line l)) (λ l. o.times (lambda l) (right l)) in
      ap (λ x. o.plus (o.plus second x) copies) gaps
      ∙ solve o r (second ∷ lines ∷ rights ∷ copies ∷ []) ((var 0 ⊞ (var 1 ⊟ var 2)) ⊞ var 3) ((var 0 ⊞ (var 1 ⊞ var 3)) ⊟ var 2) refl
      ∙ ap (λ x. minus o x rights) whole ∙ r.plus_neg rights

  -- ---- the quadratic answer's zeros

  triple_value : (t s which : ℕ) → t < p.ntriple → s < p.wr → which < 3 → extension o e.element (row rows (3 + p.nwrow + 3 * t + which)) (opened_count + s) ≡ E (3 + p.nwrow + 3 * t + which) s
  triple_value t s which g h d =
      let many = in_triple o e.element p rows b are t which g d in
      row_value (3 + p.nwrow + 3 * t + which) (opened_count + s) (omega (arith, many, h, b.block)) (omega (arith, many, b.block, b.dblock))

  pub quadratic_total : sent_quads ≡ quads → (s : ℕ) → s < p.wr → combination o (E 2 s) (product_gap o c rows s) (entry o ch.v) p.ntriple ≡ o.zero
  quadratic_total is s h =
      let k = opened_count + s in
      let v = entry o ch.v in
      let R : ℕ → A = λ i. extension o e.element (row rows i) k in
      let T : ℕ → A = λ t. triple_at o laws.ring e.element p rows t (e.element k) in
      let F : ℕ → ℕ → A = λ t which. E (3 + p.nwrow + 3 * t + which) s in
      let there : entry o quads k ≡ combination o (E 2 s) (product_gap o c rows s) v p.ntriple =
      entry-values_of o e.element p.dblock (quadratic_answer o e.element p rows ch.v) k (omega (arith, h, b.block, b.dblock))
      ∙ eval-quadratic o laws.ring e.element p rows ch.v (e.element k)
      ∙ ap (λ x. o.plus x (sum_below o p.ntriple (λ t. o.times (v t) (T t)))) (row_value 2 k (omega (arith, are.third, h, b.block, b.dblock)) (omega (arith, are.third)))
      ∙ ap (o.plus (E 2 s)) (sum-ext o laws.ring p.ntriple (λ t. o.times (v t) (T t)) (λ t. o.times (v t) (product_gap o c rows s t))
      (λ t g.
      let first = 3 + p.nwrow + 3 * t in
      let y : first ≡ first + 0 = omega arith in
      ap (o.times (v t))
      (ap (λ x. minus o (o.times x (R (first + 1))) (R (first + 2))) (ap R y ∙ triple_value t s 0 g h (omega arith))
      ∙ ap (λ x. minus o (o.times (F t 0) x) (R (first + 2))) (triple_value t s 1 g h (omega arith))
      ∙ ap (minus o (o.times (F t 0) (F t 1))) (triple_value t s 2 g h (omega arith))))) in
      sym there ∙ ap (λ xs. entry o xs k) (sym is) ∙ middle_entry o (p.block - opened_count) proof.quad_head proof.quad_tail opened_count s lengths.quad_head (omega (arith, h, b.block))

  -- ---- all together

  module _ (sum : HasLinearSum o p proof (wanted o c right ch)) (linear : AtEach columns (IsLinear o p proof e.element columns lists)) (quadratic : AtEach columns (IsQuadratic o p proof e.element columns ch.v)) (none : NoneBad o c rows coefficient right ch e.element proof columns) where
    from_mus : ((m : ℕ) → m < 3 * depth c → copy_gap o c rows m ≡ o.zero) × (linear_rest o c rows coefficient right ch ≡ o.zero)
    from_mus = gaps_unless_bad o e laws (linear_rest o c rows coefficient right ch) (copy_gap o c rows) (entry o ch.mu) (3 * depth c) (linear_total (dot_is linear none) sum) none.mus

    from_lambdas : ((i : ℕ) → i < depth c + 1 → linear_gap o c rows coefficient right ch i ≡ o.zero) × (second_sum o c rows ≡ o.zero)
    from_lambdas = gaps_unless_bad o e laws (second_sum o c rows) (linear_gap o c rows coefficient right ch) (entry o ch.lambda) (depth c + 1) from_mus.1 none.lambdas

    constraint_met : (i : ℕ) → i < depth c + 1 → sum_below o (committed_count c) (λ j. o.times (coefficient i j) (entry o (held o c rows) j)) ≡ right i
    constraint_met i h =
        sum-ext o laws.ring (committed_count c) (λ j. o.times (coefficient i j) (entry o (held o c rows) j)) (λ j. o.times (coefficient i j) (placed o c rows j)) (λ j q. ap (o.times (coefficient i j)) (held_entry j q))
        ∙ same_from_difference o laws.ring (line i) (right i) (from_lambdas.0 i h)

    products_zero : (t s : ℕ) → t < p.ntriple → s < p.wr → product_gap o c rows s t ≡ o.zero
    products_zero t s g h = (gaps_unless_bad o e laws (E 2 s) (product_gap o c rows s) (entry o ch.v) p.ntriple (quadratic_total (quad_is quadratic none) s h) (none.vs s h)).0 t g

    -- the copy of a layer's factor
    copy_is : (l which : ℕ) → l < depth c → which < 3 → rows_held.in_triple o c rows (l / p.wr) (l % p.wr) which ≡ entry o (held o c rows) (factors_at c l + which)
    copy_is l which h d =
        let m = 3 * l + which in
        let third : m / 3 ≡ l = omega (arith, d) in
        let rest : m % 3 ≡ which = omega (arith, d) in
        let source : factors_at c l + which < committed_count c = omega (arith, pads_within c l h, d) in
        let G : ℕ → ℕ → A = λ a x. rows_held.in_triple o c rows (a / p.wr) (a % p.wr) x in
        sym (ap (λ (a : ℕ). G a (m % 3)) third ∙ ap (G l) rest)
        ∙ same_from_difference o laws.ring (G (m / 3) (m % 3)) (placed o c rows (constrained_at c m)) (from_mus.0 m (omega (arith, h, d)))
        ∙ ap (λ (a : ℕ). placed o c rows (factors_at c a + m % 3)) third ∙ ap (λ (x : ℕ). placed o c rows (factors_at c l + x)) rest
        ∙ sym (held_entry (factors_at c l + which) source)

    product_met : (l : ℕ) → l < depth c → o.times (entry o (held o c rows) (factors_at c l)) (entry o (held o c rows) (factors_at c l + 1)) ≡ entry o (held o c rows) (factors_at c l + 2)
    product_met l h =
        let W = entry o (held o c rows) in
        let z : factors_at c l + 0 ≡ factors_at c l = omega arith in
        let F : ℕ → A = rows_held.in_triple o c rows (l / p.wr) (l % p.wr) in
        let G : ℕ → A = λ (k : ℕ). W (factors_at c l + k) in
        ap (λ x. o.times x (G 1)) (sym (copy_is l 0 h (omega arith) ∙ ap W z))
        ∙ ap (o.times (F 0)) (sym (copy_is l 1 h (omega arith)))
        ∙ same_from_difference o laws.ring (o.times (F 0) (F 1)) (F 2) (products_zero (l / p.wr) (l % p.wr) (copy_below l h) (mod-lt l some))
        ∙ copy_is l 2 h (omega arith)

    pub satisfies : Satisfies o c coefficient right (held o c rows)
    satisfies = record { linear = constraint_met; products = product_met }

pub rows_satisfy : {A : Type 0} (o : Ops A) (e : Coding A) → Laws o e.size e.number e.element e.bytes → RowsSatisfyUnlessBad o e
rows_satisfy o e laws = λ c coefficient right ch rows proof columns b are opened lengths sum linear quadratic none.
    satisfies o e laws c coefficient right ch rows proof columns b are opened lengths sum linear quadratic none
