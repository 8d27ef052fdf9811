-- Rows for a table that is near codewords: by draws that are not bad the answers shown are those of the rows.
use Rattle.std.specs.Prelude.{◌≡◌, ℕ, ◌+◌, ◌-◌, ◌*◌, ◌<◌, ◌≤◌, Bool, true, false, List, [], ◌∷◌, ◌++◌, length, flat_map, slice_index}
use Rattle.std.specs.List.{AllByRecursion, range_with_len}
use Rattle.std.proofs.Common.{zero, suc, refl, sym, ap, ◌∙◌, arith}
use Rattle.std.proofs.lemmas.List.{get_or_append_left, get_or-append-add}
use Rattle.std.proofs.lemmas.List.FromFn.{get_or-map-range_with_len, length-map-range_with_len}
use Rattle.lzk_field.specs.Coding.{Coding}
use Rattle.lzk_field.specs.Ring.{Ops, Laws}
use Rattle.lzk_field.specs.Sums.{sum_below, minus, entry}
use Rattle.lzk_field.proofs.SumLaws.{sum-ext}
use Rattle.lzk_poly.specs.Extension.{extension}
use Rattle.lzk_poly.specs.Polynomial.{eval}
use Rattle.lzk_poly.proofs.Through.{extension-values_of, length-values_of}
use Rattle.lzk_circuit.specs.Valid.{Wiring}
use Rattle.lzk_layout.specs.declared.params.Params.{Params}
use Rattle.lzk_layout.specs.Sizes.{AreBounded, params_of}
use Rattle.lzk_sumcheck.specs.declared.script.Script.{Script}
use Rattle.lzk_accept.specs.Checks.{at_row, quadratic_values, coefficient_of, right_of, combined_row_of}
use Rattle.lzk_ligero_answers.specs.Answers.{linear_answer, quadratic_answer}
use Rattle.lzk_ligero_answers.specs.Laws.{linear_of, quadratic_of}
use Rattle.lzk_ligero_answers.specs.Rows.{row, AreRows}
use Rattle.lzk_ligero_answers.proofs.AnswerLaws.{eval-linear, eval-quadratic, triple_at}
use Rattle.lzk_ligero_answers.proofs.PassLaws.{apart}
use Rattle.lzk_ligero_answers.proofs.RowLaws.{linear_short, quadratic_short}
use Rattle.lzk_ligero_answers.proofs.StandLaws.{combined_rows}
use Rattle.lzk_soundness.specs.Draws.Schedule.{script_of}
use Rattle.lzk_soundness.proofs.DrawsLaws.Deciding.{is_yes, from_yes, dec_same}
use Rattle.lzk_soundness.specs.Chance.Draws.{count}
use Rattle.lzk_soundness.specs.Near.Near.{AreClose}
use Rattle.lzk_soundness.specs.Tables.Table.{place, IsNear}
use Rattle.lzk_soundness.proofs.CountLaws.Made.{made, made_row, row_is, made_are, value_is, other_is}
use Rattle.lzk_soundness.specs.Count.Game.{Strategy, script_draws, weights_in, column_of, shown, IsPassed}
use Rattle.lzk_soundness.proofs.CountLaws.Masks.{flip, word_close, right_sent}
use Rattle.lzk_soundness.proofs.CountLaws.Near.{hides_some, clean}

-- an entry of lists of one length, one after the other
pub entry_of_flat : {A : Type 0} (o : Ops A) (f : ℕ → List A) (n : ℕ) (js : List ℕ) (k i : ℕ) → ((j : ℕ) → length (f j) ≡ n) → k < length js → i < n → entry o (flat_map f js) (k * n + i) ≡ entry o (f (slice_index js k)) i
entry_of_flat o f n [] k i same h b = absurd (omega arith)
entry_of_flat o f n (j ∷ js) zero i same h b = let z : 0 * n + i ≡ i = omega arith in ap (entry o (f j ++ flat_map f js)) z ∙ get_or_append_left (f j) (flat_map f js) o.zero i (omega (arith, b, same j))
entry_of_flat o f n (j ∷ js) (suc k) i same h b =
    let z : suc k * n + i ≡ length (f j) + (k * n + i) = omega (arith, same j) in
    ap (entry o (f j ++ flat_map f js)) z ∙ get_or-append-add (f j) (flat_map f js) (k * n + i) o.zero ∙ entry_of_flat o f n js k i same (omega arith) b

by_places : (P : ℕ → Type 0) (js : List ℕ) → ((k : ℕ) → k < length js → P (slice_index js k)) → AllByRecursion P js
by_places P [] each = tt
by_places P (j ∷ js) each = (each 0 (omega arith), by_places P js (λ k h. each (suc k) (omega (arith, h))))

dec_both : {P Q : Type 0} → Dec P → Dec Q → Dec (P × Q)
dec_both (yes p) (yes q) = yes (p, q)
dec_both (yes p) (no n) = no (λ b. n b.1)
dec_both (no n) q = no (λ b. n b.0)

yes_is : {P : Type 0} (d : Dec P) → P → is_yes d ≡ true
yes_is (yes p) q = refl
yes_is (no n) q = absurd (n q)

module _ {A : Type 0} (o : Ops A) (e : Coding A) (laws : Laws o e.size e.number e.element e.bytes) (c : Wiring A) (b : AreBounded (params_of c)) (public : List A) (strategy : Strategy A) where
  abbrev p : Params
  p = params_of c

  abbrev table : ℕ → ℕ → A
  table = strategy.table

  abbrev pub script : List A → Script A
  script draws = script_of o c (script_draws c draws)

  abbrev pub messages : List A → List A
  messages draws = strategy.messages (script_draws c draws)

  abbrev pub coefficient : List A → ℕ → ℕ → A
  coefficient draws = coefficient_of o e.element c public (script draws) (messages draws)

  abbrev pub right : List A → ℕ → A
  right draws = right_of o e.element c public (script draws) (messages draws)

  abbrev lists : List A → ℕ → List A
  lists draws = combined_row_of o e.element c public (script draws) (messages draws) (weights_in c draws)

  abbrev pub quads : List A → List A
  quads draws = quadratic_values o p (shown o c strategy draws [])

  -- what the rows from row 3 on give at column j in the two answers, for any rows
  abbrev linear_part : List A → (ℕ → A) → ℕ → A
  linear_part draws value j = sum_below o (p.nrow - 3) (λ i. o.times (extension o e.element (lists draws (3 + i)) (p.dblock + j)) (value (3 + i)))

  abbrev triple : (ℕ → A) → ℕ → A
  triple value t = minus o (o.times (value (3 + p.nwrow + 3 * t + 0)) (value (3 + p.nwrow + 3 * t + 1))) (value (3 + p.nwrow + 3 * t + 2))

  abbrev quadratic_part : List A → (ℕ → A) → A
  quadratic_part draws value = sum_below o p.ntriple (λ t. o.times (entry o (weights_in c draws).v t) (triple value t))

  -- the three answers pass at column j
  abbrev Low : List A → ℕ → Type 0
  Low draws j = extension o e.element (strategy.ldt draws) (p.dblock + j) ≡ o.plus (table 0 j) (sum_below o (p.nrow - 3) (λ i. o.times (entry o (weights_in c draws).u i) (table (3 + i) j)))

  abbrev Line : List A → ℕ → Type 0
  Line draws j = extension o e.element (strategy.dot draws) (p.dblock + j) ≡ o.plus (table 1 j) (linear_part draws (λ i. table i j) j)

  abbrev Quad : List A → ℕ → Type 0
  Quad draws j = extension o e.element (quads draws) (p.dblock + j) ≡ o.plus (table 2 j) (quadratic_part draws (λ i. table i j))

  abbrev pub Here : List A → ℕ → Type 0
  Here draws j = Low draws j × (Line draws j × Quad draws j)

  dec_here : (draws : List A) (j : ℕ) → Dec (Here draws j)
  dec_here draws j = dec_both (dec_same laws.numbers _ _) (dec_both (dec_same laws.numbers _ _) (dec_same laws.numbers _ _))

  pub here : List A → ℕ → Bool
  here draws j = is_yes (dec_here draws j)

  is_here : (draws : List A) (j : ℕ) → here draws j ≡ true → Here draws j
  unfolding here
  is_here draws j is = from_yes (dec_here draws j) is

  pub low_here : (draws : List A) (j : ℕ) → here draws j ≡ true
      → extension o e.element (strategy.ldt draws) (p.dblock + j) ≡ o.plus (table 0 j) (sum_below o (p.nrow - 3) (λ i. o.times (entry o (weights_in c draws).u i) (table (3 + i) j)))
  low_here draws j is = (is_here draws j is).0

  -- ---- what passes, passes at each opened column

  module _ (draws : List A) (columns : List ℕ) (passed : IsPassed o e c public strategy draws columns) where
    opened : (k i : ℕ) → k < length columns → i < p.nrow → at_row o p (shown o c strategy draws columns) k i ≡ table i (slice_index columns k)
    opened k i h l =
        entry_of_flat o (column_of o c strategy) p.nrow columns k i (λ j. length-map-range_with_len (λ i. table i j) 0 p.nrow) h l
        ∙ get_or-map-range_with_len (λ i. table i (slice_index columns k)) 0 p.nrow i i o.zero l (omega arith)

    pub each_here : AllByRecursion (λ j. here draws j ≡ true) columns
    unfolding here
    each_here = by_places (λ j. here draws j ≡ true) columns (λ k h. yes_is (dec_here draws (slice_index columns k)) (low k h, (line k h, quad k h)))
      where
        low : (k : ℕ) → k < length columns → Low draws (slice_index columns k)
        low k h =
            let H : ℕ → A = at_row o p (shown o c strategy draws columns) k in
            let n = p.nrow - 3 in
            let j = slice_index columns k in
            let u : ℕ → A = entry o (weights_in c draws).u in
            passed.low_degree k h
            ∙ ap (λ x. o.plus x (sum_below o n (λ i. o.times (u i) (H (3 + i))))) (opened k 0 h (omega (arith, b.rows)))
            ∙ ap (o.plus (table 0 j)) (sum-ext o laws.ring n (λ i. o.times (u i) (H (3 + i))) (λ i. o.times (u i) (table (3 + i) j)) (λ i q. ap (o.times (u i)) (opened k (3 + i) h (omega (arith, q)))))

        line : (k : ℕ) → k < length columns → Line draws (slice_index columns k)
        line k h =
            let H : ℕ → A = at_row o p (shown o c strategy draws columns) k in
            let n = p.nrow - 3 in
            let j = slice_index columns k in
            let a : ℕ → A = λ i. extension o e.element (lists draws (3 + i)) (p.dblock + j) in
            passed.linear k h
            ∙ ap (λ x. o.plus x (sum_below o n (λ i. o.times (a i) (H (3 + i))))) (opened k 1 h (omega (arith, b.rows)))
            ∙ ap (o.plus (table 1 j)) (sum-ext o laws.ring n (λ i. o.times (a i) (H (3 + i))) (λ i. o.times (a i) (table (3 + i) j)) (λ i q. ap (o.times (a i)) (opened k (3 + i) h (omega (arith, q)))))

        quad : (k : ℕ) → k < length columns → Quad draws (slice_index columns k)
        quad k h =
            let H : ℕ → A = at_row o p (shown o c strategy draws columns) k in
            let j = slice_index columns k in
            let v : ℕ → A = entry o (weights_in c draws).v in
            let T : ℕ → A = λ i. table i j in
            passed.quadratic k h
            ∙ ap (λ x. o.plus x (sum_below o p.ntriple (λ t. o.times (v t) (triple H t)))) (opened k 2 h (omega (arith, b.rows)))
            ∙ ap (o.plus (table 2 j)) (sum-ext o laws.ring p.ntriple (λ t. o.times (v t) (triple H t)) (λ t. o.times (v t) (triple T t))
            (λ t q.
            let first = 3 + p.nwrow + 3 * t in
            ap (o.times (v t))
            (ap (λ w. minus o (o.times w (H (first + 1))) (H (first + 2))) (opened k (first + 0) h (omega (arith, q, b.rows)))
            ∙ ap (λ w. minus o (o.times (T (first + 0)) w) (H (first + 2))) (opened k (first + 1) h (omega (arith, q, b.rows)))
            ∙ ap (minus o (o.times (T (first + 0)) (T (first + 1)))) (opened k (first + 2) h (omega (arith, q, b.rows))))))

  -- ---- rows for the table

  module _ (near : IsNear o e.element p table p.block) (first second : List A) (short : length first ≤ p.dblock) (brief : length second ≤ p.dblock) where
    abbrev pub rows : List (List A)
    rows = made laws p table b near first second

    are : AreRows p rows
    are = made_are laws p table b near first second

    abbrev R : ℕ → ℕ → A
    R i j = extension o e.element (row rows i) (p.dblock + j)

    R_one : (j : ℕ) → R 1 j ≡ eval o first (e.element (p.dblock + j))
    unfolding made_row
    R_one j =
        ap (λ xs. extension o e.element xs (p.dblock + j)) (row_is laws p table b near first second 1 (omega (arith, b.rows)))
        ∙ extension-values_of o laws.ring laws.field e.element p.dblock first short (apart laws p b p.dblock (omega (arith, b.columns))) (p.dblock + j)

    R_two : (j : ℕ) → R 2 j ≡ eval o second (e.element (p.dblock + j))
    unfolding made_row
    R_two j =
        ap (λ xs. extension o e.element xs (p.dblock + j)) (row_is laws p table b near first second 2 (omega (arith, b.rows)))
        ∙ extension-values_of o laws.ring laws.field e.element p.dblock second brief (apart laws p b p.dblock (omega (arith, b.columns))) (p.dblock + j)

    R_other : (i j : ℕ) → i < p.nrow - 3 → R (3 + i) j ≡ eval o (near.code (suc i)) (e.element (p.dblock + j))
    R_other i j l = other_is laws p table b near first second i j l

    module _ (draws : List A) (few : count (flip (here draws)) (range_with_len 0 p.mcol) ≤ p.block) (long_ldt : length (strategy.ldt draws) ≡ p.block) (good : hides_some o e laws p b table near (weights_in c draws).u ≡ false) where
      -- where the answers pass the table is the rows', from row 3 on
      same_there : (j : ℕ) → j < p.mcol → here draws j ≡ true → (i : ℕ) → i < p.nrow - 3 → table (3 + i) j ≡ R (3 + i) j
      same_there j h is i q =
          clean o e laws p b table near (weights_in c draws).u (strategy.ldt draws) (here draws) few long_ldt (λ j h is. (is_here draws j is).0) good j h is i q
          ∙ sym (R_other i j q)

      abbrev dots_right : List A
      dots_right = linear_of o e.element p rows (lists draws)

      abbrev quads_right : List A
      quads_right = quadratic_of o e.element p rows (weights_in c draws).v

      list_length : (i : ℕ) → length (lists draws i) ≡ p.block
      list_length i = let is = combined_rows o e.element c (coefficient draws) (weights_in c draws) i in is.count

      dot_there : (j : ℕ) → extension o e.element dots_right (p.dblock + j) ≡ o.plus (eval o first (e.element (p.dblock + j))) (linear_part draws (λ i. R i j) j)
      dot_there j =
          extension-values_of o laws.ring laws.field e.element p.dblock (linear_answer o e.element p rows (lists draws)) (linear_short o e.element p rows b are (lists draws) (λ i q. list_length (3 + i))) (apart laws p b p.dblock (omega (arith, b.columns))) (p.dblock + j)
          ∙ eval-linear o laws.ring e.element p rows (lists draws) (e.element (p.dblock + j))
          ∙ ap (λ w. o.plus w (linear_part draws (λ i. R i j) j)) (R_one j)

      quad_there : (j : ℕ) → extension o e.element quads_right (p.dblock + j) ≡ o.plus (eval o second (e.element (p.dblock + j))) (quadratic_part draws (λ i. R i j))
      quad_there j =
          let v : ℕ → A = entry o (weights_in c draws).v in
          let T : ℕ → A = λ t. triple_at o laws.ring e.element p rows t (e.element (p.dblock + j)) in
          extension-values_of o laws.ring laws.field e.element p.dblock (quadratic_answer o e.element p rows (weights_in c draws).v) (quadratic_short o e.element p rows b are (weights_in c draws).v) (apart laws p b p.dblock (omega (arith, b.columns))) (p.dblock + j)
          ∙ eval-quadratic o laws.ring e.element p rows (weights_in c draws).v (e.element (p.dblock + j))
          ∙ ap (λ w. o.plus w (sum_below o p.ntriple (λ t. o.times (v t) (T t)))) (R_two j)
          ∙ ap (o.plus (eval o second (e.element (p.dblock + j)))) (sum-ext o laws.ring p.ntriple (λ t. o.times (v t) (T t)) (λ t. o.times (v t) (triple (λ i. R i j) t))
          (λ t q.
          let first_row = 3 + p.nwrow + 3 * t in
          let y : first_row ≡ first_row + 0 = omega arith in
          ap (λ x. o.times (v t) (minus o (o.times x (R (first_row + 1) j)) (R (first_row + 2) j))) (ap (λ (k : ℕ). R k j) y)))

      dot_sent : (j : ℕ) → j < p.mcol → here draws j ≡ true → extension o e.element (strategy.dot draws) (p.dblock + j) ≡ o.plus (table 1 j) (linear_part draws (λ i. R i j) j)
      dot_sent j h is =
          let a : ℕ → A = λ i. extension o e.element (lists draws (3 + i)) (p.dblock + j) in
          (is_here draws j is).1.0
          ∙ ap (o.plus (table 1 j)) (sum-ext o laws.ring (p.nrow - 3) (λ i. o.times (a i) (table (3 + i) j)) (λ i. o.times (a i) (R (3 + i) j)) (λ i q. ap (o.times (a i)) (same_there j h is i q)))

      quad_sent : (j : ℕ) → j < p.mcol → here draws j ≡ true → extension o e.element (quads draws) (p.dblock + j) ≡ o.plus (table 2 j) (quadratic_part draws (λ i. R i j))
      quad_sent j h is =
          let v : ℕ → A = entry o (weights_in c draws).v in
          let T : ℕ → A = λ i. table i j in
          let S : ℕ → A = λ i. R i j in
          let same : (t which : ℕ) → t < p.ntriple → which < 3 → T (3 + p.nwrow + 3 * t + which) ≡ S (3 + p.nwrow + 3 * t + which) =
          λ t which q l.
          let i = p.nwrow + 3 * t + which in
          let z : 3 + p.nwrow + 3 * t + which ≡ 3 + i = omega arith in
          ap T z ∙ same_there j h is i (omega (arith, q, l, b.rows)) ∙ ap S (sym z) in
          (is_here draws j is).1.1
          ∙ ap (o.plus (table 2 j)) (sum-ext o laws.ring p.ntriple (λ t. o.times (v t) (triple T t)) (λ t. o.times (v t) (triple S t))
          (λ t q.
          let f = 3 + p.nwrow + 3 * t in
          ap (o.times (v t))
          (ap (λ w. minus o (o.times w (T (f + 1))) (T (f + 2))) (same t 0 q (omega arith))
          ∙ ap (λ w. minus o (o.times (S (f + 0)) w) (T (f + 2))) (same t 1 q (omega arith))
          ∙ ap (minus o (o.times (S (f + 0)) (S (f + 1)))) (same t 2 q (omega arith)))))

      module _ (long_dot : length (strategy.dot draws) ≡ p.dblock) where
        -- row 1 is near a polynomial
        pub second_close : AreClose o (place o e.element p table) p.dblock p.mcol p.block 1 (λ i. table 1)
        second_close =
            word_close laws p b table (here draws) few (table 1) (λ j. linear_part draws (λ i. R i j) j) (strategy.dot draws) dots_right first long_dot
            (length-values_of o e.element p.dblock (linear_answer o e.element p rows (lists draws))) short dot_sent (λ j h is. dot_there j)

        -- where it is near the rows' the linear answer is theirs
        pub dot_right : (close : AreClose o (place o e.element p table) p.dblock p.mcol p.block 1 (λ i. table 1)) → ((t : A) → eval o (close.code 0) t ≡ eval o first t) → strategy.dot draws ≡ dots_right
        dot_right =
            right_sent laws p b table (here draws) few (table 1) (λ j. linear_part draws (λ i. R i j) j) (strategy.dot draws) dots_right first long_dot
            (length-values_of o e.element p.dblock (linear_answer o e.element p rows (lists draws))) short dot_sent (λ j h is. dot_there j)

      module _ (long_quads : length (quads draws) ≡ p.dblock) where
        pub third_close : AreClose o (place o e.element p table) p.dblock p.mcol p.block 1 (λ i. table 2)
        third_close =
            word_close laws p b table (here draws) few (table 2) (λ j. quadratic_part draws (λ i. R i j)) (quads draws) quads_right second long_quads
            (length-values_of o e.element p.dblock (quadratic_answer o e.element p rows (weights_in c draws).v)) brief quad_sent (λ j h is. quad_there j)

        pub quad_right : (close : AreClose o (place o e.element p table) p.dblock p.mcol p.block 1 (λ i. table 2)) → ((t : A) → eval o (close.code 0) t ≡ eval o second t) → quads draws ≡ quads_right
        quad_right =
            right_sent laws p b table (here draws) few (table 2) (λ j. quadratic_part draws (λ i. R i j)) (quads draws) quads_right second long_quads
            (length-values_of o e.element p.dblock (quadratic_answer o e.element p rows (weights_in c draws).v)) brief quad_sent (λ j h is. quad_there j)
