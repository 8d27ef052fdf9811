-- Few weights open a table that encodes no satisfying inputs.
use Rattle.lzk_shares.specs.Shares.{least_size}
use Rattle.lzk_profile.specs.Profile.{opened_count, most_row, most_rows}
use Rattle.std.specs.Prelude.{◌≡◌, ◌≢◌, ℕ, ◌+◌, ◌-◌, ◌*◌, ◌^◌, ◌<◌, ◌≤◌, cond, Bool, true, List, [], ◌++◌, length, take}
use Rattle.std.proofs.Common.{inl, inr, sym, ap, ◌∙◌, arith, subst, mul-le-mul_right, mul_comm, take_at, length-append, append_assoc}
use Rattle.std.proofs.lemmas.Bool.{lt-ltb, le-ltb}
use Rattle.std.proofs.lemmas.List.FromFn.{get_or-map-range_with_len, length-map-range_with_len}
use Rattle.lzk_field.specs.Coding.{Coding}
use Rattle.lzk_field.specs.Ring.{Ops, Laws}
use Rattle.lzk_field.specs.Sums.{entry, sum_below}
use Rattle.lzk_field.proofs.SumLaws.{sum-ext}
use Rattle.lzk_poly.specs.Through.{through}
use Rattle.lzk_poly.proofs.Through.{eval-through, length-through}
use Rattle.lzk_soundness.specs.Chance.Draws.{count, draws_from}
use Rattle.lzk_soundness.specs.Chance.Few.{AreDistinct, HasAll}
use Rattle.lzk_circuit.specs.Valid.{Wiring, IsValid}
use Rattle.lzk_circuit.specs.Wires.{inputs_of}
use Rattle.lzk_circuit.specs.Checks.{IsSatisfied}
use Rattle.lzk_layout.specs.declared.params.Params.{Params}
use Rattle.lzk_layout.specs.Sizes.{AreBounded, params_of, committed_count}
use Rattle.lzk_layout.specs.Places.{depth}
use Rattle.lzk_layout.proofs.SizeLaws.{params_bounded}
use Rattle.lzk_sumcheck.specs.Coefficients.{coefficients}
use Rattle.lzk_accept.specs.Checks.{coefficient_of, right_of}
use Rattle.lzk_accept.specs.Residuals.{residual}
use Rattle.lzk_accept.proofs.ResidualLaws.{residual-form}
use Rattle.lzk_soundness.specs.Sumchecks.Bad.{AreZero}
use Rattle.lzk_soundness.specs.Sumchecks.Claims.{Vanish}
use Rattle.lzk_soundness.proofs.SumchecksLaws.Bindings.{stable}
use Rattle.lzk_soundness.proofs.SumchecksLaws.Satisfied.{satisfied_by}
use Rattle.lzk_soundness.specs.Draws.Schedule.{draw_count, script_of}
use Rattle.lzk_soundness.specs.Draws.Game.{Target, table_of}
use Rattle.lzk_soundness.specs.Draws.Game.Target.{outputs, assertions}
use Rattle.lzk_soundness.specs.Draws.Laws.{IsOf}
use Rattle.lzk_soundness.specs.Rows.Held.{placed, held, copy_gap, product_gap}
use Rattle.lzk_soundness.specs.Whole.Whole.{weight_count, line_gap, gap_at}
use Rattle.lzk_soundness.proofs.WholeLaws.Copies.{products_follow}
use Rattle.lzk_soundness.proofs.DrawsLaws.Looking.{Found, look}
use Rattle.lzk_soundness.proofs.NearLaws.Alls.{combinations_rare, same_elements}
use Rattle.lzk_soundness.specs.Tables.Table.{place, tested, IsNear}
use Rattle.lzk_soundness.proofs.TablesLaws.Far.{columns_apart}
use Rattle.lzk_soundness.specs.Count.Game.{row_count, weights_in}
use Rattle.lzk_soundness.specs.Extract.Extraction.{all_elements, extracted}
use Rattle.lzk_soundness.specs.Count.Laws.{Encodes}
use Rattle.lzk_soundness.proofs.CountLaws.Elements.{elements_all}
use Rattle.lzk_soundness.proofs.CountLaws.Facts.{AreTooMany, other_part}
use Rattle.lzk_soundness.proofs.CountLaws.Fronts.{front, behind, fronts_few, backs_few}
use Rattle.lzk_soundness.proofs.CountLaws.Masks.{flip, flip_false}
use Rattle.lzk_soundness.proofs.CountLaws.Read.{read_is}
use Rattle.lzk_soundness.proofs.CountLaws.Rows.{here, low_here}
use Rattle.lzk_soundness.specs.Ligero.States.{Answers, sends, all_weights}
use Rattle.lzk_soundness.specs.Ligero.Laws.{IsOpening, IsOpenedBy, Held}
use Rattle.lzk_soundness.specs.Ligero.Laws.Held.{nothing, list}
use Rattle.lzk_soundness.proofs.LigeroLaws.Knowing.{known_of}
use Rattle.lzk_soundness.proofs.LigeroLaws.Near.{Close, first, second, R, rest, by_gap, by_product, near_few, rest_few}
use Rattle.lzk_soundness.proofs.LigeroLaws.Same.{plain, placed_same, copy_same, product_same}

product_most : (a b c d : ℕ) → a ≤ c → b ≤ d → a * b ≤ c * d
product_most a b c d h l =
    let first : a * b ≤ c * b = mul-le-mul_right b h in
    let second : b * c ≤ d * c = mul-le-mul_right c l in
    omega (arith, first, second, mul_comm c b, mul_comm c d)

-- ---- a table that is far from codewords

module _ {A : Type 0} (o : Ops A) (e : Coding A) (laws : Laws o e.size e.number e.element e.bytes) (c : Wiring A) (b : AreBounded (params_of c)) (public : List A) (table : ℕ → ℕ → A) (messages r : List A) (lr : length r ≡ draw_count c) (ds : List A) (distinct : AreDistinct ds) (every : HasAll ds) (large : least_size ≤ length ds) (T : List A → Bool) (known : (ws : List A) → length ws ≡ all_weights c → T ws ≡ true → (a : Answers A) × AreTooMany o e laws c b public (sends table messages a) (r ++ ws)) (far : IsNear o e.element (params_of c) table (params_of c).block → ⊥) where
  abbrev p : Params
  p = params_of c

  abbrev nu : ℕ
  nu = row_count c

  abbrev nv : ℕ
  nv = p.ntriple

  few_rows : nu * (p.block + 1) < length ds
  few_rows =
      let most : nu * (p.block + 1) ≤ (most_rows - 3) * (opened_count + (most_row + 1)) = product_most nu (p.block + 1) (most_rows - 3) (opened_count + (most_row + 1)) (omega (arith, b.nrow)) (omega (arith, b.block, b.wr)) in
      omega (arith, most, large)

  far_few : count T (draws_from ds (all_weights c)) * length ds ≤ (p.block + 2) * length ds ^ all_weights c
  far_few =
      let K = p.block + 2 in
      backs_few ds T (weight_count c) (nu + nv) K
      (λ lm ll. fronts_few ds (λ t. T (lm ++ t)) nu nv K
      (combinations_rare o laws.ring laws.field (same_elements laws.numbers) (place o e.element p table) p.block p.mcol p.block nu (table 0)
      (tested o e.element p table) (front ds (λ t. T (lm ++ t)) nu nv K) ds (record {
        apart = columns_apart laws p table b;
        few = omega (arith, b.mcol);
        far = far;
        only = λ u lu is.
            let found = behind ds (λ t. T (lm ++ t)) nu nv K u is in
            let v = found.0 in
            let draws = (r ++ lm) ++ (u ++ v) in
            let facts : (a : Answers A) × AreTooMany o e laws c b public (sends table messages a) draws = subst (λ ws. (a : Answers A) × AreTooMany o e laws c b public (sends table messages a) ws) (sym (append_assoc r lm (u ++ v)))
            (known (lm ++ (u ++ v)) (length-append lm (u ++ v) ∙ omega (arith, ll, lu, found.1.0, length-append u v)) found.1.1) in
            let strategy = sends table messages facts.0 in
            let ldt = facts.0.ldt in
            let lx : length (r ++ lm) ≡ draw_count c + weight_count c = length-append r lm ∙ omega (arith, lr, ll) in
            let u_is : (weights_in c draws).u ≡ u = ap (take nu) (other_part c (r ++ lm) (u ++ v) lx) ∙ take_at u v nu lu in
            record {
              outside = flip (here o e laws c b public strategy draws);
              code = λ i. through o e.element ldt;
              few = facts.1.few;
              short = λ i h. omega (arith, length-through o e.element ldt, facts.1.passed.ldt);
              agree = λ i j h l out.
                  let passes = low_here o e laws c b public strategy draws j (flip_false (here o e laws c b public strategy draws) j out) in
                  sym (eval-through o laws.ring e.element ldt (e.element (p.dblock + j)) ∙ passes
                  ∙ ap (λ ws. o.plus (table 0 j) (sum_below o nu (λ i. o.times (entry o ws i) (table (3 + i) j)))) u_is);
            };
      }) distinct every few_rows))

-- ---- all tables

module _ {A : Type 0} (o : Ops A) (e : Coding A) (laws : Laws o e.size e.number e.element e.bytes) (c : Wiring A) (public : List A) (table : ℕ → ℕ → A) (valid : IsValid o c) (publics : length public ≡ c.publics) (unknowing : Encodes o e c public table → ⊥) (large : least_size ≤ e.size) (not : Held o e c public table → ⊥) where
  abbrev q : Params
  q = params_of c

  abbrev b : AreBounded q
  b = params_bounded o c valid

  abbrev ds : List A
  ds = all_elements e

  ds_distinct : AreDistinct ds
  ds_distinct = (elements_all e laws.numbers).distinct

  ds_every : HasAll ds
  ds_every = (elements_all e laws.numbers).every

  ds_count : length ds ≡ e.size
  ds_count = (elements_all e laws.numbers).count

  -- what a test of weights says
  module _ (r messages : List A) (T : List A → Bool) (opening : IsOpening o e c public table r messages T) where
    known_all : (ws : List A) → length ws ≡ all_weights c → T ws ≡ true → (a : Answers A) × AreTooMany o e laws c b public (sends table messages a) (r ++ ws)
    known_all ws long is =
        let it = opening.only ws long is in
        (it.answers, known_of o e laws c b public valid publics table messages (r ++ ws) (length-append r ws ∙ omega (arith, opening.count, long)) it)

    sized : (K : ℕ) → count T (draws_from ds (all_weights c)) * length ds ≤ K * length ds ^ all_weights c → IsOpenedBy o e c public table K T
    sized K few = subst (λ (n : ℕ). count T (draws_from ds (all_weights c)) * n ≤ K * n ^ all_weights c) ds_count few

  far_case : (IsNear o e.element q table q.block → ⊥) → ⊥
  far_case far =
      not (nothing (λ r messages T opening.
      sized r messages T opening (q.block + 2)
      (far_few o e laws c b public table messages r opening.count ds ds_distinct ds_every (omega (arith, large, ds_count)) T (known_all r messages T opening) far)))

  module _ (near : IsNear o e.element q table q.block) where
    abbrev rows : List (List A)
    rows = plain o e laws c table b near

    -- by one thing that is wrong with the rows
    module _ (r messages : List A) (T : List A → Bool) (opening : IsOpening o e c public table r messages T) where
      few_by : ((close : Close o e laws c b public table messages r opening.count ds ds_distinct near T (known_all r messages T opening))
          → count (rest o e laws c b public table messages r opening.count ds ds_distinct near T (known_all r messages T opening)) (draws_from ds (all_weights c)) * length ds ≤ 1 * length ds ^ all_weights c)
          → IsOpenedBy o e c public table (q.block + 1) T
      few_by by_close =
          sized r messages T opening (q.block + 1)
          (near_few o e laws c b public table messages r opening.count ds ds_distinct near T (known_all r messages T opening)
          (rest_few o e laws c b public table messages r opening.count ds ds_distinct near T (known_all r messages T opening) by_close))

      more : IsOpenedBy o e c public table (q.block + 1) T → IsOpenedBy o e c public table (q.block + 2) T
      more few = let up : (q.block + 1) * e.size ^ all_weights c ≤ (q.block + 2) * e.size ^ all_weights c = mul-le-mul_right (e.size ^ all_weights c) (omega arith) in omega (arith, few, up)

      product_few : (s t : ℕ) → s < q.wr → t < q.ntriple → product_gap o c rows s t ≢ o.zero → IsOpenedBy o e c public table (q.block + 1) T
      product_few s t h l differ =
          few_by (λ close.
          let f = first o e laws c b public table messages r opening.count ds ds_distinct near T (known_all r messages T opening) close in
          let g = second o e laws c b public table messages r opening.count ds ds_distinct near T (known_all r messages T opening) close in
          by_product o e laws c b public table messages r opening.count ds ds_distinct near T (known_all r messages T opening) close s t h l
          (λ none. differ (sym (product_same o e laws c table b near f g s t) ∙ none)))

      copy_few : (m : ℕ) → m < 3 * depth c → copy_gap o c rows m ≢ o.zero → IsOpenedBy o e c public table (q.block + 1) T
      copy_few m h differ =
          few_by (λ close.
          let f = first o e laws c b public table messages r opening.count ds ds_distinct near T (known_all r messages T opening) close in
          let g = second o e laws c b public table messages r opening.count ds ds_distinct near T (known_all r messages T opening) close in
          let S = R o e laws c b public table messages r opening.count ds ds_distinct near T (known_all r messages T opening) close in
          let coefficient = coefficient_of o e.element c public (script_of o c r) messages in
          let right = right_of o e.element c public (script_of o c r) messages in
          let L = depth c + 1 in
          let less : L + m - L ≡ m = omega arith in
          let is : gap_at o c S coefficient right (L + m) ≡ copy_gap o c rows m =
          ap (λ v. cond v (line_gap o c S coefficient right (L + m)) (copy_gap o c S (L + m - L))) (le-ltb (L + m) L (omega arith)) ∙ ap (copy_gap o c S) less
          ∙ copy_same o e laws c table b near f g m in
          by_gap o e laws c b public table messages r opening.count ds ds_distinct near T (known_all r messages T opening) close (L + m) (omega (arith, h)) (λ none. differ (sym is ∙ none)))

      abbrev residual_at : ℕ → A
      residual_at i = residual o e.element c (coefficients o c (script_of o c r)) public (script_of o c r) messages (held o c rows) i

      residual_few : (Vanish o c public (held o c rows) e.element (script_of o c r) messages → ⊥) → IsOpenedBy o e c public table (q.block + 1) T
      residual_few some = few_by (λ close. by_found close (look o e laws residual_at (depth c + 1)))
        where
          held_long : length (held o c rows) ≡ committed_count c
          held_long = length-map-range_with_len (placed o c rows) 0 (committed_count c)

          by_found : (close : Close o e laws c b public table messages r opening.count ds ds_distinct near T (known_all r messages T opening)) → Found o residual_at (depth c + 1)
              → count (rest o e laws c b public table messages r opening.count ds ds_distinct near T (known_all r messages T opening)) (draws_from ds (all_weights c)) * length ds ≤ 1 * length ds ^ all_weights c
          by_found close (inr none) = absurd (some (λ i h. none i (omega (arith, h))))
          by_found close (inl found) =
              let i = found.0 in
              let h : i < depth c + 1 = found.1.0 in
              let f = first o e laws c b public table messages r opening.count ds ds_distinct near T (known_all r messages T opening) close in
              let g = second o e laws c b public table messages r opening.count ds ds_distinct near T (known_all r messages T opening) close in
              let S = R o e laws c b public table messages r opening.count ds ds_distinct near T (known_all r messages T opening) close in
              let s = script_of o c r in
              let coefficient = coefficient_of o e.element c public s messages in
              let right = right_of o e.element c public s messages in
              let form = residual-form o laws.ring e.element c (coefficients o c s) public s messages i (omega (arith, h)) in
              let is : residual_at i ≡ gap_at o c S coefficient right i =
              form.is (held o c rows) held_long
              ∙ ap (o.plus (o.neg (right i)))
              (sum-ext o laws.ring (committed_count c) (λ j. o.times (coefficient i j) (entry o (held o c rows) j)) (λ j. o.times (coefficient i j) (placed o c S j))
              (λ j l. ap (o.times (coefficient i j)) (get_or-map-range_with_len (placed o c rows) 0 (committed_count c) j j o.zero l (omega arith) ∙ sym (placed_same o e laws c table b near f g j))))
              ∙ laws.ring.plus_comm (o.neg (right i)) (sum_below o (committed_count c) (λ j. o.times (coefficient i j) (placed o c S j)))
              ∙ ap (λ v. cond v (line_gap o c S coefficient right i) (copy_gap o c S (i - (depth c + 1)))) (sym (lt-ltb i (depth c + 1) h)) in
              by_gap o e laws c b public table messages r opening.count ds ds_distinct near T (known_all r messages T opening) close i (omega (arith, h)) (λ none. found.1.1 (is ∙ none))

    products_hold : (s t : ℕ) → s < q.wr → t < q.ntriple → product_gap o c rows s t ≡ o.zero
    products_hold s t h l =
        stable laws.numbers (product_gap o c rows s t) o.zero
        (λ differ. not (nothing (λ r messages T opening. more r messages T opening (product_few r messages T opening s t h l differ))))

    copies_hold : (m : ℕ) → m < 3 * depth c → copy_gap o c rows m ≡ o.zero
    copies_hold m h =
        stable laws.numbers (copy_gap o c rows m) o.zero
        (λ differ. not (nothing (λ r messages T opening. more r messages T opening (copy_few r messages T opening m h differ))))

    target_holds : (target : Target) → IsOf c target → AreZero o (entry o (table_of o c public (held o c rows) target))
    target_holds target is i =
        stable laws.numbers (entry o (table_of o c public (held o c rows) target) i) o.zero
        (λ differ. not (list (held o c rows) target (length-map-range_with_len (placed o c rows) 0 (committed_count c))
        (products_follow o laws.ring c public rows valid copies_hold products_hold) is (λ all. differ (all i))
        (λ r messages T opening some. residual_few r messages T opening some)))

    near_case : ⊥
    near_case =
        unknowing (subst (λ private. IsSatisfied o e.number c.layers (inputs_of o public private)) (sym (read_is o e laws c table valid b near [] []))
        (satisfied_by o laws.ring e.number c public (take c.privates (held o c rows)) valid (target_holds outputs tt) (λ l h. target_holds (assertions l) h)))

  pub weights_few : ⊥
  weights_few = far_case near_case
