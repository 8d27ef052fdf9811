-- A table that is near codewords: weights behind which there are answers that are let through often are few.
use Rattle.lzk_profile.specs.Profile.{opened_count}
use Rattle.std.specs.Prelude.{◌≡◌, ◌≢◌, ℕ, ◌+◌, ◌-◌, ◌*◌, ◌^◌, ◌<◌, ◌≤◌, ◌&&◌, cond, nat_lt, Bool, true, false, List, [], ◌++◌, length, take, drop, replicate}
use Rattle.std.proofs.Common.{refl, sym, ap, ◌∙◌, arith, subst, add-mul, mul-le-mul_right, zero-mul, take_at, drop_at, length-append, append_assoc}
use Rattle.std.proofs.lemmas.Bool.{false≢true, lt-ltb, le-ltb}
use Rattle.std.proofs.lemmas.List.{get_or-take, get_or-drop, length-replicate, length-take-le, length-drop, take-append-drop}
use native.Mathlib.Decide.{dec_lt}
use Rattle.lzk_field.specs.Coding.{Coding}
use Rattle.lzk_field.specs.Ring.{Ops, Laws}
use Rattle.lzk_field.specs.Sums.{entry}
use Rattle.lzk_field.proofs.SumLaws.{sum-ext}
use Rattle.lzk_soundness.specs.Chance.Draws.{count, draws_from}
use Rattle.lzk_soundness.specs.Chance.Few.{AreDistinct}
use Rattle.lzk_soundness.proofs.ChanceLaws.Lists.{all_long, all_of, count_more}
use Rattle.lzk_circuit.specs.Valid.{Wiring}
use Rattle.lzk_layout.specs.declared.params.Params.{Params}
use Rattle.lzk_layout.specs.Sizes.{AreBounded, params_of}
use Rattle.lzk_layout.specs.Places.{depth}
use Rattle.lzk_accept.specs.Checks.{coefficient_of, right_of}
use Rattle.lzk_ligero_answers.specs.Opened.{AreOpened, element}
use Rattle.lzk_soundness.specs.Draws.Schedule.{draw_count, script_of}
use Rattle.lzk_soundness.specs.Rows.Weights.{combination}
use Rattle.lzk_soundness.specs.Rows.Held.{second_sum, product_gap}
use Rattle.lzk_soundness.proofs.RowsLaws.Rows.{linear_total, quadratic_total}
use Rattle.lzk_soundness.proofs.WeightsLaws.Weights.{combinations_few}
use Rattle.lzk_soundness.specs.Whole.Whole.{weight_count, gap_at, weight_at}
use Rattle.lzk_soundness.proofs.WholeLaws.Joining.{gaps_join}
use Rattle.lzk_soundness.specs.Near.Near.{AreClose}
use Rattle.lzk_soundness.specs.Tables.Table.{place, IsNear}
use Rattle.lzk_soundness.specs.Count.Game.{Strategy, row_count, whole_count, script_draws, weights_in, shown}
use Rattle.lzk_soundness.proofs.CountLaws.Facts.{AreTooMany, lengths_of, script_part, linear_part, other_part}
use Rattle.lzk_soundness.proofs.CountLaws.Fronts.{found, front, behind, fronts_few, backs_few, either_counts}
use Rattle.lzk_soundness.proofs.CountLaws.Made.{made_are}
use Rattle.lzk_soundness.proofs.CountLaws.Near.{hides_some, few_hide, and_left, and_right}
use Rattle.lzk_soundness.proofs.CountLaws.Rows.{rows, second_close, third_close, dot_right, quad_right, coefficient, right, quads}
use Rattle.lzk_soundness.specs.Ligero.States.{Answers, sends, all_weights}

-- the contrary
abbrev pub flip_of : Bool → Bool
flip_of b = cond b false true

flipped : (b : Bool) → flip_of b ≡ true → b ≡ false
flipped true is = absurd (false≢true is)
flipped false is = refl

module _ {A : Type 0} (o : Ops A) (e : Coding A) (laws : Laws o e.size e.number e.element e.bytes) (c : Wiring A) (b : AreBounded (params_of c)) (public : List A) (table : ℕ → ℕ → A) (messages r : List A) (lr : length r ≡ draw_count c) (ds : List A) (distinct : AreDistinct ds) where
  abbrev p : Params
  p = params_of c

  abbrev N : ℕ
  N = length ds

  abbrev wc : ℕ
  wc = weight_count c

  abbrev nu : ℕ
  nu = row_count c

  abbrev nv : ℕ
  nv = p.ntriple

  -- what is known of weights
  abbrev pub Known : List A → Type 0
  Known draws = (a : Answers A) × AreTooMany o e laws c b public (sends table messages a) draws

  abbrev u_of : List A → List A
  u_of ws = take nu (drop wc ws)

  module _ (near : IsNear o e.element p table p.block) (T : List A → Bool) (known_of : (ws : List A) → length ws ≡ all_weights c → T ws ≡ true → Known (r ++ ws)) where
    abbrev H : List A → Bool
    H = hides_some o e laws p b table near

    abbrev hides : List A → Bool
    hides ws = H (u_of ws)

    abbrev pub rest : List A → Bool
    rest ws = T ws && flip_of (hides ws)

    hides_few : count hides (draws_from ds (all_weights c)) * N ≤ p.block * N ^ all_weights c
    hides_few =
        backs_few ds hides wc (nu + nv) p.block
        (λ lm ll. fronts_few ds (λ t. hides (lm ++ t)) nu nv p.block
        (let F = front ds (λ t. hides (lm ++ t)) nu nv p.block in
        let more : count F (draws_from ds nu) ≤ count H (draws_from ds nu) =
        count_more F H (draws_from ds nu) (all_of (λ u. length u ≡ nu) (λ u. F u ≡ true → H u ≡ true)
        (λ u lu is.
        (let found = behind ds (λ t. hides (lm ++ t)) nu nv p.block u is in
        let same : u_of (lm ++ (u ++ found.0)) ≡ u = ap (take nu) (drop_at lm (u ++ found.0) wc ll) ∙ take_at u found.0 nu lu in
        sym (ap H same) ∙ found.1.1)) (draws_from ds nu) (all_long ds nu)) in
        omega (arith, mul-le-mul_right N more, few_hide o e laws p b table near ds distinct)))

    -- ---- weights that hide nothing

    module _ (lm t : List A) (ll : length lm ≡ wc) (lt : length t ≡ nu + nv) (is : rest (lm ++ t) ≡ true) where
      abbrev draws : List A
      draws = (r ++ lm) ++ t

      lx : length (r ++ lm) ≡ draw_count c + wc
      lx = length-append r lm ∙ omega (arith, lr, ll)

      long : length draws ≡ whole_count c
      long = length-append (r ++ lm) t ∙ omega (arith, lx, lt)

      facts : Known draws
      facts = subst Known (sym (append_assoc r lm t)) (known_of (lm ++ t) (length-append lm t ∙ omega (arith, ll, lt)) (and_left (T (lm ++ t)) (flip_of (hides (lm ++ t))) is))

      good : H (weights_in c draws).u ≡ false
      good =
          ap (λ xs. H (take nu xs)) (other_part c (r ++ lm) t lx ∙ sym (drop_at lm t wc ll))
          ∙ flipped (hides (lm ++ t)) (and_right (T (lm ++ t)) (flip_of (hides (lm ++ t))) is)

      abbrev strategy : Strategy A
      strategy = sends table messages facts.0

      quads_long : length (quads o e laws c b public strategy draws) ≡ p.dblock
      quads_long =
          let head = facts.0.quad_head in
          let tail = facts.0.quad_tail in
          let middle = replicate (p.block - opened_count) o.zero in
          omega (arith, length-append (head ++ middle) tail, length-append head middle, length-replicate (p.block - opened_count) o.zero, facts.1.passed.quad_head, facts.1.passed.quad_tail, b.block, b.dblock)

    -- what one list of such weights shows of rows 1 and 2
    pub record Close : Type 0 where
      pub second : AreClose o (place o e.element p table) p.dblock p.mcol p.block 1 (λ i. table 1)
      pub third : AreClose o (place o e.element p table) p.dblock p.mcol p.block 1 (λ i. table 2)

    pub close_of : (lm t : List A) → length lm ≡ wc → length t ≡ nu + nv → rest (lm ++ t) ≡ true → Close
    close_of lm t ll lt is =
        let known = facts lm t ll lt is in
        record {
          second = second_close o e laws c b public (strategy lm t ll lt is) near [] [] (omega arith) (omega arith) (draws lm t ll lt is) known.1.few known.1.passed.ldt (good lm t ll lt is) known.1.passed.dot;
          third = third_close o e laws c b public (strategy lm t ll lt is) near [] [] (omega arith) (omega arith) (draws lm t ll lt is) known.1.few known.1.passed.ldt (good lm t ll lt is) (quads_long lm t ll lt is);
        }

    module _ (close : Close) where
      abbrev pub first : List A
      first = close.second.code 0

      abbrev pub second : List A
      second = close.third.code 0

      pub short : length first ≤ p.dblock
      short = close.second.short 0 (omega arith)

      pub brief : length second ≤ p.dblock
      brief = close.third.short 0 (omega arith)

      abbrev pub R : List (List A)
      R = rows o e laws c b public (sends table messages (record { ldt = []; dot = []; quad_head = []; quad_tail = [] })) near first second short brief

      abbrev seconds : A
      seconds = second_sum o c R

      abbrev pub gaps : ℕ → A
      gaps = gap_at o c R (coefficient_of o e.element c public (script_of o c r) messages) (right_of o e.element c public (script_of o c r) messages)

      weight_is : (lm : List A) (k : ℕ) → k < wc → length lm ≡ wc
          → cond (nat_lt k (depth c + 1)) (entry o (take (depth c + 1) lm) k) (entry o (drop (depth c + 1) lm) (k - (depth c + 1))) ≡ entry o lm k
      weight_is lm k h long = elim (dec_lt k (depth c + 1)) [
        | yes l ↦ ap (λ x. cond x (entry o (take (depth c + 1) lm) k) (entry o (drop (depth c + 1) lm) (k - (depth c + 1)))) (lt-ltb k (depth c + 1) l) ∙ get_or-take (depth c + 1) lm k o.zero l
        | no l ↦
            let z : depth c + 1 + (k - (depth c + 1)) ≡ k = omega (arith, l) in
            ap (λ x. cond x (entry o (take (depth c + 1) lm) k) (entry o (drop (depth c + 1) lm) (k - (depth c + 1)))) (le-ltb k (depth c + 1) (omega (arith, l)))
            ∙ get_or-drop (depth c + 1) lm (k - (depth c + 1)) o.zero ∙ ap (entry o lm) z
      ]

      module _ (lm t : List A) (ll : length lm ≡ wc) (lt : length t ≡ nu + nv) (is : rest (lm ++ t) ≡ true) where
        abbrev D : List A
        D = (r ++ lm) ++ t

        abbrev S : Strategy A
        S = sends table messages (facts lm t ll lt is).0

        opens : AreOpened o e.element p R (shown o c S D (facts lm t ll lt is).1.columns) []
        opens = record { values = λ k i h l. absurd (omega (arith, h)) }

        -- what the linear answer's sum says
        line_zero : combination o seconds (gap_at o c R (coefficient o e laws c b public S D) (right o e laws c b public S D)) (weight_at o c (weights_in c D)) wc ≡ o.zero
        line_zero =
            let known = (facts lm t ll lt is).1 in
            let ch = weights_in c D in
            let proof = shown o c S D known.columns in
            let right_one : S.dot D ≡ _ =
            dot_right o e laws c b public S near first second short brief D known.few known.passed.ldt (good lm t ll lt is) known.passed.dot close.second (λ x. refl) in
            gaps_join o laws.ring c R (coefficient o e laws c b public S D) (right o e laws c b public S D) ch
            ∙ linear_total o e laws c (coefficient o e laws c b public S D) (right o e laws c b public S D) ch R proof [] b
            (made_are laws p table b near first second) opens (lengths_of o e c public S D known.columns known.size known.passed) right_one known.passed.linear_sum

        sum_zero : combination o seconds gaps (entry o lm) wc ≡ o.zero
        sum_zero =
            let x = lx lm t ll lt is in
            let script : script_draws c D ≡ r = script_part c (r ++ lm) t x ∙ take_at r lm (draw_count c) lr in
            let line : take wc (drop (draw_count c) D) ≡ lm = linear_part c (r ++ lm) t x ∙ drop_at r lm (draw_count c) lr in
            let G : List A → ℕ → A = λ s. gap_at o c R (coefficient_of o e.element c public (script_of o c s) messages) (right_of o e.element c public (script_of o c s) messages) in
            subst (λ s. combination o seconds (G s) (entry o lm) wc ≡ o.zero) script
            (ap (o.plus seconds)
            (sum-ext o laws.ring wc (λ k. o.times (entry o lm k) (G (script_draws c D) k)) (λ k. o.times (weight_at o c (weights_in c D) k) (G (script_draws c D) k))
            (λ k h. ap (λ y. o.times y (G (script_draws c D) k))
            (sym (weight_is lm k h ll) ∙ ap (λ l. cond (nat_lt k (depth c + 1)) (entry o (take (depth c + 1) l) k) (entry o (drop (depth c + 1) l) (k - (depth c + 1)))) (sym line))))
            ∙ line_zero)

        -- what the quadratic answer's zeros say
        triple_zero : (s : ℕ) → s < p.wr → combination o (element o R 2 s) (product_gap o c R s) (entry o (weights_in c D).v) nv ≡ o.zero
        triple_zero s h =
            let known = (facts lm t ll lt is).1 in
            let ch = weights_in c D in
            let proof = shown o c S D known.columns in
            let right_one : quads o e laws c b public S D ≡ _ =
            quad_right o e laws c b public S near first second short brief D known.few known.passed.ldt (good lm t ll lt is) (quads_long lm t ll lt is) close.third (λ x. refl) in
            quadratic_total o e laws c (coefficient o e laws c b public S D) (right o e laws c b public S D) ch R proof [] b
            (made_are laws p table b near first second) opens (lengths_of o e c public S D known.columns known.size known.passed) right_one s h

      -- a gap that is not 0
      pub by_gap : (i : ℕ) → i < wc → gaps i ≢ o.zero → count rest (draws_from ds (all_weights c)) * N ≤ 1 * N ^ all_weights c
      by_gap i h some =
          fronts_few ds rest wc (nu + nv) 1
          (let few = combinations_few laws seconds gaps wc i (front ds rest wc (nu + nv) 1) ds h some
          (λ lm ll is. (let found = behind ds rest wc (nu + nv) 1 lm is in sum_zero lm found.0 ll found.1.0 found.1.1)) distinct in
          omega (arith, few))

      -- a triple that is no product
      pub by_product : (s t : ℕ) → s < p.wr → t < nv → product_gap o c R s t ≢ o.zero → count rest (draws_from ds (all_weights c)) * N ≤ 1 * N ^ all_weights c
      by_product s t h l some =
          backs_few ds rest wc (nu + nv) 1
          (λ lm ll. backs_few ds (λ z. rest (lm ++ z)) nu nv 1
          (λ u lu.
          let few = combinations_few laws (element o R 2 s) (product_gap o c R s) nv t (λ v. rest (lm ++ (u ++ v))) ds l some
          (λ v lv is.
          let lt : length (u ++ v) ≡ nu + nv = length-append u v ∙ omega (arith, lu, lv) in
          let v_is : (weights_in c ((r ++ lm) ++ (u ++ v))).v ≡ v = ap (drop nu) (other_part c (r ++ lm) (u ++ v) (lx lm (u ++ v) ll lt is)) ∙ drop_at u v nu lu in
          ap (λ ws. combination o (element o R 2 s) (product_gap o c R s) (entry o ws) nv) (sym v_is) ∙ triple_zero lm (u ++ v) ll lt is s h) distinct in
          omega (arith, few)))

    -- ---- all together

    pub near_few : count rest (draws_from ds (all_weights c)) * N ≤ 1 * N ^ all_weights c → count T (draws_from ds (all_weights c)) * N ≤ (p.block + 1) * N ^ all_weights c
    near_few few =
        let all = draws_from ds (all_weights c) in
        let both = either_counts T hides rest all (λ ws is not. both_true (T ws) (hides ws) is not) in
        let whole = mul-le-mul_right N both in
        omega (arith, whole, add-mul (count hides all) (count rest all) N, hides_few, few, add-mul p.block 1 (N ^ all_weights c))
      where
        both_true : (x y : Bool) → x ≡ true → y ≡ false → (x && flip_of y) ≡ true
        both_true true false q r = refl
        both_true true true q r = absurd (false≢true (sym r))
        both_true false y q r = absurd (false≢true q)

    -- few remain, if one shows what rows 1 and 2 are
    pub rest_few : ((close : Close) → count rest (draws_from ds (all_weights c)) * N ≤ 1 * N ^ all_weights c) → count rest (draws_from ds (all_weights c)) * N ≤ 1 * N ^ all_weights c
    rest_few by_close = elim (dec_lt 0 (count rest (draws_from ds (all_weights c)))) [
      | no none ↦ (let zero_count : count rest (draws_from ds (all_weights c)) ≡ 0 = omega (arith, none) in omega (arith, ap (λ (m : ℕ). m * N) zero_count, zero-mul N))
      | yes some ↦
          let one = found (λ ws. length ws ≡ all_weights c) rest (draws_from ds (all_weights c)) (all_long ds (all_weights c)) some in
          let ws = one.0 in
          let whole : take wc ws ++ drop wc ws ≡ ws = take-append-drop wc ws in
          by_close (close_of (take wc ws) (drop wc ws) (length-take-le wc ws (omega (arith, one.1.0))) (length-drop wc ws ∙ omega (arith, one.1.0)) (ap rest whole ∙ one.1.1))
    ]
