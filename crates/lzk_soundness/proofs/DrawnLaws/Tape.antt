-- The draws of a tape are a list of which the count speaks.
use Rattle.std.specs.Prelude.{◌≡◌, ℕ, ◌+◌, ◌-◌, ◌*◌, ◌<◌, ◌≤◌, ◌==◌, cond, Bool, true, false, ◌/◌, ◌%◌, List, [], ◌∷◌, ◌++◌, length, map, flat_map, slice_index, take, drop}
use Rattle.std.specs.List.{range_with_len}
use Rattle.std.proofs.Common.{zero, suc, refl, sym, ap, ◌∙◌, arith, subst, take_at, drop_at, length-append}
use Rattle.std.proofs.lemmas.List.{get_or_append_left, get_or-append-add, ext_get_or}
use Rattle.std.proofs.Math.Nat.{mod-lt, div-lt_iff_lt-mul}
use Rattle.std.proofs.lemmas.Nat.{div-add-mod'}
use Rattle.std.proofs.lemmas.List.FromFn.{get_or-map-range_with_len, length-map-range_with_len}
use native.Mathlib.Decide.{dec_lt}
use Rattle.lzk_field.specs.Coding.{Coding}
use Rattle.lzk_field.specs.Ring.{Ops}
use Rattle.lzk_field.specs.Sums.{entry}
use Rattle.lzk_transcript.specs.Tape.{TapeState, drawn, after_draw}
use Rattle.lzk_transcript.specs.Columns.{after_draws, draw_at}
use Rattle.lzk_circuit.specs.Valid.{Wiring}
use Rattle.lzk_layout.specs.Sizes.{params_of}
use Rattle.lzk_layout.specs.Places.{depth, round_count, bits_under, output_bits, sent_at}
use Rattle.lzk_sumcheck.specs.declared.script.LayerScript.{LayerScript}
use Rattle.lzk_sumcheck.specs.declared.script.Script.{Script}
use Rattle.lzk_sumcheck.specs.Draws.{draws}
use Rattle.lzk_sumcheck.specs.Opening.{opening}
use Rattle.lzk_sumcheck.specs.Script.{after_first, round_challenge, after_layers, layer_script, script, after_script, drawn_beta}
use Rattle.lzk_sumcheck.proofs.Prefixes.{map-same}
use Rattle.lzk_accept.specs.declared.challenges.Challenges.{Challenges}
use Rattle.lzk_accept.specs.Challenges.{challenges, transcript}
use Rattle.lzk_soundness.specs.Draws.Schedule.{firsts, drawn_at, draw_count, layer_of, script_of}
use Rattle.lzk_soundness.specs.Whole.Whole.{weight_count}
use Rattle.lzk_soundness.specs.Count.Game.{row_count, whole_count, script_draws, weights_in, column_of}
use Rattle.lzk_soundness.specs.Drawn.Tape.{drawn_in, drawn_before, drawn_script, drawn_whole, who_sends, DrawsAreCounted, PassingIsCounted}
use Rattle.lzk_soundness.proofs.CountLaws.Rows.{entry_of_flat}
use Rattle.lzk_layout.specs.Proofs.{zero_proof}
use Rattle.lzk_soundness.specs.Sumchecks.Passing.{Passes}
use Rattle.lzk_soundness.proofs.CountLaws.Facts.{script_part, linear_part, other_part}

-- one entry, one more where that is so, and the rest
first_length : {A : Type 0} (x y : A) (zs : List A) (b : Bool) → length (x ∷ (cond b (y ∷ []) [] ++ zs)) ≡ cond b 2 1 + length zs
first_length x y zs true = omega arith
first_length x y zs false = omega arith

rest_entry : {A : Type 0} (o : Ops A) (x y : A) (zs : List A) (n : ℕ) (b : Bool) → entry o (x ∷ (cond b (y ∷ []) [] ++ zs)) (cond b 2 1 + n) ≡ entry o zs n
rest_entry o x y zs n true =
    let z : 2 + n ≡ length (x ∷ y ∷ []) + n = omega arith in
    ap (entry o (x ∷ y ∷ zs)) z ∙ get_or-append-add (x ∷ y ∷ []) zs n o.zero
rest_entry o x y zs n false =
    let z : 1 + n ≡ length (x ∷ []) + n = omega arith in
    ap (entry o (x ∷ zs)) z ∙ get_or-append-add (x ∷ []) zs n o.zero

module _ {A : Type 0} (o : Ops A) (e : Coding A) (messages : List A) (c : Wiring A) (t : TapeState) where
  -- the tape behind the first layers
  abbrev behind : ℕ → TapeState
  behind l = after_layers o e messages c l (after_draws (output_bits c) t)

  abbrev before : ℕ → List A
  before = drawn_before o e messages c t

  abbrev inside : ℕ → List A
  inside l = drawn_in o e messages c l (behind l)

  abbrev round : ℕ → ℕ → A
  round l = round_challenge o e messages (sent_at c l) (after_first c.version (behind l))

  abbrev whole : List A
  whole = drawn_script o e messages c t

  length_inside : (l : ℕ) → length (inside l) ≡ firsts c + round_count c l
  length_inside l =
      first_length (e.element (drawn (behind l))) (e.element (drawn (after_draw (behind l)))) (map (round l) (range_with_len 0 (round_count c l))) (c.version == 2)
      ∙ ap (λ (n : ℕ). firsts c + n) (length-map-range_with_len (round l) 0 (round_count c l))

  length_before : (l : ℕ) → length (before l) ≡ drawn_at c l
  length_before zero = length-map-range_with_len (λ i. e.element (draw_at i t)) 0 (output_bits c)
  length_before (suc l) = length-append (before l) (inside l) ∙ omega (arith, length_before l, length_inside l)

  pub length_script : length whole ≡ draw_count c
  length_script = length-append (before (depth c)) (e.element (drawn (behind (depth c))) ∷ []) ∙ omega (arith, length_before (depth c))

  grows : (n l : ℕ) → l ≤ n → drawn_at c l ≤ drawn_at c n
  grows zero l h = let z : l ≡ 0 = omega (arith, h) in omega (arith, ap (drawn_at c) z)
  grows (suc n) l h = elim (dec_lt l (suc n)) [
    | yes less ↦ omega (arith, grows n l (omega (arith, less)))
    | no not ↦ let z : l ≡ suc n = omega (arith, h, not) in omega (arith, ap (drawn_at c) z)
  ]

  -- what stands before a layer's draws stays
  kept : (n l k : ℕ) → l ≤ n → k < drawn_at c l → entry o (before n) k ≡ entry o (before l) k
  kept zero l k h less = let z : 0 ≡ l = omega (arith, h) in ap (λ m. entry o (before m) k) z
  kept (suc n) l k h less = elim (dec_lt l (suc n)) [
    | yes low ↦
        get_or_append_left (before n) (inside n) o.zero k (omega (arith, length_before n, less, grows n l (omega (arith, low))))
        ∙ kept n l k (omega (arith, low)) less
    | no not ↦ let z : suc n ≡ l = omega (arith, h, not) in ap (λ m. entry o (before m) k) z
  ]

  -- the k-th draw of layer l
  layer_entry : (l k : ℕ) → l < depth c → k < firsts c + round_count c l → entry o whole (drawn_at c l + k) ≡ entry o (inside l) k
  layer_entry l k h less =
      let place : drawn_at c l + k ≡ length (before l) + k = omega (arith, length_before l) in
      get_or_append_left (before (depth c)) (e.element (drawn (behind (depth c))) ∷ []) o.zero (drawn_at c l + k) (omega (arith, length_before (depth c), less, grows (depth c) (suc l) (omega (arith, h))))
      ∙ kept (depth c) (suc l) (drawn_at c l + k) (omega (arith, h)) (omega (arith, less))
      ∙ ap (entry o (before l ++ inside l)) place ∙ get_or-append-add (before l) (inside l) k o.zero

  one_first : 1 ≤ firsts c
  one_first = go (c.version == 2)
    where
      go : (b : Bool) → 1 ≤ cond b 2 1
      go true = omega arith
      go false = omega arith

  alpha_is : (l : ℕ) → l < depth c → entry o whole (drawn_at c l) ≡ e.element (drawn (behind l))
  alpha_is l h =
      let z : drawn_at c l ≡ drawn_at c l + 0 = omega arith in
      ap (entry o whole) z ∙ layer_entry l 0 h (omega (arith, one_first))

  beta_is : (l : ℕ) → l < depth c → cond (c.version == 2) (entry o whole (drawn_at c l + 1)) o.zero ≡ cond (c.version == 2) (e.element (drawn (after_draw (behind l)))) o.zero
  beta_is l h = go (c.version == 2) refl
    where
      y : A
      y = e.element (drawn (after_draw (behind l)))

      go : (b : Bool) → (c.version == 2) ≡ b → cond b (entry o whole (drawn_at c l + 1)) o.zero ≡ cond b (e.element (drawn (after_draw (behind l)))) o.zero
      go false is = refl
      go true is =
          layer_entry l 1 h (omega (arith, ap {B = ℕ} (λ (b : Bool). cond b 2 1) is))
          ∙ ap (λ (b : Bool). entry o (e.element (drawn (behind l)) ∷ (cond b (e.element (drawn (after_draw (behind l))) ∷ []) [] ++ map (round l) (range_with_len 0 (round_count c l)))) 1) is

  challenge_is : (l n : ℕ) → l < depth c → n < round_count c l → entry o whole (drawn_at c l + firsts c + n) ≡ round l n
  challenge_is l n h less =
      let z : drawn_at c l + firsts c + n ≡ drawn_at c l + (firsts c + n) = omega arith in
      ap (entry o whole) z ∙ layer_entry l (firsts c + n) h (omega (arith, less))
      ∙ rest_entry o (e.element (drawn (behind l))) (e.element (drawn (after_draw (behind l)))) (map (round l) (range_with_len 0 (round_count c l))) n (c.version == 2)
      ∙ get_or-map-range_with_len (round l) 0 (round_count c l) n n o.zero less (omega arith)

  layer_is : (l : ℕ) → l < depth c → layer_of o c whole l ≡ layer_script o e messages c.version (sent_at c l) (bits_under c l) (behind l)
  unfolding layer_script drawn_beta
  layer_is l h =
      let make : A → A → List A → List A → LayerScript A = λ a b p q. record { alpha = a; beta = b; ra = p; rb = q } in
      let D = drawn_at c l + firsts c in
      let n = bits_under c l in
      let beta = cond (c.version == 2) (entry o whole (drawn_at c l + 1)) o.zero in
      let beta' = cond (c.version == 2) (e.element (drawn (after_draw (behind l)))) o.zero in
      let p = map (λ j. entry o whole (D + 2 * j)) (range_with_len 0 n) in
      let q = map (λ j. entry o whole (D + (2 * j + 1))) (range_with_len 0 n) in
      let p' = map (λ j. round l (2 * j)) (range_with_len 0 n) in
      ap (λ a. make a beta p q) (alpha_is l h)
      ∙ ap (λ b. make (e.element (drawn (behind l))) b p q) (beta_is l h)
      ∙ ap (λ p. make (e.element (drawn (behind l))) beta' p q) (map-same (λ j. entry o whole (D + 2 * j)) (λ j. round l (2 * j)) 0 n (λ j k. challenge_is l (2 * j) h (omega (arith, k))))
      ∙ ap (make (e.element (drawn (behind l))) beta' p') (map-same (λ j. entry o whole (D + (2 * j + 1))) (λ j. round l (2 * j + 1)) 0 n (λ j k. challenge_is l (2 * j + 1) h (omega (arith, k))))

  point_is : (j : ℕ) → j < output_bits c → entry o whole j ≡ e.element (draw_at j t)
  point_is j h =
      get_or_append_left (before (depth c)) (e.element (drawn (behind (depth c))) ∷ []) o.zero j (omega (arith, length_before (depth c), h, grows (depth c) 0 (omega arith)))
      ∙ kept (depth c) 0 j (omega arith) h
      ∙ get_or-map-range_with_len (λ i. e.element (draw_at i t)) 0 (output_bits c) j j o.zero h (omega arith)

  gamma_is : entry o whole (drawn_at c (depth c)) ≡ e.element (drawn (behind (depth c)))
  gamma_is =
      let z : drawn_at c (depth c) ≡ length (before (depth c)) + 0 = omega (arith, length_before (depth c)) in
      ap (entry o whole) z ∙ get_or-append-add (before (depth c)) (e.element (drawn (behind (depth c))) ∷ []) 0 o.zero

  pub script_is : script_of o c whole ≡ script o e messages c t
  unfolding script
  script_is =
      let make : List A → List (LayerScript A) → A → Script A = λ p ls x. record { out_point = p; layers = ls; gamma = x } in
      let ls = map (layer_of o c whole) (range_with_len 0 (depth c)) in
      let g : ℕ → LayerScript A = λ l. layer_script o e messages c.version (sent_at c l) (bits_under c l) (behind l) in
      ap (λ p. make p ls (entry o whole (drawn_at c (depth c)))) (map-same (λ j. entry o whole j) (λ j. e.element (draw_at j t)) 0 (output_bits c) (λ j k. point_is j (omega (arith, k))))
      ∙ ap (λ ls. make (draws e 0 (output_bits c) t) ls (entry o whole (drawn_at c (depth c)))) (map-same (layer_of o c whole) g 0 (depth c) (λ l k. layer_is l (omega (arith, k))))
      ∙ ap (make (draws e 0 (output_bits c) t) (map g (range_with_len 0 (depth c)))) gamma_is

module _ {A : Type 0} (o : Ops A) (c : Wiring A) (script lambda mu u v : List A) (ls : length script ≡ draw_count c) (ll : length lambda ≡ depth c + 1) (lm : length mu ≡ 3 * depth c) (lu : length u ≡ row_count c)
    (lv : length v ≡ (params_of c).ntriple) where
  abbrev all : List A
  all = (script ++ (lambda ++ mu)) ++ (u ++ v)

  both : length (lambda ++ mu) ≡ weight_count c
  both = length-append lambda mu ∙ omega (arith, ll, lm)

  front : length (script ++ (lambda ++ mu)) ≡ draw_count c + weight_count c
  front = length-append script (lambda ++ mu) ∙ omega (arith, ls, both)

  pub all_long : length all ≡ whole_count c
  all_long = length-append (script ++ (lambda ++ mu)) (u ++ v) ∙ omega (arith, front, length-append u v, lu, lv)

  pub script_there : script_draws c all ≡ script
  script_there = script_part c (script ++ (lambda ++ mu)) (u ++ v) front ∙ take_at script (lambda ++ mu) (draw_count c) ls

  pub weights_there : weights_in c all ≡ record { u = u; lambda = lambda; mu = mu; v = v }
  weights_there =
      let make : List A → List A → List A → List A → Challenges A = λ a b c d. record { u = a; lambda = b; mu = c; v = d } in
      let linear : take (weight_count c) (drop (draw_count c) all) ≡ lambda ++ mu = linear_part c (script ++ (lambda ++ mu)) (u ++ v) front ∙ drop_at script (lambda ++ mu) (draw_count c) ls in
      let others : drop (draw_count c + weight_count c) all ≡ u ++ v = other_part c (script ++ (lambda ++ mu)) (u ++ v) front in
      ap (λ xs. make (take (row_count c) xs) (weights_in c all).lambda (weights_in c all).mu (drop (row_count c) xs)) others
      ∙ ap (λ xs. make (take (row_count c) (u ++ v)) (take (depth c + 1) xs) (drop (depth c + 1) xs) (drop (row_count c) (u ++ v))) linear
      ∙ ap (λ a. make a (take (depth c + 1) (lambda ++ mu)) (drop (depth c + 1) (lambda ++ mu)) (drop (row_count c) (u ++ v))) (take_at u v (row_count c) lu)
      ∙ ap (λ b. make u b (drop (depth c + 1) (lambda ++ mu)) (drop (row_count c) (u ++ v))) (take_at lambda mu (depth c + 1) ll)
      ∙ ap (λ x. make u lambda x (drop (row_count c) (u ++ v))) (drop_at lambda mu (depth c + 1) ll)
      ∙ ap (make u lambda mu) (drop_at u v (row_count c) lu)

pub draws_counted : {A : Type 0} (o : Ops A) (e : Coding A) → DrawsAreCounted o e
unfolding transcript challenges
draws_counted {A} o e c session id public proof =
    let start = opening e session id public proof.root in
    let ch = challenges e (params_of c) (after_script o e proof.messages c start) in
    let S = drawn_script o e proof.messages c start in
    let long = length_script o e proof.messages c start in
    let at : ℕ → A = λ i. e.element (draw_at i (after_script o e proof.messages c start)) in
    let rows = (params_of c).nrow - 3 in
    let lines = (params_of c).layers + 1 in
    let squares = 3 * (params_of c).layers in
    let lu = length-map-range_with_len at 0 rows in
    let ll = length-map-range_with_len at rows lines in
    let lm = length-map-range_with_len at (rows + lines) squares in
    let lv = length-map-range_with_len at (rows + lines + squares) (params_of c).ntriple in
    record {
      count = all_long o c S ch.lambda ch.mu ch.u ch.v long ll lm lu lv;
      script = ap (script_of o c) (script_there o c S ch.lambda ch.mu ch.u ch.v long ll lm lu lv) ∙ script_is o e proof.messages c start;
      weights = weights_there o c S ch.lambda ch.mu ch.u ch.v long ll lm lu lv;
    }

length_of_flat : {A : Type 0} (f : ℕ → List A) (n : ℕ) (js : List ℕ) → ((j : ℕ) → length (f j) ≡ n) → length (flat_map f js) ≡ length js * n
length_of_flat f n [] same = omega arith
length_of_flat f n (j ∷ js) same = length-append (f j) (flat_map f js) ∙ omega (arith, same j, length_of_flat f n js same)

-- a list that has columns one after the other is that of these columns
flat_is : {A : Type 0} (o : Ops A) (f : ℕ → List A) (n : ℕ) (js : List ℕ) (xs : List A) → 1 ≤ n → ((j : ℕ) → length (f j) ≡ n) → length xs ≡ length js * n
    → ((k i : ℕ) → k < length js → i < n → entry o xs (k * n + i) ≡ entry o (f (slice_index js k)) i) → flat_map f js ≡ xs
flat_is o f n js xs some same long each =
    let size = length_of_flat f n js same in
    ext_get_or o.zero (flat_map f js) xs (size ∙ sym long)
    (λ x h.
    let parts : x / n * n + x % n ≡ x = div-add-mod' x n in
    let low : x / n < length js = (div-lt_iff_lt-mul {k = n} {x = x} {y = length js} (omega (arith, some))).1 (omega (arith, h, size)) in
    let rest : x % n < n = mod-lt x some in
    ap (entry o (flat_map f js)) (sym parts) ∙ entry_of_flat o f n js (x / n) (x % n) same low rest ∙ sym (each (x / n) (x % n) low rest) ∙ ap (entry o xs) parts)

pub passing_counted : {A : Type 0} (o : Ops A) (e : Coding A) → PassingIsCounted o e
passing_counted {A} o e c session id public proof table opened passes =
    let p = params_of c in
    let t = transcript o e c session id public proof in
    let whole = drawn_whole o e proof.messages c (opening e session id public proof.root) t.challenges in
    let counted = draws_counted o e c session id public proof in
    let f : ℕ → List A = column_of o c (who_sends proof table) in
    let Q : Script A → Challenges A → List A → Type 0 =
    λ s ch cells. Passes o e c public s ch t.columns (record (zero_proof o p) { messages = proof.messages; ldt = proof.ldt; dot = proof.dot; quad_head = proof.quad_head; quad_tail = proof.quad_tail; columns = cells }) in
    let here : Q t.script t.challenges proof.columns = record {
      messages = passes.messages;
      ldt = passes.ldt;
      dot = passes.dot;
      quad_head = passes.quad_head;
      quad_tail = passes.quad_tail;
      opened = passes.opened;
      low_degree = passes.low_degree;
      linear_sum = passes.linear_sum;
      linear = passes.linear;
      quadratic = passes.quadratic;
    } in
    let cells : flat_map f t.columns ≡ proof.columns =
    flat_is o f p.nrow t.columns proof.columns (omega arith) (λ j. length-map-range_with_len (λ i. table i j) 0 p.nrow) passes.opened
    (λ k i h l. opened.values k i h l ∙ sym (get_or-map-range_with_len (λ i. table i (slice_index t.columns k)) 0 p.nrow i i o.zero l (omega arith))) in
    subst (λ s. Q s (weights_in c whole) (flat_map f t.columns)) (sym counted.script)
    (subst (λ ch. Q t.script ch (flat_map f t.columns)) (sym counted.weights)
    (subst (λ xs. Q t.script t.challenges xs) (sym cells) here))
