-- The one count: by few of all lists of draws and sets of columns passes whoever has not committed to satisfying inputs.
use Rattle.lzk_shares.specs.Shares.{least_size}
use Rattle.lzk_profile.specs.Profile.{opened_count}
use Rattle.std.specs.Prelude.{◌≡◌, ℕ, ◌+◌, ◌-◌, ◌*◌, ◌^◌, ◌<◌, ◌≤◌, Bool, true, false, List, ◌++◌, length, slice_index_or}
use Rattle.std.specs.List.{range_with_len}
use Rattle.std.proofs.Common.{sym, ap, ◌∙◌, arith, subst, add-mul, mul_assoc, mul_comm, mul-le-mul_right, pow-add, take_at, length-append}
use Rattle.std.proofs.lemmas.Bool.{ltb-true}
use Rattle.std.proofs.lemmas.List.FromFn.{length-range_with_len}
use native.Mathlib.Decide.{dec_lt}
use Rattle.lzk_field.specs.Coding.{Coding}
use Rattle.lzk_field.specs.Ring.{Ops, Laws}
use Rattle.lzk_field.specs.Sums.{entry}
use Rattle.lzk_soundness.specs.Chance.Draws.{count, draws_from}
use Rattle.lzk_soundness.specs.Chance.Sets.{sets_of, choose, count_pairs}
use Rattle.lzk_soundness.proofs.ChanceLaws.Counting.{length-draws}
use Rattle.lzk_soundness.proofs.ChanceLaws.Lists.{all_long, all_of}
use Rattle.lzk_soundness.proofs.ChanceLaws.Sets.{pairs_few, sets_counted}
use Rattle.lzk_soundness.proofs.ChanceLaws.Splitting.{two_parts}
use Rattle.lzk_circuit.specs.Valid.{Wiring}
use Rattle.lzk_circuit.specs.Wires.{inputs_of}
use Rattle.lzk_circuit.specs.Checks.{checks_of}
use Rattle.lzk_layout.specs.declared.params.Params.{Params}
use Rattle.lzk_layout.specs.Sizes.{AreBounded, params_of, committed_count}
use Rattle.lzk_layout.specs.Places.{depth}
use Rattle.lzk_layout.proofs.SizeLaws.{params_bounded}
use Rattle.lzk_sumcheck.specs.Coefficients.{coefficients}
use Rattle.lzk_accept.specs.Residuals.{residual}
use Rattle.lzk_soundness.specs.Sumchecks.Bad.{AreZero}
use Rattle.lzk_soundness.specs.Sumchecks.Claims.{HasProducts, Vanish}
use Rattle.lzk_soundness.proofs.SumchecksLaws.Bindings.{stable}
use Rattle.lzk_soundness.specs.Draws.Schedule.{draw_count, script_of}
use Rattle.lzk_soundness.specs.Draws.Game.{Target, table_of}
use Rattle.lzk_soundness.specs.Draws.Laws.{most, IsForger, IsOf}
use Rattle.lzk_soundness.proofs.DrawsLaws.Forgers.{forgers_few}
use Rattle.lzk_soundness.proofs.DrawsLaws.Looking.{is_none, none_from, some_from, look}
use Rattle.lzk_soundness.specs.Extract.Extraction.{all_elements, extracted}
use Rattle.lzk_soundness.proofs.ExtractLaws.Decoding.{extracted_count}
use Rattle.lzk_soundness.specs.Count.Game.{Strategy, whole_count, script_draws, IsPassed}
use Rattle.lzk_soundness.specs.Count.Laws.{Encodes, IsFalse, IsBluff, IsCheat, bad_count, PassersKnow, BluffsAreRare, FalseIsRare}
use Rattle.lzk_soundness.proofs.CountLaws.Bound.{most_most}
use Rattle.lzk_soundness.proofs.CountLaws.Elements.{elements_all}
use Rattle.lzk_soundness.proofs.CountLaws.Facts.{too_many, few_sets, most_sets, sets}
use Rattle.lzk_soundness.proofs.CountLaws.Fronts.{backs_few}
use Rattle.lzk_soundness.specs.Ligero.States.{Answers, sends, all_weights, IsOpen}
use Rattle.lzk_soundness.specs.Ligero.Laws.{IsOpening, IsOpenedBy, Held}
use Rattle.lzk_soundness.specs.Ligero.Laws.Held.{nothing, list}
use Rattle.lzk_soundness.proofs.LigeroLaws.Weights.{weights_few}

-- of x, Q have a bad first part, of which there are few, and B in each N of the others are bad
join_parts : (x Q N S R most B : ℕ) → x * N ≤ Q * (S * N) + R * (B * S) → Q * N ≤ most * R → x * N ≤ (most + B) * (R * S)
join_parts x Q N S R most B split few =
    let turned : Q * (S * N) ≡ Q * N * S = ap (λ (k : ℕ). Q * k) (mul_comm S N) ∙ sym (mul_assoc Q N S) in
    let up : Q * N * S ≤ most * R * S = mul-le-mul_right S few in
    let back : R * (B * S) ≡ B * (R * S) = sym (mul_assoc R B S) ∙ ap (λ (k : ℕ). k * S) (mul_comm R B) ∙ mul_assoc B R S in
    omega (arith, split, turned, up, mul_assoc most R S, back, add-mul most B (R * S))

module _ {A : Type 0} (o : Ops A) (e : Coding A) (laws : Laws o e.size e.number e.element e.bytes) (c : Wiring A) (public : List A) (strategy : Strategy A) (wins : List A → List ℕ → Bool) (bluff : IsBluff o e c public strategy wins) (large : least_size ≤ e.size) (b : AreBounded (params_of c)) where
  abbrev p : Params
  p = params_of c

  abbrev ds : List A
  ds = all_elements e

  abbrev N : ℕ
  N = length ds

  -- draws of the sumchecks, and weights
  abbrev n : ℕ
  n = draw_count c

  abbrev m : ℕ
  m = all_weights c

  whole_is : n + m ≡ whole_count c
  whole_is = omega arith

  ds_count : N ≡ e.size
  ds_count = (elements_all e laws.numbers).count

  abbrev bad : List A → Bool
  bad = too_many o e laws c b public strategy wins bluff.player

  -- ---- weights behind which he passes often

  abbrev answers_at : List A → Answers A
  answers_at draws = record { ldt = strategy.ldt draws; dot = strategy.dot draws; quad_head = strategy.quad_head draws; quad_tail = strategy.quad_tail draws }

  opened_at : (r ws : List A) → length r ≡ n → length ws ≡ m → bad (r ++ ws) ≡ true → IsOpen o e c public strategy.table (strategy.messages r) (r ++ ws)
  opened_at r ws lr lw is =
      let draws = r ++ ws in
      let script : script_draws c draws ≡ r = take_at r ws n lr in
      let long : length draws ≡ whole_count c = length-append r ws ∙ omega (arith, lr, lw) in
      record {
        answers = answers_at draws;
        passed = record {
          test = wins draws;
          only = λ columns size won.
              subst (λ messages. IsPassed o e c public (sends strategy.table messages (answers_at draws)) draws columns) (ap strategy.messages script)
              (bluff.player.only draws columns long size won);
          often = ltb-true (most_sets o e laws c b public strategy wins bluff.player) (count (wins draws) (sets o e laws c b public strategy wins bluff.player)) is;
        };
      }

  opening : (r : List A) → length r ≡ n → IsOpening o e c public strategy.table r (strategy.messages r) (λ ws. bad (r ++ ws))
  opening r lr = record { count = lr; only = λ ws lw is. opened_at r ws lr lw is }

  sized : (K : ℕ) (test : List A → Bool) → IsOpenedBy o e c public strategy.table K test → count test (draws_from ds m) * N ≤ K * N ^ m
  sized K test few = subst (λ (j : ℕ). count test (draws_from ds m) * j ≤ K * j ^ m) (sym ds_count) few

  -- ---- by what the table holds

  module _ (w : List A) (target : Target) (size : length w ≡ committed_count c) (products : HasProducts o c public w) (is : IsOf c target) (wrong : AreZero o (entry o (table_of o c public w target)) → ⊥) where
    abbrev residual_at : List A → ℕ → A
    residual_at r i = residual o e.element c (coefficients o c (script_of o c r)) public (script_of o c r) (strategy.messages r) w i

    abbrev vanishes : List A → Bool
    vanishes r = is_none o (residual_at r) (depth c + 1) (look o e laws (residual_at r) (depth c + 1))

    few_vanish : count vanishes (draws_from ds n) * N ≤ most c target * N ^ n
    few_vanish =
        let plain : IsForger o e c public w strategy.messages vanishes =
        record {
          valid = bluff.player.valid;
          publics = bluff.player.publics;
          count = size;
          products = products;
          prover = bluff.player.prover;
          only = λ r lr yes_all i h. none_from o (residual_at r) (depth c + 1) (look o e laws (residual_at r) (depth c + 1)) yes_all i (omega (arith, h));
        } in
        forgers_few o e laws c public w strategy.messages vanishes target ds plain is wrong (elements_all e laws.numbers).distinct

    stays : (r : List A) → vanishes r ≡ false → Vanish o c public w e.element (script_of o c r) (strategy.messages r) → ⊥
    stays r other vanish =
        let found = some_from o (residual_at r) (depth c + 1) (look o e laws (residual_at r) (depth c + 1)) other in
        found.1.1 (vanish found.0 (omega (arith, found.1.0)))

  by_held : Held o e c public strategy.table → count bad (draws_from ds (n + m)) * N ≤ bad_count c * N ^ (n + m)
  by_held (nothing few) =
      let all = backs_few ds bad n m (p.block + 2) (λ r lr. sized (p.block + 2) (λ ws. bad (r ++ ws)) (few r (strategy.messages r) (λ ws. bad (r ++ ws)) (opening r lr))) in
      let up : (p.block + 2) * N ^ (n + m) ≤ bad_count c * N ^ (n + m) = mul-le-mul_right (N ^ (n + m)) (omega arith) in
      omega (arith, all, up)
  by_held (list w target size products is wrong few) =
      let S = N ^ m in
      let R = N ^ n in
      let B = p.block + 1 in
      let V = vanishes w target size products is wrong in
      let Q = count V (draws_from ds n) in
      let split : count bad (draws_from ds (n + m)) * N ≤ Q * (S * N) + R * (B * S) = two_parts ds bad V m (B * S) n
      (λ r lr other. sized B (λ ws. bad (r ++ ws)) (few r (strategy.messages r) (λ ws. bad (r ++ ws)) (opening r lr) (stays w target size products is wrong r other))) in
      let joined : count bad (draws_from ds (n + m)) * N ≤ (most c target + B) * (R * S) = join_parts (count bad (draws_from ds (n + m))) Q N S R (most c target) B split (few_vanish w target size products is wrong) in
      let whole : N ^ (n + m) ≡ R * S = pow-add N n m in
      let fits : most c target + B ≤ bad_count c = omega (arith, most_most o c bluff.player.valid target) in
      let up : (most c target + B) * (R * S) ≤ bad_count c * (R * S) = mul-le-mul_right (R * S) fits in
      subst (λ (j : ℕ). count bad (draws_from ds (n + m)) * N ≤ bad_count c * j) (sym whole) (omega (arith, joined, up))

  -- ---- all together

  bad_few : count bad (draws_from ds (whole_count c)) * N ≤ bad_count c * N ^ whole_count c
  bad_few = elim (dec_lt (bad_count c * N ^ whole_count c) (count bad (draws_from ds (whole_count c)) * N)) [
    | no less ↦ omega (arith, less)
    | yes more ↦
        absurd (weights_few o e laws c public strategy.table bluff.player.valid bluff.player.publics bluff.unknowing large
        (λ held. (let few = subst (λ (k : ℕ). count bad (draws_from ds k) * N ≤ bad_count c * N ^ k) whole_is (by_held held) in omega (arith, more, few))))
  ]

  pub count_whole : count_pairs wins (draws_from ds (whole_count c)) (sets_of opened_count (range_with_len 0 p.mcol)) * N
      ≤ (bad_count c * choose p.mcol opened_count + N * choose (3 * p.block - 1) opened_count) * N ^ whole_count c
  count_whole =
      let all = draws_from ds (whole_count c) in
      let S = sets_of opened_count (range_with_len 0 p.mcol) in
      let C = choose (3 * p.block - 1) opened_count in
      let M = choose p.mcol opened_count in
      let T = N ^ whole_count c in
      let q = count bad all in
      let pairs = pairs_few wins bad S C all (all_of (λ r. length r ≡ whole_count c) (λ r. bad r ≡ false → count (wins r) S ≤ C) (λ r long is. few_sets o e laws c b public strategy wins bluff.player r is) all (all_long ds (whole_count c))) in
      let many : length S ≡ M = sets_counted opened_count (range_with_len 0 p.mcol) ∙ ap (λ (k : ℕ). choose k opened_count) (length-range_with_len 0 p.mcol) in
      final (count_pairs wins all S) q (length S) (length all) C M T (bad_count c) pairs many (length-draws ds (whole_count c)) bad_few
    where
      final : (x q s l C M T B : ℕ) → x ≤ q * s + l * C → s ≡ M → l ≡ T → q * N ≤ B * T → x * N ≤ (B * M + N * C) * T
      final x q s l C M T B h es el few =
          let first : x * N ≤ (q * s + l * C) * N = mul-le-mul_right N h in
          let expand : (q * s + l * C) * N ≡ q * s * N + l * C * N = add-mul (q * s) (l * C) N in
          let a : q * s * N ≡ q * N * M = ap (λ (j : ℕ). q * j * N) es ∙ mul_assoc q M N ∙ ap (λ (j : ℕ). q * j) (mul_comm M N) ∙ sym (mul_assoc q N M) in
          let up : q * N * M ≤ B * T * M = mul-le-mul_right M few in
          let d : B * T * M ≡ B * M * T = mul_assoc B T M ∙ ap (λ (j : ℕ). B * j) (mul_comm T M) ∙ sym (mul_assoc B M T) in
          let f : l * C * N ≡ N * C * T = ap (λ (j : ℕ). j * C * N) el ∙ mul_comm (T * C) N ∙ sym (mul_assoc N T C) ∙ ap (λ (j : ℕ). j * C) (mul_comm N T) ∙ mul_assoc T N C ∙ mul_comm T (N * C) in
          omega (arith, first, expand, a, up, d, f, add-mul (B * M) (N * C) T)

module _ {A : Type 0} (o : Ops A) (e : Coding A) (laws : Laws o e.size e.number e.element e.bytes) where
  pub bluffs_rare : BluffsAreRare o e
  bluffs_rare = λ c public strategy wins bluff large.
      let all = elements_all e laws.numbers in
      let ds = all_elements e in
      let C = choose (3 * (params_of c).block - 1) opened_count in
      let M = choose (params_of c).mcol opened_count in
      subst (λ (n : ℕ). count_pairs wins (draws_from ds (whole_count c)) (sets_of opened_count (range_with_len 0 (params_of c).mcol)) * n ≤ (bad_count c * M + n * C) * n ^ whole_count c) all.count
      (count_whole o e laws c public strategy wins bluff large (params_bounded o c bluff.player.valid))

  -- that all checks are 0 can be decided
  pub passers_know : PassersKnow o e
  passers_know = λ c public strategy wins player large often g h.
      stable laws.numbers (slice_index_or (checks_of o e.number c.layers (inputs_of o public (extracted o e c strategy.table))) g o.zero) o.zero
      (λ differ. often (bluffs_rare c public strategy wins (record { player = player; unknowing = λ satisfied. differ (satisfied g h) }) large))

  -- a false statement has no satisfying inputs at all, so none that are extracted
  pub false_unknown : (c : Wiring A) (public : List A) (table : ℕ → ℕ → A) → IsFalse o e c public → Encodes o e c public table → ⊥
  false_unknown c public table wrong satisfied = wrong (extracted o e c table) (extracted_count o e laws c table) satisfied

  pub cheat_bluffs : (c : Wiring A) (public : List A) (strategy : Strategy A) (wins : List A → List ℕ → Bool) → IsCheat o e c public strategy wins → IsBluff o e c public strategy wins
  cheat_bluffs c public strategy wins cheat =
      record { player = cheat.player; unknowing = false_unknown c public strategy.table cheat.wrong }

  pub false_rare : FalseIsRare o e
  false_rare = λ c public strategy wins cheat large. bluffs_rare c public strategy wins (cheat_bluffs c public strategy wins cheat) large
