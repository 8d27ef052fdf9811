-- Few lists of draws let a prover through, by whose list a target is not 0.
use Rattle.std.specs.Prelude.{◌≡◌, ◌⊎◌, ℕ, ◌+◌, ◌*◌, ◌/◌, ◌%◌, ◌^◌, ◌<◌, ◌≤◌, ◌==◌, cond, Bool, true, false, List, [], length, take}
use Rattle.std.specs.List.{AllByRecursion}
use Rattle.std.proofs.Common.{zero, suc, inl, inr, refl, sym, ap, ◌∙◌, arith, subst, mul-le-mul_right}
use Rattle.std.proofs.lemmas.Bool.{false≢true}
use Rattle.std.proofs.lemmas.List.{get_or-take, length-take-le}
use Rattle.std.proofs.lemmas.List.FromFn.{get_or-map-range_with_len, length-map-range_with_len}
use Rattle.lzk_field.specs.Coding.{Coding}
use Rattle.lzk_field.specs.Ring.{Ops, Laws}
use Rattle.lzk_field.specs.Sums.{entry}
use Rattle.lzk_field.proofs.RingBasics.{times_zero}
use Rattle.lzk_soundness.specs.Chance.Few.{AreDistinct}
use Rattle.lzk_soundness.specs.Chance.Draws.{count, draws_from, has_bad}
use Rattle.lzk_soundness.proofs.ChanceLaws.FewLaws.{counts_few}
use Rattle.lzk_soundness.proofs.ChanceLaws.Counting.{bad_draws_few}
use Rattle.lzk_soundness.proofs.ChanceLaws.Lists.{none_bad, all_long, count_more, all_of}
use Rattle.lzk_mle.specs.Multilinear.{tilde}
use Rattle.lzk_circuit.specs.Valid.{Wiring}
use Rattle.lzk_layout.specs.Places.{depth, output_bits, round_count, sent_at}
use Rattle.lzk_sumcheck.specs.declared.script.LayerScript.{LayerScript}
use Rattle.lzk_sumcheck.specs.declared.script.Script.{Script}
use Rattle.lzk_sumcheck.specs.Script.{layer_at, challenge_at, point_a, point_b}
use Rattle.lzk_accept.proofs.ShapeLaws.{layer_shape}
use Rattle.lzk_soundness.specs.Sumchecks.Bad.{AreZero, IsBadBinding}
use Rattle.lzk_soundness.specs.Sumchecks.Claims.{values_at, asserted_at, Vanish, NoneBad, IsBadAlpha, IsBadBetaAt, IsBadChallenge}
use Rattle.lzk_soundness.specs.Sumchecks.Laws.{PassesWell}
use Rattle.lzk_soundness.proofs.SumchecksLaws.Layers.{challenge_odd}
use Rattle.lzk_soundness.proofs.SumchecksLaws.Soundness.{shown_unless_bad}
use Rattle.lzk_soundness.specs.Draws.Schedule.{Draw, firsts, drawn_at, draw_count, draw_at, script_of}
use Rattle.lzk_soundness.specs.Draws.Schedule.Draw.{coordinate, alpha, beta, challenge, gamma}
use Rattle.lzk_soundness.specs.Draws.Game.{AgreeBelow, Target, HidesAtOutputs, HidesAtAlpha, HidesAtRound, IsBadDraw, degree, table_of}
use Rattle.lzk_soundness.specs.Draws.Game.Target.{outputs, assertions}
use Rattle.lzk_soundness.specs.Draws.Laws.{most, IsForger, IsOf, ForgersAreFew}
use Rattle.lzk_soundness.proofs.DrawsLaws.Alike.{layer_is, shape_of, challenge_is, alpha_alike, hiding_alike, beta_alike, challenge_alike, coordinate_alike, binding_alike}
use Rattle.lzk_soundness.proofs.DrawsLaws.Deciding.{is_yes, from_yes, from_no, dec_bad}
use Rattle.lzk_soundness.proofs.DrawsLaws.FewDraws.{few_draws}
use Rattle.lzk_soundness.proofs.DrawsLaws.Places.{some_firsts, at_coordinate, at_alpha, at_beta, at_challenge, at_gamma, drawn_within, rounds_within, outputs_within, inside}
use Rattle.lzk_soundness.proofs.DrawsLaws.Versions.{tilde_none}

two_firsts : (b : Bool) → b ≡ true → 1 < cond b 2 1
two_firsts true is = omega arith
two_firsts false is = absurd (false≢true is)

module _ {A : Type 0} (o : Ops A) (e : Coding A) (laws : Laws o e.size e.number e.element e.bytes) (c : Wiring A) (public w : List A) (send : List A → List A) (wins : List A → Bool) (forger : IsForger o e c public w send wins) (target : Target) where
  abbrev Bad : List A → Draw → A → Type 0
  Bad p d x = IsBadDraw o c public w e.element (script_of o c p) (send p) target d x

  abbrev pub bad : List A → A → Bool
  bad p x = is_yes (dec_bad laws.numbers laws.ring c public w (script_of o c p) (send p) target (draw_at c (length p)) x)

  -- ---- a list of draws of which none is bad

  module _ (r : List A) (long : length r ≡ draw_count c) (none : has_bad bad [] r ≡ false) where
    abbrev s : Script A
    s = script_of o c r

    abbrev m : List A
    m = send r

    abbrev front : ℕ → List A
    front k = take k r

    clear : (k : ℕ) (d : Draw) → k < draw_count c → draw_at c k ≡ d → Bad (front k) d (entry o r k) → ⊥
    clear k d h is b =
        let short : length (front k) ≡ k = length-take-le k r (omega (arith, h, long)) in
        let here : draw_at c (length (front k)) ≡ d = ap (draw_at c) short ∙ is in
        from_no (dec_bad laws.numbers laws.ring c public w (script_of o c (front k)) (send (front k)) target (draw_at c (length (front k))) (entry o r k))
        (none_bad o bad [] r none k (omega (arith, h, long)))
        (subst (λ d. Bad (front k) d (entry o r k)) (sym here) b)

    agree : (k : ℕ) → AgreeBelow o k r (front k)
    agree k j h = sym (get_or-take k r j o.zero h)

    sent : (l : ℕ) → l ≤ depth c → AgreeBelow o (sent_at c l) m (send (front (drawn_at c l)))
    sent l h = forger.prover.layers l r (front (drawn_at c l)) h (agree (drawn_at c l))

    no_alpha : (l : ℕ) → l < depth c → (IsBadAlpha o c public w e.element s m l (layer_at o s l).alpha ⊎ HidesAtAlpha o c public w e.element s m target l (layer_at o s l).alpha) → ⊥
    no_alpha l h b =
        let k = drawn_at c l in
        let x : (layer_at o s l).alpha ≡ entry o r k = ap (λ (y : LayerScript A). y.alpha) (layer_is o c r l h) in
        let low : l ≤ depth c = omega (arith, h) in
        clear k (alpha l) (drawn_within c l low) (at_alpha c l h) (moved (entry o r k)
        (subst (λ y. IsBadAlpha o c public w e.element s m l y ⊎ HidesAtAlpha o c public w e.element s m target l y) x b))
      where
        hides : (target : Target) (y : A) → HidesAtAlpha o c public w e.element s m target l y → HidesAtAlpha o c public w e.element (script_of o c (front (drawn_at c l))) (send (front (drawn_at c l))) target l y
        hides outputs y b = b
        hides (assertions i) y b = (b.0, hiding_alike o c public w e.element r (front (drawn_at c l)) m (send (front (drawn_at c l))) l y (omega (arith, h)) (agree (drawn_at c l)) b.1)

        moved : (y : A) → IsBadAlpha o c public w e.element s m l y ⊎ HidesAtAlpha o c public w e.element s m target l y → Bad (front (drawn_at c l)) (alpha l) y
        moved y (inl b) = inl (alpha_alike o c public w e.element r (front (drawn_at c l)) m (send (front (drawn_at c l))) l y (omega (arith, h)) (agree (drawn_at c l)) (sent l (omega (arith, h))) b)
        moved y (inr b) = inr (hides target y b)

    no_beta : (l : ℕ) → l < depth c → IsBadBetaAt o c public w e.element s m l (layer_at o s l).beta → ⊥
    no_beta l h b = version forger.valid.version
      where
        k : ℕ
        k = drawn_at c l + 1

        drawn : (c.version == 2) ≡ true → ⊥
        drawn is =
            let x : (layer_at o s l).beta ≡ entry o r k = ap (λ (y : LayerScript A). y.beta) (layer_is o c r l h) ∙ ap (λ b. cond b (entry o r k) o.zero) is in
            let two : 1 < firsts c = two_firsts (c.version == 2) is in
            let early : AgreeBelow o (drawn_at c l) r (front k) = λ j i. agree k j (omega (arith, i)) in
            clear k (beta l) (omega (arith, rounds_within c l h, two)) (at_beta c l h two)
            (beta_alike o c public w e.element r (front k) m (send (front k)) l (entry o r k) h (agree k) (forger.prover.layers l r (front k) (omega (arith, h)) early)
            (subst (IsBadBetaAt o c public w e.element s m l) x b))

        version : (c.version ≡ 1) ⊎ (c.version ≡ 2) → ⊥
        version (inl one) =
            let alpha = (layer_at o s l).alpha in
            b.0 (ap (λ y. o.plus y (o.times alpha (tilde o (asserted_at o c public w l) (point_b o s l)))) (tilde_none o laws.ring laws.field c public w forger.valid one l (point_a o s l))
            ∙ ap (λ y. o.plus o.zero (o.times alpha y)) (tilde_none o laws.ring laws.field c public w forger.valid one l (point_b o s l))
            ∙ ap (o.plus o.zero) (times_zero o laws.ring alpha) ∙ laws.ring.plus_zero o.zero)
        version (inr two) = drawn (ap (λ (v : ℕ). v == 2) two)

    no_challenge : (l n : ℕ) → l < depth c → n < round_count c l → (IsBadChallenge o c public w e.element s m l n (challenge_at o s l n) ⊎ HidesAtRound o c public w e.element s m target l n (challenge_at o s l n)) → ⊥
    no_challenge l n h q b =
        let k = drawn_at c l + firsts c + n in
        clear k (challenge l n) (omega (arith, rounds_within c l h, q)) (at_challenge c l n h q)
        (moved (entry o r k) (subst (λ y. IsBadChallenge o c public w e.element s m l n y ⊎ HidesAtRound o c public w e.element s m target l n y) (challenge_is o c r l n h q) b))
      where
        k' : ℕ
        k' = drawn_at c l + firsts c + n

        hides : (target : Target) (y : A) → HidesAtRound o c public w e.element s m target l n y → HidesAtRound o c public w e.element (script_of o c (front k')) (send (front k')) target l n y
        hides outputs y b = b
        hides (assertions zero) y b = b
        hides (assertions (suc i)) y b =
            let whole : n ≡ 2 * (n / 2) + 1 = omega (arith, b.1) in (
              b.0,
              b.1,
              binding_alike o c public w e.element r (front k') m (send (front k')) l (asserted_at o c public w (suc l)) (n / 2) y h (omega (arith, q, whole))
                  (λ j i. agree k' j (omega (arith, i, whole))) b.2,
            )

        moved : (y : A) → IsBadChallenge o c public w e.element s m l n y ⊎ HidesAtRound o c public w e.element s m target l n y → Bad (front k') (challenge l n) y
        moved y (inl b) = inl (challenge_alike o c public w e.element r (front k') m (send (front k')) l n y h q (some_firsts c) (agree k') (forger.prover.rounds l n r (front k') h q (agree k')) b)
        moved y (inr b) = inr (hides target y b)

    no_gamma : IsBadAlpha o c public w e.element s m (depth c) s.gamma → ⊥
    no_gamma b =
        let k = drawn_at c (depth c) in
        clear k gamma (drawn_within c (depth c) (omega arith)) (at_gamma c)
        (alpha_alike o c public w e.element r (front k) m (send (front k)) (depth c) (entry o r k) (omega arith) (agree k) (sent (depth c) (omega arith)) b)

    no_coordinate : (j : ℕ) → j < output_bits c → HidesAtOutputs o c public w e.element s m target j (entry o s.out_point j) → ⊥
    no_coordinate j h b =
        let x : entry o s.out_point j ≡ entry o r j = get_or-map-range_with_len (λ i. entry o r i) 0 (output_bits c) j j o.zero h (omega arith) in
        clear j (coordinate j) (omega (arith, h, outputs_within c (depth c))) (at_coordinate c j h) (hides target (entry o r j) (subst (HidesAtOutputs o c public w e.element s m target j) x b))
      where
        hides : (target : Target) (y : A) → HidesAtOutputs o c public w e.element s m target j y → HidesAtOutputs o c public w e.element (script_of o c (front j)) (send (front j)) target j y
        hides outputs y b = coordinate_alike o c public w e.element r (front j) m (send (front j)) 0 (values_at o c public w 0) j y (omega (arith, h)) (agree j) b
        hides (assertions zero) y b = coordinate_alike o c public w e.element r (front j) m (send (front j)) 0 (asserted_at o c public w 0) j y (omega (arith, h)) (agree j) b
        hides (assertions (suc i)) y b = b

    none_bad_at_all : NoneBad o c public w e.element s m
    none_bad_at_all = record {
      alphas = λ l h b. no_alpha l h (inl b);
      betas = no_beta;
      challenges = λ l n h q b. no_challenge l n h q (inl b);
      gamma = no_gamma;
    }

    passes : Vanish o c public w e.element s m → PassesWell o e c public w s m
    passes vanish = record {
      valid = forger.valid;
      publics = forger.publics;
      count = forger.count;
      shape = shape_of o c r;
      vanish = vanish;
      products = forger.products;
      none_bad = none_bad_at_all;
    }

  -- as the next draw few elements are bad
  few_next : (ds : List A) → AreDistinct ds → (before : List A) → count (bad before) ds ≤ degree target (draw_at c (length before))
  few_next ds distinct before =
      let d = draw_at c (length before) in
      let decide = dec_bad laws.numbers laws.ring c public w (script_of o c before) (send before) target d in
      counts_few (degree target d) (Bad before d) (bad before) ds
      (few_draws o e laws c public w (script_of o c before) (send before) forger.publics forger.count (shape_of o c before) target d (inside c (length before)))
      (λ x is. from_yes (decide x) is) distinct

  -- where each list by which the prover wins has a bad draw, few do
  pub counted : ((r : List A) → length r ≡ draw_count c → wins r ≡ true → has_bad bad [] r ≡ false → ⊥) → (ds : List A) → AreDistinct ds
      → count wins (draws_from ds (draw_count c)) * length ds ≤ most c target * length ds ^ draw_count c
  counted fools ds distinct =
      let n = draw_count c in
      let all = draws_from ds n in
      let each : AllByRecursion (λ r. wins r ≡ true → has_bad bad [] r ≡ true) all = all_of (λ r. length r ≡ n) (λ r. wins r ≡ true → has_bad bad [] r ≡ true) (λ r long won. by_case r long won (has_bad bad [] r) refl) all (all_long ds n) in
      let few = (bad_draws_few A bad (λ k. degree target (draw_at c k)) ds n (few_next ds distinct)).1 in
      omega (arith, mul-le-mul_right (length ds) (count_more wins (has_bad bad []) all each), few)
    where
      by_case : (r : List A) → length r ≡ draw_count c → wins r ≡ true → (b : Bool) → has_bad bad [] r ≡ b → has_bad bad [] r ≡ true
      by_case r long won true is = is
      by_case r long won false is = absurd (fools r long won is)

module _ {A : Type 0} (o : Ops A) (e : Coding A) (laws : Laws o e.size e.number e.element e.bytes) (c : Wiring A) (public w : List A) (send : List A → List A) (wins : List A → Bool) (forger : IsForger o e c public w send wins) where
  -- by lists without a bad draw the outputs are shown
  show_outputs : (AreZero o (entry o (values_at o c public w 0)) → ⊥) → (r : List A) → length r ≡ draw_count c → wins r ≡ true → has_bad (bad o e laws c public w send wins forger outputs) [] r ≡ false → ⊥
  show_outputs wrong r long won none =
      let p = passes o e laws c public w send wins forger outputs r long none (forger.only r long won) in
      wrong ((shown_unless_bad o e laws c public w (script_of o c r) (send r) p).0
      (λ j h b. no_coordinate o e laws c public w send wins forger outputs r long none j (omega (arith, h, length-map-range_with_len (λ j. entry o r j) 0 (output_bits c))) b))

  -- and so is what a layer's assertion terms count
  points_show : (l : ℕ) → l < depth c → (r : List A) (long : length r ≡ draw_count c) (none : has_bad (bad o e laws c public w send wins forger (assertions l)) [] r ≡ false)
      → (j : ℕ) → j < length (point_b o (script_of o c r) l) → IsBadBinding o (asserted_at o c public w l) (take j (point_b o (script_of o c r) l)) (entry o (point_b o (script_of o c r) l) j) → ⊥
  points_show zero h r long none j k b =
      no_coordinate o e laws c public w send wins forger (assertions 0) r long none j (omega (arith, k, length-map-range_with_len (λ j. entry o r j) 0 (output_bits c))) b
  points_show (suc l) h r long none j k b =
      let s = script_of o c r in
      let low : l < depth c = omega (arith, h) in
      let size = layer_shape o c s (shape_of o c r) l low in
      let odd : (2 * j + 1) % 2 ≡ 1 = omega arith in
      let half : j ≡ (2 * j + 1) / 2 = omega arith in
      let values = asserted_at o c public w (suc l) in
      let rb = (layer_at o s l).rb in
      no_challenge o e laws c public w send wins forger (assertions (suc l)) r long none l (2 * j + 1) low (omega (arith, k, size.rb))
      (inr (refl, odd, subst (λ (i : ℕ). IsBadBinding o values (take i rb) (challenge_at o s l (2 * j + 1))) half (subst (IsBadBinding o values (take j rb)) (challenge_odd o s l j) b)))

  show_assertions : (l : ℕ) → l < depth c → (AreZero o (entry o (asserted_at o c public w l)) → ⊥) → (r : List A) → length r ≡ draw_count c → wins r ≡ true
      → has_bad (bad o e laws c public w send wins forger (assertions l)) [] r ≡ false → ⊥
  show_assertions l h wrong r long won none =
      let p = passes o e laws c public w send wins forger (assertions l) r long none (forger.only r long won) in
      wrong ((shown_unless_bad o e laws c public w (script_of o c r) (send r) p).1 l h (record {
        points = points_show l h r long none;
        alpha = λ b. no_alpha o e laws c public w send wins forger (assertions l) r long none l h (inr (refl, b));
      }))

  -- so is the target
  pub shown_by : (target : Target) → IsOf c target → (AreZero o (entry o (table_of o c public w target)) → ⊥) → (r : List A) → length r ≡ draw_count c → wins r ≡ true
      → has_bad (bad o e laws c public w send wins forger target) [] r ≡ false → ⊥
  shown_by outputs is wrong = show_outputs wrong
  shown_by (assertions l) is wrong = show_assertions l is wrong

  pub few_by_target : (target : Target) → IsOf c target → (AreZero o (entry o (table_of o c public w target)) → ⊥) → (ds : List A) → AreDistinct ds
      → count wins (draws_from ds (draw_count c)) * length ds ≤ most c target * length ds ^ draw_count c
  few_by_target target is wrong ds distinct = counted o e laws c public w send wins forger target (shown_by target is wrong) ds distinct

pub forgers_few : {A : Type 0} (o : Ops A) (e : Coding A) → Laws o e.size e.number e.element e.bytes → ForgersAreFew o e
forgers_few o e laws = λ c public w send wins target ds forger is wrong distinct. few_by_target o e laws c public w send wins forger target is wrong ds distinct
