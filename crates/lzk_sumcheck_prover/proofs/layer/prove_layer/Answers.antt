use Rattle.std.proofs.Common.{◌≡◌, ◌+◌, ◌*◌, ◌^◌, ◌<◌, length, refl, ap, sym, ◌∙◌, ◌++◌, arith, subst}
use Rattle.std.specs.Prelude.{List, None, map, slice_set}
use Rattle.std.specs.List.{range_with_len, refill, length_refill}
use Rattle.std.proofs.lemmas.List.{get_or_default, length-set, length-take, length-take-le}
use Rattle.std.proofs.lemmas.Nat.{pow_pos}
use Rattle.lzk_field.specs.Sums.{minus, entry}
use Rattle.lzk_mle.specs.Multilinear.{eq, tilde}
use Rattle.lzk_circuit.specs.Valid.{ArePlaced}
use Rattle.lzk_circuit.specs.Wires.{layer_coefficient}
use Rattle.lzk_sumcheck.specs.declared.script.LayerScript.{LayerScript}
use Rattle.lzk_sumcheck.specs.Layers.{layer_of_terms}
use Rattle.lzk_sumcheck.specs.Rounds.{of_a, of_b, bound_coefficient}
use Rattle.lzk_sumcheck.specs.Script.{drawn_beta, after_beta, after_rounds, round_challenge, with_pair}
use Rattle.lzk_sumcheck.specs.Sending.{after_sent, drawn_sent, AreRoundsSent}
use Rattle.lzk_sumcheck_rounds.specs.Tables.{TableRoom}
use Rattle.lzk_sumcheck.specs.Weights.{weighted}
use Rattle.lzk_sumcheck_rounds.proofs.LayerSends.{after-front, pair-behind, rounds-sent, tilde-padded, first-behind, second-behind}
use Rattle.lzk_sumcheck.proofs.Filled.{refill_whole}
use Rattle.lzk_sumcheck.proofs.LayerLaws.{layer_after}
use Rattle.lzk_sumcheck.proofs.ProvingLaws.{layer-parts, times-less}
use Rattle.lzk_sumcheck.proofs.SentLaws.{after-is, length-drawn, evens, odds}
use Rattle.lzk_sumcheck.proofs.SumcheckLaws.{state_of, bound-is}
use Rattle.lzk_sumcheck_prover.proofs.SendLaws.{all-drawn, begun-kept}
use Rattle.lzk_sumcheck_prover.proofs.layer.prove_layer.Goals as goal

refill_length : {X : Type 0} (xs ws : List X) → length (refill (length xs) xs ws) ≡ length xs
refill_length xs ws = sym (length_refill (length xs) xs ws refl)

pub offset_bounds-1 : goal.offset_bounds-1
offset_bounds-1 g c =
    let inside : 1 < length c.args.sent.now = omega (arith, c.requires.room) in
    record { fits = times-less 1 (length c.args.sent.now) _ _ inside (omega arith) }

pub send_rounds-last-requires-clause-first_fits : goal.send_rounds-last-requires-clause-first_fits
send_rounds-last-requires-clause-first_fits g c κs within =
    let k = length c.as_mut_slice-ra.result.now in
    let same : 2 ^ k ≡ 2 ^ c.args.layer.now.bits = ap (λ n. 2 ^ n) (ap length c.as_mut_slice-ra.ensures.value ∙ c.requires.bits.ra) in
    c.begin.ensures.first_least (2 ^ k) (omega (arith, pow_pos k)) (omega (arith, c.args.layer.now.fits, same))

pub send_rounds-last-requires-clause-second_fits : goal.send_rounds-last-requires-clause-second_fits
send_rounds-last-requires-clause-second_fits g c κs within =
    let k = length c.as_mut_slice-rb.result.now in
    let same : 2 ^ k ≡ 2 ^ c.args.layer.now.bits = ap (λ n. 2 ^ n) (ap length c.as_mut_slice-rb.ensures.value ∙ c.requires.bits.rb) in
    c.begin.ensures.second_least (2 ^ k) (omega (arith, pow_pos k)) (omega (arith, c.args.layer.now.fits, same))

pub set_points-requires-clause-same : goal.set_points-requires-clause-same
set_points-requires-clause-same g c κs within =
    let old = c.args.script.now in
    omega (arith, ap length c.as_slice.ensures, refill_length old.ra c.send_rounds-last.new.ra, ap length c.as_slice-2.ensures, refill_length old.rb c.send_rounds-last.new.rb, c.requires.bits.ra, c.requires.bits.rb)

pub set_points-requires-clause-room : goal.set_points-requires-clause-room
set_points-requires-clause-room g c κs within =
    let size : length c.as_slice.result.now ≡ c.args.layer.now.bits = ap length c.as_slice.ensures ∙ refill_length c.args.script.now.ra c.send_rounds-last.new.ra ∙ c.requires.bits.ra in
    omega (arith, ap (λ n. 2 ^ n) size, c.requires.places, ap (λ (r : TableRoom). r.places) (c.send_rounds-last.ensures.room ∙ c.begin.ensures.room))

pub returns : goal.returns
returns g c =
    let m = g.F.Field in
    let o = m.ops in
    let r = m.laws.ring in
    let e = m.coding in
    let a = c.args in
    let req = c.requires in
    let layer = a.layer.now in
    let k = layer.bits in
    let vs = layer.of.values.now in
    let ts = layer.of.terms.now in
    let pads = layer.pads.now in
    let old = a.script.now in
    -- what is drawn first
    let x = c.draw-script.result in
    let beta = c.draw_beta-script.result in
    let begun = c.draw_beta-script.new.tape in
    let begins = c.draw_beta-script.ensures.after ∙ ap (after_beta a.version) c.draw-script.ensures.after in
    let ws = c.weigh.new.weights in
    let weights = weighted o x a.tables.now.first a.tables.now.second (length a.weights.now) in
    let many : length ws ≡ length a.weights.now = c.weigh.auto.weights in
    let placed = subst (λ n. ArePlaced n (length vs) None ts) (sym many) req.terms in
    -- what is sent
    let last = c.send_rounds-last.ensures in
    let ra = c.send_rounds-last.new.ra in
    let rb = c.send_rounds-last.new.rb in
    let rounds = c.send_rounds-last.new.sent in
    let behind = c.split_at_mut-rounds.result.1.now in
    let factors = slice_set (slice_set behind 0 c.sub.result) 1 c.sub-2.result in
    let sent = rounds ++ factors in
    let room_a = c.as_mut_slice-ra.result.now in
    let room_b = c.as_mut_slice-rb.result.now in
    let bits_a : length room_a ≡ k = ap length c.as_mut_slice-ra.ensures.value ∙ req.bits.ra in
    let bits_b : length room_b ≡ k = ap length c.as_mut_slice-rb.ensures.value ∙ req.bits.rb in
    let n = length room_a + length room_b in
    let both : n ≡ 2 * k = omega (arith, bits_a, bits_b) in
    let front : length rounds ≡ 4 * k = omega (arith, c.send_rounds-last.auto.sent, c.split_at_mut-rounds.ensures.front_len) in
    let size : length rounds ≡ 2 * (2 * k) = omega (arith, front) in
    let two : length behind ≡ 2 = omega (arith, c.split_at_mut-rounds.ensures.back_len, req.room) in
    let drawn = drawn_sent o e rounds n begun in
    let drawn_is = all-drawn o e rounds factors n k begun both size in
    let s = layer_of_terms o ts beta ws vs k in
    let t = c.begin.new.self in
    let kept = begun-kept o r ts beta ws vs t k (length room_a) (length room_b) placed
    c.begin.ensures.of_a c.begin.ensures.scale c.begin.ensures.first c.begin.ensures.second c.begin.ensures.sums bits_a bits_b in
    let sent_a = last.ra ∙ ap of_a drawn_is ∙ evens o (round_challenge o e sent 0 begun) k in
    let sent_b = last.rb ∙ ap of_b drawn_is ∙ odds o (round_challenge o e sent 0 begun) k in
    let sent_after = c.write_pair.ensures
    ∙ ap (with_pair o e factors 0) (last.after ∙ ap (λ v. after_sent o e rounds v begun) both ∙ sym (after-front o e rounds factors (2 * k) begun size))
    ∙ sym (pair-behind o e rounds factors (4 * k) (after_sent o e sent (2 * k) begun) front)
    ∙ ap (with_pair o e sent (4 * k)) (after-is o e sent (2 * k) begun) in
    let sent_rounds = subst (λ cs. AreRoundsSent o e.element s cs pads sent) drawn_is
    (rounds-sent o r e.element s drawn pads rounds factors (4 * k) n layer.fits both (omega (arith, both)) front (last.sent (state_of o s) kept)) in
    let sent_factor_a = first-behind o rounds behind (4 * k) c.sub.result c.sub-2.result front two
    ∙ c.sub.ensures ∙ ap (λ w. minus o w c.index-pads-count.result) (last.factor_a ∙ tilde-padded o r t.first vs ra c.begin.ensures.first_fits c.begin.ensures.first)
    ∙ ap (minus o (tilde o vs ra)) (c.index-pads-count.is ∙ get_or_default pads (4 * k) c.index-pads-count.result o.zero (omega (arith, layer.count))) in
    let sent_factor_b = second-behind o rounds behind (4 * k) c.sub.result c.sub-2.result front two
    ∙ c.sub-2.ensures ∙ ap (λ w. minus o w c.index-pads-count-2.result) (last.factor_b ∙ tilde-padded o r t.second vs rb c.begin.ensures.second_fits c.begin.ensures.second)
    ∙ ap (minus o (tilde o vs rb)) (c.index-pads-count-2.is ∙ get_or_default pads (4 * k + 1) c.index-pads-count-2.result o.zero (omega (arith, layer.count))) in
    let sent_bound = last.bound (state_of o s) kept ∙ bound-is o r s drawn layer.fits (length-drawn o e rounds n begun ∙ both)
    ∙ ap (λ xs. bound_coefficient o (layer_coefficient o ts beta) ws (length vs) xs (of_b drawn)) (sym last.ra)
    ∙ ap (bound_coefficient o (layer_coefficient o ts beta) ws (length vs) ra) (sym last.rb) in
    -- the lists of challenges, as the script keeps them
    let na : length ra ≡ length old.ra = omega (arith, c.send_rounds-last.auto.ra, ap length c.as_mut_slice-ra.ensures.value) in
    let nb : length rb ≡ length old.rb = omega (arith, c.send_rounds-last.auto.rb, ap length c.as_mut_slice-rb.ensures.value) in
    let is_a = refill_whole (length old.ra) old.ra ra na in
    let is_b = refill_whole (length old.rb) old.rb rb nb in
    let make : List g.row.F.Denot → List g.row.F.Denot → LayerScript g.row.F.Denot = λ xs ys. record { alpha = x; beta = beta; ra = xs; rb = ys } in
    let long : length c.as_slice.result.now ≡ k = ap length c.as_slice.ensures ∙ refill_length old.ra ra ∙ req.bits.ra in
    let last_pair : with_pair o e sent (4 * k) (after_rounds o e sent 0 (2 * k) begun) ≡ with_pair o e sent (0 + 4 * k) (after_rounds o e sent 0 (2 * k) begun)
    = (let z : 4 * k ≡ 0 + 4 * k = omega arith in ap (λ i. with_pair o e sent i (after_rounds o e sent 0 (2 * k) begun)) z) in
    let of_weights = λ (w : List g.row.F.Denot). layer_of_terms o ts beta w vs k in
    let came = bound_coefficient o (layer_coefficient o ts beta) in
    record {
      room = c.set_points.ensures.room ∙ last.room ∙ c.begin.ensures.room;
      script = ap (λ xs. make xs (refill (length old.rb) old.rb rb)) is_a ∙ ap (make ra) is_b
          ∙ layer-parts o e sent a.version k a.tape.now begun x beta ra rb c.draw-script.ensures.value
          (c.draw_beta-script.ensures.beta ∙ ap (drawn_beta o e a.version) c.draw-script.ensures.after) begins sent_a sent_b;
      after = layer_after o e sent a.version 0 k a.tape.now (after_rounds o e sent 0 (2 * k) begun) c.write_pair.new.tape
          (ap (after_rounds o e sent 0 (2 * k)) begins) (sent_after ∙ last_pair);
      rounds = subst (λ s. AreRoundsSent o e.element (of_weights weights) (map (round_challenge o e sent 0 s) (range_with_len 0 (2 * k))) pads sent) begins
          (subst (λ w. AreRoundsSent o e.element (of_weights w) (map (round_challenge o e sent 0 begun) (range_with_len 0 (2 * k))) pads sent) c.weigh.ensures sent_rounds);
      factor_a = sent_factor_a ∙ ap (λ xs. minus o (tilde o vs xs) (entry o pads (4 * k))) (sym is_a);
      factor_b = sent_factor_b ∙ ap (λ xs. minus o (tilde o vs xs) (entry o pads (4 * k + 1))) (sym is_b);
      bound = sent_bound
          ∙ ap (λ w. came w (length vs) ra rb) c.weigh.ensures
          ∙ ap (λ xs. came weights (length vs) xs rb) (sym is_a)
          ∙ ap (came weights (length vs) (refill (length old.ra) old.ra ra)) (sym is_b);
      first_length = c.set_points.ensures.first_length ∙ ap (λ n. 2 ^ n) long;
      second_length = c.set_points.ensures.second_length ∙ ap (λ n. 2 ^ n) long;
      first = λ i h. c.set_points.ensures.first i (subst (λ n. i < 2 ^ n) (sym long) h) ∙ ap (eq o i) c.as_slice.ensures;
      second = λ i h. c.set_points.ensures.second i (subst (λ n. i < 2 ^ n) (sym long) h) ∙ ap (eq o i) c.as_slice-2.ensures;
    }

pub begin-requires-clause-order : goal.begin-requires-clause-order
begin-requires-clause-order g c κs within = c.requires.order

pub begin-requires-clause-terms : goal.begin-requires-clause-terms
begin-requires-clause-terms g c κs within =
    let of = c.args.layer.now.of in
    subst (λ n. ArePlaced n (length of.values.now) None of.terms.now) (sym c.weigh.auto.weights) c.requires.terms

pub begin-requires-clause-pairs : goal.begin-requires-clause-pairs
begin-requires-clause-pairs g c κs within = c.requires.pairs

pub begin-requires-clause-values : goal.begin-requires-clause-values
begin-requires-clause-values g c κs within = omega (arith, c.args.layer.now.fits, c.requires.places)

pub send_rounds-last-requires-clause-turn : goal.send_rounds-last-requires-clause-turn
send_rounds-last-requires-clause-turn g c κs within =
    omega (arith, ap length c.as_mut_slice-ra.ensures.value, ap length c.as_mut_slice-rb.ensures.value, c.requires.bits.ra, c.requires.bits.rb)

pub send_rounds-last-requires-clause-next : goal.send_rounds-last-requires-clause-next
send_rounds-last-requires-clause-next g c κs within =
    omega (arith, ap length c.as_mut_slice-ra.ensures.value, ap length c.as_mut_slice-rb.ensures.value, c.requires.bits.ra, c.requires.bits.rb)

pub send_rounds-last-requires-clause-pads : goal.send_rounds-last-requires-clause-pads
send_rounds-last-requires-clause-pads g c κs within =
    let k = c.args.layer.now.bits in
    omega (
      arith,
      length-take (4 * k) c.args.layer.now.pads.now,
      c.args.layer.now.count,
      ap length c.as_mut_slice-ra.ensures.value,
      ap length c.as_mut_slice-rb.ensures.value,
      c.requires.bits.ra,
      c.requires.bits.rb,
    )

pub send_rounds-last-requires-clause-sent : goal.send_rounds-last-requires-clause-sent
send_rounds-last-requires-clause-sent g c κs within =
    omega (arith, c.split_at_mut-rounds.ensures.front_len, ap length c.as_mut_slice-ra.ensures.value, ap length c.as_mut_slice-rb.ensures.value, c.requires.bits.ra, c.requires.bits.rb)

pub bounds-pads-count : goal.bounds-pads-count
bounds-pads-count g c = omega (arith, c.args.layer.now.count)

pub bounds-pads-count-2 : goal.bounds-pads-count-2
bounds-pads-count-2 g c = omega (arith, c.args.layer.now.count)

pub write_pair-requires-after_bounds : goal.write_pair-requires-after_bounds
write_pair-requires-after_bounds g c =
    let behind = c.split_at_mut-rounds.result.1.now in
    omega (arith, length-set (slice_set behind 0 c.sub.result) 1 c.sub-2.result, length-set behind 0 c.sub.result, c.split_at_mut-rounds.ensures.back_len, c.requires.room)

pub split_at_mut-rounds-requires : goal.split_at_mut-rounds-requires
split_at_mut-rounds-requires g c = omega (arith, c.requires.room)

pub slice_bounds-send_rounds-end : goal.slice_bounds-send_rounds-end
slice_bounds-send_rounds-end g c = sym (length-take-le (4 * c.args.layer.now.bits) c.args.layer.now.pads.now (omega (arith, c.args.layer.now.count)))

pub offset_bounds-pads-count : goal.offset_bounds-pads-count
offset_bounds-pads-count g c = omega (arith, c.args.layer.now.count)

pub offset_bounds-pads-count-2 : goal.offset_bounds-pads-count-2
offset_bounds-pads-count-2 g c = omega (arith, c.args.layer.now.count)

pub bounds-factors-0 : goal.bounds-factors-0
bounds-factors-0 g c = omega (arith, c.split_at_mut-rounds.ensures.back_len, c.requires.room)

pub bounds-factors-1 : goal.bounds-factors-1
bounds-factors-1 g c = omega (arith, length-set c.split_at_mut-rounds.result.1.now 0 c.sub.result, c.split_at_mut-rounds.ensures.back_len, c.requires.room)
