use Rattle.std.proofs.Common.{◌≡◌, ◌+◌, ◌-◌, ◌*◌, ◌++◌, ℕ, ap, sym, map, arith, length, subst}
use Rattle.std.specs.List.{range_with_len, flat_map}
use Rattle.std.proofs.lemmas.List.FromFn.{length-map-range_with_len}
use Rattle.lzk_goldilocks.specs.Elements.{ops, of_number}
use Rattle.lzk_sha_circuit.specs.Found.{places_of}
use Rattle.lzk_sha_circuit.specs.Layers.{Grows, input_count, pass_row, schedule_pairs, round_pairs, inner_rows}
use Rattle.lzk_sha_circuit.proofs.Chunks.{length-range_chunks}
use Rattle.lzk_sha_circuit.proofs.Growth.{grows_none, grows_two, rows_more, built_from}
use Rattle.lzk_sha_circuit.proofs.Within.{length-schedule_pairs, length-round_pairs}
use Rattle.lzk_sha_circuit.proofs.inner.inner_terms.Goals as goal

pub loop-t-init : goal.loop-t-init
loop-t-init c = grows_none ops (input_count (places_of c.args.given.now)) (input_count (places_of c.args.given.now)) c.push_inputs.new.terms.items

pub loop-t-preserved : goal.loop-t-preserved
loop-t-preserved c =
    let given = places_of c.args.given.now in
    let w = input_count given in
    let t = c.loop-t.t in
    let f = schedule_pairs ops of_number given in
    let old = c.push_inputs.new.terms.items in
    let new = c.push_schedule_pairs.new.terms.items in
    let size = length-range_chunks f 64 (length-schedule_pairs ops of_number given) 16 (t - 16) in
    let there : 16 + (t - 16) ≡ t = omega arith in
    let next : w + 64 * (t - 16) ≡ w + length (flat_map f (range_with_len 16 (t - 16))) = ap (λ n. w + n) (sym size) in
    let more : t - 16 + 1 ≡ t + 1 - 16 = omega arith in
    subst (λ (n : ℕ). Grows ops w w old (flat_map f (range_with_len 16 n)) new) more
    (rows_more ops f w w (w + 64 * (t - 16)) 16 (t - 16) t old c.loop-t.terms.items new there next c.loop-t.invariant c.in_ok-push_schedule_pairs.ensures)

pub loop-round-init : goal.loop-round-init
loop-round-init c = grows_none ops (input_count (places_of c.args.given.now)) (input_count (places_of c.args.given.now) + 3072) c.loop-t.terms.items

pub loop-round-preserved : goal.loop-round-preserved
loop-round-preserved c =
    let given = places_of c.args.given.now in
    let w = input_count given in
    let t = c.loop-round.round in
    let f = round_pairs ops of_number given in
    let old = c.loop-t.terms.items in
    let new = c.push_round_pairs.new.terms.items in
    let size = length-range_chunks f 96 (length-round_pairs ops of_number given) 0 t in
    let next : w + 3072 + 96 * t ≡ w + 3072 + length (flat_map f (range_with_len 0 t)) = ap (λ n. w + 3072 + n) (sym size) in
    rows_more ops f w (w + 3072) (w + 3072 + 96 * t) 0 t t old c.loop-round.terms.items new (omega arith) next c.loop-round.invariant c.in_ok-push_round_pairs.ensures

pub returns : goal.returns
unfolding inner_rows
returns c =
    let given = places_of c.args.given.now in
    let w = input_count given in
    let t0 = c.new-terms.result.items in
    let t1 = c.push_inputs.new.terms.items in
    let t2 = c.loop-t.terms.items in
    let t3 = c.loop-round.terms.items in
    let f = schedule_pairs ops of_number given in
    let g = round_pairs ops of_number given in
    let p = map (pass_row ops) (range_with_len 0 w) in
    let q = flat_map f (range_with_len 16 48) in
    let r = flat_map g (range_with_len 0 64) in
    let end_t : c.loop-t.t - 16 ≡ 48 = omega arith in
    let end_round : c.loop-round.round ≡ 64 = omega arith in
    let size_p : w ≡ 0 + length p = let e = length-map-range_with_len (pass_row ops) 0 w in omega (arith, e) in
    let size_q : w + 3072 ≡ w + length q = ap (λ n. w + n) (sym (length-range_chunks f 64 (length-schedule_pairs ops of_number given) 16 48)) in
    let grow_q = subst (λ (n : ℕ). Grows ops w w t1 (flat_map f (range_with_len 16 n)) t2) end_t c.loop-t.invariant in
    let grow_r = subst (λ (n : ℕ). Grows ops w (w + 3072) t2 (flat_map g (range_with_len 0 n)) t3) end_round c.loop-round.invariant in
    built_from ops w (p ++ (q ++ r)) t3 t0 c.new-terms.ensures.items
    (grows_two ops w 0 w t0 t1 t3 p (q ++ r) size_p c.in_ok-push_inputs.ensures (grows_two ops w w (w + 3072) t1 t2 t3 q r size_q grow_q grow_r))
