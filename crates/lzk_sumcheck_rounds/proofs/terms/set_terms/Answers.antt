use Rattle.std.proofs.Common.{◌≡◌, ◌+◌, ◌<◌, ◌≤◌, ◌∷◌, ℕ, length, map, take, drop, refl, ap, ◌∙◌, sym, arith, subst, []}
use Rattle.std.specs.Prelude.{List, Some, ◌==◌, cond, slice_index_or}
use Rattle.std.proofs.lemmas.Option.{slice_get-get_or}
use Rattle.std.proofs.lemmas.List.{drop_more, drop_all, get_or_default, get_or-map, length-map}
use Rattle.lzk_field.specs.Ring.{Ops}
use Rattle.lzk_circuit.specs.declared.layer.Term.{Term}
use Rattle.lzk_circuit.specs.Wires.{weighed_term, weighed}
use Rattle.lzk_sumcheck_rounds.specs.declared.pairs.Pair.{Pair}
use Rattle.lzk_sumcheck_rounds.specs.Pairs.{first_pair, spread, ArePairs}
use Rattle.lzk_sumcheck_rounds.specs.Rows.{counted}
use Rattle.lzk_sumcheck_rounds.proofs.KeptLaws.{counted_none, counted_more}
use Rattle.lzk_sumcheck_rounds.proofs.LayerSends.{no_term}
use Rattle.lzk_sumcheck_rounds.proofs.OrderLaws.{order_length, place_below, picked, sum-permuted, pairs-permuted}
use Rattle.lzk_sumcheck_rounds.proofs.terms.set_terms.Goals as goal

-- the pairs in the order
abbrev pairs_in : {A : Type 0} → Ops A → A → List A → List (Term A) → List ℕ → List (Pair A)
pairs_in o beta weights ts ks = map (λ k. first_pair o weights (weighed_term o beta (slice_index_or ts k (no_term o)))) ks

-- the pair of a term with beta for a coefficient of 0
abbrev pair_by : {A : Type 0} → Ops A → A → List A → Term A → Pair A
pair_by o beta weights t = first_pair o weights (weighed_term o beta t)

all_by : {A : Type 0} (o : Ops A) (beta : A) (weights : List A) (ts : List (Term A)) → map (pair_by o beta weights) ts ≡ map (first_pair o weights) (weighed o beta ts)
all_by o beta weights [] = refl
all_by o beta weights (t ∷ ts) = ap (λ ps. pair_by o beta weights t ∷ ps) (all_by o beta weights ts)

pub loop-i-init : goal.loop-i-init
loop-i-init g c =
    let m = g.F.Field in
    let o = m.ops in
    record {
      pairs = omega arith;
      linear = c.set_zeros.auto.rows;
      counted = counted_none o m.laws.ring (pairs_in o c.args.beta c.args.weights.now c.args.terms.now c.args.order.now) c.args.pairs.now c.set_zeros.new.rows c.set_zeros.ensures;
    }

pub offset_bounds-terms-k : goal.offset_bounds-terms-k
offset_bounds-terms-k g c = omega (arith, place_below c.args.terms.now c.args.order.now c.requires.order c.loop-i.i 0 (omega arith))

pub bounds-terms-k : goal.bounds-terms-k
bounds-terms-k g c = place_below c.args.terms.now c.args.order.now c.requires.order c.loop-i.i 0 (omega arith)

pub put_term-kept-requires-clause-place : goal.put_term-kept-requires-clause-place
put_term-kept-requires-clause-place g c κs within =
    omega (arith, c.loop-i.invariant.counted.count, c.loop-i.invariant.pairs, c.requires.room, order_length c.args.terms.now c.args.order.now c.requires.order)

pub put_term-kept-requires-clause-linear : goal.put_term-kept-requires-clause-linear
put_term-kept-requires-clause-linear g c κs within =
    let ts = c.args.terms.now in
    let k = slice_index_or c.args.order.now c.loop-i.i 0 in
    let inside = c.requires.linear k c.index-terms-k.result (slice_get-get_or ts k c.index-terms-k.result (place_below ts c.args.order.now c.requires.order c.loop-i.i 0 (omega arith)) ∙ ap Some (sym c.index-terms-k.is)) in
    omega (arith, inside, c.loop-i.invariant.linear)

pub loop-i-preserved : goal.loop-i-preserved
loop-i-preserved g c =
    let m = g.F.Field in
    let o = m.ops in
    let w = c.args.weights.now in
    let ts = c.args.terms.now in
    let ps = c.args.order.now in
    let i = c.loop-i.i in
    let inside : i < length ps = omega arith in
    let k = slice_index_or ps i 0 in
    let t = c.index-terms-k.result in
    let q = pair_by o c.args.beta w t in
    let qs = pairs_in o c.args.beta w ts ps in
    let term : t ≡ slice_index_or ts (slice_index_or ps i 0) (no_term o) =
    c.index-terms-k.is ∙ get_or_default ts k t (no_term o) (place_below ts ps c.requires.order i 0 inside) in
    let there : i < length qs = omega (arith, inside, length-map ps (λ n. pair_by o c.args.beta w (slice_index_or ts n (no_term o)))) in
    let front : drop i qs ≡ q ∷ drop (i + 1) qs =
    drop_more qs i q there ∙ ap (λ x. x ∷ drop (i + 1) qs) (get_or-map (λ n. pair_by o c.args.beta w (slice_index_or ts n (no_term o))) ps i 0 q inside ∙ ap (pair_by o c.args.beta w) (sym term)) in
    let e = c.put_term-kept.ensures in
    record {
      pairs = c.put_term-kept.auto.pairs ∙ c.loop-i.invariant.pairs;
      linear = c.put_term-kept.auto.linear ∙ c.loop-i.invariant.linear;
      counted = counted_more o m.laws.ring qs c.loop-i.pairs c.put_term-kept.new.pairs c.loop-i.linear c.put_term-kept.new.linear i c.loop-i.kept c.put_term-kept.result q c.loop-i.invariant.counted front e.count e.sums e.within;
    }

pub returns-clause-count : goal.returns-clause-count
returns-clause-count g c =
    omega (arith, c.loop-i.invariant.counted.count, c.loop-i-test.false, c.loop-i.auto.i-end, c.requires.room, order_length c.args.terms.now c.args.order.now c.requires.order)

pub returns-clause-sums : goal.returns-clause-sums
returns-clause-sums g c = λ i j.
    let m = g.F.Field in
    let o = m.ops in
    let w = c.args.weights.now in
    let ts = c.args.terms.now in
    let ks = c.args.order.now in
    let qs = pairs_in o c.args.beta w ts ks in
    let n = counted o (take c.loop-i.kept c.loop-i.pairs) c.loop-i.linear i j in
    let past : length qs ≤ c.loop-i.i = omega (arith, c.loop-i-test.false, length-map ks (λ k. pair_by o c.args.beta w (slice_index_or ts k (no_term o)))) in
    sym (m.laws.ring.plus_zero n) ∙ sym (ap (λ xs. o.plus n (spread o xs i j)) (drop_all c.loop-i.i qs past)) ∙ c.loop-i.invariant.counted.sums i j
    ∙ sum-permuted o m.laws.ring (λ (p : Pair g.row.F.Denot). cond (i == p.a) (cond (j == p.b) p.coef o.zero) o.zero) (map (pair_by o c.args.beta w) ts) qs (picked (pair_by o c.args.beta w) (no_term o) ts ks c.requires.order)
    ∙ ap (λ ps. spread o ps i j) (all_by o c.args.beta w ts)

pub returns-clause-within : goal.returns-clause-within
returns-clause-within g c = λ n m h.
    let o = g.F.Field.ops in
    let ts = c.args.terms.now in
    let w = c.args.weights.now in
    let ks = c.args.order.now in
    let both = c.loop-i.invariant.counted.within n m (pairs-permuted n m (map (pair_by o c.args.beta w) ts) (pairs_in o c.args.beta w ts ks) (picked (pair_by o c.args.beta w) (no_term o) ts ks c.requires.order) (subst (ArePairs n m) (sym (all_by o c.args.beta w ts)) h)) in
    both.0
