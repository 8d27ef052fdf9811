use Rattle.std.proofs.Common.{List, ◌≡◌, ◌∙◌, ap, sym, ℕ, ◌+◌, ◌-◌, ◌<◌, length, map, take, replicate, arith, [], ◌∷◌, ◌++◌}
use Rattle.std.proofs.lemmas.List.{length-append, take_all, get_or-replicate}
use Rattle.lzk_level.specs.FlatGates.{gate_of}
use Rattle.lzk_level.specs.Nodes.{IsGate, after}
use Rattle.lzk_circuit_reduce.specs.Renumbering.{at}
use Rattle.lzk_level.specs.Bounds.{gate_depth, gate_weight}
use Rattle.lzk_level.proofs.GateLaws.{gate-of, low-all, cap, capped-ones, depths-more, weights-more, low-more}
use Rattle.std.proofs.lemmas.Result.{IfOk-from_err}
use Rattle.lzk_level.proofs.measure.sizes_of.Goals as goal

-- so many of one number in a list that had none
filled : (n m : ℕ) (old : List ℕ) (x : ℕ) → old ≡ [] → m ≡ 0 → take n old ++ replicate (n - m) x ≡ replicate n x
filled n m old x e z =
    let all : n - m ≡ n = omega (arith, z) in
    ap (λ xs. take n xs ++ replicate (n - m) x) e ∙ ap (λ xs. xs ++ replicate (n - m) x) (take_all n [] (omega arith)) ∙ ap (λ k. replicate k x) all

-- ones behind a list's only number
filled-behind : (n m : ℕ) (old : List ℕ) → old ≡ 0 ∷ [] → m ≡ 1 → take (1 + n) old ++ replicate (1 + n - m) 1 ≡ 0 ∷ map cap (replicate n 1)
filled-behind n m old e z =
    let rest : 1 + n - m ≡ n = omega (arith, z) in
    ap (λ xs. take (1 + n) xs ++ replicate (1 + n - m) 1) e ∙ ap (λ xs. xs ++ replicate (1 + n - m) 1) (take_all (1 + n) (0 ∷ []) (omega arith)) ∙ ap (λ k. 0 ∷ replicate k 1) rest ∙ ap (λ xs. 0 ∷ xs) (sym (capped-ones n))

pub gate_sizes-depth-requires-clause-low : goal.gate_sizes-depth-requires-clause-low
gate_sizes-depth-requires-clause-low g c κs within k =
    let v = c.loop-i.invariant in
    omega (arith, ap (λ ds. at ds k) c.deref.ensures.value, low-all c.loop-i.depths.items (length c.loop-i.depths.items) v.low k, v.count, c.loop-i-test.true, c.requires.few)

pub loop-i-preserved : goal.loop-i-preserved
loop-i-preserved g c =
    let old = c.loop-i.depths.items in
    let olds = c.loop-i.weights.items in
    let gate = gate_of c.gate.result in
    let d = c.gate_sizes-depth.result.0 in
    let w = c.gate_sizes-depth.result.1 in
    let e = c.gate_sizes-depth.ensures in
    let v = c.loop-i.invariant in
    let made = c.args.made.now in
    let inputs = c.args.inputs in
    let i = c.loop-i.i in
    let new = c.push_reserved-in-loop-i in
    let news = c.push_reserved-in-loop-i-2 in
    let there : i < length made = omega (arith, c.loop-i-test.true, c.len-count.ensures) in
    let is_gate : IsGate (length old - 1) gate = gate-of inputs i (length old) made gate v.count there c.gate.ensures c.requires.gates in
    record {
      count = omega (arith, ap length new.ensures.items, length-append old (d ∷ []), v.count);
      many = omega (arith, ap length news.ensures.items, length-append olds (w ∷ []), v.many);
      depths = depths-more inputs i d made gate old c.deref.result.now new.new.self.items there c.gate.ensures c.deref.ensures.value e.depth v.depths new.ensures.items;
      weights = weights-more inputs i w made gate olds c.deref-in-loop-i.result.now news.new.self.items there c.gate.ensures c.deref-in-loop-i.ensures.value e.weight v.weights news.ensures.items;
      low = low-more d gate old c.deref.result.now new.new.self.items c.deref.ensures.value e.depth (omega (arith, v.count)) v.low is_gate new.ensures.items;
      room = omega (arith, v.room, new.ensures.capacity);
      more_room = omega (arith, v.more_room, news.ensures.capacity);
    }

pub overflow_add-first : goal.overflow_add-first
overflow_add-first g c = omega (arith, c.requires.few)

pub overflow_add-all : goal.overflow_add-all
overflow_add-all g c = omega (arith, c.requires.few, c.len-count.ensures)

pub returns-in_err-depths-clause-depths : goal.returns-in_err-depths-clause-depths
returns-in_err-depths-clause-depths g c = IfOk-from_err _ _ c.from_residual.ensures.0

pub returns-in_err-depths-clause-weights : goal.returns-in_err-depths-clause-weights
returns-in_err-depths-clause-weights g c = IfOk-from_err _ _ c.from_residual.ensures.0

pub returns-in_err-resize-clause-depths : goal.returns-in_err-resize-clause-depths
returns-in_err-resize-clause-depths g c = IfOk-from_err _ _ c.from_residual-in_err-resize.ensures.0

pub returns-in_err-resize-clause-weights : goal.returns-in_err-resize-clause-weights
returns-in_err-resize-clause-weights g c = IfOk-from_err _ _ c.from_residual-in_err-resize.ensures.0

pub returns-in_err-weights-clause-depths : goal.returns-in_err-weights-clause-depths
returns-in_err-weights-clause-depths g c = IfOk-from_err _ _ c.from_residual-in_err-weights.ensures.0

pub returns-in_err-weights-clause-weights : goal.returns-in_err-weights-clause-weights
returns-in_err-weights-clause-weights g c = IfOk-from_err _ _ c.from_residual-in_err-weights.ensures.0

pub returns-in_err-resize-2-clause-depths : goal.returns-in_err-resize-2-clause-depths
returns-in_err-resize-2-clause-depths g c = IfOk-from_err _ _ c.from_residual-in_err-resize-2.ensures.0

pub returns-in_err-resize-2-clause-weights : goal.returns-in_err-resize-2-clause-weights
returns-in_err-resize-2-clause-weights g c = IfOk-from_err _ _ c.from_residual-in_err-resize-2.ensures.0

pub push_reserved-requires : goal.push_reserved-requires
push_reserved-requires g c = omega (arith, c.in_ok-weights.ensures.len, c.in_ok-weights.ensures.capacity)

pub loop-i-init : goal.loop-i-init
loop-i-init g c =
    let inputs = c.args.inputs in
    let none = c.in_ok-depths in
    let one = c.push_reserved in
    let d : c.resize.new.self.items ≡ replicate (1 + inputs) 0 = c.in_ok-resize.ensures.items ∙ filled (1 + inputs) none.depths.len none.depths.items 0 none.ensures.items none.ensures.len in
    let w : c.resize-2.new.self.items ≡ 0 ∷ map cap (replicate inputs 1) =
    c.in_ok-resize-2.ensures.items
    ∙ filled-behind inputs one.new.self.len one.new.self.items (one.ensures.items ∙ ap (λ ns. ns ++ 0 ∷ []) c.in_ok-weights.ensures.items) (omega (arith, one.ensures.len, c.in_ok-weights.ensures.len)) in
    let count : length c.resize.new.self.items ≡ 1 + inputs = omega (arith, c.in_ok-resize.ensures.len, c.resize.new.self.ok.0) in
    record {
      count = omega (arith, count);
      many = omega (arith, c.in_ok-resize-2.ensures.len, c.resize-2.new.self.ok.0);
      depths = d;
      weights = w;
      low = λ k l. omega (arith, l, ap (λ ns. at ns k) d, get_or-replicate {A = ℕ} (1 + inputs) k 0 0 (omega (arith, l, count)));
      room = omega (arith, none.ensures.capacity, c.in_ok-resize.ensures.capacity, c.len-count.ensures);
      more_room = omega (arith, c.in_ok-weights.ensures.capacity, one.ensures.capacity, c.in_ok-resize-2.ensures.capacity, c.len-count.ensures);
    }

pub gate-requires-after_bounds : goal.gate-requires-after_bounds
gate-requires-after_bounds g c κs within = omega (arith, c.loop-i-test.true, c.len-count.ensures)

pub push_reserved-requires-in-loop-i : goal.push_reserved-requires-in-loop-i
push_reserved-requires-in-loop-i g c = omega (arith, c.loop-i.invariant.count, c.loop-i.invariant.room, c.loop-i-test.true, c.len-count.ensures, c.loop-i.depths.ok.0)

pub push_reserved-requires-in-loop-i-2 : goal.push_reserved-requires-in-loop-i-2
push_reserved-requires-in-loop-i-2 g c = omega (arith, c.loop-i.invariant.many, c.loop-i.invariant.more_room, c.loop-i-test.true, c.len-count.ensures, c.loop-i.weights.ok.0)

pub returns-clause-depths : goal.returns-clause-depths
returns-clause-depths g c = c.loop-i.invariant.depths ∙ ap (after gate_depth (replicate (1 + c.args.inputs) 0)) (take_all c.loop-i.i c.args.made.now (omega (arith, c.loop-i-test.false, c.len-count.ensures)))

pub returns-clause-weights : goal.returns-clause-weights
returns-clause-weights g c = c.loop-i.invariant.weights ∙ ap (λ gates. map cap (after gate_weight (0 ∷ replicate c.args.inputs 1) gates)) (take_all c.loop-i.i c.args.made.now (omega (arith, c.loop-i-test.false, c.len-count.ensures)))
