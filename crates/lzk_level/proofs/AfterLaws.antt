-- Depths, weights and values of gates are those over the whole list.
use Rattle.std.specs.Prelude.{◌≡◌, ℕ, ◌+◌, ◌-◌, ◌*◌, ◌<◌, ◌≤◌, max, Option, List, [], ◌∷◌, ◌++◌, length, map, replicate}
use Rattle.std.proofs.Common.{zero, suc, refl, sym, ap, ◌∙◌, arith, subst, get_or}
use Rattle.std.proofs.lemmas.List.{length-append, length-replicate, get_or_append_left}
use Rattle.std.proofs.Math.Seq.{get_or-append_seam}
use Rattle.lzk_field.specs.Ring.{Ops}
use Rattle.lzk_field.specs.Sums.{entry}
use Rattle.lzk_circuit.specs.Wires.{inputs_of}
use Rattle.lzk_level.specs.Gates.{Gate, Constant, Combine, Mul}
use Rattle.lzk_level.specs.declared.fault.LevelFault.{LevelFault}
use Rattle.lzk_level.specs.declared.fault.LevelError.{LevelError}
use Rattle.lzk_level.specs.declared.fault.LevelError.TheVariants.{Fault, OutOfMemory}
use Rattle.lzk_level.specs.Nodes.{Nodes, combined, gate_value, ArePartsOf, IsGate, AreGates, after}
use Rattle.lzk_circuit_reduce.specs.Renumbering.{at}
use Rattle.lzk_level.specs.Bounds.{at_parts, total, greatest, gate_depth, gate_weight, node_depths, layer_count, wire_bound, limit_fault, level_fault_with, level_fault, IsFaultOf, IsLevelError, node_weights}
use Rattle.lzk_level.specs.Levels.{AreDepths, AreWeights, AreValues}

-- the first list stands at the beginning of the second
abbrev pub Front : {X : Type 0} → X → List X → List X → Type 0
Front d xs ys = (k : ℕ) → k < length xs → get_or ys k d ≡ get_or xs k d

module _ {A X : Type 0} where
  -- what a gate makes depends on the entries of its nodes alone
  abbrev pub Local : X → (List X → Gate A → X) → Type 0
  Local d f = (xs ys : List X) (g : Gate A) → Front d xs ys → IsGate (length xs - 1) g → 1 ≤ length xs → f ys g ≡ f xs g

  pub after-length : (f : List X → Gate A → X) (xs : List X) (gs : List (Gate A)) → length (after f xs gs) ≡ length xs + length gs
  after-length f xs [] = omega arith
  after-length f xs (g ∷ gs) = omega (arith, after-length f (xs ++ f xs g ∷ []) gs, length-append xs (f xs g ∷ []))

  pub after-front : (d : X) (f : List X → Gate A → X) (xs : List X) (gs : List (Gate A)) → Front d xs (after f xs gs)
  after-front d f xs [] k l = refl
  after-front d f xs (g ∷ gs) k l =
      after-front d f (xs ++ f xs g ∷ []) gs k (omega (arith, l, length-append xs (f xs g ∷ []))) ∙ get_or_append_left xs (f xs g ∷ []) d k l

  pub after-gates : (d : X) (f : List X → Gate A → X) → Local d f → (xs : List X) (gs : List (Gate A)) → 1 ≤ length xs → AreGates (length xs - 1) gs → (i : ℕ) (e : Gate A) → i < length gs → get_or (after f xs gs) (length xs + i) d ≡ f (after f xs gs) (get_or gs i e)
  after-gates d f local xs [] some h i e l = absurd (omega (arith, l))
  after-gates d f local xs (g ∷ gs) some h zero e l =
      let next = xs ++ f xs g ∷ [] in
      let place : length xs + 0 ≡ length xs = omega arith in
      ap (λ k. get_or (after f next gs) k d) place ∙ after-front d f next gs (length xs) (omega (arith, length-append xs (f xs g ∷ []))) ∙ get_or-append_seam xs (f xs g) [] d
      ∙ sym (local xs (after f next gs) g (λ k m. after-front d f next gs k (omega (arith, m, length-append xs (f xs g ∷ []))) ∙ get_or_append_left xs (f xs g ∷ []) d k m) h.0 some)
  after-gates d f local xs (g ∷ gs) some h (suc i) e l =
      let next = xs ++ f xs g ∷ [] in
      let longer : length next ≡ length xs + 1 = length-append xs (f xs g ∷ []) in
      let place : length xs + suc i ≡ length next + i = omega (arith, longer) in
      let count : length xs - 1 + 1 ≡ length next - 1 = omega (arith, longer, some) in
      ap (λ k. get_or (after f next gs) k d) place ∙ after-gates d f local next gs (omega (arith, longer)) (subst (λ n. AreGates n gs) count h.1) i e (omega (arith, l))

module _ {A : Type 0} where
  same-parts : (xs ys : List ℕ) (n : ℕ) (ps : List (A × ℕ)) → ((k : ℕ) → k < length xs → at ys k ≡ at xs k) → n < length xs → ArePartsOf n ps → at_parts ys ps ≡ at_parts xs ps
  same-parts xs ys n [] f l h = refl
  same-parts xs ys n (p ∷ ps) f l h =
      let node = h.0 in
      ap (λ m. m ∷ at_parts ys ps) (f p.1 (omega (arith, l, node.1))) ∙ ap (λ ms. at xs p.1 ∷ ms) (same-parts xs ys n ps f l h.1)

  pub depth-local : Local {A = A} 0 gate_depth
  depth-local xs ys (Constant c) f h some = refl
  depth-local xs ys (Combine parts) f h some = ap (greatest 1) (same-parts xs ys (length xs - 1) parts f (omega (arith, some)) h.1)
  depth-local xs ys (Mul x y) f h some =
      let left = h.0 in
      let right = h.1 in
      ap (λ m. 1 + max m (at ys y)) (f x (omega (arith, some, left.1))) ∙ ap (λ m. 1 + max (at xs x) m) (f y (omega (arith, some, right.1)))

  pub weight-local : Local {A = A} 0 gate_weight
  weight-local xs ys (Constant c) f h some = refl
  weight-local xs ys (Combine parts) f h some = ap total (same-parts xs ys (length xs - 1) parts f (omega (arith, some)) h.1)
  weight-local xs ys (Mul x y) f h some = refl

module _ {A : Type 0} (o : Ops A) where
  same-combined : (xs ys : List A) (n : ℕ) (ps : List (A × ℕ)) → ((k : ℕ) → k < length xs → entry o ys k ≡ entry o xs k) → n < length xs → ArePartsOf n ps → combined o ys ps ≡ combined o xs ps
  same-combined xs ys n [] f l h = refl
  same-combined xs ys n (p ∷ ps) f l h =
      let node = h.0 in
      ap (λ w. o.plus (o.times p.0 w) (combined o ys ps)) (f p.1 (omega (arith, l, node.1))) ∙ ap (o.plus (o.times p.0 (entry o xs p.1))) (same-combined xs ys n ps f l h.1)

  pub value-local : Local o.zero (gate_value o)
  value-local xs ys (Constant c) f h some = refl
  value-local xs ys (Combine parts) f h some = same-combined xs ys (length xs - 1) parts f (omega (arith, some)) h.1
  value-local xs ys (Mul x y) f h some =
      let left = h.0 in
      let right = h.1 in
      ap (λ w. o.times w (entry o ys y)) (f x (omega (arith, some, left.1))) ∙ ap (o.times (entry o xs x)) (f y (omega (arith, some, right.1)))

  pub values-are : (inputs : ℕ) (made : List (Gate A)) (public private : List A) → inputs ≡ 1 + length public + length private → AreGates (inputs - 1) made → AreValues o inputs made (after (gate_value o) (inputs_of o public private) made)
  values-are inputs made public private e h =
      let start = inputs_of o public private in
      let long : length start ≡ inputs = omega (arith, e, length-append public private) in
      record {
        count = after-length (gate_value o) start made ∙ ap (λ n. n + length made) long;
        one = after-front o.zero (gate_value o) start made 0 (omega (arith, long, e));
        gates = λ i d l. ap (λ n. entry o (after (gate_value o) start made) (n + i)) (sym long) ∙ after-gates o.zero (gate_value o) value-local start made (omega (arith, long, e)) (subst (λ n. AreGates (n - 1) made) (sym long) h) i d l;
      }

zero_in : (n k : ℕ) → at (replicate n 0) k ≡ 0
zero_in zero k = refl
zero_in (suc n) zero = refl
zero_in (suc n) (suc k) = zero_in n k

one_in : (n k : ℕ) → k < n → at (replicate n 1) k ≡ 1
one_in zero k l = absurd (omega (arith, l))
one_in (suc n) zero l = refl
one_in (suc n) (suc k) l = one_in n k (omega (arith, l))

after_one : (n k : ℕ) → 1 ≤ k → k < 1 + n → at (0 ∷ replicate n 1) k ≡ 1
after_one n zero l m = absurd (omega (arith, l))
after_one n (suc k) l m = one_in n k (omega (arith, m))

module _ {A : Type 0} where
  pub depths-are : (inputs : ℕ) (made : List (Gate A)) → 1 ≤ inputs → AreGates (inputs - 1) made → AreDepths inputs made (after gate_depth (replicate inputs 0) made)
  depths-are inputs made some h =
      let start = replicate inputs 0 in
      let long : length start ≡ inputs = length-replicate inputs 0 in
      record {
        count = after-length gate_depth start made ∙ ap (λ n. n + length made) long;
        at_inputs = λ k l. after-front 0 gate_depth start made k (omega (arith, long, l)) ∙ zero_in inputs k;
        gates = λ i d l. ap (λ n. at (after gate_depth start made) (n + i)) (sym long) ∙ after-gates 0 gate_depth depth-local start made (omega (arith, long, some)) (subst (λ n. AreGates (n - 1) made) (sym long) h) i d l;
      }

  pub weights-are : (inputs : ℕ) (made : List (Gate A)) → AreGates inputs made → AreWeights (1 + inputs) made (after gate_weight (0 ∷ replicate inputs 1) made)
  weights-are inputs made h =
      let start = 0 ∷ replicate inputs 1 in
      let one : ℕ = 1 in
      let long : length start ≡ 1 + inputs = omega (arith, length-replicate inputs one) in
      record {
        count = after-length gate_weight start made ∙ ap (λ n. n + length made) long;
        one = after-front 0 gate_weight start made 0 (omega (arith, long));
        at_inputs = λ k l m. after-front 0 gate_weight start made k (omega (arith, long, m)) ∙ after_one inputs k l m;
        gates = λ i d l. ap (λ n. at (after gate_weight start made) (n + i)) (sym long) ∙ after-gates 0 gate_weight weight-local start made (omega (arith, long)) (let e : inputs ≡ length start - 1 = omega (arith, long) in subst (λ n. AreGates n made) e h) i d l;
      }

  -- the limits by the depths of the code are those of the nodes
  pub limits-of : (further : ℕ) (n : Nodes A) (outputs depths weights : List ℕ) (answer : Option LevelFault) → depths ≡ node_depths n → length (node_depths n) ≡ wire_bound n
      → limit_fault (greatest 1 (map (at depths) outputs)) (length depths + further) (greatest 1 (map (at depths) outputs) * (length depths + further) + total weights + total (map (at weights) outputs)) ≡ answer
      → limit_fault (layer_count n outputs) (wire_bound n + further) (layer_count n outputs * (wire_bound n + further) + total weights + total (map (at weights) outputs)) ≡ answer
  limits-of further n outputs depths weights answer e long h =
      let rest = total weights in
      let top = total (map (at weights) outputs) in
      subst (λ w. limit_fault (layer_count n outputs) (w + further) (layer_count n outputs * (w + further) + rest + top) ≡ answer) long
      (subst (λ ds. limit_fault (greatest 1 (map (at ds) outputs)) (length ds + further) (greatest 1 (map (at ds) outputs) * (length ds + further) + rest + top) ≡ answer) e h)

  -- no further wires
  pub no-further : (n : Nodes A) (outputs : List ℕ) → level_fault_with 0 n outputs ≡ level_fault n outputs
  no-further n outputs =
      let e : wire_bound n + 0 ≡ wire_bound n = omega arith in
      ap (λ w. limit_fault (layer_count n outputs) w (layer_count n outputs * w + total (node_weights n) + total (map (at (node_weights n)) outputs))) e

  pub no-further-error : (n : Nodes A) (outputs : List ℕ) (e : LevelError) → IsFaultOf (level_fault_with 0 n outputs) e → IsLevelError n outputs e
  no-further-error n outputs (Fault f) h = sym (no-further n outputs) ∙ h
  no-further-error n outputs OutOfMemory h = tt
