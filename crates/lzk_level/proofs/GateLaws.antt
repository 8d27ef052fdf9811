-- Lists of gates, and what each makes of those before it.
use Rattle.std.specs.Prelude.{◌≡◌, ℕ, ◌+◌, ◌-◌, ◌^◌, ◌<◌, ◌≤◌, max, min, List, [], ◌∷◌, ◌++◌, length, map, replicate, take, Result, Ok, Err, OnOk, OnErr}
use Rattle.std.proofs.Common.{zero, suc, inl, inr, refl, sym, ap, ◌∙◌, arith, subst, get_or}
use Rattle.std.proofs.lemmas.Bool.{cases_lt}
use Rattle.std.proofs.lemmas.List.{take_more, length-append, map-append, get_or_append_left}
use Rattle.std.proofs.Math.Seq.{get_or-append_seam}
use Rattle.lzk_level.specs.Gates.{Gate, Constant, Combine, Mul}
use Rattle.lzk_level.specs.Nodes.{ArePartsOf, IsGate, AreGates, after}
use Rattle.lzk_circuit_reduce.specs.Renumbering.{at}
use Rattle.lzk_level.specs.Bounds.{at_parts, total, greatest, gate_depth, gate_weight}
use Rattle.lzk_level.proofs.NodeLaws.{gate-at}

module _ {A : Type 0} where
  pub gates-more : (n m : ℕ) (made : List (Gate A)) (gate : Gate A) → m ≡ n + length made → AreGates n made → IsGate m gate → AreGates n (made ++ gate ∷ [])
  gates-more n m [] gate e h k = (let f : m ≡ n = omega (arith, e) in subst (λ i. IsGate i gate) f k, tt)
  gates-more n m (g ∷ gs) gate e h k = (h.0, gates-more (n + 1) m gs gate (omega (arith, e)) h.1 k)

  -- a builder with one more gate, where a call went well
  pub builder-either : {T E : Type 0} (r : Result T E) (p q : ℕ) (made new : List (Gate A)) (gate : Gate A) → OnOk r (new ≡ made ++ gate ∷ []) → OnErr r (new ≡ made) → p + q + length made < 2147483648 → AreGates (p + q) made → IsGate (p + q + length made) gate
      → (p + q + length new ≤ 2147483648) × AreGates (p + q) new
  builder-either (Ok x) p q made new gate e f room h k =
      (omega (arith, room, ap length e, length-append made (gate ∷ [])), subst (AreGates (p + q)) (sym e) (gates-more (p + q) (p + q + length made) made gate refl h k))
  builder-either (Err x) p q made new gate e f room h k = (omega (arith, room, ap length f), subst (AreGates (p + q)) (sym f) h)

pub greatest-append : (m n : ℕ) (ns : List ℕ) → greatest m (ns ++ n ∷ []) ≡ max (greatest m ns) n
greatest-append m n [] = omega arith
greatest-append m n (k ∷ ns) = omega (arith, greatest-append m n ns)

pub total-append : (ns : List ℕ) (n : ℕ) → total (ns ++ n ∷ []) ≡ total ns + n
total-append [] n = omega arith
total-append (k ∷ ns) n = omega (arith, total-append ns n)

module _ {A : Type 0} where
  pub parts-more : (ns : List ℕ) (ps : List (A × ℕ)) (i : ℕ) (p : A × ℕ) → i < length ps → p ≡ get_or ps i p → at_parts ns (take (i + 1) ps) ≡ at_parts ns (take i ps) ++ at ns p.1 ∷ []
  parts-more ns ps i p l e =
      ap (at_parts ns) (take_more ps i p l) ∙ map-append (λ q. at ns q.1) (take i ps) (get_or ps i p ∷ []) ∙ ap (λ q. at_parts ns (take i ps) ++ at ns q.1 ∷ []) (sym e)

pub numbers-more : (ns ks : List ℕ) (i k : ℕ) → i < length ks → k ≡ at ks i → map (at ns) (take (i + 1) ks) ≡ map (at ns) (take i ks) ++ at ns k ∷ []
numbers-more ns ks i k l e = ap (map (at ns)) (take_more ks i 0 l) ∙ map-append (at ns) (take i ks) (at ks i ∷ []) ∙ ap (λ j. map (at ns) (take i ks) ++ at ns j ∷ []) (sym e)

-- a sum that stops at the last value of u64, and one more number
pub capped-more : (sum all n next whole : ℕ) → sum ≡ min (2 ^ 64 - 1) all → next ≡ min (sum + n) (2 ^ 64 - 1) → whole ≡ all + n → next ≡ min (2 ^ 64 - 1) whole
capped-more sum all n next whole e f w = omega (arith, e, f, w)

module _ {A X : Type 0} where
  pub after-more : (f : List X → Gate A → X) (xs : List X) (gs : List (Gate A)) (g : Gate A) → after f xs (gs ++ g ∷ []) ≡ after f xs gs ++ f (after f xs gs) g ∷ []
  after-more f xs [] g = refl
  after-more f xs (h ∷ gs) g = after-more f (xs ++ f xs h ∷ []) gs g

  pub after-next : (f : List X → Gate A → X) (xs : List X) (made : List (Gate A)) (i : ℕ) (g : Gate A) → i < length made → g ≡ get_or made i g → after f xs (take (i + 1) made) ≡ after f xs (take i made) ++ f (after f xs (take i made)) g ∷ []
  after-next f xs made i g l e =
      ap (after f xs) (take_more made i g l) ∙ after-more f xs (take i made) (get_or made i g) ∙ ap (λ h. after f xs (take i made) ++ f (after f xs (take i made)) h ∷ []) (sym e)

abbrev pub cap : ℕ → ℕ
cap n = min (2 ^ 64 - 1) n

pub capped-ones : (n : ℕ) → map cap (replicate n 1) ≡ replicate n 1
capped-ones zero = refl
capped-ones (suc n) = let one : cap 1 ≡ 1 = omega arith in ap (λ k. k ∷ map cap (replicate n 1)) one ∙ ap (λ ks. 1 ∷ ks) (capped-ones n)

pub cap-at : (ns : List ℕ) (k : ℕ) → at (map cap ns) k ≡ cap (at ns k)
cap-at [] k = omega arith
cap-at (n ∷ ns) zero = refl
cap-at (n ∷ ns) (suc k) = cap-at ns k

pub cap-total : (ns : List ℕ) → cap (total (map cap ns)) ≡ cap (total ns)
cap-total [] = refl
cap-total (n ∷ ns) = omega (arith, cap-total ns)

pub cap-outputs : (ns ks : List ℕ) → cap (total (map (at (map cap ns)) ks)) ≡ cap (total (map (at ns) ks))
cap-outputs ns [] = refl
cap-outputs ns (k ∷ ks) = omega (arith, cap-at ns k, cap-outputs ns ks)

module _ {A : Type 0} where
  cap-parts : (ns : List ℕ) (ps : List (A × ℕ)) → cap (total (at_parts (map cap ns) ps)) ≡ cap (total (at_parts ns ps))
  cap-parts ns [] = refl
  cap-parts ns (p ∷ ps) = omega (arith, cap-at ns p.1, cap-parts ns ps)

  pub cap-gate : (ns : List ℕ) (g : Gate A) → cap (gate_weight (map cap ns) g) ≡ cap (gate_weight ns g)
  cap-gate ns (Constant c) = refl
  cap-gate ns (Combine parts) = cap-parts ns parts
  cap-gate ns (Mul x y) = refl

  parts-most : (ds : List ℕ) (n : ℕ) (ps : List (A × ℕ)) → 1 ≤ n → ((k : ℕ) → k < length ds → at ds k < n) → ArePartsOf (length ds - 1) ps → greatest 1 (at_parts ds ps) ≤ n
  parts-most ds n [] l f h = l
  parts-most ds n (p ∷ ps) l f h = let node = h.0 in omega (arith, f p.1 (omega (arith, node.0, node.1)), parts-most ds n ps l f h.1)

  pub depth-most : (ds : List ℕ) (g : Gate A) → 1 ≤ length ds → ((k : ℕ) → k < length ds → at ds k < length ds) → IsGate (length ds - 1) g → gate_depth ds g ≤ length ds
  depth-most ds (Constant c) l f h = l
  depth-most ds (Combine parts) l f h = parts-most ds (length ds) parts l f h.1
  depth-most ds (Mul x y) l f h =
      let left = h.0 in
      let right = h.1 in
      omega (arith, f x (omega (arith, left.0, left.1)), f y (omega (arith, right.0, right.1)))

  pub gate-of : (inputs i n : ℕ) (made : List (Gate A)) (g : Gate A) → n ≡ 1 + inputs + i → i < length made → g ≡ get_or made i g → AreGates inputs made → IsGate (n - 1) g
  gate-of inputs i n made g e l is h =
      let m : inputs + i ≡ n - 1 = omega (arith, e) in
      subst (λ k. IsGate k g) m (subst (IsGate (inputs + i)) (sym is) (gate-at inputs i made g h l))

pub low-all : (ds : List ℕ) (n : ℕ) → ((k : ℕ) → k < length ds → at ds k < n) → (k : ℕ) → at ds k ≤ n
low-all [] n f k = omega arith
low-all (d ∷ ds) n f zero = omega (arith, f 0 (omega arith))
low-all (d ∷ ds) n f (suc k) = low-all ds n (λ i l. f (suc i) (omega (arith, l))) k

pub below-more : (ds : List ℕ) (d : ℕ) → ((k : ℕ) → k < length ds → at ds k < length ds) → d ≤ length ds → (k : ℕ) → k < length (ds ++ d ∷ []) → at (ds ++ d ∷ []) k < length (ds ++ d ∷ [])
below-more ds d f l k m = elim (cases_lt k (length ds)) [
  | inl n ↦ omega (arith, get_or_append_left ds (d ∷ []) 0 k n, f k n, length-append ds (d ∷ []))
  | inr n ↦
      let e : k ≡ length ds = omega (arith, n, m, length-append ds (d ∷ [])) in
      omega (arith, ap (at (ds ++ d ∷ [])) e, get_or-append_seam ds d [] 0, l, length-append ds (d ∷ []))
]

pub capped-all : (m n : ℕ) (weights all ks : List ℕ) → m ≡ n → weights ≡ map cap all → cap (cap (m + total weights) + cap (total (map (at weights) ks))) ≡ cap (n + total all + total (map (at all) ks))
capped-all m n weights all ks e w =
    ap (λ ws. cap (cap (m + total ws) + cap (total (map (at ws) ks)))) w ∙ omega (arith, e, cap-total all, cap-outputs all ks)

module _ {A : Type 0} where
  -- the depths with one gate more, and the weights, which stop at the last value of u64
  pub depths-more : (inputs i d : ℕ) (made : List (Gate A)) (gate : Gate A) (old here new : List ℕ) → i < length made → gate ≡ get_or made i gate → here ≡ old → d ≡ gate_depth here gate → old ≡ after gate_depth (replicate (1 + inputs) 0) (take i made) → new ≡ old ++ d ∷ []
      → new ≡ after gate_depth (replicate (1 + inputs) 0) (take (i + 1) made)
  depths-more inputs i d made gate old here new l is same e h grown =
      let start : List ℕ = replicate (1 + inputs) 0 in
      grown ∙ ap (λ x. old ++ x ∷ []) (e ∙ ap (λ ds. gate_depth ds gate) same) ∙ ap (λ ds. ds ++ gate_depth ds gate ∷ []) h ∙ sym (after-next gate_depth start made i gate l is)

  pub weights-more : (inputs i w : ℕ) (made : List (Gate A)) (gate : Gate A) (old here new : List ℕ) → i < length made → gate ≡ get_or made i gate → here ≡ old → w ≡ cap (gate_weight here gate) → old ≡ map cap (after gate_weight (0 ∷ replicate inputs 1) (take i made)) → new ≡ old ++ w ∷ []
      → new ≡ map cap (after gate_weight (0 ∷ replicate inputs 1) (take (i + 1) made))
  weights-more inputs i w made gate old here new l is same e h grown =
      let start : List ℕ = 0 ∷ replicate inputs 1 in
      let all : List ℕ = after gate_weight start (take i made) in
      let w_is : w ≡ cap (gate_weight all gate) = e ∙ ap (λ ws. cap (gate_weight ws gate)) (same ∙ h) ∙ cap-gate all gate in
      grown ∙ ap (λ x. old ++ x ∷ []) w_is ∙ ap (λ ws. ws ++ cap (gate_weight all gate) ∷ []) h ∙ sym (ap (map cap) (after-next gate_weight start made i gate l is) ∙ map-append cap all (gate_weight all gate ∷ []))

  -- no depth reaches how many there are
  pub low-more : (d : ℕ) (gate : Gate A) (old here new : List ℕ) → here ≡ old → d ≡ gate_depth here gate → 1 ≤ length old → ((k : ℕ) → k < length old → at old k < length old) → IsGate (length old - 1) gate → new ≡ old ++ d ∷ [] → (k : ℕ) → k < length new → at new k < length new
  low-more d gate old here new same e some low is grown =
      let d_is : d ≡ gate_depth old gate = e ∙ ap (λ ds. gate_depth ds gate) same in
      subst (λ ns. (k : ℕ) → k < length ns → at ns k < length ns) (sym grown) (below-more old d low (omega (arith, d_is, depth-most old gate some low is)))
