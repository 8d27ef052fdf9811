-- The values of nodes as nodes are added.
use Rattle.std.specs.Prelude.{◌≡◌, ℕ, ◌+◌, ◌-◌, ◌<◌, ◌≤◌, Bool, true, false, cond, List, [], ◌∷◌, ◌++◌, length, Option, Some, None, unwrap_or}
use Rattle.std.proofs.Common.{zero, suc, refl, sym, ap, ap₂, ◌∙◌, arith, get_or}
use Rattle.std.proofs.lemmas.List.{length-append, get_or_append_left}
use Rattle.std.proofs.Math.Seq.{get_or-append_seam, get_or-append_right}
use Rattle.std.proofs.lemmas.Bool.{and_parts}
use Rattle.lzk_field.specs.Ring.{Ops, RingLaws}
use Rattle.lzk_field.specs.Sums.{entry}
use Rattle.lzk_field.proofs.RingBasics.{one_times, times_left_comm, neg_times}
use Rattle.lzk_circuit.specs.Wires.{inputs_of}
use Rattle.lzk_expr.specs.Trees.{Expr, Number, PublicInput, PrivateInput, Named, Neg, Added, Multiplied, Parts, NoPart, part, Exprs, NoExpr, factor}
use Rattle.lzk_expr.specs.SourceValues.{Given, given, signed, value_of, parts_value, factors_value}
use Rattle.lzk_level.specs.Gates.{Gate}
use Rattle.lzk_level.specs.Gates as gate
use Rattle.lzk_level.specs.declared.lets.Operand.{Operand}
use Rattle.lzk_level.specs.declared.lets.Operand.TheVariants.{Constant, AtNode}
use Rattle.lzk_level.specs.Nodes.{Nodes, node_count, with_gate, IsNode, after, gate_value, node_values, combined}
use Rattle.lzk_level.specs.Compilable.{IsWithin, ArePartsWithin, AreFactorsWithin, size_of, parts_size, factors_size, IsOperand, AreOperands, IsNodeOrNone}
use Rattle.lzk_level.specs.Compiling.{Scope, scope, let_at, is_known, known, is_constant, are_constant_parts, are_constant, constants, constant, constant_factor, Made, MadeFactors, next, at_let, multiple, summed, joined, factored, product, scaled, made, made_parts, made_factors}
use Rattle.lzk_level.proofs.AfterLaws.{after-length, after-front}
use Rattle.lzk_level.proofs.ConstantLaws.{known-at}
use Rattle.lzk_level.proofs.MadeLaws.{Grown, grown-count, same-inputs, node-more, IsSomeNode, made-grown, parts-grown, factors-grown, grown-factored, made-there, factored-there, factors-some}

module _ {A X : Type 0} where
  after-append : (f : List X → Gate A → X) (xs : List X) (gs hs : List (Gate A)) → after f xs (gs ++ hs) ≡ after f (after f xs gs) hs
  after-append f xs [] hs = refl
  after-append f xs (g ∷ gs) hs = after-append f (xs ++ f xs g ∷ []) gs hs

module _ {A : Type 0} (public private : List A) where
  -- there is a value for each input
  pub record Fits (n : Nodes A) : Type 0 where
    pub publics : length public ≡ n.publics
    pub privates : length private ≡ n.privates

  pub fits-grown : (n m : Nodes A) (most : ℕ) → Grown n m most → Fits n → Fits m
  fits-grown n m most g f = record { publics = f.publics ∙ sym g.publics; privates = f.privates ∙ sym g.privates }

module _ {A : Type 0} (o : Ops A) (public private : List A) where
  abbrev pub values : Nodes A → List A
  values n = node_values o n public private

  pub values-length : (n : Nodes A) → Fits public private n → length (values n) ≡ 1 + node_count n
  values-length n f = omega (arith, after-length (gate_value o) (inputs_of o public private) n.made, length-append public private, f.publics, f.privates)

  -- a node keeps its value
  pub values-grown : (n m : Nodes A) (most k : ℕ) → Grown n m most → Fits public private n → k ≤ node_count n → entry o (values m) k ≡ entry o (values n) k
  values-grown n m most k g f l =
      ap (λ gs. entry o (after (gate_value o) (inputs_of o public private) gs) k) g.behind
      ∙ ap (λ vs. entry o vs k) (after-append (gate_value o) (inputs_of o public private) n.made g.more)
      ∙ after-front o.zero (gate_value o) (values n) g.more k (omega (arith, l, values-length n f))

  -- the value of a new node
  pub value-next : (n : Nodes A) (g : Gate A) → Fits public private n → entry o (values (with_gate n g)) (1 + node_count n) ≡ gate_value o (values n) g
  value-next n g f =
      ap (λ vs. entry o vs (1 + node_count n)) (after-append (gate_value o) (inputs_of o public private) n.made (g ∷ []))
      ∙ ap (entry o (values n ++ gate_value o (values n) g ∷ [])) (sym (values-length n f))
      ∙ get_or-append_seam (values n) (gate_value o (values n) g) [] o.zero

  input-value : (n : Nodes A) (k : ℕ) → k < 1 + length public + length private → entry o (values n) k ≡ entry o (inputs_of o public private) k
  input-value n k l = after-front o.zero (gate_value o) (inputs_of o public private) n.made k (omega (arith, l, length-append public private))

  one-more : (x : A) (xs : List A) (i : ℕ) → entry o (x ∷ xs) (1 + i) ≡ entry o xs i
  one-more x xs i = let e : 1 + i ≡ suc i = omega arith in ap (entry o (x ∷ xs)) e

  pub public-value : (n : Nodes A) (i : ℕ) → Fits public private n → i < n.publics → entry o (values n) (1 + i) ≡ entry o public i
  public-value n i f l = input-value n (1 + i) (omega (arith, l, f.publics)) ∙ one-more o.one (public ++ private) i ∙ get_or_append_left public private o.zero i (omega (arith, l, f.publics))

  pub private-value : (n : Nodes A) (i : ℕ) → Fits public private n → i < n.privates → entry o (values n) (1 + n.publics + i) ≡ entry o private i
  private-value n i f l =
      let e : 1 + n.publics + i ≡ 1 + (n.publics + i) = omega arith in
      let d : n.publics + i - length public ≡ i = omega (arith, f.publics) in
      input-value n (1 + n.publics + i) (omega (arith, l, f.publics, f.privates)) ∙ ap (entry o (inputs_of o public private)) e ∙ one-more o.one (public ++ private) (n.publics + i)
      ∙ get_or-append_right public private (n.publics + i) o.zero (omega (arith, f.publics)) ∙ ap (entry o private) d

  -- ---- what let names stand for
  abbrev pub Means : Nodes A → Operand A → A → Type 0
  Means n (Constant c) v = c ≡ v
  Means n (AtNode k) v = IsNode (node_count n) k × (entry o (values n) k ≡ v)

  abbrev pub AreLets : Nodes A → List (Operand A) → List A → Type 0
  AreLets n [] [] = Unit {0}
  AreLets n [] (v ∷ vs) = ⊥
  AreLets n (x ∷ xs) [] = ⊥
  AreLets n (x ∷ xs) (v ∷ vs) = Means n x v × AreLets n xs vs

  pub let-means : (n : Nodes A) (xs : List (Operand A)) (vs : List A) (i : ℕ) → AreLets n xs vs → Means n (get_or xs i (Constant o.zero)) (entry o vs i)
  let-means n [] [] i h = refl
  let-means n [] (v ∷ vs) i h = absurd h
  let-means n (x ∷ xs) [] i h = absurd h
  let-means n (x ∷ xs) (v ∷ vs) zero h = h.0
  let-means n (x ∷ xs) (v ∷ vs) (suc i) h = let-means n xs vs i h.1

  means-grown : (n m : Nodes A) (most : ℕ) (x : Operand A) (v : A) → Grown n m most → Fits public private n → Means n x v → Means m x v
  means-grown n m most (Constant c) v g f h = h
  means-grown n m most (AtNode k) v g f h =
      let node = h.0 in
      (node-more (node_count n) (node_count m) k (grown-count n m most g).0 node, values-grown n m most k g f node.1 ∙ h.1)

  pub lets-grown : (n m : Nodes A) (most : ℕ) (xs : List (Operand A)) (vs : List A) → Grown n m most → Fits public private n → AreLets n xs vs → AreLets m xs vs
  lets-grown n m most [] [] g f h = tt
  lets-grown n m most [] (v ∷ vs) g f h = absurd h
  lets-grown n m most (x ∷ xs) [] g f h = absurd h
  lets-grown n m most (x ∷ xs) (v ∷ vs) g f h = (means-grown n m most x v g f h.0, lets-grown n m most xs vs g f h.1)

  pub lets-push : (n : Nodes A) (xs : List (Operand A)) (vs : List A) (x : Operand A) (v : A) → AreLets n xs vs → Means n x v → AreLets n (xs ++ x ∷ []) (vs ++ v ∷ [])
  lets-push n [] [] x v h k = (k, tt)
  lets-push n [] (w ∷ vs) x v h k = absurd h
  lets-push n (y ∷ xs) [] x v h k = absurd h
  lets-push n (y ∷ xs) (w ∷ vs) x v h k = (h.0, lets-push n xs vs x v h.1 k)

  operand-means : (n : Nodes A) (x : Operand A) (v : A) → Means n x v → IsOperand (node_count n) x
  operand-means n (Constant c) v h = tt
  operand-means n (AtNode k) v h = h.0

  pub lets-operands : (n : Nodes A) (xs : List (Operand A)) (vs : List A) → AreLets n xs vs → AreOperands (node_count n) xs
  lets-operands n [] [] h = tt
  lets-operands n [] (v ∷ vs) h = tt
  lets-operands n (x ∷ xs) [] h = absurd h
  lets-operands n (x ∷ xs) (v ∷ vs) h = (operand-means n x v h.0, lets-operands n xs vs h.1)

-- ---- the value of an expression
module _ {A : Type 0} (o : Ops A) (r : RingLaws o) (element : ℕ → A) (public private : List A) (lets : List (Operand A)) (given_lets : List A) where
  abbrev s : Scope A
  s = scope o element lets

  abbrev g : Given A
  g = given o element public private given_lets

  abbrev Lets : Nodes A → Type 0
  Lets n = AreLets o public private n lets given_lets

  abbrev Has : Nodes A → Type 0
  Has n = Fits public private n

  known-means : (n : Nodes A) (x : Operand A) (v : A) → is_known x ≡ true → Means o public private n x v → known o x ≡ v
  known-means n (Constant c) v fixed h = h
  known-means n (AtNode k) v fixed h = absurd cc

  -- a constant expression has this value whatever the inputs are
  mutual
    pub constant-value : (n : Nodes A) (e : Expr) → is_constant s e ≡ true → Lets n → constant s e ≡ value_of g e
    constant-value n (Number k) fixed h = refl
    constant-value n (PublicInput i) fixed h = absurd cc
    constant-value n (PrivateInput i) fixed h = absurd cc
    constant-value n (Named i) fixed h = known-at s i ∙ known-means n (let_at s i) (entry o given_lets i) fixed (let-means o public private n lets given_lets i h)
    constant-value n (Neg e) fixed h = ap o.neg (constant-value n e fixed h)
    constant-value n (Added ps) fixed h = constant-parts n ps fixed h
    constant-value n (Multiplied es) fixed h = constant-factors n es fixed h

    constant-parts : (n : Nodes A) (ps : Parts) → are_constant_parts s ps ≡ true → Lets n → parts_value (constants s) ps ≡ parts_value g ps
    constant-parts n NoPart fixed h = refl
    constant-parts n (part m e ps) fixed h =
        let both = and_parts (is_constant s e) (are_constant_parts s ps) fixed in
        ap₂ (λ x y. o.plus (signed o m x) y) (constant-value n e both.0 h) (constant-parts n ps both.1 h)

    constant-factors : (n : Nodes A) (es : Exprs) → are_constant s es ≡ true → Lets n → factors_value (constants s) es ≡ factors_value g es
    constant-factors n NoExpr fixed h = refl
    constant-factors n (factor e es) fixed h =
        let both = and_parts (is_constant s e) (are_constant s es) fixed in
        ap₂ (λ x y. o.times x y) (constant-value n e both.0 h) (constant-factors n es both.1 h)

  -- the value of the node that was made
  abbrev made_value : Made A → A
  made_value m = entry o (values o public private m.nodes) m.node

  next-value : (n : Nodes A) (d : Gate A) → Has n → made_value (next n d) ≡ gate_value o (values o public private n) d
  next-value n d f = value-next o public private n d f

  value-either : (b : Bool) (x y : Made A) (v : A) → (b ≡ true → made_value x ≡ v) → (b ≡ false → made_value y ≡ v) → made_value (cond b x y) ≡ v
  value-either true x y v h k = h refl
  value-either false x y v h k = k refl

  let-value : (n : Nodes A) (x : Operand A) (v : A) → Has n → Means o public private n x v → made_value (at_let n x) ≡ v
  let-value n (Constant c) v f h = next-value n (gate.Constant c) f ∙ h
  let-value n (AtNode k) v f h = h.1

  fixed-value : (n : Nodes A) (e : Expr) → Has n → Lets n → is_constant s e ≡ true → made_value (next n (gate.Constant (constant s e))) ≡ value_of g e
  fixed-value n e f h fixed = next-value n (gate.Constant (constant s e)) f ∙ constant-value n e fixed h

  multiple-value : (c : A) (m : Made A) → Has m.nodes → made_value (multiple c m) ≡ o.times c (made_value m)
  multiple-value c m f = next-value m.nodes (gate.Combine ((c, m.node) ∷ [])) f ∙ r.plus_zero (o.times c (made_value m))

  negative-value : (m : Made A) (v : A) → Has m.nodes → made_value m ≡ v → made_value (multiple (o.neg o.one) m) ≡ o.neg v
  negative-value m v f h = multiple-value (o.neg o.one) m f ∙ neg_times o r o.one (made_value m) ∙ ap o.neg (one_times o r (made_value m) ∙ h)

  signed-times : (m : Bool) (v : A) → o.times (signed o m o.one) v ≡ signed o m v
  signed-times false v = one_times o r v
  signed-times true v = neg_times o r o.one v ∙ ap o.neg (one_times o r v)

  -- a product so far
  abbrev before_value : Nodes A → Option ℕ → A
  before_value n None = o.one
  before_value n (Some k) = entry o (values o public private n) k

  joined-value : (n : Nodes A) (before : Option ℕ) (m : Made A) (most : ℕ) → Has n → Grown n m.nodes most → IsNodeOrNone (node_count n) before → made_value (joined before m) ≡ o.times (before_value n before) (made_value m)
  joined-value n None m most f d b = sym (one_times o r (made_value m))
  joined-value n (Some k) m most f d b =
      next-value m.nodes (gate.Mul k m.node) (fits-grown public private n m.nodes most d f)
      ∙ ap (λ v. o.times v (made_value m)) (values-grown o public private n m.nodes most k d f b.1)

  -- what the factors that are not constant multiply by
  abbrev free_value : Exprs → A
  free_value NoExpr = o.one
  free_value (factor e es) = o.times (cond (is_constant s e) o.one (value_of g e)) (free_value es)

  factored-value-at : (b : Bool) (n : Nodes A) (before : Option ℕ) (m : Made A) (v : A) → made_value (joined before m) ≡ o.times (before_value n before) v
      → (let x : MadeFactors A = cond b (record { nodes = n; node = before }) (record { nodes = (joined before m).nodes; node = Some (joined before m).node }) in before_value x.nodes x.node) ≡ o.times (before_value n before) (cond b o.one v)
  factored-value-at true n before m v h = sym (r.times_one (before_value n before))
  factored-value-at false n before m v h = h

  product-node : (m : MadeFactors A) → IsSomeNode m.node → made_value (product m) ≡ before_value m.nodes m.node
  product-node m some = ap (λ k. entry o (values o public private m.nodes) (unwrap_or k 0)) some.1 ∙ sym (ap (before_value m.nodes) some.1)

  scaled-value : (c : Option A) (m : MadeFactors A) (v : A) → Has m.nodes → IsSomeNode m.node → before_value m.nodes m.node ≡ v → made_value (scaled c (product m)) ≡ o.times (unwrap_or c o.one) v
  scaled-value None m v f some e = product-node m some ∙ e ∙ sym (one_times o r v)
  scaled-value (Some c) m v f some e = multiple-value c (product m) f ∙ ap (o.times c) (product-node m some ∙ e)

  one-factor : (b : Bool) (c v : A) (k : Option A) (rest all : A) → (b ≡ true → c ≡ v) → o.times (unwrap_or k o.one) rest ≡ all
      → o.times (unwrap_or (cond b (Some (o.times c (unwrap_or k o.one))) k) o.one) (o.times (cond b o.one v) rest) ≡ o.times v all
  one-factor true c v k rest all h e = ap (o.times (o.times c (unwrap_or k o.one))) (one_times o r rest) ∙ r.times_assoc c (unwrap_or k o.one) rest ∙ ap₂ (λ x y. o.times x y) (h refl) e
  one-factor false c v k rest all h e = times_left_comm o r (unwrap_or k o.one) v rest ∙ ap (o.times v) e

  -- the constant factors and the others together
  all-factors : (n : Nodes A) (es : Exprs) → Lets n → o.times (unwrap_or (constant_factor s es) o.one) (free_value es) ≡ factors_value g es
  all-factors n NoExpr h = r.times_one o.one
  all-factors n (factor e es) h = one-factor (is_constant s e) (constant s e) (value_of g e) (constant_factor s es) (free_value es) (factors_value g es) (λ fixed. constant-value n e fixed h) (all-factors n es h)

  product-value : (n : Nodes A) (es : Exprs) → Has n → Lets n → IsSomeNode (made_factors s n None es).node
      → before_value (made_factors s n None es).nodes (made_factors s n None es).node ≡ o.times o.one (free_value es) → made_value (scaled (constant_factor s es) (product (made_factors s n None es))) ≡ factors_value g es
  product-value n es f h some e =
      let m = made_factors s n None es in
      scaled-value (constant_factor s es) m (free_value es) (fits-grown public private n m.nodes (factors_size es) (factors-grown s n None es) f) some (e ∙ one_times o r (free_value es)) ∙ all-factors n es h

  mutual
    pub made-value : (n : Nodes A) (e : Expr) → Has n → IsWithin n.publics n.privates e → Lets n → made_value (made s n e) ≡ value_of g e
    made-value n (Number k) f w h = next-value n (gate.Constant (element k)) f
    made-value n (PublicInput i) f w h = public-value o public private n i f w
    made-value n (PrivateInput i) f w h = private-value o public private n i f w
    made-value n (Named i) f w h = let-value n (let_at s i) (entry o given_lets i) f (let-means o public private n lets given_lets i h)
    made-value n (Neg e) f w h =
        let m = made s n e in
        value-either (is_constant s e) (next n (gate.Constant (constant s (Neg e)))) (multiple (o.neg o.one) m) (value_of g (Neg e)) (fixed-value n (Neg e) f h)
        (λ free. negative-value m (value_of g e) (fits-grown public private n m.nodes (size_of e) (made-grown s n e) f) (made-value n e f w h))
    made-value n (Added ps) f w h =
        let m = made_parts s n ps in
        value-either (is_constant s (Added ps)) (next n (gate.Constant (constant s (Added ps)))) (summed m) (parts_value g ps) (fixed-value n (Added ps) f h)
        (λ free. next-value m.nodes (gate.Combine m.parts) (fits-grown public private n m.nodes (parts_size ps) (parts-grown s n ps) f) ∙ parts-value n ps f w h)
    made-value n (Multiplied es) f w h =
        let m = made_factors s n None es in
        value-either (is_constant s (Multiplied es)) (next n (gate.Constant (constant s (Multiplied es)))) (scaled (constant_factor s es) (product m)) (factors_value g es) (fixed-value n (Multiplied es) f h)
        (λ free. product-value n es f h (factors-some s n None es free) (factors-value n None es f w h tt))

    pub parts-value : (n : Nodes A) (ps : Parts) → Has n → ArePartsWithin n.publics n.privates ps → Lets n → combined o (values o public private (made_parts s n ps).nodes) (made_parts s n ps).parts ≡ parts_value g ps
    parts-value n NoPart f w h = refl
    parts-value n (part m e ps) f w h =
        let x = made s n e in
        let d = made-grown s n e in
        let last = (made_parts s x.nodes ps).nodes in
        let fx = fits-grown public private n x.nodes (size_of e) d f in
        let node = made-there s n e w.0 (lets-operands o public private n lets given_lets h) in
        let kept = values-grown o public private x.nodes last (parts_size ps) x.node (parts-grown s x.nodes ps) fx node.1 in
        ap₂ (λ y z. o.plus (o.times (signed o m o.one) y) z) (kept ∙ made-value n e f w.0 h)
        (parts-value x.nodes ps fx (same-inputs n x.nodes (size_of e) (λ p q. ArePartsWithin p q ps) d w.1) (lets-grown o public private n x.nodes (size_of e) lets given_lets d f h))
        ∙ ap (λ y. o.plus y (parts_value g ps)) (signed-times m (value_of g e))

    pub factors-value : (n : Nodes A) (before : Option ℕ) (es : Exprs) → Has n → AreFactorsWithin n.publics n.privates es → Lets n → IsNodeOrNone (node_count n) before
        → before_value (made_factors s n before es).nodes (made_factors s n before es).node ≡ o.times (before_value n before) (free_value es)
    factors-value n before NoExpr f w h b = sym (r.times_one (before_value n before))
    factors-value n before (factor e es) f w h b =
        let x = made s n e in
        let m = factored s n before e x in
        let d = grown-factored s n before e x (size_of e) (made-grown s n e) in
        let most = 1 + size_of e in
        let there_is = made-there s n e w.0 (lets-operands o public private n lets given_lets h) in
        factors-value m.nodes m.node es (fits-grown public private n m.nodes most d f) (same-inputs n m.nodes most (λ p q. AreFactorsWithin p q es) d w.1) (lets-grown o public private n m.nodes most lets given_lets d f h) (factored-there s n before e x b there_is)
        ∙ ap (λ v. o.times v (free_value es)) (factored-value-at (is_constant s e) n before x (value_of g e) (joined-value n before x (size_of e) f (made-grown s n e) b ∙ ap (o.times (before_value n before)) (made-value n e f w.0 h)))
        ∙ r.times_assoc (before_value n before) (cond (is_constant s e) o.one (value_of g e)) (free_value es)
