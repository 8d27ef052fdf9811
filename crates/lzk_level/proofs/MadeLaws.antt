-- How the nodes of expressions grow.
use Rattle.std.specs.Prelude.{◌≡◌, ℕ, ◌+◌, ◌≤◌, Bool, true, false, ◌&&◌, cond, List, [], ◌∷◌, ◌++◌, length, Option, Some, None, unwrap_or}
use Rattle.std.proofs.Common.{zero, suc, refl, sym, ap, ◌∙◌, arith, subst, get_or, length-append, append_assoc, append-nil}
use Rattle.lzk_expr.specs.Trees.{Expr, Number, PublicInput, PrivateInput, Named, Neg, Added, Multiplied, Parts, NoPart, part, Exprs, NoExpr, factor}
use Rattle.lzk_level.specs.Gates.{Gate}
use Rattle.lzk_level.specs.Gates as gate
use Rattle.lzk_level.specs.declared.lets.Operand.{Operand}
use Rattle.lzk_level.specs.declared.lets.Operand.TheVariants.{Constant, AtNode}
use Rattle.lzk_level.specs.Nodes.{Nodes, node_count, with_gate, IsNode, ArePartsOf}
use Rattle.lzk_level.specs.Compilable.{IsWithin, ArePartsWithin, AreFactorsWithin, size_of, parts_size, factors_size, IsOperand, AreOperands, IsNodeOrNone}
use Rattle.lzk_level.specs.Compiling.{Scope, let_at, is_known, known, is_constant, are_constant_parts, are_constant, constant, constant_factor, Made, MadeFactors, next, at_let, multiple, summed, joined, factored, scaled, product, made, made_parts, made_factors}
use Rattle.lzk_level.proofs.ConstantLaws.{known-at}

pub node-more : (n m k : ℕ) → n ≤ m → IsNode n k → IsNode m k
node-more n m k l h = (h.0, omega (arith, l, h.1))

pub or-none-more : (n m : ℕ) (before : Option ℕ) → n ≤ m → IsNodeOrNone n before → IsNodeOrNone m before
or-none-more n m None l h = tt
or-none-more n m (Some k) l h = node-more n m k l h

and-cases : (b c : Bool) (P : Type 0) → (b && c) ≡ false → (b ≡ false → P) → (c ≡ false → P) → P
and-cases true c P e h k = k e
and-cases false c P e h k = h refl

-- there is a node
abbrev pub IsSomeNode : Option ℕ → Type 0
IsSomeNode before = (k : ℕ) × (before ≡ Some k)

pub some-there : (n : ℕ) (before : Option ℕ) → IsSomeNode before → IsNodeOrNone n before → IsNode n (unwrap_or before 0)
some-there n (Some k) s h = h
some-there n None s h = absurd cc

module _ {A : Type 0} where
  -- m has the nodes of n and at most so many more
  pub record Grown (n m : Nodes A) (most : ℕ) : Type 0 where
    pub publics : m.publics ≡ n.publics
    pub privates : m.privates ≡ n.privates
    pub more : List (Gate A)
    pub behind : m.made ≡ n.made ++ more
    pub few : length more ≤ most

  pub grown-same : (n : Nodes A) (most : ℕ) → Grown n n most
  grown-same n most = record { publics = refl; privates = refl; more = []; behind = sym (append-nil n.made); few = omega arith }

  pub grown-next : (n : Nodes A) (g : Gate A) (most : ℕ) → 1 ≤ most → Grown n (with_gate n g) most
  grown-next n g most l = record { publics = refl; privates = refl; more = g ∷ []; behind = refl; few = omega (arith, l) }

  pub grown-then : (n m k : Nodes A) (a b c : ℕ) → Grown n m a → Grown m k b → a + b ≤ c → Grown n k c
  grown-then n m k a b c f g l = record {
    publics = g.publics ∙ f.publics;
    privates = g.privates ∙ f.privates;
    more = f.more ++ g.more;
    behind = g.behind ∙ ap (λ (x : List (Gate A)). x ++ g.more) f.behind ∙ append_assoc n.made f.more g.more;
    few = omega (arith, length-append f.more g.more, f.few, g.few, l);
  }

  pub grown-count : (n m : Nodes A) (most : ℕ) (g : Grown n m most) → (node_count n ≤ node_count m) × (node_count m ≤ node_count n + most)
  grown-count n m most g =
      let e : length m.made ≡ length n.made + length g.more = ap length g.behind ∙ length-append n.made g.more in
      (omega (arith, e, g.publics, g.privates), omega (arith, e, g.publics, g.privates, g.few))

  -- what holds of the counts of inputs still holds
  pub same-inputs : (n m : Nodes A) (most : ℕ) (P : ℕ → ℕ → Type 0) → Grown n m most → P n.publics n.privates → P m.publics m.privates
  same-inputs n m most P g h = subst (λ p. P p m.privates) (sym g.publics) (subst (λ q. P n.publics q) (sym g.privates) h)

  grown-either : (n : Nodes A) (b : Bool) (x y : Made A) (most : ℕ) → Grown n x.nodes most → Grown n y.nodes most → Grown n (cond b x y).nodes most
  grown-either n true x y most f g = f
  grown-either n false x y most f g = g

  either-factors : (n : Nodes A) (b : Bool) (x y : MadeFactors A) (most : ℕ) → Grown n x.nodes most → Grown n y.nodes most → Grown n (cond b x y).nodes most
  either-factors n true x y most f g = f
  either-factors n false x y most f g = g

  grown-let : (n : Nodes A) (x : Operand A) → Grown n (at_let n x).nodes 1
  grown-let n (Constant c) = grown-next n (gate.Constant c) 1 (omega arith)
  grown-let n (AtNode k) = grown-same n 1

  grown-joined : (n : Nodes A) (before : Option ℕ) (m : Made A) (most : ℕ) → Grown n m.nodes most → Grown n (joined before m).nodes (1 + most)
  grown-joined n None m most g = grown-then n m.nodes m.nodes most 0 (1 + most) g (grown-same m.nodes 0) (omega arith)
  grown-joined n (Some k) m most g = grown-then n m.nodes _ most 1 (1 + most) g (grown-next m.nodes (gate.Mul k m.node) 1 (omega arith)) (omega arith)

  grown-scaled : (n : Nodes A) (c : Option A) (m : Made A) (most : ℕ) → Grown n m.nodes most → Grown n (scaled c m).nodes (1 + most)
  grown-scaled n None m most g = grown-then n m.nodes m.nodes most 0 (1 + most) g (grown-same m.nodes 0) (omega arith)
  grown-scaled n (Some c) m most g = grown-then n m.nodes _ most 1 (1 + most) g (grown-next m.nodes (gate.Combine ((c, m.node) ∷ [])) 1 (omega arith)) (omega arith)

  -- ---- nodes that are there
  pub parts-more : (n m : ℕ) (ps : List (A × ℕ)) → n ≤ m → ArePartsOf n ps → ArePartsOf m ps
  parts-more n m [] l h = tt
  parts-more n m (p ∷ ps) l h = (node-more n m p.1 l h.0, parts-more n m ps l h.1)

  operand-more : (n m : ℕ) (x : Operand A) → n ≤ m → IsOperand n x → IsOperand m x
  operand-more n m (Constant c) l h = tt
  operand-more n m (AtNode k) l h = node-more n m k l h

  pub operands-more : (n m : ℕ) (xs : List (Operand A)) → n ≤ m → AreOperands n xs → AreOperands m xs
  operands-more n m [] l h = tt
  operands-more n m (x ∷ xs) l h = (operand-more n m x l h.0, operands-more n m xs l h.1)

  pub operands-add : (n : ℕ) (xs : List (Operand A)) (x : Operand A) → AreOperands n xs → IsOperand n x → AreOperands n (xs ++ x ∷ [])
  operands-add n [] x h k = (k, tt)
  operands-add n (y ∷ xs) x h k = (h.0, operands-add n xs x h.1 k)

  pub operand-at : (n : ℕ) (xs : List (Operand A)) (i : ℕ) (c : A) → AreOperands n xs → IsOperand n (get_or xs i (Constant c))
  operand-at n [] i c h = tt
  operand-at n (x ∷ xs) zero c h = h.0
  operand-at n (x ∷ xs) (suc i) c h = operand-at n xs i c h.1

  pub count-next : (n : Nodes A) (g : Gate A) → node_count (with_gate n g) ≡ 1 + node_count n
  count-next n g = let e = length-append n.made (g ∷ []) in omega (arith, e)

  -- the node that was made is there
  abbrev pub IsThere : Made A → Type 0
  IsThere m = IsNode (node_count m.nodes) m.node

  pub next-there : (n : Nodes A) (g : Gate A) → IsThere (next n g)
  next-there n g = (omega arith, omega (arith, count-next n g))

  there-either : (b : Bool) (x y : Made A) → IsThere x → IsThere y → IsThere (cond b x y)
  there-either true x y h k = h
  there-either false x y h k = k

  there-unless : (b : Bool) (x y : Made A) → IsThere x → (b ≡ false → IsThere y) → IsThere (cond b x y)
  there-unless true x y h k = h
  there-unless false x y h k = k refl

  abbrev pub IsProductThere : MadeFactors A → Type 0
  IsProductThere m = IsNodeOrNone (node_count m.nodes) m.node

  product-either : (b : Bool) (x y : MadeFactors A) → IsProductThere x → IsProductThere y → IsProductThere (cond b x y)
  product-either true x y h k = h
  product-either false x y h k = k

  free-node : (b : Bool) (x y : MadeFactors A) → b ≡ false → IsSomeNode y.node → IsSomeNode (cond b x y).node
  free-node true x y e k = absurd cc
  free-node false x y e k = k

  keep-either : (b : Bool) (x y : MadeFactors A) → IsSomeNode x.node → IsSomeNode y.node → IsSomeNode (cond b x y).node
  keep-either true x y h k = h
  keep-either false x y h k = k

  known-let : (n : Nodes A) (x : Operand A) (c : A) → is_known x ≡ true → ((d : A) → x ≡ Constant d → c ≡ d) → at_let n x ≡ next n (gate.Constant c)
  known-let n (Constant d) c h is = ap (λ y. next n (gate.Constant y)) (sym (is d refl))
  known-let n (AtNode k) c h is = absurd cc

  there-let : (n : Nodes A) (x : Operand A) → IsOperand (node_count n) x → IsThere (at_let n x)
  there-let n (Constant c) h = next-there n (gate.Constant c)
  there-let n (AtNode k) h = h

  pub there-joined : (before : Option ℕ) (m : Made A) → IsThere m → IsThere (joined before m)
  there-joined None m h = h
  there-joined (Some k) m h = next-there m.nodes (gate.Mul k m.node)

  there-scaled : (c : Option A) (m : Made A) → IsThere m → IsThere (scaled c m)
  there-scaled None m h = h
  there-scaled (Some c) m h = next-there m.nodes (gate.Combine ((c, m.node) ∷ []))

module _ {A : Type 0} (s : Scope A) where
  pub grown-factored : (n : Nodes A) (before : Option ℕ) (e : Expr) (m : Made A) (most : ℕ) → Grown n m.nodes most → Grown n (factored s n before e m).nodes (1 + most)
  grown-factored n before e m most g = either-factors n (is_constant s e) _ _ (1 + most) (grown-same n (1 + most)) (grown-joined n before m most g)

  pub factored-there : (n : Nodes A) (before : Option ℕ) (e : Expr) (m : Made A) → IsNodeOrNone (node_count n) before → IsThere m → IsProductThere (factored s n before e m)
  factored-there n before e m b h = product-either (is_constant s e) _ _ b (there-joined before m h)

  factored-keep : (n : Nodes A) (before : Option ℕ) (e : Expr) (m : Made A) → IsSomeNode before → IsSomeNode (factored s n before e m).node
  factored-keep n before e m h = keep-either (is_constant s e) _ _ h ((joined before m).node, refl)

  factored-some : (n : Nodes A) (before : Option ℕ) (e : Expr) (m : Made A) → is_constant s e ≡ false → IsSomeNode (factored s n before e m).node
  factored-some n before e m free = free-node (is_constant s e) (record { nodes = n; node = before }) (record { nodes = (joined before m).nodes; node = Some (joined before m).node }) free ((joined before m).node, refl)

  mutual
    pub made-grown : (n : Nodes A) (e : Expr) → Grown n (made s n e).nodes (size_of e)
    made-grown n (Number k) = grown-next n (gate.Constant (s.element k)) 1 (omega arith)
    made-grown n (PublicInput i) = grown-same n 1
    made-grown n (PrivateInput i) = grown-same n 1
    made-grown n (Named i) = grown-let n (let_at s i)
    made-grown n (Neg e) =
        let m = made s n e in
        grown-either n (is_constant s e) _ (multiple (s.ops.neg s.ops.one) m) (1 + size_of e) (grown-next n (gate.Constant (constant s (Neg e))) (1 + size_of e) (omega arith))
        (grown-then n m.nodes _ (size_of e) 1 (1 + size_of e) (made-grown n e) (grown-next m.nodes _ 1 (omega arith)) (omega arith))
    made-grown n (Added ps) =
        let m = made_parts s n ps in
        grown-either n (is_constant s (Added ps)) _ _ (1 + parts_size ps) (grown-next n (gate.Constant (constant s (Added ps))) (1 + parts_size ps) (omega arith))
        (grown-then n m.nodes _ (parts_size ps) 1 (1 + parts_size ps) (parts-grown n ps) (grown-next m.nodes (gate.Combine m.parts) 1 (omega arith)) (omega arith))
    made-grown n (Multiplied es) =
        let m = made_factors s n None es in
        grown-either n (is_constant s (Multiplied es)) _ (scaled (constant_factor s es) (product m)) (1 + factors_size es) (grown-next n (gate.Constant (constant s (Multiplied es))) (1 + factors_size es) (omega arith))
        (grown-scaled n (constant_factor s es) (product m) (factors_size es) (factors-grown n None es))

    pub parts-grown : (n : Nodes A) (ps : Parts) → Grown n (made_parts s n ps).nodes (parts_size ps)
    parts-grown n NoPart = grown-same n 0
    parts-grown n (part m e ps) = grown-then n (made s n e).nodes _ (size_of e) (parts_size ps) (size_of e + parts_size ps) (made-grown n e) (parts-grown (made s n e).nodes ps) (omega arith)

    pub factors-grown : (n : Nodes A) (before : Option ℕ) (es : Exprs) → Grown n (made_factors s n before es).nodes (factors_size es)
    factors-grown n before NoExpr = grown-same n 0
    factors-grown n before (factor e es) =
        let m = factored s n before e (made s n e) in
        grown-then n m.nodes _ (1 + size_of e) (factors_size es) (1 + size_of e + factors_size es) (grown-factored n before e (made s n e) (size_of e) (made-grown n e)) (factors-grown m.nodes m.node es) (omega arith)

  -- ---- they are there
  mutual
    pub made-there : (n : Nodes A) (e : Expr) → IsWithin n.publics n.privates e → AreOperands (node_count n) s.lets → IsThere (made s n e)
    made-there n (Number k) w h = next-there n (gate.Constant (s.element k))
    made-there n (PublicInput i) w h = (omega arith, omega (arith, w))
    made-there n (PrivateInput i) w h = (omega arith, omega (arith, w))
    made-there n (Named i) w h = there-let n (let_at s i) (operand-at (node_count n) s.lets i s.ops.zero h)
    made-there n (Neg e) w h = there-either (is_constant s e) _ _ (next-there n (gate.Constant (constant s (Neg e)))) (next-there (made s n e).nodes _)
    made-there n (Added ps) w h = there-either (is_constant s (Added ps)) _ _ (next-there n (gate.Constant (constant s (Added ps)))) (next-there (made_parts s n ps).nodes (gate.Combine (made_parts s n ps).parts))
    made-there n (Multiplied es) w h =
        let m = made_factors s n None es in
        there-unless (is_constant s (Multiplied es)) _ _ (next-there n (gate.Constant (constant s (Multiplied es))))
        (λ free. there-scaled (constant_factor s es) (product m) (some-there (node_count m.nodes) m.node (factors-some n None es free) (factors-there n None es w h tt)))

    pub parts-there : (n : Nodes A) (ps : Parts) → ArePartsWithin n.publics n.privates ps → AreOperands (node_count n) s.lets → ArePartsOf (node_count (made_parts s n ps).nodes) (made_parts s n ps).parts
    parts-there n NoPart w h = tt
    parts-there n (part m e ps) w h =
        let x = (made s n e).nodes in
        let g = made-grown n e in
        let c = grown-count n x (size_of e) g in
        let d = grown-count x (made_parts s x ps).nodes (parts_size ps) (parts-grown x ps) in (
          node-more (node_count x) (node_count (made_parts s x ps).nodes) (made s n e).node d.0 (made-there n e w.0 h),
          parts-there x ps (same-inputs n x (size_of e) (λ p q. ArePartsWithin p q ps) g w.1) (operands-more (node_count n) (node_count x) s.lets c.0 h),
        )

    pub factors-there : (n : Nodes A) (before : Option ℕ) (es : Exprs) → AreFactorsWithin n.publics n.privates es → AreOperands (node_count n) s.lets → IsNodeOrNone (node_count n) before → IsProductThere (made_factors s n before es)
    factors-there n before NoExpr w h b = b
    factors-there n before (factor e es) w h b =
        let m = factored s n before e (made s n e) in
        let g = grown-factored n before e (made s n e) (size_of e) (made-grown n e) in
        let c = grown-count n m.nodes (1 + size_of e) g in
        factors-there m.nodes m.node es (same-inputs n m.nodes (1 + size_of e) (λ p q. AreFactorsWithin p q es) g w.1) (operands-more (node_count n) (node_count m.nodes) s.lets c.0 h) (factored-there n before e (made s n e) b (made-there n e w.0 h))

    factors-keep : (n : Nodes A) (before : Option ℕ) (es : Exprs) → IsSomeNode before → IsSomeNode (made_factors s n before es).node
    factors-keep n before NoExpr h = h
    factors-keep n before (factor e es) h = let m = factored s n before e (made s n e) in factors-keep m.nodes m.node es (factored-keep n before e (made s n e) h)

    pub factors-some : (n : Nodes A) (before : Option ℕ) (es : Exprs) → are_constant s es ≡ false → IsSomeNode (made_factors s n before es).node
    factors-some n before NoExpr free = absurd cc
    factors-some n before (factor e es) free =
        let m = factored s n before e (made s n e) in
        and-cases (is_constant s e) (are_constant s es) (IsSomeNode (made_factors s m.nodes m.node es).node) free
        (λ first. factors-keep m.nodes m.node es (factored-some n before e (made s n e) first)) (λ rest. factors-some m.nodes m.node es rest)

  pub parts-some : (n : Nodes A) (ps : Parts) → are_constant_parts s ps ≡ false → 1 ≤ length (made_parts s n ps).parts
  parts-some n NoPart free = absurd cc
  parts-some n (part m e ps) free = omega arith

  -- a constant expression is one node
  pub made-constant : (n : Nodes A) (e : Expr) → is_constant s e ≡ true → made s n e ≡ next n (gate.Constant (constant s e))
  made-constant n (Number k) fixed = refl
  made-constant n (PublicInput i) fixed = absurd cc
  made-constant n (PrivateInput i) fixed = absurd cc
  made-constant n (Named i) fixed = known-let n (let_at s i) (constant s (Named i)) fixed (λ d is. known-at s i ∙ ap (known s.ops) is)
  made-constant n (Neg e) fixed = ap (λ b. cond b (next n (gate.Constant (constant s (Neg e)))) (multiple (s.ops.neg s.ops.one) (made s n e))) fixed
  made-constant n (Added ps) fixed = ap (λ b. cond b (next n (gate.Constant (constant s (Added ps)))) (summed (made_parts s n ps))) fixed
  made-constant n (Multiplied es) fixed = ap (λ b. cond b (next n (gate.Constant (constant s (Multiplied es)))) (scaled (constant_factor s es) (product (made_factors s n None es)))) fixed

  -- ---- the same of nodes and a node that are known to be these
  pub made-count : (n x : Nodes A) (e : Expr) → x ≡ (made s n e).nodes → (node_count n ≤ node_count x) × (node_count x ≤ node_count n + size_of e)
  made-count n x e is = let P : Nodes A → Type 0 = λ y. (node_count n ≤ node_count y) × (node_count y ≤ node_count n + size_of e) in subst P (sym is) (grown-count n _ (size_of e) (made-grown n e))

  pub made-operands : (n x : Nodes A) (e : Expr) → x ≡ (made s n e).nodes → AreOperands (node_count n) s.lets → AreOperands (node_count x) s.lets
  made-operands n x e is h = operands-more (node_count n) (node_count x) s.lets (made-count n x e is).0 h

  pub made-inputs : (n x : Nodes A) (e : Expr) (P : ℕ → ℕ → Type 0) → x ≡ (made s n e).nodes → P n.publics n.privates → P x.publics x.privates
  made-inputs n x e P is h = subst (λ (y : Nodes A). P y.publics y.privates) (sym is) (same-inputs n _ (size_of e) P (made-grown n e) h)

  pub made-node : (n x : Nodes A) (k : ℕ) (e : Expr) → x ≡ (made s n e).nodes → k ≡ (made s n e).node → IsWithin n.publics n.privates e → AreOperands (node_count n) s.lets → IsNode (node_count x) k
  made-node n x k e is at w h = subst (λ (y : Nodes A). IsNode (node_count y) k) (sym is) (subst (λ i. IsNode (node_count (made s n e).nodes) i) (sym at) (made-there n e w h))
