-- The values of expressions behind nodes.
use Rattle.std.specs.Prelude.{◌≡◌, ℕ, ◌+◌, Bool, true, false, ◌&&◌, cond, Option, Some, None, unwrap_or}
use Rattle.std.proofs.Common.{refl, sym, ap, ◌∙◌}
use Rattle.lzk_field.specs.Ring.{Ops, RingLaws}
use Rattle.lzk_expr.specs.Trees.{Expr, Number, PublicInput, PrivateInput, Named, Multiplied, Exprs, NoExpr, factor}
use Rattle.lzk_expr.specs.SourceValues.{factors_value}
use Rattle.lzk_expr.specs.Meanings.{multiplied, negated}
use Rattle.lzk_level.specs.Gates as gate
use Rattle.lzk_level.specs.declared.lets.Operand.{Operand}
use Rattle.lzk_level.specs.declared.lets.Operand.TheVariants.{Constant, AtNode}
use Rattle.lzk_level.specs.Nodes.{Nodes}
use Rattle.lzk_level.specs.Compiling.{Scope, let_at, is_known, known, is_constant, are_constant, constants, constant, constant_factor, Made, MadeFactors, next, there, at_let, multiple, joined, factored, scaled, product, made, made_factors, let_nodes, let_operand}
use Rattle.lzk_level.specs.Steps.{valued, at_made, signed_in, negative_in, product_in, node_with}
use Rattle.lzk_level.specs.Makings.{expr_value}
use Rattle.lzk_level.proofs.ConstantLaws.{known-at}
use Rattle.lzk_level.proofs.MadeLaws.{IsSomeNode, factors-some, made-constant}

-- ---- a value and its node
module _ {A : Type 0} where
  node-at : (b : Bool) (n : Nodes A) (c : A) (m : Made A) → (b ≡ true → m ≡ next n (gate.Constant c)) → m ≡ at_let (cond b n m.nodes) (cond b (Constant c) (AtNode m.node))
  node-at true n c m h = h refl
  node-at false n c m h = refl

module _ {A : Type 0} (s : Scope A) where
  -- the node of an expression is that of its value
  pub made-of-value : (n : Nodes A) (e : Expr) → made s n e ≡ at_let (let_nodes s n e) (let_operand s n e)
  made-of-value n e = node-at (is_constant s e) n (constant s e) (made s n e) (made-constant s n e)

-- ---- leaves
module _ {A : Type 0} where
  let-at : (n : Nodes A) (x : Operand A) (c : A) → ((d : A) → x ≡ Constant d → c ≡ d) → record { nodes = cond (is_known x) n (at_let n x).nodes; operand = cond (is_known x) (Constant c) (AtNode (at_let n x).node) } ≡ valued n x
  let-at n (Constant d) c h = ap (λ y. valued n (Constant y)) (h d refl)
  let-at n (AtNode k) c h = refl

module _ {A : Type 0} (s : Scope A) where
  pub number-value : (n : Nodes A) (k : ℕ) → expr_value s n (Number k) ≡ valued n (Constant (s.element k))
  number-value n k = refl

  pub public-value : (n : Nodes A) (i : ℕ) → expr_value s n (PublicInput i) ≡ valued n (AtNode (1 + i))
  public-value n i = refl

  pub private-value : (n : Nodes A) (i : ℕ) → expr_value s n (PrivateInput i) ≡ valued n (AtNode (1 + n.publics + i))
  private-value n i = refl

  pub named-value : (n : Nodes A) (i : ℕ) → expr_value s n (Named i) ≡ valued n (let_at s i)
  named-value n i = let-at n (let_at s i) (constant s (Named i)) (λ d is. known-at s i ∙ ap (known s.ops) is)

-- ---- the sign of an atom
module _ {A : Type 0} (o : Ops A) where
  negative-at : (b : Bool) (n : Nodes A) (c : A) (m : Made A) → record {
    nodes = cond b n (cond b (next n (gate.Constant (o.neg c))) (multiple (o.neg o.one) m)).nodes;
    operand = cond b (Constant (o.neg c)) (AtNode (cond b (next n (gate.Constant (o.neg c))) (multiple (o.neg o.one) m)).node);
  } ≡ negative_in o (cond b n m.nodes) (cond b (Constant c) (AtNode m.node))
  negative-at true n c m = refl
  negative-at false n c m = refl

module _ {A : Type 0} (s : Scope A) where
  pub negated-value : (n : Nodes A) (minus : Bool) (e : Expr) → expr_value s n (negated minus e) ≡ signed_in s.ops minus (let_nodes s n e) (let_operand s n e)
  negated-value n false e = refl
  negated-value n true e = negative-at s.ops (is_constant s e) n (constant s e) (made s n e)

-- ---- a factor
module _ {A : Type 0} where
  factor-at : (b : Bool) (n : Nodes A) (before : Option ℕ) (c : A) (m : Made A) → cond b (record { nodes = n; node = before }) (record { nodes = (joined before m).nodes; node = Some (joined before m).node }) ≡ node_with before (cond b n m.nodes) (cond b (Constant c) (AtNode m.node))
  factor-at true n before c m = refl
  factor-at false n before c m = refl

module _ {A : Type 0} (s : Scope A) where
  pub factor-value : (n : Nodes A) (before : Option ℕ) (e : Expr) → factored s n before e (made s n e) ≡ node_with before (let_nodes s n e) (let_operand s n e)
  factor-value n before e = factor-at (is_constant s e) n before (constant s e) (made s n e)

-- ---- a product
module _ {A : Type 0} (o : Ops A) where
  lone-at : (b : Bool) (n : Nodes A) (c d : A) (m : Made A) → d ≡ c → record { nodes = cond b n m.nodes; operand = cond b (Constant c) (AtNode m.node) }
      ≡ (let f : MadeFactors A = cond b (record { nodes = n; node = None }) (record { nodes = m.nodes; node = Some m.node }) in product_in o f.nodes (cond b (Some d) None) f.node)
  lone-at true n c d m h = ap (λ y. valued n (Constant y)) (sym h)
  lone-at false n c d m h = refl

  number-at : (b : Bool) (c d : A) (x : Option A) → unwrap_or x o.one ≡ d → unwrap_or (cond b (Some (o.times c (unwrap_or x o.one))) x) o.one ≡ cond b (o.times c d) d
  number-at true c d x h = ap (o.times c) h
  number-at false c d x h = h

  fixed-first : (b c : Bool) → (b && c) ≡ true → b ≡ true
  fixed-first true c h = refl
  fixed-first false c h = h

  fixed-rest : (b c : Bool) → (b && c) ≡ true → c ≡ true
  fixed-rest true c h = h
  fixed-rest false c h = absurd cc

  some-product : (n : Nodes A) (number : Option A) (node : Option ℕ) → IsSomeNode node → at_made (scaled number (there n (unwrap_or node 0))) ≡ product_in o n number node
  some-product n number (Some k) h = refl
  some-product n number None h = absurd cc

  product-at : (b : Bool) (n : Nodes A) (c : A) (f : MadeFactors A) (number : Option A) → (b ≡ true → valued n (Constant c) ≡ product_in o f.nodes number f.node) → (b ≡ false → IsSomeNode f.node)
      → record {
        nodes = cond b n (cond b (next n (gate.Constant c)) (scaled number (product f))).nodes;
        operand = cond b (Constant c) (AtNode (cond b (next n (gate.Constant c)) (scaled number (product f))).node);
      } ≡ product_in o f.nodes number f.node
  product-at true n c f number h k = h refl
  product-at false n c f number h k = some-product f.nodes number f.node (k refl)

module _ {A : Type 0} (s : Scope A) where
  -- constant factors make no nodes
  fixed-factor : (n : Nodes A) (before : Option ℕ) (e : Expr) (m : Made A) → is_constant s e ≡ true → factored s n before e m ≡ record { nodes = n; node = before }
  fixed-factor n before e m h = ap (λ b. cond b (record { nodes = n; node = before }) (record { nodes = (joined before m).nodes; node = Some (joined before m).node })) h

  fixed-factors : (n : Nodes A) (before : Option ℕ) (es : Exprs) → are_constant s es ≡ true → made_factors s n before es ≡ record { nodes = n; node = before }
  fixed-factors n before NoExpr h = refl
  fixed-factors n before (factor e es) h =
      ap (λ (m : MadeFactors A). made_factors s m.nodes m.node es) (fixed-factor n before e (made s n e) (fixed-first s.ops (is_constant s e) (are_constant s es) h))
      ∙ fixed-factors n before es (fixed-rest s.ops (is_constant s e) (are_constant s es) h)

  fixed-number : (es : Exprs) → are_constant s es ≡ true → unwrap_or (constant_factor s es) s.ops.one ≡ factors_value (constants s) es
  fixed-number NoExpr h = refl
  fixed-number (factor e es) h =
      number-at s.ops (is_constant s e) (constant s e) (factors_value (constants s) es) (constant_factor s es) (fixed-number es (fixed-rest s.ops (is_constant s e) (are_constant s es) h))
      ∙ ap (λ b. cond b (s.ops.times (constant s e) (factors_value (constants s) es)) (factors_value (constants s) es)) (fixed-first s.ops (is_constant s e) (are_constant s es) h)

  many-value : (n : Nodes A) (es : Exprs) → expr_value s n (Multiplied es) ≡ product_in s.ops (made_factors s n None es).nodes (constant_factor s es) (made_factors s n None es).node
  many-value n es =
      let f = made_factors s n None es in
      product-at s.ops (are_constant s es) n (constant s (Multiplied es)) f (constant_factor s es)
      (λ h. ap (λ y. valued n (Constant y)) (sym (fixed-number es h)) ∙ ap (λ (m : MadeFactors A). product_in s.ops m.nodes (constant_factor s es) m.node) (sym (fixed-factors n None es h)))
      (factors-some s n None es)

  -- a product, of one factor too, is the constant factors times the others
  pub product-value : RingLaws s.ops → (n : Nodes A) (es : Exprs) → expr_value s n (multiplied es) ≡ product_in s.ops (made_factors s n None es).nodes (constant_factor s es) (made_factors s n None es).node
  product-value r n NoExpr = many-value n NoExpr
  product-value r n (factor e NoExpr) = lone-at s.ops (is_constant s e) n (constant s e) (s.ops.times (constant s e) s.ops.one) (made s n e) (r.times_one (constant s e))
  product-value r n (factor e (factor f es)) = many-value n (factor e (factor f es))
