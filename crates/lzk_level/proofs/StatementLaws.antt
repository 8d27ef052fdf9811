-- How the nodes of statements grow.
use Rattle.std.specs.Prelude.{◌≡◌, ℕ, ◌+◌, Bool, true, false, cond, [], ◌∷◌, ◌++◌}
use Rattle.std.proofs.Common.{sym, arith, subst, append-nil}
use Rattle.lzk_expr.specs.Trees.{Expr, Statement, DeclarePublic, DeclarePrivate, Define, Assertion}
use Rattle.lzk_level.specs.Gates as gate
use Rattle.lzk_level.specs.declared.lets.Operand.TheVariants.{Constant, AtNode}
use Rattle.lzk_level.specs.Nodes.{Nodes, node_count, ArePartsOf}
use Rattle.lzk_level.specs.Compilable.{IsWithin, size_of, IsOperand, AreOperands, IsStatementWithin, statement_size}
use Rattle.lzk_level.specs.Compiling.{Scope, is_constant, constant, Made, made, made_assert, let_nodes, let_operand, statement_lets, statement_nodes}
use Rattle.lzk_level.proofs.MadeLaws.{Grown, grown-same, grown-next, grown-then, grown-count, node-more, operands-more, operands-add, next-there, IsThere, made-grown, made-there, made-count, made-operands, made-inputs, made-node}

module _ {A : Type 0} (s : Scope A) where
  -- ---- asserts
  pub assert-grown : (n : Nodes A) (e f : Expr) → Grown n (made_assert s n e f).nodes (1 + size_of e + size_of f)
  assert-grown n e f =
      let left = made s n e in
      let right = made s left.nodes f in
      grown-then n right.nodes _ (size_of e + size_of f) 1 (1 + size_of e + size_of f)
      (grown-then n left.nodes right.nodes (size_of e) (size_of f) (size_of e + size_of f) (made-grown s n e) (made-grown s left.nodes f) (omega arith))
      (grown-next right.nodes (gate.Combine ((s.ops.one, left.node) ∷ (s.ops.neg s.ops.one, right.node) ∷ [])) 1 (omega arith)) (omega arith)

  pub assert-there : (n : Nodes A) (e f : Expr) → IsThere (made_assert s n e f)
  assert-there n e f = next-there (made s (made s n e).nodes f).nodes _

  -- the parts of a difference, where x and y hold the nodes behind each side
  pub difference-parts : (n x y : Nodes A) (e f : Expr) (k l : ℕ) (b c : A) → x ≡ (made s n e).nodes → k ≡ (made s n e).node → y ≡ (made s x f).nodes → l ≡ (made s x f).node
      → IsWithin n.publics n.privates e → IsWithin n.publics n.privates f → AreOperands (node_count n) s.lets → ArePartsOf (node_count y) ((b, k) ∷ (c, l) ∷ [])
  difference-parts n x y e f k l b c xn xk yn yl we wf h =
      let lets = made-operands s n x e xn h in
      let inside = made-inputs s n x e (λ p q. IsWithin p q f) xn wf in
      (node-more (node_count x) (node_count y) k (made-count s x y f yn).0 (made-node s n x k e xn xk we h), (made-node s x y l f yn yl inside lets, tt))

  -- ---- let names
  let-cases : (b : Bool) (x y : Nodes A) (n : Nodes A) (most : ℕ) → Grown n x most → Grown n y most → Grown n (cond b x y) most
  let-cases true x y n most f g = f
  let-cases false x y n most f g = g

  pub let-grown : (n : Nodes A) (e : Expr) → Grown n (let_nodes s n e) (size_of e)
  let-grown n e = let-cases (is_constant s e) n (made s n e).nodes n (size_of e) (grown-same n (size_of e)) (made-grown s n e)

  let-there-at : (b : Bool) (c : A) (n : Nodes A) (m : Made A) → IsThere m → IsOperand (node_count (cond b n m.nodes)) (cond b (Constant c) (AtNode m.node))
  let-there-at true c n m h = tt
  let-there-at false c n m h = h

  pub let-there : (n : Nodes A) (e : Expr) → IsWithin n.publics n.privates e → AreOperands (node_count n) s.lets → IsOperand (node_count (let_nodes s n e)) (let_operand s n e)
  let-there n e w h = let-there-at (is_constant s e) (constant s e) n (made s n e) (made-there s n e w h)

  -- ---- statements
  pub statement-grown : (n : Nodes A) (st : Statement) → Grown n (statement_nodes s n st) (statement_size st)
  statement-grown n (DeclarePublic w) = grown-same n 0
  statement-grown n (DeclarePrivate w) = grown-same n 0
  statement-grown n (Define w e) = let-grown n e
  statement-grown n (Assertion e f) = assert-grown n e f

  lets-same : (n : ℕ) → AreOperands n s.lets → AreOperands n (s.lets ++ [])
  lets-same n h = subst (AreOperands n) (sym (append-nil s.lets)) h

  pub statement-lets : (n : Nodes A) (st : Statement) → IsStatementWithin n.publics n.privates st → AreOperands (node_count n) s.lets → AreOperands (node_count (statement_nodes s n st)) (s.lets ++ statement_lets s n st)
  statement-lets n (DeclarePublic w) i h = lets-same (node_count n) h
  statement-lets n (DeclarePrivate w) i h = lets-same (node_count n) h
  statement-lets n (Define w e) i h =
      operands-add (node_count (let_nodes s n e)) s.lets (let_operand s n e) (operands-more (node_count n) (node_count (let_nodes s n e)) s.lets (grown-count n _ (size_of e) (let-grown n e)).0 h) (let-there n e i h)
  statement-lets n (Assertion e f) i h =
      let more = (grown-count n _ (1 + size_of e + size_of f) (assert-grown n e f)).0 in
      lets-same (node_count (made_assert s n e f).nodes) (operands-more (node_count n) (node_count (made_assert s n e f).nodes) s.lets more h)
