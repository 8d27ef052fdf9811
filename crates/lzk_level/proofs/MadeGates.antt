-- The gates of a source's nodes are gates of the nodes before them.
use Rattle.std.specs.Prelude.{◌≡◌, ℕ, ◌+◌, ◌≤◌, Bool, true, false, cond, List, [], ◌∷◌, Option, Some, None}
use Rattle.std.proofs.Common.{refl, arith}
use Rattle.lzk_expr.specs.Trees.{Expr, Number, PublicInput, PrivateInput, Named, Neg, Added, Multiplied, Parts, NoPart, part, Exprs, NoExpr, factor, Statement, DeclarePublic, DeclarePrivate, Define, Assertion}
use Rattle.lzk_level.specs.Gates.{Gate}
use Rattle.lzk_level.specs.Gates as gate
use Rattle.lzk_level.specs.declared.lets.Operand.{Operand}
use Rattle.lzk_level.specs.declared.lets.Operand.TheVariants.{Constant, AtNode}
use Rattle.lzk_level.specs.Nodes.{Nodes, node_count, input_count, with_gate, IsGate, AreGates}
use Rattle.lzk_level.specs.Compilable.{IsWithin, ArePartsWithin, AreFactorsWithin, size_of, AreOperands, IsNodeOrNone, IsStatementWithin, AreStatementsWithin, statement_size}
use Rattle.lzk_level.specs.Compiling.{Scope, with_lets, let_at, is_constant, constant, constant_factor, Made, MadeFactors, next, at_let, multiple, summed, joined, factored, scaled, product, made, made_parts, made_factors, made_assert, statement_lets, statement_nodes, statements_made}
use Rattle.lzk_level.proofs.GateLaws.{gates-more}
use Rattle.lzk_level.proofs.MadeLaws.{grown-count, same-inputs, node-more, some-there, operands-more, IsThere, made-grown, made-there, parts-there, factors-there, factors-some, parts-some, factored-there, grown-factored}
use Rattle.lzk_level.proofs.StatementLaws.{difference-parts, statement-grown, statement-lets}

module _ {A : Type 0} where
  -- each gate is over the nodes before it
  abbrev pub HasGates : Nodes A → Type 0
  HasGates n = AreGates (input_count n) n.made

  gates-next : (n : Nodes A) (g : Gate A) → IsGate (node_count n) g → HasGates n → HasGates (with_gate n g)
  gates-next n g is h = gates-more (input_count n) (node_count n) n.made g refl h is

  gates-either : (b : Bool) (x y : Made A) → HasGates x.nodes → (b ≡ false → HasGates y.nodes) → HasGates (cond b x y).nodes
  gates-either true x y h k = h
  gates-either false x y h k = k refl

  factors-either : (b : Bool) (x y : MadeFactors A) → HasGates x.nodes → HasGates y.nodes → HasGates (cond b x y).nodes
  factors-either true x y h k = h
  factors-either false x y h k = k

  nodes-either : (b : Bool) (x y : Nodes A) → HasGates x → HasGates y → HasGates (cond b x y)
  nodes-either true x y h k = h
  nodes-either false x y h k = k

  gates-let : (n : Nodes A) (x : Operand A) → HasGates n → HasGates (at_let n x).nodes
  gates-let n (Constant c) h = gates-next n (gate.Constant c) tt h
  gates-let n (AtNode k) h = h

  gates-multiple : (c : A) (m : Made A) → IsThere m → HasGates m.nodes → HasGates (multiple c m).nodes
  gates-multiple c m there h = gates-next m.nodes (gate.Combine ((c, m.node) ∷ [])) (omega arith, (there, tt)) h

  gates-joined : (n : Nodes A) (before : Option ℕ) (m : Made A) → node_count n ≤ node_count m.nodes → IsNodeOrNone (node_count n) before → IsThere m → HasGates m.nodes → HasGates (joined before m).nodes
  gates-joined n None m l b there h = h
  gates-joined n (Some k) m l b there h = gates-next m.nodes (gate.Mul k m.node) (node-more (node_count n) (node_count m.nodes) k l b, there) h

  gates-scaled : (c : Option A) (m : Made A) → IsThere m → HasGates m.nodes → HasGates (scaled c m).nodes
  gates-scaled None m there h = h
  gates-scaled (Some c) m there h = gates-multiple c m there h

module _ {A : Type 0} (s : Scope A) where
  mutual
    made-gates : (n : Nodes A) (e : Expr) → IsWithin n.publics n.privates e → AreOperands (node_count n) s.lets → HasGates n → HasGates (made s n e).nodes
    made-gates n (Number k) w l h = gates-next n (gate.Constant (s.element k)) tt h
    made-gates n (PublicInput i) w l h = h
    made-gates n (PrivateInput i) w l h = h
    made-gates n (Named i) w l h = gates-let n (let_at s i) h
    made-gates n (Neg e) w l h =
        gates-either (is_constant s e) (next n (gate.Constant (constant s (Neg e)))) (multiple (s.ops.neg s.ops.one) (made s n e)) (gates-next n (gate.Constant (constant s (Neg e))) tt h)
        (λ free. gates-multiple (s.ops.neg s.ops.one) (made s n e) (made-there s n e w l) (made-gates n e w l h))
    made-gates n (Added ps) w l h =
        let m = made_parts s n ps in
        gates-either (is_constant s (Added ps)) (next n (gate.Constant (constant s (Added ps)))) (summed m) (gates-next n (gate.Constant (constant s (Added ps))) tt h)
        (λ free. gates-next m.nodes (gate.Combine m.parts) (parts-some s n ps free, parts-there s n ps w l) (parts-gates n ps w l h))
    made-gates n (Multiplied es) w l h =
        let m = made_factors s n None es in
        gates-either (is_constant s (Multiplied es)) (next n (gate.Constant (constant s (Multiplied es)))) (scaled (constant_factor s es) (product m)) (gates-next n (gate.Constant (constant s (Multiplied es))) tt h)
        (λ free. gates-scaled (constant_factor s es) (product m) (some-there (node_count m.nodes) m.node (factors-some s n None es free) (factors-there s n None es w l tt)) (factors-gates n None es w l tt h))

    parts-gates : (n : Nodes A) (ps : Parts) → ArePartsWithin n.publics n.privates ps → AreOperands (node_count n) s.lets → HasGates n → HasGates (made_parts s n ps).nodes
    parts-gates n NoPart w l h = h
    parts-gates n (part m e ps) w l h =
        let x = (made s n e).nodes in
        let g = made-grown s n e in
        parts-gates x ps (same-inputs n x (size_of e) (λ p q. ArePartsWithin p q ps) g w.1) (operands-more (node_count n) (node_count x) s.lets (grown-count n x (size_of e) g).0 l) (made-gates n e w.0 l h)

    factors-gates : (n : Nodes A) (before : Option ℕ) (es : Exprs) → AreFactorsWithin n.publics n.privates es → AreOperands (node_count n) s.lets → IsNodeOrNone (node_count n) before → HasGates n → HasGates (made_factors s n before es).nodes
    factors-gates n before NoExpr w l b h = h
    factors-gates n before (factor e es) w l b h =
        let x = made s n e in
        let m = factored s n before e x in
        let g = grown-factored s n before e x (size_of e) (made-grown s n e) in
        let there = made-there s n e w.0 l in
        let more = (grown-count n x.nodes (size_of e) (made-grown s n e)).0 in
        let first = factors-either (is_constant s e) (record { nodes = n; node = before }) (record { nodes = (joined before x).nodes; node = Some (joined before x).node }) h (gates-joined n before x more b there (made-gates n e w.0 l h)) in
        factors-gates m.nodes m.node es (same-inputs n m.nodes (1 + size_of e) (λ p q. AreFactorsWithin p q es) g w.1) (operands-more (node_count n) (node_count m.nodes) s.lets (grown-count n m.nodes (1 + size_of e) g).0 l) (factored-there s n before e x b there) first

  assert-gates : (n : Nodes A) (e f : Expr) → IsWithin n.publics n.privates e → IsWithin n.publics n.privates f → AreOperands (node_count n) s.lets → HasGates n → HasGates (made_assert s n e f).nodes
  assert-gates n e f we wf l h =
      let left = made s n e in
      let right = made s left.nodes f in
      let g = made-grown s n e in
      let c = grown-count n left.nodes (size_of e) g in
      gates-next right.nodes (gate.Combine ((s.ops.one, left.node) ∷ (s.ops.neg s.ops.one, right.node) ∷ []))
      (omega arith, difference-parts s n left.nodes right.nodes e f left.node right.node s.ops.one (s.ops.neg s.ops.one) refl refl refl refl we wf l)
      (made-gates left.nodes f (same-inputs n left.nodes (size_of e) (λ p q. IsWithin p q f) g wf) (operands-more (node_count n) (node_count left.nodes) s.lets c.0 l) (made-gates n e we l h))

  statement-gates : (n : Nodes A) (st : Statement) → IsStatementWithin n.publics n.privates st → AreOperands (node_count n) s.lets → HasGates n → HasGates (statement_nodes s n st)
  statement-gates n (DeclarePublic v) w l h = h
  statement-gates n (DeclarePrivate v) w l h = h
  statement-gates n (Define v e) w l h = nodes-either (is_constant s e) n (made s n e).nodes h (made-gates n e w l h)
  statement-gates n (Assertion e f) w l h = assert-gates n e f w.0 w.1 l h

module _ {A : Type 0} where
  pub statements-gates : (s : Scope A) (n : Nodes A) (ss : List Statement) → AreStatementsWithin n.publics n.privates ss → AreOperands (node_count n) s.lets → HasGates n → HasGates (statements_made s n ss).nodes
  statements-gates s n [] w l h = h
  statements-gates s n (st ∷ ss) w l h =
      let m = statement_nodes s n st in
      statements-gates (with_lets s (statement_lets s n st)) m ss (same-inputs n m (statement_size st) (λ p q. AreStatementsWithin p q ss) (statement-grown s n st) w.1) (statement-lets s n st w.0 l) (statement-gates s n st w.0 l h)
