-- The nodes of a source have its values.
use Rattle.std.specs.Prelude.{◌≡◌, ℕ, ◌+◌, ◌<◌, ◌≤◌, Bool, true, false, cond, List, [], ◌∷◌, ◌++◌, length, map, count_by}
use Rattle.std.proofs.Common.{zero, suc, refl, sym, ap, ap₂, ◌∙◌, arith, subst, append-nil}
use Rattle.std.proofs.lemmas.List.{length-append}
use Rattle.std.proofs.lemmas.List.Sums.{sum_by-cons}
use Rattle.lzk_field.specs.Ring.{Ops, RingLaws}
use Rattle.lzk_field.specs.Sums.{entry, minus}
use Rattle.lzk_field.proofs.RingBasics.{one_times, neg_times}
use Rattle.lzk_expr.specs.Trees.{Expr, Statement, DeclarePublic, DeclarePrivate, Define, Assertion, is_public, is_private, is_assertion}
use Rattle.lzk_expr.specs.SourceValues.{given, value_of, assert_values, source_value}
use Rattle.lzk_level.specs.Gates as gate
use Rattle.lzk_level.specs.declared.lets.Operand.{Operand}
use Rattle.lzk_level.specs.declared.lets.Operand.TheVariants.{Constant, AtNode}
use Rattle.lzk_level.specs.Nodes.{Nodes, node_count, IsNode, node_values}
use Rattle.lzk_circuit_reduce.specs.Renumbering.{at}
use Rattle.lzk_level.specs.Compilable.{IsWithin, size_of, AreStatementsWithin, statement_size, statements_size, AreNodes}
use Rattle.lzk_level.specs.Compiling.{Scope, scope, with_lets, is_constant, constant, Made, made, made_assert, let_nodes, let_operand, statement_lets, statement_nodes, statement_outputs, statements_made, inputs_alone, nodes_of}
use Rattle.lzk_level.proofs.MadeLaws.{Grown, grown-same, grown-then, grown-count, same-inputs, node-more, IsThere, made-grown, made-there}
use Rattle.lzk_level.proofs.StatementLaws.{assert-grown, assert-there, let-grown, statement-grown}
use Rattle.lzk_level.proofs.ValueLaws.{Fits, fits-grown, values, values-grown, value-next, Means, AreLets, lets-grown, lets-push, lets-operands, constant-value, made-value}

-- ---- nodes of a list
nodes-more : (n m : ℕ) (ks : List ℕ) → n ≤ m → AreNodes n ks → AreNodes m ks
nodes-more n m [] l h = tt
nodes-more n m (k ∷ ks) l h = (node-more n m k l h.0, nodes-more n m ks l h.1)

nodes-append : (n : ℕ) (ks ls : List ℕ) → AreNodes n ks → AreNodes n ls → AreNodes n (ks ++ ls)
nodes-append n [] ls h k = k
nodes-append n (j ∷ ks) ls h k = (h.0, nodes-append n ks ls h.1 k)

pub node-of : (n : ℕ) (ks : List ℕ) → AreNodes n ks → (i : ℕ) → i < length ks → IsNode n (at ks i)
node-of n [] h i l = absurd (omega (arith, l))
node-of n (k ∷ ks) h zero l = h.0
node-of n (k ∷ ks) h (suc i) l = node-of n ks h.1 i (omega (arith, l))

module _ {A : Type 0} where
  pub statements-grown : (s : Scope A) (n : Nodes A) (ss : List Statement) → Grown n (statements_made s n ss).nodes (statements_size ss)
  statements-grown s n [] = grown-same n 0
  statements-grown s n (st ∷ ss) =
      let m = statement_nodes s n st in
      grown-then n m _ (statement_size st) (statements_size ss) (statement_size st + statements_size ss) (statement-grown s n st) (statements-grown (with_lets s (statement_lets s n st)) m ss) (omega arith)

  outputs-of-one : (s : Scope A) (n : Nodes A) (st : Statement) → AreNodes (node_count (statement_nodes s n st)) (statement_outputs s n st)
  outputs-of-one s n (DeclarePublic w) = tt
  outputs-of-one s n (DeclarePrivate w) = tt
  outputs-of-one s n (Define w e) = tt
  outputs-of-one s n (Assertion e f) = (assert-there s n e f, tt)

  pub outputs-there : (s : Scope A) (n : Nodes A) (ss : List Statement) → AreNodes (node_count (statements_made s n ss).nodes) (statements_made s n ss).outputs
  outputs-there s n [] = tt
  outputs-there s n (st ∷ ss) =
      let m = statement_nodes s n st in
      let t = with_lets s (statement_lets s n st) in
      let last = (statements_made t m ss).nodes in
      nodes-append (node_count last) (statement_outputs s n st) (statements_made t m ss).outputs
      (nodes-more (node_count m) (node_count last) (statement_outputs s n st) (grown-count m last (statements_size ss) (statements-grown t m ss)).0 (outputs-of-one s n st)) (outputs-there t m ss)

  outputs-count-one : (s : Scope A) (n : Nodes A) (st : Statement) → length (statement_outputs s n st) ≡ cond (is_assertion st) 1 0
  outputs-count-one s n (DeclarePublic w) = refl
  outputs-count-one s n (DeclarePrivate w) = refl
  outputs-count-one s n (Define w e) = refl
  outputs-count-one s n (Assertion e f) = refl

  pub outputs-count : (s : Scope A) (n : Nodes A) (ss : List Statement) → length (statements_made s n ss).outputs ≡ count_by is_assertion ss
  outputs-count s n [] = refl
  outputs-count s n (st ∷ ss) =
      let rest = statements_made (with_lets s (statement_lets s n st)) (statement_nodes s n st) ss in
      let first : count_by is_assertion (st ∷ ss) ≡ cond (is_assertion st) 1 0 + count_by is_assertion ss = sum_by-cons (λ x. cond (is_assertion x) 1 0) st ss in
      omega (arith, length-append (statement_outputs s n st) rest.outputs, first, outputs-count-one s n st, outputs-count (with_lets s (statement_lets s n st)) (statement_nodes s n st) ss)

module _ {A : Type 0} (o : Ops A) (r : RingLaws o) (element : ℕ → A) (public private : List A) where
  -- what an assert's node is worth
  pub assert-value : (n : Nodes A) (lets : List (Operand A)) (vs : List A) (e f : Expr) → Fits public private n → IsWithin n.publics n.privates e → IsWithin n.publics n.privates f → AreLets o public private n lets vs
      → (let m = made_assert (scope o element lets) n e f in entry o (values o public private m.nodes) m.node)
      ≡ minus o (value_of (given o element public private vs) e) (value_of (given o element public private vs) f)
  assert-value n lets vs e f fits we wf h =
      let s = scope o element lets in
      let g = given o element public private vs in
      let left = made s n e in
      let right = made s left.nodes f in
      let d = made-grown s n e in
      let fl = fits-grown public private n left.nodes (size_of e) d fits in
      let c = made-grown s left.nodes f in
      let fr = fits-grown public private left.nodes right.nodes (size_of f) c fl in
      let node = made-there s n e we (lets-operands o public private n lets vs h) in
      let x = values-grown o public private left.nodes right.nodes (size_of f) left.node c fl node.1 ∙ made-value o r element public private lets vs n e fits we h in
      let y = made-value o r element public private lets vs left.nodes f fl (same-inputs n left.nodes (size_of e) (λ p q. IsWithin p q f) d wf) (lets-grown o public private n left.nodes (size_of e) lets vs d fits h) in
      value-next o public private right.nodes (gate.Combine ((o.one, left.node) ∷ (o.neg o.one, right.node) ∷ [])) fr
      ∙ ap₂ (λ v w. o.plus (o.times o.one v) (o.plus (o.times (o.neg o.one) w) o.zero)) x y
      ∙ ap₂ (λ v w. o.plus v w) (one_times o r (value_of g e)) (r.plus_zero (o.times (o.neg o.one) (value_of g f)) ∙ neg_times o r o.one (value_of g f) ∙ ap o.neg (one_times o r (value_of g f)))

  means-at : (b : Bool) (n : Nodes A) (m : Made A) (c v : A) → (b ≡ true → c ≡ v) → IsThere m → entry o (values o public private m.nodes) m.node ≡ v → Means o public private (cond b n m.nodes) (cond b (Constant c) (AtNode m.node)) v
  means-at true n m c v h there is = h refl
  means-at false n m c v h there is = (there, is)

  pub let-is : (n : Nodes A) (lets : List (Operand A)) (vs : List A) (e : Expr) → Fits public private n → IsWithin n.publics n.privates e → AreLets o public private n lets vs
      → Means o public private (let_nodes (scope o element lets) n e) (let_operand (scope o element lets) n e) (value_of (given o element public private vs) e)
  let-is n lets vs e fits w h =
      let s = scope o element lets in
      means-at (is_constant s e) n (made s n e) (constant s e) (value_of (given o element public private vs) e) (λ fixed. constant-value o r element public private lets vs n e fixed h) (made-there s n e w (lets-operands o public private n lets vs h)) (made-value o r element public private lets vs n e fits w h)

  same-lets : (n : Nodes A) (lets : List (Operand A)) (vs : List A) → AreLets o public private n lets vs → AreLets o public private n (lets ++ []) vs
  same-lets n lets vs h = subst (λ xs. AreLets o public private n xs vs) (sym (append-nil lets)) h

  pub statements-value : (n : Nodes A) (ss : List Statement) (lets : List (Operand A)) (vs : List A) → Fits public private n → AreStatementsWithin n.publics n.privates ss → AreLets o public private n lets vs
      → (let m = statements_made (scope o element lets) n ss in map (entry o (values o public private m.nodes)) m.outputs) ≡ assert_values (given o element public private vs) ss
  statements-value n [] lets vs fits w h = refl
  statements-value n (DeclarePublic v ∷ ss) lets vs fits w h = statements-value n ss (lets ++ []) vs fits w.1 (same-lets n lets vs h)
  statements-value n (DeclarePrivate v ∷ ss) lets vs fits w h = statements-value n ss (lets ++ []) vs fits w.1 (same-lets n lets vs h)
  statements-value n (Define v e ∷ ss) lets vs fits w h =
      let s = scope o element lets in
      let m = let_nodes s n e in
      let d = let-grown s n e in
      statements-value m ss (lets ++ let_operand s n e ∷ []) (vs ++ value_of (given o element public private vs) e ∷ []) (fits-grown public private n m (size_of e) d fits) (same-inputs n m (size_of e) (λ p q. AreStatementsWithin p q ss) d w.1)
      (lets-push o public private m lets vs (let_operand s n e) (value_of (given o element public private vs) e) (lets-grown o public private n m (size_of e) lets vs d fits h) (let-is n lets vs e fits w.0 h))
  statements-value n (Assertion e f ∷ ss) lets vs fits w h =
      let s = scope o element lets in
      let both = w.0 in
      let m = made_assert s n e f in
      let most = 1 + size_of e + size_of f in
      let d = assert-grown s n e f in
      let fm = fits-grown public private n m.nodes most d fits in
      let rest = statements_made (scope o element (lets ++ [])) m.nodes ss in
      let node = assert-there s n e f in
      let first = values-grown o public private m.nodes rest.nodes (statements_size ss) m.node (statements-grown (scope o element (lets ++ [])) m.nodes ss) fm node.1 ∙ assert-value n lets vs e f fits both.0 both.1 h in
      ap₂ (λ x xs. x ∷ xs) first (statements-value m.nodes ss (lets ++ []) vs fm (same-inputs n m.nodes most (λ p q. AreStatementsWithin p q ss) d w.1) (same-lets m.nodes lets vs (lets-grown o public private n m.nodes most lets vs d fits h)))

  -- every output of the source's nodes has the source's value
  pub source-value : (ss : List Statement) → length public ≡ count_by is_public ss → length private ≡ count_by is_private ss → AreStatementsWithin (count_by is_public ss) (count_by is_private ss) ss
      → map (entry o (node_values o (nodes_of o element ss).nodes public private)) (nodes_of o element ss).outputs ≡ source_value o element public private ss
  source-value ss p q w = statements-value (inputs_alone ss) ss [] [] (record { publics = p; privates = q }) w tt
