-- What is held of code is sound: its nodes are there, and they are few.
use Rattle.std.specs.Prelude.{◌≡◌, ℕ, ◌+◌, ◌≤◌, List, [], ◌∷◌, ◌++◌, map, Option, Some, None}
use Rattle.std.proofs.Common.{refl, sym, ap, ◌∙◌, arith, subst, length-append}
use Rattle.lzk_field.specs.Ring.{Ops, RingLaws}
use Rattle.lzk_expr.specs.Trees.{Expr, Statement}
use Rattle.lzk_expr.specs.Meanings.{Half, Reads, added, parts_of_half}
use Rattle.lzk_expr.specs.Codes.{CodeReads}
use Rattle.lzk_level.specs.declared.half.Half as memory
use Rattle.lzk_level.specs.Nodes.{Nodes, nodes_from, node_count, ArePartsOf}
use Rattle.lzk_level.specs.Compilable.{ArePartsWithin, AreFactorsWithin, AreStatementsWithin, size_of, parts_size, statement_size, statements_size, AreOperands, IsNodeOrNone}
use Rattle.lzk_level.specs.Compiling.{Scope, scope, with_lets, MadeFactors, MadeOutputs, let_nodes, statement_lets, statement_nodes, statements_made}
use Rattle.lzk_level.specs.Steps.{Held, Valued, held_sum, AreHalvesOf, IsSound}
use Rattle.lzk_level.specs.Makings.{half_parts, half_factors, nodes_behind, parts_behind, held_behind, halves_held, reads_held, with_some_name, lets_made, left_made, statements_held, code_held}
use Rattle.lzk_level.proofs.MadeLaws.{Grown, grown-same, grown-then, grown-count, same-inputs, or-none-more, parts-more, operands-more, made-grown, made-there, parts-grown, factors-grown, parts-there, factors-there}
use Rattle.lzk_level.proofs.StatementLaws.{let-grown, statement-grown, statement-lets}
use Rattle.lzk_level.proofs.SourceLaws.{statements-grown}
use Rattle.lzk_level.proofs.EndLaws.{sum-law}
use Rattle.lzk_level.proofs.WithinLaws.{IsHalfWithin, AreHalvesWithin, IsLeftWithin, IsCodeWithin}
use Rattle.lzk_level.proofs.SizeLaws.{halves_size, left_size, code_size, behind-grown}
use Rattle.lzk_level.proofs.CodeLaws.{held-is, names}

module _ {A : Type 0} where
  parts-append : (n : ℕ) (ps qs : List (A × ℕ)) → ArePartsOf n ps → ArePartsOf n qs → ArePartsOf n (ps ++ qs)
  parts-append n [] qs h k = k
  parts-append n (p ∷ ps) qs h k = (h.0, parts-append n ps qs h.1 k)

  pub halves-more : (n m : ℕ) (hs : List (memory.Half A)) → n ≤ m → AreHalvesOf n hs → AreHalvesOf m hs
  halves-more n m [] l h = tt
  halves-more n m (x ∷ hs) l h = (or-none-more n m x.node l h.0, halves-more n m hs l h.1)

  halves-add : (n : ℕ) (hs : List (memory.Half A)) (x : memory.Half A) → AreHalvesOf n hs → IsNodeOrNone n x.node → AreHalvesOf n (hs ++ x ∷ [])
  halves-add n [] x h k = (k, tt)
  halves-add n (y ∷ hs) x h k = (h.0, halves-add n hs x h.1 k)

-- ---- nodes of an expression that is read
module _ {A : Type 0} (s : Scope A) (n : Nodes A) (lets : AreOperands (node_count n) s.lets) where
  half-node : (base : Nodes A) (h : Half) → AreOperands (node_count base) s.lets → IsHalfWithin base.publics base.privates h → IsNodeOrNone (node_count (half_factors s base h).nodes) (half_factors s base h).node
  half-node base h l w =
      let p = (half_parts s base h).nodes in
      let g = parts-grown s base h.parts in
      factors-there s p None h.factors (same-inputs base p (parts_size h.parts) (λ x y. AreFactorsWithin x y h.factors) g w.1) (operands-more (node_count base) (node_count p) s.lets (grown-count base p (parts_size h.parts) g).0 l) tt

  count-behind : (hs : List Half) → node_count n ≤ node_count (nodes_behind s n hs)
  count-behind hs = (grown-count n (nodes_behind s n hs) (halves_size hs) (behind-grown s n hs)).0

  lets-behind : (hs : List Half) → AreOperands (node_count (nodes_behind s n hs)) s.lets
  lets-behind hs = operands-more (node_count n) (node_count (nodes_behind s n hs)) s.lets (count-behind hs) lets

  within-behind : (hs : List Half) (P : ℕ → ℕ → Type 0) → P n.publics n.privates → P (nodes_behind s n hs).publics (nodes_behind s n hs).privates
  within-behind hs P w = same-inputs n (nodes_behind s n hs) (halves_size hs) P (behind-grown s n hs) w

  node-behind : (hs : List Half) (h : Half) → IsHalfWithin n.publics n.privates h → IsNodeOrNone (node_count (nodes_behind s n (h ∷ hs))) (held_behind s n hs h).node
  node-behind hs h w = half-node (nodes_behind s n hs) h (lets-behind hs) (within-behind hs (λ x y. IsHalfWithin x y h) w)

  step-count : (hs : List Half) (h : Half) → (node_count (nodes_behind s n hs) ≤ node_count (half_parts s (nodes_behind s n hs) h).nodes) × (node_count (half_parts s (nodes_behind s n hs) h).nodes ≤ node_count (nodes_behind s n (h ∷ hs)))
  step-count hs h =
      let base = nodes_behind s n hs in
      let p = (half_parts s base h).nodes in
      ((grown-count base p (parts_size h.parts) (parts-grown s base h.parts)).0, (grown-count p (half_factors s base h).nodes _ (factors-grown s p None h.factors)).0)

  parts-behind : (hs : List Half) → AreHalvesWithin n.publics n.privates hs → ArePartsOf (node_count (nodes_behind s n hs)) (parts_behind s n hs)
  parts-behind [] w = tt
  parts-behind (h ∷ hs) w =
      let base = nodes_behind s n hs in
      let p = half_parts s base h in
      let c = step-count hs h in
      let all = node_count (nodes_behind s n (h ∷ hs)) in
      parts-append all (parts_behind s n hs) p.parts
      (parts-more (node_count base) all (parts_behind s n hs) (omega (arith, c.0, c.1)) (parts-behind hs w.1))
      (parts-more (node_count p.nodes) all p.parts c.1 (parts-there s base h.parts (within-behind hs (λ x y. ArePartsWithin x y h.parts) w.0.0) (lets-behind hs)))

  halves-behind : (hs : List Half) → AreHalvesWithin n.publics n.privates hs → AreHalvesOf (node_count (nodes_behind s n hs)) (halves_held s n hs)
  halves-behind [] w = tt
  halves-behind (h ∷ hs) w =
      let c = step-count hs h in
      halves-add (node_count (nodes_behind s n (h ∷ hs))) (halves_held s n hs) (held_behind s n hs h)
      (halves-more (node_count (nodes_behind s n hs)) (node_count (nodes_behind s n (h ∷ hs))) (halves_held s n hs) (omega (arith, c.0, c.1)) (halves-behind hs w.1))
      (node-behind hs h w.0)

  -- ---- where the sum that is read ends
  module _ (r : RingLaws s.ops) (outputs : List ℕ) (left : Option ℕ) where
    sum-count : (reads : Reads) → node_count (nodes_behind s n reads.outer) ≤ node_count (held_sum s.ops (reads_held s n outputs left reads)).nodes
    sum-count reads =
        let base = nodes_behind s n reads.outer in
        let e = added (parts_of_half reads.now) in
        let c = grown-count base (let_nodes s base e) (size_of e) (let-grown s base e) in
        omega (arith, c.0, ap (λ (v : Valued A). node_count v.nodes) (sum-law s r n outputs left reads.outer reads.now reads.ready))

    pub reads-sound : (reads : Reads) → AreHalvesWithin n.publics n.privates (reads.now ∷ reads.outer) → IsNodeOrNone (node_count n) left → IsSound s.ops (reads_held s n outputs left reads)
    unfolding reads_held
    reads-sound reads w side =
        let hs = reads.outer in
        let all = node_count (nodes_behind s n (reads.now ∷ hs)) in
        let c = step-count hs reads.now in
        record {
          node = node-behind hs reads.now w.0;
          outer = halves-more (node_count (nodes_behind s n hs)) all (halves_held s n hs) (omega (arith, c.0, c.1)) (halves-behind hs w.1);
          begin = omega (arith, length-append (parts_behind s n hs) (half_parts s (nodes_behind s n hs) reads.now).parts);
          parts = parts-behind (reads.now ∷ hs) w;
          lets = lets-behind (reads.now ∷ hs);
          left = or-none-more (node_count n) (node_count (held_sum s.ops (reads_held s n outputs left reads)).nodes) left (omega (arith, sum-count reads, count-behind hs)) side;
        }

-- ---- statements
module _ {A : Type 0} where
  lets-there : (s : Scope A) (n : Nodes A) (ss : List Statement) → AreStatementsWithin n.publics n.privates ss → AreOperands (node_count n) s.lets → AreOperands (node_count (statements_made s n ss).nodes) (lets_made s n ss)
  lets-there s n [] w h = h
  lets-there s n (st ∷ ss) w h =
      let m = statement_nodes s n st in
      lets-there (with_lets s (statement_lets s n st)) m ss (same-inputs n m (statement_size st) (λ p q. AreStatementsWithin p q ss) (statement-grown s n st) w.1) (statement-lets s n st w.0 h)

  left-grown : (s : Scope A) (n : Nodes A) (l : Option Expr) → Grown n (left_made s n l).nodes (left_size l)
  left-grown s n None = grown-same n 0
  left-grown s n (Some e) = made-grown s n e

  left-there : (s : Scope A) (n : Nodes A) (l : Option Expr) → IsLeftWithin n.publics n.privates l → AreOperands (node_count n) s.lets → IsNodeOrNone (node_count (left_made s n l).nodes) (left_made s n l).node
  left-there s n None w h = tt
  left-there s n (Some e) w h = made-there s n e w h

-- ---- code
module _ {A : Type 0} (o : Ops A) (r : RingLaws o) (element : ℕ → A) (p q : ℕ) where
  abbrev held : CodeReads → Held A
  held c = code_held o element p q c

  abbrev inputs : Nodes A
  inputs = nodes_from p q []

  abbrev before : CodeReads → MadeOutputs A
  before c = statements_made (scope o element []) inputs (map with_some_name c.done)

  abbrev side : CodeReads → MadeFactors A
  side c = left_made (names o r element p q c) (before c).nodes c.left

  before-grown : (c : CodeReads) → Grown inputs (before c).nodes (statements_size (map with_some_name c.done))
  before-grown c = statements-grown (scope o element []) inputs (map with_some_name c.done)

  side-grown : (c : CodeReads) → Grown inputs (side c).nodes (statements_size (map with_some_name c.done) + left_size c.left)
  side-grown c =
      grown-then inputs (before c).nodes (side c).nodes (statements_size (map with_some_name c.done)) (left_size c.left) (statements_size (map with_some_name c.done) + left_size c.left)
      (before-grown c) (left-grown (names o r element p q c) (before c).nodes c.left) (omega arith)

  all-grown : (c : CodeReads) → Grown inputs (nodes_behind (names o r element p q c) (side c).nodes (c.reads.now ∷ c.reads.outer)) (code_size c)
  all-grown c =
      let hs = c.reads.now ∷ c.reads.outer in
      grown-then inputs (side c).nodes (nodes_behind (names o r element p q c) (side c).nodes hs) (statements_size (map with_some_name c.done) + left_size c.left) (halves_size hs) (code_size c)
      (side-grown c) (behind-grown (names o r element p q c) (side c).nodes hs) (omega arith)

  nodes-are : (c : CodeReads) → (held c).nodes ≡ nodes_behind (names o r element p q c) (side c).nodes (c.reads.now ∷ c.reads.outer)
  unfolding code_held statements_held reads_held
  nodes-are c = refl

  -- the inputs are those of the code
  pub publics-are : (c : CodeReads) → (held c).nodes.publics ≡ p
  publics-are c = let g = all-grown c in ap (λ (n : Nodes A). n.publics) (nodes-are c) ∙ g.publics

  pub privates-are : (c : CodeReads) → (held c).nodes.privates ≡ q
  privates-are c = let g = all-grown c in ap (λ (n : Nodes A). n.privates) (nodes-are c) ∙ g.privates

  pub held-count : (c : CodeReads) → node_count (held c).nodes ≤ p + q + code_size c
  held-count c = let k = grown-count inputs _ (code_size c) (all-grown c) in omega (arith, k.1, ap node_count (nodes-are c))

  side-lets : (c : CodeReads) → IsCodeWithin p q c → AreOperands (node_count (side c).nodes) (names o r element p q c).lets
  side-lets c w =
      let t = names o r element p q c in
      operands-more (node_count (before c).nodes) (node_count (side c).nodes) t.lets (grown-count (before c).nodes (side c).nodes (left_size c.left) (left-grown t (before c).nodes c.left)).0
      (lets-there (scope o element []) inputs (map with_some_name c.done) w.done tt)

  side-left : (c : CodeReads) → IsCodeWithin p q c → IsNodeOrNone (node_count (side c).nodes) (side c).node
  side-left c w =
      left-there (names o r element p q c) (before c).nodes c.left (same-inputs inputs (before c).nodes _ (λ x y. IsLeftWithin x y c.left) (before-grown c) w.left)
      (lets-there (scope o element []) inputs (map with_some_name c.done) w.done tt)

  -- all nodes that are held are there
  pub held-sound : (c : CodeReads) → IsCodeWithin p q c → IsSound o (held c)
  held-sound c w =
      let t = names o r element p q c in
      let within = same-inputs inputs (side c).nodes _ (λ x y. AreHalvesWithin x y (c.reads.now ∷ c.reads.outer)) (side-grown c) (w.now, w.outer) in
      subst (IsSound o) (sym (held-is o r element p q c))
      (reads-sound t (side c).nodes (side-lets c w) r (before c).outputs (side c).node c.reads within (side-left c w))
