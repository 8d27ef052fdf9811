-- What is held of code after each word.
use Rattle.std.specs.Prelude.{◌≡◌, ℕ, ◌+◌, Bool, true, false, List, [], ◌∷◌, ◌++◌, map, count_by, Option, Some, None, if◌then◌else◌}
use Rattle.std.proofs.Common.{refl, sym, ap, ap₂, ◌∙◌, append-nil}
use Rattle.std.proofs.lemmas.List.{map_push}
use Rattle.lzk_field.specs.Ring.{Ops, RingLaws}
use Rattle.lzk_expr.specs.Trees.{Expr, Number, PublicInput, PrivateInput, Named, Statement, is_public, is_private}
use Rattle.lzk_expr.specs.Trees as tree
use Rattle.lzk_expr.specs.Meanings.{Reads, Atom, Plus, Minus, Times, Open, Close, nothing_read, added, parts_of_half, opened, with_atom_read, with_part}
use Rattle.lzk_expr.specs.Codes.{Item, Define, Left, Right, Definition, Equation, CodeReads, code_done, nothing_coded, nameless, next_word}
use Rattle.lzk_level.specs.declared.half.Half as memory
use Rattle.lzk_level.specs.declared.lets.Operand.{Operand}
use Rattle.lzk_level.specs.declared.lets.Operand.TheVariants.{Constant, AtNode}
use Rattle.lzk_level.specs.Nodes.{Nodes, nodes_from}
use Rattle.lzk_level.specs.Compiling.{Scope, scope, let_at, Made, MadeFactors, MadeOutputs, made, at_let, difference, let_nodes, let_operand, statements_made, nodes_of}
use Rattle.lzk_level.specs.Steps.{Held, Valued, valued, nothing_held, with_value, next_part_held, held_minus, held_times, held_sum, sum_made, held_opened, held_closed, begun, held_defined, held_left, held_right}
use Rattle.lzk_level.specs.Makings.{expr_value, nodes_behind, parts_behind, held_behind, halves_held, reads_held, with_some_name, left_made, statements_held, code_held}
use Rattle.lzk_level.proofs.ExprValues.{made-of-value, number-value, public-value, private-value, named-value}
use Rattle.lzk_level.proofs.ReadLaws.{open_held, atom-law, part-law, opened-law}
use Rattle.lzk_level.proofs.EndLaws.{sum-law, closed-law, begun-law}
use Rattle.lzk_level.proofs.WordLaws.{with_minus, with_times, Closes, Ends, atom-next, plus-next, minus-next, times-next, open-next, close-next, ends-is, item-next, define-next, left-next, right-next}
use Rattle.lzk_level.proofs.DoneLaws.{names_behind, done-law, nameless-made}

-- ---- an expression that is read
module _ {A : Type 0} (s : Scope A) (r : RingLaws s.ops) (n : Nodes A) (outputs : List ℕ) (left : Option ℕ) where
  abbrev reading : Reads → Held A
  reading reads = reads_held s n outputs left reads

  pub atom-held : (reads : Reads) (e : Expr) (x : Operand A) → expr_value s (reading reads).nodes e ≡ valued (reading reads).nodes x → reading (with_atom_read reads e) ≡ with_value s.ops (reading reads) x
  unfolding reads_held
  atom-held reads e x is =
      atom-law s r n outputs left reads.outer reads.now e reads.ready
      ∙ ap (λ (v : Valued A). with_value s.ops (open_held s r n outputs left reads.outer reads.now reads.ready v.nodes (parts_behind s n (reads.now ∷ reads.outer))) v.operand) is

  pub part-held : (reads : Reads) (minus : Bool) → reading (with_part reads minus) ≡ next_part_held s.ops (reading reads) minus
  part-held reads minus = part-law s r n outputs left reads.outer reads.now minus reads.ready

  minus-at : (b : Bool) (reads : Reads) → reads.ready ≡ b → reading (if b then with_part reads true else with_minus reads) ≡ (if b then next_part_held s.ops (reading reads) true else reading (with_minus reads))
  minus-at true reads e = part-held reads true
  minus-at false reads e = refl

  pub minus-held : (reads : Reads) → reading (if reads.ready then with_part reads true else with_minus reads) ≡ held_minus s.ops (reading reads)
  unfolding reads_held
  minus-held reads = minus-at reads.ready reads refl

  pub times-held : (reads : Reads) → reading (with_times reads) ≡ held_times (reading reads)
  unfolding reads_held
  times-held reads = refl

  pub opened-held : (reads : Reads) → reading (opened reads) ≡ held_opened s.ops (reading reads)
  opened-held reads = opened-law s r n outputs left reads.outer reads.now reads.ready

  -- the sum that closes is a factor of the one before it
  pub record ClosedHeld (reads more : Reads) : Type 0 where
    pub outer : List (memory.Half A)
    pub before : memory.Half A
    pub outer_is : (reading reads).outer ≡ outer ++ before ∷ []
    pub after : reading more ≡ held_closed s.ops (reading reads) outer before

  pub closed-held : (reads more : Reads) → Closes reads more → ClosedHeld reads more
  unfolding reads_held
  closed-held reads more c = record {
    outer = halves_held s n c.outer;
    before = held_behind s n c.outer c.before;
    outer_is = ap (halves_held s n) c.outer_is;
    after =
        ap reading (sym c.after) ∙ closed-law s r n outputs left c.outer c.before reads.now reads.ready
        ∙ ap (λ hs. held_closed s.ops (reading (record { outer = hs; now = reads.now; ready = reads.ready })) (halves_held s n c.outer) (held_behind s n c.outer c.before)) (sym c.outer_is);
  }

  -- the value of an expression that ends
  pub ended-value : (reads : Reads) (e : Expr) → Ends reads e → expr_value s n e ≡ held_sum s.ops (reading reads)
  ended-value reads e h =
      ap (expr_value s n) (sym h.is) ∙ ap (λ hs. expr_value s (nodes_behind s n hs) (added (parts_of_half reads.now))) (sym h.outer_is)
      ∙ sum-law s r n outputs left reads.outer reads.now reads.ready

  pub ended-made : (reads : Reads) (e : Expr) → Ends reads e → made s n e ≡ sum_made s.ops (reading reads)
  ended-made reads e h = made-of-value s n e ∙ ap (λ (v : Valued A). at_let v.nodes v.operand) (ended-value reads e h)

  -- and behind it the next one begins
  pub ended-begun : (reads : Reads) (e : Expr) → Ends reads e → (m : Nodes A) (lets : List (Operand A)) (more : List ℕ) (side : Option ℕ)
      → reads_held (scope s.ops s.element lets) m more side nothing_read ≡ begun s.ops (reading reads) m lets more side
  ended-begun reads e h m lets more side =
      sym (begun-law s r n outputs left reads.now reads.ready m lets more side)
      ∙ ap (λ hs. begun s.ops (reading (record { outer = hs; now = reads.now; ready = reads.ready })) m lets more side) (sym h.outer_is)

-- ---- code
module _ {A : Type 0} (o : Ops A) (r : RingLaws o) (element : ℕ → A) (publics privates : ℕ) where
  abbrev held : CodeReads → Held A
  held c = code_held o element publics privates c

  abbrev statements : CodeReads → List Statement
  statements c = map with_some_name c.done

  abbrev none : Scope A
  none = scope o element []

  abbrev inputs : Nodes A
  inputs = nodes_from publics privates []

  abbrev before : CodeReads → MadeOutputs A
  before c = statements_made none inputs (statements c)

  -- what the let names stand for where the next expression is read
  abbrev pub names : CodeReads → Scope A
  names c = names_behind none inputs (statements c)

  abbrev side : CodeReads → MadeFactors A
  side c = left_made (names c) (before c).nodes c.left

  pub held-is : (c : CodeReads) → held c ≡ reads_held (names c) (side c).nodes (before c).outputs (side c).node c.reads
  unfolding code_held statements_held
  held-is c = refl

  -- ---- steps of an expression

  goes : (c more : CodeReads) (reads : Reads) (step : Held A → Held A) → record { reads = reads; left = c.left; done = c.done } ≡ more
      → reads_held (names c) (side c).nodes (before c).outputs (side c).node reads ≡ step (reads_held (names c) (side c).nodes (before c).outputs (side c).node c.reads) → held more ≡ step (held c)
  goes c more reads step after h = ap held (sym after) ∙ held-is (record { reads = reads; left = c.left; done = c.done }) ∙ h ∙ ap step (sym (held-is c))

  pub atom-step : (c more : CodeReads) (e : Expr) (x : Operand A) → next_word c (Item (Atom e)) ≡ Some more → expr_value (names c) (held c).nodes e ≡ valued (held c).nodes x → held more ≡ with_value o (held c) x
  atom-step c more e x h is =
      let g = item-next c more (Atom e) h in
      goes c more (with_atom_read c.reads e) (λ m. with_value o m x) (ap (λ (y : Reads). record { reads = y; left = c.left; done = c.done }) (atom-next c.reads g.reads e g.next_is) ∙ g.after)
      (atom-held (names c) r (side c).nodes (before c).outputs (side c).node c.reads e x (ap (λ (m : Held A). expr_value (names c) m.nodes e) (sym (held-is c)) ∙ is ∙ ap (λ (m : Held A). valued m.nodes x) (held-is c)))

  pub number-step : (c more : CodeReads) (k : ℕ) → next_word c (Item (Atom (Number k))) ≡ Some more → held more ≡ with_value o (held c) (Constant (element k))
  number-step c more k h = atom-step c more (Number k) (Constant (element k)) h (number-value (names c) (held c).nodes k)

  pub public-step : (c more : CodeReads) (i : ℕ) → next_word c (Item (Atom (PublicInput i))) ≡ Some more → held more ≡ with_value o (held c) (AtNode (1 + i))
  public-step c more i h = atom-step c more (PublicInput i) (AtNode (1 + i)) h (public-value (names c) (held c).nodes i)

  pub private-step : (c more : CodeReads) (i : ℕ) → next_word c (Item (Atom (PrivateInput i))) ≡ Some more → held more ≡ with_value o (held c) (AtNode (1 + (held c).nodes.publics + i))
  private-step c more i h = atom-step c more (PrivateInput i) (AtNode (1 + (held c).nodes.publics + i)) h (private-value (names c) (held c).nodes i)

  lets-are : (c : CodeReads) → (held c).lets ≡ (names c).lets
  unfolding code_held statements_held reads_held
  lets-are c = refl

  pub named-step : (c more : CodeReads) (i : ℕ) → next_word c (Item (Atom (Named i))) ≡ Some more → held more ≡ with_value o (held c) (let_at (scope o element (held c).lets) i)
  named-step c more i h =
      atom-step c more (Named i) (let_at (scope o element (held c).lets) i) h
      (named-value (names c) (held c).nodes i ∙ ap (λ lets. valued (held c).nodes (let_at (scope o element lets) i)) (sym (lets-are c)))

  pub plus-step : (c more : CodeReads) → next_word c (Item Plus) ≡ Some more → held more ≡ next_part_held o (held c) false
  plus-step c more h =
      let g = item-next c more Plus h in
      goes c more (with_part c.reads false) (λ m. next_part_held o m false) (ap (λ (y : Reads). record { reads = y; left = c.left; done = c.done }) (plus-next c.reads g.reads g.next_is) ∙ g.after)
      (part-held (names c) r (side c).nodes (before c).outputs (side c).node c.reads false)

  pub minus-step : (c more : CodeReads) → next_word c (Item Minus) ≡ Some more → held more ≡ held_minus o (held c)
  minus-step c more h =
      let g = item-next c more Minus h in
      goes c more (if c.reads.ready then with_part c.reads true else with_minus c.reads) (held_minus o) (ap (λ (y : Reads). record { reads = y; left = c.left; done = c.done }) (minus-next c.reads g.reads g.next_is) ∙ g.after)
      (minus-held (names c) r (side c).nodes (before c).outputs (side c).node c.reads)

  pub times-step : (c more : CodeReads) → next_word c (Item Times) ≡ Some more → held more ≡ held_times (held c)
  times-step c more h =
      let g = item-next c more Times h in
      goes c more (with_times c.reads) held_times (ap (λ (y : Reads). record { reads = y; left = c.left; done = c.done }) (times-next c.reads g.reads g.next_is) ∙ g.after)
      (times-held (names c) r (side c).nodes (before c).outputs (side c).node c.reads)

  pub open-step : (c more : CodeReads) → next_word c (Item Open) ≡ Some more → held more ≡ held_opened o (held c)
  open-step c more h =
      let g = item-next c more Open h in
      goes c more (opened c.reads) (held_opened o) (ap (λ (y : Reads). record { reads = y; left = c.left; done = c.done }) (open-next c.reads g.reads g.next_is) ∙ g.after)
      (opened-held (names c) r (side c).nodes (before c).outputs (side c).node c.reads)

  -- the sum that closes is a factor of the one before it
  pub record CloseStep (c more : CodeReads) : Type 0 where
    pub outer : List (memory.Half A)
    pub before : memory.Half A
    pub outer_is : (code_held o element publics privates c).outer ≡ outer ++ before ∷ []
    pub after : code_held o element publics privates more ≡ held_closed o (code_held o element publics privates c) outer before

  pub close-step : (c more : CodeReads) → next_word c (Item Close) ≡ Some more → CloseStep c more
  close-step c more h =
      let g = item-next c more Close h in
      let k = closed-held (names c) r (side c).nodes (before c).outputs (side c).node c.reads g.reads (close-next c.reads g.reads g.next_is) in
      record {
        outer = k.outer;
        before = k.before;
        outer_is = ap (λ (m : Held A). m.outer) (held-is c) ∙ k.outer_is;
        after = goes c more g.reads (λ m. held_closed o m k.outer k.before) g.after k.after;
      }

  -- ---- ends of expressions

  pub define-step : (c more : CodeReads) → next_word c Define ≡ Some more → held more ≡ held_defined o (held c)
  unfolding code_held statements_held reads_held
  define-step c more h =
      let g = define-next c more h in
      let e = g.expr in
      let t = names c in
      let n = (before c).nodes in
      let outs = (before c).outputs in
      let reading : Held A = reads_held t n outs None c.reads in
      ap held (sym g.after)
      ∙ ap (λ ss. statements_held none inputs ss None nothing_read) (map_push with_some_name c.done (Definition e))
      ∙ done-law none inputs (statements c) (tree.Define [] e) nothing_read
      ∙ ap (λ ks. reads_held (scope o element (t.lets ++ let_operand t n e ∷ [])) (let_nodes t n e) ks None nothing_read) (append-nil outs)
      ∙ ap (λ (v : Valued A). reads_held (scope o element (t.lets ++ v.operand ∷ [])) v.nodes outs None nothing_read) (ended-value t r n outs None c.reads e (ends-is c.reads e g.ends_is))
      ∙ ended-begun t r n outs None c.reads e (ends-is c.reads e g.ends_is) (held_sum o reading).nodes (t.lets ++ (held_sum o reading).operand ∷ []) outs None
      ∙ ap (λ (l : Option Expr). held_defined o (reads_held t (left_made t n l).nodes outs (left_made t n l).node c.reads)) (sym g.left_is)

  pub left-step : (c more : CodeReads) → next_word c Left ≡ Some more → held more ≡ held_left o (held c)
  unfolding code_held statements_held reads_held
  left-step c more h =
      let g = left-next c more h in
      let e = g.expr in
      let t = names c in
      let n = (before c).nodes in
      let outs = (before c).outputs in
      let reading : Held A = reads_held t n outs None c.reads in
      ap held (sym g.after)
      ∙ ap (λ (m : Made A). reads_held t m.nodes outs (Some m.node) nothing_read) (ended-made t r n outs None c.reads e (ends-is c.reads e g.ends_is))
      ∙ ended-begun t r n outs None c.reads e (ends-is c.reads e g.ends_is) (sum_made o reading).nodes t.lets outs (Some (sum_made o reading).node)
      ∙ ap (λ (l : Option Expr). held_left o (reads_held t (left_made t n l).nodes outs (left_made t n l).node c.reads)) (sym g.left_is)

  -- the equation's left side has a node
  pub record RightStep (c more : CodeReads) : Type 0 where
    pub left : ℕ
    pub left_is : (code_held o element publics privates c).left ≡ Some left
    pub after : code_held o element publics privates more ≡ held_right o (code_held o element publics privates c) left

  pub right-step : (c more : CodeReads) → next_word c Right ≡ Some more → RightStep c more
  unfolding code_held statements_held reads_held
  right-step c more h =
      let g = right-next c more h in
      let e = g.left in
      let f = g.right in
      let t = names c in
      let n = (before c).nodes in
      let outs = (before c).outputs in
      let l = made t n e in
      let reading : Held A = reads_held t l.nodes outs (Some l.node) c.reads in
      let both = difference o l.node (sum_made o reading) in
      record {
        left = l.node;
        left_is = ap (λ (x : Option Expr). (left_made t n x).node) g.left_is;
        after =
            ap held (sym g.after)
            ∙ ap (λ ss. statements_held none inputs ss None nothing_read) (map_push with_some_name c.done (Equation e f))
            ∙ done-law none inputs (statements c) (tree.Assertion e f) nothing_read
            ∙ ap (λ lets. reads_held (scope o element lets) (difference o l.node (made t l.nodes f)).nodes (outs ++ (difference o l.node (made t l.nodes f)).node ∷ []) None nothing_read) (append-nil t.lets)
            ∙ ap (λ (m : Made A). reads_held t (difference o l.node m).nodes (outs ++ (difference o l.node m).node ∷ []) None nothing_read) (ended-made t r l.nodes outs (Some l.node) c.reads f (ends-is c.reads f g.ends_is))
            ∙ ended-begun t r l.nodes outs (Some l.node) c.reads f (ends-is c.reads f g.ends_is) both.nodes t.lets (outs ++ both.node ∷ []) None
            ∙ ap (λ (x : Option Expr). held_right o (reads_held t (left_made t n x).nodes outs (left_made t n x).node c.reads) l.node) (sym g.left_is);
      }

  -- ---- all of it

  pub start-law : held nothing_coded ≡ nothing_held o publics privates
  unfolding code_held statements_held reads_held
  start-law = refl

  pub finish-nodes : (ss : List Statement) → publics ≡ count_by is_public ss → privates ≡ count_by is_private ss → (held (code_done (nameless ss))).nodes ≡ (nodes_of o element ss).nodes
  unfolding code_held statements_held reads_held
  finish-nodes ss p q = ap (λ (m : MadeOutputs A). m.nodes) (nameless-made none inputs ss) ∙ ap₂ (λ p q. (statements_made none (nodes_from p q []) ss).nodes) p q

  pub finish-outputs : (ss : List Statement) → publics ≡ count_by is_public ss → privates ≡ count_by is_private ss → (held (code_done (nameless ss))).outputs ≡ (nodes_of o element ss).outputs
  unfolding code_held statements_held reads_held
  finish-outputs ss p q = ap (λ (m : MadeOutputs A). m.outputs) (nameless-made none inputs ss) ∙ ap₂ (λ p q. (statements_made none (nodes_from p q []) ss).outputs) p q
