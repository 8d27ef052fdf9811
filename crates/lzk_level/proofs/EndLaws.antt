-- What is held where a sum ends.
use Rattle.std.specs.Prelude.{◌≡◌, ℕ, ◌==◌, Bool, true, false, cond, List, [], ◌∷◌, ◌++◌, length, take, drop, Option, Some, None, if◌then◌else◌}
use Rattle.std.proofs.Common.{refl, sym, ap, ap₂, ◌∙◌, arith, append-nil, length-append}
use Rattle.std.proofs.lemmas.Bool.{eq-eqb, ne_eqb}
use Rattle.std.proofs.lemmas.List.{take_at, drop_at}
use Rattle.lzk_field.specs.Ring.{RingLaws}
use Rattle.lzk_expr.specs.Trees.{Expr, Added, Parts, NoPart, part, Exprs, add_part}
use Rattle.lzk_expr.specs.SourceValues.{parts_value}
use Rattle.lzk_expr.specs.Meanings.{Half, nothing_read, multiplied, added, with_atom, parts_of_half}
use Rattle.lzk_level.specs.Gates as gate
use Rattle.lzk_level.specs.declared.lets.Operand.{Operand}
use Rattle.lzk_level.specs.declared.lets.Operand.TheVariants.{Constant, AtNode}
use Rattle.lzk_level.specs.Nodes.{Nodes, nodes_from}
use Rattle.lzk_level.specs.Compiling.{Scope, scope, are_constant_parts, constants, MadeParts, next, summed, made_parts}
use Rattle.lzk_level.specs.Steps.{Valued, with_value, held_product, part_total, part_held, cut_to, sum_of_parts, held_sum, held_closed, begun}
use Rattle.lzk_level.specs.Makings.{expr_value, nodes_behind, parts_behind, held_behind, halves_held, reads_held}
use Rattle.lzk_level.proofs.MadeLaws.{Grown, parts-grown}
use Rattle.lzk_level.proofs.ReadLaws.{open_held, halves, reads-are, atom-law, product-law, part-total-law, parts-law}

-- a sum with parts before its last one
added-more : (ps : Parts) (k m : Bool) (f e : Expr) → added (part k f (add_part ps m e)) ≡ Added (part k f (add_part ps m e))
added-more NoPart k m f e = refl
added-more (part l g ps) k m f e = refl

module _ {A : Type 0} where
  -- cut back, the nodes are those that grew
  pub cut-grown : (n m : Nodes A) (most : ℕ) → Grown n m most → cut_to m (length n.made) ≡ n
  cut-grown n m most g =
      ap (λ xs. nodes_from m.publics m.privates xs) (ap (take (length n.made)) g.behind ∙ take_at n.made g.more (length n.made) refl)
      ∙ ap₂ (λ p q. nodes_from p q n.made) g.publics g.privates

  summed-at : (b : Bool) (n : Nodes A) (t : A) (p : MadeParts A) (m : Nodes A) (base : ℕ) (parts : List (A × ℕ)) → cut_to m base ≡ n → record { nodes = m; parts = parts } ≡ p
      → record {
        nodes = cond b n (cond b (next n (gate.Constant t)) (summed p)).nodes;
        operand = cond b (Constant t) (AtNode (cond b (next n (gate.Constant t)) (summed p)).node);
      } ≡ sum_of_parts m base parts (cond b (Some t) None)
  summed-at true n t p m base parts h k = ap (λ x. record { nodes = x; operand = Constant t }) (sym h)
  summed-at false n t p m base parts h k = ap (λ (q : MadeParts A). record { nodes = (summed q).nodes; operand = AtNode (summed q).node }) (sym k)

  alone : (outer : List (A × ℕ)) → (length (outer ++ []) == length outer) ≡ true
  alone outer = eq-eqb (length (outer ++ [])) (length outer) (ap length (append-nil outer))

  not-alone : (outer ps : List (A × ℕ)) (p : A × ℕ) → (length (outer ++ p ∷ ps) == length outer) ≡ false
  not-alone outer ps p = ne_eqb (length (outer ++ p ∷ ps)) (length outer) (λ e. omega (arith, e, length-append outer (p ∷ ps)))

module _ {A : Type 0} (s : Scope A) (r : RingLaws s.ops) (n : Nodes A) (outputs : List ℕ) (left : Option ℕ) where
  sum-at : (hs : List Half) (ps : Parts) (minus : Bool) (es : Exprs) (negated ready : Bool)
      → (let h : Half = record { parts = ps; minus = minus; factors = es; negated = negated } in
      expr_value s (nodes_behind s n hs) (added (parts_of_half h)) ≡ held_sum s.ops (open_held s r n outputs left hs h ready (nodes_behind s n (h ∷ hs)) (parts_behind s n (h ∷ hs))))
  sum-at hs NoPart minus es negated ready =
      let h : Half = record { parts = NoPart; minus = minus; factors = es; negated = negated } in
      let m = open_held s r n outputs left hs h ready (nodes_behind s n (h ∷ hs)) (parts_behind s n (h ∷ hs)) in
      let q = part_held s.ops m in
      product-law s r n outputs left hs h ready (parts_behind s n (h ∷ hs))
      ∙ ap (λ b. if b then held_product s.ops m else sum_of_parts q.nodes m.now.base (drop m.now.begin q.parts) (part_total s.ops m)) (sym (alone (parts_behind s n hs)))
  sum-at hs (part k f ps) minus es negated ready =
      let h : Half = record { parts = part k f ps; minus = minus; factors = es; negated = negated } in
      let m = open_held s r n outputs left hs h ready (nodes_behind s n (h ∷ hs)) (parts_behind s n (h ∷ hs)) in
      let base = nodes_behind s n hs in
      let outer = parts_behind s n hs in
      let all = parts_of_half h in
      let p = made_parts s base all in
      let same = parts-law s r n outputs left hs h ready in
      let q = part_held s.ops m in
      ap (expr_value s base) (added-more ps k minus f (multiplied es))
      ∙ summed-at (are_constant_parts s all) base (parts_value (constants s) all) p q.nodes m.now.base (drop m.now.begin q.parts)
      (ap (λ (q : MadeParts A). cut_to q.nodes (length base.made)) (sym same) ∙ cut-grown base p.nodes _ (parts-grown s base all))
      (ap (λ (q : MadeParts A). record { nodes = q.nodes; parts = drop (length outer) q.parts }) (sym same) ∙ ap (λ qs. record { nodes = p.nodes; parts = qs }) (drop_at outer p.parts (length outer) refl))
      ∙ ap (sum_of_parts q.nodes m.now.base (drop m.now.begin q.parts)) (part-total-law s r n outputs left hs h ready (parts_behind s n (h ∷ hs)))
      ∙ ap (λ b. if b then held_product s.ops m else sum_of_parts q.nodes m.now.base (drop m.now.begin q.parts) (part_total s.ops m)) (sym (not-alone outer _ _))

  -- the value of the sum that is read
  pub sum-law : (hs : List Half) (h : Half) (ready : Bool) → expr_value s (nodes_behind s n hs) (added (parts_of_half h)) ≡ held_sum s.ops (halves s r n outputs left hs h ready)
  sum-law hs h ready = sum-at hs h.parts h.minus h.factors h.negated ready ∙ ap (held_sum s.ops) (sym (reads-are s r n outputs left hs h ready))

  -- the outer parts, without those of the sum that is read
  pub outer-parts : (hs : List Half) (h : Half) → take (length (parts_behind s n hs)) (parts_behind s n (h ∷ hs)) ≡ parts_behind s n hs
  outer-parts hs h = take_at (parts_behind s n hs) _ (length (parts_behind s n hs)) refl

  pub closed-law : (hs : List Half) (before now : Half) (ready : Bool) → halves s r n outputs left hs (with_atom before (added (parts_of_half now))) true
      ≡ held_closed s.ops (halves s r n outputs left (before ∷ hs) now ready) (halves_held s n hs) (held_behind s n hs before)
  unfolding reads_held
  closed-law hs before now ready =
      atom-law s r n outputs left hs before (added (parts_of_half now)) ready
      ∙ ap₂ (λ (v : Valued A) ps. with_value s.ops (open_held s r n outputs left hs before ready v.nodes ps) v.operand) (sum-law (before ∷ hs) now ready) (sym (outer-parts (before ∷ hs) now))

  -- behind the end of an expression the next one begins
  pub begun-law : (h : Half) (ready : Bool) (m : Nodes A) (lets : List (Operand A)) (more : List ℕ) (side : Option ℕ) → begun s.ops (halves s r n outputs left [] h ready) m lets more side
      ≡ reads_held (scope s.ops s.element lets) m more side nothing_read
  unfolding reads_held
  begun-law h ready m lets more side = refl
