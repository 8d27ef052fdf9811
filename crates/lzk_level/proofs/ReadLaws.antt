-- What is held of half sums, step by step.
use Rattle.std.specs.Prelude.{◌≡◌, ℕ, Bool, true, false, List, [], ◌∷◌, ◌++◌, length, Option, None}
use Rattle.std.proofs.Common.{refl, sym, ap, ap₂, ◌∙◌, append_assoc, append-nil}
use Rattle.lzk_field.specs.Ring.{RingLaws}
use Rattle.lzk_expr.specs.Trees.{Expr}
use Rattle.lzk_expr.specs.SourceValues.{signed}
use Rattle.lzk_expr.specs.Meanings.{Half, empty, multiplied, negated, with_atom, next_part, parts_of_half}
use Rattle.lzk_level.specs.Nodes.{Nodes}
use Rattle.lzk_level.specs.Compiling.{Scope, constant_parts, constant_factor, Made, MadeParts, MadeFactors, at_let, made, made_parts, let_nodes, let_operand}
use Rattle.lzk_level.specs.Steps.{Held, Valued, number_with, node_with, with_value, held_product, total_with, part_total, part_made, part_held, next_part_held, held_opened}
use Rattle.lzk_level.specs.Makings.{expr_value, half_parts, half_factors, nodes_behind, parts_behind, held_behind, halves_held, reads_held}
use Rattle.lzk_level.proofs.OneMoreLaws.{total-more, number-more, parts-more, factors-more}
use Rattle.lzk_level.proofs.ExprValues.{made-of-value, negated-value, factor-value, product-value}

module _ {A : Type 0} (s : Scope A) (r : RingLaws s.ops) (n : Nodes A) (outputs : List ℕ) (left : Option ℕ) where
  -- ---- what is held behind halves

  -- the sums that are open behind these halves, with other nodes and another list of parts
  abbrev pub open_held : List Half → Half → Bool → Nodes A → List (A × ℕ) → Held A
  open_held hs h ready m parts = record {
    nodes = m;
    outer = halves_held s n hs;
    now = held_behind s n hs h;
    ready = ready;
    parts = parts;
    lets = s.lets;
    outputs = outputs;
    left = left;
  }

  -- what is held where these halves are open
  abbrev pub halves : List Half → Half → Bool → Held A
  halves hs h ready = reads_held s n outputs left (record { outer = hs; now = h; ready = ready })

  pub reads-are : (hs : List Half) (h : Half) (ready : Bool) → halves hs h ready ≡ open_held hs h ready (nodes_behind s n (h ∷ hs)) (parts_behind s n (h ∷ hs))
  unfolding reads_held
  reads-are hs h ready = refl

  -- ---- an atom

  pub atom-law : (hs : List Half) (h : Half) (e : Expr) (ready : Bool) → halves hs (with_atom h e) true
      ≡ with_value s.ops (open_held hs h ready (let_nodes s (nodes_behind s n (h ∷ hs)) e) (parts_behind s n (h ∷ hs))) (let_operand s (nodes_behind s n (h ∷ hs)) e)
  unfolding reads_held
  atom-law hs h e ready =
      let base = nodes_behind s n hs in
      let f = half_factors s base h in
      let x = negated h.negated e in
      let m = let_nodes s f.nodes e in
      let held : MadeFactors A → Option A → Held A = λ (p : MadeFactors A) (c : Option A). record {
        nodes = p.nodes;
        outer = halves_held s n hs;
        now = record {
          base = length base.made;
          begin = length (parts_behind s n hs);
          total = constant_parts s h.parts;
          minus = h.minus;
          number = c;
          node = p.node;
          negated = false;
        };
        ready = true;
        parts = parts_behind s n (h ∷ hs);
        lets = s.lets;
        outputs = outputs;
        left = left;
      } in
      ap₂ held (factors-more s (half_parts s base h).nodes None h.factors x ∙ factor-value s f.nodes f.node x) (number-more s r f.nodes h.factors x)
      ∙ ap (λ (v : Valued A). held (node_with f.node v.nodes v.operand) (number_with s.ops (constant_factor s h.factors) v.operand)) (negated-value s f.nodes h.negated e)

  -- ---- a part

  -- the product that is read
  pub product-law : (hs : List Half) (h : Half) (ready : Bool) (ps : List (A × ℕ)) → expr_value s (half_parts s (nodes_behind s n hs) h).nodes (multiplied h.factors)
      ≡ held_product s.ops (open_held hs h ready (nodes_behind s n (h ∷ hs)) ps)
  product-law hs h ready ps = product-value s r (half_parts s (nodes_behind s n hs) h).nodes h.factors

  pub part-total-law : (hs : List Half) (h : Half) (ready : Bool) (ps : List (A × ℕ)) → constant_parts s (parts_of_half h) ≡ part_total s.ops (open_held hs h ready (nodes_behind s n (h ∷ hs)) ps)
  part-total-law hs h ready ps =
      let p = (half_parts s (nodes_behind s n hs) h).nodes in
      total-more s r p h.parts h.minus (multiplied h.factors) ∙ ap (λ (v : Valued A). total_with s.ops h.minus (constant_parts s h.parts) v.operand) (product-law hs h ready ps)

  part-made-law : (hs : List Half) (h : Half) (ready : Bool) (ps : List (A × ℕ)) → made s (half_parts s (nodes_behind s n hs) h).nodes (multiplied h.factors) ≡ part_made s.ops (open_held hs h ready (nodes_behind s n (h ∷ hs)) ps)
  part-made-law hs h ready ps =
      let p = (half_parts s (nodes_behind s n hs) h).nodes in
      made-of-value s p (multiplied h.factors) ∙ ap (λ (v : Valued A). at_let v.nodes v.operand) (product-law hs h ready ps)

  -- the parts with one more
  abbrev pub parts_with : List (A × ℕ) → MadeParts A → Bool → Made A → MadeParts A
  parts_with outer p minus m = record { nodes = m.nodes; parts = (outer ++ p.parts) ++ (signed s.ops minus s.ops.one, m.node) ∷ [] }

  abbrev pub behind_outer : List (A × ℕ) → MadeParts A → MadeParts A
  behind_outer outer p = record { nodes = p.nodes; parts = outer ++ p.parts }

  pub parts-law : (hs : List Half) (h : Half) (ready : Bool) → behind_outer (parts_behind s n hs) (made_parts s (nodes_behind s n hs) (parts_of_half h))
      ≡ (let m = part_held s.ops (open_held hs h ready (nodes_behind s n (h ∷ hs)) (parts_behind s n (h ∷ hs))) in record { nodes = m.nodes; parts = m.parts })
  parts-law hs h ready =
      let base = nodes_behind s n hs in
      let p = half_parts s base h in
      let outer = parts_behind s n hs in
      let m = made s p.nodes (multiplied h.factors) in
      ap (behind_outer outer) (parts-more s base h.parts h.minus (multiplied h.factors))
      ∙ ap (λ (q : List (A × ℕ)). record { nodes = m.nodes; parts = q }) (sym (append_assoc outer p.parts ((signed s.ops h.minus s.ops.one, m.node) ∷ [])))
      ∙ ap (λ (x : Made A). parts_with outer p h.minus x) (part-made-law hs h ready (parts_behind s n (h ∷ hs)))

  pub part-law : (hs : List Half) (h : Half) (minus ready : Bool) → halves hs (next_part h minus) false ≡ next_part_held s.ops (halves hs h ready) minus
  unfolding reads_held
  part-law hs h minus ready =
      let base = nodes_behind s n hs in
      let held : MadeParts A → Option A → Held A = λ (p : MadeParts A) (total : Option A). record {
        nodes = p.nodes;
        outer = halves_held s n hs;
        now = record {
          base = length base.made;
          begin = length (parts_behind s n hs);
          total = total;
          minus = minus;
          number = None;
          node = None;
          negated = false;
        };
        ready = false;
        parts = p.parts;
        lets = s.lets;
        outputs = outputs;
        left = left;
      } in
      ap₂ held (parts-law hs h ready) (part-total-law hs h ready (parts_behind s n (h ∷ hs)))

  -- ---- parentheses

  pub opened-law : (hs : List Half) (h : Half) (ready : Bool) → halves (h ∷ hs) empty false ≡ held_opened s.ops (halves hs h ready)
  unfolding reads_held
  opened-law hs h ready =
      ap (λ (ps : List (A × ℕ)). record {
        nodes = nodes_behind s n (h ∷ hs);
        outer = halves_held s n (h ∷ hs);
        now = held_behind s n (h ∷ hs) empty;
        ready = false;
        parts = ps;
        lets = s.lets;
        outputs = outputs;
        left = left;
      }) (append-nil (parts_behind s n (h ∷ hs)))
