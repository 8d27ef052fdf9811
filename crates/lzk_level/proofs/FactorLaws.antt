-- What the maker of nodes holds behind its steps, by the parts that change.
use Rattle.std.specs.Prelude.{◌≡◌, ℕ, ◌+◌, ◌≤◌, Bool, true, false, List, [], ◌∷◌, ◌++◌, Option, Some, None}
use Rattle.std.proofs.Common.{refl, sym, ap, ◌∙◌, arith, subst}
use Rattle.lzk_field.specs.Ring.{Ops}
use Rattle.lzk_level.specs.Gates as gate
use Rattle.lzk_level.specs.declared.half.Half.{Half}
use Rattle.lzk_level.specs.declared.lets.Operand.{Operand}
use Rattle.lzk_level.specs.declared.lets.Operand.TheVariants.{Constant, AtNode}
use Rattle.lzk_level.specs.Nodes.{Nodes, node_count, with_gate, IsNode}
use Rattle.lzk_level.specs.Compilable.{IsNodeOrNone, IsOperand}
use Rattle.lzk_level.specs.Compiling.{there, joined, at_let, difference}
use Rattle.lzk_level.specs.Steps.{Held, CanJoin, held_begun, held_opened, held_sum, sum_ended, held_defined, held_left, held_right, signed_in, node_with, number_with, times_before, total_with, part_made, part_total, part_held, next_part_held, factor_made, half_with}
use Rattle.lzk_level.proofs.MadeLaws.{count-next, next-there, or-none-more}

module _ {A : Type 0} where
  pub can-operand : (n : ℕ) (before : Option ℕ) (x : Operand A) → CanJoin n before x → IsOperand n x
  can-operand n before (Constant c) h = tt
  can-operand n before (AtNode k) h = h.0

  -- what is held with these parts
  abbrev pub factor_held : Held A → Nodes A → Half A → Held A
  factor_held m n h = record {
    nodes = n;
    outer = m.outer;
    now = h;
    ready = true;
    parts = m.parts;
    lets = m.lets;
    outputs = m.outputs;
    left = m.left;
  }

  abbrev pub outer_held : Held A → List (Half A) → Held A
  outer_held m outer = record {
    nodes = m.nodes;
    outer = outer;
    now = m.now;
    ready = m.ready;
    parts = m.parts;
    lets = m.lets;
    outputs = m.outputs;
    left = m.left;
  }

  abbrev pub lets_held : Held A → List (Operand A) → Held A
  lets_held m lets = record {
    nodes = m.nodes;
    outer = m.outer;
    now = m.now;
    ready = m.ready;
    parts = m.parts;
    lets = lets;
    outputs = m.outputs;
    left = m.left;
  }

  abbrev pub outputs_held : Held A → List ℕ → Held A
  outputs_held m outputs = record {
    nodes = m.nodes;
    outer = m.outer;
    now = m.now;
    ready = m.ready;
    parts = m.parts;
    lets = m.lets;
    outputs = outputs;
    left = m.left;
  }

  -- with no left side
  abbrev pub sides_held : Held A → Nodes A → List (A × ℕ) → Held A
  sides_held m n parts = record {
    nodes = n;
    outer = m.outer;
    now = m.now;
    ready = m.ready;
    parts = parts;
    lets = m.lets;
    outputs = m.outputs;
    left = None;
  }

  abbrev pub part_with : Held A → Bool → Nodes A → Option A → List (A × ℕ) → Held A
  part_with m minus n total parts = record {
    nodes = n;
    outer = m.outer;
    now = record {
      base = m.now.base;
      begin = m.now.begin;
      total = total;
      minus = minus;
      number = None;
      node = None;
      negated = false;
    };
    ready = false;
    parts = parts;
    lets = m.lets;
    outputs = m.outputs;
    left = m.left;
  }

  abbrev pub left_held : Held A → Nodes A → ℕ → Held A
  left_held m n left = record {
    nodes = n;
    outer = m.outer;
    now = m.now;
    ready = m.ready;
    parts = m.parts;
    lets = m.lets;
    outputs = m.outputs;
    left = Some left;
  }

  -- half a sum with this number and this product, and no minus
  abbrev read : Half A → Option A → Option ℕ → Half A
  read h number node = record {
    base = h.base;
    begin = h.begin;
    total = h.total;
    minus = h.minus;
    number = number;
    node = node;
    negated = false;
  }

module _ {A : Type 0} (o : Ops A) where
  -- ---- the value with its sign
  pub signed-few : (negated : Bool) (n : Nodes A) (x : Operand A) → node_count (signed_in o negated n x).nodes ≤ node_count n + 1
  signed-few false n x = omega arith
  signed-few true n (Constant c) = omega arith
  signed-few true n (AtNode k) = omega (arith, count-next n (gate.Combine ((o.neg o.one, k) ∷ [])))

  pub signed-can : (negated : Bool) (n : Nodes A) (before : Option ℕ) (x : Operand A) → CanJoin (node_count n) before x → CanJoin (node_count (signed_in o negated n x).nodes) before (signed_in o negated n x).operand
  signed-can false n before x h = h
  signed-can true n before (Constant c) h = tt
  signed-can true n before (AtNode k) h =
      let g = gate.Combine ((o.neg o.one, k) ∷ []) in
      (next-there n g, or-none-more (node_count n) (node_count (with_gate n g)) before (omega (arith, count-next n g)) h.1)

  -- ---- a part
  pub total-node : (minus : Bool) (total : Option A) (k : ℕ) → total_with o minus total (AtNode k) ≡ None
  total-node minus None k = refl
  total-node minus (Some t) k = refl

  pub next-part : (m : Held A) (minus : Bool) (n : Nodes A) (total : Option A) (parts : List (A × ℕ)) → n ≡ (part_made o m).nodes → total ≡ part_total o m → parts ≡ (part_held o m).parts
      → part_with m minus n total parts ≡ next_part_held o m minus
  next-part m minus n total parts en et ep =
      ap (λ i. part_with m minus i total parts) en ∙ ap (λ t. part_with m minus (part_made o m).nodes t parts) et ∙ ap (part_with m minus (part_made o m).nodes (part_total o m)) ep

  -- ---- a number
  pub number-made : (n : Nodes A) (h : Half A) (x : Operand A) (m : Nodes A) (y : Operand A) (c : A) → m ≡ (signed_in o h.negated n x).nodes → y ≡ (signed_in o h.negated n x).operand → y ≡ Constant c
      → m ≡ (factor_made o n h x).nodes
  number-made n h x m y c em ey is =
      let v = signed_in o h.negated n x in
      em ∙ ap (λ z. (node_with h.node v.nodes z).nodes) (sym is ∙ ey)

  pub number-half : (n : Nodes A) (h : Half A) (x : Operand A) (y : Operand A) (c new : A) → y ≡ (signed_in o h.negated n x).operand → y ≡ Constant c → new ≡ times_before o h.number c
      → read h (Some new) h.node ≡ half_with o n h x
  number-half n h x y c new ey is e =
      let v = signed_in o h.negated n x in
      ap (λ z. read h (Some z) h.node) e ∙ ap (λ z. read h (number_with o h.number z) (node_with h.node v.nodes z).node) (sym is ∙ ey)

  -- ---- a node
  pub node-made : (n : Nodes A) (h : Half A) (x : Operand A) (m : Nodes A) (y : Operand A) (k : ℕ) → m ≡ (signed_in o h.negated n x).nodes → y ≡ (signed_in o h.negated n x).operand → y ≡ AtNode k
      → (joined h.node (there m k)).nodes ≡ (factor_made o n h x).nodes
  node-made n h x m y k em ey is =
      let v = signed_in o h.negated n x in
      ap (λ (i : Nodes A). (joined h.node (there i k)).nodes) em ∙ ap (λ z. (node_with h.node v.nodes z).nodes) (sym is ∙ ey)

  pub node-can : (n : Nodes A) (h : Half A) (x : Operand A) (m : Nodes A) (y : Operand A) (k : ℕ) → CanJoin (node_count n) h.node x → m ≡ (signed_in o h.negated n x).nodes → y ≡ (signed_in o h.negated n x).operand → y ≡ AtNode k
      → IsNode (node_count m) k × IsNodeOrNone (node_count m) h.node
  node-can n h x m y k can em ey is =
      let v = signed_in o h.negated n x in
      subst (λ (i : Nodes A). IsNode (node_count i) k × IsNodeOrNone (node_count i) h.node) (sym em)
      (subst (λ (z : Operand A). CanJoin (node_count v.nodes) h.node z) (sym ey ∙ is) (signed-can h.negated n h.node x can))

  pub node-half : (n : Nodes A) (h : Half A) (x : Operand A) (m : Nodes A) (y : Operand A) (k : ℕ) (product : Option ℕ) → m ≡ (signed_in o h.negated n x).nodes → y ≡ (signed_in o h.negated n x).operand → y ≡ AtNode k → product ≡ Some (joined h.node (there m k)).node
      → read h h.number product ≡ half_with o n h x
  node-half n h x m y k product em ey is e =
      let v = signed_in o h.negated n x in
      ap (read h h.number) (e ∙ ap (λ (i : Nodes A). Some (joined h.node (there i k)).node) em)
      ∙ ap (λ z. read h (number_with o h.number z) (node_with h.node v.nodes z).node) (sym is ∙ ey)

  -- ---- ends
  pub opened : (m k : Held A) (outer : List (Half A)) → k ≡ held_begun o (outer_held m outer) → outer ≡ m.outer ++ m.now ∷ [] → k ≡ held_opened o m
  opened m k outer ek e = ek ∙ ap (λ hs. held_begun o (outer_held m hs)) e

  pub defined : (m h k : Held A) (x : Operand A) (lets : List (Operand A)) → h ≡ sum_ended o m → x ≡ (held_sum o m).operand → k ≡ held_begun o h → lets ≡ k.lets ++ x ∷ [] → lets_held k lets ≡ held_defined o m
  defined m h k x lets eh ex ek e =
      ap (lets_held k) e ∙ ap (λ y. lets_held k (k.lets ++ y ∷ [])) ex
      ∙ ap (λ (i : Held A). lets_held i (i.lets ++ (held_sum o m).operand ∷ [])) (ek ∙ ap (held_begun o) eh)

  pub lefted : (m h k : Held A) (x : Operand A) (node : ℕ) (n : Nodes A) → h ≡ sum_ended o m → x ≡ (held_sum o m).operand → n ≡ (at_let h.nodes x).nodes → node ≡ (at_let h.nodes x).node → k ≡ held_begun o (left_held h n node)
      → k ≡ held_left o m
  lefted m h k x node n eh ex en ed ek =
      ek ∙ ap (λ i. held_begun o (left_held h i node)) en ∙ ap (λ j. held_begun o (left_held h (at_let h.nodes x).nodes j)) ed
      ∙ ap (λ y. held_begun o (left_held h (at_let h.nodes y).nodes (at_let h.nodes y).node)) ex
      ∙ ap (λ (i : Held A). let d = at_let i.nodes (held_sum o m).operand in held_begun o (left_held i d.nodes d.node)) eh

  -- an equation's output behind the others
  abbrev put : Held A → Nodes A → List (A × ℕ) → ℕ → Held A
  put h n ps node = let k = held_begun o (sides_held h n ps) in outputs_held k (k.outputs ++ node ∷ [])

  pub righted : (m h k : Held A) (x : Operand A) (left node : ℕ) (n : Nodes A) (ps : List (A × ℕ)) (outputs : List ℕ) → h ≡ sum_ended o m → x ≡ (held_sum o m).operand
      → n ≡ (difference o left (at_let h.nodes x)).nodes → node ≡ (difference o left (at_let h.nodes x)).node → ps ≡ h.parts → k ≡ held_begun o (sides_held h n ps) → outputs ≡ k.outputs ++ node ∷ []
      → outputs_held k outputs ≡ held_right o m left
  righted m h k x left node n ps outputs eh ex en ed ep ek e =
      ap (outputs_held k) e ∙ ap (λ (i : Held A). outputs_held i (i.outputs ++ node ∷ [])) ek
      ∙ ap (λ qs. put h n qs node) ep ∙ ap (λ i. put h i h.parts node) en
      ∙ ap (put h (difference o left (at_let h.nodes x)).nodes h.parts) ed
      ∙ ap (λ y. put h (difference o left (at_let h.nodes y)).nodes h.parts (difference o left (at_let h.nodes y)).node) ex
      ∙ ap (λ (i : Held A). let d = difference o left (at_let i.nodes (held_sum o m).operand) in put i d.nodes i.parts d.node) eh
