-- What the maker of nodes holds is there after each step.
use Rattle.std.specs.Prelude.{◌≡◌, ℕ, ◌+◌, ◌-◌, ◌≤◌, ◌==◌, Bool, true, false, List, [], ◌∷◌, ◌++◌, length, take, drop, Option, Some, None, Result, Ok, Err, IfOk, unwrap_or, if◌then◌else◌}
use Rattle.std.proofs.Common.{zero, suc, refl, sym, ap, ◌∙◌, arith, subst}
use Rattle.std.proofs.lemmas.Bool.{eq-eqb, ne_eqb}
use Rattle.std.proofs.lemmas.List.{length-append, length-take, length-drop, take_all}
use Rattle.lzk_field.specs.Ring.{Ops}
use Rattle.lzk_expr.specs.SourceValues.{signed}
use Rattle.lzk_level.specs.Gates.{Gate}
use Rattle.lzk_level.specs.Gates as gate
use Rattle.lzk_level.specs.declared.half.Half.{Half}
use Rattle.lzk_level.specs.declared.lets.Operand.{Operand}
use Rattle.lzk_level.specs.declared.lets.Operand.TheVariants.{Constant, AtNode}
use Rattle.lzk_level.specs.Nodes.{Nodes, nodes_from, node_count, with_gate, IsNode, ArePartsOf}
use Rattle.lzk_level.specs.Compilable.{IsNodeOrNone, IsOperand}
use Rattle.lzk_level.specs.Compiling.{at_let}
use Rattle.lzk_level.specs.Steps.{Held, Valued, CanJoin, nothing_of, nothing_held, product_in, cut_to, product_read, part_read, total_read, parts_read, sum_of_parts, sum_read, AreHalvesOf, HasParts, HasSum, HasSides}
use Rattle.lzk_level.proofs.MadeLaws.{node-more, or-none-more, count-next, parts-more, IsThere, next-there}

left-there : (n m : ℕ) (left : Option ℕ) (right : ℕ) → n ≤ m → IsNodeOrNone n left → IsNode m right → IsNode m (unwrap_or left right)
left-there n m None right l h k = k
left-there n m (Some j) right l h k = node-more n m j l h

module _ {A : Type 0} where
  pub parts-drop : (n count : ℕ) (ps : List (A × ℕ)) → ArePartsOf n ps → ArePartsOf n (drop count ps)
  parts-drop n zero ps h = h
  parts-drop n (suc count) [] h = tt
  parts-drop n (suc count) (p ∷ ps) h = parts-drop n count ps h.1

  pub parts-add : (n : ℕ) (ps : List (A × ℕ)) (p : A × ℕ) → ArePartsOf n ps → IsNode n p.1 → ArePartsOf n (ps ++ p ∷ [])
  parts-add n [] p h k = (k, tt)
  parts-add n (q ∷ ps) p h k = (h.0, parts-add n ps p h.1 k)

  -- two parts behind the others
  two_behind : (ps : List (A × ℕ)) (a b : A × ℕ) → drop (length ps) ((ps ++ a ∷ []) ++ b ∷ []) ≡ a ∷ b ∷ []
  two_behind [] a b = refl
  two_behind (p ∷ ps) a b = two_behind ps a b

  two_before : (ps : List (A × ℕ)) (a b : A × ℕ) → take (length ps) ((ps ++ a ∷ []) ++ b ∷ []) ≡ ps
  two_before [] a b = refl
  two_before (p ∷ ps) a b = ap (λ qs. p ∷ qs) (two_before ps a b)

  -- what two pushes put behind the others
  abbrev two_parts : A → ℕ → A → ℕ → List (A × ℕ)
  two_parts x k y j = (x, k) ∷ (y, j) ∷ []

  pub two-slice : (ps first both all : List (A × ℕ)) (begin : ℕ) (x y a b : A) (k j : ℕ) → begin ≡ length ps → first ≡ ps ++ (x, k) ∷ [] → both ≡ first ++ (y, j) ∷ [] → all ≡ both → x ≡ a → y ≡ b
      → take (length all - begin) (drop begin all) ≡ (a, k) ∷ (b, j) ∷ []
  two-slice ps first both all begin x y a b k j eb e1 e2 e3 ex ey =
      let whole : take (length all - begin) (drop begin all) ≡ drop begin all = take_all (length all - begin) (drop begin all) (omega (arith, length-drop begin all)) in
      let is : all ≡ (ps ++ (x, k) ∷ []) ++ (y, j) ∷ [] = e3 ∙ e2 ∙ ap (λ (qs : List (A × ℕ)). qs ++ (y, j) ∷ []) e1 in
      let rest : drop begin all ≡ two_parts x k y j = ap (drop begin) is ∙ ap (λ n. drop n ((ps ++ (x, k) ∷ []) ++ (y, j) ∷ [])) eb ∙ two_behind ps (x, k) (y, j) in
      whole ∙ rest ∙ ap (λ u. two_parts u k y j) ex ∙ ap (λ v. two_parts a k v j) ey

  pub two-gone : (ps first both : List (A × ℕ)) (begin : ℕ) (a b : A × ℕ) → begin ≡ length ps → first ≡ ps ++ a ∷ [] → both ≡ first ++ b ∷ [] → take begin both ≡ ps
  two-gone ps first both begin a b eb e1 e2 =
      ap (λ n. take n both) eb ∙ ap (take (length ps)) (e2 ∙ ap (λ (qs : List (A × ℕ)). qs ++ b ∷ []) e1) ∙ two_before ps a b

  pub two-long : (ps first both all : List (A × ℕ)) (begin : ℕ) (a b : A × ℕ) → begin ≡ length ps → first ≡ ps ++ a ∷ [] → both ≡ first ++ b ∷ [] → all ≡ both → begin ≤ length all
  two-long ps first both all begin a b eb e1 e2 e3 =
      omega (arith, eb, ap length e1, ap length e2, ap length e3, length-append ps (a ∷ []), length-append first (b ∷ []))

  -- one part behind the others
  pub one-part : (ps all : List (A × ℕ)) (x y : A) (k j : ℕ) → all ≡ ps ++ (x, k) ∷ [] → x ≡ y → k ≡ j → all ≡ ps ++ (y, j) ∷ []
  one-part ps all x y k j e ex ek = e ∙ ap (λ (u : A). ps ++ (u, k) ∷ []) ex ∙ ap (λ i. ps ++ (y, i) ∷ []) ek

  -- nodes become no fewer, and at most so many more
  pub record Counts (n m : Nodes A) (most : ℕ) : Type 0 where
    pub least : node_count n ≤ node_count m
    pub most_of : node_count m ≤ node_count n + most

  counts-next : (n : Nodes A) (g : Gate A) → Counts n (with_gate n g) 1
  counts-next n g = record { least = omega (arith, count-next n g); most_of = omega (arith, count-next n g) }

  counts-same : (n : Nodes A) → Counts n n 1
  counts-same n = record { least = omega arith; most_of = omega arith }

  pub counts-let : (n : Nodes A) (x : Operand A) → Counts n (at_let n x).nodes 1
  counts-let n (Constant c) = counts-next n (gate.Constant c)
  counts-let n (AtNode k) = counts-same n

  pub let-there : (n : Nodes A) (x : Operand A) → IsOperand (node_count n) x → IsThere (at_let n x)
  let-there n (Constant c) h = next-there n (gate.Constant c)
  let-there n (AtNode k) h = h

  pub can-join : (n : ℕ) (before : Option ℕ) (x : Operand A) → IsNodeOrNone n before → IsOperand n x → CanJoin n before x
  can-join n before (Constant c) b h = tt
  can-join n before (AtNode k) b h = (h, b)

  -- the nodes of both sides of an equation
  pub sides-there : (n : Nodes A) (left : Option ℕ) (x : Operand A) (a b : A) → HasSides n left x → ArePartsOf (node_count (at_let n x).nodes) ((a, unwrap_or left (at_let n x).node) ∷ (b, (at_let n x).node) ∷ [])
  sides-there n left x a b s =
      let right = let-there n x s.right_is in
      (left-there (node_count n) (node_count (at_let n x).nodes) left (at_let n x).node (counts-let n x).least s.left_is right, (right, tt))

module _ {A : Type 0} (o : Ops A) where
  -- ---- the begin of code
  abbrev pub held_first : Nodes A → List (Half A) → Half A → List (A × ℕ) → List (Operand A) → List ℕ → Held A
  held_first n outer now parts lets outputs = record {
    nodes = n;
    outer = outer;
    now = now;
    ready = false;
    parts = parts;
    lets = lets;
    outputs = outputs;
    left = None;
  }

  pub begun : (p q a b : ℕ) (n : Nodes A) (hs : List (Half A)) (now : Half A) (ps : List (A × ℕ)) (xs : List (Operand A)) (ks : List ℕ) → a ≡ p → b ≡ q → n ≡ nodes_from a b [] → hs ≡ [] → now ≡ nothing_of o 0 0 → ps ≡ [] → xs ≡ [] → ks ≡ []
      → held_first n hs now ps xs ks ≡ nothing_held o p q
  begun p q a b n hs now ps xs ks ep eq en eh ew es ex ek =
      let none = nodes_from p q [] in
      let first = nothing_of o 0 0 in
      ap (λ m. held_first m hs now ps xs ks) (en ∙ ap (λ i. nodes_from i b []) ep ∙ ap (λ i. nodes_from p i []) eq)
      ∙ ap (λ ys. held_first none ys now ps xs ks) eh ∙ ap (λ h. held_first none [] h ps xs ks) ew ∙ ap (λ ys. held_first none [] first ys xs ks) es
      ∙ ap (λ ys. held_first none [] first [] ys ks) ex ∙ ap (λ ys. held_first none [] first [] [] ys) ek

  -- ---- a product
  pub product-counts : (n : Nodes A) (number : Option A) (node : Option ℕ) → Counts n (product_in o n number node).nodes 1
  product-counts n number None = counts-same n
  product-counts n None (Some k) = counts-same n
  product-counts n (Some c) (Some k) = counts-next n (gate.Combine ((c, k) ∷ []))

  pub product-there : (n : Nodes A) (number : Option A) (node : Option ℕ) → IsNodeOrNone (node_count n) node → IsOperand (node_count (product_in o n number node).nodes) (product_in o n number node).operand
  product-there n number None h = tt
  product-there n None (Some k) h = h
  product-there n (Some c) (Some k) h = next-there n (gate.Combine ((c, k) ∷ []))

  -- ---- a part
  part-counts : (n : Nodes A) (h : Half A) → Counts n (part_read o n h).nodes 2
  part-counts n h =
      let a = product-counts n h.number h.node in
      let b = counts-let (product_read o n h).nodes (product_read o n h).operand in
      record { least = omega (arith, a.least, b.least); most_of = omega (arith, a.most_of, b.most_of) }

  part-there : (n : Nodes A) (h : Half A) → IsNodeOrNone (node_count n) h.node → IsThere (part_read o n h)
  part-there n h k = let-there (product_read o n h).nodes (product_read o n h).operand (product-there n h.number h.node k)

  part-parts : (n : Nodes A) (h : Half A) (ps : List (A × ℕ)) → IsNodeOrNone (node_count n) h.node → ArePartsOf (node_count n) ps → ArePartsOf (node_count (part_read o n h).nodes) (parts_read o n h ps)
  part-parts n h ps k are =
      let m = node_count (part_read o n h).nodes in
      parts-add m ps (signed o h.minus o.one, (part_read o n h).node) (parts-more (node_count n) m ps (part-counts n h).least are) (part-there n h k)

  pub parts-longer : (n : Nodes A) (h : Half A) (ps : List (A × ℕ)) → length ps ≤ length (parts_read o n h ps)
  parts-longer n h ps = omega (arith, length-append ps ((signed o h.minus o.one, (part_read o n h).node) ∷ []))

  -- the parts of a sum that can end
  pub has-parts : (n : Nodes A) (h : Half A) (ps : List (A × ℕ)) → HasSum n h ps → HasParts (part_read o n h).nodes (drop h.begin (parts_read o n h ps))
  has-parts n h ps s =
      let all = parts_read o n h ps in
      let m = node_count (part_read o n h).nodes in
      record {
        room = omega (arith, s.room, (part-counts n h).most_of);
        some = omega (arith, s.begin, length-drop h.begin all, length-append ps ((signed o h.minus o.one, (part_read o n h).node) ∷ []));
        nodes = parts-drop m h.begin all (part-parts n h ps s.node s.parts_are);
      }

  -- ---- a sum
  cut-few : (n : Nodes A) (count : ℕ) → node_count (cut_to n count) ≤ node_count n
  cut-few n count = omega (arith, length-take count n.made)

  -- it has at most so many more nodes, and its value is there and can be a factor
  pub record IsEnded (n : Nodes A) (before : Option ℕ) (v : Valued A) : Type 0 where
    pub few : node_count v.nodes ≤ node_count n + 3
    pub there_is : IsOperand (node_count v.nodes) v.operand
    pub can : CanJoin (node_count v.nodes) before v.operand

  parts-ended : (n m : Nodes A) (base : ℕ) (ps : List (A × ℕ)) (total : Option A) (before : Option ℕ) → Counts n m 2 → IsNodeOrNone (node_count n) before → IsEnded n before (sum_of_parts m base ps total)
  parts-ended n m base ps (Some t) before l h = record { few = omega (arith, l.most_of, cut-few m base); there_is = tt; can = tt }
  parts-ended n m base ps None before l h =
      let g = gate.Combine ps in
      let more = with_gate m g in
      record {
        few = omega (arith, l.most_of, count-next m g);
        there_is = next-there m g;
        can = (next-there m g, or-none-more (node_count n) (node_count more) before (omega (arith, l.least, count-next m g)) h);
      }

  product-ended : (n : Nodes A) (h : Half A) (before : Option ℕ) → IsNodeOrNone (node_count n) h.node → IsNodeOrNone (node_count n) before → IsEnded n before (product_read o n h)
  product-ended n h before k b =
      let a = product-counts n h.number h.node in
      let v = product_read o n h in
      let there_is = product-there n h.number h.node k in
      record {
        few = omega (arith, a.most_of);
        there_is = there_is;
        can = can-join (node_count v.nodes) before v.operand (or-none-more (node_count n) (node_count v.nodes) before a.least b) there_is;
      }

  sum-at : (c : Bool) (n : Nodes A) (h : Half A) (ps : List (A × ℕ)) (before : Option ℕ) → IsNodeOrNone (node_count n) h.node → IsNodeOrNone (node_count n) before
      → IsEnded n before (if c then product_read o n h else sum_of_parts (part_read o n h).nodes h.base ps (total_read o n h))
  sum-at true n h ps before k b = product-ended n h before k b
  sum-at false n h ps before k b = parts-ended n (part_read o n h).nodes h.base ps (total_read o n h) before (part-counts n h) b

  pub sum-ended : (n : Nodes A) (h : Half A) (ps : List (A × ℕ)) (before : Option ℕ) → IsNodeOrNone (node_count n) h.node → IsNodeOrNone (node_count n) before → IsEnded n before (sum_read o n h ps)
  sum-ended n h ps before k b = sum-at (length ps == h.begin) n h (drop h.begin (parts_read o n h ps)) before k b

  -- a sum without parts of its own is the product, and else the value of its parts
  pub sum-of-product : (n : Nodes A) (h : Half A) (ps : List (A × ℕ)) → length ps ≡ h.begin → sum_read o n h ps ≡ product_read o n h
  sum-of-product n h ps e =
      let whole = sum_of_parts (part_read o n h).nodes h.base (drop h.begin (parts_read o n h ps)) (total_read o n h) in
      ap (λ b. if b then product_read o n h else whole) (eq-eqb (length ps) h.begin e)

  pub sum-of-parts : (n : Nodes A) (h : Half A) (ps : List (A × ℕ)) (m : Nodes A) (qs : List (A × ℕ)) (total : Option A) → (length ps ≡ h.begin → ⊥) → m ≡ (part_read o n h).nodes → qs ≡ drop h.begin (parts_read o n h ps) → total ≡ total_read o n h
      → sum_of_parts m h.base qs total ≡ sum_read o n h ps
  sum-of-parts n h ps m qs total ne em eq et =
      let all = drop h.begin (parts_read o n h ps) in
      let whole = sum_of_parts (part_read o n h).nodes h.base all (total_read o n h) in
      ap (λ x. sum_of_parts x h.base qs total) em ∙ ap (λ x. sum_of_parts (part_read o n h).nodes h.base x total) eq ∙ ap (sum_of_parts (part_read o n h).nodes h.base all) et
      ∙ sym (ap (λ b. if b then product_read o n h else whole) (ne_eqb (length ps) h.begin ne))

  -- a half that is taken from the others
  pub last-half : (n : ℕ) (halves outer : List (Half A)) (before : Half A) → halves ≡ outer ++ before ∷ [] → AreHalvesOf n halves → IsNodeOrNone n before.node
  last-half n halves outer before e h = last-of outer (subst (AreHalvesOf n) e h)
    where
      last-of : (hs : List (Half A)) → AreHalvesOf n (hs ++ before ∷ []) → IsNodeOrNone n before.node
      last-of [] k = k.0
      last-of (x ∷ hs) k = last-of hs k.1

-- what two facts of a result say together
pub ok-both : {T E : Type 0} (r : Result T E) (P Q R : T → Type 0) → ((x : T) → P x → Q x → R x) → IfOk r P → IfOk r Q → IfOk r R
ok-both (Ok x) P Q R f h k = f x h k
ok-both (Err e) P Q R f h k = tt

-- two lists with one more each are the same
pub last-same : {X : Type 0} (xs ys : List X) (x y : X) → xs ++ x ∷ [] ≡ ys ++ y ∷ [] → (xs ≡ ys) × (x ≡ y)
last-same [] [] x y e = (refl, cc)
last-same [] (z ∷ ys) x y e = absurd (omega (arith, ap length e, length-append ys (y ∷ [])))
last-same (z ∷ xs) [] x y e = absurd (omega (arith, ap length e, length-append xs (x ∷ [])))
last-same (z ∷ xs) (w ∷ ys) x y e =
    let rest : xs ++ x ∷ [] ≡ ys ++ y ∷ [] = cc in
    let first : z ≡ w = cc in
    let same = last-same xs ys x y rest in
    (ap (λ a. a ∷ xs) first ∙ ap (λ zs. w ∷ zs) same.0, same.1)
