-- Nodes of a statement as the wires of a circuit.
use Rattle.std.specs.Prelude.{◌≡◌, ℕ, zero, suc, ◌+◌, ◌*◌, ◌<◌, ◌≤◌, ◌↔◌, Some, None, List, [], ◌∷◌, ◌++◌, length, map, drop, replicate, slice_get, slice_set}
use Rattle.std.proofs.Common.{refl, sym, ap, ◌∙◌, arith, subst, get_or}
use Rattle.std.proofs.lemmas.List.{length-map, length-replicate, length-set, map-set, get_or-map, drop_more, drop_all}
use Rattle.std.proofs.lemmas.Option.{slice_get_within, get_or_from_slice_get}
use Rattle.lzk_circuit.specs.Limits.{most_wires}
use Rattle.lzk_field.specs.Ring.{Ops, RingLaws, Laws}
use Rattle.lzk_field.specs.Sums.{entry}
use Rattle.lzk_field.proofs.RingBasics.{one_times}
use Rattle.lzk_circuit.specs.declared.layer.Term.{Term}
use Rattle.lzk_circuit.specs.declared.layer.Layer.{Layer}
use Rattle.lzk_circuit.specs.Checks.{checks_of, IsSatisfied}
use Rattle.lzk_circuit.specs.Sums.{sum_list}
use Rattle.lzk_circuit.specs.Valid.{Wiring, input_width, under_of, IsPlaced, ArePlaced, IsLayerOf, AreLayersOf, IsValid}
use Rattle.lzk_circuit.specs.Wires.{coef, wire, layer_values, wires_of, IsFirstNonzero, AreDistinct}
use Rattle.lzk_circuit.proofs.CheckLaws.{one-checks, asserted-most}
use Rattle.lzk_circuit.proofs.LayerLaws.{walk-starts, walk-step, walk-ends}
use Rattle.lzk_circuit.proofs.OrderLaws.{placed-distinct, placed-at}
use Rattle.lzk_circuit.proofs.PlaceLaws.{layer-at}
use Rattle.lzk_circuit.proofs.TermSums.{share}
use Rattle.lzk_circuit.proofs.VersionLaws.{valid-one}
use Rattle.lzk_circuit_reduce.specs.Renumbering.{at}
use Rattle.lzk_level.specs.Nodes.{node_count, IsNode}
use Rattle.lzk_gadgets.specs.Claims.{Claims, AreInputs, AreNodes, AreAllZero, value, values, Makes, Yields, Adds}
use Rattle.lzk_gadgets.proofs.ClaimLaws.{nodes_more, node_at, inputs_kept, keeps_then, values_kept, yields_then, yields_one, yields_none}
use Rattle.lzk_gadgets.specs.CircuitCounts.{layer_nodes, output_count, most_nodes}

pub nodes_set : (n : ℕ) (ks : List ℕ) (i k : ℕ) → AreNodes n ks → IsNode n k → AreNodes n (slice_set ks i k)
nodes_set n [] i k h one = tt
nodes_set n (j ∷ ks) zero k h one = (one, h.1)
nodes_set n (j ∷ ks) (suc i) k h one = (h.0, nodes_set n ks i k h.1 one)

nodes_repeat : (n m k : ℕ) → IsNode n k → AreNodes n (replicate m k)
nodes_repeat n zero k h = tt
nodes_repeat n (suc m) k h = (h, nodes_repeat n m k h)

module _ {A : Type 0} where
  pub placed-term : (wires width : ℕ) (terms slice : List (Term A)) (i : ℕ) (t : Term A) → ArePlaced wires width None terms → slice ≡ terms → i < length slice → t ≡ get_or slice i t → IsPlaced wires width t
  placed-term wires width terms slice i t h e l is =
      subst (λ (u : Term A). IsPlaced wires width u) (sym is) (placed-at wires width i None slice t (subst (ArePlaced wires width None) (sym e) h) l)

module _ {A : Type 0} (o : Ops A) where
  -- all are 0
  one-more : (x : A) (xs : List A) → x ≡ o.zero → IsFirstNonzero o xs None → IsFirstNonzero o (x ∷ xs) None
  one-more x xs e h zero l = e
  one-more x xs e h (suc g) l = h g (omega (arith, l))

  zero-forward : (xs : List A) → AreAllZero o xs → IsFirstNonzero o xs None
  zero-forward [] h = λ g l. absurd (omega (arith, l))
  zero-forward (x ∷ xs) h = one-more x xs h.0 (zero-forward xs h.1)

  zero-backward : (xs : List A) → IsFirstNonzero o xs None → AreAllZero o xs
  zero-backward [] h = tt
  zero-backward (x ∷ xs) h = (h 0 (omega arith), zero-backward xs (λ g l. h (suc g) (omega (arith, l))))

  pub zero-list : (xs : List A) → AreAllZero o xs ↔ IsFirstNonzero o xs None
  zero-list xs = (zero-forward xs, zero-backward xs)

  pub zeros-claim : (x y : A) (rest all : List A) → all ≡ x ∷ rest → y ≡ x → (AreAllZero o rest × (y ≡ o.zero)) ↔ AreAllZero o all
  zeros-claim x y rest all e same = (
    λ h. subst (AreAllZero o) (sym e) (sym same ∙ h.1, h.0),
    λ h. let both = subst (AreAllZero o) e h in (both.1, same ∙ both.0),
  )

  entry-value : (s : Claims A) (p q : List A) (ks : List ℕ) (i : ℕ) → i < length ks → entry o (values o s p q ks) i ≡ value o s p q (at ks i)
  entry-value s p q ks i l = get_or-map (value o s p q) ks i 0 o.zero l

  repeat-zero : (s : Claims A) (p q : List A) (z : ℕ) → value o s p q z ≡ o.zero → (n k : ℕ) → entry o (values o s p q (replicate n z)) k ≡ o.zero
  repeat-zero s p q z e zero k = refl
  repeat-zero s p q z e (suc n) zero = e
  repeat-zero s p q z e (suc n) (suc k) = repeat-zero s p q z e n k

  -- ---- nodes behind nodes

  pub yields_adds : (a b c k : ℕ) (s t u : Claims A) (xs : List ℕ) (D E : List A → List A → Type 0) → Yields o a s t xs → Adds o b k t u D → a + b ≤ c
      → ((p q : List A) → AreInputs s p q → D p q ↔ E p q) → Adds o c k s u E
  yields_adds a b c k s t u xs D E m d le f = record {
    keeps = keeps_then o a b c s t u m.keeps d.keeps le;
    count = omega (arith, d.count, m.count);
    claims = λ p q i.
        let j = inputs_kept o a s t p q m.keeps i in (
          λ h. let r = (d.claims p q j).0 h in ((m.holds p q i).0 r.0, (f p q i).0 r.1),
          λ h. (d.claims p q j).1 ((m.holds p q i).1 h.0, (f p q i).1 h.1),
        );
  }

module _ {A : Type 0} (o : Ops A) (r : RingLaws o) where
  pub term-sum : (c x y v one a b e : A) → one ≡ o.one → a ≡ o.times x y → b ≡ v → e ≡ o.plus (o.times c a) (o.times one b) → e ≡ o.plus v (o.times (o.times c x) y)
  term-sum c x y v one a b e is ea eb ee =
      ee ∙ ap (λ z. o.plus (o.times c a) (o.times z b)) is ∙ ap (o.plus (o.times c a)) (one_times o r b ∙ eb) ∙ ap (λ z. o.plus (o.times c z) v) ea
      ∙ r.plus_comm (o.times c (o.times x y)) v ∙ ap (o.plus v) (sym (r.times_assoc c x y))

-- ---- the sums of a layer, term by term

module _ {A : Type 0} (o : Ops A) (r : RingLaws o) where
  pub record Summing (s t : Claims A) (terms : List (Term A)) (below : List ℕ) (wires i : ℕ) (sums : List ℕ) : Type 0 where
    pub yields : Yields o (1 + 2 * i) s t sums
    pub count : length sums ≡ wires
    pub rest : (p q : List A) → AreInputs s p q → (k : ℕ) → k < length (values o t p q sums)
        → o.plus (entry o (values o t p q sums) k) (sum_list o (drop i terms) (share o r (values o s p q below) k)) ≡ wire o (coef o terms) (values o s p q below) k

  pub summing-starts : (s t : Claims A) (terms : List (Term A)) (below sums : List ℕ) (wires z : ℕ) → ArePlaced wires (length below) None terms → sums ≡ replicate wires z
      → Makes o 1 s t z → ((p q : List A) → AreInputs s p q → value o t p q z ≡ o.zero) → Summing s t terms below wires 0 sums
  summing-starts s t terms below sums wires z placed is m v = record {
    yields = yields_one o 1 s t z sums m (subst (AreNodes (node_count t.nodes)) (sym is) (nodes_repeat (node_count t.nodes) wires z m.there));
    count = ap length is ∙ length-replicate wires z;
    rest = λ p q a k l.
        let out = values o t p q sums in
        let long : length out ≡ wires = length-map sums (value o t p q) ∙ ap length is ∙ length-replicate wires z in
        let wide : length below ≡ length (values o s p q below) = sym (length-map below (value o s p q)) in
        walk-starts o r terms (values o s p q below) out k l
        (subst (λ n. AreDistinct o n (length (values o s p q below)) terms) (sym long) (subst (λ n. AreDistinct o wires n terms) wide (placed-distinct o wires (length below) None terms placed)))
        (ap (λ ks. entry o (values o t p q ks) k) is ∙ repeat-zero o t p q z (v p q a) wires k);
  }

  pub summing-adds : (s t u : Claims A) (terms : List (Term A)) (below old new : List ℕ) (wires i sum node : ℕ) (x : Term A) → AreNodes (node_count s.nodes) below
      → i < length terms → x ≡ get_or terms i x → x.g < wires → x.a < length below → x.b < length below → sum ≡ at old x.g → new ≡ slice_set old x.g node
      → Makes o 2 t u node
      → ((p q : List A) → AreInputs t p q → value o u p q node ≡ o.plus (value o t p q sum) (o.times (o.times x.coef (value o t p q (at below x.a))) (value o t p q (at below x.b))))
      → Summing s t terms below wires i old → Summing s u terms below wires (i + 1) new
  summing-adds s t u terms below old new wires i sum node x nodes li is lg la lb sum_is new_is m v h =
      let y = h.yields in
      let there : AreNodes (node_count u.nodes) old = nodes_more (node_count t.nodes) (node_count u.nodes) old m.keeps.more y.there in
      record {
        yields = yields_then o (1 + 2 * i) 2 (1 + 2 * (i + 1)) s t u old new y
            (yields_one o 2 t u node new m (subst (AreNodes (node_count u.nodes)) (sym new_is) (nodes_set (node_count u.nodes) old x.g node there m.there))) (omega arith);
        count = ap length new_is ∙ length-set old x.g node ∙ h.count;
        rest = λ p q a k l.
            let b = inputs_kept o (1 + 2 * i) s t p q y.keeps a in
            let vs = values o t p q old in
            let bs = values o s p q below in
            let set : values o u p q new ≡ slice_set vs x.g (value o u p q node) =
            ap (values o u p q) new_is ∙ map-set (value o u p q) old x.g node ∙ ap (λ ws. slice_set ws x.g (value o u p q node)) (values_kept o 2 t u p q old m.keeps b y.there) in
            let left : value o t p q (at below x.a) ≡ entry o bs x.a = y.keeps.same p q a (at below x.a) (node_at (node_count s.nodes) below nodes x.a la).1 ∙ sym (entry-value o s p q below x.a la) in
            let right : value o t p q (at below x.b) ≡ entry o bs x.b = y.keeps.same p q a (at below x.b) (node_at (node_count s.nodes) below nodes x.b lb).1 ∙ sym (entry-value o s p q below x.b lb) in
            let before : value o t p q sum ≡ entry o vs x.g = ap (value o t p q) sum_is ∙ sym (entry-value o t p q old x.g (omega (arith, lg, h.count))) in
            let added : value o u p q node ≡ o.plus (entry o vs x.g) (o.times (o.times x.coef (entry o bs x.a)) (entry o bs x.b)) =
            v p q b ∙ ap (λ e. o.plus e (o.times (o.times x.coef (value o t p q (at below x.a))) (value o t p q (at below x.b)))) before
            ∙ ap (λ e. o.plus (entry o vs x.g) (o.times (o.times x.coef e) (value o t p q (at below x.b)))) left
            ∙ ap (λ e. o.plus (entry o vs x.g) (o.times (o.times x.coef (entry o bs x.a)) e)) right in
            let long : length (values o u p q new) ≡ length vs = ap length set ∙ length-set vs x.g (value o u p q node) in
            walk-step o r terms bs vs (values o u p q new) i k x (wire o (coef o terms) bs k) li is (omega (arith, lg, h.count, length-map old (value o t p q)))
            (set ∙ ap (slice_set vs x.g) added) (h.rest p q a k (omega (arith, l, long)));
      }

  pub summing-ends : (s t : Claims A) (layer : Layer A) (terms : List (Term A)) (below sums : List ℕ) (i : ℕ) (p q : List A) → length terms ≤ i → terms ≡ layer.terms → AreInputs s p q
      → Summing s t terms below layer.wires i sums → values o t p q sums ≡ layer_values o layer (values o s p q below)
  summing-ends s t layer terms below sums i p q l is a h =
      walk-ends o r terms (values o s p q below) (values o t p q sums) i layer.wires l (length-map sums (value o t p q) ∙ h.count) (h.rest p q a)
      ∙ ap (λ ts. layer_values o (record { wires = layer.wires; terms = ts }) (values o s p q below)) is

-- ---- layer by layer

module _ {A : Type 0} (o : Ops A) where
  -- the nodes are the wires of the layers from l on
  pub record Standing (s t : Claims A) (n : ℕ) (layers : List (Layer A)) (inputs : List ℕ) (l : ℕ) (nodes : List ℕ) : Type 0 where
    pub yields : Yields o (layer_nodes (drop l layers)) s t nodes
    pub count : length nodes ≡ (under_of n (drop l layers)).width
    pub are : (p q : List A) → AreInputs s p q → values o t p q nodes ≡ wires_of o (drop l layers) (values o s p q inputs)

  pub standing-starts : (s : Claims A) (n l : ℕ) (layers : List (Layer A)) (inputs : List ℕ) → length layers ≤ l → length inputs ≡ n → AreNodes (node_count s.nodes) inputs
      → Standing s s n layers inputs l inputs
  standing-starts s n l layers inputs past long nodes =
      let none = drop_all l layers past in
      record {
        yields = subst (λ ls. Yields o (layer_nodes ls) s s inputs) (sym none) (yields_none o s inputs nodes);
        count = long ∙ sym (ap (λ ls. (under_of n ls).width) none);
        are = λ p q a. sym (ap (λ ls. wires_of o ls (values o s p q inputs)) none);
      }

  pub record LayerAt (n : ℕ) (layers : List (Layer A)) (l : ℕ) (layer : Layer A) : Type 0 where
    pub drops : drop l layers ≡ layer ∷ drop (l + 1) layers
    pub placed : ArePlaced layer.wires (under_of n (drop (l + 1) layers)).width None layer.terms

  pub layer-of : (c : Wiring A) (l : ℕ) (layer : Layer A) → IsValid o c → slice_get c.layers l ≡ Some layer → LayerAt (input_width c) c.layers l layer
  layer-of c l layer valid is =
      let within = slice_get_within c.layers l layer is in
      let same : get_or c.layers l layer ≡ layer = get_or_from_slice_get c.layers l layer layer is in
      let h : IsLayerOf o c.version (under_of (input_width c) (drop (l + 1) c.layers)) layer =
      subst (λ x. IsLayerOf o c.version (under_of (input_width c) (drop (l + 1) c.layers)) x) same (layer-at o c l layer within valid) in
      record { drops = drop_more c.layers l layer within ∙ ap (λ x. x ∷ drop (l + 1) c.layers) same; placed = h.each }

  pub standing-adds : (s t u : Claims A) (n l m : ℕ) (layers : List (Layer A)) (inputs old new : List ℕ) (layer : Layer A) → m + 1 ≡ l → LayerAt n layers m layer
      → Yields o (1 + 2 * length layer.terms) t u new → length new ≡ layer.wires
      → ((p q : List A) → AreInputs t p q → values o u p q new ≡ layer_values o layer (values o t p q old))
      → Standing s t n layers inputs l old → Standing s u n layers inputs m new
  standing-adds s t u n l m layers inputs old new layer back is y wide v h =
      let under : drop (m + 1) layers ≡ drop l layers = ap (λ k. drop k layers) back in
      let all : drop m layers ≡ layer ∷ drop l layers = is.drops ∙ ap (λ ls. layer ∷ ls) under in
      record {
        yields = subst (λ ls. Yields o (layer_nodes ls) s u new) (sym all)
            (yields_then o (layer_nodes (drop l layers)) (1 + 2 * length layer.terms) (layer_nodes (layer ∷ drop l layers)) s t u old new h.yields y (omega arith));
        count = wide ∙ sym (ap (λ ls. (under_of n ls).width) all);
        are = λ p q a.
            v p q (inputs_kept o (layer_nodes (drop l layers)) s t p q h.yields.keeps a) ∙ ap (layer_values o layer) (h.are p q a)
            ∙ sym (ap (λ ls. wires_of o ls (values o s p q inputs)) all);
      }

-- ---- a circuit of version 1 is satisfied where its outputs are 0

module _ {A : Type 0} (o : Ops A) (size : ℕ) (number : A → ℕ) (element : ℕ → A) (bytes : ℕ) (laws : Laws o size number element bytes) where
  pub zero-satisfied : (c : Wiring A) (outs inputs : List A) → IsValid o c → c.version ≡ 1 → length inputs ≡ input_width c → outs ≡ wires_of o c.layers inputs → AreAllZero o outs ↔ IsSatisfied o number c.layers inputs
  zero-satisfied c outs inputs valid one long e =
      let checks : checks_of o number c.layers inputs ≡ outs = one-checks o size number element bytes laws (input_width c) c.layers inputs long valid.some (valid-one o c one valid) ∙ sym e in
      subst (λ xs. AreAllZero o outs ↔ IsFirstNonzero o xs None) (sym checks) (zero-list o outs)

-- ---- a valid circuit is few nodes

module _ {A : Type 0} (o : Ops A) where
  count-nodes : (n : ℕ) (layers : List (Layer A)) → layer_nodes layers ≡ length layers + 2 * (under_of n layers).terms
  count-nodes n [] = refl
  count-nodes n (layer ∷ layers) = omega (arith, count-nodes n layers)

  pub few-nodes : (c : Wiring A) → IsValid o c → 1 + layer_nodes c.layers ≤ most_nodes
  few-nodes c valid = omega (arith, count-nodes (input_width c) c.layers, valid.depth, asserted-most (λ x. 0) o c.version (input_width c) c.layers valid.layers)

  pub count-outputs : (c : Wiring A) → (under_of (input_width c) c.layers).width ≡ output_count c
  count-outputs c = go c.layers
    where
      go : (layers : List (Layer A)) → (under_of (input_width c) layers).width ≡ get_or (map (λ layer. layer.wires) layers ++ input_width c ∷ []) 0 0
      go [] = refl
      go (layer ∷ layers) = refl

  pub few-outputs : (c : Wiring A) → IsValid o c → (1 ≤ output_count c) × (output_count c ≤ most_wires)
  few-outputs c valid =
      let both = go c.layers valid.some valid.layers in
      (omega (arith, both.0, count-outputs c), omega (arith, both.1, count-outputs c))
    where
      go : (layers : List (Layer A)) → 1 ≤ length layers → AreLayersOf o c.version (input_width c) layers → (1 ≤ (under_of (input_width c) layers).width) × ((under_of (input_width c) layers).width ≤ most_wires)
      go [] some h = absurd (omega (arith, some))
      go (layer ∷ layers) some h = let one = h.0 in (one.some, omega (arith, one.most))
