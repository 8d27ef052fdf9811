-- The nodes of the demo's source keep the limits.
use Rattle.std.proofs.Common.{◌≡◌, ℕ, zero, suc, ◌+◌, ◌-◌, ◌*◌, ◌≤◌, ◌<◌, Bool, true, false, cond, List, [], ◌∷◌, ◌++◌, map, length, replicate, None, refl, sym, ◌∙◌, ap, ap₂, subst, arith}
use Rattle.std.specs.Prelude.{max, nat_le, count_by}
use Rattle.std.proofs.lemmas.Bool.Decides.{nat_tests}
use Rattle.std.proofs.lemmas.List.{get_or-replicate}
use Rattle.std.proofs.lemmas.List.Sums.{sum_by-cons, sum_by-append}
use Rattle.std.proofs.lemmas.Nat.{mul-le}
use Rattle.lzk_profile.specs.Profile.{most_wires, most_total}
use Rattle.lzk_field.specs.Ring.{Ops}
use Rattle.lzk_goldilocks.specs.Elements.{of_number}
use Rattle.lzk_goldilocks.specs.Elements as gold
use Rattle.lzk_expr.specs.Trees.{Expr, PublicInput, Statement, DeclarePublic, DeclarePrivate, Define, Assertion, is_public, is_private, is_assertion}
use Rattle.lzk_level.specs.Nodes.{Nodes, nodes_from}
use Rattle.lzk_level.specs.Bounds.{total, node_weights, layer_count, wire_bound, term_bound, limit_fault, level_fault}
use Rattle.lzk_level.specs.Compiling.{scope, MadeOutputs, statements_made, inputs_alone, nodes_of}
use Rattle.lzk_level.specs.Compiled.{source_layers, source_limit}
use Rattle.lzk_demo.specs.declared.entry.Entry.{Entry}
use Rattle.lzk_demo.specs.declared.entry.Entry.TheVariants.{Made as Let}
use Rattle.lzk_demo.specs.Demo.{expr_of, exclusive_or, let_name, first_of, round_lets, paired, rounds, inputs_from, privates_from, demo_statements, demo_tree, IsDemoDepth}
use Rattle.lzk_demo.proofs.Rounds.{rounds_with, rounds_cost, one_left, Ats, all_rounds}
use Rattle.lzk_demo.proofs.Heights.{Size, over, price, height, least, height_is, AllBelow, first_depth, rounds_depth, all_weights, rounds_weight, rounds_price}
use Rattle.lzk_demo.proofs.Layers.{at, Measured, State, scope_of, number, Known, after_pair, pair-made, after-kept, after-measured, length-after, asserted, assert-made, assert-measured, assert-total, assert-count, or-total, or-kept, or-count}

-- ---- counts

module _ (p : Statement → Bool) where
  count-cons : (s : Statement) (ss : List Statement) → count_by p (s ∷ ss) ≡ cond (p s) 1 0 + count_by p ss
  count-cons s ss = sum_by-cons (λ x. cond (p x) 1 0) s ss

  count-append : (ss ts : List Statement) → count_by p (ss ++ ts) ≡ count_by p ss + count_by p ts
  count-append ss ts = sum_by-append (λ x. cond (p x) 1 0) ss ts

  -- a test that no let line passes counts no line of a round
  count_lets : ((w : List ℕ) (e : Expr) → p (Define w e) ≡ false) → (k : ℕ) (es : List Entry) → count_by p (round_lets k es) ≡ 0
  count_lets other k [] = refl
  count_lets other k (a ∷ []) = refl
  count_lets other k (a ∷ b ∷ es) =
      let e = exclusive_or (expr_of a) (expr_of b) in
      count-cons (Define (let_name k) e) (round_lets (k + 1) es) ∙ ap₂ (λ (c : Bool) (n : ℕ). cond c 1 0 + n) (other (let_name k) e) (count_lets other (k + 1) es)

  count_rounds : ((w : List ℕ) (e : Expr) → p (Define w e) ≡ false) → (c : Bool) → ((e f : Expr) → p (Assertion e f) ≡ c) → (n k : ℕ) (es : List Entry) → count_by p (rounds n k es) ≡ cond c 1 0
  count_rounds other c assert zero k es = count-cons (Assertion (first_of es) (PublicInput 0)) [] ∙ ap (λ (b : Bool). cond b 1 0 + 0) (assert (first_of es) (PublicInput 0)) ∙ omega arith
  count_rounds other c assert (suc n) k es = count-append (round_lets k es) _ ∙ ap₂ (λ (a b : ℕ). a + b) (count_lets other k es) (count_rounds other c assert n _ (paired k es)) ∙ omega arith

  count_privates : (c : Bool) → ((w : List ℕ) → p (DeclarePrivate w) ≡ c) → (i n : ℕ) → count_by p (privates_from i n) ≡ n * cond c 1 0
  count_privates c is i zero = omega arith
  count_privates c is i (suc n) = count-cons (DeclarePrivate _) (privates_from (i + 1) n) ∙ ap₂ (λ (b : Bool) (m : ℕ). cond b 1 0 + m) (is _) (count_privates c is (i + 1) n) ∙ one_more n (cond c 1 0)
    where
      one_more : (n m : ℕ) → m + n * m ≡ suc n * m
      one_more n m = omega arith

  count_demo : (a c d : Bool) → ((w : List ℕ) → p (DeclarePublic w) ≡ a) → ((w : List ℕ) → p (DeclarePrivate w) ≡ c) → ((w : List ℕ) (e : Expr) → p (Define w e) ≡ false) → ((e f : Expr) → p (Assertion e f) ≡ d)
      → (n : ℕ) → count_by p (demo_statements n) ≡ cond a 1 0 + (n * cond c 1 0 + cond d 1 0)
  count_demo a c d public private other assert n =
      count-cons (DeclarePublic (121 ∷ [])) (privates_from 0 n ++ rounds n 0 (inputs_from 0 n))
      ∙ ap₂ (λ (b : Bool) (m : ℕ). cond b 1 0 + m) (public (121 ∷ [])) (count-append (privates_from 0 n) (rounds n 0 (inputs_from 0 n)) ∙ ap₂ (λ (x y : ℕ). x + y) (count_privates c private 0 n) (count_rounds other d assert n 0 (inputs_from 0 n)))

pub demo_publics : (n : ℕ) → count_by is_public (demo_statements n) ≡ 1
demo_publics n = count_demo is_public true false false (λ w. refl) (λ w. refl) (λ w e. refl) (λ e f. refl) n ∙ omega arith

pub demo_privates : (n : ℕ) → count_by is_private (demo_statements n) ≡ n
demo_privates n = count_demo is_private false true false (λ w. refl) (λ w. refl) (λ w e. refl) (λ e f. refl) n ∙ omega arith

pub demo_asserts : (n : ℕ) → count_by is_assertion (demo_statements n) ≡ 1
demo_asserts n = count_demo is_assertion false false true (λ w. refl) (λ w. refl) (λ w e. refl) (λ e f. refl) n ∙ omega arith

-- ---- sizes at the beginning

abbrev inputs_size : ℕ → List Size
inputs_size zero = []
inputs_size (suc n) = record { depth = 0; weight = 1 } ∷ inputs_size n

length-inputs : (n : ℕ) → length (inputs_size n) ≡ n
length-inputs zero = refl
length-inputs (suc n) = omega (arith, length-inputs n)

inputs_below : (n : ℕ) → AllBelow 0 (inputs_size n)
inputs_below zero = tt
inputs_below (suc n) = (omega arith, inputs_below n)

inputs_weight : (n : ℕ) → all_weights (inputs_size n) ≡ n
inputs_weight zero = refl
inputs_weight (suc n) = omega (arith, inputs_weight n)

inputs_first : (n : ℕ) → first_depth (inputs_size n) ≡ 0
inputs_first zero = refl
inputs_first (suc n) = refl

length-entries : (i n : ℕ) → length (inputs_from i n) ≡ n
length-entries i zero = refl
length-entries i (suc n) = omega (arith, length-entries (i + 1) n)

-- ---- the nodes

module _ {A : Type 0} (o : Ops A) (element : ℕ → A) (all : ℕ) where
  abbrev At : State o element → Entry → Size → Type 0
  At s e x = Known o element s e × Measured s.nodes (number o element s e) x.depth x.weight

  -- behind k let lines, whose nodes weigh t
  record Is (s : State o element) (k t : ℕ) : Type 0 where
    lets_are : length s.lets ≡ k
    publics_are : s.nodes.publics ≡ 1
    privates_are : s.nodes.privates ≡ all
    count : length s.nodes.made ≡ 3 * k
    heavy : total (node_weights s.nodes) ≡ 1 + all + t
    public : Measured s.nodes 1 0 1

  abbrev step : State o element → ℕ → Entry → Entry → State o element
  step s k a b = after_pair o element s a b

  keeps : (s : State o element) (k t : ℕ) (a b e : Entry) (x : Size) → Is s k t → At s e x → At (step s k a b) e x
  keeps s k t a b e x is h = after-kept o element s a b e x h.0 h.1

  makes : (s : State o element) (k t : ℕ) (a b : Entry) (x y : Size) → Is s k t → At s a x → At s b y → At (step s k a b) (Let k) (over x y) × Is (step s k a b) (k + 1) (t + price (over x y))
  makes s k t a b x y is h g =
      let i = number o element s a in
      let j = number o element s b in
      let more = length-after o element s a b in (
        (omega (arith, more, is.lets_are), after-measured o element s a b k x y is.lets_are h.1 g.1),
        record {
          lets_are = omega (arith, more, is.lets_are);
          publics_are = is.publics_are;
          privates_are = is.privates_are;
          count = omega (arith, or-count o element s.nodes i j, is.count);
          heavy = omega (arith, or-total o element s.nodes i j x y h.1 g.1, is.heavy);
          public = or-kept o element s.nodes i j 1 0 1 is.public;
        },
      )

  -- the layers, the wires and the weights behind all rounds that make a depth and cost t
  record Sized (m : MadeOutputs A) (depth t : ℕ) : Type 0 where
    layers : layer_count m.nodes m.outputs ≡ max 1 depth
    wires : wire_bound m.nodes ≡ 4 * all
    weights : total (node_weights m.nodes) + total (map (at (node_weights m.nodes)) m.outputs) ≡ 1 + all + t + 4 * all

  ended : (s : State o element) (k t : ℕ) (e : Entry) (x : Size) → Is s k t → At s e x → k + 1 ≡ all → x.weight + 1 ≡ 2 * all → Sized (asserted o element s e) x.depth t
  ended s k t e x is h last two =
      let m = assert-measured o element s e x h.1 is.public in
      record {
        layers = omega (arith, m.depth_is);
        wires = omega (arith, assert-count o element s e, is.publics_are, is.privates_are, is.count, last);
        weights = omega (arith, assert-total o element s e x h.1 is.public, is.heavy, m.weight_is, two);
      }

  abbrev Goal : ℕ → ℕ → State o element → List Statement → Type 0
  Goal depth t s ss = Sized (statements_made (scope_of o element s) s.nodes ss) depth t

  last : (s : State o element) (k t : ℕ) (es : List Entry) (xs : List Size) → Is s k t → Ats At s es xs → length xs ≡ 1 → all_weights xs + length xs ≡ 2 * all → k + length es ≡ all → Goal (first_depth xs) t s (Assertion (first_of es) (PublicInput 0) ∷ [])
  last s k t es [] is h one two few = absurd (omega arith)
  last s k t [] (x ∷ xs) is h one two few = absurd h
  last s k t (e ∷ []) (x ∷ []) is h one two few = subst (λ (m : MadeOutputs A). Sized m x.depth t) (sym (assert-made o element s e h.0.0)) (ended s k t e x is h.0 few (omega (arith, two)))
  last s k t (e ∷ d ∷ es) (x ∷ []) is h one two few = absurd h.1
  last s k t (e ∷ es) (x ∷ y ∷ xs) is h one two few = absurd (omega arith)

  start : State o element
  start = record { lets = []; nodes = nodes_from 1 all [] }

  input_measured : (i : ℕ) → i < all → Measured (nodes_from {A = A} 1 all []) (1 + 1 + i) 0 1
  input_measured i h = record {
    within = omega arith;
    depth_is = get_or-replicate (1 + (1 + all)) (1 + 1 + i) 0 0 (omega arith);
    weight_is = let e : 1 + 1 + i ≡ suc (1 + i) = omega arith in ap (λ k. at (0 ∷ replicate (1 + all) 1) k) e ∙ get_or-replicate (1 + all) (1 + i) 1 0 (omega arith);
  }

  inputs_measured : (i n : ℕ) → i + n ≤ all → Ats At start (inputs_from i n) (inputs_size n)
  unfolding start
  inputs_measured i zero h = tt
  inputs_measured i (suc n) h = ((tt, input_measured i (omega arith)), inputs_measured (i + 1) n (omega arith))

  start_is : Is start 0 0
  unfolding start
  start_is = record {
    lets_are = refl;
    publics_are = refl;
    privates_are = refl;
    count = refl;
    heavy = omega (arith, ones (1 + all));
    public = record {
      within = omega arith;
      depth_is = get_or-replicate (1 + (1 + all)) 1 0 0 (omega arith);
      weight_is = get_or-replicate (1 + all) 0 1 0 (omega arith);
    };
  }
    where
      ones : (n : ℕ) → total (replicate n 1) ≡ n
      ones zero = refl
      ones (suc n) = omega (arith, ones n)

  rounds_sized : 1 ≤ all → Sized (statements_made (scope_of o element start) start.nodes (rounds all 0 (inputs_from 0 all))) (height all all) (rounds_cost over price all (inputs_size all))
  rounds_sized some =
      let xs = inputs_size all in
      let es = inputs_from 0 all in
      let long = length-inputs all in
      let many = length-entries 0 all in
      let t = rounds_cost over price all xs in
      let left = one_left over all xs (omega (arith, long)) (omega (arith, long)) in
      let depth : first_depth (rounds_with over all xs) ≡ height all all = rounds_depth all 0 xs (omega (arith, long)) (inputs_below all) (inputs_first all) ∙ ap (λ n. 0 + height all n) long ∙ zero_plus (height all all) in
      all_rounds At Is (Goal (height all all) t) step over price all keeps (λ s k t a b x y few. makes s k t a b x y)
      (λ s k u a b x y rest few is h g goal. subst (λ (m : MadeOutputs A). Sized m (height all all) t) (sym (pair-made o element s a b (let_name k) rest h.0 g.0)) goal)
      all start 0 0 es xs (omega (arith, many)) start_is (inputs_measured 0 all (omega arith))
      (λ r l ds same is h. subst (λ d. Goal d t r (Assertion (first_of ds) (PublicInput 0) ∷ [])) depth (subst (λ u. Goal (first_depth (rounds_with over all xs)) u r (Assertion (first_of ds) (PublicInput 0) ∷ [])) (zero_plus t)
      (last r l (0 + t) ds (rounds_with over all xs) is h left (rounds_weight all xs ∙ omega (arith, inputs_weight all, long)) (omega (arith, same, many)))))
    where
      zero_plus : (n : ℕ) → 0 + n ≡ n
      zero_plus n = omega arith

  -- ---- the whole source

  skip_privates : (n : Nodes A) (i m : ℕ) (ss : List Statement) → statements_made (scope o element []) n (privates_from i m ++ ss) ≡ statements_made (scope o element []) n ss
  skip_privates n i zero ss = refl
  skip_privates n i (suc m) ss = skip_privates n (i + 1) m ss

  demo_sized : 1 ≤ all → Sized (nodes_of o element (demo_statements all)) (height all all) (rounds_cost over price all (inputs_size all))
  unfolding start
  demo_sized some =
      let ss = rounds all 0 (inputs_from 0 all) in
      let inputs : inputs_alone (demo_statements all) ≡ nodes_from {A = A} 1 all [] = ap₂ (λ p q. nodes_from {A = A} p q []) (demo_publics all) (demo_privates all) in
      let same : nodes_of o element (demo_statements all) ≡ statements_made (scope o element []) (nodes_from 1 all []) ss = ap (λ (n : Nodes A). statements_made (scope o element []) n (privates_from 0 all ++ ss)) inputs ∙ skip_privates (nodes_from 1 all []) 0 all ss in
      subst (λ (m : MadeOutputs A). Sized m (height all all) (rounds_cost over price all (inputs_size all))) (sym same) (rounds_sized some)

  fourteen : all ≤ 16384 → height all all ≤ 14
  fourteen few = least all all 14 few

  cost : 1 ≤ all → rounds_cost over price all (inputs_size all) ≤ height all all * (2 * all) + 2 * (all - 1)
  cost some =
      let xs = inputs_size all in
      let long = length-inputs all in
      let same : height all (length xs) * (2 * all) ≡ height all all * (2 * all) = ap (λ m. height all m * (2 * all)) long in
      omega (arith, rounds_price all (2 * all) xs (omega (arith, long)) (omega (arith, long, inputs_weight all)), same, long)

  pub demo_layers : 1 ≤ all → IsDemoDepth all (layer_count (nodes_of o element (demo_statements all)).nodes (nodes_of o element (demo_statements all)).outputs)
  demo_layers some = (height all all, height_is all all (omega arith), (demo_sized some).layers)

  within : (l w t : ℕ) → l ≤ 512 → w ≤ most_wires → t ≤ most_total → limit_fault l w t ≡ None
  within l w t a b c = rw (le_test l 512 a, le_test w most_wires b, le_test t most_total c) refl
    where
      le_test : (m n : ℕ) → m ≤ n → nat_le m n ≡ true
      le_test m n h = grind (arith, nat_tests)

  pub demo_within : 1 ≤ all → all ≤ 16384 → level_fault (nodes_of o element (demo_statements all)).nodes (nodes_of o element (demo_statements all)).outputs ≡ None
  demo_within some few =
      let m = nodes_of o element (demo_statements all) in
      let h = demo_sized some in
      let top = fourteen few in
      let layers : layer_count m.nodes m.outputs ≤ 14 = omega (arith, h.layers, top) in
      let area = mul-le (layer_count m.nodes m.outputs) (wire_bound m.nodes) 14 (4 * all) layers (omega (arith, h.wires)) in
      let heights = mul-le (height all all) (2 * all) 14 (2 * all) top (omega arith) in
      within (layer_count m.nodes m.outputs) (wire_bound m.nodes) (term_bound m.nodes m.outputs) (omega (arith, layers)) (omega (arith, h.wires)) (omega (arith, area, h.weights, cost some, heights))

pub limits_kept : (n : ℕ) → 1 ≤ n → n ≤ 16384 → source_limit (demo_tree n) ≡ None
limits_kept n some few = demo_within gold.ops of_number n some few

pub depth_is : (n : ℕ) → 1 ≤ n → IsDemoDepth n (source_layers (demo_tree n))
depth_is n some = demo_layers gold.ops of_number n some
