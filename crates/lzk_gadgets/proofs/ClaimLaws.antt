-- How the claims of a statement grow.
use Rattle.std.specs.Prelude.{◌≡◌, ℕ, ◌+◌, ◌<◌, ◌≤◌, ◌↔◌, List, [], ◌∷◌, ◌++◌, length, map}
use Rattle.std.proofs.Common.{zero, suc, refl, sym, ap, ◌∙◌, arith, subst}
use Rattle.std.proofs.lemmas.List.{length-append}
use Rattle.lzk_field.specs.Ring.{Ops}
use Rattle.lzk_field.specs.Sums.{entry}
use Rattle.lzk_level.specs.Gates.{Gate}
use Rattle.lzk_level.specs.Nodes.{Nodes, node_count, node_values, with_gate, gate_value, IsNode}
use Rattle.lzk_level.proofs.MadeLaws.{grown-next, node-more}
use Rattle.lzk_level.proofs.ValueLaws.{Fits, values-grown, value-next, public-value, private-value}
use Rattle.lzk_circuit_reduce.specs.Renumbering.{at}
use Rattle.lzk_gadgets.specs.Claims.{Claims, AreInputs, value, values, AreNodes, AreZero, AreAllZero, Holds, Keeps, Makes, Yields, Adds}

pub nodes_more : (n m : ℕ) (ks : List ℕ) → n ≤ m → AreNodes n ks → AreNodes m ks
nodes_more n m [] l h = tt
nodes_more n m (k ∷ ks) l h = (node-more n m k l h.0, nodes_more n m ks l h.1)

pub nodes_push : (n : ℕ) (ks : List ℕ) (k : ℕ) → AreNodes n ks → IsNode n k → AreNodes n (ks ++ k ∷ [])
nodes_push n [] k h l = (l, tt)
nodes_push n (j ∷ ks) k h l = (h.0, nodes_push n ks k h.1 l)

pub node_at : (n : ℕ) (ks : List ℕ) → AreNodes n ks → (i : ℕ) → i < length ks → IsNode n (at ks i)
node_at n [] h i l = absurd (omega (arith, l))
node_at n (k ∷ ks) h zero l = h.0
node_at n (k ∷ ks) h (suc i) l = node_at n ks h.1 i (omega (arith, l))

module _ {A : Type 0} where
  abbrev pub with : Claims A → Gate A → Claims A
  with s g = record { nodes = with_gate s.nodes g; asserts = s.asserts }

  pub count_gate : (n : Nodes A) (g : Gate A) → node_count (with_gate n g) ≡ node_count n + 1
  count_gate n g = omega (arith, length-append n.made (g ∷ []))

  pub nodes_gate : (b c : Nodes A) (g : Gate A) (ks : List ℕ) → c ≡ with_gate b g → AreNodes (node_count b) ks → AreNodes (node_count c) ks
  nodes_gate b c g ks e h = nodes_more (node_count b) (node_count c) ks (omega (arith, ap (λ (n : Nodes A). node_count n) e, count_gate b g)) h

  fits : (s : Claims A) (p q : List A) → AreInputs s p q → Fits p q s.nodes
  fits s p q a = record { publics = a.publics; privates = a.privates }

module _ {A : Type 0} (o : Ops A) where
  pub inputs_kept : (m : ℕ) (s t : Claims A) (p q : List A) → Keeps o m s t → AreInputs s p q → AreInputs t p q
  inputs_kept m s t p q k a = record { publics = a.publics ∙ sym k.publics; privates = a.privates ∙ sym k.privates }

  zero_forward : (vs ws : List A) (n : ℕ) (ks : List ℕ) → AreNodes n ks → ((k : ℕ) → k ≤ n → entry o ws k ≡ entry o vs k) → AreZero o ws ks → AreZero o vs ks
  zero_forward vs ws n [] h e z = tt
  zero_forward vs ws n (k ∷ ks) h e z = (sym (e k h.0.1) ∙ z.0, zero_forward vs ws n ks h.1 e z.1)

  zero_backward : (vs ws : List A) (n : ℕ) (ks : List ℕ) → AreNodes n ks → ((k : ℕ) → k ≤ n → entry o ws k ≡ entry o vs k) → AreZero o vs ks → AreZero o ws ks
  zero_backward vs ws n [] h e z = tt
  zero_backward vs ws n (k ∷ ks) h e z = (e k h.0.1 ∙ z.0, zero_backward vs ws n ks h.1 e z.1)

  zero_push_forward : (vs : List A) (ks : List ℕ) (k : ℕ) → AreZero o vs (ks ++ k ∷ []) → AreZero o vs ks × (entry o vs k ≡ o.zero)
  zero_push_forward vs [] k z = (tt, z.0)
  zero_push_forward vs (j ∷ ks) k z = let r = zero_push_forward vs ks k z.1 in ((z.0, r.0), r.1)

  zero_push_backward : (vs : List A) (ks : List ℕ) (k : ℕ) → AreZero o vs ks → entry o vs k ≡ o.zero → AreZero o vs (ks ++ k ∷ [])
  zero_push_backward vs [] k z e = (e, tt)
  zero_push_backward vs (j ∷ ks) k z e = (z.0, zero_push_backward vs ks k z.1 e)

  -- ---- one gate more
  keeps_with : (s : Claims A) (g : Gate A) → Keeps o 1 s (with s g)
  keeps_with s g = record {
    publics = refl;
    privates = refl;
    more = omega (arith, count_gate s.nodes g);
    few = omega (arith, count_gate s.nodes g);
    same = λ p q a k l. values-grown o p q s.nodes (with_gate s.nodes g) 1 k (grown-next s.nodes g 1 (omega arith)) (fits s p q a) l;
  }

  makes_with : (s : Claims A) (g : Gate A) → AreNodes (node_count s.nodes) s.asserts → Makes o 1 s (with s g) (1 + node_count s.nodes)
  makes_with s g h =
      let k = keeps_with s g in
      record {
        keeps = k;
        there = (omega arith, omega (arith, count_gate s.nodes g));
        count = refl;
        holds = λ p q a. (
          zero_forward (node_values o s.nodes p q) (node_values o (with_gate s.nodes g) p q) (node_count s.nodes) s.asserts h (λ j l. k.same p q a j l),
          zero_backward (node_values o s.nodes p q) (node_values o (with_gate s.nodes g) p q) (node_count s.nodes) s.asserts h (λ j l. k.same p q a j l),
        );
      }

  pub makes_gate : (s t : Claims A) (g : Gate A) (node : ℕ) → AreNodes (node_count s.nodes) s.asserts → t ≡ with s g → node ≡ 1 + node_count s.nodes → Makes o 1 s t node
  makes_gate s t g node h e is = subst (λ (k : ℕ). Makes o 1 s t k) (sym is) (subst (λ (u : Claims A). Makes o 1 s u (1 + node_count s.nodes)) (sym e) (makes_with s g h))

  pub value_gate : (s t : Claims A) (g : Gate A) (node : ℕ) (p q : List A) → t ≡ with s g → node ≡ 1 + node_count s.nodes → AreInputs s p q → value o t p q node ≡ gate_value o (node_values o s.nodes p q) g
  value_gate s t g node p q e is a =
      ap (λ (k : ℕ). value o t p q k) is ∙ ap (λ (u : Claims A). value o u p q (1 + node_count s.nodes)) e ∙ value-next o p q s.nodes g (fits s p q a)

  -- the same of a statement's parts
  abbrev pub claims_of : Nodes A → List ℕ → Claims A
  claims_of b ks = record { nodes = b; asserts = ks }

  pub made : (b c : Nodes A) (ks : List ℕ) (s : Claims A) (g : Gate A) (node : ℕ) → claims_of b ks ≡ s → AreNodes (node_count b) ks → c ≡ with_gate b g → node ≡ 1 + node_count b → Makes o 1 s (claims_of c ks) node
  made b c ks s g node view h e is = subst (λ (u : Claims A). Makes o 1 u (claims_of c ks) node) view (makes_gate (claims_of b ks) (claims_of c ks) g node h (ap (λ (n : Nodes A). claims_of n ks) e) is)

  pub made_value : (b c : Nodes A) (ks : List ℕ) (s : Claims A) (g : Gate A) (node : ℕ) (p q : List A) → claims_of b ks ≡ s → c ≡ with_gate b g → node ≡ 1 + node_count b → AreInputs s p q → value o (claims_of c ks) p q node ≡ gate_value o (node_values o s.nodes p q) g
  made_value b c ks s g node p q view e is a =
      subst (λ (u : Claims A). AreInputs u p q → value o (claims_of c ks) p q node ≡ gate_value o (node_values o u.nodes p q) g) view
      (λ a'. value_gate (claims_of b ks) (claims_of c ks) g node p q (ap (λ (n : Nodes A). claims_of n ks) e) is a') a

  -- ---- one assert more
  keeps_same : (s : Claims A) (ks : List ℕ) → Keeps o 0 s (record { nodes = s.nodes; asserts = ks })
  keeps_same s ks = record { publics = refl; privates = refl; more = omega arith; few = omega arith; same = λ p q a k l. refl }

  pub adds_zero : (s t : Claims A) (x : ℕ) → t ≡ record { nodes = s.nodes; asserts = s.asserts ++ x ∷ [] } → Adds o 0 1 s t (λ p q. value o s p q x ≡ o.zero)
  adds_zero s t x e =
      subst (λ (u : Claims A). Adds o 0 1 s u (λ p q. value o s p q x ≡ o.zero)) (sym e) (record {
        keeps = keeps_same s (s.asserts ++ x ∷ []);
        count = omega (arith, length-append s.asserts (x ∷ []));
        claims = λ p q a. (
          zero_push_forward (node_values o s.nodes p q) s.asserts x,
          λ h. zero_push_backward (node_values o s.nodes p q) s.asserts x h.0 h.1,
        );
      })

  pub added : (b : Nodes A) (ks js : List ℕ) (s : Claims A) (x : ℕ) → claims_of b ks ≡ s → js ≡ ks ++ x ∷ [] → Adds o 0 1 s (claims_of b js) (λ p q. value o s p q x ≡ o.zero)
  added b ks js s x view e = subst (λ (u : Claims A). Adds o 0 1 u (claims_of b js) (λ p q. value o u p q x ≡ o.zero)) view (adds_zero (claims_of b ks) (claims_of b js) x (ap (λ (l : List ℕ). claims_of b l) e))

  -- ---- inputs
  pub public_is : (s : Claims A) (i node : ℕ) (p q : List A) → node ≡ 1 + i → i < s.nodes.publics → AreInputs s p q → value o s p q node ≡ entry o p i
  public_is s i node p q e l a = ap (λ (k : ℕ). value o s p q k) e ∙ public-value o p q s.nodes i (fits s p q a) l

  pub private_is : (s : Claims A) (i node : ℕ) (p q : List A) → node ≡ 1 + s.nodes.publics + i → i < s.nodes.privates → AreInputs s p q → value o s p q node ≡ entry o q i
  private_is s i node p q e l a = ap (λ (k : ℕ). value o s p q k) e ∙ private-value o p q s.nodes i (fits s p q a) l

  -- ---- one after another
  pub keeps_then : (a b c : ℕ) (s t u : Claims A) → Keeps o a s t → Keeps o b t u → a + b ≤ c → Keeps o c s u
  keeps_then a b c s t u k l le = record {
    publics = l.publics ∙ k.publics;
    privates = l.privates ∙ k.privates;
    more = omega (arith, k.more, l.more);
    few = omega (arith, k.few, l.few, le);
    same = λ p q i j m. l.same p q (inputs_kept a s t p q k i) j (omega (arith, m, k.more)) ∙ k.same p q i j m;
  }

  pub makes_then : (a b c : ℕ) (s t u : Claims A) (x y : ℕ) → Makes o a s t x → Makes o b t u y → a + b ≤ c → Makes o c s u y
  makes_then a b c s t u x y m n le = record {
    keeps = keeps_then a b c s t u m.keeps n.keeps le;
    there = n.there;
    count = n.count ∙ m.count;
    holds = λ p q i.
        let j = inputs_kept a s t p q m.keeps i in
        (λ h. (m.holds p q i).0 ((n.holds p q j).0 h), λ h. (n.holds p q j).1 ((m.holds p q i).1 h));
  }

  -- ---- several nodes
  pub yields_then : (a b c : ℕ) (s t u : Claims A) (xs ys : List ℕ) → Yields o a s t xs → Yields o b t u ys → a + b ≤ c → Yields o c s u ys
  yields_then a b c s t u xs ys m n le = record {
    keeps = keeps_then a b c s t u m.keeps n.keeps le;
    there = n.there;
    count = n.count ∙ m.count;
    holds = λ p q i.
        let j = inputs_kept a s t p q m.keeps i in
        (λ h. (m.holds p q i).0 ((n.holds p q j).0 h), λ h. (n.holds p q j).1 ((m.holds p q i).1 h));
  }

  pub yields_one : (a : ℕ) (s t : Claims A) (x : ℕ) (xs : List ℕ) → Makes o a s t x → AreNodes (node_count t.nodes) xs → Yields o a s t xs
  yields_one a s t x xs m h = record { keeps = m.keeps; there = h; count = m.count; holds = m.holds }

  pub yields_none : (s : Claims A) (xs : List ℕ) → AreNodes (node_count s.nodes) xs → Yields o 0 s s xs
  yields_none s xs h = record {
    keeps = record { publics = refl; privates = refl; more = omega arith; few = omega arith; same = λ p q i j m. refl };
    there = h;
    count = refl;
    holds = λ p q i. (λ h. h, λ h. h);
  }

  -- what is claimed behind new nodes
  pub adds_behind : (a b c k : ℕ) (s t u : Claims A) (x : ℕ) (D E : List A → List A → Type 0) → Makes o a s t x → Adds o b k t u D → a + b ≤ c → ((p q : List A) → AreInputs s p q → D p q ↔ E p q) → Adds o c k s u E
  adds_behind a b c k s t u x D E m d le f = record {
    keeps = keeps_then a b c s t u m.keeps d.keeps le;
    count = omega (arith, d.count, m.count);
    claims = λ p q i.
        let j = inputs_kept a s t p q m.keeps i in (
          λ h. let r = (d.claims p q j).0 h in ((m.holds p q i).0 r.0, (f p q i).0 r.1),
          λ h. (d.claims p q j).1 ((m.holds p q i).1 h.0, (f p q i).1 h.1),
        );
  }

  -- two claims
  pub adds_then : (a b c j k l : ℕ) (s t u : Claims A) (D E F : List A → List A → Type 0) → Adds o a j s t D → Adds o b k t u E → a + b ≤ c → j + k ≡ l → ((p q : List A) → AreInputs s p q → (D p q × E p q) ↔ F p q) → Adds o c l s u F
  adds_then a b c j k l s t u D E F d e le few f = record {
    keeps = keeps_then a b c s t u d.keeps e.keeps le;
    count = omega (arith, d.count, e.count, few);
    claims = λ p q i.
        let i' = inputs_kept a s t p q d.keeps i in (
          λ h. let r = (e.claims p q i').0 h in let r' = (d.claims p q i).0 r.0 in (r'.0, (f p q i).0 (r'.1, r.1)),
          λ h. let w = (f p q i).1 h.1 in (e.claims p q i').1 ((d.claims p q i).1 (h.0, w.0), w.1),
        );
  }

  -- nothing is claimed
  pub adds_nothing : (a : ℕ) (s : Claims A) (E : List A → List A → Type 0) → ((p q : List A) → AreInputs s p q → E p q) → Adds o a 0 s s E
  adds_nothing a s E f = record {
    keeps = record { publics = refl; privates = refl; more = omega arith; few = omega arith; same = λ p q i j m. refl };
    count = omega arith;
    claims = λ p q i. (λ h. (h, f p q i), λ h. h.0);
  }

  -- the values of nodes of s
  pub values_kept : (m : ℕ) (s t : Claims A) (p q : List A) (ks : List ℕ) → Keeps o m s t → AreInputs s p q → AreNodes (node_count s.nodes) ks → values o t p q ks ≡ values o s p q ks
  values_kept m s t p q [] k a h = refl
  values_kept m s t p q (j ∷ ks) k a h =
      ap (λ (x : A). x ∷ values o t p q ks) (k.same p q a j h.0.1) ∙ ap (λ (xs : List A). value o s p q j ∷ xs) (values_kept m s t p q ks k a h.1)

  -- ---- the outputs of a circuit that are the asserts
  all_forward : (vs : List A) (ks : List ℕ) → AreAllZero o (map (entry o vs) ks) → AreZero o vs ks
  all_forward vs [] h = tt
  all_forward vs (k ∷ ks) h = (h.0, all_forward vs ks h.1)

  all_backward : (vs : List A) (ks : List ℕ) → AreZero o vs ks → AreAllZero o (map (entry o vs) ks)
  all_backward vs [] h = tt
  all_backward vs (k ∷ ks) h = (h.0, all_backward vs ks h.1)

  pub finished : (b : Nodes A) (ks js : List ℕ) (s : Claims A) (outs p q : List A) → claims_of b ks ≡ s → js ≡ ks → outs ≡ map (entry o (node_values o b p q)) js → AreAllZero o outs ↔ Holds o s p q
  finished b ks js s outs p q view same e =
      let is : outs ≡ map (entry o (node_values o b p q)) ks = e ∙ ap (λ (l : List ℕ). map (entry o (node_values o b p q)) l) same in
      subst (λ (u : Claims A). AreAllZero o outs ↔ Holds o u p q) view (
        λ h. all_forward (node_values o b p q) ks (subst (AreAllZero o) is h),
        λ h. subst (AreAllZero o) (sym is) (all_backward (node_values o b p q) ks h),
      )
