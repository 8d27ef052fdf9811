-- The nodes of inputs that stand in a row.
use Rattle.std.specs.Prelude.{◌≡◌, ℕ, ◌+◌, ◌<◌, List, [], ◌∷◌, ◌++◌, length}
use Rattle.std.proofs.Common.{inl, inr, sym, ap, ◌∙◌, arith, subst}
use Rattle.std.proofs.lemmas.Bool.{cases_lt}
use Rattle.std.proofs.lemmas.List.{length-append, get_or_append_left, get_or-append-add}
use Rattle.lzk_field.specs.Ring.{Ops}
use Rattle.lzk_field.specs.Sums.{entry}
use Rattle.lzk_circuit_reduce.specs.Renumbering.{at}
use Rattle.lzk_level.specs.Nodes.{node_count, IsNode}
use Rattle.lzk_gadgets.specs.Claims.{Claims, AreInputs, AreNodes, value}
use Rattle.lzk_gadgets.proofs.ClaimLaws.{nodes_push}

module _ {A : Type 0} (o : Ops A) where
  -- the first k of them
  pub record Gathered (s : Claims A) (of : List A → List A → List A) (start k : ℕ) (nodes : List ℕ) : Type 0 where
    pub count : length nodes ≡ k
    pub there : AreNodes (node_count s.nodes) nodes
    pub each : (p q : List A) → AreInputs s p q → (j : ℕ) → j < k → value o s p q (at nodes j) ≡ entry o (of p q) (start + j)

  pub gathered-starts : (s : Claims A) (of : List A → List A → List A) (start : ℕ) (nodes : List ℕ) → nodes ≡ [] → Gathered s of start 0 nodes
  gathered-starts s of start nodes e = record {
    count = ap length e;
    there = subst (AreNodes (node_count s.nodes)) (sym e) tt;
    each = λ p q a j l. absurd (omega (arith, l));
  }

  pub gathered-adds : (s : Claims A) (of : List A → List A → List A) (start k : ℕ) (old new : List ℕ) (node : ℕ) → new ≡ old ++ node ∷ [] → IsNode (node_count s.nodes) node
      → ((p q : List A) → AreInputs s p q → value o s p q node ≡ entry o (of p q) (start + k)) → Gathered s of start k old → Gathered s of start (k + 1) new
  gathered-adds s of start k old new node is there v h = record {
    count = omega (arith, ap length is, length-append old (node ∷ []), h.count);
    there = subst (AreNodes (node_count s.nodes)) (sym is) (nodes_push (node_count s.nodes) old node h.there there);
    each = λ p q a j l. ap (λ ks. value o s p q (at ks j)) is ∙ elim (cases_lt j k) [
      | inl m ↦ ap (value o s p q) (get_or_append_left old (node ∷ []) 0 j (omega (arith, m, h.count))) ∙ h.each p q a j m
      | inr m ↦
          let last : j ≡ length old + 0 = omega (arith, l, m, h.count) in
          let same : k ≡ j = omega (arith, l, m) in
          ap (value o s p q) (ap (at (old ++ node ∷ [])) last ∙ get_or-append-add old (node ∷ []) 0 0) ∙ v p q a ∙ ap (λ i. entry o (of p q) (start + i)) same
    ];
  }
