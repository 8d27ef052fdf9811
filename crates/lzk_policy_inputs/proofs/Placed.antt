-- The inputs of a record under a root, laid out of those of the parts.
use Rattle.std.proofs.Common.{◌≡◌, ℕ, ◌+◌, ◌/◌, ◌^◌, ◌<◌, List, [], ◌∷◌, ◌++◌, length, take, drop, map, refl, sym, ap, subst, ◌∙◌, arith, append_assoc, length-append}
use Rattle.std.proofs.lemmas.List.{length-map}
use Rattle.lzk_goldilocks.specs.Elements.{of_number}
use Rattle.lzk_goldilocks.specs.declared.element.Gold.{Gold}
use Rattle.lzk_sha_circuit.specs.Compression.{IsState}
use Rattle.lzk_sha_circuit.specs.Digest.{digest_words}
use Rattle.lzk_sha_path.specs.Climbs as climbs
use Rattle.lzk_sha_path.specs.Climbs.{AreClimbing, IsClimb}
use Rattle.lzk_sha_path.specs.Roots.{AreNodes, parent_of, root_of}
use Rattle.lzk_sha_path.proofs.Climbing.{parent_state}
use Rattle.lzk_policy.specs.Policies.{Contents}
use Rattle.lzk_policy_circuit.specs.Layout as layout
use Rattle.lzk_policy_circuit.specs.Meaning.{IsShown, public_count}
use Rattle.lzk_policy_circuit.specs.Met.{Satisfy}
use Rattle.lzk_policy_inputs.specs.declared.value.Value.{Value}
use Rattle.lzk_policy_inputs.specs.Chosen.{public_of}
use Rattle.lzk_policy_inputs.specs.Placed.{root_words, shown_numbers}
use Rattle.lzk_policy_inputs.specs.Rooted.{IsShownUnder, SatisfyUnder, private_count}
use Rattle.lzk_policy_inputs.proofs.Under.{length-digest, words_first, words_behind, shown_under, first_part, words_part, last_part}

-- a root is a node
root_state : (node : List ℕ) (index : ℕ) (siblings : List (List ℕ)) → IsState node → IsState (root_of node index siblings)
root_state node index [] h = h
root_state node index (sibling ∷ siblings) h = root_state (parent_of index node sibling) (index / 2) siblings (parent_state index node sibling)

module _ (p : Contents) (m : List ℕ) (vs : List Value) (index : ℕ) (siblings : List (List ℕ)) (is_leaf : IsState (digest_words m)) where
  abbrev leaf : List Gold
  leaf = map of_number (digest_words m)

  abbrev root : List Gold
  root = root_words m index siblings

  abbrev values : List Gold
  values = shown_numbers p m vs

  eight : length root ≡ 8
  eight =
      let s = root_state (digest_words m) index siblings is_leaf in
      length-map (root_of (digest_words m) index siblings) of_number ∙ s.eight

  climb : AreNodes siblings → index < 2 ^ length siblings → IsClimb (length siblings) leaf root
  climb nodes within = record {
    node = digest_words m;
    index = index;
    siblings = siblings;
    is_node = is_leaf;
    are_nodes = nodes;
    count = refl;
    within = within;
    leaf_is = refl;
    root_is = refl;
  }

  -- the public inputs of the parts and of the whole
  module _ (lower upper public : List Gold) (el : lower ≡ public_of p m vs) (eu : upper ≡ leaf ++ root) (e : public ≡ drop 8 upper ++ drop 8 lower) where
    pub public_is : public ≡ root ++ values
    public_is =
        let a : drop 8 upper ≡ root = ap (drop 8) eu ∙ words_behind leaf root (length-digest m) in
        let b : drop 8 lower ≡ values = ap (drop 8) el ∙ words_behind leaf values (length-digest m) in
        e ∙ (λ i. a i ++ b i)

    root_is : take 8 public ≡ root
    root_is = ap (take 8) public_is ∙ words_first root values eight

    values_is : drop 8 public ≡ values
    values_is = ap (drop 8) public_is ∙ words_behind root values eight

    pub publics_are : length lower ≡ public_count p → length public ≡ public_count p
    publics_are h =
        let a : length lower ≡ length (leaf ++ values) = ap length el in
        let b : length public ≡ length (root ++ values) = ap length public_is in
        b ∙ length-append root values ∙ ap (λ k. k + length values) (eight ∙ sym (length-digest m)) ∙ sym (length-append leaf values) ∙ sym a ∙ h

    pub is_shown : IsShown p m lower → AreNodes siblings → index < 2 ^ length siblings → IsShownUnder p (length siblings) m (take 8 public) (drop 8 public)
    is_shown h nodes within =
        let whole = shown_under p (length siblings) root values leaf (length-digest m) m (subst (IsShown p m) el h) (climb nodes within) in
        subst (λ (T : Type 0). T) (λ i. IsShownUnder p (length siblings) m (sym root_is i) (sym values_is i)) whole

    -- and the private ones
    module _ (first path private : List Gold) (long : length first ≡ layout.private_count p) (ep : private ≡ (first ++ take 8 upper) ++ path) where
      private_is : private ≡ first ++ (leaf ++ path)
      private_is =
          let a : take 8 upper ≡ leaf = ap (take 8) eu ∙ words_first leaf root (length-digest m) in
          ep ∙ ap (λ (l : List Gold). (first ++ l) ++ path) a ∙ append_assoc first leaf path

      pub privates_are : length path ≡ climbs.private_count (length siblings) → length private ≡ private_count p (length siblings)
      privates_are h =
          let a : length private ≡ length first + (length leaf + length path) =
          ap length private_is ∙ length-append first (leaf ++ path) ∙ ap (λ k. length first + k) (length-append leaf path) in
          let b = length-digest m in
          omega (arith, a, b, long, h)

      pub satisfy : Satisfy p lower first → AreClimbing (length siblings) leaf root path → SatisfyUnder p (length siblings) (take 8 public) (drop 8 public) private
      satisfy s c =
          let n = layout.private_count p in
          let b = length-digest m in
          let f = first_part n first leaf path long b in
          let w = words_part n first leaf path long b in
          let l = last_part n first leaf path long b in
          let s1 : Satisfy p (leaf ++ values) first = subst (λ (l : List Gold). Satisfy p l first) el s in
          let whole : SatisfyUnder p (length siblings) root values (first ++ (leaf ++ path)) =
          record {
            shown = subst (λ (T : Type 0). T) (λ i. Satisfy p (sym w i ++ values) (sym f i)) s1;
            leaf = subst (λ (T : Type 0). T) (λ i. AreClimbing (length siblings) (sym w i) root (sym l i)) c;
          } in
          subst (λ (T : Type 0). T) (λ i. SatisfyUnder p (length siblings) (sym root_is i) (sym values_is i) (sym private_is i)) whole
