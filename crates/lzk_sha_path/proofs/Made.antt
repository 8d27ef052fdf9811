-- The inputs that are made of a path.
use Rattle.std.proofs.Common.{◌≡◌, ℕ, ◌+◌, ◌/◌, ◌^◌, ◌<◌, List, [], ◌∷◌, ◌++◌, length, map, suc, refl, sym, ap, subst, ◌∙◌, arith, slice_index, append_assoc, length-append, mod-eq_of_lt}
use Rattle.std.specs.Int.{w32, to_be_bytes}
use Rattle.std.proofs.lemmas.List.{length-map, get_or-map}
use Rattle.sha2.specs.Sha256.{digest_bytes}
use Rattle.lzk_field.specs.Sums.{entry}
use Rattle.lzk_goldilocks.specs.Prime.{p}
use Rattle.lzk_goldilocks.specs.Elements.{ops, number, of_number}
use Rattle.lzk_goldilocks.specs.declared.element.Gold.{Gold}
use Rattle.lzk_sha_circuit.specs.Compression.{IsState}
use Rattle.lzk_sha_circuit.specs.Inputs.{compression_private}
use Rattle.lzk_sha_circuit.specs.Outputs.{AreCompressing}
use Rattle.lzk_sha_circuit.proofs.Lookups.{length-compression_private}
use Rattle.lzk_sha_path.specs.Climbs.{private_count, AreClimbing}
use Rattle.lzk_sha_path.specs.Levels.{level_places, IsLevel}
use Rattle.lzk_sha_path.specs.Roots.{block_of, node_state, parent_of, root_of, child}
use Rattle.lzk_sha_path.proofs.Climbing.{joined_climb, parent_state}
use Rattle.lzk_sha_path.proofs.LevelLaws.{Begins, is_level, given_of, given_begins, length-given}

-- one word more of a node
pub node_more : (h : List ℕ) (i : ℕ) (before old new : List ℕ) → old ≡ before ++ digest_bytes h i → new ≡ old ++ to_be_bytes w32 (slice_index h i) → new ≡ before ++ digest_bytes h (i + 1)
unfolding digest_bytes
node_more h i before old new eo en =
    let e : suc i ≡ i + 1 = omega arith in
    en ∙ ap (λ l. l ++ to_be_bytes w32 (slice_index h i)) eo ∙ append_assoc before (digest_bytes h i) (to_be_bytes w32 (slice_index h i))
    ∙ ap (λ k. before ++ digest_bytes h k) e

-- ---- a level
behind_given : (first : List Gold) (state block : List ℕ) → compression_private of_number first state block ≡ first ++ compression_private of_number [] state block
unfolding compression_private
behind_given first state block = refl

module _ (left right : List ℕ) (d : ℕ) (hl : IsState left) (hr : IsState right) (small : d < 2) (public private : List Gold)
    (made : private ≡ compression_private of_number (given_of left right d) node_state (block_of left right)) where
  pub level_counted : length private ≡ 6889
  level_counted =
      ap length made
      ∙ (let all = length-compression_private of_number (given_of left right d) node_state (block_of left right) ops.zero in
      let first = length-given left right d small in
      omega (arith, all, first))

  pub level_made : AreCompressing ops of_number level_places public private → IsLevel (map of_number (child d left right)) public private
  level_made zeros =
      let rest = compression_private of_number [] node_state (block_of left right) in
      let is = made ∙ behind_given (given_of left right d) node_state (block_of left right) in
      let begins = subst (λ (l : List Gold). Begins left right d l) (sym is) (given_begins left right d small rest) in
      is_level (map of_number (child d left right)) public private left right d hl hr small begins refl zeros

-- ---- words and their elements
numbers_back : (words : List ℕ) → ((k : ℕ) → k < length words → slice_index words k < p) → map number (map of_number words) ≡ words
numbers_back [] h = refl
numbers_back (w ∷ ws) h = λ i. mod-eq_of_lt (h 0 (omega arith)) i ∷ numbers_back ws (λ k lt. h (suc k) (omega (arith, lt))) i

pub state_back : (h : List ℕ) → IsState h → map number (map of_number h) ≡ h
state_back h is = numbers_back h (λ k lt. let small = is.words k lt in omega (arith, small))

pub small_elements : (h : List ℕ) → IsState h → (xs : List Gold) → xs ≡ map of_number h → (k : ℕ) → k < length xs → number (entry ops xs k) < 2 ^ 32
small_elements h is xs e k lt =
    let long : length xs ≡ length h = ap length e ∙ length-map h of_number in
    let inside : k < length h = omega (arith, long, lt) in
    let below = is.words k inside in
    let value : number (entry ops xs k) ≡ slice_index h k =
    ap (λ (l : List Gold). number (entry ops l k)) e ∙ ap number (get_or-map of_number h k 0 ops.zero inside) ∙ mod-eq_of_lt (omega (arith, below)) in
    subst (λ n. n < 2 ^ 32) (sym value) below

pub eight_elements : (h : List ℕ) → IsState h → (xs : List Gold) → xs ≡ map of_number h → length xs ≡ 8
eight_elements h is xs e = ap length e ∙ length-map h of_number ∙ is.eight

-- ---- a level and levels above it
module _ (node : List ℕ) (index : ℕ) (sibling next : List ℕ) (others rest : List (List ℕ)) (there : others ≡ next ∷ rest) (words q : List Gold) (word_is : words ≡ map of_number (parent_of index node sibling)) where
  above : List ℕ
  above = parent_of index node sibling

  pub root_made : (found : List ℕ) (root : List Gold) → found ≡ map number words → root ≡ map of_number (root_of found (index / 2) (next ∷ rest)) → root ≡ map of_number (root_of node index (sibling ∷ others))
  root_made found root ef er =
      let same : found ≡ parent_of index node sibling = ef ∙ ap (map number) word_is ∙ state_back (parent_of index node sibling) (parent_state index node sibling) in
      er ∙ ap (map of_number) (λ i. root_of (same i) (index / 2) (sym there i))

  pub climb_made : (found : List ℕ) (root r : List Gold) → found ≡ map number words → length q ≡ 6889 → IsLevel (map of_number node) words q
      → AreClimbing (length (next ∷ rest)) (map of_number found) root r → AreClimbing (length (sibling ∷ others)) (map of_number node) root (q ++ (words ++ r))
  climb_made found root r ef lq level climb =
      let is = parent_state index node sibling in
      let same : map of_number found ≡ words =
      ap (map of_number) (ef ∙ ap (map number) word_is ∙ state_back (parent_of index node sibling) is) ∙ sym word_is in
      let lw : length words ≡ 8 = eight_elements (parent_of index node sibling) is words word_is in
      let longer : suc (suc (length rest)) ≡ length (sibling ∷ others) = ap (λ (l : List (List ℕ)). suc (length l)) (sym there) in
      subst (λ (n : ℕ). AreClimbing n (map of_number node) root (q ++ (words ++ r))) longer
      (joined_climb (length rest) (map of_number node) words root q r lw lq level
      (subst (λ (l : List Gold). AreClimbing (suc (length rest)) l root r) same climb))

  pub count_made : (r : List Gold) → length q ≡ 6889 → length r ≡ private_count (length (next ∷ rest)) → length (q ++ (words ++ r)) ≡ private_count (length (sibling ∷ others))
  count_made r lq lr =
      let is = parent_state index node sibling in
      let lw : length words ≡ 8 = eight_elements (parent_of index node sibling) is words word_is in
      let longer : length others ≡ length (next ∷ rest) = ap length there in
      omega (arith, length-append q (words ++ r), length-append words r, lw, lq, lr, longer)
