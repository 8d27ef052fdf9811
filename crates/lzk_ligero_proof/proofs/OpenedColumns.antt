-- The opened columns with their nonces, and the path, lead to the root of all columns.
use Rattle.lzk_profile.specs.Profile.{opened_count}
use Rattle.std.specs.Prelude.{◌≡◌, ℕ, ◌+◌, ◌*◌, ◌<◌, ◌≤◌, List, [], ◌∷◌, ◌++◌, length, map, take, drop, slice_index, slice_index_or}
use Rattle.std.specs.List.{range_with_len, flat_map}
use Rattle.std.proofs.Common.{zero, suc, refl, sym, ap, ◌∙◌, arith}
use Rattle.std.proofs.lemmas.List.{length-map, get_or-map, take_at}
use Rattle.std.proofs.lemmas.List.FromFn.{get_or-map-range_with_len}
use Rattle.lzk_field.specs.Coding.{Coding}
use Rattle.lzk_field.specs.Ring.{Ops}
use Rattle.lzk_transcript.specs.Columns.{opened}
use Rattle.lzk_transcript.specs.Tape.{TapeState}
use Rattle.lzk_transcript.proofs.Opened.{length-opened, opened-ascends, opened-below}
use Rattle.lzk_merkle.specs.Leaf.{leaf_of}
use Rattle.lzk_merkle.specs.Nodes.{AreOpened, path_nodes, root_of, tree_node, opened_leaves}
use Rattle.lzk_merkle.proofs.Law.{same_root}
use Rattle.lzk_circuit.specs.Valid.{Wiring}
use Rattle.lzk_layout.specs.declared.params.Params.{Params}
use Rattle.lzk_layout.specs.declared.proof.Proof.{Proof}
use Rattle.lzk_layout.specs.Sizes.{AreBounded, params_of}
use Rattle.lzk_accept.specs.Challenges.{transcript}
use Rattle.lzk_ligero_tableau.specs.Tableau.{column, nonce, leaves, tableau}
use Rattle.lzk_verify.specs.Checks.{leaf_at, HasPathCount, HasRoot}
use Rattle.lzk_ligero_proof.proofs.Standing.{length_rows}

-- n more are dropped with the front list
pub drop_behind : {X : Type 0} (xs ys : List X) (n m : ℕ) → length xs ≡ n → drop (n + m) (xs ++ ys) ≡ drop m ys
drop_behind [] ys n m e = let z : n + m ≡ m = omega (arith, e) in ap (λ k. drop k ys) z
drop_behind (x ∷ xs) ys n m e =
    let z : n + m ≡ suc (length xs + m) = omega (arith, e) in ap (λ k. drop k (x ∷ (xs ++ ys))) z ∙ drop_behind xs ys (length xs) m refl

-- lists of one length, one after the other: the k-th
pub block_is : {X : Type 0} (f : ℕ → List X) (n : ℕ) (js : List ℕ) (k : ℕ) → ((j : ℕ) → length (f j) ≡ n) → k < length js → take n (drop (k * n) (flat_map f js)) ≡ f (slice_index js k)
block_is f n [] k same h = absurd (omega (arith, h))
block_is f n (j ∷ js) zero same h = let z : 0 * n ≡ 0 = omega arith in ap (λ m. take n (drop m (f j ++ flat_map f js))) z ∙ take_at (f j) (flat_map f js) n (same j)
block_is f n (j ∷ js) (suc k) same h =
    let z : suc k * n ≡ n + k * n = omega arith in
    ap (λ m. take n (drop m (f j ++ flat_map f js))) z ∙ ap (take n) (drop_behind (f j) (flat_map f js) n (k * n) (same j)) ∙ block_is f n js k same (omega (arith, h))

-- a list by its places
by_places : {Y : Type 0} (g : ℕ → Y) (js : List ℕ) (a : ℕ) (h : ℕ → Y) → ((k : ℕ) → k < length js → h (a + k) ≡ g (slice_index js k)) → map h (range_with_len a (length js)) ≡ map g js
by_places g [] a h same = refl
by_places g (j ∷ js) a h same =
    let z : a + 0 ≡ a = omega arith in
    ap (λ y. y ∷ map h (range_with_len (a + 1) (length js))) (ap h (sym z) ∙ same 0 (omega arith))
    ∙ ap (λ ys. g j ∷ ys) (by_places g js (a + 1) h (λ k b. let y : (a + 1) + k ≡ a + suc k = omega arith in ap h y ∙ same (suc k) (omega (arith, b))))

-- ---- the columns that are drawn for a proof

are_opened : (mcol : ℕ) (t : TapeState) → opened_count ≤ mcol → AreOpened mcol (opened mcol opened_count t)
are_opened mcol t enough = record {
  ascending = λ i j h k. opened-ascends mcol opened_count t i j h k;
  below = λ k h. opened-below mcol opened_count t k h;
  some = omega (arith, length-opened mcol opened_count t enough);
}

module _ {A : Type 0} (o : Ops A) (e : Coding A) (c : Wiring A) (b : AreBounded (params_of c)) (session id : List ℕ) (public : List A) (proof : Proof A) where
  abbrev drawn : List ℕ
  drawn = (transcript o e c session id public proof).columns

  enough : opened_count ≤ (params_of c).mcol
  enough = omega (arith, b.mcol, b.block)

  pub length_drawn : length drawn ≡ opened_count
  unfolding transcript
  length_drawn = length-opened (params_of c).mcol opened_count _ enough

  pub drawn_opened : AreOpened (params_of c).mcol drawn
  unfolding transcript
  drawn_opened = are_opened (params_of c).mcol _ enough

-- ---- and what is opened there

module _ {A : Type 0} (o : Ops A) (e : Coding A) (c : Wiring A) (private : List A) (word : ℕ → ℕ) (b : AreBounded (params_of c)) where
  abbrev p : Params
  p = params_of c

  abbrev columns_at : ℕ → List A
  columns_at = column o e c private word

  abbrev nonce_at : ℕ → List ℕ
  nonce_at = nonce o e c private word

  abbrev all : List (List ℕ)
  all = leaves o e c private word

  length_column : (j : ℕ) → length (columns_at j) ≡ p.nrow
  unfolding column
  length_column j = length-map (tableau o e c private word) _ ∙ length_rows o e c private word b

  module _ (js : List ℕ) (proof : Proof A) (many : length js ≡ opened_count) (are : AreOpened p.mcol js) where
    -- each opened column with its nonce has the leaf of its number
    leaf_is : (k : ℕ) → k < opened_count → leaf_of e.bytes e.number (slice_index_or (map nonce_at js) k []) (take p.nrow (drop (k * p.nrow) (flat_map columns_at js))) ≡ slice_index_or all (slice_index js k) []
    unfolding leaves
    leaf_is k h =
        let j = slice_index js k in
        let inside : k < length js = omega (arith, h, many) in
        let leaf : ℕ → List ℕ = λ i. leaf_of e.bytes e.number (nonce_at i) (columns_at i) in
        ap (λ n. leaf_of e.bytes e.number n (take p.nrow (drop (k * p.nrow) (flat_map columns_at js)))) (get_or-map nonce_at js k 0 [] inside)
        ∙ ap (leaf_of e.bytes e.number (nonce_at j)) (block_is columns_at p.nrow js k length_column inside)
        ∙ sym (get_or-map-range_with_len leaf 0 p.mcol j j [] (are.below k inside) (omega arith))

    module _ (nonces : proof.nonces ≡ map nonce_at js) (columns : proof.columns ≡ flat_map columns_at js) (path : proof.path.digests ≡ map (tree_node p.mcol all) (path_nodes p.mcol js)) where
      -- the path has as many digests as the columns need
      pub path_count : HasPathCount p proof js
      path_count = ap length path ∙ length-map (path_nodes p.mcol js) (tree_node p.mcol all)

      leaf_found : (k : ℕ) → k < opened_count → leaf_at o e p proof k ≡ slice_index_or all (slice_index js k) []
      leaf_found k h =
          ap (λ ns. leaf_of e.bytes e.number (slice_index_or ns k []) (take p.nrow (drop (k * p.nrow) proof.columns))) nonces
          ∙ ap (λ xs. leaf_of e.bytes e.number (slice_index_or (map nonce_at js) k []) (take p.nrow (drop (k * p.nrow) xs))) columns
          ∙ leaf_is k h

      -- they lead to the root of all columns
      pub root_found : proof.root ≡ tree_node p.mcol all 1 → HasRoot o e p proof js
      root_found is =
          let h : ℕ → List ℕ = leaf_at o e p proof in
          let same : map h (range_with_len 0 opened_count) ≡ opened_leaves all js =
          ap (λ n. map h (range_with_len 0 n)) (sym many)
          ∙ by_places (λ j. slice_index_or all j []) js 0 h (λ k q. let z : 0 + k ≡ k = omega arith in ap h z ∙ leaf_found k (omega (arith, q, many))) in
          ap (λ ls. root_of p.mcol js ls proof.path.digests) same
          ∙ ap (root_of p.mcol js (opened_leaves all js)) path
          ∙ same_root p.mcol js all are ∙ sym is
