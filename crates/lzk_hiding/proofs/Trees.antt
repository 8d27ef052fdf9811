-- What passes by a programmed tape is completed to an accepted proof.
use Rattle.lzk_profile.specs.Profile.{opened_count, most_row, most_digests}
use Rattle.std.specs.Prelude.{◌≡◌, ℕ, ◌+◌, ◌*◌, ◌/◌, ◌^◌, ◌<◌, ◌≤◌, ◌==◌, nat_lt, Bool, true, false, cond, List, [], ◌∷◌, ◌++◌, length, map, take, drop, slice_index, slice_index_or}
use Rattle.std.specs.List.{range_with_len, flat_map}
use Rattle.std.proofs.Common.{zero, suc, inr, refl, sym, ap, ◌∙◌, arith}
use Rattle.std.proofs.lemmas.Bool.{leb-true, lt-ltb, ltb-true, eqb-true}
use Rattle.std.proofs.lemmas.List.{length-map, get_or-map, take_at}
use Rattle.std.proofs.lemmas.List.FromFn.{get_or-map-range_with_len}
use Rattle.sha2.proofs.Facts256.{length-sha256}
use Rattle.lzk_field.specs.Coding.{Coding}
use Rattle.lzk_field.specs.Ring.{Ops}
use Rattle.lzk_merkle.specs.Leaf.{leaf_of}
use Rattle.lzk_merkle.specs.Nodes.{AreOpened, place_of, path_nodes, tree_node, opened_leaves, root_of}
use Rattle.lzk_merkle.proofs.Law.{same_root}
use Rattle.lzk_merkle.proofs.PathLength.{needed_few}
use Rattle.lzk_merkle.proofs.TreeDigests.{path_node, length_tree_node}
use Rattle.lzk_merkle.proofs.Values.{place_of-at}
use Rattle.lzk_circuit.specs.Valid.{Wiring, IsValid}
use Rattle.lzk_layout.specs.declared.params.Params.{Params}
use Rattle.lzk_layout.specs.declared.proof.Proof.{Proof}
use Rattle.lzk_layout.specs.Proofs.{flat, fields_of, element_field, AreDigests, ProofBytes}
use Rattle.lzk_layout.specs.Sizes.{AreBounded, params_of}
use Rattle.lzk_accept.specs.Challenges.{Transcript}
use Rattle.lzk_accept.specs.Checks.{column}
use Rattle.lzk_soundness.specs.Sumchecks.Passing.{Passes}
use Rattle.lzk_layout.proofs.SizeLaws.{params_bounded}
use Rattle.lzk_ligero_tableau.specs.Tableau as prover
use Rattle.lzk_ligero_proof.specs.Proving.{IsProofOf, given}
use Rattle.lzk_ligero_proof.proofs.OpenedColumns.{block_is}
use Rattle.lzk_ligero_proof.proofs.Standing.{length_rows}
use Rattle.lzk_verify.specs.Checks.{leaf_at, HasRoot}
use Rattle.lzk_verify.specs.declared.verdict.Verdict.TheVariants.{Accepted}
use Rattle.lzk_verify.specs.Verdict.{IsJudged}
use Rattle.lzk_hiding.specs.Tree.{digest_of, all_digests, completed, ProgrammedAccepted, ProgrammedFiles, ProofsAreCompleted}

-- a list by its places
by_places : {Y : Type 0} (g : ℕ → Y) (js : List ℕ) (a : ℕ) (h : ℕ → Y) → ((k : ℕ) → k < length js → h (a + k) ≡ g (slice_index js k)) → map h (range_with_len a (length js)) ≡ map g js
by_places g [] a h same = refl
by_places g (j ∷ js) a h same =
    let z : a + 0 ≡ a = omega arith in
    ap (λ y. y ∷ map h (range_with_len (a + 1) (length js))) (ap h (sym z) ∙ same 0 (omega arith))
    ∙ ap (λ ys. g j ∷ ys) (by_places g js (a + 1) h (λ k b. let y : (a + 1) + k ≡ a + suc k = omega arith in ap h y ∙ same (suc k) (omega (arith, b))))

module _ {A : Type 0} (o : Ops A) (e : Coding A) (c : Wiring A) (public : List A) (t : Transcript A) (view : Proof A) (nonces : List (List ℕ)) (others : ℕ → List ℕ)
    (are : AreOpened (params_of c).mcol t.columns) (many : length t.columns ≡ opened_count) (passes : Passes o e c public t.script t.challenges t.columns view) where
  abbrev p : Params
  p = params_of c

  abbrev js : List ℕ
  js = t.columns

  abbrev all : List (List ℕ)
  all = all_digests o e c js view nonces others

  abbrev whole : Proof A
  whole = completed o e c js view nonces others

  leaf_is : (k : ℕ) → k < opened_count → leaf_at o e p whole k ≡ slice_index_or all (slice_index js k) []
  leaf_is k h =
      let j = slice_index js k in
      let inside : k < length js = omega (arith, h, many) in
      let leaf : ℕ → List ℕ = λ i. leaf_of e.bytes e.number (slice_index_or nonces i []) (column o p view i) in
      let at : place_of j js ≡ k = place_of-at js k j are.ascending inside refl in
      sym (get_or-map-range_with_len (digest_of o e c js view nonces others) 0 p.mcol j j [] (are.below k inside) (omega arith)
      ∙ ap (λ i. cond (nat_lt i (length js)) (leaf i) (others j)) at
      ∙ ap (λ b. cond b (leaf k) (others j)) (lt-ltb k (length js) inside))

  root_is : HasRoot o e p whole js
  root_is =
      let h : ℕ → List ℕ = leaf_at o e p whole in
      let same : map h (range_with_len 0 opened_count) ≡ opened_leaves all js =
      ap (λ n. map h (range_with_len 0 n)) (sym many)
      ∙ by_places (λ j. slice_index_or all j []) js 0 h (λ k q. let z : 0 + k ≡ k = omega arith in ap h z ∙ leaf_is k (omega (arith, q, many))) in
      ap (λ ls. root_of p.mcol js ls (map (tree_node p.mcol all) (path_nodes p.mcol js))) same ∙ same_root p.mcol js all are

  judged : IsJudged o e c p public whole t Accepted
  unfolding IsJudged
  judged = inr (refl, inr (length-map (path_nodes p.mcol js) (tree_node p.mcol all), inr (root_is, inr (passes.low_degree, inr (passes.linear_sum, inr (passes.linear, inr (passes.quadratic, refl)))))))

pub programmed_accepted : {A : Type 0} (o : Ops A) (e : Coding A) → ProgrammedAccepted o e
programmed_accepted o e c public t view nonces others valid are many passes = judged o e c public t view nonces others are many passes

-- ---- its file

module _ {A : Type 0} (o : Ops A) (e : Coding A) (c : Wiring A) (public : List A) (t : Transcript A) (view : Proof A) (nonces : List (List ℕ)) (others : ℕ → List ℕ) (b : AreBounded (params_of c))
    (are : AreOpened (params_of c).mcol t.columns) (many : length t.columns ≡ opened_count) (passes : Passes o e c public t.script t.challenges t.columns view)
    (count : length nonces ≡ opened_count) (nonces_are : AreDigests nonces) (others_are : (j : ℕ) → j < (params_of c).mcol → length (others j) ≡ 32) where
  abbrev P : Params
  P = params_of c

  abbrev J : List ℕ
  J = t.columns

  abbrev D : List (List ℕ)
  D = all_digests o e c J view nonces others

  length_leaf : (j : ℕ) → j < P.mcol → length (slice_index_or D j []) ≡ 32
  unfolding leaf_of
  length_leaf j h =
      ap length (get_or-map-range_with_len (digest_of o e c J view nonces others) 0 P.mcol j j [] h (omega arith)) ∙ go (nat_lt (place_of j J) (length J))
    where
      go : (s : Bool) → length (cond s (leaf_of e.bytes e.number (slice_index_or nonces (place_of j J) []) (column o P view (place_of j J))) (others j)) ≡ 32
      go true = length-sha256 _
      go false = others_are j h

  length_digest : (i : ℕ) → 1 ≤ i → i < 2 * P.mcol → length (tree_node P.mcol D i) ≡ 32
  length_digest i low high = length_tree_node P.mcol D i length_leaf low high

  few : length (map (tree_node P.mcol D) (path_nodes P.mcol J)) ≤ most_digests
  few =
      let levels : ℕ = most_digests / opened_count in
      let power : 4 * (opened_count + most_row) ≤ 2 ^ levels = leb-true (4 * (opened_count + most_row)) (2 ^ levels) refl in
      let most : length J * levels ≡ most_digests = ap (λ (n : ℕ). n * levels) many in
      omega (arith, length-map (path_nodes P.mcol J) (tree_node P.mcol D), most, needed_few P.mcol levels J (omega (arith, power, b.mcol, b.block, b.wr)) are.below)

  path_is : AreDigests (map (tree_node P.mcol D) (path_nodes P.mcol J))
  path_is k h =
      let nodes = path_nodes P.mcol J in
      let inside : k < length nodes = omega (arith, h, length-map nodes (tree_node P.mcol D)) in
      let node = path_node P.mcol J k inside in
      ap length (get_or-map (tree_node P.mcol D) nodes k 0 [] inside) ∙ length_digest (slice_index nodes k) (omega (arith, node.0)) node.1

  abbrev made : Proof A
  made = completed o e c J view nonces others

  abbrev file : List ℕ
  file = flat (fields_of (element_field e.bytes e.number) P.nrow made)

  has_file : ProofBytes e.bytes e.number P made file
  has_file = record {
    lengths = record {
      messages = passes.messages;
      ldt = passes.ldt;
      dot = passes.dot;
      quad_head = passes.quad_head;
      quad_tail = passes.quad_tail;
      nonces = count;
      columns = passes.opened ∙ ap (λ (n : ℕ). n * P.nrow) many;
    };
    few = few;
    id = length-sha256 _;
    root = length_digest 1 (omega arith) (omega (arith, b.mcol, b.block));
    nonces = nonces_are;
    path = path_is;
    are = refl;
  }

pub programmed_files : {A : Type 0} (o : Ops A) (e : Coding A) → ProgrammedFiles o e
programmed_files o e c public t view nonces others valid are many passes count nonces_are others_are =
    let b = params_bounded o c valid in
    let P = params_of c in (
      flat (fields_of (element_field e.bytes e.number) P.nrow (completed o e c t.columns view nonces others)),
      (
        has_file o e c public t view nonces others b are many passes count nonces_are others_are,
        programmed_accepted o e c public t view nonces others valid are many passes,
      ),
    )

-- ---- the tree of a prover

place_found : (i : ℕ) (xs : List ℕ) → place_of i xs < length xs → slice_index xs (place_of i xs) ≡ i
unfolding place_of
place_found i [] h = absurd (omega (arith, h))
place_found i (x ∷ xs) h = go (x == i) refl h (place_found i xs)
  where
    go : (b : Bool) → (x == i) ≡ b → cond b 0 (1 + place_of i xs) < suc (length xs) → (place_of i xs < length xs → slice_index xs (place_of i xs) ≡ i) → slice_index (x ∷ xs) (cond b 0 (1 + place_of i xs)) ≡ i
    go true is h rest = eqb-true x i is
    go false is h rest =
        let z : 1 + place_of i xs ≡ suc (place_of i xs) = omega arith in
        ap (slice_index (x ∷ xs)) z ∙ rest (omega (arith, h))

range_same : {Y : Type 0} (f g : ℕ → Y) (a n : ℕ) → ((j : ℕ) → a ≤ j → j < a + n → f j ≡ g j) → map f (range_with_len a n) ≡ map g (range_with_len a n)
range_same f g a zero same = refl
range_same f g a (suc n) same =
    ap (λ y. y ∷ map f (range_with_len (a + 1) n)) (same a (omega arith) (omega arith))
    ∙ ap (λ ys. g a ∷ ys) (range_same f g (a + 1) n (λ j l h. same j (omega (arith, l)) (omega (arith, h))))

module _ {A : Type 0} (o : Ops A) (e : Coding A) (c : Wiring A) (session : List ℕ) (public private : List A) (word : ℕ → ℕ) (proof : Proof A) (valid : IsValid o c) (is : IsProofOf o e c session public private word proof) where
  abbrev q : Params
  q = params_of c

  abbrev drawn : List ℕ
  drawn = (given o e c session public private word proof).columns

  abbrev leaf : ℕ → List ℕ
  leaf j = leaf_of e.bytes e.number (prover.nonce o e c private word j) (prover.column o e c private word j)

  abbrev rest : ℕ → List ℕ
  rest j = slice_index_or (prover.leaves o e c private word) j []

  length_column : (j : ℕ) → length (prover.column o e c private word j) ≡ q.nrow
  unfolding prover.column
  length_column j = length-map (prover.tableau o e c private word) _ ∙ length_rows o e c private word (params_bounded o c valid)

  digest_is : (j : ℕ) → j < q.mcol → digest_of o e c drawn proof proof.nonces rest j ≡ leaf j
  unfolding prover.leaves
  digest_is j h = go (nat_lt (place_of j drawn) (length drawn)) refl
    where
      go : (b : Bool) → nat_lt (place_of j drawn) (length drawn) ≡ b
          → cond b (leaf_of e.bytes e.number (slice_index_or proof.nonces (place_of j drawn) []) (column o q proof (place_of j drawn))) (rest j) ≡ leaf j
      go false not = get_or-map-range_with_len leaf 0 q.mcol j j [] h (omega arith)
      go true yes_in =
          let k = place_of j drawn in
          let inside : k < length drawn = ltb-true k (length drawn) yes_in in
          let at : slice_index drawn k ≡ j = place_found j drawn inside in
          ap (λ ns. leaf_of e.bytes e.number (slice_index_or ns k []) (column o q proof k)) is.opened.nonces
          ∙ ap (λ n. leaf_of e.bytes e.number n (column o q proof k)) (get_or-map (prover.nonce o e c private word) drawn k 0 [] inside)
          ∙ ap (λ xs. leaf_of e.bytes e.number (prover.nonce o e c private word (slice_index drawn k)) (take q.nrow (drop (k * q.nrow) xs))) is.opened.columns
          ∙ ap (leaf_of e.bytes e.number (prover.nonce o e c private word (slice_index drawn k))) (block_is (prover.column o e c private word) q.nrow drawn k length_column inside)
          ∙ ap leaf at

  digests_are : all_digests o e c drawn proof proof.nonces rest ≡ prover.leaves o e c private word
  unfolding prover.leaves
  digests_are = range_same (digest_of o e c drawn proof proof.nonces rest) leaf 0 q.mcol (λ j l h. digest_is j (omega (arith, h)))

  tree_is : (proof.root ≡ (completed o e c drawn proof proof.nonces rest).root) × (proof.path.digests ≡ (completed o e c drawn proof proof.nonces rest).path.digests)
  tree_is = (
    is.root ∙ ap (λ ds. tree_node q.mcol ds 1) (sym digests_are),
    is.opened.path ∙ ap (λ ds. map (tree_node q.mcol ds) (path_nodes q.mcol drawn)) (sym digests_are),
  )

pub proofs_completed : {A : Type 0} (o : Ops A) (e : Coding A) → ProofsAreCompleted o e
proofs_completed o e c session public private word proof valid is = tree_is o e c session public private word proof valid is
