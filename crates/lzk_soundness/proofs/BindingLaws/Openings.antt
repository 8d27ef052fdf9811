-- Two openings under one root that differ at a leaf have a collision above it.
use Rattle.lzk_profile.specs.Profile.{opened_count}
use Rattle.std.specs.Prelude.{◌≡◌, ◌≢◌, ◌⊎◌, ℕ, ◌+◌, ◌-◌, ◌*◌, ◌/◌, ◌%◌, ◌<◌, ◌≤◌, ◌&&◌, nat_eq, cond, Bool, true, false, List, [], ◌∷◌, ◌++◌, length, map, take, drop, slice_index, slice_index_or}
use Rattle.std.proofs.Common.{zero, suc, inl, inr, refl, sym, ap, ◌∙◌, arith, subst, take_at, drop_at}
use Rattle.std.proofs.lemmas.Bool.{false≢true, eqb-true, eq-eqb}
use Rattle.std.proofs.lemmas.List.FromFn.{get_or-map-range_with_len}
use native.Mathlib.Decide.{dec_lt}
use Rattle.sha2.specs.Sha256.{sha256}
use Rattle.sha2.proofs.Facts256.{length-sha256}
use Rattle.lzk_field.specs.Coding.{Coding}
use Rattle.lzk_field.specs.Ring.{Ops, NumberLaws}
use Rattle.lzk_merkle.specs.Leaf.{leaf_of}
use Rattle.lzk_merkle.specs.Nodes.{AreOpened, needed, node, is_marked, is_path, path_nodes, place_of, root_of}
use Rattle.lzk_merkle.proofs.Marks.{is_marked-half, leaf-opened, opened-marked}
use Rattle.lzk_merkle.proofs.Places.{child-kinds, path-found, path-off}
use Rattle.lzk_merkle.proofs.Values.{place_of-at, node-path, node-leaf, node-inner}
use Rattle.lzk_field.specs.Bytes.{bytes_of, number_from, elements_bytes}
use Rattle.lzk_field.proofs.ByteForms.{length-bytes_of, number_from-bytes_of}
use Rattle.lzk_circuit.specs.Valid.{Wiring, IsValid}
use Rattle.lzk_layout.specs.Sizes.{params_of}
use Rattle.lzk_layout.proofs.SizeLaws.{params_bounded}
use Rattle.lzk_layout.specs.declared.params.Params.{Params}
use Rattle.lzk_layout.specs.declared.proof.Proof.{Proof}
use Rattle.lzk_accept.specs.Checks.{column}
use Rattle.lzk_verify.specs.Checks.{leaf_at, leaves_of}
use Rattle.lzk_verify.specs.Verdict.{OpensFile, given}
use Rattle.lzk_soundness.proofs.VerdictLaws.Accepted.{are_drawn}
use Rattle.lzk_soundness.specs.Drawn.Picks.{are_same}
use Rattle.lzk_soundness.specs.Binding.Openings.{Opening, node_of, string_of, clash, IsOpeningOf, IsCollision, LeavesBind, opening_of, column_string, OpensColumns, column_clash, ColumnsBind, FilesBind, ColumnsTellApart}

same_from : (xs ys : List ℕ) → are_same xs ys ≡ true → xs ≡ ys
same_from [] [] is = refl
same_from [] (y ∷ ys) is = absurd (false≢true is)
same_from (x ∷ xs) [] is = absurd (false≢true is)
same_from (x ∷ xs) (y ∷ ys) is = go (nat_eq y x) refl is (same_from xs ys)
  where
    go : (b : Bool) → nat_eq y x ≡ b → (b && are_same xs ys) ≡ true → (are_same xs ys ≡ true → xs ≡ ys) → x ∷ xs ≡ y ∷ ys
    go true head tail rest = ap (λ z. z ∷ xs) (sym (eqb-true y x head)) ∙ ap (λ zs. y ∷ zs) (rest tail)
    go false head tail rest = absurd (false≢true tail)

same_to : (xs : List ℕ) → are_same xs xs ≡ true
same_to [] = refl
same_to (x ∷ xs) = ap (λ b. b && are_same xs xs) (eq-eqb x x refl) ∙ same_to xs

-- ---- digests of 32 bytes

module _ (n : ℕ) (a : Opening) (is : IsOpeningOf n a) where
  leaf_is : (k : ℕ) → k < length a.opened → node_of n a (n + slice_index a.opened k) ≡ slice_index_or a.leaves k []
  leaf_is k h =
      let below = is.opened in
      let some : 1 ≤ n = omega (arith, below.below k h) in
      let z : n + slice_index a.opened k - n ≡ slice_index a.opened k = omega arith in
      node-leaf n a.opened a.leaves a.path (n + slice_index a.opened k) some (opened-marked n a.opened k some h) (omega arith)
      ∙ ap (λ (j : ℕ). slice_index_or a.leaves (place_of j a.opened) []) z
      ∙ ap (λ (j : ℕ). slice_index_or a.leaves j []) (place_of-at a.opened k (slice_index a.opened k) below.ascending h refl)

  marked_long : (c : ℕ) → 1 ≤ c → 1 ≤ n → is_marked n a.opened c ≡ true → length (node_of n a c) ≡ 32
  marked_long c pos some on = elim (dec_lt c n) [
    | yes l ↦ ap length (node-inner n a.opened a.leaves a.path c pos l on) ∙ length-sha256 _
    | no l ↦
        let at = leaf-opened n a.opened c (λ k h. (let b = is.opened in b.below k h)) (omega (arith, l)) on in
        subst (λ (c : ℕ). length (node_of n a c) ≡ 32) at.2 (ap length (leaf_is at.0 at.1) ∙ is.leaves at.0 at.1)
  ]

  path_long : (c : ℕ) → c < 2 * n → 1 ≤ n → is_path n a.opened c ≡ true → length (node_of n a c) ≡ 32
  path_long c h some on =
      let off = path-off n a.opened c on in
      let found = path-found n a.opened c h on in
      ap length (node-path n a.opened a.leaves a.path c some (omega (arith, off.0)) off.1) ∙ is.path (place_of c (path_nodes n a.opened)) found.0

  left_long : (i : ℕ) → 1 ≤ i → i < n → is_marked n a.opened i ≡ true → length (node_of n a (2 * i)) ≡ 32
  left_long i pos l on = by ((child-kinds n a.opened i pos l on).0)
    where
      by : (is_marked n a.opened (2 * i) ≡ true) ⊎ (is_path n a.opened (2 * i) ≡ true) → length (node_of n a (2 * i)) ≡ 32
      by (inl m) = marked_long (2 * i) (omega (arith, pos)) (omega (arith, l)) m
      by (inr m) = path_long (2 * i) (omega (arith, l)) (omega (arith, l)) m

-- ---- up to the root

module _ (n : ℕ) (a b : Opening) (first : IsOpeningOf n a) (second : IsOpeningOf n b) (root : node_of n a 1 ≡ node_of n b 1) where
  -- the strings of the parents of nodes that differ
  strings_differ : (i : ℕ) → 2 ≤ i → i < 2 * n → is_marked n a.opened (i / 2) ≡ true → is_marked n b.opened (i / 2) ≡ true → node_of n a i ≢ node_of n b i → string_of n a (i / 2) ≢ string_of n b (i / 2)
  strings_differ i two l on_a on_b differ same =
      let p = i / 2 in
      let pos : 1 ≤ p = omega (arith, two) in
      let low : p < n = omega (arith, l) in
      let la = left_long n a first p pos low on_a in
      let lb = left_long n b second p pos low on_b in
      let left : node_of n a (2 * p) ≡ node_of n b (2 * p) =
      sym (take_at (node_of n a (2 * p)) (node_of n a (2 * p + 1)) 32 la) ∙ ap (take 32) same ∙ take_at (node_of n b (2 * p)) (node_of n b (2 * p + 1)) 32 lb in
      let right : node_of n a (2 * p + 1) ≡ node_of n b (2 * p + 1) =
      sym (drop_at (node_of n a (2 * p)) (node_of n a (2 * p + 1)) 32 la) ∙ ap (drop 32) same ∙ drop_at (node_of n b (2 * p)) (node_of n b (2 * p + 1)) 32 lb in
      elim (dec_lt (2 * p) i) [
        | yes odd ↦ let z : 2 * p + 1 ≡ i = omega (arith, odd) in differ (subst (λ (j : ℕ). node_of n a j ≡ node_of n b j) z right)
        | no even ↦ let z : 2 * p ≡ i = omega (arith, even) in differ (subst (λ (j : ℕ). node_of n a j ≡ node_of n b j) z left)
      ]

  -- where their digests are the same they are a collision
  found : (i : ℕ) → 1 ≤ i → i < n → is_marked n a.opened i ≡ true → is_marked n b.opened i ≡ true → node_of n a i ≡ node_of n b i → string_of n a i ≢ string_of n b i → IsCollision (string_of n a i, string_of n b i)
  found i pos l on_a on_b same differ = record {
    differ = differ;
    same = sym (node-inner n a.opened a.leaves a.path i pos l on_a) ∙ same ∙ node-inner n b.opened b.leaves b.path i pos l on_b;
  }

  up : (k i : ℕ) → 2 ≤ i → i < 2 * n → i / 2 ≤ k + 1 → is_marked n a.opened i ≡ true → is_marked n b.opened i ≡ true → node_of n a i ≢ node_of n b i → IsCollision (clash n k a b i)
  up zero i two l few on_a on_b differ =
      let p = i / 2 in
      let one : 1 ≡ p = omega (arith, few, two) in
      let ma = is_marked-half n a.opened i two on_a in
      let mb = is_marked-half n b.opened i two on_b in
      found p (omega (arith, one)) (omega (arith, l)) ma mb (subst (λ (j : ℕ). node_of n a j ≡ node_of n b j) one root) (strings_differ i two l ma mb differ)
  up (suc k) i two l few on_a on_b differ =
      let p = i / 2 in
      let ma = is_marked-half n a.opened i two on_a in
      let mb = is_marked-half n b.opened i two on_b in
      let here = strings_differ i two l ma mb differ in
      go (are_same (node_of n a p) (node_of n b p)) refl
      (λ same. found p (omega (arith, two)) (omega (arith, l)) ma mb same here)
      (λ other. elim (dec_lt 1 p) [
        | yes more ↦ up k p (omega (arith, more)) (omega (arith, l)) (omega (arith, few)) ma mb other
        | no one ↦ let z : 1 ≡ p = omega (arith, one, two) in absurd (other (subst (λ (j : ℕ). node_of n a j ≡ node_of n b j) z root))
      ])
    where
      go : (s : Bool) → are_same (node_of n a (i / 2)) (node_of n b (i / 2)) ≡ s
          → (node_of n a (i / 2) ≡ node_of n b (i / 2) → IsCollision (string_of n a (i / 2), string_of n b (i / 2)))
          → (node_of n a (i / 2) ≢ node_of n b (i / 2) → IsCollision (clash n k a b (i / 2)))
          → IsCollision (cond s (string_of n a (i / 2), string_of n b (i / 2)) (clash n k a b (i / 2)))
      go true is same other = same (same_from (node_of n a (i / 2)) (node_of n b (i / 2)) is)
      go false is same other =
          other (λ equal. false≢true (sym is ∙ ap (are_same (node_of n a (i / 2))) (sym equal) ∙ same_to (node_of n a (i / 2))))

pub leaves_bind : LeavesBind
leaves_bind = λ n a b k l first second root ka lb place differ.
    (let oa = first.opened in
    let ob = second.opened in
    let below = oa.below k ka in
    let some : 1 ≤ n = omega (arith, below) in
    let i = n + slice_index a.opened k in
    let z : n + slice_index b.opened l ≡ i = ap (λ (j : ℕ). n + j) (sym place) in
    let on_b = subst (λ (j : ℕ). is_marked n b.opened j ≡ true) z (opened-marked n b.opened l some lb) in
    let leaf_b : node_of n b i ≡ slice_index_or b.leaves l [] = ap (node_of n b) (sym z) ∙ leaf_is n b second l lb in
    let nodes : node_of n a i ≢ node_of n b i = λ same. differ (sym (leaf_is n a first k ka) ∙ same ∙ leaf_b) in
    elim (dec_lt 1 i) [
      | yes two ↦ up n a b first second root n i (omega (arith, two)) (omega (arith, below)) (omega (arith, below)) (opened-marked n a.opened k some ka) on_b nodes
      | no one ↦ let y : 1 ≡ i = omega (arith, one, some) in absurd (nodes (subst (λ (j : ℕ). node_of n a j ≡ node_of n b j) y root))
    ])

-- ---- columns

module _ {A : Type 0} (o : Ops A) (e : Coding A) (p : Params) where
  leaf_there : (x : Proof A) (k : ℕ) → k < opened_count → slice_index_or (leaves_of o e p x) k [] ≡ leaf_at o e p x k
  leaf_there x k h = get_or-map-range_with_len (leaf_at o e p x) 0 opened_count k k [] h (omega arith)

  digest_is : (x : Proof A) (k : ℕ) → leaf_at o e p x k ≡ sha256 (column_string o e p x k)
  unfolding leaf_of
  digest_is x k = refl

  is_opening : (x : Proof A) (columns : List ℕ) → OpensColumns o e p x columns → IsOpeningOf p.mcol (opening_of o e p x columns)
  is_opening x columns opens = record {
    opened = opens.opened;
    leaves = λ k h. ap length (leaf_there x k (omega (arith, h, opens.count)) ∙ digest_is x k) ∙ length-sha256 (column_string o e p x k);
    path = opens.path;
  }

pub columns_bind : {A : Type 0} (o : Ops A) (e : Coding A) → ColumnsBind o e
columns_bind {A} o e p x y columns others k l first second root hk hl place differ =
    go (are_same (leaf_at o e p x k) (leaf_at o e p y l)) refl
  where
    go : (s : Bool) → are_same (leaf_at o e p x k) (leaf_at o e p y l) ≡ s
        → IsCollision (cond s (column_string o e p x k, column_string o e p y l) (clash p.mcol p.mcol (opening_of o e p x columns) (opening_of o e p y others) (p.mcol + slice_index columns k)))
    go true is = record {
      differ = differ;
      same = sym (digest_is o e p x k) ∙ same_from (leaf_at o e p x k) (leaf_at o e p y l) is ∙ digest_is o e p y l;
    }
    go false is =
        leaves_bind p.mcol (opening_of o e p x columns) (opening_of o e p y others) k l (is_opening o e p x columns first) (is_opening o e p y others second)
        (first.root ∙ root ∙ sym second.root) (omega (arith, hk, first.count)) (omega (arith, hl, second.count)) place
        (λ same. (let equal : leaf_at o e p x k ≡ leaf_at o e p y l = sym (leaf_there o e p x k hk) ∙ same ∙ leaf_there o e p y l hl in
        false≢true (sym is ∙ ap (are_same (leaf_at o e p x k)) (sym equal) ∙ same_to (leaf_at o e p x k))))

-- ---- files

opens_columns : {A : Type 0} (o : Ops A) (e : Coding A) (c : Wiring A) (session : List ℕ) (public : List A) (file : List ℕ) (x : Proof A) → IsValid o c → OpensFile o e c session public file x
    → OpensColumns o e (params_of c) x (given o e c session public x).columns
opens_columns o e c session public file x valid opens =
    let b = params_bounded o c valid in
    let drawn = are_drawn o e c session public b x in
    record {
      count = drawn.count;
      opened = record { ascending = drawn.ascending; below = drawn.below; some = omega (arith, drawn.count) };
      path = λ k h. opens.format.path k (omega (arith, h, opens.path_count));
      root = opens.root;
    }

pub files_bind : {A : Type 0} (o : Ops A) (e : Coding A) → FilesBind o e
files_bind o e = λ c session other public publics file another x y k l valid first second root hk hl place differ.
    columns_bind o e (params_of c) x y (given o e c session public x).columns (given o e c other publics y).columns k l
    (opens_columns o e c session public file x valid first) (opens_columns o e c other publics another y valid second) root hk hl place differ

-- ---- strings

module _ {A : Type 0} (o : Ops A) (e : Coding A) (numbers : NumberLaws o e.size e.number e.element e.bytes) where
  element_same : (x y : A) → bytes_of e.bytes (e.number x) ≡ bytes_of e.bytes (e.number y) → x ≡ y
  element_same x y same =
      let number : (z : A) → number_from (bytes_of e.bytes (e.number z)) ≡ e.number z = λ z. number_from-bytes_of e.bytes (e.number z) (omega (arith, numbers.below z, numbers.fits)) in
      sym (numbers.element_number x) ∙ ap e.element (sym (number x) ∙ ap number_from same ∙ number y) ∙ numbers.element_number y

  elements_same : (xs ys : List A) → length xs ≡ length ys → elements_bytes e.bytes (map e.number xs) ≡ elements_bytes e.bytes (map e.number ys) → xs ≡ ys
  elements_same [] [] long same = refl
  elements_same [] (y ∷ ys) long same = absurd (omega (arith, long))
  elements_same (x ∷ xs) [] long same = absurd (omega (arith, long))
  elements_same (x ∷ xs) (y ∷ ys) long same =
      let w = e.bytes in
      let front : A → List ℕ = λ z. bytes_of w (e.number z) in
      let back : List A → List ℕ = λ zs. elements_bytes w (map e.number zs) in
      let head : front x ≡ front y =
      sym (take_at (front x) (back xs) w (length-bytes_of w (e.number x))) ∙ ap (take w) same ∙ take_at (front y) (back ys) w (length-bytes_of w (e.number y)) in
      let rest : back xs ≡ back ys =
      sym (drop_at (front x) (back xs) w (length-bytes_of w (e.number x))) ∙ ap (drop w) same ∙ drop_at (front y) (back ys) w (length-bytes_of w (e.number y)) in
      ap (λ z. z ∷ xs) (element_same x y head) ∙ ap (λ zs. y ∷ zs) (elements_same xs ys (omega (arith, long)) rest)

  pub columns_tell : ColumnsTellApart o e
  columns_tell p x y k l nx ny long same =
      let nonce : Proof A → ℕ → List ℕ = λ z j. slice_index_or z.nonces j [] in
      let rest : Proof A → ℕ → List ℕ = λ z j. elements_bytes e.bytes (map e.number (column o p z j)) in
      let head : nonce x k ≡ nonce y l = sym (take_at (nonce x k) (rest x k) 32 nx) ∙ ap (take 32) same ∙ take_at (nonce y l) (rest y l) 32 ny in
      let tail : rest x k ≡ rest y l = sym (drop_at (nonce x k) (rest x k) 32 nx) ∙ ap (drop 32) same ∙ drop_at (nonce y l) (rest y l) 32 ny in
      (head, elements_same (column o p x k) (column o p y l) long tail)
