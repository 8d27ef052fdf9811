-- Two ways to one root: they stay together from the root down, or collide.
use Rattle.std.proofs.Common.{◌≡◌, ℕ, ◌+◌, ◌-◌, ◌*◌, ◌/◌, ◌%◌, ◌^◌, ◌<◌, ◌≤◌, List, [], ◌∷◌, ◌++◌, append_assoc, length, map, take, zero, suc, refl, sym, ap, subst, ◌∙◌, arith, inl, inr, slice_index, mod-lt, ext_get_or, get_or-append-add}
use Rattle.std.specs.Prelude.{◌≢◌, ◌⊎◌, Bool, true, false, if◌then◌else◌, nat_lt, replicate}
use Rattle.std.specs.Int.{w64, to_be_bytes}
use Rattle.std.specs.List.{Contains, range_with_len}
use Rattle.std.proofs.Math.Arith.{mod-mul}
use Rattle.std.proofs.Math.Nat.{pow-suc, div-div-eq-div-mul, div-one, mul_comm, mul-div_cancel, mul-lt-mul_of_pos_right, mod-eq_of_lt}
use Rattle.std.proofs.Math.Seq.{take-append_seam}
use Rattle.std.proofs.lemmas.Bool.{cases_eq, cases_lt}
use Rattle.std.proofs.lemmas.List.{length-replicate}
use Rattle.std.proofs.lemmas.List.FromFn.{map-range_with_len_more}
use Rattle.std.proofs.lemmas.Nat.{pow_pos, pow-add}
use Rattle.sha2.specs.Sha256.{initial_hash_256, padded_message, padding, word_at, hash_after}
use Rattle.lzk_goldilocks.specs.Elements.{of_number}
use Rattle.lzk_sha_circuit.specs.Compression.{IsState}
use Rattle.lzk_sha_circuit.specs.Digest.{digest_words}
use Rattle.lzk_sha_blocks.specs.Layout.{blocks}
use Rattle.lzk_sha_blocks.specs.Witness as hashed
use Rattle.lzk_sha_blocks.proofs.Steps.{is_state, next_state, digest_words_are, length-padded, block_at}
use Rattle.lzk_sha_path.specs.Roots.{block_of, node_state, node_of, parent_of, root_of, AreNodes}
use Rattle.lzk_sha_path.specs.Trees.{Compressed, state_after, of_block, of_record, of_nodes, of_pair, way_up, way_of, Collide, LeadsToNodes, Break, RecordsAreLeaves, OnlyIssuedLead, OnlyIssuedClimb}
use Rattle.lzk_sha_path.proofs.Blocks.{left_word, right_word}
use Rattle.lzk_sha_path.proofs.Climbing.{same_state, parent_state}

-- ---- what is the same and what is not
tail_of : List ℕ → List ℕ
tail_of [] = []
tail_of (x ∷ xs) = xs

same_or : (xs ys : List ℕ) → (xs ≡ ys) ⊎ (xs ≢ ys)
unfolding tail_of
same_or [] [] = inl refl
same_or [] (y ∷ ys) = inr (λ e. let n = ap length e in omega (arith, n))
same_or (x ∷ xs) [] = inr (λ e. let n = ap length e in omega (arith, n))
same_or (x ∷ xs) (y ∷ ys) = elim (cases_eq x y) [
  | inr apart ↦ inr (λ e. apart (ap (λ l. slice_index l 0) e))
  | inl first ↦ elim (same_or xs ys) [
    | inr apart ↦ inr (λ e. apart (ap tail_of e))
    | inl rest ↦ inl (λ i. first i ∷ rest i)
  ]
]

either : (one other : Compressed) → (one ≡ other) ⊎ (one ≢ other)
either one other = elim (same_or one.state other.state) [
  | inr apart ↦ inr (λ e. apart (ap (λ (c : Compressed). c.state) e))
  | inl states ↦ elim (same_or one.block other.block) [
    | inr apart ↦ inr (λ e. apart (ap (λ (c : Compressed). c.block) e))
    | inl blocks ↦ inl (λ i. record { state = states i; block = blocks i })
  ]
]

-- ---- collisions of ways
first_of : (one : Compressed) (way : List Compressed) → Contains (one ∷ way) one
first_of one way = (0, omega arith, refl)

later_of : (first one : Compressed) (way : List Compressed) → Contains way one → Contains (first ∷ way) one
later_of first one way c = (suc c.0, (let lt = c.1 in omega (arith, lt)), c.2)

longer : (first : Compressed) (way others : List Compressed) → Collide way others → Collide way (first ∷ others)
longer first way others c = (c.0, c.1, c.2, later_of first c.1 others c.3, c.4)

swapped : (way others : List Compressed) → Collide way others → Collide others way
swapped way others c = (c.1, c.0, c.3, c.2, record { differ = λ e. c.4.differ (sym e); same = sym c.4.same })

both_longer : (first second : Compressed) (way others : List Compressed) → Collide way others → Collide (first ∷ way) (second ∷ others)
both_longer first second way others c = (c.0, c.1, later_of first c.0 way c.2, later_of second c.1 others c.3, c.4)

-- what stands first on two ways and is compressed to one state is the same, or a collision
first_same : (one other : Compressed) (way others : List Compressed) → state_after one ≡ state_after other → (one ≡ other) ⊎ Collide (one ∷ way) (other ∷ others)
first_same one other way others e = elim (either one other) [
  | inl same ↦ inl same
  | inr differ ↦ inr (one, other, first_of one way, first_of other others, record { differ = differ; same = e })
]

-- ---- pairs of nodes
choice_after : (b : Bool) (left right : List ℕ) → state_after (if b then of_nodes left right else of_nodes right left) ≡ (if b then node_of left right else node_of right left)
choice_after true left right = refl
choice_after false left right = refl

pair_after : (index : ℕ) (node sibling : List ℕ) → state_after (of_pair index node sibling) ≡ parent_of index node sibling
pair_after index node sibling = choice_after (nat_lt (index % 2) 1) node sibling

choice_state : (b : Bool) (left right : List ℕ) → Compressed.state (if b then of_nodes left right else of_nodes right left) ≡ node_state
choice_state true left right = refl
choice_state false left right = refl

pair_state : (index : ℕ) (node sibling : List ℕ) → Compressed.state (of_pair index node sibling) ≡ node_state
pair_state index node sibling = choice_state (nat_lt (index % 2) 1) node sibling

-- records begin from another state
states_differ : initial_hash_256 ≢ node_state
states_differ e =
    let n : 0x6A09E667 ≡ 0xC1059ED8 = ap (λ l. slice_index l 0) e in
    omega (arith, n)

lefts_same : (left right low high : List ℕ) → IsState left → IsState right → IsState low → IsState high → block_of left right ≡ block_of low high → left ≡ low
lefts_same left right low high hl hr ho hi e =
    let a = hl.eight in
    let b = ho.eight in
    ext_get_or 0 left low (a ∙ sym b) (λ i lt.
    let inside : i < 8 = omega (arith, a, lt) in
    sym (left_word left right hl hr i inside) ∙ ap (λ (l : List ℕ). word_at l (4 * i)) e ∙ left_word low high ho hi i inside)

rights_same : (left right low high : List ℕ) → IsState left → IsState right → IsState low → IsState high → block_of left right ≡ block_of low high → right ≡ high
rights_same left right low high hl hr ho hi e =
    let a = hr.eight in
    let b = hi.eight in
    ext_get_or 0 right high (a ∙ sym b) (λ i lt.
    let inside : i < 8 = omega (arith, a, lt) in
    sym (right_word left right hl hr i inside) ∙ ap (λ (l : List ℕ). word_at l (4 * (8 + i))) e ∙ right_word low high ho hi i inside)

choices_same : (b : Bool) (node sibling other beside : List ℕ) → IsState node → IsState sibling → IsState other → IsState beside
    → (if b then of_nodes node sibling else of_nodes sibling node) ≡ (if b then of_nodes other beside else of_nodes beside other) → node ≡ other
choices_same true node sibling other beside hn hs ho hb e = lefts_same node sibling other beside hn hs ho hb (ap (λ (c : Compressed). c.block) e)
choices_same false node sibling other beside hn hs ho hb e = rights_same sibling node beside other hs hn hb ho (ap (λ (c : Compressed). c.block) e)

pairs_same : (i j : ℕ) (node sibling other beside : List ℕ) → IsState node → IsState sibling → IsState other → IsState beside
    → i % 2 ≡ j % 2 → of_pair i node sibling ≡ of_pair j other beside → node ≡ other
pairs_same i j node sibling other beside hn hs ho hb side e =
    choices_same (nat_lt (i % 2) 1) node sibling other beside hn hs ho hb
    (e ∙ ap (λ m. if nat_lt m 1 then of_nodes other beside else of_nodes beside other) (sym side))

digest_state : (m : List ℕ) → IsState (digest_words m)
digest_state m = subst IsState (sym (digest_words_are m)) (is_state m (blocks (length m)))

root_state : (node : List ℕ) (index : ℕ) (siblings : List (List ℕ)) → IsState node → IsState (root_of node index siblings)
root_state node index [] is = is
root_state node index (s ∷ ss) is = root_state (parent_of index node s) (index / 2) ss (parent_state index node s)

-- ---- leaf numbers, bit by bit
digits_same : (x r y s : ℕ) → r < 2 → s < 2 → x * 2 + r ≡ y * 2 + s → (r ≡ s) × (x ≡ y)
digits_same x r y s lr ls e = (omega (arith, lr, ls, e), omega (arith, lr, ls, e))

last_digit : (n i : ℕ) → i % 2 ^ suc n ≡ i / 2 % 2 ^ n * 2 + i % 2
last_digit n i = ap (λ m. i % m) (pow-suc 2 n) ∙ mod-mul i (pow_pos n) (omega arith)

halves : (n i j : ℕ) → i % 2 ^ suc n ≡ j % 2 ^ suc n → (i % 2 ≡ j % 2) × (i / 2 % 2 ^ n ≡ j / 2 % 2 ^ n)
halves n i j e =
    digits_same (i / 2 % 2 ^ n) (i % 2) (j / 2 % 2 ^ n) (j % 2) (mod-lt i (omega arith)) (mod-lt j (omega arith))
    (sym (last_digit n i) ∙ e ∙ last_digit n j)

half_of : (j k : ℕ) → j / 2 / 2 ^ k ≡ j / 2 ^ suc k
half_of j k =
    let e : 2 * 2 ^ k ≡ 2 ^ suc k = (let p = pow-suc 2 k in omega (arith, p)) in
    div-div-eq-div-mul j 2 (2 ^ k) ∙ ap (λ m. j / m) e

-- ---- from the root down: nodes at one place are the same where what is above them is, or the ways collide
together : (a b : List ℕ) (i j : ℕ) (ss ts : List (List ℕ)) → IsState a → IsState b → AreNodes ss → AreNodes ts → length ts ≡ length ss
    → j % 2 ^ length ss ≡ i % 2 ^ length ss → root_of a i ss ≡ root_of b j ts → (a ≡ b) ⊎ Collide (way_up a i ss) (way_up b j ts)
together a b i j [] [] ha hb hs ht l p e = inl e
together a b i j [] (t ∷ ts) ha hb hs ht l p e = absurd (omega (arith, l))
together a b i j (s ∷ ss) [] ha hb hs ht l p e = absurd (omega (arith, l))
together a b i j (s ∷ ss) (t ∷ ts) ha hb hs ht l p e =
    let h = halves (length ss) j i p in
    let one = of_pair i a s in
    let other = of_pair j b t in
    let way = way_up (parent_of i a s) (i / 2) ss in
    let others = way_up (parent_of j b t) (j / 2) ts in
    elim (together (parent_of i a s) (parent_of j b t) (i / 2) (j / 2) ss ts (parent_state i a s) (parent_state j b t) hs.1 ht.1 (omega (arith, l)) h.1 e) [
      | inr c ↦ inr (both_longer one other way others c)
      | inl same ↦ elim (first_same one other way others (pair_after i a s ∙ same ∙ sym (pair_after j b t))) [
        | inr c ↦ inr c
        | inl pair ↦ inl (pairs_same i j a s b t ha hs.0 hb ht.0 (sym h.0) pair)
      ]
    ]

-- something, and something else whose way is as long or longer
under : (k : ℕ) (one other : Compressed) (a b : List ℕ) (i j : ℕ) (ss ts : List (List ℕ)) → state_after one ≡ a → state_after other ≡ b
    → IsState a → IsState b → AreNodes ss → AreNodes ts → length ts ≡ k + length ss → j / 2 ^ k % 2 ^ length ss ≡ i % 2 ^ length ss → root_of a i ss ≡ root_of b j ts
    → (((k ≡ 0) × (one ≡ other)) ⊎ (one.state ≡ node_state)) ⊎ Collide (one ∷ way_up a i ss) (other ∷ way_up b j ts)
under zero one other a b i j ss ts ea eb ha hb hs ht l p e =
    let here : j / 2 ^ 0 ≡ j = div-one j in
    elim (together a b i j ss ts ha hb hs ht (omega (arith, l)) (ap (λ n. n % 2 ^ length ss) (sym here) ∙ p) e) [
      | inr c ↦ inr (both_longer one other (way_up a i ss) (way_up b j ts) c)
      | inl same ↦ elim (first_same one other (way_up a i ss) (way_up b j ts) (ea ∙ same ∙ sym eb)) [
        | inl pair ↦ inl (inl (refl, pair))
        | inr c ↦ inr c
      ]
    ]
under (suc k) one other a b i j ss [] ea eb ha hb hs ht l p e = absurd (omega (arith, l))
under (suc k) one other a b i j ss (t ∷ ts) ea eb ha hb hs ht l p e =
    let next = of_pair j b t in
    let way = one ∷ way_up a i ss in
    elim (under k one next a (parent_of j b t) i (j / 2) ss ts ea (pair_after j b t) ha (parent_state j b t) hs ht.1 (omega (arith, l)) (ap (λ n. n % 2 ^ length ss) (half_of j k) ∙ p) e) [
      | inr c ↦ inr (longer other way (next ∷ way_up (parent_of j b t) (j / 2) ts) c)
      | inl s ↦ elim s [
        | inl pair ↦ inl (inr (ap (λ (c : Compressed). c.state) pair.1 ∙ pair_state j b t))
        | inr nodes ↦ inl (inr nodes)
      ]
    ]

-- ---- records, block by block

abbrev last_of : List ℕ → Compressed
last_of m = of_block m (blocks (length m) - 1)

abbrev before_last : List ℕ → List Compressed
before_last m = map (of_block m) (range_with_len 0 (blocks (length m) - 1))

record_parts : (m : List ℕ) → of_record m ≡ before_last m ++ last_of m ∷ []
record_parts m =
    let n = blocks (length m) - 1 in
    let all : blocks (length m) ≡ n + 1 = omega arith in
    ap (λ k. map (of_block m) (range_with_len 0 k)) all ∙ map-range_with_len_more (of_block m) 0 n n (omega arith)

last_after : (m : List ℕ) → state_after (last_of m) ≡ digest_words m
last_after m =
    let n = blocks (length m) - 1 in
    let all : suc n ≡ blocks (length m) = omega arith in
    next_state m n ∙ ap (hashed.state_of m) all ∙ sym (digest_words_are m)

state_first : (m : List ℕ) → hashed.state_of m 0 ≡ initial_hash_256
unfolding hash_after
state_first m = refl

-- what collides behind the blocks before the last ones
behind : (fronts way others : List Compressed) → Collide way others → Collide (fronts ++ way) others
behind [] way others c = c
behind (f ∷ fronts) way others c =
    swapped others (f ∷ (fronts ++ way)) (longer f others (fronts ++ way) (swapped (fronts ++ way) others (behind fronts way others c)))

ways_longer : (m other : List ℕ) (way others : List Compressed) → Collide (last_of m ∷ way) (last_of other ∷ others) → Collide (of_record m ++ way) (of_record other ++ others)
ways_longer m other way others c =
    let one : of_record m ++ way ≡ before_last m ++ (last_of m ∷ way) = ap (λ l. l ++ way) (record_parts m) ∙ append_assoc (before_last m) (last_of m ∷ []) way in
    let two : of_record other ++ others ≡ before_last other ++ (last_of other ∷ others) = ap (λ l. l ++ others) (record_parts other) ∙ append_assoc (before_last other) (last_of other ∷ []) others in
    let first = behind (before_last m) (last_of m ∷ way) (last_of other ∷ others) c in
    let second = behind (before_last other) (last_of other ∷ others) (before_last m ++ (last_of m ∷ way)) (swapped (before_last m ++ (last_of m ∷ way)) (last_of other ∷ others) first) in
    subst (λ (T : Type 0). T) (λ i. Collide (sym one i) (sym two i)) (swapped (before_last other ++ (last_of other ∷ others)) (before_last m ++ (last_of m ∷ way)) second)

-- ---- padded records
end_byte : (m : List ℕ) (k : ℕ) → k < 8 → slice_index (last_of m).block (56 + k) ≡ slice_index (to_be_bytes w64 (length m * 8 % 2 ^ 64)) k
end_byte m k few =
    let n = length m in
    let i = blocks n - 1 in
    let zeros : List ℕ = replicate ((119 - n % 64) % 64) 0 in
    let bytes = to_be_bytes w64 (n * 8 % 2 ^ 64) in
    let long : length zeros ≡ (119 - n % 64) % 64 = length-replicate {A = ℕ} ((119 - n % 64) % 64) 0 in
    let here : 64 * i + (56 + k) ≡ n + (suc (length zeros) + k) = omega (arith, long) in
    block_at m i (56 + k) (omega (arith, few)) ∙ ap (slice_index (padded_message m)) here
    ∙ get_or-append-add m (padding n) (suc (length zeros) + k) 0 ∙ get_or-append-add (0x80 ∷ zeros) bytes k 0

counts_same : (x y : ℕ) → x ≤ 119 → y ≤ 119 → slice_index (to_be_bytes w64 (x * 8 % 2 ^ 64)) 6 ≡ slice_index (to_be_bytes w64 (y * 8 % 2 ^ 64)) 6
    → slice_index (to_be_bytes w64 (x * 8 % 2 ^ 64)) 7 ≡ slice_index (to_be_bytes w64 (y * 8 % 2 ^ 64)) 7 → x ≡ y
counts_same x y lx ly high low =
    let h : x * 8 % 2 ^ 64 / 256 % 256 ≡ y * 8 % 2 ^ 64 / 256 % 256 = high in
    let l : x * 8 % 2 ^ 64 % 256 ≡ y * 8 % 2 ^ 64 % 256 = low in
    omega (arith, lx, ly, h, l)

-- records whose last blocks are the same have one length
lengths_same : (m other : List ℕ) → length m ≤ 119 → length other ≤ 119 → (last_of m).block ≡ (last_of other).block → length m ≡ length other
lengths_same m other short small e =
    let high = sym (end_byte m 6 (omega arith)) ∙ ap (λ l. slice_index l 62) e ∙ end_byte other 6 (omega arith) in
    let low = sym (end_byte m 7 (omega arith)) ∙ ap (λ l. slice_index l 63) e ∙ end_byte other 7 (omega arith) in
    counts_same (length m) (length other) short small high low

-- and are one record where all their blocks are the same
messages_same : (m other : List ℕ) → length m ≡ length other → ((i : ℕ) → i < blocks (length m) → hashed.block_of m i ≡ hashed.block_of other i) → m ≡ other
messages_same m other n same =
    let long = length-padded m in
    let padded : padded_message m ≡ padded_message other = ext_get_or 0 (padded_message m) (padded_message other) (long ∙ ap (λ k. 64 * blocks k) n ∙ sym (length-padded other)) (λ j l.
    let i = j / 64 in
    let k = j % 64 in
    let few : k < 64 = omega arith in
    let there : 64 * i + k ≡ j = omega arith in
    let inside : i < blocks (length m) = omega (arith, l, long) in
    ap (slice_index (padded_message m)) (sym there) ∙ sym (block_at m i k few) ∙ ap (λ b. slice_index b k) (same i inside) ∙ block_at other i k few ∙ ap (slice_index (padded_message other)) there) in
    sym (take-append_seam m (padding (length m))) ∙ (λ i. take (n i) (padded i)) ∙ take-append_seam other (padding (length other))

-- a record's last block alone leads to no nodes
last_leads : (m : List ℕ) → length m ≤ 119 → (last_of m).state ≡ node_state → LeadsToNodes m
last_leads m short e = elim (cases_lt (length m) 56) [
  | inl less ↦
      let first : blocks (length m) - 1 ≡ 0 = omega (arith, less) in
      absurd (states_differ (sym (state_first m) ∙ ap (hashed.state_of m) (sym first) ∙ e))
  | inr more ↦
      let second : suc 0 ≡ blocks (length m) - 1 = omega (arith, more, short) in
      (more, next_state m 0 ∙ ap (hashed.state_of m) second ∙ e)
]

-- records with one last block are one record, or their first blocks collide
last_same : (m other : List ℕ) (way others : List Compressed) → length m ≤ 119 → length other ≤ 119 → last_of m ≡ last_of other → (m ≡ other) ⊎ Collide (of_record m ++ way) (of_record other ++ others)
last_same m other way others short small e =
    let blocks_are : (last_of m).block ≡ (last_of other).block = ap (λ (c : Compressed). c.block) e in
    let states_are : (last_of m).state ≡ (last_of other).state = ap (λ (c : Compressed). c.state) e in
    let n = lengths_same m other short small blocks_are in
    elim (cases_lt (length m) 56) [
      | inl less ↦
          let one : blocks (length m) - 1 ≡ 0 = omega (arith, less) in
          let two : blocks (length other) - 1 ≡ 0 = omega (arith, less, n) in
          let first : hashed.block_of m 0 ≡ hashed.block_of other 0 = ap (hashed.block_of m) (sym one) ∙ blocks_are ∙ ap (hashed.block_of other) two in
          inl (messages_same m other n (λ i l. let is : i ≡ 0 = omega (arith, l, less) in ap (hashed.block_of m) is ∙ first ∙ ap (hashed.block_of other) (sym is)))
      | inr more ↦
          let one : blocks (length m) - 1 ≡ 1 = omega (arith, more, short) in
          let two : blocks (length other) - 1 ≡ 1 = omega (arith, more, short, n) in
          let second : hashed.block_of m 1 ≡ hashed.block_of other 1 = ap (hashed.block_of m) (sym one) ∙ blocks_are ∙ ap (hashed.block_of other) two in
          let states : hashed.state_of m 1 ≡ hashed.state_of other 1 = ap (hashed.state_of m) (sym one) ∙ states_are ∙ ap (hashed.state_of other) two in
          let whole : blocks (length m) ≡ 2 = omega (arith, more, short) in
          let wholes : blocks (length other) ≡ 2 = omega (arith, more, short, n) in
          let record_m : of_record m ++ way ≡ of_block m 0 ∷ (of_block m 1 ∷ way) = ap (λ k. map (of_block m) (range_with_len 0 k) ++ way) whole in
          let record_other : of_record other ++ others ≡ of_block other 0 ∷ (of_block other 1 ∷ others) = ap (λ k. map (of_block other) (range_with_len 0 k) ++ others) wholes in
          elim (first_same (of_block m 0) (of_block other 0) (of_block m 1 ∷ way) (of_block other 1 ∷ others) (next_state m 0 ∙ states ∙ sym (next_state other 0))) [
            | inr c ↦ inr (subst (λ (T : Type 0). T) (λ i. Collide (sym record_m i) (sym record_other i)) c)
            | inl same ↦
                let first : hashed.block_of m 0 ≡ hashed.block_of other 0 = ap (λ (c : Compressed). c.block) same in
                inl (messages_same m other n (λ i l. two_cases i (omega (arith, l, whole)) (λ j. hashed.block_of m j ≡ hashed.block_of other j) first second))
          ]
    ] where
      two_cases : (i : ℕ) → i < 2 → (P : ℕ → Type 0) → P 0 → P 1 → P i
      two_cases zero l P a b = a
      two_cases (suc zero) l P a b = b
      two_cases (suc (suc i)) l P a b = absurd (omega (arith, l))

-- ---- the laws
pub leaves : RecordsAreLeaves
leaves m other i j k ss ts hm ho hs ht e l p =
    let way = way_up (digest_words m) i ss in
    let others = way_up (digest_words other) j ts in
    elim (under k (last_of m) (last_of other) (digest_words m) (digest_words other) i j ss ts (last_after m) (last_after other) (digest_state m) (digest_state other) hs ht l p e) [
      | inr c ↦ inr (inl (ways_longer m other way others c))
      | inl s ↦ elim s [
        | inr nodes ↦ inr (inr (inl (last_leads m hm.short nodes)))
        | inl pair ↦ elim (last_same m other way others hm.short ho.short pair.1) [
          | inl same ↦ inl (pair.0, same)
          | inr c ↦ inr (inl c)
        ]
      ]
    ]

broken_swapped : (m other : List ℕ) (way others : List Compressed) → Break m way other others → Break other others m way
broken_swapped m other way others b = elim b [
  | inl c ↦ inl (swapped way others c)
  | inr leads ↦ elim leads [
    | inl one ↦ inr (inr one)
    | inr two ↦ inr (inl two)
  ]
]

above_within : (x n k : ℕ) → x < 2 ^ n → x * 2 ^ k < 2 ^ (k + n)
above_within x n k lt =
    subst (λ m. x * 2 ^ k < m) (mul_comm (2 ^ n) (2 ^ k) ∙ sym (pow-add 2 k n)) (mul-lt-mul_of_pos_right lt (pow_pos k))

pub lead : OnlyIssuedLead
lead depth root leaf beside m i ss is hm hs e = elim (cases_lt (length ss) depth) [
  | inl less ↦
      let n = length ss in
      let k = depth - n in
      let all : k + n ≡ depth = omega (arith, less) in
      let x = i % 2 ^ n in
      let number = x * 2 ^ k in
      let small : x < 2 ^ n = mod-lt i (pow_pos n) in
      let within : number < 2 ^ depth = subst (λ d. number < 2 ^ d) all (above_within x n k small) in
      let place : number / 2 ^ k % 2 ^ n ≡ i % 2 ^ n = ap (λ y. y % 2 ^ n) (mul-div_cancel x (pow_pos k)) ∙ mod-eq_of_lt small in
      elim (leaves m (leaf number) i number k ss (beside number) hm (is.records number within) hs (is.nodes number within) (e ∙ sym (is.under number within)) (is.count number within ∙ sym all) place) [
        | inl s ↦ absurd (let z = s.0 in omega (arith, z, all, less))
        | inr c ↦ inr (number, within, c)
      ]
  | inr more ↦
      let n = length ss in
      let k = n - depth in
      let all : n ≡ k + depth = omega (arith, more) in
      let number = i / 2 ^ k % 2 ^ depth in
      let within : number < 2 ^ depth = mod-lt (i / 2 ^ k) (pow_pos depth) in
      let deep = is.count number within in
      let place : i / 2 ^ k % 2 ^ length (beside number) ≡ number % 2 ^ length (beside number) =
      ap (λ d. i / 2 ^ k % 2 ^ d) deep ∙ sym (mod-eq_of_lt within) ∙ ap (λ d. number % 2 ^ d) (sym deep) in
      elim (leaves (leaf number) m number i k (beside number) ss (is.records number within) hm (is.nodes number within) hs (is.under number within ∙ sym e) (all ∙ ap (λ d. k + d) (sym deep)) place) [
        | inl s ↦
            let here : number ≡ i % 2 ^ depth = ap (λ z. i / 2 ^ z % 2 ^ depth) s.0 ∙ ap (λ y. y % 2 ^ depth) (div-one i) in
            inl ((let z = s.0 in omega (arith, z, all)), sym s.1 ∙ ap leaf here)
        | inr c ↦ inr (number, within, broken_swapped (leaf number) m (way_of (leaf number) number (beside number)) (way_of m i ss) c)
      ]
]

pub climb : OnlyIssuedClimb
climb depth levels root leaf beside m is hm c =
    let top = root_of (digest_words m) c.index c.siblings in
    let hd = digest_state m in
    let some = pow_pos depth in
    let hr : IsState root = subst IsState (is.under 0 some) (root_state (digest_words (leaf 0)) 0 (beside 0) (digest_state (leaf 0))) in
    let node : c.node ≡ digest_words m = same_state c.node (digest_words m) c.is_node hd (sym c.leaf_is) in
    let same : top ≡ root =
    same_state top root (root_state (digest_words m) c.index c.siblings hd) hr (ap (λ d. map of_number (root_of d c.index c.siblings)) (sym node) ∙ sym c.root_is) in
    elim (lead depth root leaf beside m c.index c.siblings is hm c.are_nodes same) [
      | inl s ↦
          let rows : levels ≡ depth = sym c.count ∙ s.0 in
          inl (rows, s.1 ∙ ap leaf (mod-eq_of_lt (subst (λ d. c.index < 2 ^ d) rows c.within)))
      | inr found ↦ inr found
    ]
