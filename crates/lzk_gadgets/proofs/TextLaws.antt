-- Texts by the bits of their bytes.
use Rattle.std.specs.Prelude.{◌≡◌, ℕ, ◌+◌, ◌-◌, ◌*◌, ◌%◌, ◌^◌, ◌<◌, ◌↔◌, List, [], ◌∷◌, ◌++◌, length, map, take, drop, reverse}
use Rattle.std.specs.Int.{bit_at}
use Rattle.std.specs.List.{range_with_len}
use Rattle.std.proofs.Common.{zero, suc, refl, sym, ap, ◌∙◌, arith, subst, get_or, mod-eq_of_lt}
use Rattle.std.proofs.Math.ListN.{drop_of_length-le}
use Rattle.std.proofs.Math.Seq.{drop-cons, take-append_seam, drop-append_seam}
use Rattle.std.proofs.lemmas.List.{drop-drop, drop-map, length-append, map-append, take-map}
use Rattle.std.proofs.lemmas.Nat.Bits.{bit_at-lt}
use Rattle.lzk_goldilocks.specs.Elements.{ops, of_number}
use Rattle.lzk_goldilocks.specs.declared.element.Gold.{Gold}
use Rattle.lzk_level.specs.Nodes.{node_count}
use Rattle.lzk_sha_circuit.specs.Digest.{AreBytes}
use Rattle.lzk_sha_circuit.specs.Inputs.{bit_list}
use Rattle.lzk_sha_circuit.proofs.BitLaws.{mod_more}
use Rattle.lzk_sha_circuit.proofs.Chunks.{length-bit_list}
use Rattle.lzk_sha_circuit.proofs.Lookups.{length-message}
use Rattle.lzk_gadgets.specs.Claims.{Claims, AreInputs, AreNodes, value, values, Makes, Yields}
use Rattle.lzk_gadgets.specs.Spelled.{AreBits, spelled, worth}
use Rattle.lzk_gadgets.specs.Texts.{text_bits, byte_worth, byte_worths, TextsAreSpelled, WorthsAreBytes, BitsAreOfOneText}
use Rattle.lzk_gadgets.proofs.ClaimLaws.{nodes_more, nodes_push, inputs_kept, values_kept, yields_then, yields_one, yields_none}
use Rattle.lzk_gadgets.proofs.SpelledLaws.{number_small, worth_is}

-- ---- eight nodes
next : (x g : ℕ) (ks rs rest : List ℕ) → ks ≡ g ∷ rs → x ≡ g → rs ≡ rest → ks ≡ x ∷ rest
next x g ks rs rest e h f = e ∙ (λ i. sym h i ∷ f i)

pub eight_are : (xs : List ℕ) (x0 x1 x2 x3 x4 x5 x6 x7 : ℕ) → length xs ≡ 8 → x0 ≡ get_or xs 0 x0 → x1 ≡ get_or xs 1 x1 → x2 ≡ get_or xs 2 x2 → x3 ≡ get_or xs 3 x3
    → x4 ≡ get_or xs 4 x4 → x5 ≡ get_or xs 5 x5 → x6 ≡ get_or xs 6 x6 → x7 ≡ get_or xs 7 x7 → xs ≡ x0 ∷ x1 ∷ x2 ∷ x3 ∷ x4 ∷ x5 ∷ x6 ∷ x7 ∷ []
eight_are xs x0 x1 x2 x3 x4 x5 x6 x7 e h0 h1 h2 h3 h4 h5 h6 h7 =
    let end : drop 8 xs ≡ [] = drop_of_length-le xs {i = 8} (omega (arith, e)) in
    next x0 (get_or xs 0 x0) xs (drop 1 xs) (x1 ∷ x2 ∷ x3 ∷ x4 ∷ x5 ∷ x6 ∷ x7 ∷ []) (drop-cons xs 0 x0 (omega (arith, e))) h0
    (next x1 (get_or xs 1 x1) (drop 1 xs) (drop 2 xs) (x2 ∷ x3 ∷ x4 ∷ x5 ∷ x6 ∷ x7 ∷ []) (drop-cons xs 1 x1 (omega (arith, e))) h1
    (next x2 (get_or xs 2 x2) (drop 2 xs) (drop 3 xs) (x3 ∷ x4 ∷ x5 ∷ x6 ∷ x7 ∷ []) (drop-cons xs 2 x2 (omega (arith, e))) h2
    (next x3 (get_or xs 3 x3) (drop 3 xs) (drop 4 xs) (x4 ∷ x5 ∷ x6 ∷ x7 ∷ []) (drop-cons xs 3 x3 (omega (arith, e))) h3
    (next x4 (get_or xs 4 x4) (drop 4 xs) (drop 5 xs) (x5 ∷ x6 ∷ x7 ∷ []) (drop-cons xs 4 x4 (omega (arith, e))) h4
    (next x5 (get_or xs 5 x5) (drop 5 xs) (drop 6 xs) (x6 ∷ x7 ∷ []) (drop-cons xs 5 x5 (omega (arith, e))) h5
    (next x6 (get_or xs 6 x6) (drop 6 xs) (drop 7 xs) (x7 ∷ []) (drop-cons xs 6 x6 (omega (arith, e))) h6
    (next x7 (get_or xs 7 x7) (drop 7 xs) (drop 8 xs) [] (drop-cons xs 7 x7 (omega (arith, e))) h7 end)))))))

pub turned : (v : ℕ → Gold) (xs : List ℕ) (x0 x1 x2 x3 x4 x5 x6 x7 : ℕ) → xs ≡ x0 ∷ x1 ∷ x2 ∷ x3 ∷ x4 ∷ x5 ∷ x6 ∷ x7 ∷ []
    → map v (x7 ∷ x6 ∷ x5 ∷ x4 ∷ x3 ∷ x2 ∷ x1 ∷ x0 ∷ []) ≡ reverse (map v xs)
turned v xs x0 x1 x2 x3 x4 x5 x6 x7 e = sym (ap (λ ks. reverse (map v ks)) e)

pub eight_nodes : (n : ℕ) (xs : List ℕ) (x0 x1 x2 x3 x4 x5 x6 x7 : ℕ) → xs ≡ x0 ∷ x1 ∷ x2 ∷ x3 ∷ x4 ∷ x5 ∷ x6 ∷ x7 ∷ [] → AreNodes n xs
    → AreNodes n (x7 ∷ x6 ∷ x5 ∷ x4 ∷ x3 ∷ x2 ∷ x1 ∷ x0 ∷ [])
eight_nodes n xs x0 x1 x2 x3 x4 x5 x6 x7 e h =
    let r = subst (AreNodes n) e h in
    (r.1.1.1.1.1.1.1.0, (r.1.1.1.1.1.1.0, (r.1.1.1.1.1.0, (r.1.1.1.1.0, (r.1.1.1.0, (r.1.1.0, (r.1.0, (r.0, tt))))))))

-- ---- part of a list of nodes
nodes_take : (n i : ℕ) (ks : List ℕ) → AreNodes n ks → AreNodes n (take i ks)
nodes_take n zero ks h = tt
nodes_take n (suc i) [] h = tt
nodes_take n (suc i) (k ∷ ks) h = (h.0, nodes_take n i ks h.1)

pub nodes_drop : (n i : ℕ) (ks : List ℕ) → AreNodes n ks → AreNodes n (drop i ks)
nodes_drop n zero ks h = h
nodes_drop n (suc i) [] h = tt
nodes_drop n (suc i) (k ∷ ks) h = nodes_drop n i ks h.1

pub nodes_part : (n i j : ℕ) (ks : List ℕ) → AreNodes n ks → AreNodes n (take i (drop j ks))
nodes_part n i j ks h = nodes_take n i (drop j ks) (nodes_drop n j ks h)

-- ---- eight by eight
worths_more : (k : ℕ) (xs : List Gold) → byte_worths (suc k) xs ≡ byte_worths k xs ++ byte_worth (take 8 (drop (8 * k) xs)) ∷ []
worths_more zero xs = refl
worths_more (suc k) xs =
    ap (λ ys. byte_worth (take 8 xs) ∷ ys) (worths_more k (drop 8 xs))
    ∙ ap (λ ys. byte_worth (take 8 xs) ∷ byte_worths k (drop 8 xs) ++ byte_worth (take 8 ys) ∷ []) (drop-drop (8 * k) 8 xs ∙ ap (λ n. drop n xs) (times k))
  where
    times : (k : ℕ) → 8 + 8 * k ≡ 8 * suc k
    times k = omega arith

-- the first k of them
pub record Reading (s t : Claims Gold) (bits : List ℕ) (k : ℕ) (nodes : List ℕ) : Type 0 where
  pub yields : Yields ops (9 * k) s t nodes
  pub count : length nodes ≡ k
  pub are : (p q : List Gold) → AreInputs s p q → values ops t p q nodes ≡ byte_worths k (values ops s p q bits)

pub reading-starts : (s : Claims Gold) (bits nodes : List ℕ) → nodes ≡ [] → Reading s s bits 0 nodes
reading-starts s bits nodes e = subst (Reading s s bits 0) (sym e) (record { yields = yields_none ops s [] tt; count = refl; are = λ p q a. refl })

pub reading-adds : (s t u : Claims Gold) (bits part old new : List ℕ) (node k : ℕ) → AreNodes (node_count s.nodes) bits → part ≡ take 8 (drop (8 * k) bits) → new ≡ old ++ node ∷ []
    → Makes ops 9 t u node → ((p q : List Gold) → AreInputs t p q → value ops u p q node ≡ byte_worth (values ops t p q part)) → Reading s t bits k old → Reading s u bits (k + 1) new
reading-adds s t u bits part old new node k nodes is grown m v h =
    let y = h.yields in
    let part_nodes : AreNodes (node_count s.nodes) part = subst (AreNodes (node_count s.nodes)) (sym is) (nodes_part (node_count s.nodes) 8 (8 * k) bits nodes) in
    let there : AreNodes (node_count u.nodes) new = subst (AreNodes (node_count u.nodes)) (sym grown) (nodes_push (node_count u.nodes) old node (nodes_more (node_count t.nodes) (node_count u.nodes) old m.keeps.more y.there) m.there) in
    let next : suc k ≡ k + 1 = omega arith in
    record {
      yields = yields_then ops (9 * k) 9 (9 * (k + 1)) s t u old new y (yields_one ops 9 t u node new m there) (omega arith);
      count = omega (arith, ap length grown, length-append old (node ∷ []), h.count);
      are = λ p q a.
          let b = inputs_kept ops (9 * k) s t p q y.keeps a in
          let xs = values ops s p q bits in
          let before : values ops u p q old ≡ byte_worths k xs = values_kept ops 9 t u p q old m.keeps b y.there ∙ h.are p q a in
          let kept : values ops t p q part ≡ values ops s p q part = values_kept ops (9 * k) s t p q part y.keeps a part_nodes in
          let cut : values ops s p q part ≡ take 8 (drop (8 * k) xs) =
          ap (values ops s p q) is ∙ sym (take-map (value ops s p q) 8 (drop (8 * k) bits)) ∙ ap (take 8) (sym (drop-map (value ops s p q) (8 * k) bits)) in
          let last : value ops u p q node ≡ byte_worth (take 8 (drop (8 * k) xs)) = v p q b ∙ ap byte_worth (kept ∙ cut) in
          ap (values ops u p q) grown ∙ map-append (value ops u p q) old (node ∷ []) ∙ (λ i. before i ++ last i ∷ []) ∙ sym (worths_more k xs) ∙ ap (λ n. byte_worths n xs) next;
    }

-- ---- the bits of a text
bit_small : (n i : ℕ) → (of_number (bit_at n i)).n < 2
bit_small n i = subst (λ (b : ℕ). b < 2) (sym (number_small (bit_at n i) (bit_at-lt n i))) (bit_at-lt n i)

bits_mapped : (n : ℕ) (f : ℕ → ℕ) (js : List ℕ) → AreBits (map (λ j. of_number (bit_at n (f j))) js)
bits_mapped n f [] = tt
bits_mapped n f (j ∷ js) = (bit_small n (f j), bits_mapped n f js)

bits_append : (xs ys : List Gold) → AreBits xs → AreBits ys → AreBits (xs ++ ys)
bits_append [] ys h g = g
bits_append (x ∷ xs) ys h g = (h.0, bits_append xs ys h.1 g)

byte_bits : (n : ℕ) → AreBits (bit_list of_number 8 n)
unfolding bit_list
byte_bits n = bits_mapped n (λ j. 8 - 1 - j) (range_with_len 0 8)

bits_of_text : (text : List ℕ) → AreBits (text_bits text)
bits_of_text [] = tt
bits_of_text (b ∷ bs) = bits_append (bit_list of_number 8 b) (text_bits bs) (byte_bits b) (bits_of_text bs)

pub texts_are_spelled : TextsAreSpelled
texts_are_spelled text = (text_bits text, length-message of_number text, bits_of_text text, refl)

-- ---- what they are worth
-- the lowest bit first
lowest_first : (n : ℕ) → List Gold
lowest_first n = map (λ j. of_number (bit_at n j)) (range_with_len 0 8)

summed : (b0 b1 b2 b3 b4 b5 b6 b7 m0 m1 m2 m3 m4 m5 m6 m7 m8 : ℕ) → m0 ≡ 0 → m0 + b0 * 1 ≡ m1 → m1 + b1 * 2 ≡ m2 → m2 + b2 * 4 ≡ m3 → m3 + b3 * 8 ≡ m4 → m4 + b4 * 16 ≡ m5
    → m5 + b5 * 32 ≡ m6 → m6 + b6 * 64 ≡ m7 → m7 + b7 * 128 ≡ m8 → b0 + 2 * (b1 + 2 * (b2 + 2 * (b3 + 2 * (b4 + 2 * (b5 + 2 * (b6 + 2 * (b7 + 2 * 0))))))) ≡ m8
summed b0 b1 b2 b3 b4 b5 b6 b7 m0 m1 m2 m3 m4 m5 m6 m7 m8 e e0 e1 e2 e3 e4 e5 e6 e7 = omega arith

byte_spelled : (n : ℕ) → n < 256 → spelled (lowest_first n) ≡ n
unfolding lowest_first
byte_spelled n l =
    let b = λ (i : ℕ). number_small (bit_at n i) (bit_at-lt n i) in
    (λ j. b 0 j + 2 * (b 1 j + 2 * (b 2 j + 2 * (b 3 j + 2 * (b 4 j + 2 * (b 5 j + 2 * (b 6 j + 2 * (b 7 j + 2 * 0))))))))
    ∙ summed (bit_at n 0) (bit_at n 1) (bit_at n 2) (bit_at n 3) (bit_at n 4) (bit_at n 5) (bit_at n 6) (bit_at n 7)
    (n % 2 ^ 0) (n % 2 ^ 1) (n % 2 ^ 2) (n % 2 ^ 3) (n % 2 ^ 4) (n % 2 ^ 5) (n % 2 ^ 6) (n % 2 ^ 7) (n % 2 ^ 8) (omega arith)
    (mod_more n 0) (mod_more n 1) (mod_more n 2) (mod_more n 3) (mod_more n 4) (mod_more n 5) (mod_more n 6) (mod_more n 7)
    ∙ mod-eq_of_lt l

turned_bits : (n : ℕ) → reverse (bit_list of_number 8 n) ≡ lowest_first n
unfolding bit_list lowest_first
turned_bits n = refl

byte_is : (n : ℕ) → n < 256 → byte_worth (bit_list of_number 8 n) ≡ of_number n
unfolding lowest_first
byte_is n l =
    ap worth (turned_bits n) ∙ worth_is (lowest_first n) (bits_mapped n (λ j. j) (range_with_len 0 8)) ∙ ap of_number (byte_spelled n l)

worths_of_text : (text : List ℕ) → AreBytes text → byte_worths (length text) (text_bits text) ≡ map of_number text
worths_of_text [] h = refl
worths_of_text (b ∷ bs) h =
    let xs = bit_list of_number 8 b in
    let ys = text_bits bs in
    let long : length xs ≡ 8 = length-bit_list of_number 8 b in
    let first : take 8 (xs ++ ys) ≡ xs = ap (λ n. take n (xs ++ ys)) (sym long) ∙ take-append_seam xs ys in
    let others : drop 8 (xs ++ ys) ≡ ys = ap (λ n. drop n (xs ++ ys)) (sym long) ∙ drop-append_seam xs ys in
    (λ i. byte_worth (first i) ∷ byte_worths (length bs) (others i)) ∙ (λ i. byte_is b (h 0 (omega arith)) i ∷ worths_of_text bs (λ j l. h (suc j) (omega (arith, l))) i)

pub worths_are_bytes : WorthsAreBytes
worths_are_bytes text xs h e = ap (byte_worths (length text)) e ∙ worths_of_text text h

-- ---- one text
byte_number : (n : ℕ) → n < 256 → (of_number n).n ≡ n
byte_number n l = mod-eq_of_lt (omega (arith, l))

numbers_of_one : (t u : List ℕ) → AreBytes t → AreBytes u → map of_number t ≡ map of_number u → t ≡ u
numbers_of_one [] [] h g e = refl
numbers_of_one [] (y ∷ ys) h g e = absurd (omega (arith, ap length e))
numbers_of_one (x ∷ xs) [] h g e = absurd (omega (arith, ap length e))
numbers_of_one (x ∷ xs) (y ∷ ys) h g e =
    let heads : of_number x ≡ of_number y = ap (λ zs. get_or zs 0 ops.zero) e in
    let tails : map of_number xs ≡ map of_number ys = ap (drop 1) e in
    let same : x ≡ y = sym (byte_number x (h 0 (omega arith))) ∙ ap (λ (z : Gold). z.n) heads ∙ byte_number y (g 0 (omega arith)) in
    let others : xs ≡ ys = numbers_of_one xs ys (λ j l. h (suc j) (omega (arith, l))) (λ j l. g (suc j) (omega (arith, l))) tails in
    λ i. same i ∷ others i

pub bits_are_of_one_text : BitsAreOfOneText
bits_are_of_one_text t u xs h g e f =
    let long : length t ≡ length u = omega (arith, length-message of_number t, length-message of_number u, ap length e, ap length f) in
    numbers_of_one t u h g (sym (worths_are_bytes t xs h e) ∙ ap (λ n. byte_worths n xs) long ∙ worths_are_bytes u xs g f)

-- ---- what is claimed of these
pub values_none : (v : ℕ → Gold) (xs : List ℕ) (ws : List Gold) → xs ≡ [] → length xs ≡ length ws → map v xs ≡ ws
values_none v xs [] e l = ap (map v) e
values_none v xs (w ∷ ws) e l = absurd (omega (arith, l, ap length e))

-- y is x, z is w, and ws begin with w
pub values_claim : (x y z w : Gold) (rest all ws others : List Gold) → all ≡ x ∷ rest → ws ≡ w ∷ others → y ≡ x → z ≡ w → ((rest ≡ others) × (y ≡ z)) ↔ (all ≡ ws)
values_claim x y z w rest all ws others ea ew ey ez = (
  λ h. ea ∙ (λ i. (sym ey ∙ h.1 ∙ ez) i ∷ h.0 i) ∙ sym ew,
  λ h.
      let both : x ∷ rest ≡ w ∷ others = sym ea ∙ h ∙ ew in
      (ap (drop 1) both, ey ∙ ap (λ xs. get_or xs 0 x) both ∙ sym ez),
)
