-- What the parts of a path see of the whole's inputs.
use Rattle.std.proofs.Common.{◌≡◌, ℕ, ◌+◌, ◌-◌, ◌<◌, ◌≤◌, List, [], ◌∷◌, ◌++◌, length, take, drop, map, suc, refl, sym, ap, ◌∙◌, arith, ext_get_or, get_or-take, append_assoc, length-append, length-drop}
use Rattle.std.specs.List.{range_with_len}
use Rattle.std.proofs.lemmas.List.{length-take-le, get_or-drop, map-append, take_all}
use Rattle.std.proofs.lemmas.List.FromFn.{length-map-range_with_len, get_or-map-range_with_len, length-range_with_len, map-range_with_len_more}
use Rattle.std.proofs.Math.Seq.{take-append-add, drop-append-add, take-append_seam}
use Rattle.lzk_field.specs.Ring.{Ops}
use Rattle.lzk_field.specs.Sums.{entry}
use Rattle.lzk_circuit.specs.Wires.{inputs_of}
use Rattle.lzk_circuit_reduce.specs.Renumbering.{at, AreNumbersBelow}
use Rattle.lzk_circuit_beside.specs.Chosen.{chosen}
use Rattle.lzk_circuit_beside.proofs.PlaceLaws.{row_below, both_below}

-- ---- rows of places
map_same : (xs : List ℕ) → map (λ x. x) xs ≡ xs
map_same [] = refl
map_same (x ∷ xs) = ap (λ l. x ∷ l) (map_same xs)

-- one place more in a row
pub row_more : (a k : ℕ) (before old new : List ℕ) (next : ℕ) → old ≡ before ++ range_with_len a k → new ≡ old ++ next ∷ [] → next ≡ a + k → new ≡ before ++ range_with_len a (k + 1)
row_more a k before old new next eo en e =
    let more : range_with_len a (k + 1) ≡ range_with_len a k ++ (a + k) ∷ [] =
    sym (map_same (range_with_len a (k + 1))) ∙ map-range_with_len_more (λ x. x) a k (a + k) refl ∙ ap (λ l. l ++ (a + k) ∷ []) (map_same (range_with_len a k)) in
    en ∙ (λ i. eo i ++ e i ∷ []) ∙ append_assoc before (range_with_len a k) ((a + k) ∷ []) ∙ ap (λ l. before ++ l) (sym more)

pub rows_below : (width a b c n : ℕ) → a + 8 ≤ width → b + 8 ≤ width → c + n ≤ width → AreNumbersBelow width ((range_with_len a 8 ++ range_with_len b 8) ++ range_with_len c n)
rows_below width a b c n la lb lc =
    both_below width (range_with_len a 8 ++ range_with_len b 8) (range_with_len c n)
    (both_below width (range_with_len a 8) (range_with_len b 8) (row_below width a 8 la) (row_below width b 8 lb)) (row_below width c n lc)

pub length-rows : (a b c n : ℕ) → length ((range_with_len a 8 ++ range_with_len b 8) ++ range_with_len c n) ≡ 16 + n
length-rows a b c n =
    omega (
      arith,
      length-append (range_with_len a 8 ++ range_with_len b 8) (range_with_len c n),
      length-append (range_with_len a 8) (range_with_len b 8),
      length-range_with_len a 8,
      length-range_with_len b 8,
      length-range_with_len c n,
    )

-- ---- what is seen
pub words_length : {A : Type 0} (leaf root : List A) → length leaf ≡ 8 → length root ≡ 8 → length (leaf ++ root) ≡ 16
words_length leaf root short small = omega (arith, length-append leaf root, short, small)

nothing_dropped : {A : Type 0} (xs : List A) → drop 0 xs ≡ xs
nothing_dropped [] = refl
nothing_dropped (x ∷ xs) = refl

module _ {A : Type 0} (o : Ops A) where
  row_is : (xs : List A) (b n : ℕ) → b + n ≤ length xs → map (entry o (o.one ∷ xs)) (range_with_len (1 + b) n) ≡ take n (drop b xs)
  row_is xs b n le =
      let f = entry o (o.one ∷ xs) in
      let right : length (take n (drop b xs)) ≡ n = length-take-le n (drop b xs) (omega (arith, length-drop b xs, le)) in
      let left : length (map f (range_with_len (1 + b) n)) ≡ n = length-map-range_with_len f (1 + b) n in
      ext_get_or o.zero (map f (range_with_len (1 + b) n)) (take n (drop b xs)) (left ∙ sym right) (λ i l.
      let inside : i < n = omega (arith, left, l) in
      let there : 1 + b + i ≡ suc (b + i) = omega arith in
      get_or-map-range_with_len f (1 + b) n i (1 + b + i) o.zero inside refl ∙ ap f there
      ∙ sym (get_or-take n (drop b xs) i o.zero inside ∙ get_or-drop b xs i o.zero))

  module _ (leaf root private : List A) (short : length leaf ≡ 8) (small : length root ≡ 8) where
    all : List A
    all = (leaf ++ root) ++ private

    words : length (leaf ++ root) ≡ 16
    words = words_length leaf root short small

    long : length all ≡ 16 + length private
    unfolding all
    long = omega (arith, length-append (leaf ++ root) private, words)

    behind_leaf : all ≡ leaf ++ (root ++ private)
    unfolding all
    behind_leaf = append_assoc leaf root private

    leaf_at : take 8 (drop 0 all) ≡ leaf
    leaf_at =
        let e : drop 0 (leaf ++ (root ++ private)) ≡ leaf ++ (root ++ private) = nothing_dropped (leaf ++ (root ++ private)) in
        ap (λ l. take 8 (drop 0 l)) behind_leaf ∙ ap (take 8) e
        ∙ ap (λ n. take n (leaf ++ (root ++ private))) (sym short) ∙ take-append_seam leaf (root ++ private)

    root_on : drop 8 all ≡ root ++ private
    root_on =
        let e : 8 ≡ length leaf + 0 = omega (arith, short) in
        ap (λ l. drop 8 l) behind_leaf ∙ ap (λ n. drop n (leaf ++ (root ++ private))) e
        ∙ drop-append-add leaf (root ++ private) 0 ∙ nothing_dropped (root ++ private)

    root_at : take 8 (drop 8 all) ≡ root
    root_at = ap (take 8) root_on ∙ ap (λ n. take n (root ++ private)) (sym small) ∙ take-append_seam root private

    private_at : (a : ℕ) → drop (16 + a) all ≡ drop a private
    unfolding all
    private_at a =
        let e : 16 + a ≡ length (leaf ++ root) + a = omega (arith, words) in
        ap (λ n. drop n ((leaf ++ root) ++ private)) e ∙ drop-append-add (leaf ++ root) private a

    -- the words, and the first private inputs
    pub front_seen : (n : ℕ) → n ≤ length private → chosen o (range_with_len 1 (16 + n)) (inputs_of o (leaf ++ root) private) ≡ inputs_of o (leaf ++ root) (take n private)
    unfolding all
    front_seen n le =
        let count : 16 + n ≡ length (leaf ++ root) + n = omega (arith, words) in
        ap (λ (l : List A). o.one ∷ l)
        (row_is all 0 (16 + n) (omega (arith, long, le)) ∙ ap (take (16 + n)) (nothing_dropped all)
        ∙ ap (λ k. take k ((leaf ++ root) ++ private)) count ∙ take-append-add (leaf ++ root) private n)

    -- the words of the root, and all private inputs
    pub root_seen : (n : ℕ) → length private ≡ n → chosen o (range_with_len 9 (8 + n)) (inputs_of o (leaf ++ root) private) ≡ inputs_of o root private
    unfolding all
    root_seen n e =
        ap (λ (l : List A). o.one ∷ l)
        (row_is all 8 (8 + n) (omega (arith, long, e)) ∙ ap (take (8 + n)) root_on
        ∙ take_all (8 + n) (root ++ private) (omega (arith, length-append root private, small, e)))

    -- the words of the leaf, words among the private inputs, and the private inputs before these
    pub lower_seen : (n : ℕ) → n + 8 ≤ length private
        → chosen o ((range_with_len 1 8 ++ range_with_len (17 + n) 8) ++ range_with_len 17 n) (inputs_of o (leaf ++ root) private)
        ≡ inputs_of o (leaf ++ take 8 (drop n private)) (take n private)
    unfolding all
    lower_seen n le =
        let f = entry o (o.one ∷ all) in
        let r1 = range_with_len 1 8 in
        let r2 = range_with_len (17 + n) 8 in
        let r3 = range_with_len 17 n in
        let start : 17 + n ≡ 1 + (16 + n) = omega arith in
        let e1 : map f r1 ≡ leaf = row_is all 0 8 (omega (arith, long)) ∙ leaf_at in
        let e2 : map f r2 ≡ take 8 (drop n private) =
        ap (λ s. map f (range_with_len s 8)) start ∙ row_is all (16 + n) 8 (omega (arith, long, le)) ∙ ap (take 8) (private_at n) in
        let e3 : map f r3 ≡ take n private =
        row_is all 16 n (omega (arith, long, le)) ∙ ap (take n) (private_at 0 ∙ nothing_dropped private) in
        ap (λ (l : List A). o.one ∷ l)
        (map-append f (r1 ++ r2) r3 ∙ ap (λ l. l ++ map f r3) (map-append f r1 r2) ∙ (λ i. (e1 i ++ e2 i) ++ e3 i))

    -- these words, the words of the root, and the private inputs behind
    pub upper_seen : (n m : ℕ) → length private ≡ n + 8 + m
        → chosen o ((range_with_len (17 + n) 8 ++ range_with_len 9 8) ++ range_with_len (25 + n) m) (inputs_of o (leaf ++ root) private)
        ≡ inputs_of o (take 8 (drop n private) ++ root) (drop (n + 8) private)
    unfolding all
    upper_seen n m e =
        let f = entry o (o.one ∷ all) in
        let r1 = range_with_len (17 + n) 8 in
        let r2 = range_with_len 9 8 in
        let r3 = range_with_len (25 + n) m in
        let start : 17 + n ≡ 1 + (16 + n) = omega arith in
        let later : 25 + n ≡ 1 + (16 + (n + 8)) = omega arith in
        let e1 : map f r1 ≡ take 8 (drop n private) =
        ap (λ s. map f (range_with_len s 8)) start ∙ row_is all (16 + n) 8 (omega (arith, long, e)) ∙ ap (take 8) (private_at n) in
        let e2 : map f r2 ≡ root = row_is all 8 8 (omega (arith, long)) ∙ root_at in
        let e3 : map f r3 ≡ drop (n + 8) private =
        ap (λ s. map f (range_with_len s m)) later ∙ row_is all (16 + (n + 8)) m (omega (arith, long, e)) ∙ ap (take m) (private_at (n + 8))
        ∙ take_all m (drop (n + 8) private) (omega (arith, length-drop (n + 8) private, e)) in
        ap (λ (l : List A). o.one ∷ l)
        (map-append f (r1 ++ r2) r3 ∙ ap (λ l. l ++ map f r3) (map-append f r1 r2) ∙ (λ i. (e1 i ++ e2 i) ++ e3 i))
