-- What the parts see of the whole's inputs.
use Rattle.std.proofs.Common.{◌≡◌, ℕ, ◌+◌, ◌<◌, ◌≤◌, List, [], ◌∷◌, ◌++◌, length, take, drop, map, suc, refl, sym, ap, ◌∙◌, arith, ext_get_or, get_or-take, append_assoc, length-append, length-drop}
use Rattle.std.specs.List.{range_with_len}
use Rattle.std.proofs.lemmas.List.{length-take-le, get_or-drop, map-append, take_all}
use Rattle.std.proofs.lemmas.List.FromFn.{length-map-range_with_len, get_or-map-range_with_len, length-range_with_len}
use Rattle.std.proofs.Math.Seq.{drop-append-add, take-append_seam}
use Rattle.lzk_field.specs.Ring.{Ops}
use Rattle.lzk_field.specs.Sums.{entry}
use Rattle.lzk_circuit.specs.Wires.{inputs_of}
use Rattle.lzk_circuit_reduce.specs.Renumbering.{AreNumbersBelow}
use Rattle.lzk_circuit_beside.specs.Chosen.{chosen}
use Rattle.lzk_circuit_beside.proofs.PlaceLaws.{both_below, row_below}

-- ---- rows of places
pub rows_below : (width a b m c n : ℕ) → a + 8 ≤ width → b + m ≤ width → c + n ≤ width → AreNumbersBelow width ((range_with_len a 8 ++ range_with_len b m) ++ range_with_len c n)
rows_below width a b m c n la lb lc =
    both_below width (range_with_len a 8 ++ range_with_len b m) (range_with_len c n)
    (both_below width (range_with_len a 8) (range_with_len b m) (row_below width a 8 la) (row_below width b m lb)) (row_below width c n lc)

pub length-rows : (a b m c n : ℕ) → length ((range_with_len a 8 ++ range_with_len b m) ++ range_with_len c n) ≡ 8 + m + n
length-rows a b m c n =
    omega (
      arith,
      length-append (range_with_len a 8 ++ range_with_len b m) (range_with_len c n),
      length-append (range_with_len a 8) (range_with_len b m),
      length-range_with_len a 8,
      length-range_with_len b m,
      length-range_with_len c n,
    )

-- ---- what is seen
nothing_dropped : {A : Type 0} (xs : List A) → drop 0 xs ≡ xs
nothing_dropped [] = refl
nothing_dropped (x ∷ xs) = refl

module _ {A : Type 0} (o : Ops A) where
  row_is : (xs : List A) (a b n : ℕ) → a ≡ 1 + b → b + n ≤ length xs → map (entry o (o.one ∷ xs)) (range_with_len a n) ≡ take n (drop b xs)
  row_is xs a b n e le =
      let f = entry o (o.one ∷ xs) in
      let right : length (take n (drop b xs)) ≡ n = length-take-le n (drop b xs) (omega (arith, length-drop b xs, le)) in
      let left : length (map f (range_with_len a n)) ≡ n = length-map-range_with_len f a n in
      ext_get_or o.zero (map f (range_with_len a n)) (take n (drop b xs)) (left ∙ sym right) (λ i l.
      let inside : i < n = omega (arith, left, l) in
      let there : a + i ≡ suc (b + i) = omega (arith, e) in
      get_or-map-range_with_len f a n i (a + i) o.zero inside refl ∙ ap f there
      ∙ sym (get_or-take n (drop b xs) i o.zero inside ∙ get_or-drop b xs i o.zero))

  -- n private inputs stand first, then eight words, and then m private inputs
  module _ (root values private : List A) (n m : ℕ) (short : length root ≡ 8) (long : length private ≡ n + 8 + m) where
    all : List A
    all = (root ++ values) ++ private

    words : length (root ++ values) ≡ 8 + length values
    words = omega (arith, length-append root values, short)

    total : length all ≡ 8 + length values + (n + 8 + m)
    unfolding all
    total = omega (arith, length-append (root ++ values) private, words, long)

    root_at : take 8 (drop 0 all) ≡ root
    unfolding all
    root_at =
        let is : all ≡ root ++ (values ++ private) = append_assoc root values private in
        ap (take 8) (nothing_dropped all ∙ is)
        ∙ ap (λ k. take k (root ++ (values ++ private))) (sym short) ∙ take-append_seam root (values ++ private)

    values_at : take (length values) (drop 8 all) ≡ values
    unfolding all
    values_at =
        let is : all ≡ root ++ (values ++ private) = append_assoc root values private in
        let e : 8 ≡ length root + 0 = omega (arith, short) in
        ap (take (length values)) (ap (drop 8) is ∙ ap (λ k. drop k (root ++ (values ++ private))) e ∙ drop-append-add root (values ++ private) 0 ∙ nothing_dropped (values ++ private))
        ∙ take-append_seam values private

    private_at : (a : ℕ) → drop (8 + length values + a) all ≡ drop a private
    unfolding all
    private_at a =
        let e : 8 + length values + a ≡ length (root ++ values) + a = omega (arith, words) in
        ap (λ k. drop k ((root ++ values) ++ private)) e ∙ drop-append-add (root ++ values) private a

    abbrev pub digest : List A
    digest = take 8 (drop n private)

    pub shown_seen : (v : ℕ) → length values ≡ v
        → chosen o ((range_with_len (9 + v + n) 8 ++ range_with_len 9 v) ++ range_with_len (9 + v) n) (inputs_of o (root ++ values) private)
        ≡ inputs_of o (digest ++ values) (take n private)
    unfolding all
    shown_seen v e =
        let f = entry o (o.one ∷ all) in
        let r1 = range_with_len (9 + v + n) 8 in
        let r2 = range_with_len 9 v in
        let r3 = range_with_len (9 + v) n in
        let e1 : map f r1 ≡ digest =
        row_is all (9 + v + n) (8 + length values + n) 8 (omega (arith, e)) (omega (arith, total)) ∙ ap (take 8) (private_at n) in
        let e2 : map f r2 ≡ values =
        row_is all 9 8 v refl (omega (arith, total, e)) ∙ ap (λ k. take k (drop 8 all)) (sym e) ∙ values_at in
        let e3 : map f r3 ≡ take n private =
        row_is all (9 + v) (8 + length values + 0) n (omega (arith, e)) (omega (arith, total)) ∙ ap (take n) (private_at 0 ∙ nothing_dropped private) in
        ap (λ (l : List A). o.one ∷ l)
        (map-append f (r1 ++ r2) r3 ∙ ap (λ l. l ++ map f r3) (map-append f r1 r2) ∙ (λ i. (e1 i ++ e2 i) ++ e3 i))

    pub path_seen : (v : ℕ) → length values ≡ v
        → chosen o ((range_with_len (9 + v + n) 8 ++ range_with_len 1 8) ++ range_with_len (9 + v + n + 8) m) (inputs_of o (root ++ values) private)
        ≡ inputs_of o (digest ++ root) (drop (n + 8) private)
    unfolding all
    path_seen v e =
        let f = entry o (o.one ∷ all) in
        let r1 = range_with_len (9 + v + n) 8 in
        let r2 = range_with_len 1 8 in
        let r3 = range_with_len (9 + v + n + 8) m in
        let e1 : map f r1 ≡ digest =
        row_is all (9 + v + n) (8 + length values + n) 8 (omega (arith, e)) (omega (arith, total)) ∙ ap (take 8) (private_at n) in
        let e2 : map f r2 ≡ root = row_is all 1 0 8 refl (omega (arith, total)) ∙ root_at in
        let e3 : map f r3 ≡ drop (n + 8) private =
        row_is all (9 + v + n + 8) (8 + length values + (n + 8)) m (omega (arith, e)) (omega (arith, total)) ∙ ap (take m) (private_at (n + 8))
        ∙ take_all m (drop (n + 8) private) (omega (arith, length-drop (n + 8) private, long)) in
        ap (λ (l : List A). o.one ∷ l)
        (map-append f (r1 ++ r2) r3 ∙ ap (λ l. l ++ map f r3) (map-append f r1 r2) ∙ (λ i. (e1 i ++ e2 i) ++ e3 i))
