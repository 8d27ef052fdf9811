-- What the loops that write a message's inputs add.
use Rattle.std.specs.Prelude.{◌≡◌, ℕ, ◌+◌, ◌-◌, ◌*◌, ◌^◌, ◌<◌, ◌≤◌, List, [], ◌∷◌, ◌++◌, length, map, take, drop, slice_index}
use Rattle.std.specs.List.{range_with_len, flat_map}
use Rattle.std.proofs.Common.{suc, refl, sym, ap, ◌∙◌, arith, mod-eq_of_lt, append_assoc, append-nil, subst}
use Rattle.lzk_goldilocks.specs.Elements.{ops, number, of_number}
use Rattle.lzk_goldilocks.specs.declared.element.Gold.{Gold}
use Rattle.lzk_field.specs.Sums.{entry}
use Rattle.lzk_goldilocks.specs.Prime.{p}
use Rattle.lzk_sha_circuit.specs.Inputs.{bit_list}
use Rattle.lzk_sha_circuit.proofs.Written.{chunk_more}
use Rattle.std.proofs.lemmas.List.{length-map, get_or-map}
use Rattle.lzk_sha_blocks.proofs.Steps.{is_state}
use Rattle.lzk_sha_blocks.specs.Layout.{blocks}
use Rattle.lzk_sha_blocks.specs.Witness.{state_of, block_added, digest_private}

-- words are the numbers of their elements
pub numbers_back : (words : List ℕ) → ((k : ℕ) → k < length words → slice_index words k < p) → map number (map of_number words) ≡ words
numbers_back [] h = refl
numbers_back (w ∷ ws) h = λ i. mod-eq_of_lt (h 0 (omega arith)) i ∷ numbers_back ws (λ k lt. h (suc k) (omega (arith, lt))) i

-- the bits of the message, what the first block adds, and what so many others add
abbrev pub front_of : {A : Type 0} → (ℕ → A) → List ℕ → ℕ → List A
front_of element m n =
    (flat_map (bit_list element 8) m ++ block_added element m 0)
    ++ flat_map (λ i. map element (state_of m i) ++ block_added element m i) (range_with_len 1 n)

pub front_more : {A : Type 0} (element : ℕ → A) (m : List ℕ) (i : ℕ) (old words mid new : List A) → 1 ≤ i → old ≡ front_of element m (i - 1) → mid ≡ old ++ words → words ≡ map element (state_of m i)
    → new ≡ mid ++ block_added element m i → new ≡ front_of element m (i + 1 - 1)
front_more element m i old words mid new some eo em ew en =
    let f = λ (j : ℕ). map element (state_of m j) ++ block_added element m j in
    let before = flat_map (bit_list element 8) m ++ block_added element m 0 in
    let count : i - 1 + 1 ≡ i + 1 - 1 = omega (arith, some) in
    chunk_more f before old new (f i) 1 (i - 1) i eo
    (en ∙ ap (λ l. l ++ block_added element m i) (em ∙ ap (λ w. old ++ w) ew) ∙ append_assoc old (map element (state_of m i)) (block_added element m i)) refl (omega (arith, some))
    ∙ ap (front_of element m) count

pub front_all : {A : Type 0} (element : ℕ → A) (m : List ℕ) (n : ℕ) → n ≡ blocks (length m) - 1 → front_of element m n ≡ digest_private element m
unfolding digest_private
front_all element m n e =
    ap (front_of element m) e
    ∙ append_assoc (flat_map (bit_list element 8) m) (block_added element m 0) (flat_map (λ i. map element (state_of m i) ++ block_added element m i) (range_with_len 1 (blocks (length m) - 1)))

pub front_none : {A : Type 0} (element : ℕ → A) (m : List ℕ) (empty old new : List A) → empty ≡ [] → old ≡ empty ++ flat_map (bit_list element 8) m → new ≡ old ++ block_added element m 0 → new ≡ front_of element m 0
front_none element m empty old new ee eo en =
    en ∙ ap (λ l. l ++ block_added element m 0) (eo ∙ ap (λ l. l ++ flat_map (bit_list element 8) m) ee)
    ∙ sym (append-nil (flat_map (bit_list element 8) m ++ block_added element m 0))

-- the words of a state are below 2 ^ 32, as elements too
pub small_words : (elements : List Gold) (m : List ℕ) (i : ℕ) → elements ≡ map of_number (state_of m i) → (k : ℕ) → k < length elements → number (entry ops elements k) < 2 ^ 32
small_words elements m i e k lt =
    let is = is_state m i in
    let eight = is.eight in
    let long = ap length e ∙ length-map (state_of m i) of_number in
    let inside : k < length (state_of m i) = omega (arith, long, lt) in
    let below = is.words k inside in
    let value : number (entry ops elements k) ≡ slice_index (state_of m i) k =
    ap (λ (l : List Gold). number (entry ops l k)) e ∙ ap number (get_or-map of_number (state_of m i) k 0 ops.zero inside) ∙ mod-eq_of_lt (omega (arith, below)) in
    subst (λ n. n < 2 ^ 32) (sym value) below

pub words_back : (m : List ℕ) (i : ℕ) → map number (map of_number (state_of m i)) ≡ state_of m i
words_back m i = let is = is_state m i in numbers_back (state_of m i) (λ k lt. let below = is.words k lt in omega (arith, below))

pub block_slice : (s q : List ℕ) (i : ℕ) → s ≡ q → take (64 * i + 64 - 64 * i) (drop (64 * i) s) ≡ take 64 (drop (i * 64) q)
block_slice s q i e =
    let size : 64 * i + 64 - 64 * i ≡ 64 = omega arith in
    let start : 64 * i ≡ i * 64 = omega arith in
    λ j. take (size j) (drop (start j) (e j))
