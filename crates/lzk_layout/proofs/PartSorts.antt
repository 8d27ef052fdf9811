-- The parts of a proof's file have the sorts that its fields are read as.
use Rattle.lzk_profile.specs.Profile.{opened_count}
use Rattle.std.proofs.Common.{◌≡◌, ℕ, zero, suc, ◌+◌, ◌-◌, ◌*◌, ◌<◌, ◌≤◌, List, [], ◌∷◌, ◌++◌, length, map, take, replicate, Some, refl, sym, ap, ◌∙◌, append_assoc, arith, inl, inr}
use Rattle.std.specs.Prelude.{slice_get, option_map}
use Rattle.std.specs.List.{range_with_len, flat_map}
use Rattle.std.proofs.lemmas.Bool.{cases_lt}
use Rattle.std.proofs.lemmas.List.{length-append, map-append, take-append-le, length-replicate, length-map, take-map}
use Rattle.std.proofs.lemmas.Option.{slice_get-map}
use Rattle.lzk_layout.specs.declared.params.Params.{Params}
use Rattle.lzk_layout.specs.declared.part.ProofPart.{ProofPart}
use Rattle.lzk_layout.specs.declared.part.ProofPart.TheVariants.{Magic, Id, Root, Message, Ldt, Dot, QuadHead, QuadTail, Column, Count, Digest}
use Rattle.lzk_layout.specs.Fields.{Sort, magic, plain, element, count, opened_sorts, sorts_of}
use Rattle.lzk_layout.specs.Parts.{sort_of, each, column_parts, opened_parts, path_parts, element_parts, parts, before_count}
use Rattle.lzk_layout.proofs.PartLaws.{get_front, get_behind, length-each}

-- the sorts up to the number of digests, and of so many digests
abbrev pub count_sorts : Params → List Sort
count_sorts p = sorts_of p ++ count ∷ []

abbrev pub all_sorts : Params → ℕ → List Sort
all_sorts p n = count_sorts p ++ replicate n plain

-- ---- sorts of parts

map-range : (f : ℕ → ProofPart) (s : Sort) → ((i : ℕ) → sort_of (f i) ≡ s) → (a n : ℕ) → map sort_of (map f (range_with_len a n)) ≡ replicate n s
map-range f s h a zero = refl
map-range f s h a (suc n) = ap (λ (x : Sort). x ∷ map sort_of (map f (range_with_len (a + 1) n))) (h a) ∙ ap (λ (xs : List Sort). s ∷ xs) (map-range f s h (a + 1) n)

map-each : (f : ℕ → ProofPart) (s : Sort) → ((i : ℕ) → sort_of (f i) ≡ s) → (n : ℕ) → map sort_of (each f n) ≡ replicate n s
unfolding each
map-each f s h n = map-range f s h 0 n

each_then : (f : ℕ → ProofPart) (s : Sort) → ((i : ℕ) → sort_of (f i) ≡ s) → (n : ℕ) (others : List ProofPart) (sorts : List Sort) → map sort_of others ≡ sorts → map sort_of (each f n ++ others) ≡ replicate n s ++ sorts
each_then f s h n others sorts e = map-append sort_of (each f n) others ∙ ap (λ (xs : List Sort). xs ++ map sort_of others) (map-each f s h n) ∙ ap (λ (xs : List Sort). replicate n s ++ xs) e

map-columns : (rows a n : ℕ) → map sort_of (flat_map (column_parts rows) (range_with_len a n)) ≡ opened_sorts rows n
map-columns rows a zero = refl
map-columns rows a (suc n) =
    let columns = flat_map (column_parts rows) (range_with_len (a + 1) n) in
    ap (λ (xs : List Sort). plain ∷ xs) (each_then (Column a) element (λ i. refl) rows columns (opened_sorts rows n) (map-columns rows (a + 1) n))

opened_then : (rows n : ℕ) (others : List ProofPart) (sorts : List Sort) → map sort_of others ≡ sorts → map sort_of (opened_parts rows n ++ others) ≡ opened_sorts rows n ++ sorts
unfolding opened_parts
opened_then rows n others sorts e =
    map-append sort_of (flat_map (column_parts rows) (range_with_len 0 n)) others ∙ ap (λ (xs : List Sort). xs ++ map sort_of others) (map-columns rows 0 n)
    ∙ ap (λ (xs : List Sort). opened_sorts rows n ++ xs) e

elements_then : (p : Params) (others : List ProofPart) (sorts : List Sort) → map sort_of others ≡ sorts
    → map sort_of (element_parts p others)
    ≡ replicate p.nsum element ++ (replicate p.block element ++ (replicate p.dblock element ++ (replicate opened_count element ++ (replicate (p.dblock - p.block) element ++ sorts))))
unfolding element_parts
elements_then p others sorts e =
    each_then Message element (λ i. refl) p.nsum _ _
    (each_then Ldt element (λ i. refl) p.block _ _
    (each_then Dot element (λ i. refl) p.dblock _ _
    (each_then QuadHead element (λ i. refl) opened_count _ _
    (each_then QuadTail element (λ i. refl) (p.dblock - p.block) others sorts e))))

-- five lists and a sixth in front of the rest
regroup : {X : Type 0} (a b c d e o r : List X) → a ++ (b ++ (c ++ (d ++ (e ++ (o ++ r))))) ≡ ((a ++ (b ++ (c ++ (d ++ e)))) ++ o) ++ r
regroup a b c d e o r = sym (simp append_assoc)

count_first : (p : Params) (n : ℕ) → sorts_of p ++ (count ∷ replicate n plain) ≡ all_sorts p n
count_first p n = sym (append_assoc (sorts_of p) (count ∷ []) (replicate n plain))

pub sorts_are_parts : (p : Params) (n : ℕ) → map sort_of (parts p n) ≡ all_sorts p n
unfolding parts sorts_of
sorts_are_parts p n =
    let path : map sort_of (path_parts n) ≡ count ∷ replicate n plain = ap (λ (xs : List Sort). count ∷ xs) (map-each Digest plain (λ i. refl) n) in
    ap (λ (xs : List Sort). magic ∷ plain ∷ plain ∷ xs)
    (elements_then p (opened_parts p.nrow opened_count ++ path_parts n) (opened_sorts p.nrow opened_count ++ (count ∷ replicate n plain)) (opened_then p.nrow opened_count (path_parts n) (count ∷ replicate n plain) path)
    ∙ regroup (replicate p.nsum element) (replicate p.block element) (replicate p.dblock element) (replicate opened_count element) (replicate (p.dblock - p.block) element) (opened_sorts p.nrow opened_count) (count ∷ replicate n plain))
    ∙ count_first p n

-- ---- how many

length-opened_sorts : (rows n : ℕ) → length (opened_sorts rows n) ≡ n * (1 + rows)
length-opened_sorts rows zero = omega arith
length-opened_sorts rows (suc n) =
    let both = length-append (replicate rows element) (opened_sorts rows n) in
    let one = length-replicate rows element in
    let others = length-opened_sorts rows n in
    grind (arith, both, one, others)

pub length-sorts_of : (p : Params) → length (sorts_of p) ≡ before_count p
unfolding sorts_of
length-sorts_of p =
    let a = replicate p.nsum element in
    let b = replicate p.block element in
    let c = replicate p.dblock element in
    let d = replicate opened_count element in
    let e = replicate (p.dblock - p.block) element in
    let o = opened_sorts p.nrow opened_count in
    omega (
      arith,
      length-append (a ++ (b ++ (c ++ (d ++ e)))) o,
      length-append a (b ++ (c ++ (d ++ e))),
      length-append b (c ++ (d ++ e)),
      length-append c (d ++ e),
      length-append d e,
      length-replicate p.nsum element,
      length-replicate p.block element,
      length-replicate p.dblock element,
      length-replicate opened_count element,
      length-replicate (p.dblock - p.block) element,
      length-opened_sorts p.nrow opened_count,
    )

pub length-count_sorts : (p : Params) → length (count_sorts p) ≡ before_count p + 1
length-count_sorts p = omega (arith, length-append (sorts_of p) (count ∷ []), length-sorts_of p)

pub length-all_sorts : (p : Params) (n : ℕ) → length (all_sorts p n) ≡ before_count p + 1 + n
length-all_sorts p n = omega (arith, length-append (count_sorts p) (replicate n plain), length-count_sorts p, length-replicate n plain)

pub length-parts : (p : Params) (n : ℕ) → length (parts p n) ≡ before_count p + 1 + n
length-parts p n = sym (length-map (parts p n) sort_of) ∙ ap length (sorts_are_parts p n) ∙ length-all_sorts p n

-- ---- the sort of a part

pub sort_at : (p : Params) (n k : ℕ) → slice_get (all_sorts p n) k ≡ option_map sort_of (slice_get (parts p n) k)
sort_at p n k = ap (λ (xs : List Sort). slice_get xs k) (sym (sorts_are_parts p n)) ∙ slice_get-map sort_of (parts p n) k

pub take_sorts : (p : Params) (n k : ℕ) → map sort_of (take k (parts p n)) ≡ take k (all_sorts p n)
take_sorts p n k = sym (take-map sort_of k (parts p n)) ∙ ap (take k) (sorts_are_parts p n)

-- up to the number of digests, the sorts are those of every file
pub first_sorts : (p : Params) (n k : ℕ) → k ≤ before_count p + 1 → take k (all_sorts p n) ≡ take k (count_sorts p)
first_sorts p n k le = take-append-le k (count_sorts p) (replicate n plain) (omega (arith, length-count_sorts p))

pub sort_within : (p : Params) (n k : ℕ) → k ≤ before_count p → slice_get (all_sorts p n) k ≡ slice_get (count_sorts p) k
sort_within p n k le = get_front (count_sorts p) (replicate n plain) k (omega (arith, length-count_sorts p))

pub sort_behind : (p : Params) (n j : ℕ) → slice_get (all_sorts p n) (before_count p + 1 + j) ≡ slice_get (replicate n plain) j
sort_behind p n j = get_behind (count_sorts p) (replicate n plain) (before_count p + 1) (before_count p + 1 + j) j (length-count_sorts p) refl

-- ---- parts before the number of digests

abbrev first_parts : Params → List ProofPart
first_parts p = Magic ∷ Id ∷ Root ∷ element_parts p (opened_parts p.nrow opened_count)

elements_apart : (p : Params) (xs ys : List ProofPart) → element_parts p (xs ++ ys) ≡ element_parts p xs ++ ys
unfolding element_parts
elements_apart p xs ys = sym (simp append_assoc)

parts_apart : (p : Params) (n : ℕ) → parts p n ≡ first_parts p ++ path_parts n
unfolding parts
parts_apart p n = ap (λ (xs : List ProofPart). Magic ∷ Id ∷ Root ∷ xs) (elements_apart p (opened_parts p.nrow opened_count) (path_parts n))

length-first : (p : Params) → length (first_parts p) ≡ before_count p
length-first p =
    let whole : length (parts p 0) ≡ length (first_parts p) + length (path_parts 0) = ap length (parts_apart p 0) ∙ length-append (first_parts p) (path_parts 0) in
    let one : length (path_parts 0) ≡ 1 = ap suc (length-each Digest 0) in
    omega (arith, whole, one, length-parts p 0)

early : (p : Params) (n k : ℕ) → k < before_count p → slice_get (parts p n) k ≡ slice_get (first_parts p) k
early p n k lt = ap (λ (xs : List ProofPart). slice_get xs k) (parts_apart p n) ∙ get_front (first_parts p) (path_parts n) k (omega (arith, length-first p))

pub count_stands : (p : Params) (n k : ℕ) → k ≡ before_count p → slice_get (parts p n) k ≡ Some Count
count_stands p n k at = ap (λ (xs : List ProofPart). slice_get xs k) (parts_apart p n) ∙ get_behind (first_parts p) (path_parts n) (before_count p) k 0 (length-first p) (omega arith)

-- up to the number of digests, the parts are those of every file
pub early_parts : (p : Params) (n m k : ℕ) → k ≤ before_count p → slice_get (parts p n) k ≡ slice_get (parts p m) k
early_parts p n m k le =
    elim (cases_lt k (before_count p)) [
      | inl lt ↦ early p n k lt ∙ sym (early p m k lt)
      | inr past ↦ count_stands p n k (omega arith) ∙ sym (count_stands p m k (omega arith))
    ]

pub early_take : (p : Params) (n m k : ℕ) → k ≤ before_count p + 1 → take k (parts p n) ≡ take k (parts p m)
early_take p n m k le = front n ∙ sym (front m)
  where
    front : (i : ℕ) → take k (parts p i) ≡ take k (first_parts p ++ Count ∷ [])
    front i =
        ap (take k) (parts_apart p i ∙ sym (append_assoc (first_parts p) (Count ∷ []) (each Digest i)))
        ∙ take-append-le k (first_parts p ++ Count ∷ []) (each Digest i) (omega (arith, length-append (first_parts p) (Count ∷ []), length-first p))
