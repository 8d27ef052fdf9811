-- A number put into an ascending list at the place that it gets by passing smaller ones.
use Rattle.std.proofs.Common.{◌≡◌, ℕ, zero, suc, ◌+◌, ◌-◌, ◌<◌, ◌≤◌, List, [], ◌∷◌, ◌++◌, length, get_or, take, drop, refl, sym, ap, subst, ◌∙◌, arith, length-append, length-drop, append-nil}
use Rattle.std.proofs.lemmas.Bool.{lt-ltb, le-ltb}
use Rattle.std.proofs.lemmas.List.{take-append-le, drop-append-le, length-take-le, take_all, drop_all, take_at, drop_at}
use Rattle.std.proofs.Math.ListN.{set}
use borrow.Rule.Slice.PartMut.{mid_of, post_of, put_mid}
use Rattle.lzk_transcript.specs.Insertion.{put_in}

pub put_in_place : (xs : List ℕ) (x j : ℕ) → j ≤ length xs → ((i : ℕ) → i < j → get_or xs i 0 ≤ x + i) → (j < length xs → x + j < get_or xs j 0)
    → put_in xs x ≡ take j xs ++ (x + j) ∷ drop j xs
put_in_place [] x zero le passed stop = let e : x ≡ x + 0 = omega arith in ap (λ z. z ∷ []) e
put_in_place [] x (suc j) le passed stop = absurd (omega arith)
put_in_place (y ∷ ys) x zero le passed stop =
    let h : x < y = omega (arith, stop (omega arith)) in
    let e : x ≡ x + 0 = omega arith in
    rw (lt-ltb x y h) (ap (λ z. z ∷ y ∷ ys) e)
put_in_place (y ∷ ys) x (suc j) le passed stop =
    let h : y ≤ x = omega (arith, passed 0 (omega arith)) in
    let up : x + 1 + j ≡ x + suc j = omega arith in
    let rest = put_in_place ys (x + 1) j (omega arith) (λ i lt. omega (arith, passed (suc i) (omega arith))) (λ lt. omega (arith, stop (omega arith))) in
    rw (le-ltb x y h) (ap (λ zs. y ∷ zs) rest ∙ ap (λ z. (y ∷ take j ys) ++ z ∷ drop j ys) up)

-- the last entry of a part that is turned by one comes first
turned : (some part ys : List ℕ) (v : ℕ) → part ≡ some ++ v ∷ [] → ys ≡ drop (length part - 1) part ++ take (length part - 1) part → ys ≡ v ∷ some
turned some part ys v e is =
    let count : length (some ++ v ∷ []) - 1 ≡ length some = omega (arith, length-append some (v ∷ [])) in
    let back = drop_at some (v ∷ []) (length some) refl in
    let front = take_at some (v ∷ []) (length some) refl in
    rw (e, count, back, front) at is

rotated : (xs ys : List ℕ) (v j k : ℕ) → j ≤ length xs → k ≡ length (xs ++ v ∷ []) - j
    → ys ≡ drop (length (mid_of j k (xs ++ v ∷ [])) - 1) (mid_of j k (xs ++ v ∷ [])) ++ take (length (mid_of j k (xs ++ v ∷ [])) - 1) (mid_of j k (xs ++ v ∷ []))
    → put_mid j k (xs ++ v ∷ []) ys ≡ take j xs ++ v ∷ drop j xs
rotated xs ys v j k le is given =
    let cut : drop j (xs ++ v ∷ []) ≡ drop j xs ++ v ∷ [] = drop-append-le j xs (v ∷ []) le in
    let short : length (drop j xs ++ v ∷ []) ≤ k = omega (arith, length-append (drop j xs) (v ∷ []), length-drop j xs, length-append xs (v ∷ [])) in
    let mid : mid_of j k (xs ++ v ∷ []) ≡ drop j xs ++ v ∷ [] = ap (take k) cut ∙ take_all k (drop j xs ++ v ∷ []) short in
    let post : post_of j k (xs ++ v ∷ []) ≡ [] = ap (drop k) cut ∙ drop_all k (drop j xs ++ v ∷ []) short in
    let front : take j (xs ++ v ∷ []) ≡ take j xs = take-append-le j xs (v ∷ []) le in
    let turn : ys ≡ v ∷ drop j xs = turned (drop j xs) (mid_of j k (xs ++ v ∷ [])) ys v mid given in
    rw (front, turn, post) (ap (λ zs. take j xs ++ zs) (append-nil (v ∷ drop j xs)))

set-last : (xs : List ℕ) (last v : ℕ) → length xs ≡ suc last → set xs last v ≡ take last xs ++ v ∷ []
set-last [] last v e = absurd (omega arith)
set-last (x ∷ []) zero v e = refl
set-last (x ∷ y ∷ xs) zero v e = absurd (omega arith)
set-last (x ∷ xs) (suc last) v e = ap (λ zs. x ∷ zs) (set-last xs last v (omega arith))

-- an entry written at the end, and the part from its place on turned by one
pub inserted : (xs ys : List ℕ) (v j k last : ℕ) → length xs ≡ suc last → j ≤ last → k ≡ length (set xs last v) - j
    → ys ≡ drop (length (mid_of j k (set xs last v)) - 1) (mid_of j k (set xs last v)) ++ take (length (mid_of j k (set xs last v)) - 1) (mid_of j k (set xs last v))
    → put_mid j k (set xs last v) ys ≡ take j (take last xs) ++ v ∷ drop j (take last xs)
inserted xs ys v j k last len le is given =
    let some = take last xs in
    let Turned : List ℕ → Type 0 =
    λ w. k ≡ length w - j → ys ≡ drop (length (mid_of j k w) - 1) (mid_of j k w) ++ take (length (mid_of j k w) - 1) (mid_of j k w)
    → put_mid j k w ys ≡ take j some ++ v ∷ drop j some in
    let short : j ≤ length some = omega (arith, length-take-le last xs (omega arith)) in
    subst Turned (sym (set-last xs last v len)) (rotated some ys v j k short) is given
