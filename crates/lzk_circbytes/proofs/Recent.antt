-- Tables of the numbers that were met last.
use Rattle.std.proofs.Common.{◌≡◌, ◌≢◌, ℕ, ◌<◌, Bool, true, false, eqb, ◌||◌, List, [], ◌∷◌, ◌++◌, length, refl, sym, ap, subst, ◌∙◌, append_assoc, append-nil, arith, inl, inr, get_or, set}
use Rattle.std.specs.Prelude.{All}
use Rattle.std.specs.List.{list_any}
use Rattle.std.proofs.lemmas.Bool.{eqb-true, eq-eqb, or_left, or_right}
use Rattle.std.proofs.lemmas.List.{length-set, get_or-set_other}
use Rattle.std.proofs.lemmas.List.Folds.{list_any-append}
use Rattle.std.proofs.lemmas.Grind.{get_or-set_at}
use Rattle.lzk_circbytes.specs.Recent.{WasMet, HaveSame}
use Rattle.lzk_circbytes.proofs.Marking.{same_or_not}

pub All-set : {X : Type 0} (P : X → Type 0) (xs : List X) (i : ℕ) (x : X) → i < length xs → All P xs → P x → All P (set xs i x)
All-set P xs i x lt h p = λ k d less.
    elim (same_or_not k i) [
      | inl same ↦ subst P (sym (get_or-set_at xs i k x d same lt)) p
      | inr other ↦ subst P (sym (get_or-set_other xs i k x d other)) (h k d (omega (arith, less, length-set xs i x)))
    ]

-- ---- the numbers that were met

has_or : (numbers : List ℕ) (n k : ℕ) → list_any (eqb k) (numbers ++ n ∷ []) ≡ (list_any (eqb k) numbers || (eqb k n || false))
has_or numbers n k = list_any-append (eqb k) numbers (n ∷ [])

has_last : (numbers : List ℕ) (n : ℕ) → list_any (eqb n) (numbers ++ n ∷ []) ≡ true
has_last numbers n = has_or numbers n n ∙ or_right (list_any (eqb n) numbers) (eqb n n || false) (or_left (eqb n n) false (eq-eqb n n refl))

-- a number that is there need not be put again
pub met_before : (numbers met : List ℕ) (slot n : ℕ) → slot < length met → n ≢ 0 → get_or met slot 0 ≡ n → All (WasMet numbers) met → HaveSame numbers (numbers ++ n ∷ [])
met_before numbers met slot n lt some is h k = here (eqb k n) refl ∙ sym (has_or numbers n k)
  where
    there : list_any (eqb n) numbers ≡ true
    there = subst (λ (m : ℕ). WasMet numbers m) is (h slot 0 lt) (omega (arith, some))

    or_false : (b : Bool) → b ≡ (b || (false || false))
    or_false true = refl
    or_false false = refl

    here : (b : Bool) → eqb k n ≡ b → list_any (eqb k) numbers ≡ (list_any (eqb k) numbers || (eqb k n || false))
    here true e =
        let has : list_any (eqb k) numbers ≡ true = subst (λ (m : ℕ). list_any (eqb m) numbers ≡ true) (sym (eqb-true k n e)) there in
        rw has refl
    here false e = rw e (or_false (list_any (eqb k) numbers))

pub same_put : (next numbers : List ℕ) (n : ℕ) → next ≡ numbers ++ n ∷ [] → HaveSame next (numbers ++ n ∷ [])
same_put next numbers n e k = ap (λ (xs : List ℕ). list_any (eqb k) xs) e

more_met : (numbers : List ℕ) (n m : ℕ) → WasMet numbers m → WasMet (numbers ++ n ∷ []) m
more_met numbers n m h some = has_or numbers n m ∙ or_left (list_any (eqb m) numbers) (eqb m n || false) (h some)

-- the table after a number was put
pub met_put : (next numbers met : List ℕ) (slot n : ℕ) → next ≡ numbers ++ n ∷ [] → slot < length met → All (WasMet numbers) met → All (WasMet next) (set met slot n)
met_put next numbers met slot n e lt h =
    let more : All (WasMet (numbers ++ n ∷ [])) met = λ k d less. more_met numbers n (get_or met k d) (h k d less) in
    subst (λ (xs : List ℕ). All (WasMet xs) (set met slot n)) (sym e) (All-set (WasMet (numbers ++ n ∷ [])) met slot n lt more (λ some. has_last numbers n))

-- the same lists before the same numbers
same_before : (xs ys zs : List ℕ) → HaveSame xs ys → HaveSame (xs ++ zs) (ys ++ zs)
same_before xs ys zs h k = list_any-append (eqb k) xs zs ∙ ap (λ (b : Bool). b || list_any (eqb k) zs) (h k) ∙ sym (list_any-append (eqb k) ys zs)

-- now and added make next, and what is left follows
pub same_go_on : (now next added left all : List ℕ) → HaveSame next (now ++ added) → HaveSame (now ++ (added ++ left)) all → HaveSame (next ++ left) all
same_go_on now next added left all step h k =
    same_before next (now ++ added) left step k ∙ ap (λ (xs : List ℕ). list_any (eqb k) xs) (append_assoc now added left) ∙ h k

pub same_end : (now all : List ℕ) → HaveSame (now ++ []) all → HaveSame now all
same_end now all h k = ap (λ (xs : List ℕ). list_any (eqb k) xs) (sym (append-nil now)) ∙ h k

pub same_number : (next now : List ℕ) (n m : ℕ) → n ≡ m → HaveSame next (now ++ n ∷ []) → HaveSame next (now ++ m ∷ [])
same_number next now n m e h = subst (λ (k : ℕ). HaveSame next (now ++ k ∷ [])) e h
