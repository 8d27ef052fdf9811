-- Lists of draws: where none is bad each is not, and how long each is.
use Rattle.std.specs.Prelude.{◌≡◌, ℕ, ◌<◌, ◌≤◌, ◌||◌, cond, Bool, true, false, List, [], ◌∷◌, ◌++◌, length, map, flat_map, take}
use Rattle.std.specs.List.{AllByRecursion}
use Rattle.std.proofs.Common.{zero, suc, refl, sym, ap, ◌∙◌, arith}
use Rattle.std.proofs.lemmas.Bool.{false≢true}
use Rattle.lzk_field.specs.Ring.{Ops}
use Rattle.lzk_field.specs.Sums.{entry}
use Rattle.lzk_soundness.specs.Chance.Draws.{count, draws_from, has_bad}

-- where no draw is bad, each is not
pub none_bad : {A : Type 0} (o : Ops A) (bad : List A → A → Bool) (before xs : List A) → has_bad bad before xs ≡ false → (k : ℕ) → k < length xs → bad (before ++ take k xs) (entry o xs k) ≡ false
none_bad o bad before [] none k h = absurd (omega (arith, h))
none_bad o bad before (x ∷ xs) none k h = go k h (bad before x) refl none (none_bad o bad (before ++ x ∷ []) xs)
  where
    append_nil : {X : Type 0} (ys : List X) → ys ++ [] ≡ ys
    append_nil [] = refl
    append_nil (y ∷ ys) = ap (λ zs. y ∷ zs) (append_nil ys)

    append_one : {X : Type 0} (ys zs : List X) (y : X) → ys ++ (y ∷ zs) ≡ (ys ++ y ∷ []) ++ zs
    append_one [] zs y = refl
    append_one (u ∷ ys) zs y = ap (λ vs. u ∷ vs) (append_one ys zs y)

    go : (k : ℕ) → k < suc (length xs) → (b : Bool) → bad before x ≡ b → (b || has_bad bad (before ++ x ∷ []) xs) ≡ false
        → (has_bad bad (before ++ x ∷ []) xs ≡ false → (k : ℕ) → k < length xs → bad ((before ++ x ∷ []) ++ take k xs) (entry o xs k) ≡ false)
        → bad (before ++ take k (x ∷ xs)) (entry o (x ∷ xs) k) ≡ false
    go k h true is none rest = absurd (false≢true (sym none))
    go zero h false is none rest = ap (λ ys. bad ys x) (append_nil before) ∙ is
    go (suc k) h false is none rest = ap (λ ys. bad ys (entry o xs k)) (append_one before (take k xs) x) ∙ rest none k (omega (arith, h))

pub join_all : {X : Type 0} (P : X → Type 0) (xs ys : List X) → AllByRecursion P xs → AllByRecursion P ys → AllByRecursion P (xs ++ ys)
join_all P [] ys p q = q
join_all P (x ∷ xs) ys p q = (p.0, join_all P xs ys p.1 q)

count_one : (b d : Bool) → (b ≡ true → d ≡ true) → cond b 1 0 ≤ cond d 1 0
count_one true true h = omega arith
count_one true false h = absurd (false≢true (h refl))
count_one false d h = omega arith

module _ {X : Type 0} where
  map_long : (n : ℕ) (d : X) (ts : List (List X)) → AllByRecursion (λ t. length t ≡ n) ts → AllByRecursion (λ t. length t ≡ suc n) (map (λ rest. d ∷ rest) ts)
  map_long n d [] all = tt
  map_long n d (t ∷ ts) all = (ap suc all.0, map_long n d ts all.1)

  pub all_long : (ds : List X) (n : ℕ) → AllByRecursion (λ t. length t ≡ n) (draws_from ds n)
  all_long ds zero = (refl, tt)
  all_long ds (suc n) = fronts (all_long ds n) ds
    where
      fronts : AllByRecursion (λ t. length t ≡ n) (draws_from ds n) → (es : List X) → AllByRecursion (λ t. length t ≡ suc n) (flat_map (λ d. map (λ rest. d ∷ rest) (draws_from ds n)) es)
      fronts all [] = tt
      fronts all (e ∷ es) =
          join_all (λ t. length t ≡ suc n) (map (λ rest. e ∷ rest) (draws_from ds n)) (flat_map (λ d. map (λ rest. d ∷ rest) (draws_from ds n)) es) (map_long n e (draws_from ds n) all) (fronts all es)

  -- a test that says yes where another does, counts no less
  pub count_more : (p q : X → Bool) (xs : List X) → AllByRecursion (λ x. p x ≡ true → q x ≡ true) xs → count p xs ≤ count q xs
  count_more p q [] all = omega arith
  count_more p q (x ∷ xs) all = omega (arith, count_one (p x) (q x) all.0, count_more p q xs all.1)

pub all_of : {X : Type 0} (P Q : X → Type 0) → ((x : X) → P x → Q x) → (xs : List X) → AllByRecursion P xs → AllByRecursion Q xs
all_of P Q f [] all = tt
all_of P Q f (x ∷ xs) all = (f x all.0, all_of P Q f xs all.1)
