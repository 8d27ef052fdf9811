-- Pairs that are put together in place.
use Rattle.std.specs.Prelude.{◌≡◌, ℕ, ◌<◌, ◌≤◌, ◌+◌, ◌-◌, ◌==◌, List, [], ◌∷◌, ◌++◌, length, map, take, drop, true, false, Bool, cond, slice_index_or, slice_set}
use Rattle.std.proofs.Common.{zero, suc, refl, sym, ap, ◌∙◌, arith, subst}
use Rattle.std.proofs.lemmas.List.{take_more, take_more_set, drop_more, drop-drop}
use Rattle.lzk_field.specs.Ring.{Ops, RingLaws}
use Rattle.lzk_field.proofs.RingBasics.{zero_plus}
use Rattle.lzk_sumcheck_rounds.specs.declared.pairs.Pair.{Pair}
use Rattle.lzk_sumcheck_rounds.specs.Pairs.{spread, ArePairs}

module _ {A : Type 0} (o : Ops A) where
  -- the first i of a list's pairs are put together, in the first places of what was another list
  pub record IsMerged (pairs old : List (Pair A)) (i kept : ℕ) (now : List (Pair A)) : Type 0 where
    pub count : kept ≤ i
    pub same_length : length now ≡ length old
    pub rest : drop i now ≡ drop i old
    pub sums : (a b : ℕ) → o.plus (spread o (take kept now) a b) (spread o (drop i pairs) a b) ≡ spread o pairs a b
    pub within : (n m : ℕ) → ArePairs n m pairs → ArePairs n m (take kept now) × ArePairs n m (drop i pairs)

module _ {A : Type 0} (o : Ops A) (r : RingLaws o) where
  open o use {plus, times, neg}

  pub spread-append : (xs ys : List (Pair A)) (i j : ℕ) → spread o (xs ++ ys) i j ≡ plus (spread o xs i j) (spread o ys i j)
  spread-append [] ys i j = sym (zero_plus o r _)
  spread-append (p ∷ xs) ys i j = ap (plus (cond (i == p.a) (cond (j == p.b) p.coef o.zero) o.zero)) (spread-append xs ys i j) ∙ sym (r.plus_assoc _ _ _)

  pub pairs-append : (n m : ℕ) (xs ys : List (Pair A)) → ArePairs n m xs → ArePairs n m ys → ArePairs n m (xs ++ ys)
  pairs-append n m [] ys h k = k
  pairs-append n m (p ∷ xs) ys h k = (h.0, h.1, pairs-append n m xs ys h.2 k)

  pub pairs-front : (n m : ℕ) (xs ys : List (Pair A)) → ArePairs n m (xs ++ ys) → ArePairs n m xs
  pairs-front n m [] ys h = tt
  pairs-front n m (p ∷ xs) ys h = (h.0, h.1, pairs-front n m xs ys h.2)

  -- two pairs with the same numbers
  pub spread-joined : (x y : A) (a b i j : ℕ) → let one : A → List (Pair A) = λ c. record { a = a; b = b; coef = c } ∷ [] in
      spread o (one (plus x y)) i j ≡ plus (spread o (one x) i j) (spread o (one y) i j)
  spread-joined x y a b i j = r.plus_zero _ ∙ both (i == a) (j == b) ∙ sym (ap (λ w. plus w (plus (cond (i == a) (cond (j == b) y o.zero) o.zero) o.zero)) (r.plus_zero _) ∙ ap (plus (cond (i == a) (cond (j == b) x o.zero) o.zero)) (r.plus_zero _))
    where
      both : (p q : Bool) → cond p (cond q (plus x y) o.zero) o.zero ≡ plus (cond p (cond q x o.zero) o.zero) (cond p (cond q y o.zero) o.zero)
      both true true = refl
      both true false = sym (r.plus_zero _)
      both false q = sym (r.plus_zero _)

  pub drop-set : {X : Type 0} (i k : ℕ) (xs : List X) (x : X) → k < i → drop i (slice_set xs k x) ≡ drop i xs
  drop-set zero k xs x l = absurd (omega arith)
  drop-set (suc i) k [] x l = refl
  drop-set (suc i) zero (y ∷ xs) x l = refl
  drop-set (suc i) (suc k) (y ∷ xs) x l = drop-set i k xs x (omega arith)

  pub add_sums : (kept : ℕ) (old : List (Pair A)) (last p : Pair A) (c : A) (i j : ℕ) → 0 < kept → kept ≤ length old → last ≡ slice_index_or old (kept - 1) last → last.a ≡ p.a → last.b ≡ p.b → c ≡ plus last.coef p.coef
      → spread o (take kept (slice_set old (kept - 1) (record { a = p.a; b = p.b; coef = c }))) i j ≡ plus (spread o (take kept old) i j) (spread o (p ∷ []) i j)
  add_sums kept old last p c i j pos fits is ea eb ec =
      let k = kept - 1 in
      let e : k + 1 ≡ kept = omega arith in
      let l : k < length old = omega arith in
      let new : Pair A = record { a = p.a; b = p.b; coef = c } in
      let front = take k old in
      ap (λ n. spread o (take n (slice_set old k new)) i j) (sym e)
      ∙ ap (λ xs. spread o xs i j) (take_more_set old k new l)
      ∙ spread-append front (new ∷ []) i j
      ∙ ap (λ w. plus (spread o front i j) (spread o (record { a = p.a; b = p.b; coef = w } ∷ []) i j)) ec
      ∙ ap (plus (spread o front i j)) (spread-joined last.coef p.coef p.a p.b i j)
      ∙ sym (r.plus_assoc _ _ _)
      ∙ ap (λ a. plus (plus (spread o front i j) (spread o (record { a = a; b = p.b; coef = last.coef } ∷ []) i j)) (spread o (p ∷ []) i j)) (sym ea)
      ∙ ap (λ b. plus (plus (spread o front i j) (spread o (record { a = last.a; b = b; coef = last.coef } ∷ []) i j)) (spread o (p ∷ []) i j)) (sym eb)
      ∙ ap (λ w. plus w (spread o (p ∷ []) i j)) (sym (
      ap (λ n. spread o (take n old) i j) (sym e) ∙ ap (λ xs. spread o xs i j) (take_more old k last l ∙ ap (λ x. front ++ x ∷ []) (sym is)) ∙ spread-append front (last ∷ []) i j
      ))

  pub add_within : (kept : ℕ) (old : List (Pair A)) (last p : Pair A) (c : A) (n m : ℕ) → 0 < kept → kept ≤ length old → ArePairs n m (take kept old) → ArePairs n m (p ∷ [])
      → ArePairs n m (take kept (slice_set old (kept - 1) (record { a = p.a; b = p.b; coef = c })))
  add_within kept old last p c n m pos fits h hp =
      let k = kept - 1 in
      let e : k + 1 ≡ kept = omega arith in
      let l : k < length old = omega arith in
      let new : Pair A = record { a = p.a; b = p.b; coef = c } in
      subst (λ x. ArePairs n m (take x (slice_set old k new))) e
      (subst (ArePairs n m) (sym (take_more_set old k new l))
      (pairs-append n m (take k old) (new ∷ []) (pairs-front n m (take k old) (slice_index_or old k last ∷ []) (subst (ArePairs n m) (take_more old k last l) (subst (λ x. ArePairs n m (take x old)) (sym e) h))) (hp.0, hp.1, tt)))

  pub push_sums : (kept : ℕ) (old : List (Pair A)) (p : Pair A) (i j : ℕ) → kept < length old → spread o (take (kept + 1) (slice_set old kept p)) i j ≡ plus (spread o (take kept old) i j) (spread o (p ∷ []) i j)
  push_sums kept old p i j l = ap (λ xs. spread o xs i j) (take_more_set old kept p l) ∙ spread-append (take kept old) (p ∷ []) i j

  pub push_within : (kept : ℕ) (old : List (Pair A)) (p : Pair A) (n m : ℕ) → kept < length old → ArePairs n m (take kept old) → ArePairs n m (p ∷ []) → ArePairs n m (take (kept + 1) (slice_set old kept p))
  push_within kept old p n m l h hp = subst (ArePairs n m) (sym (take_more_set old kept p l)) (pairs-append n m (take kept old) (p ∷ []) h hp)

  drop_same : {X : Type 0} (a b : ℕ) (xs ys : List X) → drop a xs ≡ drop a ys → a ≤ b → drop b xs ≡ drop b ys
  drop_same a b xs ys e l =
      let s : a + (b - a) ≡ b = omega arith in
      let at : (zs : List _) → drop b zs ≡ drop (b - a) (drop a zs) = λ zs. ap (λ k. drop k zs) (sym s) ∙ sym (drop-drop (b - a) a zs) in
      at xs ∙ ap (drop (b - a)) e ∙ sym (at ys)

  -- one pair more is counted
  pub counted-step : (ps rest : List (Pair A)) (p : Pair A) (a b : ℕ) (now next all : A) → ps ≡ p ∷ rest → next ≡ plus now (spread o (p ∷ []) a b)
      → plus now (spread o ps a b) ≡ all → plus next (spread o rest a b) ≡ all
  counted-step ps rest p a b now next all front e k =
      let x = cond (a == p.a) (cond (b == p.b) p.coef o.zero) o.zero in
      ap (λ w. plus w (spread o rest a b)) (e ∙ ap (plus now) (r.plus_zero x)) ∙ r.plus_assoc now x (spread o rest a b) ∙ sym (ap (λ xs. plus now (spread o xs a b)) front) ∙ k

  pub within-step : (n m : ℕ) (ps rest : List (Pair A)) (p : Pair A) → ps ≡ p ∷ rest → ArePairs n m ps → ArePairs n m (p ∷ []) × ArePairs n m rest
  within-step n m ps rest p front h = let both = subst (ArePairs n m) front h in ((both.0, both.1, tt), both.2)

  pub merged_more : (f : Pair A → Pair A) (old now new : List (Pair A)) (i kept result : ℕ) (p : Pair A) → IsMerged o (map f old) old i kept now → i < length now → p ≡ slice_index_or now i p
      → result ≤ kept + 1 → length new ≡ length now → drop (kept + 1) new ≡ drop (kept + 1) now
      → ((a b : ℕ) → spread o (take result new) a b ≡ plus (spread o (take kept now) a b) (spread o (f p ∷ []) a b))
      → ((n m : ℕ) → ArePairs n m (take kept now) → ArePairs n m (f p ∷ []) → ArePairs n m (take result new))
      → IsMerged o (map f old) old (i + 1) result new
  merged_more f old now new i kept result p h l is c len rest sums within =
      let next : drop (i + 1) now ≡ drop (i + 1) old = drop_same i (i + 1) now old h.rest (omega arith) in
      let front : drop i old ≡ p ∷ drop (i + 1) old = sym h.rest ∙ drop_more now i p l ∙ ap (λ x. x ∷ drop (i + 1) now) (sym is) ∙ ap (λ xs. p ∷ xs) next in
      let front' : drop i (map f old) ≡ f p ∷ drop (i + 1) (map f old) = drop-map f i old ∙ ap (map f) front ∙ ap (λ xs. f p ∷ xs) (sym (drop-map f (i + 1) old)) in
      record {
        count = let k = h.count in omega arith;
        same_length = len ∙ h.same_length;
        rest = drop_same (kept + 1) (i + 1) new now rest (let k = h.count in omega arith) ∙ next;
        sums = λ a b. counted-step (drop i (map f old)) (drop (i + 1) (map f old)) (f p) a b (spread o (take kept now) a b) (spread o (take result new) a b) (spread o (map f old) a b) front' (sums a b) (h.sums a b);
        within = λ n m k.
            let w = h.within n m k in
            let both = within-step n m (drop i (map f old)) (drop (i + 1) (map f old)) (f p) front' w.1 in
            (within n m w.0 both.0, both.1);
      }
    where
      drop-map : {X Y : Type 0} (g : X → Y) (k : ℕ) (xs : List X) → drop k (map g xs) ≡ map g (drop k xs)
      drop-map g zero xs = refl
      drop-map g (suc k) [] = refl
      drop-map g (suc k) (x ∷ xs) = drop-map g k xs
