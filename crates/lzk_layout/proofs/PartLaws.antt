-- Which part stands where among the parts of a proof's file.
use Rattle.lzk_profile.specs.Profile.{opened_count}
use Rattle.std.proofs.Common.{◌≡◌, ℕ, zero, suc, ◌+◌, ◌-◌, ◌*◌, ◌<◌, ◌≤◌, List, [], ◌∷◌, ◌++◌, length, map, Option, Some, None, refl, sym, ap, subst, ◌∙◌, append_assoc, arith, inl, inr}
use Rattle.std.specs.Prelude.{slice_get}
use Rattle.std.specs.List.{range_with_len, flat_map}
use Rattle.std.proofs.lemmas.Bool.{cases_lt}
use Rattle.std.proofs.lemmas.List.{length-append}
use Rattle.std.proofs.lemmas.List.FromFn.{length-map-range_with_len, get_or-map-range_with_len}
use Rattle.std.proofs.lemmas.Option.{slice_get-get_or, slice_get_past}
use Rattle.lzk_layout.specs.declared.params.Params.{Params}
use Rattle.lzk_layout.specs.declared.part.ProofPart.{ProofPart}
use Rattle.lzk_layout.specs.declared.part.ProofPart.TheVariants.{Magic, Id, Root, Message, Ldt, Dot, QuadHead, QuadTail, Nonce, Column, Count, Digest}
use Rattle.lzk_layout.specs.Parts.{each, column_parts, opened_parts, path_parts, element_parts, parts, before_ldt, before_dot, before_head, before_tail, before_opened, before_count, number_of, HasPart}
use Rattle.lzk_layout.specs.Fronts.{PartsStand}

-- ---- places in lists that follow each other

pub get_front : {X : Type 0} (xs ys : List X) (k : ℕ) → k < length xs → slice_get (xs ++ ys) k ≡ slice_get xs k
get_front [] ys k lt = absurd (omega arith)
get_front (x ∷ xs) ys zero lt = refl
get_front (x ∷ xs) ys (suc k) lt = get_front xs ys k (omega arith)

pub get_behind : {X : Type 0} (xs ys : List X) (n k j : ℕ) → length xs ≡ n → n + j ≡ k → slice_get (xs ++ ys) k ≡ slice_get ys j
get_behind [] ys n k j e at = let same : k ≡ j = omega arith in ap (slice_get ys) same
get_behind (x ∷ xs) ys n zero j e at = absurd (omega arith)
get_behind (x ∷ xs) ys n (suc k) j e at = get_behind xs ys (length xs) k j refl (omega arith)

pub length-each : (f : ℕ → ProofPart) (n : ℕ) → length (each f n) ≡ n
unfolding each
length-each f n = length-map-range_with_len f 0 n

pub get_each : (f : ℕ → ProofPart) (n k : ℕ) → k < n → slice_get (each f n) k ≡ Some (f k)
unfolding each
get_each f n k lt =
    slice_get-get_or (map f (range_with_len 0 n)) k Magic (omega (arith, length-map-range_with_len f 0 n))
    ∙ ap (λ (x : ProofPart). Some x) (get_or-map-range_with_len f 0 n k k Magic lt (omega arith))

pub each_front : (f : ℕ → ProofPart) (n : ℕ) (others : List ProofPart) (k : ℕ) → k < n → slice_get (each f n ++ others) k ≡ Some (f k)
each_front f n others k lt = get_front (each f n) others k (omega (arith, length-each f n)) ∙ get_each f n k lt

pub each_behind : (f : ℕ → ProofPart) (n : ℕ) (others : List ProofPart) (k : ℕ) → n ≤ k → slice_get (each f n ++ others) k ≡ slice_get others (k - n)
each_behind f n others k le = get_behind (each f n) others n k (k - n) (length-each f n) (omega arith)

-- ---- opened columns

length-column : (rows k : ℕ) → length (column_parts rows k) ≡ 1 + rows
length-column rows k = let e = length-each (Column k) rows in omega (arith, e)

columns_front : (rows a n c r k : ℕ) (others : List ProofPart) → c < n → r < 1 + rows → k ≡ c * (1 + rows) + r
    → slice_get (flat_map (column_parts rows) (range_with_len a n) ++ others) k ≡ slice_get (column_parts rows (a + c)) r
columns_front rows a zero c r k others lt less at = absurd (omega arith)
columns_front rows a (suc n) zero r k others lt less at =
    let here : k ≡ r = omega arith in
    let same : a + 0 ≡ a = omega arith in
    let columns = flat_map (column_parts rows) (range_with_len (a + 1) n) in
    ap (λ (xs : List ProofPart). slice_get xs k) (append_assoc (column_parts rows a) columns others)
    ∙ get_front (column_parts rows a) (columns ++ others) k (omega (arith, length-column rows a))
    ∙ ap (slice_get (column_parts rows a)) here ∙ ap (λ (i : ℕ). slice_get (column_parts rows i) r) (sym same)
columns_front rows a (suc n) (suc c) r k others lt less at =
    let j : ℕ = c * (1 + rows) + r in
    let at' : (1 + rows) + j ≡ k = grind (arith, at) in
    let same : (a + 1) + c ≡ a + suc c = omega arith in
    let columns = flat_map (column_parts rows) (range_with_len (a + 1) n) in
    ap (λ (xs : List ProofPart). slice_get xs k) (append_assoc (column_parts rows a) columns others)
    ∙ get_behind (column_parts rows a) (columns ++ others) (1 + rows) k j (length-column rows a) at'
    ∙ columns_front rows (a + 1) n c r j others (omega arith) less refl ∙ ap (λ (i : ℕ). slice_get (column_parts rows i) r) same

pub opened_nonce : (rows n c k : ℕ) (others : List ProofPart) → c < n → k ≡ c * (1 + rows) → slice_get (opened_parts rows n ++ others) k ≡ Some (Nonce c)
unfolding opened_parts
opened_nonce rows n c k others lt at = columns_front rows 0 n c 0 k others lt (omega arith) (omega arith) ∙ ap (λ (i : ℕ). Some (Nonce i)) (let e : 0 + c ≡ c = omega arith in e)

pub opened_element : (rows n c r k : ℕ) (others : List ProofPart) → c < n → r < rows → k ≡ c * (1 + rows) + 1 + r → slice_get (opened_parts rows n ++ others) k ≡ Some (Column c r)
unfolding opened_parts
opened_element rows n c r k others lt less at =
    columns_front rows 0 n c (suc r) k others lt (omega arith) (omega arith) ∙ get_each (Column (0 + c)) rows r less ∙ ap (λ (i : ℕ). Some (Column i r)) (let e : 0 + c ≡ c = omega arith in e)

length-columns : (rows a n : ℕ) → length (flat_map (column_parts rows) (range_with_len a n)) ≡ n * (1 + rows)
length-columns rows a zero = omega arith
length-columns rows a (suc n) =
    let columns = flat_map (column_parts rows) (range_with_len (a + 1) n) in
    let both = length-append (column_parts rows a) columns in
    let one = length-column rows a in
    let others = length-columns rows (a + 1) n in
    grind (arith, both, one, others)

pub length-opened : (rows n : ℕ) → length (opened_parts rows n) ≡ n * (1 + rows)
unfolding opened_parts
length-opened rows n = length-columns rows 0 n

pub opened_behind : (rows n : ℕ) (others : List ProofPart) (k : ℕ) → n * (1 + rows) ≤ k → slice_get (opened_parts rows n ++ others) k ≡ slice_get others (k - n * (1 + rows))
opened_behind rows n others k le = get_behind (opened_parts rows n) others (n * (1 + rows)) k (k - n * (1 + rows)) (length-opened rows n) (omega arith)

-- ---- the elements sent, and the answers

module _ (p : Params) (others : List ProofPart) (k : ℕ) where
  abbrev from_tail : List ProofPart
  from_tail = each QuadTail (p.dblock - p.block) ++ others

  abbrev from_head : List ProofPart
  from_head = each QuadHead opened_count ++ from_tail

  abbrev from_dot : List ProofPart
  from_dot = each Dot p.dblock ++ from_head

  abbrev from_ldt : List ProofPart
  from_ldt = each Ldt p.block ++ from_dot

  pub message_at : k < p.nsum → slice_get (element_parts p others) k ≡ Some (Message k)
  unfolding element_parts
  message_at lt = each_front Message p.nsum from_ldt k lt

  past_messages : p.nsum ≤ k → slice_get (element_parts p others) k ≡ slice_get from_ldt (k - p.nsum)
  unfolding element_parts
  past_messages le = each_behind Message p.nsum from_ldt k le

  pub ldt_at : p.nsum ≤ k → k - p.nsum < p.block → slice_get (element_parts p others) k ≡ Some (Ldt (k - p.nsum))
  ldt_at a lt = past_messages a ∙ each_front Ldt p.block from_dot (k - p.nsum) lt

  past_ldt : p.nsum ≤ k → p.block ≤ k - p.nsum → slice_get (element_parts p others) k ≡ slice_get from_dot (k - p.nsum - p.block)
  past_ldt a b = past_messages a ∙ each_behind Ldt p.block from_dot (k - p.nsum) b

  pub dot_at : p.nsum ≤ k → p.block ≤ k - p.nsum → k - p.nsum - p.block < p.dblock → slice_get (element_parts p others) k ≡ Some (Dot (k - p.nsum - p.block))
  dot_at a b lt = past_ldt a b ∙ each_front Dot p.dblock from_head (k - p.nsum - p.block) lt

  past_dot : p.nsum ≤ k → p.block ≤ k - p.nsum → p.dblock ≤ k - p.nsum - p.block → slice_get (element_parts p others) k ≡ slice_get from_head (k - p.nsum - p.block - p.dblock)
  past_dot a b d = past_ldt a b ∙ each_behind Dot p.dblock from_head (k - p.nsum - p.block) d

  pub head_at : p.nsum ≤ k → p.block ≤ k - p.nsum → p.dblock ≤ k - p.nsum - p.block → k - p.nsum - p.block - p.dblock < opened_count
      → slice_get (element_parts p others) k ≡ Some (QuadHead (k - p.nsum - p.block - p.dblock))
  head_at a b d lt = past_dot a b d ∙ each_front QuadHead opened_count from_tail (k - p.nsum - p.block - p.dblock) lt

  past_head : p.nsum ≤ k → p.block ≤ k - p.nsum → p.dblock ≤ k - p.nsum - p.block → opened_count ≤ k - p.nsum - p.block - p.dblock
      → slice_get (element_parts p others) k ≡ slice_get from_tail (k - p.nsum - p.block - p.dblock - opened_count)
  past_head a b d e = past_dot a b d ∙ each_behind QuadHead opened_count from_tail (k - p.nsum - p.block - p.dblock) e

  pub tail_at : p.nsum ≤ k → p.block ≤ k - p.nsum → p.dblock ≤ k - p.nsum - p.block → opened_count ≤ k - p.nsum - p.block - p.dblock → k - p.nsum - p.block - p.dblock - opened_count < p.dblock - p.block
      → slice_get (element_parts p others) k ≡ Some (QuadTail (k - p.nsum - p.block - p.dblock - opened_count))
  tail_at a b d e lt = past_head a b d e ∙ each_front QuadTail (p.dblock - p.block) others (k - p.nsum - p.block - p.dblock - opened_count) lt

  pub past_elements : p.nsum ≤ k → p.block ≤ k - p.nsum → p.dblock ≤ k - p.nsum - p.block → opened_count ≤ k - p.nsum - p.block - p.dblock → p.dblock - p.block ≤ k - p.nsum - p.block - p.dblock - opened_count
      → slice_get (element_parts p others) k ≡ slice_get others (k - p.nsum - p.block - p.dblock - opened_count - (p.dblock - p.block))
  past_elements a b d e f = past_head a b d e ∙ each_behind QuadTail (p.dblock - p.block) others (k - p.nsum - p.block - p.dblock - opened_count) f

-- ---- each part stands at its number

-- what holds of the parts of one sort, and of those behind them, at their numbers, holds of all
each_stand : (f : ℕ → ProofPart) (n : ℕ) (others : List ProofPart) (P : ℕ → ProofPart → Type 0) → ((i : ℕ) → i < n → P i (f i))
    → ((j : ℕ) (part : ProofPart) → slice_get others j ≡ Some part → P (n + j) part) → (k : ℕ) (part : ProofPart) → slice_get (each f n ++ others) k ≡ Some part → P k part
each_stand f n others P here more k part e =
    elim (cases_lt k n) [
      | inl lt ↦
          let found : ◌≡◌ {A = Option ProofPart} (Some (f k)) (Some part) = sym (each_front f n others k lt) ∙ e in
          let same : f k ≡ part = cc in
          subst (λ (x : ProofPart). P k x) same (here k lt)
      | inr le ↦
          let at : n + (k - n) ≡ k = omega arith in
          subst (λ (j : ℕ). P j part) at (more (k - n) part (sym (each_behind f n others k le) ∙ e))
    ]

column_stands : (rows c : ℕ) (P : ℕ → ProofPart → Type 0) → P 0 (Nonce c) → ((r : ℕ) → r < rows → P (1 + r) (Column c r))
    → (k : ℕ) (part : ProofPart) → slice_get (column_parts rows c) k ≡ Some part → P k part
column_stands rows c P nonce more zero part e = let same : Nonce c ≡ part = cc in subst (λ (x : ProofPart). P 0 x) same nonce
column_stands rows c P nonce more (suc r) part e =
    elim (cases_lt r rows) [
      | inl lt ↦
          let found : ◌≡◌ {A = Option ProofPart} (Some (Column c r)) (Some part) = sym (get_each (Column c) rows r lt) ∙ e in
          let same : Column c r ≡ part = cc in
          let at : 1 + r ≡ suc r = omega arith in
          subst (λ (x : ProofPart). P (suc r) x) same (subst (λ (j : ℕ). P j (Column c r)) at (more r lt))
      | inr le ↦
          let none : ◌≡◌ {A = Option ProofPart} None (Some part) = sym (slice_get_past (each (Column c) rows) r (omega (arith, length-each (Column c) rows))) ∙ e in
          absurd cc
    ]

columns_stand : (rows a n : ℕ) (others : List ProofPart) (P : ℕ → ProofPart → Type 0)
    → ((c : ℕ) → c < n → P (c * (1 + rows)) (Nonce (a + c))) → ((c r : ℕ) → c < n → r < rows → P (c * (1 + rows) + 1 + r) (Column (a + c) r))
    → ((j : ℕ) (part : ProofPart) → slice_get others j ≡ Some part → P (n * (1 + rows) + j) part)
    → (k : ℕ) (part : ProofPart) → slice_get (flat_map (column_parts rows) (range_with_len a n) ++ others) k ≡ Some part → P k part
columns_stand rows a zero others P nonces elements more k part e = let at : 0 * (1 + rows) + k ≡ k = omega arith in subst (λ (j : ℕ). P j part) at (more k part e)
columns_stand rows a (suc n) others P nonces elements more k part e =
    let columns = flat_map (column_parts rows) (range_with_len (a + 1) n) in
    let here : a + 0 ≡ a = omega arith in
    let apart = ap (λ (xs : List ProofPart). slice_get xs k) (append_assoc (column_parts rows a) columns others) in
    elim (cases_lt k (1 + rows)) [
      | inl lt ↦
          let first : P 0 (Nonce a) = subst (λ (i : ℕ). P 0 (Nonce i)) here (subst (λ (j : ℕ). P j (Nonce (a + 0))) (let z : 0 * (1 + rows) ≡ 0 = omega arith in z) (nonces 0 (omega arith))) in
          column_stands rows a P first
          (λ r less. subst (λ (i : ℕ). P (1 + r) (Column i r)) here (subst (λ (j : ℕ). P j (Column (a + 0) r)) (let z : 0 * (1 + rows) + 1 + r ≡ 1 + r = omega arith in z) (elements 0 r (omega arith) less)))
          k part (sym (get_front (column_parts rows a) (columns ++ others) k (omega (arith, length-column rows a))) ∙ sym apart ∙ e)
      | inr le ↦
          let j : ℕ = k - (1 + rows) in
          let at : (1 + rows) + j ≡ k = omega arith in
          let next : (c : ℕ) → (a + 1) + c ≡ a + suc c = λ c. omega arith in
          subst (λ (i : ℕ). P i part) at
          (columns_stand rows (a + 1) n others (λ i x. P ((1 + rows) + i) x)
          (λ c lt. subst (λ (i : ℕ). P ((1 + rows) + c * (1 + rows)) (Nonce i)) (sym (next c)) (subst (λ (i : ℕ). P i (Nonce (a + suc c))) (let z : suc c * (1 + rows) ≡ (1 + rows) + c * (1 + rows) = grind arith in z) (nonces (suc c) (omega arith))))
          (λ c r lt less. subst (λ (i : ℕ). P ((1 + rows) + (c * (1 + rows) + 1 + r)) (Column i r)) (sym (next c))
          (subst (λ (i : ℕ). P i (Column (a + suc c) r)) (let z : suc c * (1 + rows) + 1 + r ≡ (1 + rows) + (c * (1 + rows) + 1 + r) = grind arith in z) (elements (suc c) r (omega arith) less)))
          (λ i x f. subst (λ (l : ℕ). P l x) (let z : suc n * (1 + rows) + i ≡ (1 + rows) + (n * (1 + rows) + i) = grind arith in z) (more i x f))
          j part (sym (get_behind (column_parts rows a) (columns ++ others) (1 + rows) k j (length-column rows a) at) ∙ sym apart ∙ e))
    ]

-- the number of a part, and that there is one
abbrev Stands : Params → ℕ → ℕ → ProofPart → Type 0
Stands p digests k part = (k ≡ number_of p part) × HasPart p digests part

path_stands : (p : Params) (digests k : ℕ) (part : ProofPart) → slice_get (path_parts digests) k ≡ Some part → Stands p digests (before_count p + k) part
path_stands p digests zero part e = let same : Count ≡ part = cc in subst (λ (x : ProofPart). Stands p digests (before_count p + 0) x) same (omega arith, tt)
path_stands p digests (suc k) part e =
    elim (cases_lt k digests) [
      | inl lt ↦
          let found : ◌≡◌ {A = Option ProofPart} (Some (Digest k)) (Some part) = sym (get_each Digest digests k lt) ∙ e in
          let same : Digest k ≡ part = cc in
          subst (λ (x : ProofPart). Stands p digests (before_count p + suc k) x) same (omega arith, lt)
      | inr le ↦
          let none : ◌≡◌ {A = Option ProofPart} None (Some part) = sym (slice_get_past (each Digest digests) k (omega (arith, length-each Digest digests))) ∙ e in
          absurd cc
    ]

opened_stand : (p : Params) (digests k : ℕ) (part : ProofPart) → slice_get (opened_parts p.nrow opened_count ++ path_parts digests) k ≡ Some part → Stands p digests (before_opened p + k) part
unfolding opened_parts
opened_stand p digests k part e =
    columns_stand p.nrow 0 opened_count (path_parts digests) (λ j x. Stands p digests (before_opened p + j) x)
    (λ c lt. (ap (λ (i : ℕ). before_opened p + i * (1 + p.nrow)) (let z : c ≡ 0 + c = omega arith in z), omega arith))
    (λ c r lt less. (at c r, (omega arith, less)))
    (λ j x f. subst (λ (i : ℕ). Stands p digests i x) (let z : before_count p + j ≡ before_opened p + (opened_count * (1 + p.nrow) + j) = omega arith in z) (path_stands p digests j x f))
    k part e
  where
    at : (c r : ℕ) → before_opened p + (c * (1 + p.nrow) + 1 + r) ≡ before_opened p + (0 + c) * (1 + p.nrow) + 1 + r
    at c r = let same : 0 + c ≡ c = omega arith in rw same (omega arith)

elements_stand : (p : Params) (digests k : ℕ) (part : ProofPart) → slice_get (element_parts p (opened_parts p.nrow opened_count ++ path_parts digests)) k ≡ Some part → Stands p digests (3 + k) part
unfolding element_parts
elements_stand p digests =
    each_stand Message p.nsum _ (λ k x. Stands p digests (3 + k) x) (λ i lt. (omega arith, lt)) (λ j x e. subst (λ (k : ℕ). Stands p digests k x) (omega arith)
    (each_stand Ldt p.block _ (λ k x. Stands p digests (before_ldt p + k) x) (λ i lt. (omega arith, lt)) (λ j x e. subst (λ (k : ℕ). Stands p digests k x) (omega arith)
    (each_stand Dot p.dblock _ (λ k x. Stands p digests (before_dot p + k) x) (λ i lt. (omega arith, lt)) (λ j x e. subst (λ (k : ℕ). Stands p digests k x) (omega arith)
    (each_stand QuadHead opened_count _ (λ k x. Stands p digests (before_head p + k) x) (λ i lt. (omega arith, lt)) (λ j x e. subst (λ (k : ℕ). Stands p digests k x) (omega arith)
    (each_stand QuadTail (p.dblock - p.block) _ (λ k x. Stands p digests (before_tail p + k) x) (λ i lt. (omega arith, lt)) (λ j x e. subst (λ (k : ℕ). Stands p digests k x) (omega arith)
    (opened_stand p digests j x e)) j x e)) j x e)) j x e)) j x e))

pub parts_stand : (p : Params) → PartsStand p
unfolding parts
parts_stand p digests zero part e = let same : Magic ≡ part = cc in subst (λ (x : ProofPart). Stands p digests 0 x) same (refl, tt)
parts_stand p digests (suc zero) part e = let same : Id ≡ part = cc in subst (λ (x : ProofPart). Stands p digests 1 x) same (refl, tt)
parts_stand p digests (suc (suc zero)) part e = let same : Root ≡ part = cc in subst (λ (x : ProofPart). Stands p digests 2 x) same (refl, tt)
parts_stand p digests (suc (suc (suc k))) part e = subst (λ (j : ℕ). Stands p digests j part) (omega arith) (elements_stand p digests k part e)
