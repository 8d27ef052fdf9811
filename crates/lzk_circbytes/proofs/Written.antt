-- What is written, as a loop does it.
use Rattle.std.proofs.Common.{◌≡◌, ◌⊎◌, inl, inr, map, reverse, drop-cons, get_or, Ok, Err, ℕ, zero, suc, ◌+◌, ◌-◌, ◌<◌, ◌≤◌, List, [], ◌∷◌, ◌++◌, length, drop, Option, None, Some, ◌/◌, ◌%◌, ◌^◌, refl, sym, ap, subst, ◌∙◌, append_assoc, arith, slice_index}
use Rattle.std.specs.Prelude.{slice_get}
use Rattle.std.specs.Int.{w32, to_le_bytes}
use Rattle.std.specs.Ordering.{nat_cmp}
use Rattle.std.specs.List.Sorted.{IsStrictlyIncreasing, IsBinarySearchResult}
use Rattle.std.proofs.lemmas.List.{append-nil, length-map, drop_all}
use Rattle.std.proofs.lemmas.List.{get_or-reverse, get_or-map}
use Rattle.std.proofs.lemmas.Option.{same_Some, get_or_from_slice_get}
use native.Mathlib.Decide.{dec_lt}
use Rattle.std.proofs.lemmas.List.Sorted.{searched}
use Rattle.lzk_field.specs.Bytes.{bytes_of}
use Rattle.lzk_circuit.specs.declared.layer.Layer.{Layer}
use Rattle.lzk_circuit.specs.Valid.{Under, above_inputs, above_layer}
use Rattle.lzk_circbytes.specs.Numbered.{Shape, numbered_term, numbered_layer, coefficients}
use Rattle.lzk_circuit.specs.declared.layer.Term.{Term}
use Rattle.lzk_circbytes.specs.Reading.{as_last, as_before, wire_before}
use Rattle.lzk_circbytes.specs.Spelling.{spells, septets, constants_bytes, layer_bytes, layers_bytes, term_bytes, varint, index_of}
use Rattle.lzk_circbytes.specs.Fits.{FitAlong, CanWrite, CanWriteAll, CanWriteLayers}
use Rattle.lzk_circbytes.specs.Recent.{HaveSame}
use Rattle.lzk_circbytes.proofs.Varints.{septets_big}
use Rattle.lzk_circbytes.proofs.Recent.{same_go_on}
use Rattle.lzk_circbytes.proofs.Marking.{same_or_not, before_is_less, differ}
use Rattle.lzk_circbytes.proofs.Layers.{found_index}

-- the terms that are still to be written, behind wire g, and what was written so far
pub record TermsLeft (cs : List ℕ) (g : ℕ) (left : List (Term ℕ)) (now start : List ℕ) (terms : List (Term ℕ)) : Type 0 where
  pub before : Option (Term ℕ)
  pub wire : wire_before before ≡ g
  pub fit : FitAlong as_before (CanWrite cs) before left
  pub written : now ++ spells as_before (term_bytes cs) before left ≡ start ++ spells as_before (term_bytes cs) None terms

pub terms_begin : (cs start : List ℕ) (terms : List (Term ℕ)) → FitAlong as_before (CanWrite cs) None terms → TermsLeft cs 0 terms start start terms
terms_begin cs start terms fit = record { before = None; wire = refl; fit = fit; written = refl }

-- what lets the next term be written behind wire g
pub record IsNext (cs : List ℕ) (g : ℕ) (t : Term ℕ) : Type 0 where
  pub rising : g ≤ t.g
  pub a : t.a ≤ t.b
  pub number : index_of cs t.coef < length cs

pub next_left : {A : Type 0} (view : Term A → Term ℕ) (cs : List ℕ) (g : ℕ) (ts : List (Term A)) (i : ℕ) (t : Term A) (now start : List ℕ) → i < length ts → t ≡ get_or ts i t → TermsLeft cs g (map view (drop i ts)) now start (map view ts) → IsNext cs g (view t)
next_left view cs g ts i t now start lt is left =
    let parts : drop i ts ≡ t ∷ drop (suc i) ts = drop-cons ts i t lt ∙ ap (λ x. x ∷ drop (suc i) ts) (sym is) in
    let h = subst (λ (us : List (Term _)). TermsLeft cs g (map view us) now start (map view ts)) parts left in
    let can = h.fit.0 in
    record { rising = omega (arith, can.rising, h.wire); a = can.a; number = can.number }

-- one more term
pub terms_go_on : (cs : List ℕ) (g : ℕ) (t : Term ℕ) (left : List (Term ℕ)) (now start next : List ℕ) (terms : List (Term ℕ)) → TermsLeft cs g (t ∷ left) now start terms
    → next ≡ (((now ++ varint (t.g - g)) ++ varint t.a) ++ varint (t.b - t.a)) ++ varint (index_of cs t.coef) → TermsLeft cs t.g left next start terms
unfolding spells term_bytes
terms_go_on cs g t left now start next terms h e = record {
  before = Some t;
  wire = refl;
  fit = h.fit.1;
  written =
      let vg = varint (t.g - g) in
      let va = varint t.a in
      let vb = varint (t.b - t.a) in
      let vk = varint (index_of cs t.coef) in
      let rest = spells as_before (term_bytes cs) (Some t) left in
      let regrouped : ((((now ++ vg) ++ va) ++ vb) ++ vk) ++ rest ≡ now ++ ((vg ++ (va ++ (vb ++ vk))) ++ rest) = simp append_assoc in
      ap (λ (xs : List ℕ). xs ++ rest) e ∙ regrouped ∙ ap (λ (w : ℕ). now ++ ((varint (t.g - w) ++ (va ++ (vb ++ vk))) ++ rest)) (sym h.wire) ∙ h.written;
}

pub terms_end : (cs : List ℕ) (g : ℕ) (now start : List ℕ) (terms : List (Term ℕ)) → TermsLeft cs g [] now start terms → now ≡ start ++ spells as_before (term_bytes cs) None terms
unfolding spells
terms_end cs g now start terms h = sym (append-nil now) ∙ h.written

-- a layer's counts and terms, one behind the other
pub layer_written : (cs : List ℕ) (u : Under) (layer : Layer ℕ) (old one two three : List ℕ) → one ≡ old ++ to_le_bytes w32 layer.wires → two ≡ one ++ to_le_bytes w32 (length layer.terms)
    → three ≡ two ++ spells as_before (term_bytes cs) None layer.terms → three ≡ old ++ layer_bytes cs u layer
unfolding layer_bytes
layer_written cs u layer old one two three e1 e2 e3 =
    let a = to_le_bytes w32 layer.wires in
    let b = to_le_bytes w32 (length layer.terms) in
    let ts = spells as_before (term_bytes cs) None layer.terms in
    e3 ∙ ap (λ (x : List ℕ). x ++ ts) (e2 ∙ ap (λ (x : List ℕ). x ++ b) e1) ∙ append_assoc (old ++ a) b ts ∙ append_assoc old a (b ++ ts)

-- ---- varints and constants

pub septets_on : (now mid old : List ℕ) (k n : ℕ) → 1 ≤ k → 128 ≤ n → mid ≡ old ++ (128 + n % 128) ∷ [] → now ≡ mid ++ septets (k - 1) (n / 128) → now ≡ old ++ septets k n
septets_on now mid old k n some big e h =
    h ∙ ap (λ (xs : List ℕ). xs ++ septets (k - 1) (n / 128)) e ∙ append_assoc old ((128 + n % 128) ∷ []) (septets (k - 1) (n / 128)) ∙ ap (λ (xs : List ℕ). old ++ xs) (sym (septets_big k n some big))

-- bytes that were pushed in turn
pub two_on : (old one two : List ℕ) (x y : ℕ) (whole : List ℕ) → one ≡ old ++ x ∷ [] → two ≡ one ++ y ∷ [] → whole ≡ x ∷ y ∷ [] → two ≡ old ++ whole
two_on old one two x y whole e f is =
    f ∙ ap (λ (xs : List ℕ). xs ++ y ∷ []) e ∙ append_assoc old (x ∷ []) (y ∷ []) ∙ ap (λ (xs : List ℕ). old ++ xs) (sym is)

pub three_on : (old one two three : List ℕ) (x y z : ℕ) (whole : List ℕ) → one ≡ old ++ x ∷ [] → two ≡ one ++ y ∷ [] → three ≡ two ++ z ∷ [] → whole ≡ x ∷ y ∷ z ∷ [] → three ≡ old ++ whole
three_on old one two three x y z whole e f g is =
    g ∙ ap (λ (xs : List ℕ). xs ++ z ∷ []) (two_on old one two x y (x ∷ y ∷ []) e f refl) ∙ append_assoc old (x ∷ y ∷ []) (z ∷ []) ∙ ap (λ (xs : List ℕ). old ++ xs) (sym is)

pub bytes_go_on : (now next start : List ℕ) (count i rest : ℕ) (all : List ℕ) → i < count → next ≡ now ++ (rest % 256) ∷ [] → now ++ bytes_of (count - i) rest ≡ start ++ all → next ++ bytes_of (count - (i + 1)) (rest / 256) ≡ start ++ all
bytes_go_on now next start count i rest all lt e h =
    let k : count - i ≡ suc (count - (i + 1)) = omega arith in
    ap (λ (xs : List ℕ). xs ++ bytes_of (count - (i + 1)) (rest / 256)) e ∙ append_assoc now ((rest % 256) ∷ []) (bytes_of (count - (i + 1)) (rest / 256))
    ∙ ap (λ (j : ℕ). now ++ bytes_of j rest) (sym k) ∙ h

constants_state : (k a b : ℕ) (cs : List ℕ) → spells as_last (λ x c. bytes_of k c) a cs ≡ spells as_last (λ x c. bytes_of k c) b cs
unfolding spells
constants_state k a b [] = refl
constants_state k a b (c ∷ cs) = refl

pub constants_cons : (shape : Shape) (c : ℕ) (cs : List ℕ) → constants_bytes shape (c ∷ cs) ≡ bytes_of shape.bytes c ++ constants_bytes shape cs
unfolding constants_bytes spells
constants_cons shape c cs = ap (λ (xs : List ℕ). bytes_of shape.bytes c ++ xs) (constants_state shape.bytes c 0 cs)

pub constants_go_on : (shape : Shape) (now next start : List ℕ) (i width : ℕ) (cs all : List ℕ) → i < length cs → width ≡ shape.bytes → next ≡ now ++ bytes_of width (get_or cs i 0) → now ++ constants_bytes shape (drop i cs) ≡ start ++ all
    → next ++ constants_bytes shape (drop (i + 1) cs) ≡ start ++ all
constants_go_on shape now next start i width cs all lt w e h =
    let c = get_or cs i 0 in
    let k : suc i ≡ i + 1 = omega arith in
    let parts : drop i cs ≡ c ∷ drop (i + 1) cs = drop-cons cs i 0 lt ∙ ap (λ (j : ℕ). c ∷ drop j cs) k in
    ap (λ (xs : List ℕ). xs ++ constants_bytes shape (drop (i + 1) cs)) (e ∙ ap (λ (n : ℕ). now ++ bytes_of n c) w)
    ∙ append_assoc now (bytes_of shape.bytes c) (constants_bytes shape (drop (i + 1) cs))
    ∙ ap (λ (xs : List ℕ). now ++ xs) (sym (ap (constants_bytes shape) parts ∙ constants_cons shape c (drop (i + 1) cs))) ∙ h

pub constants_end : (shape : Shape) (now all : List ℕ) (i : ℕ) (cs : List ℕ) → length cs ≤ i → now ++ constants_bytes shape (drop i cs) ≡ all → now ≡ all
unfolding constants_bytes spells
constants_end shape now all i cs le h =
    let none : drop i cs ≡ [] = drop_all i cs le in
    sym (append-nil now) ∙ ap (λ (xs : List ℕ). now ++ constants_bytes shape xs) (sym none) ∙ h

-- ---- where a number stands

monotone : (xs : List ℕ) → IsStrictlyIncreasing xs → (i j : ℕ) → i ≤ j → j < length xs → get_or xs i 0 ≤ get_or xs j 0
monotone xs up i j le lt =
    elim (same_or_not i j) [
      | inl same ↦ omega (arith, ap (λ k. get_or xs k 0) same)
      | inr other ↦ omega (arith, before_is_less xs up i j (omega (arith, le, other)) lt)
    ]

pub place_at : (xs : List ℕ) (n k : ℕ) → IsStrictlyIncreasing xs → index_of xs n < length xs → k < length xs → slice_index xs k ≡ n → k ≡ index_of xs n
place_at xs n k up found lt is =
    elim (same_or_not k (index_of xs n)) [
      | inl same ↦ same
      | inr other ↦ absurd (differ xs up k (index_of xs n) other lt found (is ∙ sym (found_index xs n found)))
    ]

pub place_is : (xs : List ℕ) (n k : ℕ) → IsStrictlyIncreasing xs → index_of xs n < length xs → IsBinarySearchResult (λ y. nat_cmp y n) xs (Ok k) → k ≡ index_of xs n
place_is xs n k up found h =
    let s = searched xs n (Ok k) h (monotone xs up) in
    place_at xs n k up found s.0 s.1

pub place_there : (xs : List ℕ) (n k : ℕ) → IsStrictlyIncreasing xs → index_of xs n < length xs → IsBinarySearchResult (λ y. nat_cmp y n) xs (Err k) → ⊥
place_there xs n k up found h =
    let s = searched xs n (Err k) h (monotone xs up) in
    let there : slice_index xs (index_of xs n) ≡ n = found_index xs n found in
    elim (below_or (index_of xs n) k) [
      | inl lt ↦ omega (arith, there, s.1 (index_of xs n) lt)
      | inr ge ↦ omega (arith, there, s.2 (index_of xs n) ge found)
    ]
  where
    below_or : (i j : ℕ) → (i < j) ⊎ (j ≤ i)
    below_or i j = elim (dec_lt i j) [ yes lt ↦ inl lt | no ge ↦ inr (omega arith) ]

-- ---- layers

layers_state : (cs : List ℕ) (s t : Under) (ls : List (Layer ℕ)) → spells above_layer (layer_bytes cs) s ls ≡ spells above_layer (layer_bytes cs) t ls
unfolding spells layer_bytes
layers_state cs s t [] = refl
layers_state cs s t (l ∷ ls) = ap (λ (xs : List ℕ). layer_bytes cs s l ++ xs) (layers_state cs (above_layer s l) (above_layer t l) ls)

layer_state : (cs : List ℕ) (s t : Under) (l : Layer ℕ) → layer_bytes cs s l ≡ layer_bytes cs t l
unfolding layer_bytes
layer_state cs s t l = refl

pub layers_bytes_state : (cs : List ℕ) (m n : ℕ) (ls : List (Layer ℕ)) → layers_bytes cs m ls ≡ layers_bytes cs n ls
layers_bytes_state cs m n ls = layers_state cs (above_inputs m) (above_inputs n) ls

layers_cons : (cs : List ℕ) (s : Under) (l : Layer ℕ) (ls : List (Layer ℕ)) → layers_bytes cs 0 (l ∷ ls) ≡ layer_bytes cs s l ++ layers_bytes cs 0 ls
unfolding spells
layers_cons cs s l ls =
    ap (λ (xs : List ℕ). xs ++ spells above_layer (layer_bytes cs) (above_layer (above_inputs 0) l) ls) (layer_state cs (above_inputs 0) s l)
    ∙ ap (λ (xs : List ℕ). layer_bytes cs s l ++ xs) (layers_state cs (above_layer (above_inputs 0) l) (above_inputs 0) ls)

pub layers_go_on : (cs : List ℕ) (s : Under) (now next start : List ℕ) (i : ℕ) (l : Layer ℕ) (ls : List (Layer ℕ)) (all : List ℕ) → i < length ls → get_or ls i l ≡ l → next ≡ now ++ layer_bytes cs s l
    → now ++ layers_bytes cs 0 (drop i ls) ≡ start ++ all → next ++ layers_bytes cs 0 (drop (i + 1) ls) ≡ start ++ all
layers_go_on cs s now next start i l ls all lt is e h =
    let k : suc i ≡ i + 1 = omega arith in
    let parts : drop i ls ≡ l ∷ drop (i + 1) ls = drop-cons ls i l lt ∙ ap (λ (x : Layer ℕ). x ∷ drop (suc i) ls) is ∙ ap (λ (j : ℕ). l ∷ drop j ls) k in
    ap (λ (xs : List ℕ). xs ++ layers_bytes cs 0 (drop (i + 1) ls)) e ∙ append_assoc now (layer_bytes cs s l) (layers_bytes cs 0 (drop (i + 1) ls))
    ∙ ap (λ (xs : List ℕ). now ++ xs) (sym (ap (layers_bytes cs 0) parts ∙ layers_cons cs s l (drop (i + 1) ls))) ∙ h

pub layers_end : (cs now all : List ℕ) (i : ℕ) (ls : List (Layer ℕ)) → length ls ≤ i → now ++ layers_bytes cs 0 (drop i ls) ≡ all → now ≡ all
unfolding spells
layers_end cs now all i ls le h =
    let none : drop i ls ≡ [] = drop_all i ls le in
    sym (append-nil now) ∙ ap (λ (xs : List (Layer ℕ)). now ++ layers_bytes cs 0 xs) (sym none) ∙ h

-- the layer at a place can be written
pub can_write_at : {A : Type 0} (number : A → ℕ) (cs : List ℕ) (layers : List (Layer A)) (i : ℕ) (layer : Layer A) → CanWriteLayers cs (map (numbered_layer number) layers) → slice_get layers i ≡ Some layer
    → CanWriteAll cs (map (numbered_term number) layer.terms) × (length layer.terms < 2 ^ 32)
can_write_at number cs [] i layer h e = absurd cc
can_write_at number cs (l ∷ layers) zero layer h e =
    let same : l ≡ layer = same_Some l layer e in
    let len : length (map (numbered_term number) l.terms) ≡ length l.terms = length-map l.terms (numbered_term number) in
    subst (λ (x : Layer _). CanWriteAll cs (map (numbered_term number) x.terms) × (length x.terms < 2 ^ 32)) same (h.0, omega (arith, h.1, len))
can_write_at number cs (l ∷ layers) (suc i) layer h e = can_write_at number cs layers i layer h.2 e

-- from the last layer on
pub at_reverse : {A : Type 0} (number : A → ℕ) (layers : List (Layer A)) (i : ℕ) (layer : Layer A) → i < length layers → slice_get layers (length layers - 1 - i) ≡ Some layer
    → get_or (reverse (map (numbered_layer number) layers)) i (numbered_layer number layer) ≡ numbered_layer number layer
at_reverse number layers i layer lt e =
    let view = numbered_layer number in
    let len : length (map view layers) ≡ length layers = length-map layers view in
    get_or-reverse (map view layers) i (view layer) (omega (arith, lt, len)) ∙ ap (λ (n : ℕ). get_or (map view layers) (n - 1 - i) (view layer)) len
    ∙ get_or-map view layers (length layers - 1 - i) layer (view layer) (omega (arith, lt)) ∙ ap view (get_or_from_slice_get layers (length layers - 1 - i) layer layer e)

-- the coefficients of layers that are still to come
pub coefficients_go_on : {A : Type 0} (number : A → ℕ) (now next : List ℕ) (i : ℕ) (layers : List (Layer A)) (layer : Layer A) (all : List ℕ) → i < length layers → slice_get layers i ≡ Some layer
    → HaveSame next (now ++ map (λ t. t.coef) (map (numbered_term number) layer.terms)) → HaveSame (now ++ coefficients (map (numbered_layer number) (drop i layers))) all
    → HaveSame (next ++ coefficients (map (numbered_layer number) (drop (i + 1) layers))) all
coefficients_go_on number now next i layers layer all lt e1 step h =
    let view = numbered_layer number in
    let k : suc i ≡ i + 1 = omega arith in
    let parts : drop i layers ≡ layer ∷ drop (i + 1) layers =
    drop-cons layers i layer lt ∙ ap (λ (x : Layer _). x ∷ drop (suc i) layers) (get_or_from_slice_get layers i layer layer e1) ∙ ap (λ (j : ℕ). layer ∷ drop j layers) k in
    same_go_on now next (map (λ t. t.coef) (map (numbered_term number) layer.terms)) (coefficients (map view (drop (i + 1) layers))) all step
    (subst (λ (ls : List (Layer _)). HaveSame (now ++ coefficients (map view ls)) all) parts h)

-- the coefficients of terms that are still to come
pub term_goes_on : {A : Type 0} (number : A → ℕ) (now next : List ℕ) (i : ℕ) (terms : List (Term A)) (t : Term A) (all : List ℕ) → i < length terms → get_or terms i t ≡ t
    → HaveSame next (now ++ number t.coef ∷ []) → HaveSame (now ++ map (λ u. u.coef) (map (numbered_term number) (drop i terms))) all
    → HaveSame (next ++ map (λ u. u.coef) (map (numbered_term number) (drop (i + 1) terms))) all
term_goes_on number now next i terms t all lt is step h =
    let coefs : List (Term _) → List ℕ = λ ts. map (λ u. u.coef) (map (numbered_term number) ts) in
    let k : suc i ≡ i + 1 = omega arith in
    let parts : drop i terms ≡ t ∷ drop (i + 1) terms = drop-cons terms i t lt ∙ ap (λ (x : Term _). x ∷ drop (suc i) terms) is ∙ ap (λ (j : ℕ). t ∷ drop j terms) k in
    same_go_on now next (number t.coef ∷ []) (coefs (drop (i + 1) terms)) all step (subst (λ (ts : List (Term _)). HaveSame (now ++ coefs ts) all) parts h)
