-- All layers' values, and how wide they are.
use Rattle.std.specs.Prelude.{◌≡◌, ℕ, ◌+◌, ◌<◌, ◌≤◌, ◌++◌, List, [], ◌∷◌, length, map, take, drop, slice_set, Vec, None}
use Rattle.std.specs.declared.alloc.Global.{Global}
use Rattle.std.proofs.Common.{zero, suc, refl, sym, ap, ◌∙◌, arith, subst, get_or}
use Rattle.std.proofs.Math.ListN.{replicate}
use Rattle.std.specs.List.{AllByRecursion}
use Rattle.std.proofs.lemmas.List.{length-map, length-replicate, length-append, map-append, take_more}
use Rattle.std.proofs.lemmas.List.FromFn.{length-map-range_with_len}
use Rattle.lzk_field.specs.Ring.{Ops}
use Rattle.lzk_circuit.specs.declared.layer.Layer.{Layer}
use Rattle.lzk_circuit.specs.Wires.{coef, wire, layer_values, wires_of, all_values, inputs_of, list_at, AreLayerValues}
use Rattle.lzk_circuit.specs.Limits.{most_width}
use Rattle.lzk_circuit.specs.Valid.{Wiring, input_width, under_of, ArePlaced, AreLayersPlaced, AreLayersOf, IsValid, widths, HaveWidths}

pub nothing : {X : Type 0} (xs : List X) → length xs ≡ 0 → xs ≡ []
nothing [] e = refl
nothing (x ∷ xs) e = absurd (omega arith)

-- what lists on the heap hold
abbrev pub items_of : {A : Type 0} → List (Vec A Global) → List (List A)
items_of lists = map (λ list. list.items) lists

module _ {A : Type 0} where
  pub lengths-items : (lists : List (Vec A Global)) → map length (items_of lists) ≡ map (λ list. length list.items) lists
  lengths-items [] = refl
  lengths-items (v ∷ vs) = ap (λ ns. length v.items ∷ ns) (lengths-items vs)

  head_is : (xs ys : List (List A)) (x y : List A) → x ∷ xs ≡ y ∷ ys → x ≡ y
  head_is xs ys x y e = cc

module _ {A : Type 0} (o : Ops A) where
  pub wires-width : (layers : List (Layer A)) (inputs : List A) → length (wires_of o layers inputs) ≡ (under_of (length inputs) layers).width
  wires-width [] inputs = refl
  wires-width (layer ∷ layers) inputs = length-map-range_with_len (wire o (coef o layer.terms) (wires_of o layers inputs)) 0 layer.wires

  pub all-widths : (layers : List (Layer A)) (inputs : List A) → map length (all_values o layers inputs) ≡ map (λ layer. layer.wires) layers ++ length inputs ∷ []
  all-widths [] inputs = refl
  all-widths (layer ∷ layers) inputs = ap (λ n. n ∷ map length (all_values o layers inputs)) (wires-width (layer ∷ layers) inputs) ∙ ap (λ ns. layer.wires ∷ ns) (all-widths layers inputs)

  first-list : (layers : List (Layer A)) (inputs : List A) (lists : List (Vec A Global)) (d : Vec A Global) → items_of lists ≡ all_values o layers inputs → (get_or lists 0 d).items ≡ wires_of o layers inputs
  first-list [] inputs [] d e = cc
  first-list (layer ∷ layers) inputs [] d e = cc
  first-list [] inputs (v ∷ vs) d e = head_is (items_of vs) [] v.items inputs e
  first-list (layer ∷ layers) inputs (v ∷ vs) d e = head_is (items_of vs) (all_values o layers inputs) v.items (wires_of o (layer ∷ layers) inputs) e

  -- the first of the layers stands on the values of the others
  pub stands-on : (layers rest : List (Layer A)) (layer : Layer A) (inputs : List A) (n : ℕ) (lists : List (Vec A Global)) (d : Vec A Global) → layers ≡ layer ∷ rest → length inputs ≡ n → AreLayersPlaced n layers
      → items_of lists ≡ all_values o rest inputs → ArePlaced layer.wires (length (get_or lists 0 d).items) None layer.terms
  stands-on layers rest layer inputs n lists d front e h values =
      let h' : AreLayersPlaced n (layer ∷ rest) = subst (λ ls. AreLayersPlaced n ls) front h in
      let width : (under_of n rest).width ≡ length (get_or lists 0 d).items =
      ap (λ m. (under_of m rest).width) (sym e) ∙ sym (wires-width rest inputs) ∙ sym (ap length (first-list rest inputs lists d values)) in
      subst (λ m. ArePlaced layer.wires m None layer.terms) width h'.0

  pub next-values : (layers rest : List (Layer A)) (layer : Layer A) (inputs out : List A) (lists : List (Vec A Global)) (d : Vec A Global) → layers ≡ layer ∷ rest → items_of lists ≡ all_values o rest inputs
      → out ≡ layer_values o layer (get_or lists 0 d).items → out ∷ items_of lists ≡ all_values o layers inputs
  next-values layers rest layer inputs out lists d front values is =
      ap (λ x. x ∷ items_of lists) (is ∙ ap (layer_values o layer) (first-list rest inputs lists d values)) ∙ ap (λ xs. wires_of o (layer ∷ rest) inputs ∷ xs) values ∙ sym (ap (λ ls. all_values o ls inputs) front)

  layers-narrow : (version n : ℕ) (layers : List (Layer A)) → n ≤ most_width → AreLayersOf o version n layers → AllByRecursion (λ m. m ≤ most_width) (map (λ layer. layer.wires) layers ++ n ∷ [])
  layers-narrow version n [] l h = (l, tt)
  layers-narrow version n (layer ∷ layers) l h = let one = h.0 in (omega (arith, one.most), layers-narrow version n layers l h.1)

  lists-narrow : (ns : List ℕ) (lists : List (Vec A Global)) → map length (items_of lists) ≡ ns → AllByRecursion (λ m. m ≤ most_width) ns → AllByRecursion (λ list. length list.items ≤ most_width) lists
  lists-narrow ns [] e h = tt
  lists-narrow [] (v ∷ vs) e h = cc
  lists-narrow (n ∷ ns) (v ∷ vs) e h =
      let a : length v.items ≡ n = cc in
      let b : map length (items_of vs) ≡ ns = cc in
      let l = h.0 in
      (omega arith, lists-narrow ns vs b h.1)

  -- no list for a valid circuit is longer than a layer may be wide
  pub narrow : (c : Wiring A) (lists : List (Vec A Global)) → IsValid o c → HaveWidths c (items_of lists) → AllByRecursion (λ list. length list.items ≤ most_width) lists
  narrow c lists h e = lists-narrow (widths c) lists e (layers-narrow c.version (input_width c) c.layers (omega (arith, h.publics, h.privates)) h.layers)

  abbrev pub zero_lists : List ℕ → List (List A)
  zero_lists ns = map (λ n. replicate n o.zero) ns

  pub zeros-widths : (ns : List ℕ) → map length (zero_lists ns) ≡ ns
  zeros-widths [] = refl
  zeros-widths (n ∷ ns) = ap (λ m. m ∷ map length (zero_lists ns)) (length-replicate n o.zero) ∙ ap (λ ms. n ∷ ms) (zeros-widths ns)

  zero-entry : (n g : ℕ) → get_or (replicate n o.zero) g o.zero ≡ o.zero
  zero-entry zero g = refl
  zero-entry (suc n) zero = refl
  zero-entry (suc n) (suc g) = zero-entry n g

  pub are-zeros : (ns : List ℕ) (l g : ℕ) → get_or (get_or (zero_lists ns) l []) g o.zero ≡ o.zero
  are-zeros [] l g = refl
  are-zeros (n ∷ ns) zero g = zero-entry n g
  are-zeros (n ∷ ns) (suc l) g = are-zeros ns l g

  pub widths-count : (c : Wiring A) → length (widths c) ≡ length c.layers + 1
  widths-count c = length-append (map (λ layer. layer.wires) c.layers) (input_width c ∷ []) ∙ ap (λ n. n + 1) (length-map c.layers (λ layer. layer.wires))

  pub inputs-count : (public private : List A) → length (inputs_of o public private) ≡ 1 + length public + length private
  inputs-count public private = omega (arith, length-append public private)

  -- the values of a circuit's wires have its widths
  pub filled-widths : (c : Wiring A) (lists : List (Vec A Global)) (layers : List (Layer A)) (public private : List A) → layers ≡ c.layers → length public ≡ c.publics → length private ≡ c.privates
      → items_of lists ≡ all_values o layers (inputs_of o public private) → HaveWidths c (items_of lists)
  filled-widths c lists layers public private same e f h =
      ap (map length) h ∙ all-widths layers (inputs_of o public private) ∙ ap (λ ls. map (λ layer. layer.wires) ls ++ length (inputs_of o public private) ∷ []) same
      ∙ ap (λ n. map (λ layer. layer.wires) c.layers ++ n ∷ []) (inputs-count public private ∙ ap (λ n. 1 + n + length private) e ∙ ap (λ n. 1 + c.publics + n) f)

  pub zeros-more : (ns : List ℕ) (l n : ℕ) (before after : List (Vec A Global)) (list : Vec A Global) → l < length ns → after ≡ before ++ list ∷ [] → list.items ≡ replicate n o.zero → n ≡ get_or ns l 0
      → items_of before ≡ zero_lists (take l ns) → items_of after ≡ zero_lists (take (l + 1) ns)
  zeros-more ns l n before after list h e is w values =
      ap items_of e ∙ map-append (λ (v : Vec A Global). v.items) before (list ∷ []) ∙ ap (λ xs. xs ++ list.items ∷ []) values ∙ ap (λ x. zero_lists (take l ns) ++ x ∷ []) (is ∙ ap (λ m. replicate m o.zero) w)
      ∙ sym (map-append (λ (n : ℕ). replicate n o.zero) (take l ns) (get_or ns l 0 ∷ [])) ∙ sym (ap zero_lists (take_more ns l 0 h))

module _ {A : Type 0} where
  -- room for a circuit, as lists on the heap
  pub room-for : (c : Wiring A) (lists : List (Vec A Global)) (layers : List (Layer A)) (public private : List A) → layers ≡ c.layers → length public ≡ c.publics → length private ≡ c.privates
      → HaveWidths c (items_of lists) → map (λ list. length list.items) lists ≡ map (λ layer. layer.wires) layers ++ (1 + length public + length private) ∷ []
  room-for c lists layers public private same e f h =
      sym (lengths-items lists) ∙ h ∙ sym (ap (λ ls. map (λ layer. layer.wires) ls ++ (1 + length public + length private) ∷ []) same ∙ ap (λ n. map (λ layer. layer.wires) c.layers ++ (1 + n + length private) ∷ []) e
      ∙ ap (λ n. map (λ layer. layer.wires) c.layers ++ (1 + c.publics + n) ∷ []) f)

  -- where a caller of `wire` stands: as many lists as layers and one, and each as long as its layer is wide
  pub lists-count : (c : Wiring A) (values : List (List A)) → HaveWidths c values → length values ≡ length c.layers + 1
  lists-count c values h =
      sym (length-map values length) ∙ ap length h ∙ length-append (map (λ layer. layer.wires) c.layers) (input_width c ∷ []) ∙ ap (λ n. n + 1) (length-map c.layers (λ layer. layer.wires))

  pub list-width : (c : Wiring A) (values : List (List A)) (l : ℕ) → HaveWidths c values → length (get_or values l []) ≡ get_or (widths c) l 0
  list-width c values l h = sym (length-at values l) ∙ ap (λ ns. get_or ns l 0) h
    where
      length-at : (values : List (List A)) (l : ℕ) → get_or (map length values) l 0 ≡ length (get_or values l [])
      length-at [] l = refl
      length-at (v ∷ vs) zero = refl
      length-at (v ∷ vs) (suc l) = length-at vs l

module _ {A : Type 0} (o : Ops A) where
  -- the uppermost of all values
  pub first-values : (layers : List (Layer A)) (inputs : List A) → list_at (all_values o layers inputs) 0 ≡ wires_of o layers inputs
  first-values [] inputs = refl
  first-values (layer ∷ layers) inputs = refl

  -- below the last layer stand the inputs
  pub last-values : (layers : List (Layer A)) (inputs : List A) → list_at (all_values o layers inputs) (length layers) ≡ inputs
  last-values [] inputs = refl
  last-values (layer ∷ layers) inputs = last-values layers inputs

  -- each layer has its values over those of the layer below
  pub are-layer-values : (layers : List (Layer A)) (inputs : List A) → AreLayerValues o layers (all_values o layers inputs)
  are-layer-values [] inputs l layer h = absurd cc
  are-layer-values (layer ∷ layers) inputs zero top h =
      let same : layer ≡ top = cc in
      ap (layer_values o layer) (sym (first-values layers inputs)) ∙ ap (λ x. layer_values o x (list_at (all_values o layers inputs) 0)) same
  are-layer-values (layer ∷ layers) inputs (suc l) top h =
      let e : suc (l + 1) ≡ suc l + 1 = omega arith in
      are-layer-values layers inputs l top h ∙ ap (λ (k : ℕ). layer_values o top (list_at (all_values o (layer ∷ layers) inputs) k)) e

-- ---- the room of the lists of all layers

pub only-one : {X : Type 0} (f : X → ℕ) (xs : List X) (n : ℕ) (d : X) → map f xs ≡ n ∷ [] → f (get_or xs 0 d) ≡ n
only-one f [] n d e = absurd cc
only-one f (y ∷ ys) n d e = ap (λ ns. get_or ns 0 0) e

pub some-lists : {X : Type 0} (f : X → ℕ) (xs : List X) (ws : List ℕ) (n : ℕ) → map f xs ≡ ws ++ n ∷ [] → length xs ≡ 0 → ⊥
some-lists f xs ws n e none = omega (arith, none, ap length e, length-map xs f, length-append ws (n ∷ []))

module _ {A X : Type 0} (f : X → ℕ) (xs others : List X) (x : X) (layers rest : List (Layer A)) (layer : Layer A) (n : ℕ) (front : layers ≡ layer ∷ rest) (first : xs ≡ x ∷ others)
    (room : map f xs ≡ map (λ layer. layer.wires) layers ++ n ∷ []) where
  both-rooms : f x ∷ map f others ≡ layer.wires ∷ (map (λ layer. layer.wires) rest ++ n ∷ [])
  both-rooms = ap (map f) (sym first) ∙ room ∙ ap (λ (ls : List (Layer A)). map (λ layer. layer.wires) ls ++ n ∷ []) front

  pub others-room : map f others ≡ map (λ layer. layer.wires) rest ++ n ∷ []
  others-room = ap (drop 1) both-rooms

  pub first-room : f x ≡ layer.wires
  first-room = ap (λ ns. get_or ns 0 0) both-rooms

-- what the list there holds
pub items-at : {A : Type 0} (lists : List (Vec A Global)) (l : ℕ) (v : Vec A Global) → l < length lists → v ≡ get_or lists l v → list_at (items_of lists) l ≡ v.items
items-at [] l v lt is = absurd (omega arith)
items-at (u ∷ us) zero v lt is = ap (λ (x : Vec _ Global). x.items) (sym is)
items-at (u ∷ us) (suc l) v lt is = items-at us l v (omega arith) is

pub one-set : {A : Type 0} (lists : List (Vec A Global)) (v : Vec A Global) (n : ℕ) (xs : List A) → map (λ list. length list.items) lists ≡ n ∷ [] → v.items ≡ xs → items_of (slice_set lists 0 v) ≡ xs ∷ []
one-set [] v n xs e is = absurd cc
one-set (u ∷ []) v n xs e is = ap (λ ys. ys ∷ []) is
one-set (u ∷ w ∷ ws) v n xs e is = absurd (omega (arith, ap length e))
