-- Layers with assertion wires behind their own: they are of version 2, their other wires stay, and an assertion wire counts the wire below.
use Rattle.std.specs.Prelude.{◌≡◌, ◌≢◌, ℕ, ◌+◌, ◌<◌, ◌≤◌, ◌-◌, ◌==◌, ◌&&◌, ◌||◌, nat_lt, Bool, true, false, cond, Option, Some, None, List, [], ◌∷◌, ◌++◌, length, map, take}
use Rattle.std.proofs.Common.{inl, inr, zero, suc, refl, sym, ap, ◌∙◌, arith, subst, get_or}
use Rattle.std.specs.List.{AllByRecursion, range_with_len}
use Rattle.std.proofs.Math.ListN.{replicate}
use Rattle.std.proofs.lemmas.Bool.{lt-ltb, or_left, ne_eqb, cases_lt}
use Rattle.std.proofs.lemmas.List.FromFn.{length-map-range_with_len, get_or-map-range_with_len}
use Rattle.std.proofs.lemmas.List.{length-append, length-replicate, ext_get_or, get_or_append_left, get_or-append-add, get_or-append_right}
use Rattle.lzk_field.specs.Ring.{Ops, RingLaws}
use Rattle.lzk_field.specs.Sums.{entry}
use Rattle.lzk_field.proofs.RingBasics.{zero_plus, times_zero}
use Rattle.lzk_circuit.specs.declared.layer.Term.{Term}
use Rattle.lzk_circuit.specs.declared.layer.Layer.{Layer}
use Rattle.lzk_circuit.specs.Checks.{asserted}
use Rattle.lzk_circuit.specs.Sums.{sum_list}
use Rattle.lzk_circuit.specs.Valid.{follows, IsPlaced, ArePlaced, AreApart, MayStand, MayEachStand, AreTerms}
use Rattle.lzk_circuit.specs.Wires.{is_at, coef, wire, layer_values}
use Rattle.lzk_circuit.proofs.OrderLaws.{terms-placed, placed-distinct, placed-at}
use Rattle.lzk_circuit.proofs.TermSums.{share, wire-terms}
use Rattle.lzk_circuit.proofs.AssertLaws.{wire-ext}
use Rattle.lzk_circuit.proofs.CheckLaws.{asserted-alone}
use Rattle.lzk_circuit_reduce.specs.Attached.{assertions, attached}

module _ {A : Type 0} where
  -- the term before, if there is one, is of an earlier wire
  abbrev IsEarlier : Option (Term A) → ℕ → Type 0
  IsEarlier before g = (s : Term A) → before ≡ Some s → s.g < g

  earlier-follows : (before : Option (Term A)) (t : Term A) → IsEarlier before t.g → follows before t ≡ true
  earlier-follows None t h = refl
  earlier-follows (Some s) t h = or_left (nat_lt s.g t.g) ((s.g == t.g) && (nat_lt s.a t.a || ((s.a == t.a) && nat_lt s.b t.b))) (lt-ltb s.g t.g (h s refl))

  one-earlier : (t : Term A) (g : ℕ) → t.g < g → IsEarlier (Some t) g
  one-earlier t g l s e = let same : t ≡ s = cc in subst (λ (x : Term A). x.g < g) same l

  -- terms, and others of later wires
  placed-append : (w m width : ℕ) (before : Option (Term A)) (ts us : List (Term A)) → w ≤ m → ArePlaced w width before ts → ((last : Option (Term A)) → IsEarlier last w → ArePlaced m width last us) → IsEarlier before w
      → ArePlaced m width before (ts ++ us)
  placed-append w m width before [] us le h rest first = rest before first
  placed-append w m width before (t ∷ ts) us le h rest first =
      let one = h.0 in
      (record { g = omega (arith, one.g, le); a = one.a; b = one.b }, h.1, placed-append w m width (Some t) ts us le h.2 rest (one-earlier t w one.g))

module _ {A : Type 0} (o : Ops A) where
  assertions-placed : (m width g : ℕ) (before : Option (Term A)) (ws : List ℕ) → IsEarlier before g → AllByRecursion (λ w. w < width) ws → g + length ws ≤ m → ArePlaced m width before (assertions o g ws)
  assertions-placed m width g before [] first all le = tt
  assertions-placed m width g before (w ∷ ws) first all le =
      let t : Term A = record { g = g; a = 0; b = w; coef = o.zero } in (
        record { g = omega (arith, le); a = omega arith; b = all.0 },
        earlier-follows before t first,
        assertions-placed m width (g + 1) (Some t) ws (one-earlier t (g + 1) (omega arith)) all.1 (omega (arith, le)),
      )

  two_not_one : ◌≢◌ {A = ℕ} 2 1
  two_not_one e = omega (arith, e)

  stands : (before : Option (Term A)) (t : Term A) → AreApart o before t → MayStand o 2 before t
  stands before t h = record { nonzero = λ e. absurd (two_not_one e); apart = λ n. h }

  later-apart : (before : Option (Term A)) (t : Term A) → IsEarlier before t.g → AreApart o before t
  later-apart None t h = tt
  later-apart (Some s) t h = λ same. absurd (omega (arith, h s refl, same))

  nonzero-apart : (before : Option (Term A)) (t : Term A) → ((s : Term A) → before ≡ Some s → s.coef ≢ o.zero) → t.coef ≢ o.zero → AreApart o before t
  nonzero-apart None t all h = tt
  nonzero-apart (Some s) t all h = λ same. (all s refl, h)

  assertions-stand : (g : ℕ) (before : Option (Term A)) (ws : List ℕ) → IsEarlier before g → MayEachStand o 2 before (assertions o g ws)
  assertions-stand g before [] first = tt
  assertions-stand g before (w ∷ ws) first =
      let t : Term A = record { g = g; a = 0; b = w; coef = o.zero } in
      (stands before t (later-apart before t first), assertions-stand (g + 1) (Some t) ws (one-earlier t (g + 1) (omega arith)))

  stand-append : (w width : ℕ) (before : Option (Term A)) (ts us : List (Term A)) → AreTerms o w width before ts → ((s : Term A) → before ≡ Some s → s.coef ≢ o.zero) → IsEarlier before w
      → ((last : Option (Term A)) → IsEarlier last w → MayEachStand o 2 last us) → MayEachStand o 2 before (ts ++ us)
  stand-append w width before [] us h all first rest = rest before first
  stand-append w width before (t ∷ ts) us h all first rest =
      let one = h.0 in (
        stands before t (nonzero-apart before t all one.coef),
        stand-append w width (Some t) ts us h.2 (λ s e. let same : t ≡ s = cc in subst (λ (x : Term A). x.coef ≢ o.zero) same one.coef) (one-earlier t w one.g) rest,
      )

  pub assertions-more : (g : ℕ) (ws : List ℕ) (i d : ℕ) → i < length ws → assertions o g (take (i + 1) ws) ≡ assertions o g (take i ws) ++ record { g = g + i; a = 0; b = get_or ws i d; coef = o.zero } ∷ []
  assertions-more g [] i d l = absurd (omega (arith, l))
  assertions-more g (w ∷ ws) zero d l =
      let e : g ≡ g + 0 = omega arith in
      let f : ℕ → List (Term A) = λ k. record { g = k; a = 0; b = w; coef = o.zero } ∷ [] in
      ap f e
  assertions-more g (w ∷ ws) (suc i) d l =
      let n : suc i + 1 ≡ suc (i + 1) = omega arith in
      let e : (g + 1) + i ≡ g + suc i = omega arith in
      let t : Term A = record { g = g; a = 0; b = w; coef = o.zero } in
      let f : ℕ → List (Term A) = λ k. t ∷ (assertions o (g + 1) (take i ws) ++ record { g = k; a = 0; b = get_or ws i d; coef = o.zero } ∷ []) in
      ap (λ k. assertions o g (take k (w ∷ ws))) n ∙ ap (λ us. t ∷ us) (assertions-more (g + 1) ws i d (omega (arith, l))) ∙ ap f e

  pub length-assertions : (g : ℕ) (ws : List ℕ) → length (assertions o g ws) ≡ length ws
  length-assertions g [] = refl
  length-assertions g (w ∷ ws) = ap suc (length-assertions (g + 1) ws)

  -- ---- a layer of version 2

  pub attached-placed : (layer : Layer A) (ws : List ℕ) (width : ℕ) → AreTerms o layer.wires width None layer.terms → AllByRecursion (λ w. w < width) ws
      → ArePlaced (layer.wires + length ws) width None (layer.terms ++ assertions o layer.wires ws)
  attached-placed layer ws width h all =
      placed-append layer.wires (layer.wires + length ws) width None layer.terms (assertions o layer.wires ws) (omega arith) (terms-placed o layer.wires width None layer.terms h)
      (λ last first. assertions-placed (layer.wires + length ws) width layer.wires last ws first all (omega arith)) (λ s e. absurd cc)

  pub attached-stand : (layer : Layer A) (ws : List ℕ) (width : ℕ) → AreTerms o layer.wires width None layer.terms → MayEachStand o 2 None (layer.terms ++ assertions o layer.wires ws)
  attached-stand layer ws width h =
      stand-append layer.wires width None layer.terms (assertions o layer.wires ws) h (λ s e. absurd cc) (λ s e. absurd cc) (λ last first. assertions-stand layer.wires last ws first)

  -- ---- the other wires stay

  pub cond-zero : (p : Bool) → cond p o.zero o.zero ≡ o.zero
  cond-zero true = refl
  cond-zero false = refl

  assertions-coef : (g : ℕ) (ws : List ℕ) (i a b : ℕ) → coef o (assertions o g ws) i a b ≡ o.zero
  assertions-coef g [] i a b = refl
  assertions-coef g (w ∷ ws) i a b =
      let t : Term A = record { g = g; a = 0; b = w; coef = o.zero } in
      ap (cond (is_at t i a b) o.zero) (assertions-coef (g + 1) ws i a b) ∙ cond-zero (is_at t i a b)

  append-coef : (ts us : List (Term A)) (i a b : ℕ) → coef o us i a b ≡ o.zero → coef o (ts ++ us) i a b ≡ coef o ts i a b
  append-coef [] us i a b none = none
  append-coef (t ∷ ts) us i a b none = ap (cond (is_at t i a b) t.coef) (append-coef ts us i a b none)

  pub attached-coef : (layer : Layer A) (ws : List ℕ) (i a b : ℕ) → coef o (layer.terms ++ assertions o layer.wires ws) i a b ≡ coef o layer.terms i a b
  attached-coef layer ws i a b = append-coef layer.terms (assertions o layer.wires ws) i a b (assertions-coef layer.wires ws i a b)

module _ {A : Type 0} (o : Ops A) (r : RingLaws o) where
  open o use {plus, times}

  pub attached-wire : (layer : Layer A) (ws : List ℕ) (below : List A) (g : ℕ) → wire o (coef o (layer.terms ++ assertions o layer.wires ws)) below g ≡ wire o (coef o layer.terms) below g
  attached-wire layer ws below g = wire-ext o r (coef o (layer.terms ++ assertions o layer.wires ws)) (coef o layer.terms) below g (λ a b. attached-coef o layer ws g a b)

  -- terms see nothing of the wires that stand behind those that they may name
  share-longer : (w : ℕ) (below zs : List A) (k : ℕ) (before : Option (Term A)) (ts : List (Term A)) → ArePlaced w (length below) before ts → sum_list o ts (share o r (below ++ zs) k) ≡ sum_list o ts (share o r below k)
  share-longer w below zs k before [] h = refl
  share-longer w below zs k before (t ∷ ts) h =
      let one = h.0 in
      let left = get_or_append_left below zs o.zero t.a (omega (arith, one.a, one.b)) in
      let right = get_or_append_left below zs o.zero t.b one.b in
      ap (λ x. plus (times t.coef (cond (t.g == k) (times x (entry o (below ++ zs) t.b)) o.zero)) (sum_list o ts (share o r (below ++ zs) k))) left
      ∙ ap (λ x. plus (times t.coef (cond (t.g == k) (times (entry o below t.a) x) o.zero)) (sum_list o ts (share o r (below ++ zs) k))) right
      ∙ ap (plus (share o r below k t)) (share-longer w below zs k (Some t) ts h.2)

  placed-wider : (w n m : ℕ) (before : Option (Term A)) (ts : List (Term A)) → n ≤ m → ArePlaced w n before ts → ArePlaced w m before ts
  placed-wider w n m before [] le h = tt
  placed-wider w n m before (t ∷ ts) le h = let one = h.0 in (record { g = one.g; a = one.a; b = omega (arith, one.b, le) }, h.1, placed-wider w n m (Some t) ts le h.2)

  pub wire-longer : (w : ℕ) (ts : List (Term A)) (below zs : List A) (k : ℕ) → k < w → ArePlaced w (length below) None ts → wire o (coef o ts) (below ++ zs) k ≡ wire o (coef o ts) below k
  wire-longer w ts below zs k l h =
      let long : length below ≤ length (below ++ zs) = omega (arith, length-append below zs) in
      wire-terms o r w ts (below ++ zs) k l (placed-distinct o w (length (below ++ zs)) None ts (placed-wider w (length below) (length (below ++ zs)) None ts long h))
      ∙ share-longer w below zs k None ts h ∙ sym (wire-terms o r w ts below k l (placed-distinct o w (length below) None ts h))

  -- ---- what an assertion wire counts

  pub assertion-at : (g : ℕ) (ws : List ℕ) (i : ℕ) (d : Term A) → i < length ws → get_or (assertions o g ws) i d ≡ record { g = g + i; a = 0; b = get_or ws i 0; coef = o.zero }
  assertion-at g [] i d l = absurd (omega (arith, l))
  assertion-at g (w ∷ ws) zero d l = let e : g ≡ g + 0 = omega arith in ap (λ k. record { g = k; a = 0; b = w; coef = o.zero }) e
  assertion-at g (w ∷ ws) (suc i) d l = let e : (g + 1) + i ≡ g + suc i = omega arith in assertion-at (g + 1) ws i d (omega (arith, l)) ∙ ap (λ k. record { g = k; a = 0; b = get_or ws i 0; coef = o.zero }) e

  -- the wire below, times wire 0
  pub attached-asserts : (layer : Layer A) (ws : List ℕ) (below : List A) (i : ℕ) → AreTerms o layer.wires (length below) None layer.terms → AllByRecursion (λ w. w < length below) ws → i < length ws
      → asserted o (layer.terms ++ assertions o layer.wires ws) below (layer.wires + i) ≡ times (entry o below 0) (entry o below (get_or ws i 0))
  attached-asserts layer ws below i h all l =
      let us = assertions o layer.wires ws in
      let ts = layer.terms ++ us in
      let t : Term A = record { g = layer.wires + i; a = 0; b = get_or ws i 0; coef = o.zero } in
      let m = layer.wires + length ws in
      let is : t ≡ get_or ts (length layer.terms + i) t = sym (get_or-append-add layer.terms us i t ∙ assertion-at layer.wires ws i t l) in
      let within : length layer.terms + i < length ts = omega (arith, l, length-append layer.terms us, length-assertions o layer.wires ws) in
      let placed = attached-placed o layer ws (length below) h all in
      asserted-alone o r m ts below (length layer.terms + i) t within is refl placed (attached-stand o layer ws (length below) h)
      (subst (IsPlaced m (length below)) (sym is) (placed-at m (length below) (length layer.terms + i) None ts t placed within))

  -- ---- the values of such a layer

  pub zero-entry : (n k : ℕ) → entry o (replicate n o.zero) k ≡ o.zero
  zero-entry zero k = refl
  zero-entry (suc n) zero = refl
  zero-entry (suc n) (suc k) = zero-entry n k

  placed-more : (w m n : ℕ) (before : Option (Term A)) (ts : List (Term A)) → w ≤ m → ArePlaced w n before ts → ArePlaced m n before ts
  placed-more w m n before [] le h = tt
  placed-more w m n before (t ∷ ts) le h = let one = h.0 in (record { g = omega (arith, one.g, le); a = one.a; b = one.b }, h.1, placed-more w m n (Some t) ts le h.2)

  shares-none : (w n : ℕ) (below : List A) (k : ℕ) (before : Option (Term A)) (ts : List (Term A)) → w ≤ k → ArePlaced w n before ts → sum_list o ts (share o r below k) ≡ o.zero
  shares-none w n below k before [] le h = refl
  shares-none w n below k before (t ∷ ts) le h =
      let one = h.0 in
      let none : share o r below k t ≡ o.zero =
      ap (λ p. times t.coef (cond p (times (entry o below t.a) (entry o below t.b)) o.zero)) (ne_eqb t.g k (λ e. omega (arith, one.g, le, e))) ∙ times_zero o r t.coef in
      ap (λ x. plus x (sum_list o ts (share o r below k))) none ∙ zero_plus o r _ ∙ shares-none w n below k (Some t) ts le h.2

  -- a wire that no term counts for
  no-term : (w : ℕ) (ts : List (Term A)) (below : List A) (k : ℕ) → w ≤ k → ArePlaced w (length below) None ts → wire o (coef o ts) below k ≡ o.zero
  no-term w ts below k le h =
      wire-terms o r (k + 1) ts below k (omega arith) (placed-distinct o (k + 1) (length below) None ts (placed-more w (k + 1) (length below) None ts (omega (arith, le)) h))
      ∙ shares-none w (length below) below k None ts le h

  -- over the wires below, and others behind them, its wires have the layer's values, and its assertion wires 0
  pub attached-values : (layer : Layer A) (ws : List ℕ) (below zs : List A) → AreTerms o layer.wires (length below) None layer.terms → AllByRecursion (λ w. w < length below) ws
      → layer_values o (attached o layer ws) (below ++ zs) ≡ layer_values o layer below ++ replicate (length ws) o.zero
  attached-values layer ws below zs h all =
      let ts = layer.terms ++ assertions o layer.wires ws in
      let m = layer.wires + length ws in
      let f = wire o (coef o ts) (below ++ zs) in
      let v = wire o (coef o layer.terms) below in
      let front = layer_values o layer below in
      let count : length front ≡ layer.wires = length-map-range_with_len v 0 layer.wires in
      let back : List A = replicate (length ws) o.zero in
      let all_long : length (front ++ back) ≡ m = omega (arith, length-append front back, count, length-replicate (length ws) o.zero) in
      ext_get_or o.zero (map f (range_with_len 0 m)) (front ++ back) (length-map-range_with_len f 0 m ∙ sym all_long)
      (λ k l.
      let less : k < m = omega (arith, l, length-map-range_with_len f 0 m) in
      get_or-map-range_with_len f 0 m k k o.zero less (omega arith) ∙ each k less)
    where
      each : (k : ℕ) → k < layer.wires + length ws → wire o (coef o (layer.terms ++ assertions o layer.wires ws)) (below ++ zs) k ≡ entry o (layer_values o layer below ++ replicate (length ws) o.zero) k
      each k less =
          let v = wire o (coef o layer.terms) below in
          let front = layer_values o layer below in
          let count : length front ≡ layer.wires = length-map-range_with_len v 0 layer.wires in
          elim (cases_lt k layer.wires) [
            | inl l ↦
                attached-wire layer ws (below ++ zs) k ∙ wire-longer layer.wires layer.terms below zs k l (terms-placed o layer.wires (length below) None layer.terms h)
                ∙ sym (get_or_append_left front (replicate (length ws) o.zero) o.zero k (omega (arith, l, count)) ∙ get_or-map-range_with_len v 0 layer.wires k k o.zero l (omega arith))
            | inr l ↦
                attached-wire layer ws (below ++ zs) k ∙ no-term layer.wires layer.terms (below ++ zs) k l (placed-wider layer.wires (length below) (length (below ++ zs)) None layer.terms (omega (arith, length-append below zs)) (terms-placed o layer.wires (length below) None layer.terms h))
                ∙ sym (get_or-append_right front (replicate (length ws) o.zero) layer.wires k o.zero count l ∙ zero-entry (length ws) (k - layer.wires))
          ]
