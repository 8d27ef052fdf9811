-- What stands when some layers are sent.
use Rattle.std.specs.Prelude.{◌≡◌, ℕ, ◌+◌, ◌-◌, ◌*◌, ◌<◌, ◌≤◌, ◌++◌, List, map, length, slice_get, slice_set, slice_index_or, Some}
use Rattle.std.specs.List.{range_with_len}
use Rattle.std.proofs.Common.{zero, suc, sym, ap, ◌∙◌, arith, subst}
use Rattle.std.proofs.lemmas.List.{get_or_default, get_or_append_left, get_or-append_right, get_or-set_same, get_or-set_other}
use Rattle.std.proofs.lemmas.Option.{slice_get-get_or}
use Rattle.std.proofs.Math.Nat.{mul-le-mul_right}
use native.Mathlib.Decide.{dec_lt, dec_le}
use Rattle.lzk_field.specs.Coding.{Coding}
use Rattle.lzk_field.specs.Ring.{Ops}
use Rattle.lzk_field.specs.Sums.{minus, entry}
use Rattle.lzk_transcript.specs.Tape.{TapeState, drawn, after_draw}
use Rattle.lzk_transcript.specs.Columns.{after_draws}
use Rattle.lzk_mle.specs.Multilinear.{eq, tilde}
use Rattle.lzk_circuit.specs.declared.layer.Term.{Term}
use Rattle.lzk_circuit.specs.Valid.{Wiring}
use Rattle.lzk_circuit.specs.Wires.{layer_coefficient, list_at}
use Rattle.lzk_layout.specs.Places.{depth, width_at, bits_under, output_bits, sent_at}
use Rattle.lzk_sumcheck.specs.declared.script.LayerScript.{LayerScript}
use Rattle.lzk_sumcheck.specs.declared.script.Script.{Script}
use Rattle.lzk_sumcheck.specs.Coefficients.{coefficients, terms_at, weights_at, bound_at}
use Rattle.lzk_sumcheck.specs.Draws.{draws}
use Rattle.lzk_sumcheck.specs.Layers.{layer_of_terms}
use Rattle.lzk_sumcheck.specs.Rounds.{bound_coefficient}
use Rattle.lzk_sumcheck.specs.Script.{drawn_beta, after_first, round_challenge, layer_script, after_layer, after_layers, script, layer_at, point_a, point_b, zero_layer, HasBits}
use Rattle.lzk_sumcheck.specs.Sending.{AreRoundsSent}
use Rattle.lzk_sumcheck.specs.Weights.{weighted}
use Rattle.lzk_sumcheck.proofs.LayerLaws.{AreReplayed, replayed_none, replayed_more}
use Rattle.lzk_sumcheck.proofs.MessagesLaws.{SentAt, sent-stays, sent-own, own-layer}
use Rattle.lzk_sumcheck.proofs.Prefixes.{StandAt, AgreeBelow, start, map-same, stand, sent-suc, layer-same, after-same, layers-same, layer-agrees, beta-same, weights-same, point-a-same, point-b-same}

-- the places of a layer's elements rise from layer to layer
pub sent-rises : {A : Type 0} (c : Wiring A) (l n : ℕ) → l ≤ n → n ≤ depth c → sent_at c l ≤ sent_at c n
sent-rises c l zero h d = let z : l ≡ zero = omega arith in omega (arith, ap (sent_at c) z)
sent-rises c l (suc n) h d =
    elim (dec_le l n) [
      | yes g ↦ omega (arith, sent-rises c l n g (omega arith), sent-suc c n d)
      | no g ↦ let z : l ≡ suc n = omega arith in omega (arith, ap (sent_at c) z)
    ]

-- a place before another, times a size
pub times-less : (l n s m : ℕ) → l < n → n * s < m → l * s < m
times-less l n s m h b = omega (arith, b, mul-le-mul_right {m = l} {n = n} s (omega (arith, h)))

-- entries in front of a place stay, and a part's entries stand behind it
pub front-kept : {A : Type 0} (o : Ops A) (n : ℕ) (xs front rest next : List A) → xs ≡ front ++ rest → length front ≡ n → (k : ℕ) → k < n → entry o xs k ≡ entry o (front ++ next) k
front-kept o n xs front rest next whole size k h =
    ap (λ ys. entry o ys k) whole ∙ get_or_append_left front rest o.zero k (omega (arith, h, size)) ∙ sym (get_or_append_left front next o.zero k (omega (arith, h, size)))

pub part-stands : {A : Type 0} (o : Ops A) (b n : ℕ) (front part rest : List A) → length front ≡ b → length part ≡ n → StandAt o b n part (front ++ (part ++ rest))
part-stands o b n front part rest before size k h =
    let z : b + k - b ≡ k = omega arith in
    sym (get_or-append_right front (part ++ rest) b (b + k) o.zero before (omega arith) ∙ ap (entry o (part ++ rest)) z ∙ get_or_append_left part rest o.zero k (omega (arith, h, size)))

-- a layer whose turn has not come has as many challenges as bits
pub layer-has : {A : Type 0} (o : Ops A) (e : Coding A) (sent : List A) (c : Wiring A) (begun : TapeState) (given : List (LayerScript A)) (l : ℕ) (now : TapeState) (layers : List (LayerScript A))
    → AreReplayed o e sent c begun given l now layers → l < length layers → l < length given
    → ((k : ℕ) (layer : LayerScript A) → slice_get given k ≡ Some layer → HasBits (bits_under c k) layer)
    → (x : LayerScript A) → HasBits (bits_under c l) (slice_index_or layers l x)
layer-has o e sent c begun given l now layers old h h' bits x =
    let d = zero_layer o 0 in
    subst (HasBits (bits_under c l)) (sym (old.rest l (omega arith)) ∙ get_or_default layers l d x h) (bits l (slice_index_or given l d) (slice_get-get_or given l d h'))

-- a layer's script, by its parts
pub layer-parts : {A : Type 0} (o : Ops A) (e : Coding A) (sent : List A) (version bits : ℕ) (before begun : TapeState) (x y : A) (ra rb : List A)
    → x ≡ e.element (drawn before) → y ≡ drawn_beta o e version (after_draw before) → begun ≡ after_first version before
    → ra ≡ map (λ j. round_challenge o e sent 0 begun (2 * j)) (range_with_len 0 bits)
    → rb ≡ map (λ j. round_challenge o e sent 0 begun (2 * j + 1)) (range_with_len 0 bits)
    → record { alpha = x; beta = y; ra = ra; rb = rb } ≡ layer_script o e sent version 0 bits before
unfolding layer_script
layer-parts {A} o e sent version bits before begun x y ra rb first second next xa xb =
    let alpha = e.element (drawn before) in
    let beta = drawn_beta o e version (after_draw before) in
    let make : A → A → List A → List A → LayerScript A = λ x y ys zs. record { alpha = x; beta = y; ra = ys; rb = zs } in
    ap (λ z. make z y ra rb) first ∙ ap (λ z. make alpha z ra rb) second ∙ ap (λ ys. make alpha beta ys rb) xa
    ∙ ap (λ zs. make alpha beta (map (λ j. round_challenge o e sent 0 begun (2 * j)) (range_with_len 0 bits)) zs) xb
    ∙ ap (λ t. make alpha beta (map (λ j. round_challenge o e sent 0 t (2 * j)) (range_with_len 0 bits)) (map (λ j. round_challenge o e sent 0 t (2 * j + 1)) (range_with_len 0 bits))) next

module _ {A : Type 0} (o : Ops A) (e : Coding A) (c : Wiring A) (values : List (List A)) (pads : List A) (t : TapeState) (given : List (LayerScript A)) where
  -- the first l layers are sent, and the tables are those of the two points of the next
  pub record AreProved (l : ℕ) (now : TapeState) (layers : List (LayerScript A)) (sent first second : List A) : Type 0 where
    pub replayed : AreReplayed o e sent c (start o e c t) given l now layers
    pub table_a : (g : ℕ) → g < width_at c l → entry o first g ≡ eq o g (point_a o (script o e sent c t) l)
    pub table_b : (g : ℕ) → g < width_at c l → entry o second g ≡ eq o g (point_b o (script o e sent c t) l)
    pub done : (k : ℕ) → k < l → SentAt o e c values pads t sent k

  pub proved-none : (now : TapeState) (sent first second : List A) → now ≡ after_draws (output_bits c) t
      → ((g : ℕ) → g < width_at c 0 → entry o first g ≡ eq o g (draws e 0 (output_bits c) t))
      → ((g : ℕ) → g < width_at c 0 → entry o second g ≡ eq o g (draws e 0 (output_bits c) t))
      → AreProved 0 now given sent first second
  unfolding script
  proved-none now sent first second begins a b = record {
    replayed = subst (λ s. AreReplayed o e sent c (start o e c t) given 0 s given) (sym begins) (replayed_none o e sent c (start o e c t) given);
    table_a = a;
    table_b = b;
    done = λ k h. absurd (omega arith);
  }

  -- what was replayed stays
  replayed-same : (xs ys : List A) (l : ℕ) (now : TapeState) (layers : List (LayerScript A)) → l ≤ depth c → AgreeBelow o e c t (sent_at c l) xs ys
      → AreReplayed o e xs c (start o e c t) given l now layers → AreReplayed o e ys c (start o e c t) given l now layers
  replayed-same xs ys l now layers d same old =
      let n = sent_at c l in
      record {
        tape = old.tape ∙ layers-same o e c t n xs ys same l (start o e c t) d (omega arith);
        done = λ k h.
            let next = sent-suc c k (omega (arith, h, d)) in
            let rise = sent-rises c (suc k) l (omega (arith, h)) d in
            old.done k h
            ∙ ap (layer_script o e xs c.version (sent_at c k) (bits_under c k)) (layers-same o e c t n xs ys same k (start o e c t) (omega (arith, h, d)) (omega (arith, next, rise)))
            ∙ layer-same o e 0 n xs ys (stand o e c t n xs ys same) c.version (sent_at c k) (sent_at c k) (bits_under c k) (after_layers o e ys c k (start o e c t)) (omega arith) (omega (arith, next, rise));
        rest = old.rest;
      }

  -- the script of a layer that is sent from its own list
  own-script : (l : ℕ) (now : TapeState) (layers : List (LayerScript A)) (xs ys first second sent own : List A) (k : ℕ) (layer : LayerScript A)
      → AreProved l now layers xs first second → l < depth c → AgreeBelow o e c t (sent_at c l) xs ys
      → k ≡ bits_under c l → layer ≡ layer_script o e sent c.version 0 k now → StandAt o (sent_at c l) (4 * k + 2) sent ys
      → layer ≡ layer_at o (script o e ys c t) l
  own-script l now layers xs ys first second sent own k layer old h same bits is at =
      own-layer o e c values pads t l h ys sent own now (replayed-same xs ys l now layers (omega arith) same old.replayed).tape k bits at layer is

  -- its weights are those of the script
  own-weights : (l : ℕ) (now : TapeState) (layers : List (LayerScript A)) (xs ys first second : List A) (width : ℕ) (layer : LayerScript A)
      → AreProved l now layers xs first second → l < depth c → AgreeBelow o e c t (sent_at c l) xs ys
      → width ≡ width_at c l → layer ≡ layer_at o (script o e ys c t) l
      → weighted o layer.alpha first second width ≡ weights_at o c (script o e ys c t) l
  own-weights l now layers xs ys first second width layer old h same wide here =
      let n = sent_at c l in
      let s = script o e ys c t in
      ap (weighted o layer.alpha first second) wide
      ∙ map-same (λ g. o.plus (entry o first g) (o.times layer.alpha (entry o second g))) (λ g. o.plus (eq o g (point_a o s l)) (o.times (layer_at o s l).alpha (eq o g (point_b o s l)))) 0 (width_at c l)
      (λ g q.
      let inside : g < width_at c l = omega (arith, q) in
      ap (λ v. o.plus v (o.times layer.alpha (entry o second g))) (old.table_a g inside ∙ ap (eq o g) (point-a-same o e c t n xs ys same l (omega arith) (omega arith)))
      ∙ ap (λ v. o.plus (eq o g (point_a o s l)) (o.times layer.alpha v)) (old.table_b g inside ∙ ap (eq o g) (point-b-same o e c t n xs ys same l (omega arith) (omega arith)))
      ∙ ap (λ (x : LayerScript A). o.plus (eq o g (point_a o s l)) (o.times x.alpha (eq o g (point_b o s l)))) here)

  -- one more layer, which is sent from its own lists
  pub proved-more : (l : ℕ) (now after : TapeState) (layers : List (LayerScript A)) (xs ys first second first' second' sent own : List A) (k width : ℕ) (ts : List (Term A)) (vs : List A) (layer : LayerScript A)
      → AreProved l now layers xs first second → l < depth c → l < length layers
      → AgreeBelow o e c t (sent_at c l) xs ys
      → k ≡ bits_under c l → width ≡ width_at c l → ts ≡ terms_at c l → vs ≡ list_at values (l + 1)
      → layer ≡ layer_script o e sent c.version 0 k now → after ≡ after_layer o e sent c.version 0 k now
      → StandAt o (sent_at c l) (4 * k + 2) sent ys → StandAt o (sent_at c l) (4 * k + 2) own pads
      → AreRoundsSent o e.element (layer_of_terms o ts layer.beta (weighted o layer.alpha first second width) vs k) (map (round_challenge o e sent 0 (after_first c.version now)) (range_with_len 0 (2 * k))) own sent
      → entry o sent (4 * k) ≡ minus o (tilde o vs layer.ra) (entry o own (4 * k))
      → entry o sent (4 * k + 1) ≡ minus o (tilde o vs layer.rb) (entry o own (4 * k + 1))
      → ((g : ℕ) → g < width_at c (l + 1) → entry o first' g ≡ eq o g layer.ra)
      → ((g : ℕ) → g < width_at c (l + 1) → entry o second' g ≡ eq o g layer.rb)
      → AreProved (l + 1) after (slice_set layers l layer) ys first' second'
  proved-more l now after layers xs ys first second first' second' sent own k width ts vs layer old h within same bits wide terms below is next at pat rounds fa fb ta tb =
      let n = sent_at c l in
      let s = script o e ys c t in
      let replayed = replayed-same xs ys l now layers (omega arith) same old.replayed in
      let here = own-script l now layers xs ys first second sent own k layer old h same bits is at in
      let after_l : suc l ≡ l + 1 = omega arith in
      let weights = own-weights l now layers xs ys first second width layer old h same wide here in
      record {
        replayed = replayed_more o e ys c (start o e c t) given l now after layers layer replayed within
            (is ∙ layer-same o e n (4 * k + 2) sent ys at c.version 0 n k now (omega arith) (omega arith) ∙ ap (λ b. layer_script o e ys c.version n b now) bits)
            (next ∙ after-same o e n (4 * k + 2) sent ys at c.version 0 n k now (omega arith) (omega arith) ∙ ap (λ b. after_layer o e ys c.version n b now) bits);
        table_a = λ g q. ta g q ∙ ap (λ (x : LayerScript A). eq o g x.ra) here ∙ ap (λ i. eq o g (point_a o s i)) after_l;
        table_b = λ g q. tb g q ∙ ap (λ (x : LayerScript A). eq o g x.rb) here ∙ ap (λ i. eq o g (point_b o s i)) after_l;
        done = λ i q.
            elim (dec_lt i l) [
              | yes p ↦ sent-stays o e c values pads t n xs ys same i (omega (arith, p, h)) (sent-rises c (suc i) l (omega (arith, p)) (omega arith)) (old.done i p)
              | no p ↦
                  let z : l ≡ i = omega (arith, q) in
                  subst (SentAt o e c values pads t ys) z
                  (sent-own o e c values pads t l h ys sent own now replayed.tape k ts (weighted o layer.alpha first second width) vs layer bits terms weights below is at pat rounds fa fb)
            ];
      }

  -- the first l layers' coefficients came to what stands in the list
  abbrev pub AreBound : ℕ → List A → List A → Type 0
  AreBound l sent bounds = let s = script o e sent c t in (k : ℕ) → k < l → entry o bounds k ≡ bound_at o c (coefficients o c s) s k

  -- what they came to depends on what was sent before alone
  bound-stays : (n : ℕ) (xs ys : List A) → AgreeBelow o e c t n xs ys → (k : ℕ) → k < depth c → sent_at c (suc k) ≤ n
      → bound_at o c (coefficients o c (script o e xs c t)) (script o e xs c t) k ≡ bound_at o c (coefficients o c (script o e ys c t)) (script o e ys c t) k
  unfolding bound_at coefficients
  bound-stays n xs ys same k h b =
      let next = sent-suc c k h in
      let s = script o e xs c t in
      let q = layer_coefficient o (terms_at c k) in
      let below = width_at c (k + 1) in
      ap (λ y. bound_coefficient o (q y) (weights_at o c s k) below (layer_at o s k).ra (layer_at o s k).rb) (beta-same o e c t n xs ys same k h (omega (arith, b, next)))
      ∙ ap (λ w. bound_coefficient o (q (layer_at o (script o e ys c t) k).beta) w below (layer_at o s k).ra (layer_at o s k).rb) (weights-same o e c t n xs ys same k h (omega (arith, b, next)))
      ∙ ap (λ (x : LayerScript A). bound_coefficient o (q (layer_at o (script o e ys c t) k).beta) (weights_at o c (script o e ys c t) k) below x.ra x.rb) (layer-agrees o e c t n xs ys same k h (omega (arith, b, next)))

  -- what a layer's came to, by its own lists
  bound-own : (s : Script A) (l width below : ℕ) (ts : List (Term A)) (first second : List A) (layer : LayerScript A)
      → ts ≡ terms_at c l → below ≡ width_at c (l + 1) → layer ≡ layer_at o s l → weighted o layer.alpha first second width ≡ weights_at o c s l
      → bound_coefficient o (layer_coefficient o ts layer.beta) (weighted o layer.alpha first second width) below layer.ra layer.rb ≡ bound_at o c (coefficients o c s) s l
  unfolding bound_at coefficients
  bound-own s l width below ts first second layer terms under here weights =
      ap (λ xs. bound_coefficient o (layer_coefficient o xs layer.beta) (weighted o layer.alpha first second width) below layer.ra layer.rb) terms
      ∙ ap (λ w. bound_coefficient o (layer_coefficient o (terms_at c l) layer.beta) w below layer.ra layer.rb) weights
      ∙ ap (λ n. bound_coefficient o (layer_coefficient o (terms_at c l) layer.beta) (weights_at o c s l) n layer.ra layer.rb) under
      ∙ ap (λ (x : LayerScript A). bound_coefficient o (layer_coefficient o (terms_at c l) x.beta) (weights_at o c s l) (width_at c (l + 1)) x.ra x.rb) here

  -- one more layer
  pub bound-more : (l : ℕ) (now : TapeState) (layers : List (LayerScript A)) (xs ys first second sent own bounds : List A) (k width below : ℕ) (ts : List (Term A)) (layer : LayerScript A) (x : A)
      → AreProved l now layers xs first second → l < depth c → l < length bounds
      → AgreeBelow o e c t (sent_at c l) xs ys
      → k ≡ bits_under c l → width ≡ width_at c l → ts ≡ terms_at c l → below ≡ width_at c (l + 1)
      → layer ≡ layer_script o e sent c.version 0 k now → StandAt o (sent_at c l) (4 * k + 2) sent ys
      → x ≡ bound_coefficient o (layer_coefficient o ts layer.beta) (weighted o layer.alpha first second width) below layer.ra layer.rb
      → AreBound l xs bounds → AreBound (l + 1) ys (slice_set bounds l x)
  bound-more l now layers xs ys first second sent own bounds k width below ts layer x old h within same bits wide terms under is at value before i q =
      let s = script o e ys c t in
      let here = own-script l now layers xs ys first second sent own k layer old h same bits is at in
      elim (dec_lt i l) [
        | yes p ↦
            get_or-set_other bounds l i x o.zero (omega (arith, p)) ∙ before i p
            ∙ bound-stays (sent_at c l) xs ys same i (omega (arith, p, h)) (sent-rises c (suc i) l (omega (arith, p)) (omega arith))
        | no p ↦
            let z : l ≡ i = omega (arith, q) in
            subst (λ j. entry o (slice_set bounds l x) j ≡ bound_at o c (coefficients o c s) s j) z
            (get_or-set_same bounds l x o.zero within ∙ value ∙ bound-own s l width below ts first second layer terms under here (own-weights l now layers xs ys first second width layer old h same wide here))
      ]
