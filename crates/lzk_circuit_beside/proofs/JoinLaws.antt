-- Two circuits side by side, level after level, from the inputs up to the outputs.
use Rattle.std.specs.Prelude.{◌≡◌, ◌⊎◌, ℕ, zero, suc, ◌+◌, ◌-◌, ◌<◌, ◌≤◌, ◌↔◌, false, Bool, None, List, [], ◌∷◌, ◌++◌, length, drop}
use Rattle.std.proofs.Common.{refl, inl, inr, sym, ap, ◌∙◌, arith, subst, get_or}
use Rattle.std.proofs.lemmas.Bool.{cases_lt}
use Rattle.std.proofs.lemmas.List.{drop_more, drop_all, length-append, length-map, get_or_append_left, get_or-append-add, get_or-map}
use Rattle.lzk_field.specs.Ring.{Ops, Laws}
use Rattle.lzk_field.specs.Sums.{entry}
use Rattle.lzk_circuit.specs.declared.layer.Term.{Term}
use Rattle.lzk_circuit.specs.declared.layer.Layer.{Layer}
use Rattle.lzk_circuit.specs.Checks.{asserted}
use Rattle.lzk_circuit.specs.Limits.{most_wires, most_total, most_publics, most_privates}
use Rattle.lzk_circuit.specs.Valid.{Wiring, wiring_of, input_width, under_of, ArePlaced, AreTerms, MayEachStand, AreLayersOf, IsValid}
use Rattle.lzk_circuit.specs.Wires.{coef, wire, wires_of, layer_values, IsFirstNonzero}
use Rattle.lzk_circuit_reduce.specs.Renumbering.{at, AreNumbersBelow, AreCopies}
use Rattle.lzk_circuit_beside.specs.Asserts.{first_asserted, first_asserts, first_sum, AreAssertsZero, cleared, AreLone}
use Rattle.lzk_circuit_beside.specs.Chosen.{chosen}
use Rattle.lzk_circuit_beside.specs.Levels.{first_wires, first_terms, level_wires, level_terms, both_wires, both_terms, sum_levels, AreWide, AreShort, AreAllStanding, level_count, FitBeside, IsSizedBeside, MayHaveParts, AreLevels, AreJoinedValues}
use Rattle.lzk_circuit_beside.proofs.AssertLaws.{same-parts, cleared-parts}
use Rattle.lzk_circuit_beside.proofs.LevelLaws.{two-blocks, under-first, wires-count, level-parts, first-none}

-- ---- one level of both

module _ {A : Type 0} (o : Ops A) where
  pub joined-terms : (split more w v width : ℕ) (none first all : List (Term A)) → none ≡ [] → split ≡ w → more ≡ v
      → (AreTerms o 0 width None none → AreTerms o (0 + w) width None first)
      → (AreTerms o split width None first → AreTerms o (split + v) width None all)
      → AreTerms o (split + more) width None all
  joined-terms split more w v width none first all n e f one other =
      let begun : AreTerms o 0 width None none = subst (AreTerms o 0 width None) (sym n) tt in
      subst (λ k. AreTerms o k width None all) (omega (arith, f)) (other (subst (λ k. AreTerms o k width None first) (omega (arith, e)) (one begun)))

  pub joined-lone : (split w width : ℕ) (marks : ℕ → Bool) (none first all : List (Term A)) → none ≡ [] → split ≡ w
      → (AreTerms o 0 width None none → AreTerms o (0 + w) width None first)
      → (AreTerms o 0 width None none → AreLone o marks None none → AreLone o marks None first)
      → (AreTerms o split width None first → AreLone o marks None first → AreLone o marks None all)
      → AreLone o marks None all
  joined-lone split w width marks none first all n e one lone more =
      let begun : AreTerms o 0 width None none = subst (AreTerms o 0 width None) (sym n) tt in
      more (subst (λ k. AreTerms o k width None first) (omega (arith, e)) (one begun)) (lone begun (subst (AreLone o marks None) (sym n) tt))

-- ---- the wires of one level of both, and what is asserted of them

module _ {A : Type 0} (o : Ops A) (size : ℕ) (number : A → ℕ) (element : ℕ → A) (bytes : ℕ) (laws : Laws o size number element bytes) where
  pub joined-one : (c : Wiring A) (l wires g k : ℕ) (x below : List A) (m : ℕ → Bool) (all : List (Term A)) → IsValid o c → length x ≡ input_width c
      → AreTerms o wires (length below) None all → AreLone o m None all
      → wire o (coef o all) below k ≡ first_sum o (drop l c.layers) x g → m k ≡ first_asserted number (drop l c.layers) g → g < level_wires c l
      → (wire o (coef o (cleared o m all)) below k ≡ entry o (wires_of o (drop l c.layers) x) g) × (asserted o (cleared o m all) below k ≡ first_asserts o (drop l c.layers) x g)
  joined-one c l wires g k x below m all valid n terms lone sum mark lt =
      same-parts o (m k) (first_asserted number (drop l c.layers) g) (wire o (coef o (cleared o m all)) below k) (asserted o (cleared o m all) below k) (wire o (coef o all) below k)
      (entry o (wires_of o (drop l c.layers) x) g) (first_asserts o (drop l c.layers) x g) (first_sum o (drop l c.layers) x g)
      (cleared-parts o size number element bytes laws m wires (length below) all below k terms lone) (level-parts o size number element bytes laws c l g x valid n lt) mark sum

  -- both, one behind the other
  pub record JoinedLevel (c d : Wiring A) (l : ℕ) (layer : Layer A) (split : ℕ) (x y below : List A) : Type 0 where
    pub values : layer_values o layer below ≡ wires_of o (drop l c.layers) x ++ wires_of o (drop l d.layers) y
    pub first : (g : ℕ) → g < level_wires c l → asserted o layer.terms below g ≡ first_asserts o (drop l c.layers) x g
    pub second : (g : ℕ) → g < level_wires d l → asserted o layer.terms below (split + g) ≡ first_asserts o (drop l d.layers) y g

  pub joined-level : (c d : Wiring A) (l split more : ℕ) (layer : Layer A) (x y below : List A) (m : ℕ → Bool) (first all : List (Term A)) → IsValid o c → IsValid o d
      → layer.wires ≡ split + more → layer.terms ≡ cleared o m all → split ≡ level_wires c l → more ≡ level_wires d l
      → length x ≡ input_width c → length y ≡ input_width d
      → AreTerms o (split + more) (length below) None all → AreLone o m None all
      → ((i : ℕ) → i < split → wire o (coef o all) below i ≡ wire o (coef o first) below i)
      → ((g : ℕ) → g < split → wire o (coef o first) below (0 + g) ≡ first_sum o (drop l c.layers) x g)
      → ((g : ℕ) → g < more → wire o (coef o all) below (split + g) ≡ first_sum o (drop l d.layers) y g)
      → ((g : ℕ) → g < split → m g ≡ first_asserted number (drop l c.layers) g)
      → ((g : ℕ) → g < more → m (split + g) ≡ first_asserted number (drop l d.layers) g)
      → JoinedLevel c d l layer split x y below
  joined-level c d l split more layer x y below m first all vc vd w is es em nx ny terms lone before left right mc md =
      let xs = wires_of o (drop l c.layers) x in
      let ys = wires_of o (drop l d.layers) y in
      let lx : length xs ≡ split = wires-count o (drop l c.layers) x (input_width c) nx ∙ sym es in
      let ly : length ys ≡ more = wires-count o (drop l d.layers) y (input_width d) ny ∙ sym em in
      record {
        values = two-blocks o layer below xs ys (omega (arith, w, lx, ly))
            (λ g lt. ap (λ ts. wire o (coef o ts) below g) is ∙ (one g (omega (arith, lt, lx))).0)
            (λ g lt. ap (λ ts. wire o (coef o ts) below (length xs + g)) is ∙ ap (λ k. wire o (coef o (cleared o m all)) below (k + g)) lx ∙ (other g (omega (arith, lt, ly))).0);
        first = λ g lt. ap (λ ts. asserted o ts below g) is ∙ (one g (omega (arith, lt, es))).1;
        second = λ g lt. ap (λ ts. asserted o ts below (split + g)) is ∙ (other g (omega (arith, lt, em))).1;
      }
    where
      one : (g : ℕ) → g < split → (wire o (coef o (cleared o m all)) below g ≡ entry o (wires_of o (drop l c.layers) x) g) × (asserted o (cleared o m all) below g ≡ first_asserts o (drop l c.layers) x g)
      one g lt = joined-one c l (split + more) g g x below m all vc nx terms lone (before g lt ∙ ap (wire o (coef o first) below) (omega arith) ∙ left g lt) (mc g lt) (omega (arith, lt, es))

      other : (g : ℕ) → g < more → (wire o (coef o (cleared o m all)) below (split + g) ≡ entry o (wires_of o (drop l d.layers) y) g) × (asserted o (cleared o m all) below (split + g) ≡ first_asserts o (drop l d.layers) y g)
      other g lt = joined-one d l (split + more) g (split + g) y below m all vd ny terms lone (right g lt) (md g lt) (omega (arith, lt, em))

  -- in version 1 no wire is marked
  pub none-marked : (c d : Wiring A) (l split more : ℕ) (m : ℕ → Bool) → IsValid o c → IsValid o d → c.version ≡ 1 → d.version ≡ 1
      → ((g : ℕ) → g < split → m g ≡ first_asserted number (drop l c.layers) g)
      → ((g : ℕ) → g < more → m (split + g) ≡ first_asserted number (drop l d.layers) g)
      → (k : ℕ) → k < split + more → m k ≡ false
  none-marked c d l split more m vc vd ec ed mc md k lt = elim (cases_lt k split) [
    | inl i ↦ mc k i ∙ first-none o size number element bytes laws c l k vc ec
    | inr i ↦
        let g = k - split in
        let is : split + g ≡ k = omega (arith, i) in
        ap m (sym is) ∙ md g (omega (arith, is, lt)) ∙ first-none o size number element bytes laws d l g vd ed
  ]

-- ---- what is asserted, level by level

module _ {A : Type 0} (o : Ops A) where
  -- what the first of some layers asserts, and the others
  pub asserts-from : (n m : ℕ) (layers : List (Layer A)) (inputs : List A) → AreAssertsZero o (drop m layers) inputs
      ↔ (((g : ℕ) → g < first_wires n (drop m layers) → first_asserts o (drop m layers) inputs g ≡ o.zero) × AreAssertsZero o (drop (m + 1) layers) inputs)
  asserts-from n m layers inputs = elim (cases_lt m (length layers)) [
    | inl l ↦ go-layer (drop m layers) (drop (m + 1) layers) (get_or layers m none) (drop_more layers m none l)
    | inr l ↦ go-none (drop m layers) (drop (m + 1) layers) (drop_all m layers l) (drop_all (m + 1) layers (omega (arith, l)))
  ]
    where
      none : Layer A
      none = record { wires = 0; terms = [] }

      go-layer : (all rest : List (Layer A)) (layer : Layer A) → all ≡ layer ∷ rest
          → AreAssertsZero o all inputs ↔ (((g : ℕ) → g < first_wires n all → first_asserts o all inputs g ≡ o.zero) × AreAssertsZero o rest inputs)
      go-layer all rest layer e =
          subst (λ ls. AreAssertsZero o ls inputs ↔ (((g : ℕ) → g < first_wires n ls → first_asserts o ls inputs g ≡ o.zero) × AreAssertsZero o rest inputs)) (sym e) (λ h. h, λ h. h)

      go-none : (all rest : List (Layer A)) → all ≡ [] → rest ≡ []
          → AreAssertsZero o all inputs ↔ (((g : ℕ) → g < first_wires n all → first_asserts o all inputs g ≡ o.zero) × AreAssertsZero o rest inputs)
      go-none all rest e f =
          subst (λ ls. AreAssertsZero o ls inputs ↔ (((g : ℕ) → g < first_wires n ls → first_asserts o ls inputs g ≡ o.zero) × AreAssertsZero o rest inputs)) (sym e)
          (subst (λ ls. Unit {0} ↔ (((g : ℕ) → g < n → o.zero ≡ o.zero) × AreAssertsZero o ls inputs)) (sym f) (λ h. (λ g l. refl, tt), λ h. tt))

  pub asserts-joined : (c d : Wiring A) (m : ℕ) (layer : Layer A) (layers : List (Layer A)) (x y values : List A)
      → layer.wires ≡ level_wires c m + level_wires d m
      → ((g : ℕ) → g < level_wires c m → asserted o layer.terms (wires_of o layers values) g ≡ first_asserts o (drop m c.layers) x g)
      → ((g : ℕ) → g < level_wires d m → asserted o layer.terms (wires_of o layers values) (level_wires c m + g) ≡ first_asserts o (drop m d.layers) y g)
      → AreAssertsZero o layers values ↔ (AreAssertsZero o (drop (m + 1) c.layers) x × AreAssertsZero o (drop (m + 1) d.layers) y)
      → AreAssertsZero o (layer ∷ layers) values ↔ (AreAssertsZero o (drop m c.layers) x × AreAssertsZero o (drop m d.layers) y)
  asserts-joined c d m layer layers x y values w first second under =
      let fc = asserts-from (input_width c) m c.layers x in
      let fd = asserts-from (input_width d) m d.layers y in (
        λ h.
            let rest = under.0 h.1 in (
              fc.1 (λ g l. sym (first g l) ∙ h.0 g (omega (arith, l, w)), rest.0),
              fd.1 (λ g l. sym (second g l) ∙ h.0 (level_wires c m + g) (omega (arith, l, w)), rest.1),
            ),
        λ h.
            let hc = fc.0 h.0 in
            let hd = fd.0 h.1 in (
              λ g l. elim (cases_lt g (level_wires c m)) [
                | inl i ↦ first g i ∙ hc.0 g i
                | inr i ↦
                    let k = g - level_wires c m in
                    let is : level_wires c m + k ≡ g = omega (arith, i) in
                    let less : k < level_wires d m = omega (arith, is, l, w) in
                    ap (asserted o layer.terms (wires_of o layers values)) (sym is) ∙ second k less ∙ hd.0 k less
              ],
              under.1 (hc.1, hd.1),
            ),
      )

-- ---- all levels from l on

module _ {A : Type 0} (o : Ops A) where
  -- what is known of the layers from level l on, over so many inputs
  pub record Sized (c d : Wiring A) (version l inputs : ℕ) (layers : List (Layer A)) (left right : List ℕ) : Type 0 where
    pub left_below : AreNumbersBelow (first_wires inputs layers) left
    pub right_below : AreNumbersBelow (first_wires inputs layers) right
    pub each : AreWide (both_wires c d) l layers
    pub short : AreShort (both_terms c d) l layers
    pub wires : (under_of inputs layers).wires ≡ sum_levels (both_wires c d) l (length layers)
    pub terms : (under_of inputs layers).terms ≤ sum_levels (both_terms c d) l (length layers)
    pub placed : AreAllStanding o version inputs layers

  -- and of their values
  pub record Valued (c d : Wiring A) (l : ℕ) (x y values : List A) (layers : List (Layer A)) (left right : List ℕ) : Type 0 where
    pub left_copies : AreCopies o left (wires_of o (drop l c.layers) x) (wires_of o layers values)
    pub right_copies : AreCopies o right (wires_of o (drop l d.layers) y) (wires_of o layers values)
    pub both : 1 ≤ length layers → wires_of o layers values ≡ wires_of o (drop l c.layers) x ++ wires_of o (drop l d.layers) y
    pub asserts : AreAssertsZero o layers values ↔ (AreAssertsZero o (drop l c.layers) x × AreAssertsZero o (drop l d.layers) y)

  pub record Standing (c d : Wiring A) (p q : List ℕ) (depth l : ℕ) (layers : List (Layer A)) (left right : List ℕ) : Type 0 where
    pub count : length layers + l ≡ depth
    pub left_count : length left ≡ level_wires c l
    pub right_count : length right ≡ level_wires d l
    pub sized : (version inputs : ℕ) → MayHaveParts version c d → 1 ≤ inputs → AreNumbersBelow inputs p → AreNumbersBelow inputs q → Sized c d version l inputs layers left right
    pub valued : (values : List A) → 1 ≤ length values → entry o values 0 ≡ o.one → AreNumbersBelow (length values) p → AreNumbersBelow (length values) q
        → Valued c d l (chosen o p values) (chosen o q values) values layers left right

  -- ---- the beginning

  chosen-below : (p : List ℕ) (n : ℕ) → 1 ≤ n → AreNumbersBelow n p → AreNumbersBelow n (0 ∷ p)
  chosen-below p n some h zero l = omega (arith, some)
  chosen-below p n some h (suc k) l = h k (omega (arith, l))

  chosen-copies : (p : List ℕ) (values : List A) → entry o values 0 ≡ o.one → AreCopies o (0 ∷ p) (chosen o p values) values
  chosen-copies p values e zero l = sym e
  chosen-copies p values e (suc k) l = get_or-map (entry o values) p k 0 o.zero (omega (arith, l))

  pub standing-starts : (c d : Wiring A) (p q : List ℕ) (depth : ℕ) (left right : List ℕ) → left ≡ 0 ∷ p → right ≡ 0 ∷ q
      → length p ≡ c.publics + c.privates → length q ≡ d.publics + d.privates
      → drop depth c.layers ≡ [] → drop depth d.layers ≡ []
      → Standing c d p q depth depth [] left right
  standing-starts c d p q depth left right el er np nq ec ed = record {
    count = omega arith;
    left_count = ap length el ∙ omega (arith, np) ∙ sym (ap (first_wires (input_width c)) ec);
    right_count = ap length er ∙ omega (arith, nq) ∙ sym (ap (first_wires (input_width d)) ed);
    sized = λ version inputs may some hp hq. record {
      left_below = subst (AreNumbersBelow inputs) (sym el) (chosen-below p inputs some hp);
      right_below = subst (AreNumbersBelow inputs) (sym er) (chosen-below q inputs some hq);
      each = tt;
      short = tt;
      wires = refl;
      terms = omega arith;
      placed = tt;
    };
    valued = λ values some e hp hq. record {
      left_copies = subst (λ ls. AreCopies o left (wires_of o ls (chosen o p values)) values) (sym ec) (subst (λ ns. AreCopies o ns (chosen o p values) values) (sym el) (chosen-copies p values e));
      right_copies = subst (λ ls. AreCopies o right (wires_of o ls (chosen o q values)) values) (sym ed) (subst (λ ns. AreCopies o ns (chosen o q values) values) (sym er) (chosen-copies q values e));
      both = λ l. absurd (omega (arith, l));
      asserts = subst (λ ls. Unit {0} ↔ (AreAssertsZero o ls (chosen o p values) × AreAssertsZero o (drop depth d.layers) (chosen o q values))) (sym ec)
          (subst (λ ls. Unit {0} ↔ (Unit {0} × AreAssertsZero o ls (chosen o q values))) (sym ed) (λ h. (tt, tt), λ h. tt));
    };
  }

  -- ---- one level more

  pub standing-adds : (c d : Wiring A) (p q : List ℕ) (depth l m : ℕ) (layers : List (Layer A)) (left right next_left next_right : List ℕ) (layer : Layer A) (split more : ℕ) → m + 1 ≡ l
      → length p ≡ c.publics + c.privates → length q ≡ d.publics + d.privates
      → layer.wires ≡ level_wires c m + level_wires d m → split ≡ level_wires c m → more ≡ level_wires d m
      → ((width : ℕ) → AreNumbersBelow width left → AreNumbersBelow width right → ArePlaced layer.wires width None layer.terms)
      → ((version width : ℕ) → AreNumbersBelow width left → AreNumbersBelow width right → MayHaveParts version c d → MayEachStand o version None layer.terms)
      → length layer.terms ≤ level_terms c m + level_terms d m
      → ((x y below : List A) → AreJoinedValues o c d m left right x y below → layer_values o layer below ≡ wires_of o (drop m c.layers) x ++ wires_of o (drop m d.layers) y)
      → ((x y below : List A) → AreJoinedValues o c d m left right x y below → (g : ℕ) → g < level_wires c m → asserted o layer.terms below g ≡ first_asserts o (drop m c.layers) x g)
      → ((x y below : List A) → AreJoinedValues o c d m left right x y below → (g : ℕ) → g < level_wires d m → asserted o layer.terms below (split + g) ≡ first_asserts o (drop m d.layers) y g)
      → length next_left ≡ split → ((k : ℕ) → k < split → at next_left k ≡ 0 + k)
      → length next_right ≡ more → ((k : ℕ) → k < more → at next_right k ≡ split + k)
      → Standing c d p q depth l layers left right → Standing c d p q depth m (layer ∷ layers) next_left next_right
  standing-adds c d p q depth l m layers left right next_left next_right layer split more back np nq w es em terms coefs short values firsts seconds nl al nr ar s = record {
    count = omega (arith, s.count, back);
    left_count = nl ∙ es;
    right_count = nr ∙ em;
    sized = λ version inputs may some hp hq.
        let z = s.sized version inputs may some hp hq in
        let width : first_wires inputs layers ≡ (under_of inputs layers).width = sym (under-first inputs layers) in
        record {
          left_below = λ k lt. omega (arith, lt, nl, al k (omega (arith, lt, nl)), w, es);
          right_below = λ k lt. omega (arith, lt, nr, ar k (omega (arith, lt, nr)), w, es, em);
          each = (w, subst (λ k. AreWide (both_wires c d) k layers) (sym back) z.each);
          short = (short, subst (λ k. AreShort (both_terms c d) k layers) (sym back) z.short);
          wires = omega (arith, w, z.wires, ap (λ k. sum_levels (both_wires c d) k (length layers)) back);
          terms = omega (arith, short, z.terms, ap (λ k. sum_levels (both_terms c d) k (length layers)) back);
          placed = (
            subst (λ n. ArePlaced layer.wires n None layer.terms) width (terms (first_wires inputs layers) z.left_below z.right_below),
            coefs version (first_wires inputs layers) z.left_below z.right_below may,
            z.placed,
          );
        };
    valued = λ vs some e hp hq.
        let v = s.valued vs some e hp hq in
        let z = s.sized 2 (length vs) (λ two. absurd (omega (arith, two))) some hp hq in
        let x = chosen o p vs in
        let y = chosen o q vs in
        let below = wires_of o layers vs in
        let wide : length below ≡ first_wires (length vs) layers = wires-count o layers vs (length vs) refl in
        let nx : length x ≡ input_width c = omega (arith, length-map p (entry o vs), np) in
        let ny : length y ≡ input_width d = omega (arith, length-map q (entry o vs), nq) in
        let xs = wires_of o (drop m c.layers) x in
        let ys = wires_of o (drop m d.layers) y in
        let joined : AreJoinedValues o c d m left right x y below = record {
          first_count = nx;
          first_one = refl;
          second_count = ny;
          second_one = refl;
          left_below = subst (λ n. AreNumbersBelow n left) (sym wide) z.left_below;
          right_below = subst (λ n. AreNumbersBelow n right) (sym wide) z.right_below;
          left_copies = subst (λ k. AreCopies o left (wires_of o (drop k c.layers) x) below) (sym back) v.left_copies;
          right_copies = subst (λ k. AreCopies o right (wires_of o (drop k d.layers) y) below) (sym back) v.right_copies;
        } in
        let same : layer_values o layer below ≡ xs ++ ys = values x y below joined in
        let lx : length xs ≡ split = wires-count o (drop m c.layers) x (input_width c) nx ∙ sym es in
        record {
          left_copies = λ k lt.
              let in_split : k < split = omega (arith, lt, nl) in
              sym (ap (λ zs. entry o zs (at next_left k)) same ∙ ap (entry o (xs ++ ys)) (al k in_split ∙ omega arith) ∙ get_or_append_left xs ys o.zero k (omega (arith, in_split, lx)));
          right_copies = λ k lt.
              sym (ap (λ zs. entry o zs (at next_right k)) same ∙ ap (entry o (xs ++ ys)) (ar k (omega (arith, lt, nr)) ∙ ap (λ n. n + k) (sym lx)) ∙ get_or-append-add xs ys k o.zero);
          both = λ some. same;
          asserts = asserts-joined o c d m layer layers x y vs w (firsts x y below joined)
              (λ g lt. ap (λ k. asserted o layer.terms below (k + g)) (sym es) ∙ seconds x y below joined g lt)
              (subst (λ k. AreAssertsZero o layers vs ↔ (AreAssertsZero o (drop k c.layers) x × AreAssertsZero o (drop k d.layers) y)) (sym back) v.asserts);
        };
  }

  -- ---- the end

  pub standing-ends : (c d : Wiring A) (p q : List ℕ) (depth l : ℕ) (layers all : List (Layer A)) (left right : List ℕ) → l ≡ 0 → depth ≡ level_count c d → all ≡ layers → Standing c d p q depth l layers left right
      → (version inputs : ℕ) → MayHaveParts version c d → 1 ≤ inputs → AreNumbersBelow inputs p → AreNumbersBelow inputs q → AreLevels o version inputs c d all
  standing-ends c d p q depth l layers all left right bottom deep e s version inputs may some hp hq =
      let z = s.sized version inputs may some hp hq in
      subst (AreLevels o version inputs c d) (sym e) (record {
        count = omega (arith, s.count, bottom, deep);
        each = subst (λ k. AreWide (both_wires c d) k layers) bottom z.each;
        short = subst (λ k. AreShort (both_terms c d) k layers) bottom z.short;
        wires = z.wires ∙ ap (λ k. sum_levels (both_wires c d) k (length layers)) bottom;
        terms = omega (arith, z.terms, ap (λ k. sum_levels (both_terms c d) k (length layers)) bottom);
        placed = z.placed;
      })

  -- ---- the whole is as large as both

  wide-at : (f : ℕ → ℕ) (n l k : ℕ) (layers : List (Layer A)) → AreWide f l layers → k < length layers → first_wires n (drop k layers) ≡ f (l + k)
  wide-at f n l k [] h lt = absurd (omega (arith, lt))
  wide-at f n l zero (layer ∷ layers) h lt = h.0 ∙ ap f (omega arith)
  wide-at f n l (suc k) (layer ∷ layers) h lt = wide-at f n (l + 1) k layers h.1 (omega (arith, lt)) ∙ ap f (omega arith)

  short-at : (f : ℕ → ℕ) (n l k : ℕ) (layers : List (Layer A)) → AreShort f l layers → k < length layers → first_terms n (drop k layers) ≤ f (l + k)
  short-at f n l k [] h lt = absurd (omega (arith, lt))
  short-at f n l zero (layer ∷ layers) h lt = omega (arith, h.0, ap f (plus-zero l))
    where
      plus-zero : (l : ℕ) → l + 0 ≡ l
      plus-zero l = omega arith
  short-at f n l (suc k) (layer ∷ layers) h lt = omega (arith, short-at f n (l + 1) k layers h.1 (omega (arith, lt)), ap f (next l k))
    where
      next : (l k : ℕ) → (l + 1) + k ≡ l + suc k
      next l k = omega arith

  pub sized-beside : (version inputs : ℕ) (c d whole : Wiring A) → AreLevels o version inputs c d whole.layers → IsSizedBeside c d whole
  sized-beside version inputs c d whole levels = record {
    depth = levels.count;
    wires = λ l lt. wide-at (both_wires c d) (input_width whole) 0 l whole.layers levels.each (omega (arith, lt, levels.count)) ∙ ap (both_wires c d) (zero-plus l);
    terms = λ l lt. omega (arith, short-at (both_terms c d) (input_width whole) 0 l whole.layers levels.short (omega (arith, lt, levels.count)), ap (both_terms c d) (zero-plus l));
  }
    where
      zero-plus : (l : ℕ) → 0 + l ≡ l
      zero-plus l = omega arith

  -- the layers make a valid circuit where both fit

  are-layers : (version : ℕ) (f : ℕ → ℕ) (l inputs : ℕ) (layers : List (Layer A)) → AreWide f l layers → ((k : ℕ) → l ≤ k → k < l + length layers → (1 ≤ f k) × (f k ≤ most_wires))
      → (under_of inputs layers).wires ≤ most_total → (under_of inputs layers).terms ≤ most_total → AreAllStanding o version inputs layers → AreLayersOf o version inputs layers
  are-layers version f l inputs [] wide within wires terms placed = tt
  are-layers version f l inputs (layer ∷ layers) wide within wires terms placed =
      let here = within l (omega arith) (omega arith) in (
        record { some = omega (arith, here.0, wide.0); most = omega (arith, here.1, wide.0); wires = wires; terms = terms; each = placed.0; coefs = placed.1 },
        are-layers version f (l + 1) inputs layers wide.1 (λ k a b. within k (omega (arith, a)) (omega (arith, b))) (omega (arith, wires)) (omega (arith, terms)) placed.2,
      )

  -- each level has a wire
  some-first : (version n : ℕ) (layers : List (Layer A)) → 1 ≤ n → AreLayersOf o version n layers → (l : ℕ) → 1 ≤ first_wires n (drop l layers)
  some-first version n [] some h l = subst (λ ls. 1 ≤ first_wires {A = A} n ls) (sym (drop-none l)) some
    where
      drop-none : (l : ℕ) → drop {A = Layer A} l [] ≡ []
      drop-none zero = refl
      drop-none (suc l) = refl
  some-first version n (layer ∷ layers) some h zero = let one = h.0 in one.some
  some-first version n (layer ∷ layers) some h (suc l) = some-first version n layers some h.1 l

  pub some-wires : (c : Wiring A) → IsValid o c → (l : ℕ) → 1 ≤ level_wires c l
  some-wires c valid l = some-first c.version (input_width c) c.layers (omega arith) valid.layers l

  pub fit-valid : (version publics privates : ℕ) (c d : Wiring A) (layers : List (Layer A)) → (version ≡ 1) ⊎ (version ≡ 2) → publics ≤ most_publics → privates ≤ most_privates → IsValid o c → IsValid o d
      → AreLevels o version (1 + publics + privates) c d layers → FitBeside c d → IsValid o (wiring_of version publics privates layers)
  fit-valid version publics privates c d layers known hp hq vc vd levels fit =
      let few : (under_of (1 + publics + privates) layers).wires ≤ most_total = omega (arith, levels.wires, ap (sum_levels (both_wires c d) 0) levels.count, fit.wires) in
      let short : (under_of (1 + publics + privates) layers).terms ≤ most_total = omega (arith, levels.terms, ap (sum_levels (both_terms c d) 0) levels.count, fit.terms) in
      record {
        version = known;
        publics = hp;
        privates = hq;
        some = omega (arith, levels.count, vc.some);
        depth = omega (arith, levels.count, vc.depth, vd.depth);
        layers = are-layers version (both_wires c d) 0 (1 + publics + privates) layers levels.each
            (λ k a b. (omega (arith, some-wires c vc k), fit.each k (omega (arith, b, levels.count)))) few short levels.placed;
      }

  -- ---- satisfied

  pub all-joined : (xs ys : List A) → IsFirstNonzero o (xs ++ ys) None ↔ (IsFirstNonzero o xs None × IsFirstNonzero o ys None)
  all-joined xs ys = (
    λ h. (
      λ g l. sym (get_or_append_left xs ys o.zero g l) ∙ h g (omega (arith, l, length-append xs ys)),
      λ g l. sym (get_or-append-add xs ys g o.zero) ∙ h (length xs + g) (omega (arith, l, length-append xs ys)),
    ),
    λ h g l. elim (cases_lt g (length xs)) [
      | inl m ↦ get_or_append_left xs ys o.zero g m ∙ h.0 g m
      | inr m ↦ later (h.1) g m l
    ],
  )
    where
      later : ((g : ℕ) → g < length ys → entry o ys g ≡ o.zero) → (g : ℕ) → length xs ≤ g → g < length (xs ++ ys) → entry o (xs ++ ys) g ≡ o.zero
      later h g m l =
          let split = length-split g m in
          subst (λ k. entry o (xs ++ ys) k ≡ o.zero) split.1 (get_or-append-add xs ys split.0 o.zero ∙ h split.0 (omega (arith, l, split.1, length-append xs ys)))
        where
          length-split : (g : ℕ) → length xs ≤ g → (k : ℕ) × (length xs + k ≡ g)
          length-split g m = (g - length xs, omega (arith, m))
