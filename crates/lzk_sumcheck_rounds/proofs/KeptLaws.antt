-- What a prover keeps of a layer: pairs, the coefficients of wire 0, and two tables.
use Rattle.std.specs.Prelude.{◌≡◌, ◌≢◌, ℕ, ◌<◌, ◌≤◌, ◌+◌, ◌*◌, ◌^◌, ◌==◌, ◌&&◌, None, List, [], ◌∷◌, length, map, take, drop, slice_set, true, false, not, Bool, cond}
use Rattle.std.proofs.Common.{refl, sym, ap, ◌∙◌, arith, ◌⊎◌, inl, inr}
use Rattle.std.proofs.lemmas.Bool.{cases_eq, eq-eqb, ne_eqb}
use Rattle.std.proofs.lemmas.List.{get_or_past, get_or-take, length-take-le, get_or-set_same, get_or-set_other}
use native.Mathlib.Decide.{dec_lt}
use Rattle.lzk_field.specs.Ring.{Ops, RingLaws}
use Rattle.lzk_field.specs.Sums.{sum_below, minus, entry}
use Rattle.lzk_field.proofs.RingBasics.{zero_plus, times_zero}
use Rattle.lzk_field.proofs.Solve.{var, null, unit, ◌⊞◌, ◌⊟◌, ◌⊠◌, solve}
use Rattle.lzk_field.proofs.SumLaws.{sum-ext, sum-zero, sum-plus, sum-single}
use Rattle.lzk_mle.specs.Multilinear.{tilde}
use Rattle.lzk_mle.proofs.TableLaws.{extension-bound, extension-same, tilde-is}
use Rattle.lzk_circuit.specs.declared.layer.Term.{Term}
use Rattle.lzk_circuit.specs.Valid.{ArePlaced}
use Rattle.lzk_circuit.specs.Wires.{coef, is_at, layer_coefficient, weighed, AreDistinct}
use Rattle.lzk_circuit.proofs.AssertLaws.{weighed-coef, weighed-placed}
use Rattle.lzk_circuit.proofs.OrderLaws.{placed-distinct}
use Rattle.lzk_circuit.proofs.TermSums.{split}
use Rattle.lzk_sumcheck_rounds.specs.declared.pairs.Pair.{Pair}
use Rattle.lzk_sumcheck.specs.Layers.{layer_of_terms}
use Rattle.lzk_sumcheck_rounds.specs.Pairs.{first_pair, spread, bind_pair, ArePairs, bound_entry}
use Rattle.lzk_sumcheck_rounds.specs.Rows.{linear_at, counted, IsKept}
use Rattle.lzk_sumcheck.specs.States.{State, bind_state, bound}
use Rattle.lzk_sumcheck_rounds.proofs.CurveLaws.{bound-past}
use Rattle.lzk_sumcheck_rounds.proofs.MergeLaws.{counted-step, within-step}
use Rattle.lzk_sumcheck_rounds.proofs.RowLaws.{two-more}
use Rattle.lzk_sumcheck_rounds.proofs.SpreadLaws.{spread-bind}
use Rattle.lzk_sumcheck.proofs.SumcheckLaws.{cut, weighted, state_of, cut-below, cut-above}

module _ {A : Type 0} (o : Ops A) (r : RingLaws o) where
  open o use {plus, times, neg}

  bound-kept : (x : A) (f : ℕ → A) (table : List A) (i : ℕ) → ((k : ℕ) → f k ≡ entry o table k) → bound o x f i ≡ bound_entry o x table i
  bound-kept x f table i e = ap (λ w. plus (times (minus o o.one x) w) (times x (f (2 * i + 1)))) (e (2 * i)) ∙ ap (λ w. plus (times (minus o o.one x) (entry o table (2 * i))) (times x w)) (e (2 * i + 1))

  -- the coefficients of wire 0 with a variable bound
  pub linear-bound_a : (scale x : A) (linear : List A) (i j : ℕ) → linear_at o false (times scale (minus o o.one x)) linear j i ≡ bound o x (λ a. linear_at o true scale linear a j) i
  linear-bound_a scale x linear i j = by (cases_eq i 0)
    where
      y : A
      y = times scale (entry o linear j)

      left : A → A → A
      left u v = plus (times (minus o o.one x) u) (times x v)

      by : (i ≡ 0) ⊎ (i ≢ 0) → cond (i == 0) (times (times scale (minus o o.one x)) (entry o linear j)) o.zero ≡ left (cond (2 * i == 0) y o.zero) (cond (2 * i + 1 == 0) y o.zero)
      by (inl e) =
          let odd : 2 * i + 1 ≢ 0 = omega arith in
          ap (λ b. cond b (times (times scale (minus o o.one x)) (entry o linear j)) o.zero) (eq-eqb i 0 e)
          ∙ solve o r (scale ∷ x ∷ entry o linear j ∷ []) ((var 0 ⊠ (unit ⊟ var 1)) ⊠ var 2) ((unit ⊟ var 1) ⊠ (var 0 ⊠ var 2) ⊞ var 1 ⊠ null) refl
          ∙ sym (ap (λ b. left (cond b y o.zero) (cond (2 * i + 1 == 0) y o.zero)) (eq-eqb (2 * i) 0 (omega arith)) ∙ ap (λ b. left y (cond b y o.zero)) (ne_eqb (2 * i + 1) 0 odd))
      by (inr d) =
          let even : 2 * i ≢ 0 = omega arith in
          let odd : 2 * i + 1 ≢ 0 = omega arith in
          ap (λ b. cond b (times (times scale (minus o o.one x)) (entry o linear j)) o.zero) (ne_eqb i 0 d)
          ∙ solve o r (x ∷ []) null ((unit ⊟ var 0) ⊠ null ⊞ var 0 ⊠ null) refl
          ∙ sym (ap (λ b. left (cond b y o.zero) (cond (2 * i + 1 == 0) y o.zero)) (ne_eqb (2 * i) 0 even) ∙ ap (λ b. left o.zero (cond b y o.zero)) (ne_eqb (2 * i + 1) 0 odd))

  pub linear-bound_b : (scale x : A) (linear new : List A) (i j : ℕ) → entry o new i ≡ bound_entry o x linear i → linear_at o true scale new j i ≡ bound o x (λ a. linear_at o false scale linear a j) i
  linear-bound_b scale x linear new i j e = ap (λ w. cond (j == 0) (times scale w) o.zero) e ∙ by (j == 0)
    where
      by : (q : Bool) → cond q (times scale (bound_entry o x linear i)) o.zero
          ≡ plus (times (minus o o.one x) (cond q (times scale (entry o linear (2 * i))) o.zero)) (times x (cond q (times scale (entry o linear (2 * i + 1))) o.zero))
      by true = solve o r (scale ∷ x ∷ entry o linear (2 * i) ∷ entry o linear (2 * i + 1) ∷ []) (var 0 ⊠ ((unit ⊟ var 1) ⊠ var 2 ⊞ var 1 ⊠ var 3)) ((unit ⊟ var 1) ⊠ (var 0 ⊠ var 2) ⊞ var 1 ⊠ (var 0 ⊠ var 3)) refl
      by false = solve o r (x ∷ []) null ((unit ⊟ var 0) ⊠ null ⊞ var 0 ⊠ null) refl

  -- the first places of a table that is bound
  pub bound-taken : (table new : List A) (half : ℕ) (x : A) (i : ℕ) → length table ≤ 2 * half → half ≤ length new → ((k : ℕ) → k < half → entry o new k ≡ bound_entry o x table k)
      → entry o (take half new) i ≡ bound_entry o x table i
  bound-taken table new half x i fits room low = all (dec_lt i half)
    where
      all : Dec (i < half) → entry o (take half new) i ≡ bound_entry o x table i
      all (yes l) = get_or-take half new i o.zero l ∙ low i l
      all (no l) = get_or_past (take half new) i o.zero (omega (arith, length-take-le half new room)) ∙ sym (bound-past o r table x i (omega arith))

  -- a bound table's extension
  pub tilde-bound : (half : ℕ) (old new : List A) (x : A) (xs : List A) → length old ≤ 2 * half → length new ≤ half
      → ((i : ℕ) → i < half → entry o new i ≡ bound_entry o x old i) → tilde o new xs ≡ tilde o old (x ∷ xs)
  tilde-bound half old new x xs fits room e =
      tilde-is o r half new xs room
      ∙ extension-same o r half (entry o new) (bound_entry o x old) xs e
      ∙ sym (extension-bound o r half (entry o old) x xs)
      ∙ sym (tilde-is o r (2 * half) old (x ∷ xs) fits)

  -- what is kept after a variable is bound
  pub bind-kept : (j k : ℕ) (st : State A) (of_a : Bool) (ps qs : List (Pair A)) (scale next : A) (linear left first second new : List A) (x : A)
      → IsKept o (j + 1) k st of_a ps scale linear first second
      → ((a b : ℕ) → spread o qs a b ≡ spread o (map (bind_pair o x) ps) a b)
      → ((a b : ℕ) → linear_at o (not of_a) next left b a ≡ bound o x (λ i. linear_at o of_a scale linear i b) a)
      → ((i : ℕ) → entry o new i ≡ bound_entry o x first i) → IsKept o k j (bind_state o x st) (not of_a) qs next left second new
  bind-kept j k st of_a ps qs scale next linear left first second new x h pairs lin table = record {
    n_is = h.m_is;
    m_is = let twice : 2 ^ (j + 1) ≡ 2 * 2 ^ j = two-more j in omega (arith, h.n_is, twice);
    q_is = λ b a.
        let s = minus o o.one x in
        let l = λ (i : ℕ). linear_at o of_a scale linear i b in
        let p = λ (i : ℕ). spread o ps i b in
        ap (λ w. plus (times s w) (times x (st.q (2 * a + 1) b))) (h.q_is (2 * a) b) ∙ ap (λ w. plus (times s (plus (p (2 * a)) (l (2 * a)))) (times x w)) (h.q_is (2 * a + 1) b)
        ∙ solve o r (s ∷ x ∷ p (2 * a) ∷ p (2 * a + 1) ∷ l (2 * a) ∷ l (2 * a + 1) ∷ []) (var 0 ⊠ (var 2 ⊞ var 4) ⊞ var 1 ⊠ (var 3 ⊞ var 5)) ((var 0 ⊠ var 2 ⊞ var 1 ⊠ var 3) ⊞ (var 0 ⊠ var 4 ⊞ var 1 ⊠ var 5)) refl
        ∙ ap (λ w. plus w (bound o x l a)) (spread-bind o r x ps a b ∙ sym (pairs b a)) ∙ ap (plus (spread o qs b a)) (sym (lin a b));
    f_is = h.h_is;
    h_is = λ i. bound-kept x st.f first i h.f_is ∙ sym (table i);
  }

  -- the pairs at first
  weights-of : (terms : List (Term A)) (weights : List A) (n a b : ℕ) → AreDistinct o (length weights) n terms
      → sum_below o (length weights) (λ g. times (entry o weights g) (coef o terms g a b)) ≡ spread o (map (first_pair o weights) terms) a b
  weights-of [] weights n a b h = sum-ext o r (length weights) (λ g. times (entry o weights g) o.zero) (λ g. o.zero) (λ g l. times_zero o r _) ∙ sum-zero o r (length weights)
  weights-of (t ∷ ts) weights n a b h =
      let k = length weights in
      let w = entry o weights in
      let c = coef o ts in
      let one : ℕ → A = λ g. cond (is_at t g a b) (times t.coef (w g)) o.zero in
      sum-ext o r k (λ g. times (w g) (coef o (t ∷ ts) g a b)) (λ g. plus (one g) (times (w g) (c g a b)))
      (λ g l. r.times_comm (w g) (coef o (t ∷ ts) g a b) ∙ split o r t ts (λ x y z. w x) g a b h.3 ∙ ap (plus (one g)) (r.times_comm (c g a b) (w g)))
      ∙ sum-plus o r k one (λ g. times (w g) (c g a b))
      ∙ ap (λ x. plus x (sum_below o k (λ g. times (w g) (c g a b)))) (sum-ext o r k one (λ g. cond (g == t.g) (cond (a == t.a) (cond (b == t.b) (times (w g) t.coef) o.zero) o.zero) o.zero) (λ g l. nest (g == t.g) (a == t.a) (b == t.b) t.coef (w g))
      ∙ sum-single o r k t.g (λ g. cond (a == t.a) (cond (b == t.b) (times (w g) t.coef) o.zero) o.zero) h.0)
      ∙ ap (plus (cond (a == t.a) (cond (b == t.b) (times (w t.g) t.coef) o.zero) o.zero)) (weights-of ts weights n a b h.4)
    where
      nest : (p q s : Bool) (x y : A) → cond (p && (q && s)) (times x y) o.zero ≡ cond p (cond q (cond s (times y x) o.zero) o.zero) o.zero
      nest true true true x y = r.times_comm x y
      nest true true false x y = refl
      nest true false s x y = refl
      nest false q s x y = refl

  outside-a : (terms : List (Term A)) (weights : List A) (k n a b : ℕ) → AreDistinct o k n terms → n ≤ a → spread o (map (first_pair o weights) terms) a b ≡ o.zero
  outside-a [] weights k n a b h l = refl
  outside-a (t ∷ ts) weights k n a b h l =
      let d : a ≢ t.a = let m = h.1 in omega arith in
      ap (λ p. plus (cond p (cond (b == t.b) (times (entry o weights t.g) t.coef) o.zero) o.zero) (spread o (map (first_pair o weights) ts) a b)) (ne_eqb a t.a d) ∙ zero_plus o r _ ∙ outside-a ts weights k n a b h.4 l

  outside-b : (terms : List (Term A)) (weights : List A) (k n a b : ℕ) → AreDistinct o k n terms → n ≤ b → spread o (map (first_pair o weights) terms) a b ≡ o.zero
  outside-b [] weights k n a b h l = refl
  outside-b (t ∷ ts) weights k n a b h l =
      let d : b ≢ t.b = let m = h.2 in omega arith in
      ap (λ p. plus (cond (a == t.a) (cond p (times (entry o weights t.g) t.coef) o.zero) o.zero) (spread o (map (first_pair o weights) ts) a b)) (ne_eqb b t.b d)
      ∙ ap (λ w. plus w (spread o (map (first_pair o weights) ts) a b)) (none (a == t.a)) ∙ zero_plus o r _ ∙ outside-b ts weights k n a b h.4 l
    where
      none : (p : Bool) → cond p o.zero o.zero ≡ o.zero
      none true = refl
      none false = refl

  -- the same, of all coefficients
  weighed-weights : (terms : List (Term A)) (beta : A) (weights : List A) (n a b : ℕ) → ArePlaced (length weights) n None terms
      → sum_below o (length weights) (λ g. times (entry o weights g) (layer_coefficient o terms beta g a b)) ≡ spread o (map (first_pair o weights) (weighed o beta terms)) a b
  weighed-weights terms beta weights n a b h =
      let ts = weighed o beta terms in
      sum-ext o r (length weights) (λ g. times (entry o weights g) (layer_coefficient o terms beta g a b)) (λ g. times (entry o weights g) (coef o ts g a b))
      (λ g l. ap (times (entry o weights g)) (weighed-coef o r beta terms g a b))
      ∙ weights-of ts weights n a b (placed-distinct o (length weights) n None ts (weighed-placed o beta (length weights) n terms h))

  pub first-kept : (terms : List (Term A)) (beta : A) (weights values first second linear : List A) (ps : List (Pair A)) (bits : ℕ) → ArePlaced (length weights) (length values) None terms
      → ((i : ℕ) → entry o first i ≡ entry o values i) → ((i : ℕ) → entry o second i ≡ entry o values i)
      → ((a b : ℕ) → counted o ps linear a b ≡ spread o (map (first_pair o weights) (weighed o beta terms)) a b)
      → IsKept o bits bits (state_of o (layer_of_terms o terms beta weights values bits)) true ps o.one linear first second
  first-kept terms beta weights values first second linear ps bits h e e2 sums = record {
    n_is = refl;
    m_is = refl;
    q_is = λ a b. at a b (dec_lt a (length values)) (dec_lt b (length values)) ∙ sym (sums a b);
    f_is = λ i. sym (e i);
    h_is = λ i. sym (e2 i);
  }
    where
      apart : AreDistinct o (length weights) (length values) (weighed o beta terms)
      apart = placed-distinct o (length weights) (length values) None (weighed o beta terms) (weighed-placed o beta (length weights) (length values) terms h)

      at : (a b : ℕ) → Dec (a < length values) → Dec (b < length values) → cut o (length values) (λ c. cut o (length values) (weighted o (layer_of_terms o terms beta weights values bits) c) b) a ≡ spread o (map (first_pair o weights) (weighed o beta terms)) a b
      at a b (yes p) (yes q) =
          let n = length values in
          let w = weighted o (layer_of_terms o terms beta weights values bits) in
          cut-below o r n (λ c. cut o n (w c) b) a p ∙ cut-below o r n (w a) b q ∙ weighed-weights terms beta weights n a b h
      at a b (yes p) (no q) =
          let n = length values in
          let past : n ≤ b = omega arith in
          let w = weighted o (layer_of_terms o terms beta weights values bits) in
          cut-below o r n (λ c. cut o n (w c) b) a p ∙ cut-above o r n (w a) b past ∙ sym (outside-b (weighed o beta terms) weights (length weights) n a b apart past)
      at a b (no p) q =
          let n = length values in
          let past : n ≤ a = omega arith in
          let w = weighted o (layer_of_terms o terms beta weights values bits) in
          cut-above o r n (λ c. cut o n (w c) b) a past ∙ sym (outside-a (weighed o beta terms) weights (length weights) n a b apart past)

  -- the pairs of terms are within tables that have all values
  pub terms-within : (k v n m : ℕ) (weights : List A) (ts : List (Term A)) → AreDistinct o k v ts → v ≤ n → v ≤ m → ArePairs n m (map (first_pair o weights) ts)
  terms-within k v n m weights [] h ln lm = tt
  terms-within k v n m weights (t ∷ ts) h ln lm = (let p = h.1 in omega arith, let p = h.2 in omega arith, terms-within k v n m weights ts h.4 ln lm)

  -- one term more is counted
  pub counted-linear : (ps : List (Pair A)) (linear : List A) (p : Pair A) (c : A) (i j : ℕ) → p.a ≡ 0 → p.b < length linear → c ≡ plus (entry o linear p.b) p.coef
      → counted o ps (slice_set linear p.b c) i j ≡ plus (counted o ps linear i j) (spread o (p ∷ []) i j)
  counted-linear ps linear p c i j first inside is = by (cases_eq j p.b) ∙ sym (ap (λ k. plus (counted o ps linear i j) (plus (cond (i == k) (cond (j == p.b) p.coef o.zero) o.zero) o.zero)) first)
    where
      s : A
      s = spread o ps i j

      e : A
      e = entry o linear j

      added : (q : Bool) → plus s (cond q (times o.one (plus e p.coef)) o.zero) ≡ plus (plus s (cond q (times o.one e) o.zero)) (plus (cond q p.coef o.zero) o.zero)
      added true = solve o r (s ∷ e ∷ p.coef ∷ []) (var 0 ⊞ unit ⊠ (var 1 ⊞ var 2)) ((var 0 ⊞ unit ⊠ var 1) ⊞ (var 2 ⊞ null)) refl
      added false = solve o r (s ∷ []) (var 0 ⊞ null) ((var 0 ⊞ null) ⊞ (null ⊞ null)) refl

      kept : (q : Bool) → plus s (cond q (times o.one e) o.zero) ≡ plus (plus s (cond q (times o.one e) o.zero)) (plus (cond q o.zero o.zero) o.zero)
      kept true = solve o r (s ∷ e ∷ []) (var 0 ⊞ unit ⊠ var 1) ((var 0 ⊞ unit ⊠ var 1) ⊞ (null ⊞ null)) refl
      kept false = solve o r (s ∷ []) (var 0 ⊞ null) ((var 0 ⊞ null) ⊞ (null ⊞ null)) refl

      by : (j ≡ p.b) ⊎ (j ≢ p.b) → plus s (cond (i == 0) (times o.one (entry o (slice_set linear p.b c) j)) o.zero) ≡ plus (plus s (cond (i == 0) (times o.one e) o.zero)) (plus (cond (i == 0) (cond (j == p.b) p.coef o.zero) o.zero) o.zero)
      by (inl same) =
          let value : entry o (slice_set linear p.b c) j ≡ plus e p.coef =
          ap (entry o (slice_set linear p.b c)) same ∙ get_or-set_same linear p.b c o.zero inside ∙ is ∙ ap (λ b. plus (entry o linear b) p.coef) (sym same) in
          ap (λ x. plus s (cond (i == 0) (times o.one x) o.zero)) value ∙ added (i == 0)
          ∙ sym (ap (λ q. plus (plus s (cond (i == 0) (times o.one e) o.zero)) (plus (cond (i == 0) (cond q p.coef o.zero) o.zero) o.zero)) (eq-eqb j p.b same))
      by (inr apart) =
          ap (λ x. plus s (cond (i == 0) (times o.one x) o.zero)) (get_or-set_other linear p.b j c o.zero apart) ∙ kept (i == 0)
          ∙ sym (ap (λ q. plus (plus s (cond (i == 0) (times o.one e) o.zero)) (plus (cond (i == 0) (cond q p.coef o.zero) o.zero) o.zero)) (ne_eqb j p.b apart))

  pub counted-pair : (old new : List (Pair A)) (p : Pair A) (linear : List A) (i j : ℕ) → spread o new i j ≡ plus (spread o old i j) (spread o (p ∷ []) i j)
      → counted o new linear i j ≡ plus (counted o old linear i j) (spread o (p ∷ []) i j)
  counted-pair old new p linear i j e =
      let l = linear_at o true o.one linear i j in
      ap (λ w. plus w l) e ∙ solve o r (spread o old i j ∷ spread o (p ∷ []) i j ∷ l ∷ []) ((var 0 ⊞ var 1) ⊞ var 2) ((var 0 ⊞ var 2) ⊞ var 1) refl

  counted-none : (linear : List A) (a b : ℕ) → ((k : ℕ) → entry o linear k ≡ o.zero) → counted o [] linear a b ≡ o.zero
  counted-none linear a b none = ap (λ x. plus o.zero (cond (a == 0) (times o.one x) o.zero)) (none b) ∙ by (a == 0)
    where
      by : (q : Bool) → plus o.zero (cond q (times o.one o.zero) o.zero) ≡ o.zero
      by true = solve o r [] (null ⊞ unit ⊠ null) null refl
      by false = solve o r [] (null ⊞ null) null refl

  -- the first i of a list's pairs are counted
  pub record IsCounted (pairs : List (Pair A)) (i kept : ℕ) (now : List (Pair A)) (linear : List A) : Type 0 where
    pub count : kept ≤ i
    pub sums : (a b : ℕ) → plus (counted o (take kept now) linear a b) (spread o (drop i pairs) a b) ≡ spread o pairs a b
    pub within : (n m : ℕ) → ArePairs n m pairs → ArePairs n m (take kept now) × ArePairs n m (drop i pairs)

  pub counted_none : (pairs now : List (Pair A)) (linear : List A) → ((k : ℕ) → entry o linear k ≡ o.zero) → IsCounted pairs 0 0 now linear
  counted_none pairs now linear none = record {
    count = omega arith;
    sums = λ a b. ap (λ w. plus w (spread o pairs a b)) (counted-none linear a b none) ∙ zero_plus o r (spread o pairs a b);
    within = λ n m h. (tt, h);
  }

  pub counted_more : (pairs now new : List (Pair A)) (linear next : List A) (i kept result : ℕ) (p : Pair A) → IsCounted pairs i kept now linear → drop i pairs ≡ p ∷ drop (i + 1) pairs → result ≤ kept + 1
      → ((a b : ℕ) → counted o (take result new) next a b ≡ plus (counted o (take kept now) linear a b) (spread o (p ∷ []) a b))
      → ((n m : ℕ) → ArePairs n m (take kept now) → ArePairs n m (p ∷ []) → ArePairs n m (take result new)) → IsCounted pairs (i + 1) result new next
  counted_more pairs now new linear next i kept result p h front count sums within = record {
    count = let k = h.count in omega arith;
    sums = λ a b. counted-step o r (drop i pairs) (drop (i + 1) pairs) p a b (counted o (take kept now) linear a b) (counted o (take result new) next a b) (spread o pairs a b) front (sums a b) (h.sums a b);
    within = λ n m k.
        let w = h.within n m k in
        let both = within-step o r n m (drop i pairs) (drop (i + 1) pairs) p front w.1 in
        (within n m w.0 both.0, both.1);
  }
