-- The combined constraints, from what is summed of forms and copies.
use Rattle.lzk_profile.specs.Profile.{most_row, most_rows}
use Rattle.std.specs.Prelude.{◌≡◌, ℕ, ◌+◌, ◌-◌, ◌*◌, ◌/◌, ◌%◌, ◌<◌, ◌≤◌, ◌==◌, ◌&&◌, Bool, true, false, cond, nat_lt, nat_le, List, [], ◌∷◌, length, slice_set}
use Rattle.std.proofs.Common.{refl, sym, ap, ◌∙◌, arith, inl, inr, subst}
use Rattle.std.proofs.lemmas.Bool.{cases_eq, eq-eqb, ne_eqb, le-leb, lt-leb, lt-ltb, le-ltb}
use Rattle.std.proofs.lemmas.List.{get_or-set_same, get_or-set_other}
use Rattle.std.proofs.lemmas.Grind.{div_ceil_times}
use Rattle.std.proofs.lemmas.Nat.{div-add-mod', mul-le, mul-add-lt}
use Rattle.std.proofs.Math.Nat.{div-eq_of_lt-le, mod-lt}
use native.Mathlib.Decide.{dec_lt}
use Rattle.lzk_field.specs.Ring.{Ops, RingLaws}
use Rattle.lzk_field.specs.Sums.{sum_below, minus, entry}
use Rattle.lzk_field.proofs.RingBasics.{neg_zero}
use Rattle.lzk_field.proofs.Solve.{var, null, ◌⊞◌, ◌⊟◌, ◌⊠◌, solve}
use Rattle.lzk_field.proofs.SumLaws.{sum-ext, sum-zero, sum-single}
use Rattle.lzk_circuit.specs.Valid.{Wiring}
use Rattle.lzk_layout.specs.declared.params.Params.{Params}
use Rattle.lzk_layout.specs.Sizes.{committed_count, params_of, place_of, AreBounded}
use Rattle.lzk_layout.specs.Places.{depth, factors_at, constrained_at, copy_place_of}
use Rattle.lzk_layout.proofs.PlaceLaws.{pads_within}
use Rattle.lzk_accept.specs.declared.challenges.Challenges.{Challenges}
use Rattle.lzk_accept.specs.declared.forms.Form.{Form}
use Rattle.lzk_accept.specs.Combination.{sum_where, is_place, from_constraints, from_copies, combined, wanted}
use Rattle.lzk_accept.specs.Kept.{LinearForms, coefficient_in, coefficient, right, form_at, source_in, IsWithin, AreFormsOf}
use Rattle.lzk_accept.proofs.KeptLaws.{start_is, end_is, last_start, last_end}

-- ---- places by their numbers

eqb-sym : (a b : ℕ) → (a == b) ≡ (b == a)
eqb-sym a b =
    elim (cases_eq a b) [
      | inl e ↦ eq-eqb a b e ∙ sym (eq-eqb b a (sym e))
      | inr d ↦ ne_eqb a b d ∙ sym (ne_eqb b a (λ e. d (sym e)))
    ]

-- in rows of one width, numbers are the same where rows and positions are
same_place : (width a b i s : ℕ) → b < width → s < width → a * width + b ≡ i * width + s → (a ≡ i) × (b ≡ s)
same_place width a b i s p q e =
    let up : (x : ℕ) → (x + 1) * width ≡ x * width + width = λ x. omega arith in
    let row : (x y : ℕ) → y < width → (x * width + y) / width ≡ x = λ x y h. div-eq_of_lt-le width (omega arith) (rw (up x) (omega arith)) in
    let rows : a ≡ i = sym (row a b p) ∙ ap (λ n. n / width) e ∙ row i s q in
    let same : a * width ≡ i * width = ap (λ n. n * width) rows in
    (rows, omega arith)

-- whether a place is at row 3 + i and position s, by numbers from row 3 on
pub by_number : (width row position i s : ℕ) → 3 ≤ row → position < width → s < width → is_place (3 + i) s (row, position) ≡ (i * width + s == (row - 3) * width + position)
by_number width row position i s low p q =
    elim (cases_eq row (3 + i)) [
      | inr d ↦
          ap (λ b. b && (position == s)) (ne_eqb row (3 + i) d)
          ∙ sym (ne_eqb (i * width + s) ((row - 3) * width + position) (λ e. d (let same = same_place width i s (row - 3) position q p e in omega (arith, same.0))))
      | inl a ↦
          elim (cases_eq position s) [
            | inr d ↦
                ap (λ b. b && (position == s)) (eq-eqb row (3 + i) a) ∙ ne_eqb position s d
                ∙ sym (ne_eqb (i * width + s) ((row - 3) * width + position) (λ e. d (let same = same_place width i s (row - 3) position q p e in sym same.1)))
            | inl b ↦
                let same : i ≡ row - 3 = omega arith in
                ap (λ x. x && (position == s)) (eq-eqb row (3 + i) a) ∙ eq-eqb position s b
                ∙ sym (eq-eqb (i * width + s) ((row - 3) * width + position) (ap (λ k. k * width + s) same ∙ ap (λ k. (row - 3) * width + k) (sym b)))
          ]
    ]

-- the same of entry j of the committed list, whose number it is
pub entry_number : (p : Params) (j i s : ℕ) → s < p.wr → is_place (3 + i) s (place_of p j) ≡ (i * p.wr + s == j)
entry_number p j i s h =
    let row : 3 + j / p.wr - 3 ≡ j / p.wr = omega arith in
    by_number p.wr (3 + j / p.wr) (j % p.wr) i s (omega arith) (mod-lt j (omega arith)) h
    ∙ ap (λ k. i * p.wr + s == k) (ap (λ k. k * p.wr + j % p.wr) row ∙ div-add-mod' j p.wr)

-- ---- the same where rows and entries are left out before the first that count

-- numbers are equal where they are as much more than another
pub eqb-shift : (skip a b : ℕ) → (skip + a == skip + b) ≡ (a == b)
eqb-shift skip a b =
    elim (cases_eq a b) [
      | inl e ↦ eq-eqb (skip + a) (skip + b) (ap (λ n. skip + n) e) ∙ sym (eq-eqb a b e)
      | inr d ↦ ne_eqb (skip + a) (skip + b) (λ e. d (omega (arith, e))) ∙ sym (ne_eqb a b d)
    ]

pub eqb-less : (skip j k : ℕ) → skip ≤ k → (j == k - skip) ≡ (skip + j == k)
eqb-less skip j k h = let e : skip + (k - skip) ≡ k = omega arith in sym (eqb-shift skip j (k - skip)) ∙ ap (λ n. skip + j == n) e

pub larger_reached : (start skip larger j : ℕ) → start ≤ larger → ((k : ℕ) → start ≤ k → skip ≤ k → larger ≤ k) → nat_le larger (skip + j) ≡ nat_le start (skip + j)
larger_reached start skip larger j h least =
    elim (dec_lt (skip + j) start) [
      | yes l ↦ lt-leb larger (skip + j) (omega arith) ∙ sym (lt-leb start (skip + j) l)
      | no l ↦ le-leb larger (skip + j) (least (skip + j) (omega arith) (omega arith)) ∙ sym (le-leb start (skip + j) (omega arith))
    ]

pub copy_number : (width rows row position i s : ℕ) → 3 + rows ≤ row → position < width → s < width
    → is_place (3 + (rows + i)) s (row, position) ≡ (i * width + s == (row - 3 - rows) * width + position)
copy_number width rows row position i s low p q =
    let here : (rows + i) * width + s ≡ rows * width + (i * width + s) = omega arith in
    let less : row - 3 ≡ rows + (row - 3 - rows) = omega arith in
    let more : (x : ℕ) → (rows + x) * width + position ≡ rows * width + (x * width + position) = λ x. omega arith in
    by_number width row position (rows + i) s (omega arith) p q
    ∙ ap (λ n. n == (row - 3) * width + position) here
    ∙ ap (λ n. rows * width + (i * width + s) == n) (ap (λ x. x * width + position) less ∙ more (row - 3 - rows))
    ∙ eqb-shift (rows * width) (i * width + s) ((row - 3 - rows) * width + position)

pub source_number : (p : Params) (rows j i s : ℕ) → rows * p.wr ≤ j → s < p.wr → is_place (3 + (rows + i)) s (place_of p j) ≡ (i * p.wr + s == j - rows * p.wr)
source_number p rows j i s low h =
    let here : (rows + i) * p.wr + s ≡ rows * p.wr + (i * p.wr + s) = omega arith in
    entry_number p j (rows + i) s h ∙ ap (λ n. n == j) here ∙ sym (eqb-less (rows * p.wr) (i * p.wr + s) j low)

-- the committed list fits in the rows
pub list_fits : (p : Params) → AreBounded p → p.nw ≤ (p.nrow - 3) * p.wr
list_fits p h =
    let whole : p.nw ≤ p.nwrow * p.wr = rw h.nwrow (div_ceil_times p.nw p.wr (omega (arith, h.wide))).0 in
    let more : p.nrow - 3 ≡ p.nwrow + 3 * p.ntriple = omega (arith, h.rows) in
    let parts : (p.nwrow + 3 * p.ntriple) * p.wr ≡ p.nwrow * p.wr + 3 * p.ntriple * p.wr = omega arith in
    rw (more, parts) (omega arith)

-- rows that are left out are among those of the committed list
pub rows_within : (p : Params) (rows : ℕ) → AreBounded p → rows * p.wr ≤ p.nw → rows ≤ p.nwrow
rows_within p rows h few =
    let whole : p.nw ≤ p.nwrow * p.wr = rw h.nwrow (div_ceil_times p.nw p.wr (omega (arith, h.wide))).0 in
    elim (dec_lt p.nwrow rows) [
      | yes more ↦
          let up : (p.nwrow + 1 + (rows - p.nwrow - 1)) * p.wr ≡ p.nwrow * p.wr + p.wr + (rows - p.nwrow - 1) * p.wr = omega arith in
          let all : rows ≡ p.nwrow + 1 + (rows - p.nwrow - 1) = omega arith in
          absurd (let e = ap (λ k. k * p.wr) all in omega (arith, e, up, h.wide, whole, few))
      | no le ↦ omega arith
    ]

-- and the rest of the list fits in the rest of the rows
pub list_fits_behind : (p : Params) (rows : ℕ) → AreBounded p → p.nw ≤ rows * p.wr + (p.nrow - 3 - rows) * p.wr
list_fits_behind p rows h =
    let fits = list_fits p h in
    let sum : (x : ℕ) → rows * p.wr + x * p.wr ≡ (rows + x) * p.wr = λ x. omega arith in
    elim (dec_lt (p.nrow - 3) rows) [
      | yes more ↦
          let up : (x : ℕ) → (p.nrow - 3 + x) * p.wr ≡ (p.nrow - 3) * p.wr + x * p.wr = λ x. omega arith in
          let all : rows ≡ p.nrow - 3 + (rows - (p.nrow - 3)) = omega arith in
          let e = ap (λ k. k * p.wr) all in
          omega (arith, e, up (rows - (p.nrow - 3)), fits)
      | no le ↦
          let all : rows + (p.nrow - 3 - rows) ≡ p.nrow - 3 = omega arith in
          let e = ap (λ k. k * p.wr) all in
          omega (arith, e, sum (p.nrow - 3 - rows), fits)
    ]

-- ---- bounds on the numbers

-- rows of a table have few entries together
pub few_entries : (p : Params) (k : ℕ) → AreBounded p → k ≤ p.nrow → k * p.wr ≤ most_rows * most_row
few_entries p k h l = mul-le k p.wr most_rows most_row (omega (arith, h.nrow, l)) h.wr

-- a copy's row is behind the rows that are left out
pub copy_behind : (nwrow x y row rows : ℕ) → row ≡ 3 + nwrow + x + y → rows ≤ nwrow → 3 + rows ≤ row
copy_behind nwrow x y row rows is few = omega arith

-- and its number is one of the table's
pub copy_fits : (width nrow rows row position : ℕ) → 3 + rows ≤ row → row < nrow → position < width → (row - 3 - rows) * width + position < (nrow - 3 - rows) * width
copy_fits width nrow rows row position low high p =
    omega (arith, mul-add-lt (row - 3 - rows) width position (nrow - 3 - rows) (omega arith) p)

-- The entries of a list's range from start up to j are added to those of another, multiplied, behind its first skip.
pub record IsAddedTo {A : Type 0} (o : Ops A) (by : A) (list old : List A) (start skip j : ℕ) (sums : List A) : Type 0 where
  pub done : (k : ℕ) → start ≤ skip + k → skip + k < j → entry o sums k ≡ o.plus (entry o old k) (o.times by (entry o list (skip + k)))
  pub before : (k : ℕ) → skip + k < start → entry o sums k ≡ entry o old k
  pub rest : (k : ℕ) → j ≤ skip + k → entry o sums k ≡ entry o old k

module _ {A : Type 0} (o : Ops A) (r : RingLaws o) where
  open o use {plus, times, neg}

  -- ---- sums

  -- of what stands at the committed entries, that of the number is left
  pub placed_one : (p : Params) (n i s : ℕ) (f : ℕ → A) → s < p.wr → ((k : ℕ) → n ≤ k → f k ≡ o.zero) → sum_where o n (λ j. is_place (3 + i) s (place_of p j)) f ≡ f (i * p.wr + s)
  placed_one p n i s f h past =
      let k = i * p.wr + s in
      sum-ext o r n (λ j. cond (is_place (3 + i) s (place_of p j)) (f j) o.zero) (λ j. cond (j == k) (f j) o.zero)
      (λ j l. ap (λ b. cond b (f j) o.zero) (entry_number p j i s h ∙ eqb-sym k j))
      ∙ elim (dec_lt k n) [
        | yes l ↦ sum-single o r n k f l
        | no l ↦
            sum-ext o r n (λ j. cond (j == k) (f j) o.zero) (λ j. o.zero) (λ j m. ap (λ b. cond b (f j) o.zero) (ne_eqb j k (λ e. omega (arith, e))))
            ∙ sum-zero o r n ∙ sym (past k (omega arith))
      ]

  -- and so where the number is of one of them
  pub placed_inside : (p : Params) (n i s : ℕ) (f : ℕ → A) → s < p.wr → i * p.wr + s < n → sum_where o n (λ j. is_place (3 + i) s (place_of p j)) f ≡ f (i * p.wr + s)
  placed_inside p n i s f h l =
      let k = i * p.wr + s in
      sum-ext o r n (λ j. cond (is_place (3 + i) s (place_of p j)) (f j) o.zero) (λ j. cond (j == k) (f j) o.zero)
      (λ j l. ap (λ b. cond b (f j) o.zero) (entry_number p j i s h ∙ eqb-sym k j))
      ∙ sum-single o r n k f l

  -- a form has no coefficients past its entries
  pub coefficient_past : (n : ℕ) (own : List A) (form : Form A) (k : ℕ) → IsWithin n form → n ≤ k → coefficient_in o own form k ≡ o.zero
  coefficient_past n own form k h l =
      let start = h.start in let end = h.end in let above = h.above in
      let a : (nat_le form.start k && nat_lt k form.end) ≡ false = grind arith in
      ap (λ b. plus (cond b (entry o own k) o.zero) (plus (cond (k == form.above) form.first o.zero) (cond (k == form.above + 1) form.second o.zero))) a
      ∙ ap (λ b. plus o.zero (plus (cond b form.first o.zero) (cond (k == form.above + 1) form.second o.zero))) (ne_eqb k form.above (λ e. omega arith))
      ∙ ap (λ b. plus o.zero (plus o.zero (cond b form.second o.zero))) (ne_eqb k (form.above + 1) (λ e. omega arith))
      ∙ solve o r [] (null ⊞ (null ⊞ null)) null refl

  -- the parts of a form, each added to an entry
  pub form_added : (own : List A) (form : Form A) (j : ℕ) (by old first second third : A)
      → first ≡ plus old (cond (nat_le form.start j && nat_lt j form.end) (times by (entry o own j)) o.zero)
      → second ≡ plus first (cond (j == form.above) (times by form.first) o.zero)
      → third ≡ plus second (cond (j == form.above + 1) (times by form.second) o.zero)
      → third ≡ plus old (times by (coefficient_in o own form j))
  form_added own form j by old first second third e1 e2 e3 =
      let x = nat_le form.start j && nat_lt j form.end in
      let y = j == form.above in
      let z = j == form.above + 1 in
      let u = cond x (entry o own j) o.zero in
      let v = cond y form.first o.zero in
      let w = cond z form.second o.zero in
      e3
      ∙ ap (plus second) (out z form.second)
      ∙ ap (λ t. plus t (times by w)) (e2 ∙ ap (plus first) (out y form.first) ∙ ap (λ t. plus t (times by v)) (e1 ∙ ap (plus old) (out x (entry o own j))))
      ∙ solve o r (old ∷ by ∷ u ∷ v ∷ w ∷ []) (((var 0 ⊞ var 1 ⊠ var 2) ⊞ var 1 ⊠ var 3) ⊞ var 1 ⊠ var 4) (var 0 ⊞ var 1 ⊠ (var 2 ⊞ (var 3 ⊞ var 4))) refl
    where
      out : (b : Bool) (x : A) → cond b (times by x) o.zero ≡ times by (cond b x o.zero)
      out true x = refl
      out false x = solve o r (by ∷ []) null (var 0 ⊠ null) refl

  -- one more entry of a range is added
  pub added_more : (by : A) (list old sums : List A) (start skip j : ℕ) (x : A) → start ≤ j → skip ≤ start → j - skip < length sums
      → x ≡ plus (entry o sums (j - skip)) (times by (entry o list j)) → IsAddedTo o by list old start skip j sums → IsAddedTo o by list old start skip (j + 1) (slice_set sums (j - skip) x)
  added_more by list old sums start skip j x from low room ex h =
      let i = j - skip in
      let at : skip + i ≡ j = omega arith in
      record {
        done = λ k a b. elim (cases_eq k i) [
          | inl e ↦
              ap (entry o (slice_set sums i x)) e ∙ get_or-set_same sums i x o.zero room ∙ ex
              ∙ ap (λ y. plus y (times by (entry o list j))) (h.rest i (omega (arith, at)))
              ∙ ap (λ n. plus (entry o old i) (times by (entry o list n))) (sym at) ∙ ap (λ (n : ℕ). plus (entry o old n) (times by (entry o list (skip + n)))) (sym e)
          | inr d ↦ get_or-set_other sums i k x o.zero d ∙ h.done k a (omega (arith, b, d, at))
        ];
        before = λ k a. get_or-set_other sums i k x o.zero (omega (arith, a, from, at)) ∙ h.before k a;
        rest = λ k a. get_or-set_other sums i k x o.zero (omega (arith, a, at)) ∙ h.rest k (omega (arith, a));
      }

  -- and all of them
  pub added_all : (by : A) (list old sums : List A) (start skip end : ℕ) → IsAddedTo o by list old start skip end sums
      → (k : ℕ) → entry o sums k ≡ plus (entry o old k) (cond (nat_le start (skip + k) && nat_lt (skip + k) end) (times by (entry o list (skip + k))) o.zero)
  added_all by list old sums start skip end h k =
      let n = skip + k in
      let was = entry o old k in
      let x = times by (entry o list n) in
      elim (dec_lt n start) [
        | yes l ↦ h.before k l ∙ sym (ap (λ b. plus was (cond (b && nat_lt n end) x o.zero)) (lt-leb start n l) ∙ r.plus_zero was)
        | no l ↦
            let from = ap (λ b. plus was (cond (b && nat_lt n end) x o.zero)) (le-leb start n (omega arith)) in
            elim (dec_lt n end) [
              | yes m ↦ h.done k (omega arith) m ∙ sym (from ∙ ap (λ b. plus was (cond b x o.zero)) (lt-ltb n end m))
              | no m ↦ h.rest k (omega arith) ∙ sym (from ∙ ap (λ b. plus was (cond b x o.zero)) (le-ltb n end (omega arith)) ∙ r.plus_zero was)
            ]
      ]

  -- the negative, where a test holds
  negated : (b : Bool) (v : A) → cond b (neg v) o.zero ≡ neg (cond b v o.zero)
  negated true v = refl
  negated false v = sym (neg_zero o r)

  -- one more copy, added at its place and taken away at its entry's
  pub combined_step : (a b d old middle new v taken : A) (here there : Bool) → taken ≡ neg v
      → old ≡ minus o (plus a b) d → middle ≡ plus old (cond here v o.zero) → new ≡ plus middle (cond there taken o.zero)
      → new ≡ minus o (plus a (plus b (cond here v o.zero))) (plus d (cond there v o.zero))
  combined_step a b d old middle new v taken here there et eo em e =
      let h = cond here v o.zero in
      let t = cond there v o.zero in
      e
      ∙ ap (λ x. plus x (cond there taken o.zero)) (em ∙ ap (λ x. plus x h) eo)
      ∙ ap (plus (plus (minus o (plus a b) d) h)) (ap (λ x. cond there x o.zero) et ∙ negated there v)
      ∙ solve o r (a ∷ b ∷ d ∷ h ∷ t ∷ []) ((((var 0 ⊞ var 1) ⊟ var 2) ⊞ var 3) ⊟ var 4) ((var 0 ⊞ (var 1 ⊞ var 3)) ⊟ (var 2 ⊞ var 4)) refl

-- ---- a circuit's forms

module _ {A : Type 0} (o : Ops A) (c : Wiring A) (f : LinearForms A) (some : 1 ≤ depth c) (are : AreFormsOf o c f) where
  -- are within its committed list
  pub form_within : (i : ℕ) → i < depth c + 1 → IsWithin (committed_count c) (form_at o f.forms i)
  form_within i h =
      let placed = are.places i h in
      elim (dec_lt i (depth c)) [
        | yes l ↦ record {
          start = omega (arith, placed.start, placed.end, start_is c i l, end_is c i l);
          end = omega (arith, placed.end, end_is c i l, pads_within c i l);
          above = omega (arith, placed.above, pads_within c (i - 1) (omega arith));
        }
        | no l ↦ record {
          start = omega (arith, placed.start, last_start c i (omega arith));
          end = omega (arith, placed.end, last_end c i (omega arith));
          above = omega (arith, placed.above, pads_within c (i - 1) (omega arith));
        }
      ]

  -- a layer's ends behind its three constrained entries
  pub source_end : (l : ℕ) → l < depth c → (form_at o f.forms l).end ≡ factors_at c l + 3
  source_end l h = (are.places l (omega arith)).end ∙ end_is c l h

  -- what comes before some private input is before the ends and the factors above
  pub form_behind : (skip : ℕ) → skip ≤ c.privates → (i : ℕ) → i < depth c + 1 → (skip ≤ (form_at o f.forms i).end) × (skip ≤ (form_at o f.forms i).above)
  form_behind skip few i h =
      let placed = are.places i h in
      elim (dec_lt i (depth c)) [
        | yes l ↦ (omega (arith, placed.end, end_is c i l), omega (arith, placed.above))
        | no l ↦ (omega (arith, placed.end, last_end c i (omega arith)), omega (arith, placed.above))
      ]

  pub source_is : (m : ℕ) → m < 3 * depth c → source_in o f.forms m ≡ constrained_at c m
  source_is m h = omega (arith, source_end (m / 3) (omega arith))

  -- what is summed of the forms at a number is what stands there of the constraints
  pub constraints_at : (r : RingLaws o) (ch : Challenges A) (i s : ℕ) → s < (params_of c).wr
      → sum_below o (length f.forms) (λ l. o.times (entry o ch.lambda l) (coefficient o f l (i * (params_of c).wr + s))) ≡ from_constraints o c (coefficient o f) ch (3 + i) s
  constraints_at r ch i s h =
      let k = i * (params_of c).wr + s in
      ap (λ n. sum_below o n (λ l. o.times (entry o ch.lambda l) (coefficient o f l k))) are.count
      ∙ sum-ext o r (depth c + 1) (λ l. o.times (entry o ch.lambda l) (coefficient o f l k))
      (λ l. sum_where o (committed_count c) (λ j. is_place (3 + i) s (place_of (params_of c) j)) (λ j. o.times (entry o ch.lambda l) (coefficient o f l j)))
      (λ l m. sym (placed_one o r (params_of c) (committed_count c) i s (λ j. o.times (entry o ch.lambda l) (coefficient o f l j)) h
      (λ j q. ap (o.times (entry o ch.lambda l)) (coefficient_past o r (committed_count c) f.own (form_at o f.forms l) j (form_within l m) q)
      ∙ solve o r (entry o ch.lambda l ∷ []) (var 0 ⊠ null) null refl)))

  -- and with the copies it is the combined coefficient
  combined_at : (r : RingLaws o) (ch : Challenges A) (i s : ℕ) (summed value : A) → s < (params_of c).wr
      → summed ≡ sum_below o (length f.forms) (λ l. o.times (entry o ch.lambda l) (coefficient o f l (i * (params_of c).wr + s)))
      → value ≡ minus o (o.plus summed (sum_where o (3 * depth c) (λ m. is_place (3 + i) s (copy_place_of (params_of c) m)) (entry o ch.mu)))
      (sum_where o (3 * depth c) (λ m. is_place (3 + i) s (place_of (params_of c) (source_in o f.forms m))) (entry o ch.mu))
      → value ≡ combined o c (coefficient o f) ch (3 + i) s
  unfolding combined
  combined_at r ch i s summed value h es e =
      let copies = from_copies o c (coefficient o f) ch (3 + i) s in
      e
      ∙ ap (λ x. minus o (o.plus x copies) (sum_where o (3 * depth c) (λ m. is_place (3 + i) s (place_of (params_of c) (source_in o f.forms m))) (entry o ch.mu))) (es ∙ constraints_at r ch i s h)
      ∙ ap (minus o (o.plus (from_constraints o c (coefficient o f) ch (3 + i) s) copies))
      (sum-ext o r (3 * depth c) _ _ (λ m l. ap (λ k. cond (is_place (3 + i) s (place_of (params_of c) k)) (entry o ch.mu m) o.zero) (source_is m l)))

  -- the same by parameters that are the circuit's
  pub combined_is : (r : RingLaws o) (p : Params) (ch : Challenges A) (i s : ℕ) (summed value : A) → p ≡ params_of c → s < p.wr
      → summed ≡ sum_below o (length f.forms) (λ l. o.times (entry o ch.lambda l) (coefficient o f l (i * p.wr + s)))
      → value ≡ minus o (o.plus summed (sum_where o (3 * p.layers) (λ m. is_place (3 + i) s (copy_place_of p m)) (entry o ch.mu)))
      (sum_where o (3 * p.layers) (λ m. is_place (3 + i) s (place_of p (source_in o f.forms m))) (entry o ch.mu))
      → value ≡ combined o c (coefficient o f) ch (3 + i) s
  combined_is r p ch i s summed value are_params =
      subst (λ (q : Params). s < q.wr
      → summed ≡ sum_below o (length f.forms) (λ l. o.times (entry o ch.lambda l) (coefficient o f l (i * q.wr + s)))
      → value ≡ minus o (o.plus summed (sum_where o (3 * q.layers) (λ m. is_place (3 + i) s (copy_place_of q m)) (entry o ch.mu)))
      (sum_where o (3 * q.layers) (λ m. is_place (3 + i) s (place_of q (source_in o f.forms m))) (entry o ch.mu))
      → value ≡ combined o c (coefficient o f) ch (3 + i) s) (sym are_params)
      (combined_at r ch i s summed value)

  pub wanted_is : (ch : Challenges A) → sum_below o (length f.forms) (λ l. o.times (entry o ch.lambda l) (form_at o f.forms l).right) ≡ wanted o c (right o f) ch
  unfolding wanted
  wanted_is ch = ap (λ n. sum_below o n (λ l. o.times (entry o ch.lambda l) (right o f l))) are.count
