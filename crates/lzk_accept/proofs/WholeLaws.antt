-- What is kept of the linear constraints from some entry on, and the private inputs' coefficients before it.
use Rattle.std.specs.Prelude.{◌≡◌, ℕ, ◌+◌, ◌<◌, ◌≤◌, ◌==◌, ◌&&◌, Bool, true, false, cond, nat_lt, nat_le, List, [], ◌∷◌, map}
use Rattle.std.specs.List.{range_with_len}
use Rattle.std.proofs.Common.{refl, sym, ap, ◌∙◌, arith}
use Rattle.std.proofs.lemmas.Bool.{ne_eqb, lt-ltb, le-ltb}
use Rattle.std.proofs.lemmas.List.FromFn.{get_or-map-range_with_len}
use native.Mathlib.Decide.{dec_lt}
use Rattle.lzk_field.specs.Ring.{Ops, RingLaws}
use Rattle.lzk_field.specs.Sums.{entry}
use Rattle.lzk_field.proofs.Solve.{var, null, ◌⊞◌, solve}
use Rattle.lzk_mle.specs.Multilinear.{eq}
use Rattle.lzk_circuit.specs.Valid.{Wiring}
use Rattle.lzk_layout.specs.Sizes.{committed_count}
use Rattle.lzk_layout.specs.Places.{depth}
use Rattle.lzk_sumcheck.specs.declared.script.Script.{Script}
use Rattle.lzk_sumcheck.specs.Coefficients.{coefficients}
use Rattle.lzk_sumcheck.specs.Script.{point_a, point_b}
use Rattle.lzk_accept.specs.declared.forms.Form.{Form}
use Rattle.lzk_accept.specs.declared.linear.Factors.{Factors}
use Rattle.lzk_accept.specs.Kept.{coefficient_in, form_at, private_coefficient, IsConstraint, IsLastForm, IsPlacedAt, AreRest, IsWhole}
use Rattle.lzk_accept.proofs.KeptLaws.{start_after, last_start, last_end}

module _ {A : Type 0} (o : Ops A) (c : Wiring A) (s : Script A) where
  -- the whole list of what is kept from an entry on
  abbrev pub whole_at : ℕ → List A → ℕ → A
  whole_at skip own j = cond (nat_lt j skip) (private_coefficient o c s j) (entry o own j)

  abbrev pub whole_of : ℕ → List A → List A
  whole_of skip own = map (whole_at skip own) (range_with_len 0 (committed_count c))

  pub whole_is : (skip : ℕ) (own : List A) → skip ≤ committed_count c → IsWhole o c s skip own (whole_of skip own)
  whole_is skip own few = record {
    before = λ j h. at j (omega arith) ∙ ap (λ b. cond b (private_coefficient o c s j) (entry o own j)) (lt-ltb j skip h);
    after = λ j h k. at j k ∙ ap (λ b. cond b (private_coefficient o c s j) (entry o own j)) (le-ltb j skip h);
  }
    where
      at : (j : ℕ) → j < committed_count c → entry o (whole_of skip own) j ≡ whole_at skip own j
      at j h = let e : 0 + j ≡ j = omega arith in get_or-map-range_with_len (whole_at skip own) 0 (committed_count c) j j o.zero h e

  -- the inputs' constraint is that of the whole list
  pub whole_last : (public : List A) (above : Factors A) (first second : List A) (skip : ℕ) (own whole : List A) (form : Form A) → IsWhole o c s skip own whole
      → ((k : ℕ) → k < 1 + c.publics + c.privates → entry o first k ≡ eq o k (point_a o s (depth c))) → ((k : ℕ) → k < 1 + c.publics + c.privates → entry o second k ≡ eq o k (point_b o s (depth c)))
      → IsLastForm o c public s.gamma above first second skip own form → IsLastForm o c public s.gamma above first second 0 whole form
  whole_last public above first second skip own whole form is ea eb f = record {
    privates = λ k z h. elim (dec_lt k skip) [
      | yes l ↦
          is.before k l
          ∙ ap (λ x. o.plus x (o.times s.gamma (eq o (1 + c.publics + k) (point_b o s (depth c))))) (sym (ea (1 + c.publics + k) (omega arith)))
          ∙ ap (λ x. o.plus (entry o first (1 + c.publics + k)) (o.times s.gamma x)) (sym (eb (1 + c.publics + k) (omega arith)))
      | no l ↦ is.after k (omega arith) (omega arith) ∙ f.privates k (omega arith) h
    ];
    left = f.left;
    other = f.other;
    right = f.right;
  }

module _ {A : Type 0} (o : Ops A) where
  -- lists with the same entry give the same coefficient there
  pub same_coefficient : (own whole : List A) (form : Form A) (j : ℕ) → entry o own j ≡ entry o whole j → coefficient_in o own form j ≡ coefficient_in o whole form j
  same_coefficient own whole form j e =
      ap (λ x. o.plus (cond (nat_le form.start j && nat_lt j form.end) x o.zero) (o.plus (cond (j == form.above) form.first o.zero) (cond (j == form.above + 1) form.second o.zero))) e

  module _ (r : RingLaws o) (own : List A) (form : Form A) (j : ℕ) where
    by_range : (b : Bool) → (nat_le form.start j && nat_lt j form.end) ≡ b → j < form.above → coefficient_in o own form j ≡ cond b (entry o own j) o.zero
    by_range b e above =
        let x = cond b (entry o own j) o.zero in
        ap (λ b. o.plus (cond b (entry o own j) o.zero) (o.plus (cond (j == form.above) form.first o.zero) (cond (j == form.above + 1) form.second o.zero))) e
        ∙ ap (λ b. o.plus x (o.plus (cond b form.first o.zero) (cond (j == form.above + 1) form.second o.zero))) (ne_eqb j form.above (λ e. omega (arith, e)))
        ∙ ap (λ b. o.plus x (o.plus o.zero (cond b form.second o.zero))) (ne_eqb j (form.above + 1) (λ e. omega (arith, e)))
        ∙ solve o r (x ∷ []) (var 0 ⊞ (null ⊞ null)) (var 0) refl

    -- a form has no coefficient before its entries
    pub coefficient_before : j < form.start → j < form.above → coefficient_in o own form j ≡ o.zero
    coefficient_before low above = let e : (nat_le form.start j && nat_lt j form.end) ≡ false = grind arith in by_range false e above

    -- and in its range, before the factors above, that of the list
    pub coefficient_inside : form.start ≤ j → j < form.end → j < form.above → coefficient_in o own form j ≡ entry o own j
    coefficient_inside low high above = let e : (nat_le form.start j && nat_lt j form.end) ≡ true = grind arith in by_range true e above

-- constraints of the whole list, of which this is kept
pub rest_is : {A : Type 0} (o : Ops A) (r : RingLaws o) (point : ℕ → A) (c : Wiring A) (public : List A) (s : Script A) (messages : List A) (skip : ℕ) (forms : List (Form A)) (own : List A)
    → skip ≤ c.privates → ((i : ℕ) → i < depth c + 1 → IsPlacedAt c i (form_at o forms i))
    → ((i : ℕ) → i < depth c + 1 → IsConstraint o point c (coefficients o c s) public s messages i (whole_of o c s skip own) (form_at o forms i))
    → AreRest o point c public s messages skip forms own
rest_is o r point c public s messages skip forms own few placed each =
    let whole = whole_of o c s skip own in
    let is = whole_is o c s skip own (omega (arith, few)) in
    record {
      entries = λ i j h b k. same_coefficient o own whole (form_at o forms i) j (sym (is.after j b k)) ∙ (each i h).coefficient j k;
      rights = λ i h. (each i h).right;
      layers = λ i j h b.
          let at = placed i (omega arith) in
          sym ((each i (omega arith)).coefficient j (omega (arith, few)))
          ∙ coefficient_before o r whole (form_at o forms i) j (omega (arith, at.start, start_after c i h, few)) (omega (arith, at.above, few));
      inputs = λ j b.
          let at = placed (depth c) (omega arith) in
          sym ((each (depth c) (omega arith)).coefficient j (omega (arith, few)))
          ∙ coefficient_inside o r whole (form_at o forms (depth c)) j (omega (arith, at.start, last_start c (depth c) (omega arith))) (omega (arith, at.end, last_end c (depth c) (omega arith), few)) (omega (arith, at.above, few))
          ∙ is.before j b;
    }
