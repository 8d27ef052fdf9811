-- What the constraints have, combined, in rows that private inputs fill and in the other rows.
use Rattle.std.specs.Prelude.{◌≡◌, ℕ, ◌+◌, ◌*◌, ◌/◌, ◌%◌, ◌<◌, ◌≤◌, ◌==◌, ◌&&◌, false, cond, [], ◌∷◌}
use Rattle.std.proofs.Common.{suc, refl, sym, ap, ◌∙◌, arith}
use Rattle.std.proofs.lemmas.Bool.{ne_eqb}
use Rattle.std.proofs.lemmas.Nat.{div-add-mod'}
use native.Mathlib.Decide.{dec_lt}
use Rattle.lzk_field.specs.Ring.{Ops, RingLaws}
use Rattle.lzk_field.specs.Sums.{sum_below, minus, entry}
use Rattle.lzk_field.proofs.Solve.{var, null, ◌⊞◌, ◌⊟◌, ◌⊠◌, solve}
use Rattle.lzk_field.proofs.SumLaws.{sum-ext, sum-zero}
use Rattle.lzk_circuit.specs.Valid.{Wiring}
use Rattle.lzk_layout.specs.declared.params.Params.{Params}
use Rattle.lzk_layout.specs.Sizes.{committed_count, params_of, place_of, AreBounded}
use Rattle.lzk_layout.specs.Places.{depth, constrained_at}
use Rattle.lzk_accept.specs.declared.challenges.Challenges.{Challenges}
use Rattle.lzk_accept.specs.Combination.{is_place, from_constraints, from_copies, from_entries, combined, wanted}
use Rattle.lzk_accept.specs.Kept.{LinearForms, AreFormsOf}
use Rattle.lzk_accept.proofs.CombinationLaws.{entry_number, placed_inside, rows_within}
use Rattle.lzk_accept.proofs.FactorLaws.{row_end}
use Rattle.lzk_accept.proofs.KeptLaws.{last_end}

-- as many private inputs as whole rows take fill them
pub filled : (n w : ℕ) → n / w * w ≤ n
filled n w = omega (arith, div-add-mod' n w)

-- forms of two circuits with as many layers have as many private inputs
pub same_privates : {A : Type 0} (o : Ops A) (c d : Wiring A) (f : LinearForms A) → depth c ≡ depth d → AreFormsOf o c f → AreFormsOf o d f → c.privates ≡ d.privates
same_privates o c d f e a b =
    let ea = (a.places (depth c) (omega arith)).end ∙ last_end c (depth c) (omega arith) in
    let eb = (b.places (depth c) (omega (arith, e))).end ∙ last_end d (depth c) (omega (arith, e)) in
    sym ea ∙ eb

module _ {A : Type 0} (o : Ops A) (r : RingLaws o) (c : Wiring A) (ch : Challenges A) where
  open o use {plus, times, neg}

  abbrev p : Params
  p = params_of c

  -- coefficients that are equal from an entry on are combined to the same in the rows behind it
  pub combined_behind : (rows : ℕ) (f g : ℕ → ℕ → A) → ((i j : ℕ) → i < depth c + 1 → rows * p.wr ≤ j → j < committed_count c → f i j ≡ g i j)
      → (i s : ℕ) → s < p.wr → combined o c f ch (3 + (rows + i)) s ≡ combined o c g ch (3 + (rows + i)) s
  unfolding combined
  combined_behind rows f g same i s h =
      let row = 3 + (rows + i) in
      ap (λ x. minus o (plus x (from_copies o c f ch row s)) (from_entries o c f ch row s))
      (sum-ext o r (depth c + 1) _ _ (λ l m. sum-ext o r (committed_count c) _ _ (λ j k. each l j m k)))
    where
      each : (l j : ℕ) → l < depth c + 1 → j < committed_count c → cond (is_place (3 + (rows + i)) s (place_of p j)) (times (entry o ch.lambda l) (f l j)) o.zero
          ≡ cond (is_place (3 + (rows + i)) s (place_of p j)) (times (entry o ch.lambda l) (g l j)) o.zero
      each l j m k =
          elim (dec_lt j (rows * p.wr)) [
            | yes low ↦
                let more : (rows + i) * p.wr + s ≡ rows * p.wr + (i * p.wr + s) = omega arith in
                let none : is_place (3 + (rows + i)) s (place_of p j) ≡ false = entry_number p j (rows + i) s h ∙ ne_eqb ((rows + i) * p.wr + s) j (λ e. omega (arith, e, more)) in
                ap (λ b. cond b (times (entry o ch.lambda l) (f l j)) o.zero) none ∙ sym (ap (λ b. cond b (times (entry o ch.lambda l) (g l j)) o.zero) none)
            | no high ↦ ap (λ x. cond (is_place (3 + (rows + i)) s (place_of p j)) (times (entry o ch.lambda l) x) o.zero) (same l j m (omega arith) k)
          ]

  -- equal right sides give the same sum that is wanted
  pub same_wanted : (f g : ℕ → A) → ((i : ℕ) → i < depth c + 1 → f i ≡ g i) → wanted o c f ch ≡ wanted o c g ch
  unfolding wanted
  same_wanted f g same = sum-ext o r (depth c + 1) _ _ (λ i h. ap (times (entry o ch.lambda i)) (same i h))

  -- where a private input stands in a row that they fill, only the inputs' constraint has a coefficient
  module _ (rows : ℕ) (q : ℕ → ℕ → A) (bounded : AreBounded p) (few : rows * p.wr ≤ c.privates) (layers : (i j : ℕ) → i < depth c → j < rows * p.wr → q i j ≡ o.zero) (i s : ℕ) (here : i < rows) (inside : s < p.wr) where
    abbrev k : ℕ
    k = i * p.wr + s

    k_low : k < rows * p.wr
    k_low = row_end p.wr rows i s here inside

    constraints_here : from_constraints o c q ch (3 + i) s ≡ times (entry o ch.lambda (depth c)) (q (depth c) k)
    constraints_here =
        let n = committed_count c in
        let f : ℕ → A = λ l. times (entry o ch.lambda l) (q l k) in
        let one : depth c + 1 ≡ suc (depth c) = omega arith in
        sum-ext o r (depth c + 1) _ f (λ l m. placed_inside o r p n i s (λ j. times (entry o ch.lambda l) (q l j)) inside (omega (arith, k_low)))
        ∙ ap (λ m. sum_below o m f) one
        ∙ ap (λ x. plus x (f (depth c)))
        (sum-ext o r (depth c) f (λ l. o.zero) (λ l m. ap (times (entry o ch.lambda l)) (layers l k m k_low) ∙ solve o r (entry o ch.lambda l ∷ []) (var 0 ⊠ null) null refl)
        ∙ sum-zero o r (depth c))
        ∙ solve o r (f (depth c) ∷ []) (null ⊞ var 0) (var 0) refl

    copies_here : from_copies o c q ch (3 + i) s ≡ o.zero
    copies_here =
        let rows_few = rows_within p rows bounded (omega (arith, few)) in
        sum-ext o r (3 * depth c) _ (λ m. o.zero)
        (λ m l. ap (λ b. cond b (entry o ch.mu m) o.zero) (ap (λ b. b && ((m / 3) % p.wr == s)) (ne_eqb (3 + p.nwrow + 3 * (m / 3 / p.wr) + m % 3) (3 + i) (λ e. omega (arith, e, rows_few)))))
        ∙ sum-zero o r (3 * depth c)

    entries_here : from_entries o c q ch (3 + i) s ≡ o.zero
    entries_here =
        sum-ext o r (3 * depth c) _ (λ m. o.zero)
        (λ m l. ap (λ b. cond b (entry o ch.mu m) o.zero) (entry_number p (constrained_at c m) i s inside ∙ ne_eqb k (constrained_at c m) (λ e. omega (arith, e, k_low, few))))
        ∙ sum-zero o r (3 * depth c)

    pub combined_private : combined o c q ch (3 + i) s ≡ times (entry o ch.lambda (depth c)) (q (depth c) k)
    unfolding combined
    combined_private =
        let x = times (entry o ch.lambda (depth c)) (q (depth c) k) in
        ap (λ y. minus o (plus y (from_copies o c q ch (3 + i) s)) (from_entries o c q ch (3 + i) s)) constraints_here
        ∙ ap (λ y. minus o (plus x y) (from_entries o c q ch (3 + i) s)) copies_here
        ∙ ap (λ y. minus o (plus x o.zero) y) entries_here
        ∙ solve o r (x ∷ []) ((var 0 ⊞ null) ⊟ null) (var 0) refl
