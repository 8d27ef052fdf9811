-- Terms and levels.
use Rattle.std.proofs.Common.{◌≡◌, ℕ, zero, suc, ◌+◌, ◌-◌, ◌^◌, ◌<◌, ◌≤◌, Bool, true, false, cond, leb, eqb, ◌&&◌, List, [], ◌∷◌, ◌++◌, length, Option, None, Ok, refl, sym, ap, subst, ◌∙◌, arith, slice_index, append_assoc}
use Rattle.std.specs.Int.{w32, to_le_bytes}
use Rattle.std.proofs.lemmas.Bool.{ne_eqb, eqb-true, eq-eqb, le-leb, leb-true, and_parts}
use Rattle.lzk_circuit.specs.Limits.{most_wires, most_total}
use Rattle.lzk_circbytes.specs.declared.fault.ByteKind.TheVariants.{Order, Limit, Assertion}
use Rattle.lzk_circuit.specs.declared.layer.Term.{Term}
use Rattle.lzk_circuit.specs.declared.layer.Layer.{Layer}
use Rattle.lzk_circuit.specs.Valid.{Under}
use Rattle.lzk_circuit.specs.Faults.{are_apart}
use Rattle.lzk_circbytes.specs.Numbered.{Shape, coefs_of}
use Rattle.lzk_circbytes.specs.Reading.{must, stands_behind, wire_before, step_at, term_at, terms_at, as_before, word_at, layer_at}
use Rattle.lzk_circbytes.specs.Spelling.{term_bytes, layer_bytes, varint, index_of, spells}
use Rattle.lzk_circbytes.specs.Fits.{FitsTerm, FitsLayer, AreConstants}
use Rattle.lzk_circbytes.proofs.Steps.{IsBytes, must_ok, ok_is, from, Takes, Takes-then, many_takes, many_again}
use Rattle.lzk_circbytes.proofs.Varints.{step_take, step_again}
use Rattle.lzk_circbytes.proofs.Fields.{word_take, word_again}

-- ---- where a coefficient stands

above : (shape : Shape) (before : ℕ) (cs : List ℕ) (k : ℕ) → AreConstants shape before cs → k < length cs → before < slice_index cs k
above shape before [] k fits lt = absurd (omega arith)
above shape before (x ∷ cs) zero fits lt = fits.0.above
above shape before (x ∷ cs) (suc k) fits lt = omega (arith, fits.0.above, above shape x cs k fits.1 (omega arith))

pub index_found : (shape : Shape) (before : ℕ) (cs : List ℕ) (k : ℕ) → AreConstants shape before cs → k < length cs → index_of cs (slice_index cs k) ≡ k
index_found shape before [] k fits lt = absurd (omega arith)
index_found shape before (x ∷ cs) zero fits lt = rw (eq-eqb x x refl) refl
index_found shape before (x ∷ cs) (suc k) fits lt =
    let less : k < length cs = omega arith in
    let other : eqb x (slice_index cs k) ≡ false = ne_eqb x (slice_index cs k) (λ e. omega (arith, above shape x cs k fits.1 less)) in
    rw other (ap suc (index_found shape x cs k fits.1 less))

found_at : (x : ℕ) (cs : List ℕ) (c : ℕ) (b : Bool) → eqb x c ≡ b → cond b 0 (suc (index_of cs c)) < suc (length cs) → (index_of cs c < length cs → slice_index cs (index_of cs c) ≡ c) → slice_index (x ∷ cs) (cond b 0 (suc (index_of cs c))) ≡ c
found_at x cs c true e lt rest = eqb-true x c e
found_at x cs c false e lt rest = rest (omega arith)

pub found_index : (cs : List ℕ) (c : ℕ) → index_of cs c < length cs → slice_index cs (index_of cs c) ≡ c
found_index [] c lt = absurd (omega arith)
found_index (x ∷ cs) c lt = found_at x cs c (eqb x c) refl lt (found_index cs c)

-- each coefficient is found at its number
abbrev pub AreIndexed : List ℕ → Type 0
AreIndexed coefs = (k : ℕ) → k < length coefs → index_of coefs (slice_index coefs k) ≡ k

pub indexed : (shape : Shape) (cs : List ℕ) → AreConstants shape 0 cs → AreIndexed cs
indexed shape cs h k lt = index_found shape 0 cs k h lt

-- the same with zero before the constants
pub coefs_indexed : (shape : Shape) (version : ℕ) (cs : List ℕ) → AreConstants shape 0 cs → AreIndexed (coefs_of version cs)
coefs_indexed shape version cs h = go (eqb version 2)
  where
    zero_first : AreIndexed (0 ∷ cs)
    zero_first zero lt = refl
    zero_first (suc k) lt =
        let less : k < length cs = omega (arith, lt) in
        let other : eqb 0 (slice_index cs k) ≡ false = ne_eqb 0 (slice_index cs k) (λ e. omega (arith, e, above shape 0 cs k h less)) in
        rw other (ap suc (index_found shape 0 cs k h less))

    go : (b : Bool) → AreIndexed (cond b (0 ∷ cs) cs)
    go true = zero_first
    go false = indexed shape cs h

-- ---- a term

pub term_take : (coefs : List ℕ) (wires below : ℕ) → AreIndexed coefs → (last : Option (Term ℕ)) (bytes : List ℕ) (x : Term ℕ × List ℕ) → IsBytes bytes → term_at coefs wires below last bytes ≡ Ok x
    → Takes bytes (term_bytes coefs last x.0) x.1 × FitsTerm coefs wires below last x.0
unfolding term_at term_bytes
term_take coefs wires below rising last bytes x fits e =
    from (step_at (wire_before last) wires bytes) _ x e (λ g at_g then_a.
    from (step_at 0 below g.1) _ x then_a (λ a at_a then_b.
    from (step_at a.0 below a.1) _ x then_b (λ b at_b then_order.
    from (must (stands_behind last g.0 a.0 b.0) Order a.1) _ x then_order (λ o at_o then_k.
    from (step_at 0 (length coefs) b.1) _ x then_k (λ k at_k then_apart.
    from (must (are_apart (λ n. n) last (record { g = g.0; a = a.0; b = b.0; coef = slice_index coefs k.0 })) Assertion b.1) _ x then_apart (λ q at_q end.
    let tg = step_take (wire_before last) wires bytes g fits at_g in
    let ta = step_take 0 below g.1 a tg.0.rest_fits at_a in
    let tb = step_take a.0 below a.1 b ta.0.rest_fits at_b in
    let tk = step_take 0 (length coefs) b.1 k tb.0.rest_fits at_k in
    let made : Term ℕ × List ℕ = (record { g = g.0; a = a.0; b = b.0; coef = slice_index coefs k.0 }, k.1) in
    let place : index_of coefs (slice_index coefs k.0) ≡ k.0 = rising k.0 tk.1.below in
    let a-is : a.0 - 0 ≡ a.0 = omega arith in
    let k-is : k.0 - 0 ≡ index_of coefs (slice_index coefs k.0) = omega (arith, place) in
    let one : Takes g.1 (varint a.0) a.1 = subst (λ (n : ℕ). Takes g.1 (varint n) a.1) a-is ta.0 in
    let four : Takes b.1 (varint (index_of coefs (slice_index coefs k.0))) k.1 = subst (λ (n : ℕ). Takes b.1 (varint n) k.1) k-is tk.0 in
    let whole : Takes bytes (term_bytes coefs last made.0) k.1 =
    Takes-then bytes (varint (g.0 - wire_before last)) g.1 (varint a.0 ++ (varint (b.0 - a.0) ++ varint (index_of coefs (slice_index coefs k.0)))) k.1 tg.0
    (Takes-then g.1 (varint a.0) a.1 (varint (b.0 - a.0) ++ varint (index_of coefs (slice_index coefs k.0))) k.1 one
    (Takes-then a.1 (varint (b.0 - a.0)) b.1 (varint (index_of coefs (slice_index coefs k.0))) k.1 tb.0 four)) in
    let good : FitsTerm coefs wires below last made.0 = record {
      g = tg.1.below;
      a = tb.1.up;
      b = tb.1.below;
      rising = tg.1.up;
      behind = must_ok (stands_behind last g.0 a.0 b.0) Order a.1 o at_o;
      number = omega (arith, place, tk.1.below);
      apart = must_ok (are_apart (λ n. n) last made.0) Assertion b.1 q at_q;
    } in
    subst (λ (y : Term ℕ × List ℕ). Takes bytes (term_bytes coefs last y.0) y.1 × FitsTerm coefs wires below last y.0) (ok_is made x end) (whole, good)))))))

-- what lets each number of a term be written
pub record Room (coefs : List ℕ) (wires below : ℕ) : Type 0 where
  pub for_g : wires ≤ 2 ^ 32
  pub for_ab : below ≤ 2 ^ 32
  pub for_coef : length coefs ≤ 2 ^ 32

pub term_again : (coefs : List ℕ) (wires below : ℕ) → Room coefs wires below → (last : Option (Term ℕ)) (t : Term ℕ) (rest : List ℕ) → FitsTerm coefs wires below last t
    → term_at coefs wires below last (term_bytes coefs last t ++ rest) ≡ Ok (t, rest)
unfolding term_at term_bytes
term_again coefs wires below room last t rest fits =
    let k : ℕ = index_of coefs t.coef in
    let vg : List ℕ = varint (t.g - wire_before last) in
    let va : List ℕ = varint t.a in
    let vb : List ℕ = varint (t.b - t.a) in
    let vk : List ℕ = varint k in
    let regrouped : (vg ++ (va ++ (vb ++ vk))) ++ rest ≡ vg ++ (va ++ (vb ++ (vk ++ rest))) = simp append_assoc in
    let rg = step_again (wire_before last) wires t.g (va ++ (vb ++ (vk ++ rest))) (omega (arith, fits.g, room.for_g)) (record { up = fits.rising; below = fits.g }) in
    let ra : step_at 0 below (va ++ (vb ++ (vk ++ rest))) ≡ Ok (t.a, vb ++ (vk ++ rest)) =
    subst (λ (n : ℕ). step_at 0 below (varint n ++ (vb ++ (vk ++ rest))) ≡ Ok (t.a, vb ++ (vk ++ rest))) (let z : t.a - 0 ≡ t.a = omega arith in z)
    (step_again 0 below t.a (vb ++ (vk ++ rest)) (omega (arith, fits.a, fits.b, room.for_ab)) (record { up = omega arith; below = omega (arith, fits.a, fits.b) })) in
    let rb = step_again t.a below t.b (vk ++ rest) (omega (arith, fits.b, room.for_ab)) (record { up = fits.a; below = fits.b }) in
    let rk : step_at 0 (length coefs) (vk ++ rest) ≡ Ok (k, rest) =
    subst (λ (n : ℕ). step_at 0 (length coefs) (varint n ++ rest) ≡ Ok (k, rest)) (let z : k - 0 ≡ k = omega arith in z)
    (step_again 0 (length coefs) k rest (omega (arith, fits.number, room.for_coef)) (record { up = omega arith; below = fits.number })) in
    ap (term_at coefs wires below last) regrouped ∙ rw (rg, ra, rb, fits.behind, rk, found_index coefs t.coef fits.number, fits.apart) refl

-- ---- a level

pub layer_take : (coefs : List ℕ) → AreIndexed coefs → (under : Under) (bytes : List ℕ) (x : Layer ℕ × List ℕ) → IsBytes bytes → layer_at coefs under bytes ≡ Ok x
    → Takes bytes (layer_bytes coefs under x.0) x.1 × FitsLayer coefs under x.0
unfolding layer_at layer_bytes
layer_take coefs rising under bytes x fits e =
    from (word_at bytes) _ x e (λ wires at_wires then_1.
    from (must (leb 1 wires.0 && (leb wires.0 most_wires && leb (under.wires + wires.0) most_total)) Limit bytes) _ x then_1 (λ o at_o then_count.
    from (word_at wires.1) _ x then_count (λ count at_count then_2.
    from (must (leb (under.terms + count.0) most_total) Limit wires.1) _ x then_2 (λ p at_p then_terms.
    from (terms_at coefs wires.0 under.width count.0 count.1) _ x then_terms (λ terms at_terms end.
    let tw = word_take bytes wires fits at_wires in
    let tc = word_take wires.1 count tw.0.rest_fits at_count in
    let tt = many_takes as_before (term_at coefs wires.0 under.width) (term_bytes coefs) (FitsTerm coefs wires.0 under.width) (term_take coefs wires.0 under.width rising) count.0 None count.1 terms tc.0.rest_fits at_terms in
    let limits = must_ok (leb 1 wires.0 && (leb wires.0 most_wires && leb (under.wires + wires.0) most_total)) Limit bytes o at_o in
    let l1 = and_parts (leb 1 wires.0) (leb wires.0 most_wires && leb (under.wires + wires.0) most_total) limits in
    let l2 = and_parts (leb wires.0 most_wires) (leb (under.wires + wires.0) most_total) l1.1 in
    let l3 = must_ok (leb (under.terms + count.0) most_total) Limit wires.1 p at_p in
    let made : Layer ℕ × List ℕ = (record { wires = wires.0; terms = terms.0 }, terms.1) in
    let whole : Takes bytes (layer_bytes coefs under made.0) terms.1 =
    Takes-then bytes (to_le_bytes w32 wires.0) wires.1 (to_le_bytes w32 (length terms.0) ++ spells as_before (term_bytes coefs) None terms.0) terms.1 tw.0
    (Takes-then wires.1 (to_le_bytes w32 (length terms.0)) count.1 (spells as_before (term_bytes coefs) None terms.0) terms.1
    (subst (λ (n : ℕ). Takes wires.1 (to_le_bytes w32 n) count.1) (sym tt.1) tc.0) tt.0) in
    let good : FitsLayer coefs under made.0 = record {
      some = leb-true 1 wires.0 l1.0;
      wires = leb-true wires.0 most_wires l2.0;
      all_wires = leb-true (under.wires + wires.0) most_total l2.1;
      all_terms = omega (arith, tt.1, leb-true (under.terms + count.0) most_total l3);
      terms = tt.2;
    } in
    subst (λ (y : Layer ℕ × List ℕ). Takes bytes (layer_bytes coefs under y.0) y.1 × FitsLayer coefs under y.0) (ok_is made x end) (whole, good))))))

pub layer_again : (coefs : List ℕ) → length coefs ≤ 2 ^ 32 → (under : Under) (l : Layer ℕ) (rest : List ℕ) → (under.width ≤ 2 ^ 32) → FitsLayer coefs under l
    → layer_at coefs under (layer_bytes coefs under l ++ rest) ≡ Ok (l, rest)
unfolding layer_at layer_bytes
layer_again coefs few under l rest narrow fits =
    let vt : List ℕ = spells as_before (term_bytes coefs) None l.terms in
    let regrouped : (to_le_bytes w32 l.wires ++ (to_le_bytes w32 (length l.terms) ++ vt)) ++ rest ≡ to_le_bytes w32 l.wires ++ (to_le_bytes w32 (length l.terms) ++ (vt ++ rest)) = simp append_assoc in
    let rw1 = word_again l.wires (to_le_bytes w32 (length l.terms) ++ (vt ++ rest)) (omega (arith, fits.wires)) in
    let rc = word_again (length l.terms) (vt ++ rest) (omega (arith, fits.all_terms)) in
    let room : Room coefs l.wires under.width = record { for_g = omega (arith, fits.wires); for_ab = narrow; for_coef = few } in
    let rt = many_again as_before (term_at coefs l.wires under.width) (term_bytes coefs) (FitsTerm coefs l.wires under.width) (term_again coefs l.wires under.width room) l.terms None rest fits.terms in
    ap (layer_at coefs under) regrouped ∙ rw (rw1, le-leb 1 l.wires fits.some, le-leb l.wires most_wires fits.wires, le-leb (under.wires + l.wires) most_total fits.all_wires, rc, le-leb (under.terms + length l.terms) most_total fits.all_terms, rt) refl
