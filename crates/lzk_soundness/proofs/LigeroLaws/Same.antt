-- What rows hold from row 3 on does not depend on the rows before.
use Rattle.lzk_profile.specs.Profile.{opened_count}
use Rattle.std.specs.Prelude.{◌≡◌, ℕ, ◌+◌, ◌*◌, ◌/◌, ◌%◌, ◌≤◌, List, []}
use Rattle.std.proofs.Common.{zero, suc, refl, sym, ap, ◌∙◌, arith}
use Rattle.std.proofs.lemmas.List.{get_or_past}
use Rattle.std.proofs.lemmas.List.FromFn.{length-map-range_with_len}
use native.Mathlib.Decide.{dec_lt}
use Rattle.lzk_field.specs.Coding.{Coding}
use Rattle.lzk_field.specs.Ring.{Ops, Laws}
use Rattle.lzk_field.specs.Sums.{minus, entry}
use Rattle.lzk_circuit.specs.Valid.{Wiring}
use Rattle.lzk_layout.specs.declared.params.Params.{Params}
use Rattle.lzk_layout.specs.Sizes.{AreBounded, params_of, committed_count}
use Rattle.lzk_layout.specs.Places.{constrained_at, copy_place_of}
use Rattle.lzk_sumcheck.proofs.Prefixes.{map-same}
use Rattle.lzk_ligero_answers.specs.Opened.{element}
use Rattle.lzk_ligero_answers.specs.Rows.{row}
use Rattle.lzk_soundness.specs.Rows.Held.{placed, held, copy_gap, in_triple, product_gap}
use Rattle.lzk_soundness.specs.Tables.Table.{IsNear}
use Rattle.lzk_soundness.proofs.CountLaws.Made.{made, made_row, row_is}

module _ {A : Type 0} (o : Ops A) (e : Coding A) (laws : Laws o e.size e.number e.element e.bytes) (c : Wiring A) (table : ℕ → ℕ → A) (b : AreBounded (params_of c)) (near : IsNear o e.element (params_of c) table (params_of c).block) where
  abbrev p : Params
  p = params_of c

  -- rows 1 and 2 from these polynomials
  abbrev pub with_two : List A → List A → List (List A)
  with_two first second = made laws p table b near first second

  -- and from none
  abbrev pub plain : List (List A)
  plain = with_two [] []

  module _ (first second : List A) where
    abbrev R : List (List A)
    R = with_two first second

    same_made : (i : ℕ) → 3 ≤ i → made_row laws p table b near first second i ≡ made_row laws p table b near [] [] i
    unfolding made_row
    same_made zero h = absurd (omega (arith, h))
    same_made (suc zero) h = absurd (omega (arith, h))
    same_made (suc (suc zero)) h = absurd (omega (arith, h))
    same_made (suc (suc (suc i))) h = refl

    same_row : (i : ℕ) → 3 ≤ i → row R i ≡ row plain i
    same_row i h = elim (dec_lt i p.nrow) [
      | yes less ↦ row_is laws p table b near first second i less ∙ same_made i h ∙ sym (row_is laws p table b near [] [] i less)
      | no more ↦
          get_or_past R i [] (omega (arith, more, length-map-range_with_len (made_row laws p table b near first second) 0 p.nrow))
          ∙ sym (get_or_past plain i [] (omega (arith, more, length-map-range_with_len (made_row laws p table b near [] []) 0 p.nrow)))
    ]

    same_element : (i s : ℕ) → 3 ≤ i → element o R i s ≡ element o plain i s
    same_element i s h = ap (λ xs. entry o xs (opened_count + s)) (same_row i h)

    pub placed_same : (j : ℕ) → placed o c R j ≡ placed o c plain j
    placed_same j = same_element (3 + j / p.wr) (j % p.wr) (omega arith)

    pub held_same : held o c R ≡ held o c plain
    held_same = map-same (placed o c R) (placed o c plain) 0 (committed_count c) (λ j h. placed_same j)

    pub copy_same : (m : ℕ) → copy_gap o c R m ≡ copy_gap o c plain m
    copy_same m =
        let i = (copy_place_of p m).0 in
        let s = (copy_place_of p m).1 in
        ap (λ x. minus o x (placed o c R (constrained_at c m))) (same_element i s (omega arith))
        ∙ ap (minus o (element o plain i s)) (placed_same (constrained_at c m))

    triple_same : (t s which : ℕ) → in_triple o c R t s which ≡ in_triple o c plain t s which
    triple_same t s which = same_element (3 + p.nwrow + 3 * t + which) s (omega arith)

    pub product_same : (s t : ℕ) → product_gap o c R s t ≡ product_gap o c plain s t
    product_same s t =
        ap (λ x. minus o (o.times x (in_triple o c R t s 1)) (in_triple o c R t s 2)) (triple_same t s 0)
        ∙ ap (λ x. minus o (o.times (in_triple o c plain t s 0) x) (in_triple o c R t s 2)) (triple_same t s 1)
        ∙ ap (minus o (o.times (in_triple o c plain t s 0) (in_triple o c plain t s 1))) (triple_same t s 2)
