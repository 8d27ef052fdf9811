-- Forms behind each other in one list.
use Rattle.std.specs.Prelude.{◌≡◌, ℕ, ◌+◌, ◌-◌, ◌<◌, ◌≤◌, List, [], ◌∷◌, ◌++◌, length}
use Rattle.std.proofs.Common.{inl, inr, sym, ap, ap₂, ◌∙◌, arith, subst}
use Rattle.std.proofs.lemmas.Bool.{cases_lt}
use Rattle.std.proofs.lemmas.List.{length-append, get_or_append_left}
use Rattle.std.proofs.Math.Seq.{get_or-append_seam}
use Rattle.lzk_field.specs.Ring.{Ops}
use Rattle.lzk_circuit.specs.declared.layer.Term.{Term}
use Rattle.lzk_circuit_reduce.specs.Renumbering.{at}
use Rattle.lzk_level.specs.Gates.{Gate}
use Rattle.lzk_level.specs.Forms.{form_at, ArePieces, AreFormsTo, AreForms, IsNodeForm, IsNext, IsPart}
use Rattle.lzk_level.specs.Levels.{IsGraph}
use Rattle.lzk_level.specs.Spans.{piece}
use Rattle.lzk_level.proofs.SpanLaws.{piece-kept, last-piece}

module _ {A : Type 0} (o : Ops A) where
  -- the forms of the first i made nodes, and where they end
  pub record SoFar (inputs : ℕ) (made : List (Gate A)) (depths : List ℕ) (i : ℕ) (starts : List ℕ) (terms : List (Term A)) : Type 0 where
    pub count : length starts ≡ i + 1
    pub end : at starts i ≡ length terms
    pub pieces : ArePieces (length terms) starts
    pub forms : AreFormsTo o inputs made depths i starts terms

  pub no-forms : (inputs : ℕ) (made : List (Gate A)) (depths : List ℕ) (starts : List ℕ) (terms : List (Term A)) → starts ≡ 0 ∷ [] → terms ≡ [] → SoFar inputs made depths 0 starts terms
  no-forms inputs made depths starts terms s t = record {
    count = ap length s;
    end = ap (λ ns. at ns 0) s ∙ sym (ap length t);
    pieces = λ i l. absurd (omega (arith, l, ap length s));
    forms = λ i l. absurd (omega (arith, l));
  }

  pub next-is : (inputs : ℕ) (made : List (Gate A)) (depths : List ℕ) (i depth : ℕ) (starts : List ℕ) (terms : List (Term A)) → IsGraph inputs made depths → i < length made → depth ≡ at depths (inputs + i) → SoFar inputs made depths i starts terms → IsNext o inputs made depths starts terms i depth
  next-is inputs made depths i depth starts terms g l d f = record { graph = g; there = l; depth_is = d; count = f.count; pieces = f.pieces; forms = f.forms }

  -- one form more
  pub more-forms : (inputs : ℕ) (made : List (Gate A)) (depths : List ℕ) (i n : ℕ) (starts starts' : List ℕ) (terms terms' row : List (Term A)) → terms' ≡ terms ++ row → n ≡ length terms' → starts' ≡ starts ++ n ∷ []
      → IsNodeForm o inputs made depths (inputs + i) row → SoFar inputs made depths i starts terms → SoFar inputs made depths (i + 1) starts' terms'
  more-forms inputs made depths i n starts starts' terms terms' row t e s f h =
      let longer : length terms' ≡ length terms + length row = ap length t ∙ length-append terms row in
      let count : length starts' ≡ i + 2 = ap length s ∙ length-append starts (n ∷ []) ∙ omega (arith, h.count) in
      let old : (j : ℕ) → j < i + 1 → at starts' j ≡ at starts j = λ j l. ap (λ ns. at ns j) s ∙ get_or_append_left starts (n ∷ []) 0 j (omega (arith, l, h.count)) in
      let last : at starts' (i + 1) ≡ n = ap (λ ns. at ns (i + 1)) s ∙ ap (at (starts ++ n ∷ [])) (sym h.count) ∙ get_or-append_seam starts n [] 0 in
      let kept : (j : ℕ) → j < i → form_at starts' terms' j ≡ form_at starts terms j = λ j l.
      let p = h.pieces j (omega (arith, l, h.count)) in
      ap₂ (λ x y. piece terms' (x, y)) (old j (omega (arith, l))) (old (j + 1) (omega (arith, l))) ∙ ap (λ ts. piece ts (at starts j, at starts (j + 1))) t ∙ piece-kept terms row (at starts j, at starts (j + 1)) p.0 p.1 in
      let own : form_at starts' terms' i ≡ row =
      ap₂ (λ x y. piece terms' (x, y)) (old i (omega arith) ∙ h.end) last ∙ ap (λ ts. piece ts (length terms, n)) t ∙ last-piece terms row n (omega (arith, e, longer)) in
      record {
        count = omega (arith, count);
        end = last ∙ e;
        pieces = λ j l. elim (cases_lt j i) [
          | inl m ↦ let p = h.pieces j (omega (arith, m, h.count)) in (omega (arith, p.0, old j (omega (arith, m)), old (j + 1) (omega (arith, m))), omega (arith, p.1, old (j + 1) (omega (arith, m)), longer))
          | inr m ↦
              let is : j ≡ i = omega (arith, m, l, count) in
              (omega (arith, ap (at starts') is, ap (λ k. at starts' (k + 1)) is, old i (omega arith), h.end, last, e, longer), omega (arith, ap (λ k. at starts' (k + 1)) is, last, e))
        ];
        forms = λ j l. elim (cases_lt j i) [
          | inl m ↦ subst (IsNodeForm o inputs made depths (inputs + j)) (sym (kept j m)) (h.forms j m)
          | inr m ↦
              let is : i ≡ j = omega (arith, m, l) in
              subst (λ k. IsNodeForm o inputs made depths (inputs + k) (form_at starts' terms' k)) is (subst (IsNodeForm o inputs made depths (inputs + i)) (sym own) f)
        ];
      }

  pub all-forms : (inputs : ℕ) (made : List (Gate A)) (depths : List ℕ) (i : ℕ) (starts : List ℕ) (terms : List (Term A)) → i ≡ length made → SoFar inputs made depths i starts terms → AreForms o inputs made depths starts terms
  all-forms inputs made depths i starts terms e h = record {
    count = omega (arith, e, h.count);
    each = λ j l. h.forms j (omega (arith, l, e));
  }

  -- a node that is as deep as the next one is made, and has its form
  pub beside-made : (inputs : ℕ) (made : List (Gate A)) (depths starts : List ℕ) (terms : List (Term A)) (i depth k : ℕ) → IsNext o inputs made depths starts terms i depth → 1 ≤ depth → depth ≤ at depths k → inputs ≤ k
  beside-made inputs made depths starts terms i depth k n high deep = elim (cases_lt k inputs) [
    | inl l ↦ let d = n.graph.depths_are in absurd (omega (arith, d.at_inputs k l, high, deep))
    | inr l ↦ l
  ]

  pub form-beside : (inputs : ℕ) (made : List (Gate A)) (depths starts : List ℕ) (terms form : List (Term A)) (i depth k : ℕ) → IsNext o inputs made depths starts terms i depth → inputs ≤ k → IsPart depths (inputs + i) depth k → form ≡ form_at starts terms (k - inputs)
      → IsNodeForm o inputs made depths k form
  form-beside inputs made depths starts terms form i depth k n behind p is =
      let place : inputs + (k - inputs) ≡ k = omega (arith, behind) in
      subst (IsNodeForm o inputs made depths k) (sym is) (subst (λ m. IsNodeForm o inputs made depths m (form_at starts terms (k - inputs))) place (n.forms (k - inputs) (omega (arith, behind, p.before))))
