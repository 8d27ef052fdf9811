-- How the marked wires of layers come about, one layer after the other.
use Rattle.std.specs.Prelude.{◌≡◌, ℕ, ◌<◌, ◌==◌, ◌||◌, true, false, Bool, Some, None, List, [], ◌∷◌, ◌++◌, length, map, IfOk}
use Rattle.std.specs.List.{slice_get}
use Rattle.std.specs.declared.result.Result.{Result}
use Rattle.std.specs.declared.result.Result.TheVariants.{Ok, Err}
use Rattle.std.proofs.Common.{refl, sym, ap, ◌∙◌, arith}
use Rattle.std.proofs.lemmas.Bool.{or_left}
use Rattle.std.proofs.lemmas.List.{append_assoc}
use Rattle.lzk_circuit.specs.declared.layer.Term.{Term}
use Rattle.lzk_circuit.specs.declared.layer.Layer.{Layer}
use Rattle.lzk_circuit.specs.Valid.{under_of}
use Rattle.lzk_circuit_reduce.specs.Marks.{is_marked, names, marked_before}
use Rattle.lzk_circuit_reduce.specs.Targets.{targets_at, behind, is_in}
use Rattle.lzk_circuit_reduce.specs.Used.{all_true, used_terms, used_layer, marks_of_under, used_layers, used_targets}
use Rattle.lzk_circuit_reduce.proofs.MarkedPlaceLaws.{all-count, all-marked}
use Rattle.lzk_circuit_reduce.proofs.UsedLaws.{marks-as}
use Rattle.lzk_circuit_reduce.proofs.UsedLayerLaws.{named-count, named-is}

-- a Result's value with two facts has a third
pub if-two : {X E : Type 0} (P Q R : X → Type 0) → ((x : X) → P x → Q x → R x) → (r : Result X E) → IfOk r P → IfOk r Q → IfOk r R
if-two P Q R f (Ok x) p q = f x p q
if-two P Q R f (Err e) p q = tt

or-false : (p : Bool) → (p || false) ≡ p
or-false true = refl
or-false false = refl

module _ {A : Type 0} where
  pub marks-first : (inputs : ℕ) (marks : List Bool) (ts : List (Term A)) (layers : List (Layer A)) (layer : Layer A) (below : List Bool) → Some layer ≡ slice_get layers 0 → length below ≡ layer.wires
      → ((k : ℕ) → k < layer.wires → is_marked below k ≡ ((k == 0) || names marks ts k)) → below ≡ marks_of_under inputs marks ts [] layers
  marks-first inputs marks ts [] layer below e count is = cc
  marks-first inputs marks ts (first ∷ rest) layer below e count is =
      let same : layer.wires ≡ first.wires = cc in
      marks-as (λ k. ((k == 0) || names marks ts k) || false) first.wires below (count ∙ same) (λ k l. is k (omega (arith, l, same)) ∙ sym (or-false ((k == 0) || names marks ts k)))

  pub marks-last : (inputs : ℕ) (marks : List Bool) (ts : List (Term A)) (ws : List ℕ) (layers : List (Layer A)) (below : List Bool) → None ≡ slice_get layers 0 → length below ≡ inputs
      → ((k : ℕ) → k < inputs → is_marked below k ≡ true) → below ≡ marks_of_under inputs marks ts ws layers
  marks-last inputs marks ts ws [] below e count is = marks-as (λ k. true) inputs below count is
  marks-last inputs marks ts ws (first ∷ rest) below e count is = cc

  -- the first of layers is the one below
  pub first-width : (inputs : ℕ) (layers : List (Layer A)) (layer : Layer A) → Some layer ≡ slice_get layers 0 → layer.wires ≡ (under_of inputs layers).width
  first-width inputs [] layer e = cc
  first-width inputs (first ∷ rest) layer e = cc

  -- with those that are asserted
  pub marks-more : (inputs : ℕ) (marks : List Bool) (ts : List (Term A)) (ws : List ℕ) (layers : List (Layer A)) (below more : List Bool) → below ≡ marks_of_under inputs marks ts [] layers → length more ≡ length below
      → ((k : ℕ) → is_marked more k ≡ (is_marked below k || is_in ws k)) → more ≡ marks_of_under inputs marks ts ws layers
  marks-more inputs marks ts ws [] below more e count is =
      marks-as (λ k. true) inputs more (count ∙ ap length e ∙ all-count inputs) (λ k l. is k ∙ ap (λ ms. is_marked ms k || is_in ws k) e ∙ or_left (is_marked (all_true inputs) k) (is_in ws k) (all-marked inputs k l))
  marks-more inputs marks ts ws (layer ∷ layers) below more e count is =
      let n = layer.wires in
      marks-as (λ k. ((k == 0) || names marks ts k) || is_in ws k) n more (count ∙ ap length e ∙ named-count n marks ts [])
      (λ k l. is k ∙ ap (λ ms. is_marked ms k || is_in ws k) e ∙ ap (λ p. p || is_in ws k) (named-is n marks ts [] k l ∙ or-false ((k == 0) || names marks ts k)))

  pub pushed-used : (inputs : ℕ) (marks below : List Bool) (ts : List (Term A)) (ws : List (List ℕ)) (rest : List (Layer A)) (layer pushed : Layer A) (old more : List (Layer A)) → ts ≡ layer.terms → below ≡ marks_of_under inputs marks ts (targets_at ws 0) rest
      → pushed.wires ≡ marked_before marks (length marks) → pushed.terms ≡ used_terms marks below ts → more ≡ old ++ pushed ∷ []
      → more ++ used_layers inputs below (behind ws) rest ≡ old ++ used_layers inputs marks ws (layer ∷ rest)
  pushed-used inputs marks below ts ws rest layer pushed old more slice is wires terms push =
      let under : below ≡ marks_of_under inputs marks layer.terms (targets_at ws 0) rest = is ∙ ap (λ us. marks_of_under inputs marks us (targets_at ws 0) rest) slice in
      let one : pushed ≡ used_layer marks below layer =
      ap (λ n. record { wires = n; terms = pushed.terms }) wires ∙ ap (λ us. record { wires = marked_before marks (length marks); terms = us }) (terms ∙ ap (used_terms marks below) slice) in
      ap (λ xs. xs ++ used_layers inputs below (behind ws) rest) push ∙ append_assoc old (pushed ∷ []) (used_layers inputs below (behind ws) rest)
      ∙ ap (λ x. old ++ x ∷ used_layers inputs below (behind ws) rest) one
      ∙ ap (λ b. old ++ used_layer marks b layer ∷ used_layers inputs b (behind ws) rest) under

  pub pushed-targets : (inputs : ℕ) (marks below : List Bool) (ts : List (Term A)) (ws : List (List ℕ)) (rest : List (Layer A)) (layer : Layer A) (pushed : List ℕ) (old more : List (List ℕ)) → ts ≡ layer.terms → below ≡ marks_of_under inputs marks ts (targets_at ws 0) rest
      → pushed ≡ map (marked_before below) (targets_at ws 0) → more ≡ old ++ pushed ∷ []
      → more ++ used_targets inputs below (behind ws) rest ≡ old ++ used_targets inputs marks ws (layer ∷ rest)
  pushed-targets inputs marks below ts ws rest layer pushed old more slice is own push =
      let under : below ≡ marks_of_under inputs marks layer.terms (targets_at ws 0) rest = is ∙ ap (λ us. marks_of_under inputs marks us (targets_at ws 0) rest) slice in
      ap (λ xs. xs ++ used_targets inputs below (behind ws) rest) push ∙ append_assoc old (pushed ∷ []) (used_targets inputs below (behind ws) rest)
      ∙ ap (λ x. old ++ x ∷ used_targets inputs below (behind ws) rest) own
      ∙ ap (λ b. old ++ map (marked_before b) (targets_at ws 0) ∷ used_targets inputs b (behind ws) rest) under
