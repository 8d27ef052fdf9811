-- Layers have a reduced form.
use Rattle.std.specs.Prelude.{◌≡◌, ℕ, ◌≤◌, None, List, [], ◌∷◌, length, map}
use Rattle.std.specs.List.{range_with_len}
use Rattle.std.proofs.Common.{refl, sym, subst, arith}
use Rattle.std.proofs.lemmas.List.FromFn.{length-map-range_with_len, get_or-map-range_with_len}
use Rattle.lzk_field.specs.Ring.{Ops, Laws, RingLaws, FieldLaws}
use Rattle.lzk_circuit.specs.declared.layer.Layer.{Layer}
use Rattle.lzk_circuit.specs.Valid.{AreTerms, AreLayers}
use Rattle.lzk_circuit_reduce.specs.Asserting.{IsForm, IsReducedWith}
use Rattle.lzk_circuit_reduce.specs.Reduced.{HaveOnes, HaveOnesUnder}
use Rattle.lzk_circuit_reduce.specs.Renumbering.{at}
use Rattle.lzk_circuit_reduce.specs.SomeReduced.{SomeReduced}
use Rattle.lzk_circuit_reduce.specs.Targets.{targets_at, behind, AreTargets}
use Rattle.lzk_circuit_reduce.specs.Used.{all_of, used_layers, used_targets, IsPruned}
use Rattle.lzk_circuit_reduce.proofs.FormLaws.{form-then, reduced-alone}
use Rattle.lzk_circuit_reduce.proofs.NormalLaws.{ZeroOrNot, zero_or_not}
use Rattle.lzk_circuit_reduce.proofs.PrunedLaws.{pruned-form, pruned-used, pruned-ones, pruned-different}
use Rattle.lzk_circuit_reduce.proofs.ReducedLaws.{are-reduced}
use Rattle.lzk_circuit_reduce.proofs.SharedLayerLaws.{AreShared, AllShared, shared-none, shared-above, shared-last}
use Rattle.lzk_circuit_reduce.proofs.SomeRows.{moved-layer, shared-layer}
use Rattle.lzk_circuit_reduce.proofs.StackedRows.{SameOrNot, row_same}
use Rattle.lzk_circuit_reduce.proofs.TargetLaws.{no-targets}

-- the numbers from 0 on
own_numbers : ℕ → List ℕ
own_numbers n = map (λ k. k) (range_with_len 0 n)

own-length : (n : ℕ) → length (own_numbers n) ≡ n
unfolding own_numbers
own-length n = length-map-range_with_len (λ (k : ℕ). k) 0 n

module _ {A : Type 0} (o : Ops A) (r : RingLaws o) (f : FieldLaws o) (decide : ZeroOrNot o) (number_of : A → ℕ) (same : SameOrNot A) (inputs : ℕ) where
  record Shared (ws : List (List ℕ)) (layers : List (Layer A)) : Type 0 where
    pub moved : List (List ℕ)
    pub kept : List (Layer A)
    pub numbers : List ℕ
    pub are : AreShared o inputs ws layers moved kept numbers

  shared-inner : (ws : List (List ℕ)) (layers : List (Layer A)) → AreLayers o inputs layers → HaveOnesUnder o layers → AreTargets inputs ws layers → Shared ws layers
  unfolding own_numbers
  shared-inner ws [] h ones t = record {
    moved = [];
    kept = [];
    numbers = own_numbers inputs;
    are = shared-none o inputs ws (own_numbers inputs) (own-length inputs) (λ k l. get_or-map-range_with_len (λ (i : ℕ). i) 0 inputs k k 0 l (omega arith));
  }
  shared-inner ws (layer ∷ layers) h ones t =
      let s = shared-inner (behind ws) layers h.1 ones.1 t.1 in
      let is = h.0 in
      let below : AreTerms o layer.wires (length s.numbers) None layer.terms = subst (λ w. AreTerms o layer.wires w None layer.terms) (sym s.are.width) is.each in
      let (kept, wires, like) = shared-layer o r f decide number_of layer s.numbers below same is.some in
      record { moved = map (at s.numbers) (targets_at ws 0) ∷ s.moved; kept = kept ∷ s.kept; numbers = wires; are = shared-above o inputs ws layer layers s.moved s.kept s.numbers kept wires is ones.0 t like s.are }

  record Whole (ws : List (List ℕ)) (layers : List (Layer A)) : Type 0 where
    pub moved : List (List ℕ)
    pub kept : List (Layer A)
    pub are : AllShared o inputs ws layers moved kept

  all-shared : (ws : List (List ℕ)) (layer : Layer A) (layers : List (Layer A)) → AreLayers o inputs (layer ∷ layers) → HaveOnesUnder o layers → AreTargets inputs ws (layer ∷ layers) → Whole ws (layer ∷ layers)
  all-shared ws layer layers h ones t =
      let s = shared-inner (behind ws) layers h.1 ones t.1 in
      let is = h.0 in
      let below : AreTerms o layer.wires (length s.numbers) None layer.terms = subst (λ w. AreTerms o layer.wires w None layer.terms) (sym s.are.width) is.each in
      let (top, like) = moved-layer o r f decide number_of layer s.numbers below in
      record { moved = map (at s.numbers) (targets_at ws 0) ∷ s.moved; kept = top ∷ s.kept; are = shared-last o inputs ws layer layers s.moved s.kept s.numbers top is t like s.are }

-- the reduced form of layers, and of what they assert
pub record Reduced {A : Type 0} (o : Ops A) (inputs : ℕ) (ws : List (List ℕ)) (layers : List (Layer A)) : Type 0 where
  pub moved : List (List ℕ)
  pub kept : List (Layer A)
  pub form : IsForm o inputs ws layers moved kept
  pub reduced : IsReducedWith o moved kept

pub some_reduced_with : {A : Type 0} (o : Ops A) (size : ℕ) (number_of : A → ℕ) (element : ℕ → A) (bytes : ℕ) → Laws o size number_of element bytes → (inputs : ℕ) (ws : List (List ℕ)) (layers : List (Layer A))
    → 1 ≤ length layers → AreLayers o inputs layers → HaveOnes o layers → AreTargets inputs ws layers → Reduced o inputs ws layers
some_reduced_with o size number_of element bytes laws inputs ws [] some h ones t = absurd (omega (arith, some))
some_reduced_with o size number_of element bytes laws inputs ws (layer ∷ layers) some h ones t =
    let s = all-shared o laws.ring laws.field (zero_or_not o size number_of element bytes laws.numbers) number_of (row_same o size number_of element bytes laws.numbers) inputs ws layer layers h ones t in
    let form = s.are.form in
    let kept = used_layers inputs (all_of s.kept) s.moved s.kept in
    let moved = used_targets inputs (all_of s.kept) s.moved s.kept in
    let p : IsPruned inputs s.moved s.kept moved kept = record { kept_are = refl; moved_are = refl } in
    let second = pruned-form o laws.ring inputs s.moved s.kept moved kept p (omega (arith, form.count)) form.valid form.targets in
    record {
      moved = moved;
      kept = kept;
      form = form-then o inputs ws (layer ∷ layers) s.moved s.kept moved kept form second;
      reduced = are-reduced o moved kept (pruned-ones o inputs s.moved s.kept moved kept p form.valid s.are.ones) (pruned-different o inputs s.moved s.kept moved kept p form.valid s.are.different) (pruned-used inputs s.moved s.kept moved kept p);
    }

pub some_reduced : {A : Type 0} (o : Ops A) (size : ℕ) (number_of : A → ℕ) (element : ℕ → A) (bytes : ℕ) → Laws o size number_of element bytes → SomeReduced o
some_reduced o size number_of element bytes laws inputs layers some h ones =
    let r = some_reduced_with o size number_of element bytes laws inputs [] layers some h ones (no-targets inputs layers) in
    let form = r.form in (
      r.kept,
      record {
        count = form.count;
        valid = form.valid;
        outputs = form.outputs;
        values = form.values;
        reduced = reduced-alone o r.moved r.kept layers form.count form.as_many r.reduced;
      },
    )
