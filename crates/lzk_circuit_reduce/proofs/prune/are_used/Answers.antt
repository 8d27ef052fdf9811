use Rattle.std.proofs.Common.{arith, ◌≡◌, ◌+◌, ◌-◌, ◌<◌, ◌∙◌, ℕ, List, inl, inr, suc, ap, sym, subst, get_or, length, None}
use Rattle.std.proofs.lemmas.Bool.{cases_lt}
use Rattle.lzk_circuit.specs.declared.layer.Layer.{Layer}
use Rattle.lzk_circuit_reduce.specs.Asserting.{AreUsedWith}
use Rattle.lzk_circuit.specs.Valid.{AreTerms}
use Rattle.lzk_circuit_reduce.specs.Targets.{targets_at, AreBelow}
use Rattle.lzk_circuit_reduce.proofs.AddLaws.{any-default}
use Rattle.lzk_circuit_reduce.proofs.AllUsedLaws.{AreUsedTo, all-used, inner-terms, inner-targets}
use Rattle.lzk_circuit_reduce.proofs.prune.are_used.Goals as goal

-- one layer more uses the next one
used-next : {A : Type 0} (ws : List (List ℕ)) (layers : List (Layer A)) (l : ℕ) (x y : Layer A) (own : List ℕ) → l < length layers → x ≡ get_or layers (l - 1) x → y ≡ get_or layers l y → own ≡ targets_at ws (l - 1) → AreUsedWith x own y
    → AreUsedTo l ws layers → AreUsedTo (l + 1) ws layers
used-next ws layers l x y own within is next own_is used h i d k = elim (cases_lt (i + 1) l) [
  | inl m ↦ h i d m
  | inr m ↦
      let e : l - 1 ≡ i = omega (arith, k, m) in
      let f : l ≡ suc i = omega (arith, k, m) in
      let first : x ≡ get_or layers i d = any-default layers (l - 1) x d (omega (arith, within)) is ∙ ap (λ j. get_or layers j d) e in
      let second : y ≡ get_or layers (suc i) d = any-default layers l y d within next ∙ ap (λ j. get_or layers j d) f in
      subst (λ u. AreUsedWith u (targets_at ws i) (get_or layers (suc i) d)) first (subst (λ v. AreUsedWith x (targets_at ws i) v) second (subst (λ us. AreUsedWith x us y) (own_is ∙ ap (targets_at ws) e) used))
]

pub loop-l-init : goal.loop-l-init
loop-l-init g c i d k = absurd (omega (arith, k))

pub loop-l-preserved : goal.loop-l-preserved
loop-l-preserved g c =
    let given = c.args.given.now in
    used-next given.targets.now given.layers.now c.loop-l.l c.index-layers-l.result c.index-layers-l-in-loop-l.result c.targets_of-own.result.now c.loop-l-test.true c.index-layers-l.is c.index-layers-l-in-loop-l.is
    c.targets_of-own.ensures (c.in-Ok.ensures c.if-not-used.false) c.loop-l.invariant

pub is_used-requires-clause-terms : goal.is_used-requires-clause-terms
is_used-requires-clause-terms g c κs within =
    let o = g.F.Field.ops in
    let layers = c.args.given.now.layers.now in
    let l = c.loop-l.l in
    let x = c.index-layers-l.result in
    let y = c.index-layers-l-in-loop-l.result in
    let next : l ≡ suc (l - 1) = omega (arith, c.loop-l.auto.l) in
    let second : y ≡ get_or layers (suc (l - 1)) x = any-default layers l y x c.loop-l-test.true c.index-layers-l-in-loop-l.is ∙ ap (λ k. get_or layers k x) next in
    subst (λ u. AreTerms o u.wires y.wires None u.terms) (sym c.index-layers-l.is)
    (subst (λ v. AreTerms o (get_or layers (l - 1) x).wires v.wires None (get_or layers (l - 1) x).terms) (sym second)
    (inner-terms o c.args.given.now.inputs layers (l - 1) x (omega (arith, c.loop-l-test.true, next)) c.args.given.now.are.valid))

pub is_used-requires-clause-targets : goal.is_used-requires-clause-targets
is_used-requires-clause-targets g c κs within =
    let layers = c.args.given.now.layers.now in
    let l = c.loop-l.l in
    let x = c.index-layers-l.result in
    let y = c.index-layers-l-in-loop-l.result in
    let ws = targets_at c.args.given.now.targets.now (l - 1) in
    let next : l ≡ suc (l - 1) = omega (arith, c.loop-l.auto.l) in
    let second : y ≡ get_or layers (suc (l - 1)) x = any-default layers l y x c.loop-l-test.true c.index-layers-l-in-loop-l.is ∙ ap (λ k. get_or layers k x) next in
    subst (AreBelow y.wires) (sym c.targets_of-own.ensures) (subst (λ v. AreBelow v.wires ws) (sym second) (inner-targets c.args.given.now.inputs c.args.given.now.targets.now layers (l - 1) x (omega (arith, c.loop-l-test.true, next)) c.args.given.now.are.targets))

pub returns : goal.returns
returns g c e = all-used c.args.given.now.targets.now c.args.given.now.layers.now c.loop-l.l c.loop-l-test.false c.loop-l.invariant
