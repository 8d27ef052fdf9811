use Rattle.std.proofs.Common.{◌≡◌, ◌∙◌, ℕ, ◌+◌, ◌≤◌, List, [], ◌∷◌, ◌++◌, ap, sym, arith, length, get_or, take}
use Rattle.std.proofs.lemmas.List.{append_assoc, append-nil, take_all}
use Rattle.lzk_field.specs.Ring.{Ops}
use Rattle.lzk_circuit.specs.declared.layer.Layer.{Layer}
use Rattle.lzk_circuit.specs.declared.layer.Term.{Term}
use Rattle.lzk_circuit_reduce.specs.Attached.{assertions, attached}
use Rattle.lzk_circuit_reduce.proofs.AttachedLaws.{assertions-more}
use Rattle.lzk_circuit_reduce.proofs.attach.attached_layer.Goals as goal

every : {A : Type 0} (o : Ops A) (layer : Layer A) (ws : List ℕ) (i g : ℕ) (ts us : List (Term A)) → i ≤ length ws → length ws ≤ i → g ≡ layer.wires + i → ts ≡ layer.terms ++ assertions o layer.wires (take i ws) → us ≡ ts
    → record { wires = g; terms = us } ≡ attached o layer ws
every o layer ws i g ts us l m e h f =
    let count : g ≡ layer.wires + length ws = omega (arith, l, m, e) in
    let list : us ≡ layer.terms ++ assertions o layer.wires ws = f ∙ h ∙ ap (λ w. layer.terms ++ assertions o layer.wires w) (take_all i ws m) in
    ap (λ n. record { wires = n; terms = us }) count ∙ ap (λ xs. record { wires = layer.wires + length ws; terms = xs }) list

pub overflow_add-g : goal.overflow_add-g
overflow_add-g g c = omega (arith, c.loop-i.invariant.0)

pub loop-i-init : goal.loop-i-init
loop-i-init g c = (omega arith, c.in-Ok.ensures.items ∙ c.as_slice.ensures ∙ sym (append-nil c.args.layer.now.terms))

pub returns : goal.returns
returns g c =
    every g.F.Field.ops c.args.layer.now c.args.wires.now c.loop-i.i c.loop-i.g c.loop-i.terms.items c.new.result c.loop-i.auto.i-end c.loop-i-test.false c.loop-i.invariant.0 c.loop-i.invariant.1 c.new.ensures

pub loop-i-preserved : goal.loop-i-preserved
loop-i-preserved g c =
    let o = g.F.Field.ops in
    let layer = c.args.layer.now in
    let ws = c.args.wires.now in
    let i = c.loop-i.i in
    let inv = c.loop-i.invariant in
    let before = assertions o layer.wires (take i ws) in
    let f : ℕ → List (Term _) = λ k. record { g = k; a = 0; b = get_or ws i 0; coef = o.zero } ∷ [] in (
      omega (arith, inv.0),
      c.in-Ok-push.ensures ∙ ap (λ x. c.loop-i.terms.items ++ record { g = c.loop-i.g; a = 0; b = get_or ws i 0; coef = x } ∷ []) c.zero.ensures ∙ ap (λ xs. xs ++ f c.loop-i.g) inv.1 ∙ append_assoc layer.terms before (f c.loop-i.g) ∙ ap (λ k. layer.terms ++ (before ++ f k)) inv.0
          ∙ ap (λ us. layer.terms ++ us) (sym (assertions-more o layer.wires ws i 0 c.loop-i-test.true)),
    )
