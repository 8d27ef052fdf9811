use Rattle.std.proofs.Common.{◌≡◌, ◌⊎◌, ◌≤◌, ℕ, zero, suc, inl, inr, arith, map, reverse, ap, sym, ◌∙◌, subst, refl, Ok, List}
use Rattle.lzk_circuit.specs.Valid.{Wiring, wiring_of, IsValid}
use Rattle.lzk_circbytes.specs.Numbered.{Shape, shape, numbered_layer, numbered}
use Rattle.lzk_circbytes.proofs.Bodies.{wiring_done, turned, bytes_fit}
use Rattle.lzk_circbytes.proofs.FileLaws.{valid_from_read}
use Rattle.lzk_circbytes.proofs.ReadSteps.{not_if_ok}
use Rattle.lzk_circbytes.proofs.decoding.circuit_of.Goals as goal

one_or_two : (n : ℕ) → 1 ≤ n → n ≤ 2 → (n ≡ 1) ⊎ (n ≡ 2)
one_or_two zero h k = absurd (omega (arith, h))
one_or_two (suc zero) h k = inl refl
one_or_two (suc (suc zero)) h k = inr refl
one_or_two (suc (suc (suc n))) h k = absurd (omega (arith, k))

pub of_valid-requires-clause-layers : goal.of_valid-requires-clause-layers
of_valid-requires-clause-layers g c κs within =
    let s : Shape = shape g.F.Field.coding.id g.F.Field.coding.bytes g.F.Field.coding.size in
    let number = g.F.Field.coding.number in
    let publics = c.in_ok-publics.publics in
    let privates = c.in_ok-privates.privates in
    let layers = c.in_ok-layers.layers.items in
    let back = c.reverse.new.self.items in
    let read = wiring_done s c.args.version.number publics privates c.in_ok-depth.depth c.in_ok-count.count c.args.bytes.now c.in_ok-publics.rest.now c.in_ok-privates.rest.now c.in_ok-depth.rest.now c.in_ok-count.rest.now (map (numbered_layer number) layers)
    c.in_ok-publics.ensures.value c.in_ok-privates.ensures.value c.in_ok-depth.ensures.value c.in_ok-count.ensures.value c.in_ok-layers.ensures in
    let read' = turned number s c.args.version.number publics privates c.args.bytes.now layers (reverse layers) refl read in
    let valid = valid_from_read g.F.Field.ops g.F.Field.coding.size number g.F.Field.coding.element g.F.Field.coding.bytes g.F.Field.laws g.F.Field.coding.id c.args.version.number publics privates layers c.args.bytes.now (one_or_two c.args.version.number c.args.version.some c.args.version.few) (bytes_fit c.args.bytes.now c.type_inv.bytes) read' in
    subst (λ (ls : List _). IsValid g.F.Field.ops (wiring_of c.args.version.number publics privates ls)) (sym c.reverse.ensures.items) valid

pub returns-clause-value : goal.returns-clause-value
returns-clause-value g c =
    let s : Shape = shape g.F.Field.coding.id g.F.Field.coding.bytes g.F.Field.coding.size in
    let number = g.F.Field.coding.number in
    let publics = c.in_ok-publics.publics in
    let privates = c.in_ok-privates.privates in
    let layers = c.in_ok-layers.layers.items in
    let back = c.reverse.new.self.items in
    let read = wiring_done s c.args.version.number publics privates c.in_ok-depth.depth c.in_ok-count.count c.args.bytes.now c.in_ok-publics.rest.now c.in_ok-privates.rest.now c.in_ok-depth.rest.now c.in_ok-count.rest.now (map (numbered_layer number) layers)
    c.in_ok-publics.ensures.value c.in_ok-privates.ensures.value c.in_ok-depth.ensures.value c.in_ok-count.ensures.value c.in_ok-layers.ensures in
    turned number s c.args.version.number publics privates c.args.bytes.now layers back c.reverse.ensures.items read ∙ ap (λ (w : Wiring _). Ok (numbered number w)) (sym c.of_valid.ensures.circuit)

pub returns-in_err-publics-clause-valid : goal.returns-in_err-publics-clause-valid
returns-in_err-publics-clause-valid g c = not_if_ok _ c.from_residual.result _ c.from_residual.ensures.1

pub returns-in_err-privates-clause-valid : goal.returns-in_err-privates-clause-valid
returns-in_err-privates-clause-valid g c = not_if_ok _ c.from_residual-in_err-privates.result _ c.from_residual-in_err-privates.ensures.1

pub returns-in_err-depth-clause-valid : goal.returns-in_err-depth-clause-valid
returns-in_err-depth-clause-valid g c = not_if_ok _ c.from_residual-in_err-depth.result _ c.from_residual-in_err-depth.ensures.1

pub returns-in_err-count-clause-valid : goal.returns-in_err-count-clause-valid
returns-in_err-count-clause-valid g c = not_if_ok _ c.from_residual-in_err-count.result _ c.from_residual-in_err-count.ensures.1

pub returns-in_err-layers-clause-valid : goal.returns-in_err-layers-clause-valid
returns-in_err-layers-clause-valid g c = not_if_ok _ c.from_residual-in_err-layers.result _ c.from_residual-in_err-layers.ensures.1
