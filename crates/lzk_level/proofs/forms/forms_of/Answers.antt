use Rattle.std.proofs.Common.{◌≡◌, ◌<◌, ◌+◌, length, refl, sym, subst, arith, ◌∙◌, ap, [], ◌∷◌, ◌++◌}
use Rattle.lzk_circuit_reduce.specs.Renumbering.{at}
use Rattle.lzk_level.specs.Forms.{IsNext, IsNodeForm}
use Rattle.lzk_level.proofs.FormSteps.{next-is, more-forms, no-forms, all-forms}
use Rattle.std.proofs.lemmas.Result.{IfOk-from_err}
use Rattle.lzk_level.proofs.forms.forms_of.Goals as goal

pub invariant_of-next : goal.invariant_of-next
invariant_of-next g c =
    let o = g.F.Field.ops in
    let inputs = c.args.inputs in
    let made = c.args.made.now in
    let depths = c.args.depths.now in
    let i = c.loop-i.i in
    let depth = at depths (inputs + i) in
    let starts = c.loop-i.starts.items in
    let terms = c.loop-i.terms.items in
    let there : i < length made = omega (arith, c.loop-i-test.true, c.len-count.ensures) in
    let own : IsNext o inputs made depths starts terms i depth = next-is o inputs made depths i depth starts terms c.requires there refl c.loop-i.invariant.so_far in
    record {
      next = subst (λ ts. IsNext o inputs made depths c.deref-in-loop-i.result.now ts i depth) (sym c.deref.ensures.value)
          (subst (λ ns. IsNext o inputs made depths ns terms i depth) (sym c.deref-in-loop-i.ensures.value) own);
    }

pub loop-i-preserved : goal.loop-i-preserved
loop-i-preserved g c =
    let o = g.F.Field.ops in
    let inputs = c.args.inputs in
    let made = c.args.made.now in
    let depths = c.args.depths.now in
    let i = c.loop-i.i in
    let row = c.deref-in-loop-i-2.result.now in
    let new = c.extend_from_slice.new.self.items in
    let end = c.len-end.result in
    let count : end ≡ length new = omega (arith, c.len-end.ensures) in
    let form = subst (IsNodeForm o inputs made depths (inputs + i)) (sym c.deref-in-loop-i-2.ensures.value) c.in_ok-fill_form.ensures in
    record {
      so_far = more-forms o inputs made depths i end c.loop-i.starts.items c.push_reserved-in-loop-i.new.self.items c.loop-i.terms.items new row c.in_ok-extend_from_slice.ensures.items count c.push_reserved-in-loop-i.ensures.items form c.loop-i.invariant.so_far;
      room = omega (arith, c.loop-i.invariant.room, c.push_reserved-in-loop-i.ensures.capacity);
    }

pub returns-in_err-terms : goal.returns-in_err-terms
returns-in_err-terms g c = IfOk-from_err _ _ c.from_residual.ensures.0

pub returns-in_err-starts : goal.returns-in_err-starts
returns-in_err-starts g c = IfOk-from_err _ _ c.from_residual-in_err-starts.ensures.0

pub push_reserved-requires : goal.push_reserved-requires
push_reserved-requires g c = omega (arith, c.in_ok-starts.ensures.len, c.in_ok-starts.ensures.capacity)

pub loop-i-init : goal.loop-i-init
loop-i-init g c =
    record {
      so_far = no-forms g.F.Field.ops c.args.inputs c.args.made.now c.args.depths.now c.push_reserved.new.self.items c.in_ok-terms.terms.items (c.push_reserved.ensures.items ∙ ap (λ ns. ns ++ 0 ∷ []) c.in_ok-starts.ensures.items) c.in_ok-terms.ensures.items;
      room = omega (arith, c.in_ok-starts.ensures.capacity, c.push_reserved.ensures.capacity, c.len-count.ensures);
    }

pub overflow_add-next : goal.overflow_add-next
overflow_add-next g c = omega (arith, c.loop-i-test.true, c.len-count.ensures, c.requires.few, c.requires.depths_are.count)

pub offset_bounds-depths-inputs : goal.offset_bounds-depths-inputs
offset_bounds-depths-inputs g c = omega (arith, c.loop-i-test.true, c.len-count.ensures, c.requires.few, c.requires.depths_are.count)

pub bounds-depths-inputs : goal.bounds-depths-inputs
bounds-depths-inputs g c = omega (arith, c.loop-i-test.true, c.len-count.ensures, c.requires.depths_are.count)

pub returns-in_err-fill_form : goal.returns-in_err-fill_form
returns-in_err-fill_form g c = IfOk-from_err _ _ c.from_residual-in_err-fill_form.ensures.0

pub returns-in_err-extend_from_slice : goal.returns-in_err-extend_from_slice
returns-in_err-extend_from_slice g c = IfOk-from_err _ _ c.from_residual-in_err-extend_from_slice.ensures.0

pub overflow_cast-end : goal.overflow_cast-end
overflow_cast-end g c = omega (arith, c.if-end-gt-MOST_TERMS.false, c.len-end.ensures)

pub push_reserved-requires-in-loop-i : goal.push_reserved-requires-in-loop-i
push_reserved-requires-in-loop-i g c = omega (arith, c.loop-i.invariant.so_far.count, c.loop-i.invariant.room, c.loop-i-test.true, c.len-count.ensures, c.loop-i.starts.ok.0)

pub invariant_of-result : goal.invariant_of-result
invariant_of-result g c = record { pieces = c.loop-i.invariant.so_far.pieces }

pub returns : goal.returns
returns g c =
    let made = c.args.made.now in
    let starts = c.loop-i.starts.items in
    let terms = c.loop-i.terms.items in
    let so_far = c.loop-i.invariant.so_far in
    let all : c.loop-i.i ≡ length made = omega (arith, c.loop-i-test.false, c.loop-i.auto.i-end, c.len-count.ensures) in
    all-forms g.F.Field.ops c.args.inputs made c.args.depths.now c.loop-i.i starts terms all so_far
