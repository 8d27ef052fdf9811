use Rattle.std.proofs.Common.{◌∙◌, ℕ, List, length, ap, subst, sym, refl}
use Rattle.std.specs.Prelude.{None}
use Rattle.std.proofs.lemmas.List.{take_at}
use Rattle.lzk_circuit.specs.declared.layer.Term.{Term}
use Rattle.lzk_circuit.specs.Valid.{ArePlaced}
use Rattle.lzk_circuit.proofs.eval.eval_list.Goals as goal

pub eval_layer-requires-after_bounds : goal.eval_layer-requires-after_bounds
eval_layer-requires-after_bounds g c κs within =
    let wide = ap length c.deref_mut.ensures.value ∙ c.requires.room in
    subst (λ (ts : List (Term _)). ArePlaced (length c.deref_mut.result.now) (length c.deref.result.now) None ts) (sym c.as_slice.ensures)
    (subst (λ (n : ℕ). ArePlaced n (length c.deref.result.now) None c.args.layer.now.terms) (sym wide)
    (subst (λ (xs : List _). ArePlaced c.args.layer.now.wires (length xs) None c.args.layer.now.terms) (sym c.deref.ensures.value) c.requires.terms))

pub returns : goal.returns
returns g c =
    let wide = ap length c.deref_mut.ensures.value ∙ c.requires.room in
    take_at c.eval_layer.new.out _ c.args.out.now.len (c.eval_layer.auto.out ∙ ap length c.deref_mut.ensures.value ∙ sym c.args.out.now.ok.0) ∙ c.eval_layer.ensures ∙ rw (c.as_slice.ensures, c.deref.ensures.value, wide) refl
