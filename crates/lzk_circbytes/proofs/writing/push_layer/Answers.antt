use Rattle.std.proofs.Common.{◌∙◌, ◌++◌, List, length, map, None, ap, sym, subst, arith}
use Rattle.std.specs.Int.{w32, to_le_bytes}
use Rattle.std.proofs.lemmas.List.{length-map}
use Rattle.std.proofs.lemmas.Result.{on_ok_weaker}
use Rattle.lzk_circuit.specs.declared.layer.Term.{Term}
use Rattle.lzk_circbytes.specs.Numbered.{numbered_term, numbered_layer}
use Rattle.lzk_circbytes.specs.Reading.{as_before}
use Rattle.lzk_circbytes.specs.Spelling.{spells, term_bytes}
use Rattle.lzk_circbytes.specs.Fits.{CanWriteAll}
use Rattle.lzk_circbytes.specs.Answers.{under}
use Rattle.lzk_circbytes.proofs.Written.{layer_written}
use Rattle.lzk_circbytes.proofs.writing.push_layer.Goals as goal

pub overflow_cast-terms : goal.overflow_cast-terms
overflow_cast-terms g c = omega (arith, ap length c.as_slice-terms.ensures, c.requires.terms)

pub push_terms-requires-clause-fit : goal.push_terms-requires-clause-fit
push_terms-requires-clause-fit g c κs within =
    subst (λ (ts : List (Term _)). CanWriteAll c.args.constants.now.numbers.now (map (numbered_term g.F.Field.coding.number) ts)) (sym c.as_slice-terms.ensures) c.requires.fit

pub returns : goal.returns
returns g c =
    let number = g.F.Field.coding.number in
    let view = numbered_term number in
    let cs = c.args.constants.now.numbers.now in
    let terms = c.args.layer.now.terms in
    let many = ap length c.as_slice-terms.ensures ∙ sym (length-map terms view) in
    let counted = c.in_ok-push_word-2.ensures ∙ ap (λ n. c.push_word.new.out.items ++ to_le_bytes w32 n) many in
    on_ok_weaker c.push_terms.result
    (λ e. layer_written cs (under 0 0 0) (numbered_layer number c.args.layer.now) c.args.out.now.items c.push_word.new.out.items c.push_word-2.new.out.items c.push_terms.new.out.items c.in_ok-push_word.ensures counted
    (e ∙ ap (λ (ts : List (Term _)). c.push_word-2.new.out.items ++ spells as_before (term_bytes cs) None (map view ts)) c.as_slice-terms.ensures))
    c.push_terms.ensures
