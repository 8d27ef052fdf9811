use Rattle.std.proofs.Common.{◌∙◌, List, sym, subst, refl}
use Rattle.lzk_goldilocks.specs.Prime.{p}
use Rattle.lzk_goldilocks.specs.Elements.{ops, of_number}
use Rattle.lzk_goldilocks.specs.declared.element.Gold.{Gold}
use Rattle.lzk_sha_circuit.specs.Outputs.{AreCompressing}
use Rattle.lzk_sha_circuit.specs.Inputs.{compression_private}
use Rattle.lzk_sha_circuit.proofs.Numbered.{gold_numbered}
use Rattle.lzk_sha_circuit.proofs.Filled.{length-words, private_is, words_are}
use Rattle.lzk_sha_circuit.proofs.Completeness.{compressing}
use Rattle.lzk_sha_circuit.proofs.inputs.compression_inputs.Goals as goal

pub write_rounds-requires : goal.write_rounds-requires
write_rounds-requires c =
    length-words of_number c.args.state c.args.block.now c.deref.result.now _ (c.deref.ensures.value ∙ c.in_ok-words.ensures.words) refl

pub returns : goal.returns
returns c =
    let state = c.args.state in
    let block = c.args.block.now in
    let given = c.args.given.items in
    let e_words = c.deref.ensures.value ∙ c.in_ok-words.ensures.words in
    let v = c.in_ok-variables.variables in
    let public = words_are of_number state block c.deref.result.now v e_words c.in_ok-variables.ensures.variables c.in_ok-public.public.items c.in_ok-public.ensures.words in
    let private = private_is of_number state block c.deref.result.now v e_words c.in_ok-variables.ensures.variables given c.write_schedule.new.bits.items c.write_rounds.new.bits.items c.write_result.new.bits.items
    c.in_ok-words.ensures.bits c.in_ok-variables.ensures.bits c.in_ok-public.ensures.bits in
    record {
      publics = public;
      privates = private;
      satisfying = λ places placed long bits finds.
          subst (λ (l : List Gold). AreCompressing ops of_number places c.in_ok-public.public.items l) (sym private)
          (subst (λ (l : List Gold). AreCompressing ops of_number places l (compression_private of_number given state block)) (sym public)
          (compressing ops of_number p gold_numbered places placed given long bits state block finds));
    }
