use Rattle.std.proofs.Common.{List, length, sym, subst, ap, ◌∙◌}
use Rattle.std.specs.Prelude.{IfOk}
use Rattle.lzk_circuit.specs.Checks.{IsSatisfied}
use Rattle.lzk_circuit.specs.Wires.{inputs_of}
use Rattle.lzk_goldilocks.specs.Elements.{number, ops}
use Rattle.lzk_goldilocks.specs.declared.element.Gold.{Gold as GoldElement}
use Rattle.lzk_demo.specs.Demo.{demo_private, demo_public}
use Rattle.lzk_verify.specs.declared.verdict.Verdict.TheVariants.{Accepted}
use Rattle.lzk_cmd_prove.specs.Demo.{HasVerdict}
use Rattle.lzk_cmd_prove.specs.Proved.{gold_word}
use Rattle.lzk_cmd_verify.specs.Verified.{gold_coding}
use Rattle.lzk_cmd_prove.proofs.DemoCounts.{length_private}
use Rattle.std.proofs.lemmas.Result.{IfOk-from_err}
use Rattle.lzk_cmd_prove.proofs.demos.prove_own_inputs.Goals as goal

pub invariant_of-given : goal.invariant_of-given
invariant_of-given g c =
    let demo = c.args.demo.now in
    let circuit = demo.circuit.now in
    let public = c.as_slice.ensures.value ∙ c.in_ok-inputs.ensures.public in
    let private = c.as_slice-2.ensures.value ∙ c.in_ok-inputs.ensures.private in
    record {
      publics_fit = ap length public ∙ sym demo.publics;
      privates_fit = ap length private ∙ length_private ops demo.n ∙ sym demo.privates;
      satisfied =
          subst (λ (ps : List GoldElement). IsSatisfied ops number circuit.layers (inputs_of ops ps c.as_slice-2.result.now)) (sym public)
          (subst (λ (qs : List GoldElement). IsSatisfied ops number circuit.layers (inputs_of ops (demo_public ops demo.n) qs)) (sym private) demo.satisfied);
    }

pub returns : goal.returns
returns g c =
    let demo = c.args.demo.now in
    let circuit = demo.circuit.now in
    let public = c.as_slice.ensures.value ∙ c.in_ok-inputs.ensures.public in
    let private = c.as_slice-2.ensures.value ∙ c.in_ok-inputs.ensures.private in
    let len = c.prove_demo-len.result in
    subst (λ (ps : List GoldElement). IfOk len (λ n. HasVerdict ops gold_coding circuit ps (demo_private ops demo.n) (gold_word c.args.by.seed) n Accepted)) public
    (subst (λ (qs : List GoldElement). IfOk len (λ n. HasVerdict ops gold_coding circuit c.as_slice.result.now qs (gold_word c.args.by.seed) n Accepted)) private c.prove_demo-len.ensures)

pub demo_inputs-requires : goal.demo_inputs-requires
demo_inputs-requires g c = c.args.demo.now.some

pub returns-in_err-inputs : goal.returns-in_err-inputs
returns-in_err-inputs g c = IfOk-from_err _ _ c.from_residual.ensures.0
