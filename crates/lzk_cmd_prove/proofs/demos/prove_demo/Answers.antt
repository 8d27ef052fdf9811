use Rattle.lzk_cmd_prove.specs.Proved.{gold_word}
use Rattle.lzk_cmd_prove.proofs.Told.{demo_verdict}
use Rattle.std.proofs.lemmas.Result.{IfOk-from_err}
use Rattle.std.proofs.Common.{ℕ, List, subst}
use Rattle.lzk_goldilocks.specs.Elements.{ops}
use Rattle.lzk_goldilocks.specs.declared.element.Gold.{Gold as GoldElement}
use Rattle.lzk_verify.specs.declared.verdict.Verdict.{Verdict}
use Rattle.lzk_verify.specs.declared.verdict.Verdict.TheVariants.{Accepted}
use Rattle.lzk_cmd_prove.specs.Demo.{HasVerdict}
use Rattle.lzk_cmd_verify.specs.Verified.{gold_coding}
use Rattle.lzk_cmd_prove.proofs.demos.prove_demo.Goals as goal

pub unreachable-requires : goal.unreachable-requires
unreachable-requires g c =
    let given = c.args.given.now in
    let word = gold_word c.gold_words.result.words in
    let len = c.in_ok-len.len in
    let verdict = c.in_ok-len.verdict in
    c.in_default.not-Accepted
    (demo_verdict c.accepted_laws.ensures.accepted given.circuit.now c.valid_laws.ensures given.publics.now given.privates.now (given.publics_fit, given.privates_fit) given.satisfied word len verdict c.in_ok-len.ensures)

pub returns-in_err-len : goal.returns-in_err-len
returns-in_err-len g c = IfOk-from_err _ _ c.from_residual.ensures.0

pub returns : goal.returns
returns g c =
    let k = c.args.given.now in
    let accepted = subst (λ (v : Verdict GoldElement). HasVerdict ops gold_coding k.circuit.now k.publics.now k.privates.now (gold_word c.gold_words.result.words) c.in_ok-len.len v) c.in-Accepted.is c.in_ok-len.ensures in
    subst (λ (seed : List ℕ). HasVerdict ops gold_coding k.circuit.now k.publics.now k.privates.now (gold_word seed) c.in_ok-len.len Accepted) c.gold_words.ensures accepted
