use Rattle.std.proofs.Common.{subst}
use Rattle.lzk_circuit.specs.Valid.{Wiring}
use Rattle.lzk_goldilocks.specs.Elements.{ops}
use Rattle.lzk_cmd_verify.specs.Verified.{gold_coding}
use Rattle.lzk_verify.specs.Verdict.{IsOnlyVerdict, IsVerdict}
use Rattle.lzk_credential_run.proofs.judging.judge.Goals as goal

pub returns-clause-verdict : goal.returns-clause-verdict
returns-clause-verdict c = subst (λ (w : Wiring _). IsVerdict ops gold_coding w c.args.session.now c.args.publics.now c.args.bytes.now c.verify-verdict.result) c.in_ok-desk.ensures.circuit c.verify-verdict.ensures.verdict

pub returns-clause-one : goal.returns-clause-one
returns-clause-one c = subst (λ (w : Wiring _). IsOnlyVerdict ops gold_coding w c.args.session.now c.args.publics.now c.args.bytes.now c.verify-verdict.result) c.in_ok-desk.ensures.circuit c.verify-verdict.ensures.one
