use Rattle.std.proofs.Common.{Err, refl, sym, ◌∙◌}
use Rattle.lzk_cmd_files.specs.declared.ending.Halt.{Halt}
use Rattle.lzk_cmd_files.specs.declared.ending.Halt.TheVariants as halts
use Rattle.lzk_cmd_files.specs.Walks.{Decodes}
use Rattle.lzk_cmd_files.proofs.Steps.{handed_on}
use Rattle.lzk_policy.specs.Policies.{Contents}
use Rattle.lzk_credential_run.specs.Files.{Amiss, Refused, kind_files, policy_files}
use Rattle.lzk_credential_run.proofs.policies.kind_of.Goals as goal

pub returns-in_err-policy : goal.returns-in_err-policy
returns-in_err-policy c =
    handed_on (Decodes {R = Contents} (kind_files c.args.count) (λ p. p) c.args.name.now c.args.text.now) _ c.in_err-policy.field-0.0 c.from_residual.ensures.1 (unfit c.in_err-policy.field-0.0 c.in_err-policy.ensures)
  where
    unfit : (h : Halt) → Decodes {R = Contents} policy_files (λ p. p) c.args.name.now c.args.text.now (Err h) → Decodes {R = Contents} (kind_files c.args.count) (λ p. p) c.args.name.now c.args.text.now (Err h)
    unfit halts.Memory given = tt
    unfit (halts.End e) given = (Refused given.0, given.1, given.2)

pub returns : goal.returns
returns c =
    (Amiss c.is_sealed.result, (c.in_ok-policy.policy, c.in_ok-policy.ensures.0, c.in_ok-policy.ensures.1, sym c.is_sealed.ensures, (λ e. c.if-beside_count-count.false (c.beside_count.ensures ∙ e))), record { status = refl; text = sym c.in_ok-text.ensures })
