use Rattle.std.proofs.Common.{refl, arith}
use Rattle.lzk_policy_inputs.proofs.Claims.{pseudonym_true, equal_true}
use Rattle.lzk_policy_inputs.proofs.check.is_true.Goals as goal

pub returns-in-Equal : goal.returns-in-Equal
returns-in-Equal c =
    equal_true c.args.bytes.now (λ k lt. omega (arith, c.type_inv.bytes k)) c.args.field.now c.requires.field c.args.claim.now c.in-Equal.field-0 c.in-Equal.is c.requires.suits c.args.value.now c.requires.kind
    c.chosen_number-in-Equal.result c.own_number-in-Equal.result c.chosen_number-in-Equal.ensures c.own_number-in-Equal.ensures

pub returns-in-Pseudonym : goal.returns-in-Pseudonym
returns-in-Pseudonym c = (
  λ h. pseudonym_true c.args.bytes.now (λ k lt. omega (arith, c.type_inv.bytes k)) c.args.field.now c.requires.field c.args.claim.now c.in-Pseudonym.field-0 c.in-Pseudonym.is c.requires.suits c.args.value.now c.requires.kind,
  λ h. refl,
)
