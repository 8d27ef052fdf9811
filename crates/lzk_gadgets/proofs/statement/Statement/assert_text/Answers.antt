use Rattle.std.proofs.Common.{◌≡◌, ◌∙◌, ◌*◌, List, ap, subst, arith, length}
use Rattle.lzk_goldilocks.specs.Elements.{ops, of_number}
use Rattle.lzk_goldilocks.specs.declared.element.Gold.{Gold}
use Rattle.lzk_sha_circuit.proofs.Lookups.{length-message}
use Rattle.lzk_gadgets.specs.Claims.{values, Adds}
use Rattle.lzk_gadgets.proofs.statement.Statement.assert_text.Goals as goal

pub assert_values-requires-clause-count : goal.assert_values-requires-clause-count
assert_values-requires-clause-count c =
    omega (arith, c.requires.count, ap length (c.deref.ensures.value ∙ c.in_ok-wanted.ensures), length-message of_number c.args.text.now)

pub returns : goal.returns
returns c =
    let s = c.args.self.now in
    let bits = c.args.bits.now in
    subst (λ (ws : List Gold). Adds ops (2 * length bits) (length bits) s c.assert_values.new.self (λ p q. values ops s p q bits ≡ ws)) (c.deref.ensures.value ∙ c.in_ok-wanted.ensures) c.in_ok-assert_values.ensures
