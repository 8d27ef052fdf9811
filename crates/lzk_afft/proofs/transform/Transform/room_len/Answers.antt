use Rattle.std.proofs.Common.{rules, ◌≡◌, ℕ, ◌*◌, ◌%◌, ◌^◌, sym, ◌∙◌, arith, subst}
use Rattle.std.proofs.lemmas.Nat.{one_shl}
use Rattle.lzk_afft.specs.Blocks.{IsLeastPower}
use Rattle.lzk_afft.proofs.Rooms.{least_power}
use Rattle.lzk_afft.proofs.transform.Transform.room_len.Goals as goal

pub returns-clause-value : goal.returns-clause-value
returns-clause-value c =
    let inv = c.self.invariant in
    let size : 2 ^ c.self.inside.bits ≡ c.args.self.now.room = search rules in
    let power : 1 * 2 ^ c.self.inside.bits % 18446744073709551616 ≡ 2 ^ c.self.inside.bits = one_shl c.self.inside.bits 64 (omega (arith, inv.smaller, inv.few)) in
    power ∙ size

pub returns-clause-least : goal.returns-clause-least
returns-clause-least c =
    let inv = c.self.invariant in
    let from : c.self.inside.count ≡ c.args.self.now.reach.count = search rules in
    let power : 1 * 2 ^ c.self.inside.bits % 18446744073709551616 ≡ 2 ^ c.self.inside.bits = one_shl c.self.inside.bits 64 (omega (arith, inv.smaller, inv.few)) in
    subst (λ (n : ℕ). IsLeastPower n (1 * 2 ^ c.self.inside.bits % 18446744073709551616)) from
    (subst (λ (s : ℕ). IsLeastPower c.self.inside.count s) (sym power) (least_power c.self.inside.count c.self.inside.bits inv.enough inv.least))
