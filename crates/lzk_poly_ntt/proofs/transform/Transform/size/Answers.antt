use Rattle.std.proofs.Common.{rules, ◌≡◌, ℕ, ◌*◌, ◌%◌, ◌^◌, ◌≤◌, arith, sym, subst}
use Rattle.std.proofs.Math.Pow.{pow_mono}
use Rattle.std.proofs.lemmas.Nat.{one_shl}
use Rattle.lzk_poly_ntt.specs.Transform.{IsPrincipal}
use Rattle.lzk_poly_ntt.proofs.Principal.{root-principal}
use Rattle.lzk_poly_ntt.proofs.transform.Transform.size.Goals as goal

pub returns-clause-few : goal.returns-clause-few
returns-clause-few g c =
    let bits = c.self.inside.bits in
    let few : 2 ^ bits ≤ 2 ^ 20 = pow_mono {i = bits} {j = 20} c.self.invariant.0 in
    omega (arith, few, one_shl bits 64 (omega (arith, c.self.invariant.0)))

pub returns-clause-principal : goal.returns-clause-principal
returns-clause-principal g c =
    let o = g.F.Field.ops in
    let d = c.args.self.now in
    let inside = c.self.inside in
    let same_bits : inside.bits ≡ d.bits = search rules in
    let same_root : inside.root ≡ d.root = search rules in
    let size : 2 ^ inside.bits ≡ (1 * 2 ^ inside.bits) % 18446744073709551616 = sym (one_shl inside.bits 64 (omega (arith, c.self.invariant.0))) in
    subst (λ (n : ℕ). IsPrincipal o n d.root) size
    (subst (IsPrincipal o (2 ^ inside.bits)) same_root (root-principal o g.F.Field.laws.ring inside.bits inside.root c.self.invariant.1))
