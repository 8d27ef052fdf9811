-- The prime field: one and one are not zero, and its points are even.
use Rattle.std.specs.Prelude.{◌≡◌, ◌≢◌, ℕ}
use Rattle.std.proofs.Common.{sym, ap, arith}
use Rattle.std.proofs.Math.Nat.{mod-add-mod}
use Rattle.lzk_goldilocks.specs.declared.element.Gold.{Gold}
use Rattle.lzk_goldilocks.specs.Prime.{p}
use Rattle.lzk_goldilocks.specs.Elements.{of_number, ops, laws, Gold-ext}
use Rattle.lzk_poly.specs.Weights.{IsEven}
use Rattle.lzk_poly.proofs.Inverses.{even_from_ones}

pub two : ops.plus ops.one ops.one ≢ ops.zero
two e = let none : 2 ≡ 0 = ap (λ (x : Gold). x.n) e in omega (arith, none)

pub even : (upto : ℕ) → IsEven ops of_number upto
even upto = even_from_ones laws upto (λ i h. Gold-ext _ _ (sym (mod-add-mod i p 1)))
