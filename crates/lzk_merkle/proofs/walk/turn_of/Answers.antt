use Rattle.std.proofs.Common.{ℕ, ◌≡◌, ◌+◌, ◌^◌, ◌≤◌, arith, subst}
use Rattle.std.specs.Prelude.{slice_index}
use native.Mathlib.Decide.{dec_lt}
use Rattle.lzk_merkle.proofs.Levels.{from_shr}
use Rattle.lzk_merkle.proofs.walk.turn_of.Goals as goal

pub returns-then-n-j-ne0-clause-after : goal.returns-then-n-j-ne0-clause-after
returns-then-n-j-ne0-clause-after c p from inside =
    let opening = c.args.opening.now in
    let opened = opening.opened.now in
    let first = c.opened.p in
    let here : 2 ^ c.args.depth ≤ opening.n + slice_index opened first = from_shr (opening.n + slice_index opened first) c.args.depth c.if-n-j-ne0.true in
    elim (dec_lt first p) [
      | yes l ↦ omega (arith, here, opening.are.1.ascending first p l inside)
      | no l ↦ let same : first ≡ p = omega arith in subst (λ (q : ℕ). 2 ^ c.args.depth ≤ opening.n + slice_index opened q) same here
    ]
