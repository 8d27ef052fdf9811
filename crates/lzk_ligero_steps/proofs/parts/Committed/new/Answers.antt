use Rattle.std.proofs.Common.{◌≡◌, length, arith}
use Rattle.lzk_ligero_tableau.specs.Table.{IsTableOf}
use Rattle.lzk_ligero_steps.proofs.Together.{made}
use Rattle.lzk_ligero_steps.proofs.parts.Committed.new.Goals as goal

pub new-requires-2-clause-some : goal.new-requires-2-clause-some
new-requires-2-clause-some g c = let b = c.args.plan.now.bounded in omega (arith, b.mcol, b.block, b.wide)

pub new-requires-2-clause-most : goal.new-requires-2-clause-most
new-requires-2-clause-most g c = let b = c.args.plan.now.bounded in omega (arith, b.columns, b.ncol)

pub returns : goal.returns
returns g c =
    let plan = c.args.plan.now in
    let tableau = c.in_ok-tableau.ensures.first in
    record {
      tableau = made c.new.result _ (IsTableOf plan.circuit.now) tableau c.new.ensures.made;
      room = made c.new.result _ (λ t. t.room ≡ c.args.room) tableau c.new.ensures.room;
      leaves = made c.new-2.result _ (λ t. length t.leaves ≡ plan.params.mcol) c.in_ok-tableau.ensures.second c.new-2.ensures.count;
    }
