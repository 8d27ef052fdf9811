use Rattle.lzk_soundness.proofs.WorkedLaws.Bluff.{plain_bluff, asserting_bluff}
use Rattle.lzk_layout.proofs.SizeLaws.{params_bounded}
use Rattle.lzk_soundness.specs.Count.Game.{whole_count}
use Rattle.lzk_soundness.specs.Worked.Zeros.{zero_draws, half_table}
use Rattle.lzk_soundness.proofs.WorkedLaws.Zeros.{zeros_replicate}
use Rattle.lzk_soundness.proofs.WorkedLaws.Passing.{zeros_passed}
use Rattle.lzk_soundness.proofs.WorkedLaws.FarTables.{half_far, half_masks}
use Rattle.lzk_soundness.proofs.WorkedLaws.Example.{cheats_pass, some_cheat}
use Rattle.lzk_soundness.proofs.worked.worked_laws.Goals as goal

pub returns-clause-zeros : goal.returns-clause-zeros
returns-clause-zeros g k = let m = g.F.Field in λ c public table columns valid masks.
    zeros_passed m.ops m.coding m.laws c (params_bounded m.ops c valid) public table masks (zero_draws m.ops c) (zeros_replicate m.ops (whole_count c)) columns

pub returns-clause-far : goal.returns-clause-far
returns-clause-far g k = let m = g.F.Field in λ c public columns valid.
    let b = params_bounded m.ops c valid in (
      half_far m.ops m.coding m.laws c b,
      zeros_passed m.ops m.coding m.laws c b public (half_table m.ops c) (half_masks m.ops m.coding m.laws c b) (zero_draws m.ops c) (zeros_replicate m.ops (whole_count c)) columns,
    )

pub returns-clause-cheats : goal.returns-clause-cheats
returns-clause-cheats g k = let m = g.F.Field in cheats_pass m.ops m.coding m.laws

pub returns-clause-some : goal.returns-clause-some
returns-clause-some g k = let m = g.F.Field in some_cheat m.ops m.coding m.laws

pub returns-clause-bluff : goal.returns-clause-bluff
returns-clause-bluff g c = let m = g.F.Field in plain_bluff m.ops m.coding m.laws

pub returns-clause-asserting : goal.returns-clause-asserting
returns-clause-asserting g c = let m = g.F.Field in asserting_bluff m.ops m.coding m.laws
