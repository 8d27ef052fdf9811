use Rattle.std.proofs.Common.{sym, ap, ◌∙◌}
use Rattle.lzk_soundness.proofs.ForgedLaws.Forged.{forgers_win, false_wins}
use Rattle.lzk_soundness.proofs.ForgedLaws.Numbers.{numbering}
use Rattle.lzk_soundness.proofs.forged.forged_laws.Goals as goal

pub returns-clause-win : goal.returns-clause-win
returns-clause-win g c = let m = g.F.Field in λ w start code valid publics masks unknowing apart. forgers_win m.ops m.coding m.laws w start code valid publics masks unknowing apart

pub returns-clause-false_win : goal.returns-clause-false_win
returns-clause-false_win g c = let m = g.F.Field in false_wins m.ops m.coding m.laws

pub returns-clause-numbers : goal.returns-clause-numbers
returns-clause-numbers g c = let m = g.F.Field in numbering m.coding.number (λ x y same. sym (m.laws.numbers.element_number x) ∙ ap m.coding.element same ∙ m.laws.numbers.element_number y)
