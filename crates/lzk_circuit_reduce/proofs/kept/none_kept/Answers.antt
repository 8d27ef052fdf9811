use Rattle.std.proofs.Common.{◌≤◌, refl, sym, subst}
use Rattle.lzk_circuit_reduce.specs.declared.kept.KeptWires.{KeptWires}
use Rattle.lzk_circuit_reduce.proofs.KeptLaws.{none-table, none-kept}
use Rattle.lzk_circuit_reduce.proofs.kept.none_kept.Goals as goal

pub returns-clause-table : goal.returns-clause-table
returns-clause-table g c =
    let kept : KeptWires _ = record { count = 0; terms = c.new.result; starts = c.in-Ok.starts; heads = c.in-Ok-empty_slots.heads; links = c.new-2.result } in
    none-table kept refl c.new.ensures.items c.in-Ok.ensures.items c.new-2.ensures.items (subst (λ n. 1 ≤ n) (sym c.in-Ok-empty_slots.ensures.count) c.requires) c.in-Ok-empty_slots.ensures.none

pub returns-clause-kept : goal.returns-clause-kept
returns-clause-kept g c width =
    let kept : KeptWires _ = record { count = 0; terms = c.new.result; starts = c.in-Ok.starts; heads = c.in-Ok-empty_slots.heads; links = c.new-2.result } in
    none-kept kept refl c.new.ensures.items g.F.Field.ops g.F.Field.coding.number width

pub returns-clause-count : goal.returns-clause-count
returns-clause-count g c = refl

pub returns-clause-terms : goal.returns-clause-terms
returns-clause-terms g c = c.new.ensures.items
