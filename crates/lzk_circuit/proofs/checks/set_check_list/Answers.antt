use Rattle.std.proofs.Common.{◌∙◌, List, length, map, ap, sym}
use Rattle.std.specs.Prelude.{Vec}
use Rattle.std.specs.declared.alloc.Global.{Global}
use Rattle.std.proofs.lemmas.List.{take_at}
use Rattle.lzk_circuit.proofs.checks.set_check_list.Goals as goal

pub set_checks-requires-clause-lists : goal.set_checks-requires-clause-lists
set_checks-requires-clause-lists g c κs within =
    let all = c.requires.lists in
    (all.0, all.1, ap (λ (ls : List (Vec _ Global)). map (λ list. list.items) ls) c.deref.ensures.value ∙ all.2)

pub set_checks-requires-clause-room : goal.set_checks-requires-clause-room
set_checks-requires-clause-room g c κs within = ap length c.deref_mut.ensures.value ∙ c.requires.room

pub returns : goal.returns
returns g c = λ inputs e.
    take_at c.set_checks.new.out _ c.args.out.now.len (c.set_checks.auto.out ∙ ap length c.deref_mut.ensures.value ∙ sym c.args.out.now.ok.0)
    ∙ c.set_checks.ensures inputs (ap (λ (ls : List (Vec _ Global)). map (λ list. list.items) ls) c.deref.ensures.value ∙ e)
