use Rattle.std.proofs.Common.{◌≡◌, length, sym, ap, ◌∙◌, slice_get}
use Rattle.std.proofs.lemmas.List.{with_items_is}
use Rattle.lzk_sumcheck.proofs.replaying.replay_list.Goals as goal

pub replay_layers-requires-clause-messages : goal.replay_layers-requires-clause-messages
replay_layers-requires-clause-messages g c κs within = c.requires.messages

pub replay_layers-requires-clause-depth : goal.replay_layers-requires-clause-depth
replay_layers-requires-clause-depth g c κs within = ap length (c.deref_mut.ensures.value ∙ c.layers.view_is) ∙ c.requires.depth

pub returns-clause-scripts : goal.returns-clause-scripts
returns-clause-scripts g c =
    let list = c.layers.inside.list in
    let new = c.replay_layers.new.layers in
    let size : length new ≡ list.len = c.replay_layers.auto.layers ∙ ap length c.deref_mut.ensures.value ∙ sym list.ok.0 in
    with_items_is list new size ∙ c.replay_layers.ensures.scripts

pub returns-clause-after : goal.returns-clause-after
returns-clause-after g c = c.replay_layers.ensures.after

pub replay_layers-requires-clause-bits : goal.replay_layers-requires-clause-bits
replay_layers-requires-clause-bits g c κs within = λ l layer is. c.requires.bits l layer (ap (λ xs. slice_get xs l) (sym (c.deref_mut.ensures.value ∙ c.layers.view_is)) ∙ is)
