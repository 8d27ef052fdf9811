use Rattle.lzk_sumcheck_prover.proofs.proving.prove_layers.Goals as goal

pub invariant_of-crew : goal.invariant_of-crew
invariant_of-crew g c = record { some = c.requires.some_workers; few = c.requires.few_workers }

pub invariant_of-on : goal.invariant_of-on
invariant_of-on g c = record { widths = c.requires.values; count = c.requires.pads }

pub prove_assigned-requires-clause-room : goal.prove_assigned-requires-clause-room
prove_assigned-requires-clause-room g c κs within = c.requires.room

pub prove_assigned-requires-clause-messages : goal.prove_assigned-requires-clause-messages
prove_assigned-requires-clause-messages g c κs within = c.requires.messages

pub prove_assigned-requires-clause-shape : goal.prove_assigned-requires-clause-shape
prove_assigned-requires-clause-shape g c κs within = c.requires.shape

pub returns-clause-messages : goal.returns-clause-messages
returns-clause-messages g c = c.prove_assigned.ensures.messages

pub returns-clause-script : goal.returns-clause-script
returns-clause-script g c = c.prove_assigned.ensures.script

pub returns-clause-tape : goal.returns-clause-tape
returns-clause-tape g c = c.prove_assigned.ensures.tape

pub returns-clause-shape : goal.returns-clause-shape
returns-clause-shape g c = c.prove_assigned.ensures.shape

pub returns-clause-room : goal.returns-clause-room
returns-clause-room g c = c.prove_assigned.ensures.room

pub returns-clause-bounds : goal.returns-clause-bounds
returns-clause-bounds g c = c.prove_assigned.ensures.bounds
