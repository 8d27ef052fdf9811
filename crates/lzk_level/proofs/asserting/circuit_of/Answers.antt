use Rattle.lzk_level.proofs.asserting.circuit_of.Goals as goal

pub unreachable-requires : goal.unreachable-requires
unreachable-requires g c = absurd (c.in-Err.ensures.valid c.requires)

pub unreachable-unreachable : goal.unreachable-unreachable
unreachable-unreachable g c = absurd (c.in-Err.ensures.valid c.requires)
