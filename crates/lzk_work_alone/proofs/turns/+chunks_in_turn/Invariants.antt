use Rattle.lzk_work_alone.proofs.turns.+chunks_in_turn.Given as goal

-- proposed from what the function passes where it calls itself
abbrev pub decreases-chunks_in_turn : goal.decreases-chunks_in_turn
decreases-chunks_in_turn g l = l.count
