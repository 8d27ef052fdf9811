use Rattle.lzk_cmd_files.proofs.print.conclude.Goals as goal

pub returns-in-Ok-clause-quiet : goal.returns-in-Ok-clause-quiet
returns-in-Ok-clause-quiet g c = c.print_ending.ensures.quiet

pub returns-in-Err-End-clause-quiet : goal.returns-in-Err-End-clause-quiet
returns-in-Err-End-clause-quiet g c = c.print_ending-in-Err-End.ensures.quiet
