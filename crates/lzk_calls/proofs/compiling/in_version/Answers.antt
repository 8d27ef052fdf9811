use Rattle.lzk_calls.proofs.compiling.in_version.Goals as goal

pub returns-in-One-clause-compiled : goal.returns-in-One-clause-compiled
returns-in-One-clause-compiled c = λ source is. rw c.in-One.is (c.compile_code.ensures.circuit source is)

pub returns-in-Two-clause-compiled : goal.returns-in-Two-clause-compiled
returns-in-Two-clause-compiled c = λ source is. rw c.in-Two.is (c.compile_code-in-Two.ensures.circuit source is)
