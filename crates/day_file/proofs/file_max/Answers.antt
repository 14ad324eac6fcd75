-- `day_file::file_max` meets its contract. Assumes nothing.
use native.Mathlib.Omega.{arith}
use borrow.Author.Tests.{eq-eqb, ne_eqb}
use Rattle.day_file.specs.Calls.{max_of}
use Rattle.day_file.proofs.Verdicts.{dimension_limits}
use Rattle.day_file.proofs.file_max.Goals as goal

pub returns-then-answer-ne0 : goal.returns-then-answer-ne0
unfolding max_of
returns-then-answer-ne0 c = simp (← c.check_param-answer.ensures, ne_eqb _ _ c.if-answer-ne0.true)

pub file_len-requires : goal.file_len-requires
file_len-requires c = ((dimension_limits c.args.param _ c.check_param-answer.ensures c.if-answer-ne0.false).1, omega arith)

pub returns : goal.returns
unfolding max_of
returns c = simp (← c.check_param-answer.ensures, eq-eqb _ _ c.if-answer-ne0.false, ← c.at_most_1024-entries.ensures, ← c.file_len.ensures)
