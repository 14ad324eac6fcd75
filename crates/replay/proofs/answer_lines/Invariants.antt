-- The line that is looked at ends no earlier than what was searched. The measure is what is left.
use Rattle.std.proofs.Common.{length, ◌≤◌}
use Rattle.replay.proofs.answer_lines.Given as goal

abbrev pub invariant-loop-end : goal.invariant-loop-end
invariant-loop-end g l = (l.searched ≤ length l.rest) × (length l.rest ≤ length l.bytes)

abbrev pub decreases-loop-end : goal.decreases-loop-end
decreases-loop-end g l = length l.rest
