use Rattle.std.proofs.Common.{◌≤◌}
use Rattle.demo.proofs.day.Day.second.Given as goal

abbrev pub invariant-loop-report : goal.invariant-loop-report
invariant-loop-report l = l.same ≤ l.report-index
