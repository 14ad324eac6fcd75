use Rattle.std.proofs.Common.{◌≤◌}
use Rattle.demo.proofs.day.Day.first.Given as goal

abbrev pub invariant-loop-report : goal.invariant-loop-report
invariant-loop-report l = l.valid ≤ l.report-index
