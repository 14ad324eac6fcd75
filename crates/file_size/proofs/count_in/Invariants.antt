-- `file_size::count_in` meets its contract. Assumes nothing.
use mathlib.Core.Path.{◌≡◌}
use mathlib.Core.List.{[]}
use lib.ListN.{take, drop}
use Rattle.file_size.specs.Steps.{run_of, numbers_in, Holding}
use Rattle.file_size.proofs.count_in.Given as goal

abbrev pub invariant-loop-i : goal.invariant-loop-i
invariant-loop-i l = Holding l.most l.keys l.counts l.n × (run_of l.most [] [] (numbers_in l.total l.list) ≡ run_of l.most (take l.n l.keys) (take l.n l.counts) (drop l.i (numbers_in l.total l.list)))
