-- `layout::count_of` meets its contract. Assumes nothing.
use native.Mathlib.Omega.{arith}
use Rattle.layout.proofs.Tests.{count_two, count_none}
use Rattle.layout.proofs.count_of.Goals as goal

pub returns-then-file-lt2 : goal.returns-then-file-lt2
returns-then-file-lt2 c = (count_none c.args.file.now c.if-file-lt2.true, omega arith)

pub returns : goal.returns
returns c =
    (count_two c.args.file.now _ (omega arith) c.number2.ensures.0, c.number2.ensures.1)
