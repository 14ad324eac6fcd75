-- `byte_columns::plus_last` meets its contract. Assumes nothing.
use Prim.Native.Nat.{◌+◌, ◌*◌}
use native.Mathlib.Omega.{arith}
use lib.ListN.{length}
use Rattle.byte_columns.specs.ByteColumns.{Summed}
use Rattle.byte_columns.proofs.Straight.{summed_as, first_pair, second_pair, third_pair}
use Rattle.byte_columns.proofs.plus_last.Lts as lts
use Rattle.byte_columns.proofs.plus_last.Reads as reads
use Rattle.byte_columns.proofs.plus_last.Tie as tie
use Rattle.byte_columns.proofs.plus_last.Goals as goal

abbrev After-plus_pair-one : Type 0
After-plus_pair-one = lts.After-plus_pair tie.the-claims reads.Pre reads.Post tie.handed_clauses

abbrev After-plus_pair-two : Type 0
After-plus_pair-two = lts.After-plus_pair2 tie.the-claims reads.Pre reads.Post tie.handed_clauses

-- the sum after the first, and after the second
one : (c : After-plus_pair-one) → Summed c.args.xs.now c.args.bytes.now (4 * c.args.j + 1) c.plus_pair-one.result
one c =
    first_pair c.args.xs.now c.args.bytes.now c.requires.below.1.1.1.1 c.args.j _ _ c.requires.below.1.0 c.requires.summed c.plus_pair-one.ensures

two : (c : After-plus_pair-two) → Summed c.args.xs.now c.args.bytes.now (4 * c.args.j + 2) c.plus_pair-two.result
two c =
    second_pair c.args.xs.now c.args.bytes.now c.requires.below.1.1.1.1 c.args.j _ _ c.if-xs-k.false (one c.before.before) c.plus_pair-two.ensures

pub returns-then-xs-k : goal.returns-then-xs-k
returns-then-xs-k c =
    summed_as c.args.xs.now c.args.bytes.now c.requires.below.1.1.1.1 (4 * c.args.j + 1) (length c.args.xs.now) _ (omega (arith, c.requires.below.1, c.if-xs-k.true)) (one c.before.before)

pub returns-then-xs-k-2 : goal.returns-then-xs-k-2
returns-then-xs-k-2 c =
    summed_as c.args.xs.now c.args.bytes.now c.requires.below.1.1.1.1 (4 * c.args.j + 2) (length c.args.xs.now) _ (omega (arith, c.requires.below.1, c.if-xs-k-2.true, c.if-xs-k.false)) (two c.before.before)

pub returns : goal.returns
returns c =
    summed_as c.args.xs.now c.args.bytes.now c.requires.below.1.1.1.1 (4 * c.args.j + 3) (length c.args.xs.now) _ (omega (arith, c.requires.below.1, c.if-xs-k-2.false)) (third_pair c.args.xs.now c.args.bytes.now c.requires.below.1.1.1.1 c.args.j _ _ c.if-xs-k-2.false (two c.before.before.before) c.plus_pair.ensures)
