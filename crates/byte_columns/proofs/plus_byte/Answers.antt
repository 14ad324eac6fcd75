-- `byte_columns::plus_byte` meets its contract. Assumes nothing.
use Prim.Native.Nat.{◌+◌, ◌*◌}
use native.Mathlib.Omega.{arith}
use Rattle.byte_columns.specs.ByteColumns.{Summed}
use Rattle.byte_columns.proofs.Straight.{first_pair, second_pair, third_pair, fourth_pair}
use Rattle.byte_columns.proofs.plus_byte.Lts as lts
use Rattle.byte_columns.proofs.plus_byte.Reads as reads
use Rattle.byte_columns.proofs.plus_byte.Tie as tie
use Rattle.byte_columns.proofs.plus_byte.Goals as goal

abbrev After-plus_pair-one : Type 0
After-plus_pair-one = lts.After-plus_pair tie.the-claims reads.Pre reads.Post tie.handed_clauses

abbrev After-plus_pair-two : Type 0
After-plus_pair-two = lts.After-plus_pair2 tie.the-claims reads.Pre reads.Post tie.handed_clauses

abbrev After-plus_pair-three : Type 0
After-plus_pair-three = lts.After-plus_pair3 tie.the-claims reads.Pre reads.Post tie.handed_clauses

-- the sum after each of the first three
one : (c : After-plus_pair-one) → Summed c.args.xs.now c.args.bytes.now (4 * c.args.j + 1) c.plus_pair-one.result
one c =
    first_pair c.args.xs.now c.args.bytes.now c.requires.below.1.1.1 c.args.j _ _ (omega (arith, c.requires.below.1)) c.requires.summed c.plus_pair-one.ensures

two : (c : After-plus_pair-two) → Summed c.args.xs.now c.args.bytes.now (4 * c.args.j + 2) c.plus_pair-two.result
two c =
    second_pair c.args.xs.now c.args.bytes.now c.requires.below.1.1.1 c.args.j _ _ (omega (arith, c.requires.below.1)) (one c.before) c.plus_pair-two.ensures

three : (c : After-plus_pair-three) → Summed c.args.xs.now c.args.bytes.now (4 * c.args.j + 3) c.plus_pair-three.result
three c =
    third_pair c.args.xs.now c.args.bytes.now c.requires.below.1.1.1 c.args.j _ _ (omega (arith, c.requires.below.1)) (two c.before) c.plus_pair-three.ensures

pub returns : goal.returns
returns c =
    fourth_pair c.args.xs.now c.args.bytes.now c.requires.below.1.1.1 c.args.j _ _ (omega (arith, c.requires.below.1)) (three c.before.before) c.plus_pair.ensures
