-- `doubles::near_floor` meets its contract: 3 * 2 ^ 51 is given in MIR by its bit pattern. Assumes nothing.
use Rattle.std.proofs.Common.{◌≡◌, ◌+◌, ◌∙◌, arith, lit<, rules}
use lib.Ieee.{of_bits}
use Rattle.doubles.proofs.Near.{Near, known, base, floor_lt, word_is}
use Rattle.doubles.proofs.near_floor.Lts as lts
use Rattle.doubles.proofs.near_floor.Reads as reads
use Rattle.doubles.proofs.near_floor.Tie as tie
use Rattle.doubles.proofs.near_floor.Goals as goal
use Rattle.doubles.proofs.near_floor.Goals.{then-w-y, else-w-y}

abbrev Start : Type 0
Start = lts.Start tie.the-claims reads.Pre reads.Post tie.handed_clauses

abbrev Joined-w-y : Type 0
Joined-w-y = lts.Joined1 tie.the-claims reads.Pre reads.Post tie.handed_clauses

at_start : (c : Start) → Near c.args.w
at_start c = known c.args.w c.requires

pub float_to_bits-bits : goal.float_to_bits-bits
unfolding of_bits
float_to_bits-bits c = (at_start c).number

pub overflow_sub-floor : goal.overflow_sub-floor
unfolding of_bits
overflow_sub-floor c = omega (arith, (at_start c.before).above c.if-w-y.true)

floor_is : (c : Joined-w-y) → c.if-w-y.floor ≡ base + (at_start c.before).floor
unfolding of_bits
floor_is c =
    elim c.if-w-y.branch [
      | then-w-y w ↦ omega (arith, (at_start c.before).above w.if-w-y.true, w.floor-is)
      | else-w-y w ↦ w.floor-is ∙ (at_start c.before).level w.if-w-y.false
    ]

pub returns : goal.returns
returns c =
    word_is c.wrapping_sub_u64.result _ (at_start c.before.before).floor (search rules) (floor_lt _ c.args.w (lit< tt)) (c.wrapping_sub_u64.ensures.value ∙ floor_is c.before) (at_start c.before.before).is
