-- `doubles::far_floor` meets its contract: 3 * 2 ^ 83 is given in MIR by its bit pattern. Assumes nothing.
use Rattle.std.proofs.Common.{ℕ, ◌+◌, ◌*◌, ◌%◌, ◌^◌, T, sym, ap, ◌∙◌, subst}
use lib.Ieee.{binary64, to_bits, of_bits}
use Rattle.doubles.proofs.Raised.{raised}
use Rattle.doubles.proofs.Split.{Split, split}
use Rattle.doubles.proofs.far_floor.Lts as lts
use Rattle.doubles.proofs.far_floor.Reads as reads
use Rattle.doubles.proofs.far_floor.Tie as tie
use Rattle.doubles.proofs.far_floor.Goals as goal

abbrev Start : Type 0
Start = lts.Start tie.the-claims reads.Pre reads.Post tie.handed_clauses

-- what owning an `f64` tells: the format holds it
at_start : (c : Start) → Split c.args.w
at_start c = split c.args.w (subst T (sym c.well_formed.0.1) tt) c.requires

pub near_floor-low-requires : goal.near_floor-low-requires
unfolding of_bits
near_floor-low-requires c = (at_start c).low

pub float_to_bits-y : goal.float_to_bits-y
unfolding of_bits
float_to_bits-y c = (at_start c.before).number

pub returns : goal.returns
unfolding of_bits
returns c =
    c.wrapping_add_u64.ensures.value ∙ ap (λ (n : ℕ). (to_bits binary64 (raised 32 c.args.w) * 2 ^ 32 % 2 ^ 64 + n) % 2 ^ 64) c.near_floor-low.ensures ∙ sym (at_start c.before.before).is
