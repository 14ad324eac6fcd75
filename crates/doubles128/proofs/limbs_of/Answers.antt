-- `doubles128::limbs_of` meets its contract. Assumes nothing.
use Rattle.std.proofs.Common.{T, sym, ap, ◌∙◌, subst}
use Rattle.doubles128.specs.Steps.{limbs_of}
use Rattle.doubles128.proofs.Scaled.{Scaled, scaled}
use Rattle.doubles128.proofs.limbs_of.Lts as lts
use Rattle.doubles128.proofs.limbs_of.Reads as reads
use Rattle.doubles128.proofs.limbs_of.Tie as tie
use Rattle.doubles128.proofs.limbs_of.Goals as goal

abbrev Start : Type 0
Start = lts.Start tie.the-claims reads.Pre reads.Post tie.handed_clauses

-- what owning an `f64` tells: the format holds it
known : (c : Start) → Scaled c.args.x c.args.scale c.args.frac_bits
known c = scaled c.args.x c.args.scale c.args.frac_bits (subst T (sym c.well_formed.0.1) tt) c.requires.fact_1 c.requires.fact_2

pub floor_limbs-requires : goal.floor_limbs-requires
floor_limbs-requires c = (known c).within

pub returns : goal.returns
returns c = c.floor_limbs.ensures ∙ ap limbs_of (known c.before).floor
