-- `doubles128::coordinate_size` meets its contract. Assumes nothing.
use Rattle.std.proofs.Common.{T, nat_abs, sym, ap, ◌∙◌, subst}
use Rattle.doubles128.proofs.Scaled.{Scaled, scaled}
use Rattle.doubles128.proofs.coordinate_size.Lts as lts
use Rattle.doubles128.proofs.coordinate_size.Reads as reads
use Rattle.doubles128.proofs.coordinate_size.Tie as tie
use Rattle.doubles128.proofs.coordinate_size.Goals as goal

abbrev Start : Type 0
Start = lts.Start tie.the-claims reads.Pre reads.Post tie.handed_clauses

-- what owning an `f64` tells: the format holds it
known : (c : Start) → Scaled c.args.x c.args.scale c.args.frac_bits
known c = scaled c.args.x c.args.scale c.args.frac_bits (subst T (sym c.well_formed.0.1) tt) c.requires.fact_1 c.requires.fact_2

pub size_of-requires : goal.size_of-requires
size_of-requires c = (known c).within

pub returns : goal.returns
returns c = c.size_of.ensures ∙ ap nat_abs (known c.before).floor
