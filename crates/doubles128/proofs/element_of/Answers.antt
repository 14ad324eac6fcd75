-- `doubles128::element_of` meets its contract. Assumes nothing.
use Rattle.std.proofs.Common.{T, sym, ap, ◌∙◌, subst}
use Rattle.field128.specs.Field128.{p128}
use Rattle.doubles.specs.Doubles.{mod_p, element}
use Rattle.doubles128.proofs.Scaled.{Scaled, scaled}
use Rattle.doubles128.proofs.element_of.Lts as lts
use Rattle.doubles128.proofs.element_of.Reads as reads
use Rattle.doubles128.proofs.element_of.Tie as tie
use Rattle.doubles128.proofs.element_of.Goals as goal

abbrev Start : Type 0
Start = lts.Start tie.the-claims reads.Pre reads.Post tie.handed_clauses

-- what owning an `f64` tells: the format holds it
known : (c : Start) → Scaled c.args.x c.args.scale c.args.frac_bits
known c = scaled c.args.x c.args.scale c.args.frac_bits (subst T (sym c.well_formed.0.1) tt) c.requires.fact_1 c.requires.fact_2

pub floor_to_field-requires : goal.floor_to_field-requires
floor_to_field-requires c = (known c).within

pub returns : goal.returns
unfolding element
returns c = c.floor_to_field.ensures ∙ ap (mod_p p128) (known c.before).floor
