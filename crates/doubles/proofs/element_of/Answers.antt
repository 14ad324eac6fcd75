-- `doubles::element_of` meets its contract: the floor of the product by the scale is that of x * 2 ^ f, by the laws of the product. Assumes nothing.
use Rattle.std.proofs.Common.{not, T, sym, ap, ◌∙◌, subst, lit<}
use lib.Ieee.{Float, binary64, fits, mul}
use Rattle.field64.specs.Field.{p64}
use Rattle.doubles.specs.Doubles.{floor_limit64}
use Rattle.doubles.specs.Steps.{floor_mod, within}
use Rattle.doubles.proofs.Accept.{taken, usable_within, product_is_element}
use Rattle.doubles.proofs.element_of.Lts as lts
use Rattle.doubles.proofs.element_of.Reads as reads
use Rattle.doubles.proofs.element_of.Tie as tie
use Rattle.doubles.proofs.element_of.Goals as goal

abbrev Start : Type 0
Start = lts.Start tie.the-claims reads.Pre reads.Post tie.handed_clauses

-- what owning an `f64` tells: the format holds it
held : (c : Start) → T (fits binary64 c.args.x)
held c = subst T (sym c.well_formed.0.1) tt

pub floor_to_field-requires : goal.floor_to_field-requires
floor_to_field-requires c =
    let g = taken floor_limit64 c.args.x c.args.frac_bits c.requires.fact_1 in
    ap (λ (z : Float). within (mul binary64 c.args.x z)) c.requires.fact_2 ∙ usable_within floor_limit64 (lit< tt) c.args.x c.args.frac_bits (held c) g.usable ∙ ap not g.near

pub returns : goal.returns
returns c =
    c.floor_to_field.ensures ∙ ap (λ (z : Float). floor_mod p64 (mul binary64 c.args.x z)) c.requires.fact_2
    ∙ product_is_element p64 floor_limit64 (lit< tt) c.args.x c.args.frac_bits (held c.before) (taken floor_limit64 c.args.x c.args.frac_bits c.requires.fact_1)
