-- `measurement::write_elements` meets its contract. Assumes nothing.
use mathlib.Core.Path.{◌∙◌}
use native.Mathlib.Omega.{arith}
use lib.ListN.{length-set}
use lib.Ieee.{nan}
use Rattle.doubles.specs.Doubles.{floor_limit64}
use Rattle.measurement.proofs.Usable.{usable_at}
use Rattle.measurement.proofs.Elements.{one_more, all_written}
use Rattle.measurement.proofs.write_elements.Goals as goal

pub element_of-requires : goal.element_of-requires
element_of-requires c =
    record {
      fact_1 = usable_at floor_limit64 c.args.frac_bits nan c.args.gradient.now c.requires.usable c.loop-k.k (omega (arith, c.requires.row_len));
      fact_2 = c.requires.scale_value;
    }

pub loop-k-preserved : goal.loop-k-preserved
loop-k-preserved c =
    (length-set c.loop-k.row c.loop-k.k c.element_of.result ∙ c.loop-k.invariant.0, one_more c.args.frac_bits c.args.gradient.now c.args.row.now c.requires.row_len c.loop-k.row c.loop-k.k c.element_of.result c.loop-k.invariant.1 (omega arith) c.element_of.ensures)

pub returns : goal.returns
returns c =
    all_written c.args.frac_bits c.args.gradient.now c.args.row.now c.requires.row_len c.loop-k.row c.loop-k.k c.loop-k.invariant.1 (omega arith)
