-- `parts::locate_checked` meets its contract. Assumes nothing.
use mathlib.Core.Path.{refl}
use Rattle.pine.specs.declared.record.Pine.{Pine}
use Rattle.pine.specs.Record.{pine_of}
use Rattle.flp.specs.Circuits.{checked_part_of, checked_part}
use Rattle.parts.proofs.Places.{located}
use Rattle.parts.proofs.locate_checked.Goals as goal

pub returns : goal.returns
unfolding checked_part_of checked_part pine_of
returns c =
    let a = c.args in
    let both = located a.param a.full.now (λ (r : Pine). r.dimension) (λ (r : Pine). r.bit_checked_len) refl refl _ c.check_part-verdict.ensures in
    record {
      value = both.0;
      full_value = both.1;
    }
