-- `parts::checked_part` meets its contract. Assumes nothing.
use mathlib.Core.Path.{refl}
use Rattle.pine.specs.declared.record.Pine.{Pine}
use Rattle.pine.specs.Record.{pine_of}
use Rattle.flp.specs.Circuits.{checked_part_of, checked_part}
use Rattle.parts.proofs.Cuts.{checked_ends}
use Rattle.parts.proofs.Places.{cut_is, inside}
use Rattle.parts.proofs.checked_part.Goals as goal

pub checked-requires : goal.checked-requires
unfolding pine_of
checked-requires c =
    let a = c.args in
    inside a.param a.full.now (λ (r : Pine). r.dimension) (λ (r : Pine). r.bit_checked_len) refl refl _ c.check_into-pine.ensures (checked_ends a.param)

pub returns : goal.returns
unfolding checked_part_of checked_part pine_of
returns c =
    let a = c.args in
    cut_is a.param a.full.now (λ (r : Pine). r.dimension) (λ (r : Pine). r.bit_checked_len) refl refl _ c.check_into-pine.ensures _ c.checked.ensures
