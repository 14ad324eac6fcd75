-- `columns128::run_limbs` meets its contract. Assumes nothing.
use mathlib.Core.Path.{sym, ap, ◌∙◌}
use lib.ListN.{length}
use lib.Dec.{leb}
use Rattle.field128.specs.Field128.{elements_of, words_of}
use Rattle.flp.proofs.Tests.{results_below}
use Rattle.limbs.specs.Limbs.{limbs, modulus_for}
use Rattle.limbs.proofs.Joined.{enough}
use Rattle.columns128.proofs.Sums.{positive, below_by, limbs_joined}
use Rattle.columns128.proofs.run_limbs.Goals as goal

pub join_rows-requires-clause-below : goal.join_rows-requires-clause-below
join_rows-requires-clause-below c =
    let r = c.run_groups in
    let T = length c.args.low.now in
    let xs = elements_of c.args.gradient.now in
    let m = ap modulus_for (sym r.auto.low) in (
      below_by _ _ r.new.low m (results_below _ (positive T) c.args.per T c.args.stream.now (limbs 0 xs) r.new.low r.ensures.low_after),
      (below_by _ _ r.new.middle m (results_below _ (positive T) c.args.per T c.args.stream.now (limbs 1 xs) r.new.middle r.ensures.middle_after), below_by _ _ r.new.high m (results_below _ (positive T) c.args.per T c.args.stream.now (limbs 2 xs) r.new.high r.ensures.high_after)),
    )

pub returns : goal.returns
returns c =
    let r = c.run_groups in
    let j = c.join_rows in
    j.ensures ∙ ap words_of (limbs_joined _ _ (ap modulus_for r.auto.low) (enough (leb (length c.args.low.now) 2)) c.args.per _ _ c.args.stream.now (elements_of c.args.gradient.now) _ _ _ c.requires.same_length.0 c.requires.whole.1 c.requires.per_in_bounds.1.0 c.requires.per_in_bounds.1.1 r.ensures.low_after r.ensures.middle_after r.ensures.high_after)
