-- `vdaf::check_unshard` meets its contract. Assumes nothing.
use lib.Dec.{lit<, lit≤}
use Rattle.pine.specs.Param.{Field64}
use Rattle.pine.proofs.Sizes.{derivable_64}
use Rattle.vdaf.proofs.Verdicts.{only_elements, unshard_stopped, lens_met, unshard_verdict}
use Rattle.vdaf.proofs.check_unshard.Goals as goal

pub returns-then-lens-ne0 : goal.returns-then-lens-ne0
returns-then-lens-ne0 c = unshard_stopped Field64 _ _ _ _ _ c.check_lens-lens.ensures c.if-lens-ne0.true

pub new-pine-requires : goal.new-pine-requires
new-pine-requires c =
    derivable_64 (lens_met Field64 _ c.args.left.now c.args.right.now c.args.decoded.now _ c.check_lens-lens.ensures c.if-lens-ne0.false)

pub returns : goal.returns
returns c =
    unshard_verdict Field64 _ _ _ _ _ c.check_lens-lens.ensures c.if-lens-ne0.false _ c.new-pine.ensures _ _ _ c.check_len-decoded_len.ensures (only_elements Field64 c.args.left.now c.args.right.now (lit< tt) (lit≤ tt)) c.or_elements.ensures
