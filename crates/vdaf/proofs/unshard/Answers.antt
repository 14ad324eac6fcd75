-- `vdaf::unshard` meets its contract. Assumes nothing.
use mathlib.Core.Path.{sym, ◌∙◌}
use Rattle.pine.specs.Param.{Field64}
use Rattle.pine.proofs.Sizes.{derivable_64, scale_is}
use Rattle.vdaf.proofs.Effects.{unshard_refused, unshard_met, unshard_done}
use Rattle.vdaf.proofs.unshard.Goals as goal

pub returns-then-answer-ne0 : goal.returns-then-answer-ne0
returns-then-answer-ne0 c = unshard_refused Field64 _ _ _ _ _ c.check_unshard-answer.ensures c.if-answer-ne0.true

pub new-pine-requires : goal.new-pine-requires
new-pine-requires c = derivable_64 (unshard_met Field64 _ _ _ _ _ c.check_unshard-answer.ensures c.if-answer-ne0.false).0.param

pub decode_sums-requires : goal.decode_sums-requires
decode_sums-requires c =
    let t = unshard_met Field64 _ _ _ _ _ c.check_unshard-answer.ensures c.if-answer-ne0.false in
    record {
      left_len = (t.0.left_long ∙ sym t.1, t.0.right_long ∙ sym t.1);
      below = (t.0.left_below, t.0.right_below);
      scale_value = scale_is _ _ c.new-pine.ensures;
    }

pub returns : goal.returns
returns c =
    unshard_done Field64 _ _ _ _ _ c.check_unshard-answer.ensures c.if-answer-ne0.false _ c.new-pine.ensures _ c.decode_sums.ensures
