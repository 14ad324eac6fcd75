-- `vdaf128::unshard` meets its contract. Assumes nothing.
use Rattle.pine.proofs.Sizes.{scale_is}
use Rattle.params128.specs.Field128.{Field128}
use Rattle.params128.proofs.Limits.{derivable_128}
use Rattle.vdaf.proofs.Effects.{unshard_refused, unshard_met, unshard_done}
use Rattle.vdaf128.proofs.Verdicts.{sums_met, sizes_passed}
use Rattle.vdaf128.proofs.unshard.Goals as goal

pub returns-then-answer-ne0 : goal.returns-then-answer-ne0
returns-then-answer-ne0 c = unshard_refused Field128 _ _ _ _ _ c.check_unshard-answer.ensures c.if-answer-ne0.true

pub new-pine-requires : goal.new-pine-requires
new-pine-requires c = derivable_128 (unshard_met Field128 _ _ _ _ _ c.check_unshard-answer.ensures c.if-answer-ne0.false).0.param

pub decode_sums-requires : goal.decode_sums-requires
decode_sums-requires c =
    let e = c.check_unshard-answer.ensures in
    let m = sums_met c.args.param c.args.left.now c.args.right.now c.args.decoded.now (unshard_met Field128 _ _ _ _ _ e c.if-answer-ne0.false) in
    record {
      left_len = m.0;
      below = m.1;
      right_value = sizes_passed c.args.param c.args.left.now c.args.right.now c.args.decoded.now _ e c.if-answer-ne0.false;
      scale_value = scale_is _ _ c.new-pine.ensures;
    }

pub returns : goal.returns
returns c =
    unshard_done Field128 _ _ _ _ _ c.check_unshard-answer.ensures c.if-answer-ne0.false _ c.new-pine.ensures _ c.decode_sums.ensures
