-- `vdaf128::check_unshard` meets its contract. Assumes nothing.
use Rattle.params128.specs.Field128.{Field128}
use Rattle.vdaf.proofs.Verdicts.{unshard_stopped}
use Rattle.vdaf128.proofs.Verdicts.{rows_ready, elements_refused, rows_met, sizes_answer}
use Rattle.vdaf128.proofs.check_unshard.Goals as goal

pub returns-then-lens-ne0 : goal.returns-then-lens-ne0
returns-then-lens-ne0 c = unshard_stopped Field128 _ _ _ _ _ c.check_lens-lens.ensures c.if-lens-ne0.true

pub returns-then-elements-ne0 : goal.returns-then-elements-ne0
returns-then-elements-ne0 c =
    elements_refused _ _ _ _ _ c.check_lens-lens.ensures c.if-lens-ne0.false _ _ c.check_len-decoded_len.ensures c.or_elements-elements.ensures c.if-elements-ne0.true

pub check_sizes-requires : goal.check_sizes-requires
check_sizes-requires c =
    let r = rows_ready c.args.param c.args.left.now c.args.right.now (rows_met c.args.param c.args.left.now c.args.right.now c.args.decoded.now _ c.check_lens-lens.ensures c.if-lens-ne0.false _ _ c.check_len-decoded_len.ensures c.or_elements-elements.ensures c.if-elements-ne0.false) in
    record {
      left_len = r.0.1;
      below = r.1;
    }

pub returns : goal.returns
returns c =
    sizes_answer _ _ _ _ _ c.check_lens-lens.ensures c.if-lens-ne0.false _ _ c.check_len-decoded_len.ensures c.or_elements-elements.ensures c.if-elements-ne0.false _ c.check_sizes.ensures
