-- `rows128::adding::add_elements` meets its contract. Assumes nothing.
use Rattle.rows128.proofs.OneRun.{to_be_parted, added, not_added}
use Rattle.rows128.proofs.adding.add_elements.Goals as goal

pub returns-then-run-n : goal.returns-then-run-n
returns-then-run-n c =
    let e = c.join_rows-run.ensures in
    added c.args.agg.now c.args.share.now c.requires.0 c.requires.1 _ c.join_rows-run.result.done c.join_rows-run.result.below e.agg_after e.done_value e.below_le_done _ c.accepted.ensures c.if-run-n.true

pub part_rows-requires : goal.part_rows-requires
part_rows-requires c =
    let e = c.join_rows-run.ensures in
    to_be_parted c.args.agg.now c.args.share.now c.requires.0 c.requires.1 _ c.join_rows-run.result.done c.join_rows-run.result.below e.agg_after e.done_value e.below_le_done

pub returns : goal.returns
returns c =
    let e = c.join_rows-run.ensures in
    not_added c.args.agg.now c.args.share.now c.requires.0 c.requires.1 _ c.join_rows-run.result.done c.join_rows-run.result.below e.agg_after e.done_value e.below_le_done _ _ _ c.if-run-n.false e.below c.part_rows.ensures c.accepted-2.ensures c.or_elements.ensures
