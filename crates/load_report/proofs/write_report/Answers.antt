-- `load_report::write_report` meets its contract. Assumes nothing.
use Prim.Native.Nat.{◌≤◌}
use native.Mathlib.Omega.{arith}
use lib.ListN.{length}
use Rattle.load_report.proofs.Reported.{words_long, out_long, report_refused, report_written}
use Rattle.load_report.proofs.write_report.Lts as lts
use Rattle.load_report.proofs.write_report.Reads as reads
use Rattle.load_report.proofs.write_report.Tie as tie
use Rattle.load_report.proofs.write_report.Goals as goal

abbrev After-write_words_for-n : Type 0
After-write_words_for-n = lts.After-write_words_for tie.the-claims reads.Pre reads.Post

-- the words are within their row
words_fit : (c : After-write_words_for-n) → c.write_words_for-n.result ≤ length c.write_words_for-n.new.row
words_fit c = omega (arith, c.write_words_for-n.ensures.1, c.write_words_for-n.auto.row)

pub returns-then-answer-ne0 : goal.returns-then-answer-ne0
returns-then-answer-ne0 c =
    report_refused c.args.text.now c.write_words_for-n.new.row c.write_words_for-n.result (words_fit c.before.before.before.before.before) c.write_words_for-n.ensures.0 c.args.out.now _ c.check_len-answer.ensures c.if-answer-ne0.true

pub slice_bounds-put_elements-end : goal.slice_bounds-put_elements-end
slice_bounds-put_elements-end c =
    words_long c.args.text.now _ _ (words_fit c.before.before.before.before.before.before.before) c.write_words_for-n.ensures.0

pub put_elements-requires : goal.put_elements-requires
put_elements-requires c =
    let l = words_long c.args.text.now c.write_words_for-n.new.row c.write_words_for-n.result (words_fit c.before.before.before.before.before.before.before) c.write_words_for-n.ensures.0 in
    let o = out_long c.args.text.now c.write_words_for-n.new.row c.write_words_for-n.result (words_fit c.before.before.before.before.before.before.before) c.write_words_for-n.ensures.0 c.args.out.now _ c.check_len-answer.ensures c.if-answer-ne0.false in
    omega arith

pub returns : goal.returns
returns c =
    report_written c.args.text.now c.write_words_for-n.new.row c.write_words_for-n.result (words_fit c.before.before.before.before.before.before.before.before.before.before) c.write_words_for-n.ensures.0 c.args.out.now _ c.check_len-answer.ensures _ c.if-answer-ne0.false c.put_elements.ensures.0
