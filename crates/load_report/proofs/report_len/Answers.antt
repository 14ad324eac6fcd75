-- `load_report::report_len` meets its contract. Assumes nothing.
use native.Mathlib.Omega.{arith}
use Rattle.load_report.proofs.Reported.{bytes_long}
use Rattle.load_report.proofs.report_len.Goals as goal

pub returns : goal.returns
returns c =
    let w = c.write_words_for in
    (bytes_long c.args.text.now w.new.row w.result (omega (arith, w.ensures.1, w.auto.row)) w.ensures.0, omega (arith, w.ensures.1))
