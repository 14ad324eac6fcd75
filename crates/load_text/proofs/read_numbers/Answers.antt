-- `load_text::read_numbers` meets its contract. Assumes nothing.
use Rattle.load_text.specs.Text.{load_limits}
use Rattle.load_text.proofs.Lines.{reading_other, reading_next, reading_done}
use Rattle.load_text.proofs.read_numbers.Goals as goal

pub returns-in_default : goal.returns-in_default
returns-in_default c =
    reading_other load_limits c.args.text.now c.loop-k.row c.loop-k.at c.loop-k.k c.loop-k.invariant c.loop-k-test.true _ c.first_line.ensures c.in_default.is

pub loop-k-preserved : goal.loop-k-preserved
loop-k-preserved c =
    reading_next load_limits c.args.text.now c.loop-k.row c.loop-k.at c.loop-k.k c.loop-k.invariant c.loop-k-test.true _ c.first_line.ensures _ c.in-Some.is

pub returns : goal.returns
returns c =
    reading_done load_limits c.args.text.now c.loop-k.row c.loop-k.at c.loop-k.k c.loop-k.invariant c.loop-k-test.false
