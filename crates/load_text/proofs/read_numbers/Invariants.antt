-- `load_text::read_numbers` meets its contract. Assumes nothing.
use Rattle.load_text.specs.Text.{load_limits}
use Rattle.load_text.proofs.Lines.{Reading}
use Rattle.load_text.proofs.read_numbers.Given as goal

-- the row has the numbers of the first k lines, and the rest of the text begins at `at`
abbrev pub invariant-loop-k : goal.invariant-loop-k
invariant-loop-k l = Reading load_limits l.text l.row l.at l.k
