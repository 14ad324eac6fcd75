-- `file_size::is_at` meets its contract. Assumes nothing.
use Rattle.file_size.proofs.Steps.{at_is, at_none}
use Rattle.file_size.proofs.is_at.Goals as goal

pub returns-then-i-n : goal.returns-then-i-n
returns-then-i-n c =
    at_is c.args.keys.now c.args.n c.args.i c.args.key c.requires.0 c.requires.1 c.if-i-n.true

pub returns-else-i-n : goal.returns-else-i-n
returns-else-i-n c =
    at_none c.args.keys.now c.args.n c.args.i c.args.key c.requires.0 c.requires.1 c.if-i-n.false
