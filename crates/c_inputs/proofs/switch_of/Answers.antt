-- `c_inputs::switch_of` meets its contract. Assumes nothing.
use borrow.Author.Tests.{eq-eqb, ne_eqb}
use Rattle.c_inputs.proofs.switch_of.Goals as goal

pub returns-then-byte-eq0 : goal.returns-then-byte-eq0
returns-then-byte-eq0 c = rw (eq-eqb c.args.byte 0 c.if-byte-eq0.true)

pub returns-else-byte-eq0 : goal.returns-else-byte-eq0
returns-else-byte-eq0 c = rw (ne_eqb c.args.byte 0 c.if-byte-eq0.false)
