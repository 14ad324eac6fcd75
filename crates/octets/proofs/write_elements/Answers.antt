-- `octets::write_elements` meets its contract. Assumes nothing.
use mathlib.Core.Path.{refl}
use native.Mathlib.Omega.{arith}
use Rattle.octets.proofs.Pasted.{elements_start, elements_written, elements_end}
use borrow.Author.Rules.{rules}
use Rattle.octets.proofs.write_elements.Goals as goal

pub loop-i-init : goal.loop-i-init
loop-i-init c = (refl, elements_start c.args.elements.now c.args.row.now)

pub loop-i-preserved : goal.loop-i-preserved
loop-i-preserved c =
    (search rules, elements_written c.args.elements.now c.args.row.now c.loop-i.row _ c.loop-i.i (omega arith) c.requires c.loop-i.invariant.1 c.write_element.ensures)

pub returns : goal.returns
returns c =
    elements_end c.args.elements.now c.args.row.now c.loop-i.row c.loop-i.i c.requires (omega arith) c.loop-i.invariant.1
