-- `octets::read_elements` meets its contract. Assumes nothing.
use mathlib.Core.Path.{sym, ◌∙◌}
use native.Mathlib.Omega.{arith}
use lib.ListN.{length}
use Rattle.rows.proofs.Walk.{walked_end, walking_next}
use Rattle.octets.specs.Octets.{elements_in}
use Rattle.octets.proofs.Bytes.{length-elements_in, elements_in_at}
use Rattle.octets.proofs.read_elements.Goals as goal

pub loop-i-preserved : goal.loop-i-preserved
loop-i-preserved c =
    let n = length c.args.row.now in
    let at = c.loop-i.i in
    walking_next 0 (elements_in n c.args.bytes.now) _ c.loop-i.row at _ (length-elements_in n c.args.bytes.now) c.loop-i.invariant (omega arith) (c.element_at.ensures ∙ sym (elements_in_at n c.args.bytes.now at (omega arith)))

pub returns : goal.returns
returns c =
    c.loop-i.invariant.2 ∙ walked_end _ _ c.loop-i.i (length-elements_in (length c.args.row.now) c.args.bytes.now) (omega arith)
