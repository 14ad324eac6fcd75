-- `layout::put_header` meets its contract. Assumes nothing.
use native.Mathlib.Omega.{arith}
use Rattle.layout.proofs.Tests.{header_filled}
use Rattle.layout.proofs.put_header.Goals as goal

pub returns : goal.returns
returns c =
    (header_filled c.args.count c.args.dimension c.args.row.now _ _ _ c.put_number-at.ensures.0 c.put_number-at.ensures.1 c.put_number.ensures.0, omega (arith, c.put_number.ensures.1, c.put_number-at.ensures.1))
