-- `octets::number4` meets its contract. Assumes nothing.
use native.Mathlib.Omega.{arith}
use Rattle.octets.proofs.Bytes.{of_four}
use Rattle.octets.proofs.number4.Goals as goal

pub returns : goal.returns
returns c = (of_four _ _ _ _ _ _ c.number2.ensures.0 c.number2-2.ensures.0, omega arith)
