-- `octets::number2` meets its contract. Assumes nothing.
use native.Mathlib.Omega.{arith}
use Rattle.octets.proofs.Bytes.{of_two}
use Rattle.octets.proofs.number2.Goals as goal

pub returns : goal.returns
returns c = (of_two _ _, omega arith)
