-- `load_text::digits_from` meets its contract. Assumes nothing.
use mathlib.Core.Path.{◌≡◌}
use Prim.Native.Nat.{◌≤◌}
use lib.ListN.{drop}
use Rattle.load_text.specs.Text.{digits_from}
use Rattle.load_text.proofs.digits_from.Given as goal

-- the digits up to i are those of n
abbrev pub invariant-loop-i : goal.invariant-loop-i
invariant-loop-i l = (l.n ≤ l.most) × (digits_from l.first (drop l.at l.text) ≡ digits_from l.n (drop l.i l.text))
