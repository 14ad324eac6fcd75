-- A gradient with no coordinate that is refused. Assumes nothing.
use mathlib.Core.Path.{◌≡◌}
use mathlib.Core.List.{List, [], ◌∷◌}
use Prim.Native.Nat.{ℕ, zero, suc, ◌<◌}
use native.Mathlib.Omega.{arith}
use lib.ListN.{length, get_or}
use lib.Ieee.{Float}
use Rattle.doubles.specs.Doubles.{coordinate_rule}
use Rattle.measurement.specs.Parts.{Usable}

module _ (l f : ℕ) where
  pub usable_at : (z : Float) (xs : List Float) → Usable l f xs → (j : ℕ) → j < length xs → (coordinate_rule l (get_or xs j z) f).number ≡ 0
  usable_at z [] u j h = absurd (omega arith)
  usable_at z (x ∷ xs) u zero h = u.0
  usable_at z (x ∷ xs) u (suc j) h = usable_at z xs u.1 j (omega arith)
