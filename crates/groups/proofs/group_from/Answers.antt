-- `groups::group_from` meets its contract. Assumes nothing.
use mathlib.Core.Path.{◌≡◌}
use Prim.Native.Nat.{ℕ, ◌+◌, ◌*◌, min}
use Rattle.groups.specs.declared.Group.{Group}
use Rattle.groups.specs.Groups.{group_from}
use Rattle.groups.proofs.group_from.Goals as goal

pub returns : goal.returns
returns c =
    made _ _ _ _ _ _ _ c.at_most-end.ensures c.at_most.ensures c.at_most-2.ensures
  where
    made : (j width per d end first last : ℕ) → end ≡ min (j + width) per → first ≡ min (4 * j) d → last ≡ min (4 * end) d → ◌≡◌ {A = Group} (record { end = end; first = first; last = last }) (group_from j width per d)
    made j width per d end first last e f l = rw (l, f, e)
