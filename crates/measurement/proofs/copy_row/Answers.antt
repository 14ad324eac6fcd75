-- `measurement::copy_row` meets its contract. Assumes nothing.
use mathlib.Core.Path.{◌≡◌, refl, sym, ◌∙◌}
use mathlib.Core.List.{List}
use Prim.Native.Nat.{ℕ, ◌+◌, ◌<◌}
use native.Mathlib.Omega.{arith}
use borrow.Author.Rules.{rules}
use lib.ListN.{length, get_or, set, length-set}
use Rattle.rows.proofs.Walk.{walked_next, walked_end}
use Rattle.measurement.proofs.copy_row.Invariants.{Inv}
use Rattle.measurement.proofs.copy_row.Goals as goal

turn : (r d a : List ℕ) (i : ℕ) → length d ≡ length r → Inv r d a i → i < length a → Inv r d (set a i (get_or r i 0)) (i + 1)
turn r d a i same inv h = (omega arith, length-set a i (get_or r i 0) ∙ inv.1, rw inv.2 (walked_next 0 r d i (get_or r i 0) (sym same) (omega arith) refl))

pub loop-i-init : goal.loop-i-init
loop-i-init c = (search rules, refl, refl)

pub loop-i-preserved : goal.loop-i-preserved
loop-i-preserved c =
    turn c.args.from.now c.args.to.now c.loop-i.to c.loop-i.i c.requires c.loop-i.invariant (omega arith)

pub shape_of-to : goal.shape_of-to
shape_of-to c = c.loop-i.invariant.1

pub returns : goal.returns
returns c =
    c.loop-i.invariant.2 ∙ walked_end _ _ c.loop-i.i (sym c.requires) (omega arith)
