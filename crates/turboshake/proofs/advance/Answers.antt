-- `turboshake::advance` meets its contract. Assumes nothing.
use mathlib.Core.Path.{sym, ap, ◌∙◌}
use mathlib.Core.List.{List}
use Prim.Native.Nat.{ℕ, ◌+◌, ◌<◌}
use native.Mathlib.Omega.{arith}
use Rattle.turboshake.specs.Stream.{sponge}
use Rattle.turboshake.proofs.Moved.{moved_full, moved_part}
use Rattle.turboshake.proofs.advance.Goals as goal

pub returns-then-next-eq-RATE : goal.returns-then-next-eq-RATE
returns-then-next-eq-RATE c =
    (ap (λ (ws : List ℕ). sponge ws 0) c.permute.ensures ∙ sym (moved_full c.args.n c.args.at c.args.lanes.now (omega arith)), omega arith)

pub returns : goal.returns
returns c =
    let part : c.args.at + c.args.n < 168 = omega arith in
    (sym (moved_part c.args.n c.args.at c.args.lanes.now part), part)
