-- `turboshake::put_next` meets its contract. Assumes nothing.
use mathlib.Core.Path.{sym, ap, ◌∙◌}
use mathlib.Core.List.{List}
use Prim.Native.Nat.{ℕ}
use native.Mathlib.Omega.{arith}
use Rattle.turboshake.specs.Stream.{sponge, absorb_all}
use Rattle.turboshake.proofs.Words.{word_aligned}
use Rattle.turboshake.proofs.put_next.Goals as goal

pub returns-then-left-ge8 : goal.returns-then-left-ge8
returns-then-left-ge8 c =
    let k = c.args.at in
    let ws = c.args.lanes.now in
    ((omega arith, omega arith), (omega arith, sym (word_aligned c.read_lane.result k ws c.read_lane.ensures.1 c.requires.0 (omega arith)) ∙ ap (λ (bs : List ℕ). absorb_all bs (sponge ws k)) c.read_lane.ensures.0))
