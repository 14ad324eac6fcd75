-- `xof::fill` meets its contract. Assumes nothing.
use mathlib.Core.Path.{ap, ◌∙◌}
use Prim.Native.Nat.{ℕ}
use lib.ListN.{length, get_or}
use mir.Syntax.{w8}
use mir.Val.{Fits}
use Rattle.turboshake.specs.Stream.{drawn}
use Rattle.turboshake.proofs.Shake.{bytes_all}
use Rattle.xof.proofs.Frame.{drawn_is}
use borrow.Author.Rules.{rules}
use Rattle.xof.proofs.fill.Goals as goal

pub returns : goal.returns
returns c =
    let seed = c.args.seed in
    let binder = c.args.binder.now in
    let n = length c.args.out.now in
    let fits : (j : ℕ) → Fits w8 (get_or seed j 0) = λ j. search rules in
    c.fill.ensures.0 ∙ ap (drawn n) c.seed_stream.ensures.0
    ∙ drawn_is seed c.args.usage binder n (bytes_all seed (λ j h. (fits j).fits)) (bytes_all binder (λ j h. (c.shared_slice_known-1.given j).fits))
