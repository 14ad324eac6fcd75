-- `turboshake::Sponge::skip` meets its contract. The invariant: the bytes that are still to be skipped, from the block's first on. Assumes nothing.
use mathlib.Core.Path.{◌≡◌, sym, ap, ◌∙◌}
use mathlib.Core.List.{List}
use Prim.Native.Nat.{ℕ, ◌+◌, ◌-◌, ◌*◌, ◌%◌, ◌<◌}
use native.Mathlib.Omega.{arith}
use Rattle.turboshake.specs.Stream.{sponge, after}
use Rattle.turboshake.proofs.Drawn.{skip_start, skip_block, skip_end}
use Rattle.turboshake.proofs.Sponge.skip.Goals as goal

pub loop-preserved : goal.loop-preserved
loop-preserved c =
    let l = c.loop in
    let left = c.args.self.at + c.args.n - 168 * l.counter in
    let next : c.args.self.at + c.args.n - 168 * (l.counter + 1) ≡ left - 168 = omega arith in
    ap (λ (n : ℕ). after n (sponge c.permute.new.lanes 0)) next ∙ ap (λ (ws : List ℕ). after (left - 168) (sponge ws 0)) c.permute.ensures ∙ sym (skip_block left l.lanes (omega arith)) ∙ l.invariant

pub returns : goal.returns
returns c =
    let l = c.loop in
    let place = c.args.self.at + c.args.n in
    let h : place % 168 < 168 = omega arith in
    let rest : place % 168 ≡ place - 168 * l.counter = omega arith in
    let whole : place - 168 * 0 ≡ place = omega arith in
    (sym (skip_end (place % 168) l.lanes h) ∙ ap (λ (n : ℕ). after n (sponge l.lanes 0)) rest ∙ l.invariant ∙ ap (λ (n : ℕ). after n (sponge c.args.self.lanes 0)) whole ∙ sym (skip_start c.args.n c.args.self.at c.args.self.lanes c.requires.0), h)
