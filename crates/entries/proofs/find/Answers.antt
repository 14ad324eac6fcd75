-- `entries::find` meets its contract. Assumes nothing.
use mathlib.Core.Path.{sym, ◌∙◌}
use Prim.Native.Nat.{◌+◌, ◌-◌, ◌/◌}
use native.Mathlib.Omega.{arith}
use Rattle.entries.specs.File.{keys_in}
use Rattle.entries.proofs.Rows.{length-keys_in, keys_in_at}
use Rattle.entries.proofs.Searching.{between_start, between_up, between_down, between_end}
use Rattle.entries.proofs.find.Goals as goal

pub loop-low-init : goal.loop-low-init
loop-low-init c =
    (omega arith, between_start c.args.key (keys_in c.args.count c.args.contents.now) c.args.count (length-keys_in c.args.count c.args.contents.now))

pub loop-low-preserved-then-key_at-key : goal.loop-low-preserved-then-key_at-key
loop-low-preserved-then-key_at-key c =
    let n = c.args.count in
    let k = c.args.contents.now in
    let m = c.loop-low.low + (c.loop-low.high - c.loop-low.low) / 2 in
    (c.loop-low.invariant.0, between_up c.args.key (keys_in n k) c.requires.1 c.loop-low.low c.loop-low.high m c.loop-low.invariant.1 (omega arith) (omega arith) _ (c.key_at.ensures ∙ sym (keys_in_at n k m (omega arith))) c.if-key_at-key.true)

pub loop-low-preserved : goal.loop-low-preserved
loop-low-preserved c =
    let n = c.args.count in
    let k = c.args.contents.now in
    let m = c.loop-low.low + (c.loop-low.high - c.loop-low.low) / 2 in
    (omega arith, between_down c.args.key (keys_in n k) c.requires.1 c.loop-low.low c.loop-low.high m c.loop-low.invariant.1 (omega arith) (omega arith) _ (c.key_at.ensures ∙ sym (keys_in_at n k m (omega arith))) c.if-key_at-key.false)

pub returns : goal.returns
returns c =
    sym (between_end c.args.key (keys_in c.args.count c.args.contents.now) c.loop-low.low c.loop-low.high c.loop-low.invariant.1 c.loop-low-test.false).0
