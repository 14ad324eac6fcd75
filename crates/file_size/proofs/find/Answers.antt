-- `file_size::find` meets its contract. Assumes nothing.
use mathlib.Core.Path.{sym}
use Prim.Native.Nat.{◌+◌, ◌-◌, ◌/◌}
use native.Mathlib.Omega.{arith}
use lib.ListN.{take}
use lib.Seq.{length-take-le, get_or-take}
use Rattle.entries.proofs.Searching.{between_start, between_up, between_down, between_end}
use Rattle.file_size.proofs.find.Goals as goal

pub loop-low-init : goal.loop-low-init
loop-low-init c = (omega arith, between_start c.args.key (take c.args.n c.args.keys.now) c.args.n (length-take-le c.args.n c.args.keys.now c.requires.0))

pub loop-low-preserved-then-keys-middle : goal.loop-low-preserved-then-keys-middle
loop-low-preserved-then-keys-middle c =
    let m = c.loop-low.low + (c.loop-low.high - c.loop-low.low) / 2 in
    (c.loop-low.invariant.0, between_up c.args.key (take c.args.n c.args.keys.now) c.requires.1 c.loop-low.low c.loop-low.high m c.loop-low.invariant.1 (omega arith) (omega arith) _ (sym (get_or-take c.args.n c.args.keys.now m 0 (omega arith))) c.if-keys-middle.true)

pub loop-low-preserved : goal.loop-low-preserved
loop-low-preserved c =
    let m = c.loop-low.low + (c.loop-low.high - c.loop-low.low) / 2 in
    (omega arith, between_down c.args.key (take c.args.n c.args.keys.now) c.requires.1 c.loop-low.low c.loop-low.high m c.loop-low.invariant.1 (omega arith) (omega arith) _ (sym (get_or-take c.args.n c.args.keys.now m 0 (omega arith))) c.if-keys-middle.false)

pub returns : goal.returns
returns c = sym (between_end c.args.key (take c.args.n c.args.keys.now) c.loop-low.low c.loop-low.high c.loop-low.invariant.1 c.loop-low-test.false).0
