-- `entries::keys_rise` meets its contract. Assumes nothing.
use mathlib.Core.Path.{sym, ◌∙◌}
use native.Mathlib.Omega.{arith}
use Rattle.entries.specs.File.{keys_in}
use Rattle.entries.proofs.Rows.{length-keys_in, keys_in_at}
use Rattle.entries.proofs.Searching.{rise_start, rise_next, rise_stops, rise_end, rise_none}
use Rattle.entries.proofs.keys_rise.Goals as goal

pub returns-then-count-eq0 : goal.returns-then-count-eq0
returns-then-count-eq0 c =
    rise_none (keys_in c.args.count c.args.contents.now) (length-keys_in c.args.count c.args.contents.now ∙ c.if-count-eq0.true)

pub loop-i-init : goal.loop-i-init
loop-i-init c =
    let n = c.args.count in
    let k = c.args.contents.now in
    rise_start (keys_in n k) _ (omega (arith, length-keys_in n k)) (c.key_at-last.ensures ∙ sym (keys_in_at n k 0 (omega arith)))

pub returns-then-key-last : goal.returns-then-key-last
returns-then-key-last c =
    let n = c.args.count in
    let k = c.args.contents.now in
    rise_stops (keys_in n k) c.loop-i.i c.loop-i.last _ (omega (arith, length-keys_in n k)) (c.key_at-key.ensures ∙ sym (keys_in_at n k c.loop-i.i (omega arith))) c.if-key-last.true c.loop-i.invariant

pub loop-i-preserved : goal.loop-i-preserved
loop-i-preserved c =
    let n = c.args.count in
    let k = c.args.contents.now in
    rise_next (keys_in n k) c.loop-i.i c.loop-i.last _ (omega (arith, length-keys_in n k)) (c.key_at-key.ensures ∙ sym (keys_in_at n k c.loop-i.i (omega arith))) c.if-key-last.false c.loop-i.invariant

pub returns : goal.returns
returns c =
    let n = c.args.count in
    let k = c.args.contents.now in
    rise_end (keys_in n k) c.loop-i.i c.loop-i.last (omega (arith, length-keys_in n k)) c.loop-i.invariant
