-- `file_size::count_in` meets its contract. Assumes nothing.
use mathlib.Core.Path.{◌≡◌, sym, ◌∙◌}
use mathlib.Core.List.{List}
use Prim.Native.Nat.{ℕ, ◌+◌, ◌-◌, ◌*◌, ◌/◌, ◌<◌}
use native.Mathlib.Omega.{arith}
use lib.ListN.{length, get_or, take, drop}
use Rattle.entries.specs.File.{key_in}
use Rattle.file_size.specs.Steps.{numbers_in}
use Rattle.file_size.proofs.Steps.{length_numbers, numbers_at, run_next, run_stops, run_end}
use Rattle.file_size.proofs.count_in.Goals as goal

here : (total : ℕ) (bs : List ℕ) (i k : ℕ) → i < total → k ≡ key_in (take (8 * i + 8 - 8 * i) (drop (8 * i) bs)) → k ≡ get_or (numbers_in total bs) i 0
here total bs i k h e =
    let q : 8 * i + 8 - 8 * i ≡ 8 = omega arith in
    e ∙ rw q (sym (numbers_at total bs i h))

pub returns-then-next-ne0 : goal.returns-then-next-ne0
returns-then-next-ne0 c =
    let list = c.args.list.now in
    let t = length list / 8 in
    (run_stops c.args.most (numbers_in t list) c.loop-i.keys c.loop-i.counts c.loop-i.n c.loop-i.i c.key_number-key.result (omega (arith, length_numbers t list, c.before.before.before.before.before.before.before.before.before.before.before.before)) (here t list c.loop-i.i _ (omega (arith, c.before.before.before.before.before.before.before.before.before.before.before.before)) c.key_number-key.ensures) c.loop-i.invariant.1 _ _ _ _ c.take_key-next.ensures c.if-next-ne0.true, omega arith)

pub loop-i-preserved : goal.loop-i-preserved
loop-i-preserved c =
    let list = c.args.list.now in
    let t = length list / 8 in
    let k = c.take_key-next.ensures in
    (k.holding c.if-next-ne0.false, run_next c.args.most (numbers_in t list) c.loop-i.keys c.loop-i.counts c.loop-i.n c.loop-i.i c.key_number-key.result (omega (arith, length_numbers t list, c.before.before.before.before.before.before.before.before.before.before.before.before)) (here t list c.loop-i.i _ (omega (arith, c.before.before.before.before.before.before.before.before.before.before.before.before)) c.key_number-key.ensures) c.loop-i.invariant.1 _ _ _ _ k c.if-next-ne0.false)

pub returns : goal.returns
returns c =
    let list = c.args.list.now in
    let t = length list / 8 in
    (rw c.accepted.ensures (run_end c.args.most (numbers_in t list) c.loop-i.keys c.loop-i.counts c.loop-i.n c.loop-i.i (omega (arith, length_numbers t list)) c.loop-i.invariant.0 c.loop-i.invariant.1), c.loop-i.invariant.0.few)
