-- `layout::both_below` meets its contract. Assumes nothing.
use mathlib.Core.Path.{◌≡◌, sym, ◌∙◌}
use mathlib.Core.List.{List}
use Prim.Native.Nat.{ℕ, ◌+◌, ◌-◌, ◌*◌, ◌<◌}
use native.Mathlib.Omega.{arith}
use lib.ListN.{take, drop, get_or}
use Rattle.field64.specs.Field.{p64}
use Rattle.rows.proofs.Blocks.{seen_next, seen_all}
use Rattle.octets.specs.Octets.{from_bytes, elements_in}
use Rattle.octets.proofs.Bytes.{length-elements_in, elements_in_at}
use Rattle.layout.proofs.Tests.{both_carry, left_carries}
use Rattle.layout.proofs.both_below.Goals as goal

here : (n : ℕ) (bs : List ℕ) (i r : ℕ) → i < n → r ≡ from_bytes (take (8 * i + 8 - 8 * i) (drop (8 * i) bs)) → r ≡ get_or (elements_in n bs) i 0
here n bs i r h e =
    let k : 8 * i + 8 - 8 * i ≡ 8 = omega arith in
    e ∙ rw k (sym (elements_in_at n bs i h))

pub loop-i-preserved : goal.loop-i-preserved
loop-i-preserved c =
    let n = c.args.count in
    let xs = c.args.left.now in
    let ys = c.args.right.now in
    let e = c.or_carry-in_left.ensures in
    let f = c.or_carry-in_right.ensures in (
      seen_next p64 (elements_in n xs) c.loop-i.i c.loop-i.in_left _ _ (omega (arith, length-elements_in n xs)) (here n xs c.loop-i.i _ (omega arith) c.number8.ensures) e.seen_bound e.upper_bound c.loop-i.invariant.0,
      seen_next p64 (elements_in n ys) c.loop-i.i c.loop-i.in_right _ _ (omega (arith, length-elements_in n ys)) (here n ys c.loop-i.i _ (omega arith) c.number8-in-loop-i.ensures) f.seen_bound f.upper_bound c.loop-i.invariant.1,
    )

pub returns-then-in_left : goal.returns-then-in_left
returns-then-in_left c =
    let n = c.args.count in
    let xs = c.args.left.now in
    let ys = c.args.right.now in
    both_carry c.loop-i.in_left c.loop-i.in_right (elements_in n xs) (elements_in n ys) (seen_all p64 (elements_in n xs) c.loop-i.i c.loop-i.in_left (omega (arith, length-elements_in n xs)) c.loop-i.invariant.0) (seen_all p64 (elements_in n ys) c.loop-i.i c.loop-i.in_right (omega (arith, length-elements_in n ys)) c.loop-i.invariant.1) (omega arith)

pub returns-else-in_left : goal.returns-else-in_left
returns-else-in_left c =
    let n = c.args.count in
    let xs = c.args.left.now in
    left_carries c.loop-i.in_left c.loop-i.in_right (elements_in n xs) (elements_in n c.args.right.now) (seen_all p64 (elements_in n xs) c.loop-i.i c.loop-i.in_left (omega (arith, length-elements_in n xs)) c.loop-i.invariant.0) (omega arith)
