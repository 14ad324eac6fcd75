-- `octets::write_sums` meets its contract. Assumes nothing.
use mathlib.Core.Path.{refl, sym, ap, ◌∙◌}
use Prim.Native.Nat.{ℕ, ◌*◌}
use native.Mathlib.Omega.{arith}
use Rattle.field64.specs.Field.{p64}
use Rattle.rows.proofs.Elements.{below_at}
use Rattle.octets.specs.Octets.{to_bytes}
use Rattle.octets.proofs.Pasted.{elements_start, elements_written, elements_end}
use borrow.Author.Rules.{rules}
use Rattle.octets.proofs.write_sums.Invariants.{sums, sums_long, sum_at, below_here}
use Rattle.octets.proofs.write_sums.Goals as goal

pub loop-i-init : goal.loop-i-init
loop-i-init c =
    (refl, elements_start (sums c.args.old.now c.args.share.now) c.args.row.now)

pub add-sum-requires : goal.add-sum-requires
add-sum-requires c =
    (below_here c.args.old.now c.args.share.now c.requires.below.0 c.loop-i.i _ (omega arith) c.element_at.ensures, below_at p64 c.args.share.now c.requires.below.1 c.loop-i.i (omega arith))

pub loop-i-preserved : goal.loop-i-preserved
loop-i-preserved c =
    let k = sums_long c.args.old.now c.args.share.now in
    let y = sum_at c.args.old.now c.args.share.now c.loop-i.i _ _ (omega (arith, c)) c.element_at.ensures c.add-sum.ensures in
    (search rules, elements_written (sums c.args.old.now c.args.share.now) c.args.row.now c.loop-i.row _ c.loop-i.i (omega (arith, k, c)) (c.requires.row_len.0 ∙ ap (λ (n : ℕ). 8 * n) (sym k)) c.loop-i.invariant.1 (c.write_element.ensures ∙ ap (to_bytes 8) y))

pub returns : goal.returns
returns c =
    let k = sums_long c.args.old.now c.args.share.now in
    elements_end (sums c.args.old.now c.args.share.now) c.args.row.now c.loop-i.row c.loop-i.i (c.requires.row_len.0 ∙ ap (λ (n : ℕ). 8 * n) (sym k)) (omega (arith, k)) c.loop-i.invariant.1
