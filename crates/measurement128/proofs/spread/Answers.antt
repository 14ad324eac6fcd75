-- `measurement128::spread` meets its contract. Assumes nothing.
use mathlib.Core.Path.{◌≡◌, sym, ap, subst, ◌∙◌}
use mathlib.Core.List.{List}
use Prim.Native.Nat.{ℕ, ◌+◌, ◌-◌, ◌*◌, ◌/◌}
use native.Mathlib.Omega.{arith}
use borrow.Author.Rules.{rules}
use lib.ListN.{length, set}
use Rattle.field128.specs.Field128.{Whole}
use Rattle.field128.proofs.Pairs.{elements_length}
use Rattle.measurement128.proofs.Spreading.{Spreading, spread_next}
use Rattle.measurement128.proofs.spread.Goals as goal

halves : (d : List ℕ) → Whole d → length d ≡ 2 * (length d / 2)
halves d w = w ∙ ap (λ (n : ℕ). 2 * n) (elements_length d)

pub store-requires : goal.store-requires
store-requires c =
    omega (arith, elements_length c.loop-i.row, c.loop-i.invariant.inside, c.loop-i.invariant.long)

pub loop-i-preserved : goal.loop-i-preserved
loop-i-preserved c =
    let d = c.args.row.now in
    let k = c.loop-i.i - 1 in
    let one_before : c.loop-i.i ≡ k + 1 = omega arith in
    let t = subst (Spreading d c.loop-i.row) one_before c.loop-i.invariant in
    subst (λ (a : List ℕ). Spreading d a k) (sym (c.store.ensures ∙ ap (λ (h : ℕ). set (set c.loop-i.row (2 * k) c.widened-e.result.low) (2 * k + 1) h) c.widened-e.ensures.1)) (spread_next d (halves d c.requires) c.loop-i.row k t c.widened-e.result.low (search rules) c.widened-e.ensures.0)
