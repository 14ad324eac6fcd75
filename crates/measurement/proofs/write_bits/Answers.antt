-- `measurement::write_bits` meets its contract. Assumes nothing.
use mathlib.Core.Path.{◌≡◌, sym, ap, ◌∙◌}
use Prim.Native.Nat.{ℕ, ◌/◌, ◌%◌, ◌^◌}
use native.Mathlib.Omega.{arith}
use lib.ListN.{length}
use lib.Pow.{shr-shr}
use Rattle.rows.proofs.Walk.{walking_next, walked_end}
use Rattle.flp.specs.Bits.{bits}
use Rattle.flp.proofs.Bits.{length_bits, bits_at}
use Rattle.measurement.proofs.write_bits.Goals as goal

pub loop-x-preserved : goal.loop-x-preserved
loop-x-preserved c =
    let v = c.args.value in
    let d = c.args.row.now in
    let i = c.loop-x.x-index in
    let e : c.loop-x.rest % 2 ≡ v / 2 ^ i % 2 = ap (λ (n : ℕ). n % 2) c.loop-x.invariant.1 in (
      walking_next 0 (bits (length d) v) d c.loop-x.row i _ (length_bits (length d) v) c.loop-x.invariant.0 (omega arith) (e ∙ sym (bits_at (length d) v i (omega arith))),
      ap (λ (n : ℕ). n / 2) c.loop-x.invariant.1 ∙ shr-shr v i 1,
    )

pub returns : goal.returns
returns c =
    c.loop-x.invariant.0.2 ∙ walked_end _ _ c.loop-x.x-index (length_bits (length c.args.row.now) c.args.value) (omega arith)
