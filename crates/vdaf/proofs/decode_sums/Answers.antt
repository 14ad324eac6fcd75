-- `vdaf::decode_sums` meets its contract. Assumes nothing.
use mathlib.Core.Path.{◌≡◌, refl, sym, ◌∙◌}
use mathlib.Core.List.{List}
use Prim.Native.Nat.{ℕ, ◌+◌, ◌-◌, ◌<◌}
use native.Mathlib.Omega.{arith}
use borrow.Author.Rules.{rules}
use lib.ListN.{length, get_or, set}
use lib.Ieee.{Float}
use Rattle.field64.specs.Field.{p64, add_mod}
use Rattle.doubles.specs.Doubles.{plus_zero, decoded}
use Rattle.rows.proofs.Elements.{below_at}
use Rattle.rows.proofs.Walk.{walked_end, walking_next}
use Rattle.vdaf.specs.Aggregates.{decoded_sums}
use Rattle.vdaf.proofs.Decoded.{length-decoded_sums, get_or-decoded_sums}
use Rattle.vdaf.proofs.decode_sums.Invariants.{Inv}
use Rattle.vdaf.proofs.decode_sums.Goals as goal

module _ (f : ℕ) (l r : List ℕ) (d : List Float) (same : (length l ≡ length d) × (length r ≡ length d)) where
  rows_same : length l ≡ length r
  rows_same = same.0 ∙ sym same.1

  long : length (decoded_sums p64 f l r) ≡ length d
  long = length-decoded_sums p64 f l r rows_same ∙ same.0

  turn : (a : List Float) (i : ℕ) → Inv f l r d a i → i < length a → (s : ℕ) (y : Float) → s ≡ add_mod p64 (get_or l i 0) (get_or r i 0) → y ≡ decoded p64 s f → Inv f l r d (set a i y) (i + 1)
  turn a i inv h s y e g =
      let k : i < length l = omega (arith, same.0) in
      walking_next plus_zero (decoded_sums p64 f l r) d a i y long inv h (g ∙ rw e (sym (get_or-decoded_sums p64 f l r rows_same plus_zero i k)))

pub loop-i-init : goal.loop-i-init
loop-i-init c = (search rules, refl, refl)

pub add-requires : goal.add-requires
add-requires c =
    (below_at p64 c.args.left.now c.requires.below.0 c.loop-i.i (omega arith), below_at p64 c.args.right.now c.requires.below.1 c.loop-i.i (omega arith))

pub decode-requires : goal.decode-requires
decode-requires c =
    record {
      fact_1 = omega (arith, c.add.ensures);
      fact_2 = c.requires.scale_value;
    }

pub loop-i-preserved : goal.loop-i-preserved
loop-i-preserved c =
    turn c.args.frac_bits c.args.left.now c.args.right.now c.args.decoded.now c.requires.left_len c.loop-i.decoded c.loop-i.i c.loop-i.invariant (omega arith) c.add.result c.decode.result c.add.ensures c.decode.ensures

pub shape_of-decoded : goal.shape_of-decoded
shape_of-decoded c = c.loop-i.invariant.1

pub returns : goal.returns
returns c =
    c.loop-i.invariant.2 ∙ walked_end _ _ c.loop-i.i (long c.args.frac_bits c.args.left.now c.args.right.now c.args.decoded.now c.requires.left_len) (omega arith)
