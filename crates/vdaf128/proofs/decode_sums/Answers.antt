-- `vdaf128::decode_sums` meets its contract. Assumes nothing.
use mathlib.Core.Path.{◌≡◌, sym, ◌∙◌}
use mathlib.Core.Bool.{false}
use mathlib.Core.List.{List}
use Prim.Native.Nat.{ℕ, ◌+◌, ◌*◌, ◌/◌, ◌<◌}
use native.Mathlib.Omega.{arith}
use lib.ListN.{length, get_or, set}
use lib.Ieee.{Float}
use Rattle.doubles.specs.Doubles.{plus_zero, decoded}
use Rattle.doubles128.specs.Doubles128.{size_limit128}
use Rattle.doubles128.specs.Steps.{large}
use Rattle.rows.proofs.Walk.{walked_end, walking_next}
use Rattle.field64.specs.Field.{add_mod}
use Rattle.field128.specs.Field128.{p128, number_of, elements_of}
use Rattle.field128.proofs.Pairs.{elements_length}
use Rattle.vdaf.specs.Aggregates.{sizes_rule, decoded_sums}
use Rattle.vdaf.proofs.Decoded.{length-decoded_sums, get_or-decoded_sums}
use Rattle.vdaf128.proofs.Sizes.{sums, sums_long, sum_inside, sum_is, sum_below_lem, all_small, alike}
use Rattle.vdaf128.proofs.decode_sums.Invariants.{Inv}
use Rattle.vdaf128.proofs.decode_sums.Goals as goal

module _ (f : ℕ) (l r : List ℕ) (d : List Float) (same : (length l ≡ 2 * length d) × (length r ≡ 2 * length d)) where
  rows_same : length l ≡ length r
  rows_same = same.0 ∙ sym same.1

  half : length d ≡ length l / 2
  half = omega (arith, same.0)

  long : length (decoded_sums p128 f (elements_of l) (elements_of r)) ≡ length d
  long = length-decoded_sums p128 f (elements_of l) (elements_of r) (alike l r rows_same) ∙ elements_length l ∙ sym half

  small : (sizes_rule p128 size_limit128 0 (sums l r)).number ≡ 0 → (i : ℕ) → i < length d → (s : ℕ) → s ≡ add_mod p128 (get_or (elements_of l) i 0) (get_or (elements_of r) i 0) → large s ≡ false
  small z i h s e = rw (sum_is l r rows_same i (omega (arith, half)) s e) (all_small p128 size_limit128 0 (sums l r) z i (omega (arith, sums_long l r rows_same, half)))

  turn : (a : List Float) (i : ℕ) → Inv f l r d a i → i < length a → (s : ℕ) (y : Float) → s ≡ add_mod p128 (get_or (elements_of l) i 0) (get_or (elements_of r) i 0) → y ≡ decoded p128 s f → Inv f l r d (set a i y) (i + 1)
  turn a i inv h s y e g =
      let k : i < length (elements_of l) = (sum_inside l r rows_same i (omega (arith, half, inv.1))).0 in
      walking_next plus_zero (decoded_sums p128 f (elements_of l) (elements_of r)) d a i y long inv h (g ∙ rw e (sym (get_or-decoded_sums p128 f (elements_of l) (elements_of r) (alike l r rows_same) plus_zero i k)))

pub sum_at-requires : goal.sum_at-requires
sum_at-requires c =
    record {
      i_in_bounds = sum_inside c.args.left.now c.args.right.now (rows_same c.args.frac_bits c.args.left.now c.args.right.now c.args.decoded.now c.requires.left_len) c.loop-i.i (omega (arith, c.requires.left_len.0, c.loop-i.invariant.1));
      below = c.requires.below;
    }

pub decode-requires : goal.decode-requires
decode-requires c =
    record {
      fact_1 = sum_below_lem _ _ _ c.sum_at.ensures;
      fact_2 = small c.args.frac_bits c.args.left.now c.args.right.now c.args.decoded.now c.requires.left_len c.requires.right_value c.loop-i.i (omega (arith, c.loop-i.invariant.1)) _ c.sum_at.ensures;
      fact_3 = c.requires.scale_value;
    }

pub loop-i-preserved : goal.loop-i-preserved
loop-i-preserved c =
    turn c.args.frac_bits c.args.left.now c.args.right.now c.args.decoded.now c.requires.left_len c.loop-i.decoded c.loop-i.i c.loop-i.invariant (omega arith) (number_of c.sum_at.result) c.decode.result c.sum_at.ensures c.decode.ensures

pub returns : goal.returns
returns c =
    c.loop-i.invariant.2 ∙ walked_end _ _ c.loop-i.i (long c.args.frac_bits c.args.left.now c.args.right.now c.args.decoded.now c.requires.left_len) (omega arith)
