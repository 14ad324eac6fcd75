-- An element is below p128 just where its upper word does not wrap with what 2 ^ 128 has beyond p128. Assumes nothing.
use Rattle.std.proofs.Common.{◌≡◌, ℕ, zero, suc, ◌+◌, ◌-◌, ◌*◌, ◌%◌, ◌^◌, ◌<◌, ◌≤◌, Bool, cond, eqb, refl, ap, ◌∙◌, mul-le-mul_right, lt_of_mul-lt-mul_right, arith, lit≤, ne_eqb}
use lib.Bits.{bit_and, bit_or}
use Rattle.rows.proofs.Blocks.{carry_gives}
use Rattle.field128.specs.Field128.{p128, number}

-- H * W + 1 is p; l is the lower word
module _ (W H h : ℕ) where
  below_zero : 0 < W → h * W + 0 < H * W + 1 → h < H + 1
  below_zero w k =
      let e : h * W < (H + 1) * W = omega arith in
      lt_of_mul-lt-mul_right W e

  zero_below : h < H + 1 → h * W + 0 < H * W + 1
  zero_below k =
      let e : h * W ≤ H * W = mul-le-mul_right W (omega arith) in
      omega arith

  below_some : (l : ℕ) → h * W + suc l < H * W + 1 → h < H
  below_some l k =
      let e : h * W < H * W = omega arith in
      lt_of_mul-lt-mul_right W e

  some_below : (l : ℕ) → suc l < W → h < H → h * W + suc l < H * W + 1
  some_below l w k =
      let e : (h + 1) * W ≤ H * W = mul-le-mul_right W (omega arith) in
      omega arith

abbrev Gathered : (seen low high s : ℕ) → Type 0
Gathered seen low high s =
    (bit_or seen (bit_and high (18446744073709551615 - s)) < 2 ^ 63 → (seen < 2 ^ 63) × (number low high < p128)) × ((seen < 2 ^ 63) × (number low high < p128) → bit_or seen (bit_and high (18446744073709551615 - s)) < 2 ^ 63)

pub gathered : (seen low high b s : ℕ) → low < 2 ^ 64 → high < 2 ^ 64 → b ≡ cond (eqb low 0) 27 28 → s ≡ (high + b) % 2 ^ 64 → Gathered seen low high s
gathered seen zero high b s l h e w =
    let g = carry_gives 18446744073709551589 27 seen high s refl (lit≤ tt) h (w ∙ ap (λ (n : ℕ). (high + n) % 2 ^ 64) e) in (
      λ k. ((g.0 k).0, zero_below (2 ^ 64) 18446744073709551588 high (g.0 k).1),
      λ k. g.1 (k.0, below_zero (2 ^ 64) 18446744073709551588 high (omega arith) k.1),
    )
gathered seen (suc low) high b s l h e w =
    let g = carry_gives 18446744073709551588 28 seen high s refl (lit≤ tt) h (w ∙ ap (λ (n : ℕ). (high + n) % 2 ^ 64) (e ∙ ap (λ (t : Bool). cond t 27 28) (ne_eqb (suc low) 0 (λ z. omega arith)))) in (
      λ k. ((g.0 k).0, some_below (2 ^ 64) 18446744073709551588 high low l (g.0 k).1),
      λ k. g.1 (k.0, below_some (2 ^ 64) 18446744073709551588 high low k.1),
    )

-- ---- one element by its upper word
