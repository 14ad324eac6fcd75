-- `doubles::gap_of` meets its contract. Assumes nothing.
use Rattle.std.proofs.Common.{◌≡◌, ℕ, zero, suc, ◌+◌, ◌*◌, ◌/◌, ◌%◌, ◌<◌, ◌≤◌, ap, arith, rules}
use Rattle.doubles.proofs.gap_of.Goals as goal

-- the upper half of 0 less a bit
upper : (h r : ℕ) → h ≤ 1 → r < 18446744073709551616 → (r + h) % 18446744073709551616 ≡ 0 → r / 4294967296 ≡ h * 4294967295
upper zero r l g e = ap (λ (n : ℕ). n / 4294967296) (none r g e)
  where
    none : (r : ℕ) → r < 18446744073709551616 → (r + 0) % 18446744073709551616 ≡ 0 → r ≡ 0
    none r g e = omega arith
upper (suc zero) r l g e = ap (λ (n : ℕ). n / 4294967296) (all r g e)
  where
    all : (r : ℕ) → r < 18446744073709551616 → (r + 1) % 18446744073709551616 ≡ 0 → r ≡ 18446744073709551615
    all r g e = omega arith
upper (suc (suc h)) r l g e = absurd (over h l)
  where
    over : (h : ℕ) → suc (suc h) ≤ 1 → ⊥
    over h l = omega arith

highest : (n : ℕ) → n < 18446744073709551616 → n / 9223372036854775808 ≤ 1
highest n h = omega arith

pub returns : goal.returns
returns c = upper (c.args.n / 9223372036854775808) c.wrapping_sub_u64.result (highest c.args.n (search rules)) (search rules) c.wrapping_sub_u64.ensures.value
