-- A test's result over one modulus as a result over a smaller one, which no rule and no bit of the tests tells from it. No public contract cites these. Assumes nothing.
use Rattle.std.specs.Prelude.{◌≡◌, ℕ, ◌+◌, ◌-◌, ◌*◌, ◌^◌, ◌<◌, ◌≤◌, cond, ◌==◌, nat_le, nat_lt}
use Rattle.field64.specs.Field.{p64}
use Rattle.field128.specs.Field128.{p128}

-- r modulo p, modulo q: from 0 to b itself; from -b + 1 on the same negative number; any other result is `out`, which is out of range there too
abbrev pub moved : (p q b out r : ℕ) → ℕ
moved p q b out r = cond (nat_le r b) r (cond (nat_lt p (r + b)) (q - (p - r)) out)

-- 1 where a number is above a bound, or else 0
abbrev pub flag_above : (b n : ℕ) → ℕ
flag_above b n = cond (nat_lt b n) 1 0

-- from Field128 to Field64
abbrev pub narrowed : (b r : ℕ) → ℕ
narrowed b r = moved p128 p64 b (2 ^ 63) r

-- where a result lies, as two digits of 32 bits: the low one is 1 where it is not from -b + 1 to -1, the high one where it is not from 0 to b
abbrev pub class_of : (b r : ℕ) → ℕ
class_of b r = flag_above (b - 1) (p128 - r) + 4294967296 * flag_above b r

-- two digits that tell so of some bound
pub record Sorted (r f g : ℕ) : Type 0 where
  pub low_digit : f ≤ 1
  pub high_digit : g ≤ 1
  pub negative : f ≡ 0 → p128 - r < 2 ^ 48
  pub positive : g ≡ 0 → r ≤ 2 ^ 48

-- the result that they stand for
abbrev pub sorted_result : (r f g : ℕ) → ℕ
sorted_result r f g = cond (g == 0) r (cond (f == 0) (p64 - (p128 - r)) (2 ^ 63))

-- a squared norm as one word: 2 ^ 64 - 1, which is above every bound, for all that have more
abbrev pub narrowed_norm : (v : ℕ) → ℕ
narrowed_norm v = cond (nat_lt v (2 ^ 64)) v (2 ^ 64 - 1)
