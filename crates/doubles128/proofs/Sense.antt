-- A whole number's limbs are what they are called: it is the quotient by 2 ^ 32, of which the upper limb is the number modulo p64, times 2 ^ 32 and the lower limb. Assumes nothing.
use Rattle.std.proofs.Common.{◌≡◌, ℕ, zero, suc, ◌+◌, ◌-◌, ◌*◌, ◌/◌, ◌%◌, ◌^◌, ◌<◌, Bool, cond, ℤ, pos, negsuc, ◌+ℤ◌, ◌*ℤ◌, neg_ℤ, ap, ◌∙◌, mod-lt, suc-mul, div-add-mod', arith, lit<, lt-ltb}
use Rattle.doubles.specs.Doubles.{floor_div, mod_p}
use Rattle.doubles128.specs.Steps.{limbs_of}

-- -n and a smaller b
from_below : (n b a : ℕ) → n ≡ suc (a + b) → neg_ℤ (pos n) +ℤ pos b ≡ negsuc a
from_below zero b a e = absurd (omega arith)
from_below (suc m) b a e = ap (λ (t : Bool). cond t (negsuc (suc m - suc b)) (pos (b - suc m))) (lt-ltb b (suc m) (omega arith)) ∙ ap negsuc (less m b a e)
  where
    less : (m b a : ℕ) → suc m ≡ suc (a + b) → suc m - suc b ≡ a
    less m b a e = omega arith

pub floor_and_rest : (z : ℤ) (c : ℕ) → 0 < c → floor_div z c *ℤ pos c +ℤ pos (mod_p c z) ≡ z
unfolding floor_div mod_p
floor_and_rest (pos a) c C = ap pos (div-add-mod' a c)
floor_and_rest (negsuc a) c C = from_below (suc (a / c) * c) (c - 1 - a % c) a (suc-mul (a / c) c ∙ parts (a / c * c) (a % c) (mod-lt a C) (div-add-mod' a c))
  where
    parts : (n r : ℕ) → r < c → n + r ≡ a → n + c ≡ suc (a + (c - 1 - r))
    parts n r l e = omega arith

pub limbs_whole : (z : ℤ) → floor_div z (2 ^ 32) *ℤ pos (2 ^ 32) +ℤ pos (limbs_of z).low ≡ z
limbs_whole z = floor_and_rest z (2 ^ 32) (lit< tt)
