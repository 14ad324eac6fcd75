-- A whole number by two parts, of which one is 0, and modulo p. Assumes nothing.
use Rattle.std.proofs.Common.{◌≡◌, ℕ, suc, ◌+◌, ◌%◌, ◌<◌, ℤ, pos, negsuc, sym, ◌∙◌, add-zero}
use native.Mathlib.Nat.{mod-mod, zero-mod}
use Rattle.doubles.specs.Doubles.{mod_p}
use Rattle.doubles.proofs.Sense.{mod_p_negative}

-- a whole number is `plus` less `minus`
abbrev pub plus : ℤ → ℕ
plus (pos n) = n
plus (negsuc n) = 0

abbrev pub minus : ℤ → ℕ
minus (pos n) = 0
minus (negsuc n) = suc n

-- a number modulo p, with what was taken off put back
pub mod_p_parts : (p : ℕ) → 0 < p → (z : ℤ) → (mod_p p z + minus z) % p ≡ plus z % p
unfolding mod_p
mod_p_parts p positive (pos n) = rw (add-zero, mod-mod)
mod_p_parts p positive (negsuc n) = mod_p_negative p positive n ∙ sym (zero-mod p)
