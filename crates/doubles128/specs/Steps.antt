-- What the inner functions of `doubles128` give. Assumes nothing.
use Rattle.std.specs.Prelude.{ℕ, ◌^◌, Bool, cond, ℤ, nat_lt}
use Rattle.field64.specs.Field.{p64}
use Rattle.field128.specs.Field128.{p128}
use Rattle.doubles.specs.Doubles.{floor_div, mod_p, centred_size}
use Rattle.doubles128.specs.declared.Limbs.{Limbs}
use Rattle.doubles128.specs.Doubles128.{size_limit128}

abbrev pub flag : Bool → ℕ
flag t = cond t 1 0

-- z is floor_div z (2 ^ 32) · 2 ^ 32 and low; high is that quotient modulo p64
abbrev pub limbs_of : ℤ → Limbs
limbs_of z = record { low = mod_p (2 ^ 32) z; high = mod_p p64 (floor_div z (2 ^ 32)) }

-- rule 23 refuses y
abbrev pub large : (y : ℕ) → Bool
large y = nat_lt size_limit128 (centred_size p128 y)
