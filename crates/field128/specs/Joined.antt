-- A number that is added to an element before it is known to be one, and taken off again where it is none. No public contract cites this. Assumes nothing.
use Rattle.std.specs.Prelude.{ℕ, ◌%◌, ◌^◌, cond, nat_lt}
use Rattle.field64.specs.Field.{add_mod, sub_mod}
use Rattle.field128.specs.Field128.{p128}

-- by what it is added: modulo p, or modulo 2 ^ 128 where it is no element
abbrev pub modulus_for : ℕ → ℕ
modulus_for b = cond (nat_lt b p128) p128 (2 ^ 128)

abbrev pub joined : (a b : ℕ) → ℕ
joined a b = add_mod (modulus_for b) a b

abbrev pub parted : (r b : ℕ) → ℕ
parted r b = sub_mod (modulus_for b) (r % modulus_for b) b
