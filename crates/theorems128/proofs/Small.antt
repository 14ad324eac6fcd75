-- A small whole number modulo p, as a centred number, has its own size. Assumes nothing.
use mathlib.Core.Path.{◌≡◌}
use Prim.Native.Nat.{ℕ, suc, ◌+◌, ◌-◌, ◌*◌, ◌/◌, ◌%◌, ◌≤◌, ◌<◌}
use native.Mathlib.Nat.{mod-eq_of_lt}
use native.Mathlib.Omega.{arith}
use lib.IntN.{ℤ, pos, negsuc, nat_abs}
use borrow.Author.Tests.{lt-ltb, le-ltb}
use Rattle.doubles.specs.Doubles.{mod_p, centred_size}

pub size_of_small : (p limit : ℕ) → 2 * limit + 1 < p → (z : ℤ) → nat_abs z ≤ limit → centred_size p (mod_p p z) ≡ nat_abs z
unfolding mod_p
size_of_small p limit room (pos n) h =
    let e : n % p ≡ n = mod-eq_of_lt (omega arith) in
    rw (e, le-ltb ((p - 1) / 2) n (omega arith))
size_of_small p limit room (negsuc n) h =
    let e : n % p ≡ n = mod-eq_of_lt (omega arith) in
    let g : p - (p - 1 - n) ≡ suc n = omega arith in
    rw (e, lt-ltb ((p - 1) / 2) (p - 1 - n) (omega arith), g)
