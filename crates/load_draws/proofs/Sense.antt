-- What the definition of a coordinate means. Assumes nothing.
use mathlib.Core.Path.{◌≡◌, refl, sym}
use mathlib.Core.Bool.{Bool, true, false}
use Prim.Native.Nat.{ℕ, suc, ◌-◌, ◌%◌, ◌^◌, ◌≤◌, ◌<◌}
use native.Mathlib.Nat.{mod-lt, lt_of_le_of_lt, mul_assoc, mul-le-mul_right}
use native.Mathlib.Omega.{arith}
use lib.IntN.{nat_abs}
use lib.Dec.{leb, ltb, lit<}
use lib.Ieee.{binary64, minus, round}
use lib.Ieee.Exact.{HasValue, round_exact}
use borrow.Author.Tests.{leb-true, leb-false, lt-ltb, le-ltb}
use Rattle.doubles.proofs.Nearest.{rounded_over, rounded_once}
use Rattle.load_draws.specs.Draws.{coordinate}

exact : (s : Bool) (n : ℕ) → n ≤ 32768 → HasValue (round binary64 s n 65536) s n 65536
exact s n h =
    round_exact binary64 s n 65536 n 1058 (lit< tt) (lt_of_le_of_lt h (lit< tt)) (lt_of_le_of_lt (mul-le-mul_right (2 ^ 1058) h) (lit< tt)) (sym (mul_assoc n (2 ^ 1058) 65536))

module _ (low : ℕ) (l : low < 65536) where
  exactly : HasValue (rounded_over 16 (minus low 32768)) (ltb low 32768) (nat_abs (minus low 32768)) 65536
  exactly = go (leb 32768 low) refl
    where
      go : (t : Bool) → leb 32768 low ≡ t → HasValue (rounded_over 16 (minus low 32768)) (ltb low 32768) (nat_abs (minus low 32768)) 65536
      go true e = let h = leb-true 32768 low e in rw (e, le-ltb low 32768 h) (exact false (low - 32768) (omega arith))
      go false e = let h = leb-false 32768 low e in rw (e, lt-ltb low 32768 h) (exact true (suc (32768 - suc low)) (omega arith))

  small : nat_abs (minus low 32768) < 2 ^ 64
  small = go (leb 32768 low) refl
    where
      go : (t : Bool) → leb 32768 low ≡ t → nat_abs (minus low 32768) < 2 ^ 64
      go true e = rw e (omega arith)
      go false e = rw e (omega arith)

-- A COORDINATE IS (x mod 65536 - 32768) / 65536, with its sign and no digit lost
pub coordinate_exact : (x : ℕ) → HasValue (coordinate x) (ltb (x % 65536) 32768) (nat_abs (minus (x % 65536) 32768)) 65536
unfolding coordinate
coordinate_exact x =
    let l : x % 65536 < 65536 = mod-lt x (lit< tt) in
    rw (rounded_once (minus (x % 65536) 32768) 16 (small (x % 65536) l) (omega arith)) (exactly (x % 65536) l)
