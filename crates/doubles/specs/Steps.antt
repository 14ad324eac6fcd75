-- What the inner functions of `doubles` give. Assumes nothing.
use Rattle.std.specs.Prelude.{ℕ, ◌*◌, Bool, true, false, cond, not, ◌&&◌, ℤ, pos, negsuc, Float}
use Rattle.std.specs.Float.{nan, inf, fin}
use Rattle.std.specs.Float.Ieee.{up, down, neg, lt, eq}
use Rattle.doubles.specs.Doubles.{signed, floor_div, beyond, mod_p, floor_limit64}

-- a finite double's floor
unfoldable pub floor_at : Float → ℤ
floor_at nan = pos 0
floor_at (inf s) = pos 0
floor_at (fin s m e) = floor_div (signed s (m * up e)) (down e)

-- that, modulo p
unfoldable pub floor_mod : (p : ℕ) → Float → ℕ
floor_mod p w = mod_p p (floor_at w)

-- a double is finite, and its floor not beyond a limit
unfoldable pub within_limit : (limit : ℕ) → Float → Bool
within_limit limit nan = false
within_limit limit (inf s) = false
within_limit limit (fin s m e) = not (beyond limit (floor_div (signed s (m * up e)) (down e)))

-- over Field64
abbrev pub within : Float → Bool
within w = within_limit floor_limit64 w

-- below 2 ^ 50 in size
unfoldable pub near : Float → Bool
near w = lt (fin true 1 (pos 50)) w && lt w (fin false 1 (pos 50))

-- a double's size; -0 stays as it is
unfoldable pub size_of : Float → Float
size_of x = cond (lt x (fin false 0 (pos 0))) (neg x) x

-- below 2 ^ -1022 in size, and not zero
unfoldable pub small : Float → Bool
small x = lt (size_of x) (fin false 1 (negsuc 1021)) && not (eq x (fin false 0 (pos 0)))

-- 2 ^ -1022 at least, and finite
unfoldable pub normal_size : Float → Bool
normal_size a = not (lt a (fin false 1 (negsuc 1021))) && lt a (inf false)
