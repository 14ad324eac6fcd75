-- Worked rows, computed from the definitions. Assumes nothing.
use mathlib.Core.Path.{◌≡◌, refl}
use mathlib.Core.Bool.{true, false}
use mathlib.Core.List.{[], ◌∷◌}
use Prim.Native.Nat.{◌-◌, ◌^◌}
use lib.IntN.{negsuc, pos}
use lib.Ieee.{fin, of_int, div, round, odd, units, size, span, climb}
use lib.Count.{count_trailing_zeros}
use Rattle.load_draws.specs.Draws.{step, states, coordinate, gradient_of, stream_of}

pub record Draws : Type 0 where
  pub from_1 : step 1 ≡ 1082269761
  pub then : states 3 1 ≡ 1082269761 ∷ 1152992998833853505 ∷ 11177516664432764457 ∷ []
  -- the highest bit of a state goes
  pub from_high : step (2 ^ 63) ≡ 9295429630892703744
  pub from_last : step (2 ^ 64 - 1) ≡ 1065361344
  -- -24511 / 65536, -27583 / 65536, -22999 / 65536, and 37 / 65536
  pub first_coordinate : coordinate (step 1) ≡ fin true 24511 (negsuc 15)
  pub gradient : gradient_of 1 4 2 ≡ fin true 24511 (negsuc 15) ∷ fin true 27583 (negsuc 15) ∷ fin true 22999 (negsuc 15) ∷ fin false 37 (negsuc 15) ∷ []
  pub first_byte : stream_of 1 1 1 ≡ 65 ∷ []
  pub stream : stream_of 1 4 2 ≡ 101 ∷ 1 ∷ []
  -- the ends of the coordinates, and 0
  pub least : coordinate 65536 ≡ fin true 1 (negsuc 0)
  pub middle : coordinate 32768 ≡ fin false 0 (pos 0)
  pub greatest : coordinate (2 ^ 64 - 1) ≡ fin false 32767 (negsuc 15)

pub draws : Draws
unfolding step states coordinate of_int div round units odd size span climb count_trailing_zeros
draws = record { from_1 = refl; then = refl; from_high = refl; from_last = refl; first_coordinate = refl; gradient = refl; first_byte = refl; stream = refl; least = refl; middle = refl; greatest = refl }
