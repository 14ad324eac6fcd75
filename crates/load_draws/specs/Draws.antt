-- The state of a load, and what is drawn from it (docs/PINE.md, "A load"). Assumes nothing.
use Rattle.std.specs.Prelude.{ℕ, zero, suc, ◌+◌, ◌*◌, ◌/◌, ◌%◌, ◌^◌, List, [], ◌∷◌, map, take, drop, Float}
use Rattle.std.specs.Int.Bits.{bit_xor}
use Rattle.std.specs.Float.{binary64}
use Rattle.std.specs.Float.Ieee.{minus, of_int, div}
use Rattle.doubles.specs.Doubles.{power}

-- ---- the state, a number of 64 bits

-- x xored with itself left by n, keeping 64 bits
abbrev pub xor_left : (n x : ℕ) → ℕ
xor_left n x = bit_xor x (x * 2 ^ n % 2 ^ 64)

-- and right by n
abbrev pub xor_right : (n x : ℕ) → ℕ
xor_right n x = bit_xor x (x / 2 ^ n)

-- the state after x
unfoldable pub step : (x : ℕ) → ℕ
step x = xor_left 17 (xor_right 7 (xor_left 13 x))

-- the n states after x
unfoldable pub states : (n x : ℕ) → List ℕ
states zero x = []
states (suc n) x = step x ∷ states n (step x)

-- the state after n steps
unfoldable pub after : (n x : ℕ) → ℕ
after zero x = x
after (suc n) x = after n (step x)

-- ---- what is drawn: each draw takes one step and uses the state after it

-- (x mod 65536 - 32768) / 65536, exactly: that no digit is lost is a law (`coordinate_exact`, proofs/Sense.antt)
unfoldable pub coordinate : (x : ℕ) → Float
coordinate x = div binary64 (of_int binary64 (minus (x % 65536) 32768)) (power 16)

-- x mod 256
abbrev pub stream_byte : (x : ℕ) → ℕ
stream_byte x = x % 256

-- from a seed first the d coordinates of a gradient, then the n bytes of a stream
module _ (seed d n : ℕ) where
  abbrev pub gradient_of : List Float
  gradient_of = map coordinate (take d (states (d + n) seed))

  abbrev pub stream_of : List ℕ
  stream_of = map stream_byte (drop d (states (d + n) seed))
