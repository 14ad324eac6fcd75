-- The state that the code carries from call to call, a byte at a time: the lanes, and the place in the block of the next byte, below 168. That it gives TurboSHAKE128 is a law (proofs/Shake.antt). Assumes nothing.
use Rattle.std.specs.Prelude.{cond, List, [], ◌∷◌, ℕ, zero, suc, ◌+◌, ◌*◌, ◌/◌, ◌%◌, ◌^◌, get_or, set, replicate, eqb}
use Rattle.std.specs.Int.Bits.{bit_xor}
use Rattle.keccak.specs.Keccak.{keccak_p, each}
use Rattle.turboshake.specs.TurboShake.{bytes_of}
use Rattle.turboshake.specs.declared.Sponge.{Sponge}

abbrev pub sponge : (lanes : List ℕ) (at : ℕ) → Sponge
sponge ws k = record { lanes = ws; at = k }

-- n places on, at most to the block's end; there the permutation begins a new block
unfoldable pub moved : ℕ → Sponge → Sponge
moved n s = cond (eqb (s.at + n) 168) (sponge (keccak_p s.lanes) 0) (sponge s.lanes (s.at + n))

-- ---- absorbing

-- lanes with b xored into their byte k
abbrev pub xor_byte : (k : ℕ) → List ℕ → (b : ℕ) → List ℕ
xor_byte k ws b = set ws (k / 8) (bit_xor (get_or ws (k / 8) 0) (b * 2 ^ (8 * (k % 8))))

abbrev pub absorb_byte : (b : ℕ) → Sponge → Sponge
absorb_byte b s = moved 1 (sponge (xor_byte s.at s.lanes b) s.at)

-- the bytes of a message, one after the other
abbrev pub absorb_all : List ℕ → Sponge → Sponge
absorb_all = each absorb_byte

abbrev pub start : Sponge
start = sponge (replicate 25 0) 0

-- the end of the message: D, 0x80 in the block's last byte, and the permutation
abbrev pub finished : (D : ℕ) → Sponge → Sponge
finished D s = sponge (keccak_p (xor_byte 167 (xor_byte s.at s.lanes D) 0x80)) 0

-- the state from which the output of a whole message is drawn
abbrev pub stream_of : (M : List ℕ) (D : ℕ) → Sponge
stream_of M D = finished D (absorb_all M start)

-- ---- squeezing

-- the next n bytes of output
unfoldable pub drawn : ℕ → Sponge → List ℕ
drawn zero s = []
drawn (suc n) s = get_or (bytes_of s.lanes) s.at 0 ∷ drawn n (moved 1 s)

-- the state after them
unfoldable pub after : ℕ → Sponge → Sponge
after zero s = s
after (suc n) s = after n (moved 1 s)
