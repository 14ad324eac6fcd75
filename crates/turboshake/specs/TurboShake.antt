-- TurboSHAKE128 of RFC 9861, section 2: a sponge over Keccak-p[1600, 12] whose rate is 168 bytes. A state is 25 lanes, of which a block takes the first 21. Assumes nothing.
use Rattle.std.specs.Prelude.{List, [], ◌∷◌, ◌++◌, ℕ, zero, suc, ◌+◌, ◌-◌, ◌*◌, ◌/◌, ◌%◌, ◌<◌, length, take, drop, replicate}
use Rattle.std.specs.Int.Bits.{bit_xor}
use Rattle.keccak.specs.Keccak.{keccak_p}

-- ---- bytes and lanes, the low byte first

-- each is a byte
abbrev pub Bytes : List ℕ → Type 0
Bytes [] = Unit {0}
Bytes (b ∷ bs) = (b < 256) × Bytes bs

-- the n low bytes of a number
abbrev pub low_bytes : ℕ → ℕ → List ℕ
low_bytes zero w = []
low_bytes (suc n) w = w % 256 ∷ low_bytes n (w / 256)

-- the number whose bytes these are
abbrev pub number_of : List ℕ → ℕ
number_of [] = 0
number_of (b ∷ bs) = b + 256 * number_of bs

-- the bytes of lanes, eight each
abbrev pub bytes_of : List ℕ → List ℕ
bytes_of [] = []
bytes_of (w ∷ ws) = low_bytes 8 w ++ bytes_of ws

-- n lanes from bytes, eight each
abbrev pub lanes_of : ℕ → List ℕ → List ℕ
lanes_of zero bs = []
lanes_of (suc n) bs = number_of (take 8 bs) ∷ lanes_of n (drop 8 bs)

-- ---- absorbing

-- v xored into the last byte
abbrev pub xor_last : ℕ → List ℕ → List ℕ
xor_last v [] = []
xor_last v (b ∷ []) = bit_xor b v ∷ []
xor_last v (a ∷ b ∷ bs) = a ∷ xor_last v (b ∷ bs)

-- the message, then the domain byte, then zeros up to a whole number of blocks, and 0x80 xored into the last byte
abbrev pub padded : (M : List ℕ) (D : ℕ) → List ℕ
padded M D = xor_last 0x80 (M ++ (D ∷ replicate (167 - length M % 168) 0))

-- a state with lanes xored into its first ones
abbrev pub xor_into : (state lanes : List ℕ) → List ℕ
xor_into [] vs = []
xor_into (w ∷ ws) [] = w ∷ ws
xor_into (w ∷ ws) (v ∷ vs) = bit_xor w v ∷ xor_into ws vs

-- the state after n blocks of bytes: each is xored into the state, which is then permuted
abbrev pub absorb_blocks : (n : ℕ) (bytes state : List ℕ) → List ℕ
absorb_blocks zero bs s = s
absorb_blocks (suc n) bs s = absorb_blocks n (drop 168 bs) (keccak_p (xor_into s (lanes_of 21 (take 168 bs))))

-- the state after all blocks of the padded message, from zeros on
abbrev pub absorbed : (M : List ℕ) (D : ℕ) → List ℕ
absorbed M D = absorb_blocks (length (padded M D) / 168) (padded M D) (replicate 25 0)

-- ---- squeezing

-- n blocks of output: the state's first 168 bytes, then those of the state permuted
abbrev pub squeeze_blocks : (n : ℕ) (state : List ℕ) → List ℕ
squeeze_blocks zero s = []
squeeze_blocks (suc n) s = take 168 (bytes_of s) ++ squeeze_blocks n (keccak_p s)

-- TurboSHAKE128(M, D, L): L bytes of output for the message M and the domain byte D, 0x01 to 0x7f. That a longer output begins with the shorter one is a law (`longer_begins`, proofs/Shake.antt)
unfoldable pub turbo_shake128 : (M : List ℕ) (D L : ℕ) → List ℕ
turbo_shake128 M D L = take L (squeeze_blocks (L / 168 + 1) (absorbed M D))
