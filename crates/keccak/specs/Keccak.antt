-- Keccak-p[1600, 12]: FIPS 202, section 3, with the twelve rounds that RFC 9861 takes. Assumes nothing.
use Rattle.std.specs.Prelude.{List, [], ◌∷◌, ◌++◌, ℕ, zero, suc, ◌+◌, ◌-◌, ◌*◌, ◌/◌, ◌%◌, ◌^◌, get_or}
use Rattle.std.specs.Int.Bits.{bit_xor, bit_and, bit_or}

-- ---- the state: 25 lanes of 64 bits, lane A[x, y] at x + 5 y

abbrev pub lane : (A : List ℕ) (x y : ℕ) → ℕ
lane A x y = get_or A (x + 5 * y) 0

abbrev pub plane : (ℕ → ℕ → ℕ) → (y : ℕ) → List ℕ
plane f y = f 0 y ∷ f 1 y ∷ f 2 y ∷ f 3 y ∷ f 4 y ∷ []

-- the state whose lane A[x, y] is f x y
abbrev pub state : (ℕ → ℕ → ℕ) → List ℕ
state f = plane f 0 ++ (plane f 1 ++ (plane f 2 ++ (plane f 3 ++ plane f 4)))

-- a lane's bits moved up by n places, those at the top coming in at the bottom
abbrev pub rotl : (n w : ℕ) → ℕ
rotl zero w = w
rotl (suc n) w = bit_or (w * 2 ^ suc n % 2 ^ 64) (w / 2 ^ (64 - suc n))

-- each of a lane's bits changed
abbrev pub not64 : ℕ → ℕ
not64 w = 2 ^ 64 - 1 - w

-- ---- theta (algorithm 1)

-- C[x] = A[x, 0] xor A[x, 1] xor A[x, 2] xor A[x, 3] xor A[x, 4]
abbrev pub theta_c : List ℕ → (x : ℕ) → ℕ
theta_c A x = bit_xor (bit_xor (bit_xor (bit_xor (lane A x 0) (lane A x 1)) (lane A x 2)) (lane A x 3)) (lane A x 4)

-- D[x] = C[x - 1] xor (C[x + 1] moved up by one)
abbrev pub theta_d : List ℕ → (x : ℕ) → ℕ
theta_d A x = bit_xor (theta_c A ((x + 4) % 5)) (rotl 1 (theta_c A ((x + 1) % 5)))

-- A'[x, y] = A[x, y] xor D[x]
abbrev pub theta : List ℕ → List ℕ
theta A = state (λ x y. bit_xor (lane A x y) (theta_d A x))

-- ---- rho (algorithm 2)

-- by how many places lane A[x, y] is moved up, at x + 5 y. That algorithm 2 computes these is a law (`offsets_are`, proofs/Tables.antt)
abbrev pub offsets : List ℕ
offsets =
    0 ∷ 1 ∷ 62 ∷ 28 ∷ 27 ∷
    36 ∷ 44 ∷ 6 ∷ 55 ∷ 20 ∷
    3 ∷ 10 ∷ 43 ∷ 25 ∷ 39 ∷
    41 ∷ 45 ∷ 15 ∷ 21 ∷ 8 ∷
    18 ∷ 2 ∷ 61 ∷ 56 ∷ 14 ∷ []

abbrev pub rho : List ℕ → List ℕ
rho A = state (λ x y. rotl (lane offsets x y) (lane A x y))

-- ---- pi (algorithm 3): A'[x, y] = A[x + 3 y, x]

abbrev pub pi : List ℕ → List ℕ
pi A = state (λ x y. lane A ((x + 3 * y) % 5) x)

-- ---- chi (algorithm 4): A'[x, y] = A[x, y] xor ((not A[x + 1, y]) and A[x + 2, y])

abbrev pub chi : List ℕ → List ℕ
chi A = state (λ x y. bit_xor (lane A x y) (bit_and (not64 (lane A ((x + 1) % 5) y)) (lane A ((x + 2) % 5) y)))

-- ---- iota (algorithm 6): A'[0, 0] = A[0, 0] xor RC

abbrev pub iota : (RC : ℕ) → List ℕ → List ℕ
iota RC [] = []
iota RC (w ∷ ws) = bit_xor w RC ∷ ws

-- ---- the rounds (algorithm 7)

unfoldable pub round_of : (RC : ℕ) → List ℕ → List ℕ
round_of RC A = iota RC (chi (pi (rho (theta A))))

-- the constants of the last twelve of the 24 rounds of Keccak-f[1600]. That algorithm 5 computes these is a law (`constants_are`, proofs/Tables.antt)
abbrev pub round_constants : List ℕ
round_constants =
    0x000000008000808b ∷ 0x800000000000008b ∷ 0x8000000000008089 ∷ 0x8000000000008003 ∷
    0x8000000000008002 ∷ 0x8000000000000080 ∷ 0x000000000000800a ∷ 0x800000008000000a ∷
    0x8000000080008081 ∷ 0x8000000000008080 ∷ 0x0000000080000001 ∷ 0x8000000080008008 ∷ []

-- f with each element of a list, in order
abbrev pub each : {A S : Type 0} → (A → S → S) → List A → S → S
each f [] s = s
each f (x ∷ xs) s = each f xs (f x s)

-- a round with each constant
unfoldable pub keccak_p : List ℕ → List ℕ
keccak_p A = each round_of round_constants A
