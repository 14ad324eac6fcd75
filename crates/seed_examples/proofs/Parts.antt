-- Computed examples of a part and of a seed. The shares are those that oracle/original cuts (`cut 1 1 0 1 1 1 1`, gradient 1.0, nonce 00 01 .. 0f, seeds 00 01 .. 4f), and the last bytes the verification seed that it gives. Assumes nothing.
use mathlib.Core.Path.{◌≡◌, refl}
use mathlib.Core.List.{List, [], ◌∷◌}
use Prim.Native.Nat.{ℕ}
use Rattle.keccak.specs.Keccak.{round_of, keccak_p}
use Rattle.turboshake.specs.TurboShake.{turbo_shake128}
use Rattle.joint_rand.specs.JointRand.{joint_rand_part, joint_rand_seed}

abbrev nonce : List ℕ
nonce = 0 ∷ 1 ∷ 2 ∷ 3 ∷ 4 ∷ 5 ∷ 6 ∷ 7 ∷ 8 ∷ 9 ∷ 10 ∷ 11 ∷ 12 ∷ 13 ∷ 14 ∷ 15 ∷ []

leader_part : joint_rand_part 7 0 (64 ∷ 65 ∷ 66 ∷ 67 ∷ 68 ∷ 69 ∷ 70 ∷ 71 ∷ 72 ∷ 73 ∷ 74 ∷ 75 ∷ 76 ∷ 77 ∷ 78 ∷ 79 ∷ []) nonce
    (0x84208a4672ef363a ∷ 0x4bbbacf75205a17f ∷ 0xb5997be8bc7704c0 ∷ 0x5b19601ea9f8fce9 ∷ 0x8a3a3c2853214809 ∷ 0xfb3a246734acccb5 ∷ 0x7e7a281728e60b9e ∷ 0x215ad94135e94d23 ∷ 0xafd7a44828506206 ∷ [])
    ≡ 0xfe ∷ 0xfd ∷ 0xc0 ∷ 0xb4 ∷ 0x11 ∷ 0xc7 ∷ 0x10 ∷ 0x97 ∷ 0xd6 ∷ 0x43 ∷ 0xd1 ∷ 0xa0 ∷ 0x14 ∷ 0xb1 ∷ 0x32 ∷ 0x40 ∷ []
unfolding joint_rand_part turbo_shake128 keccak_p round_of
leader_part = refl

helper_part : joint_rand_part 7 1 (32 ∷ 33 ∷ 34 ∷ 35 ∷ 36 ∷ 37 ∷ 38 ∷ 39 ∷ 40 ∷ 41 ∷ 42 ∷ 43 ∷ 44 ∷ 45 ∷ 46 ∷ 47 ∷ []) nonce
    (0x7bdf75b88d10c9c8 ∷ 0xb4445307adfa5e83 ∷ 0x4a6684164388fb41 ∷ 0xa4e69fe056070318 ∷ 0x75c5c3d6acdeb7f9 ∷ 0x4c5db97cb53334d ∷ 0x8185d7e7d719f464 ∷ 0xdea526bdca16b2de ∷ 0x50285bb6d7af9dfc ∷ [])
    ≡ 0x0f ∷ 0x95 ∷ 0xad ∷ 0xbc ∷ 0x12 ∷ 0xff ∷ 0xf0 ∷ 0x7e ∷ 0xef ∷ 0x5d ∷ 0x6a ∷ 0x41 ∷ 0xcf ∷ 0xee ∷ 0xc0 ∷ 0x49 ∷ []
unfolding joint_rand_part turbo_shake128 keccak_p round_of
helper_part = refl

seed : joint_rand_seed 6 (0xfe ∷ 0xfd ∷ 0xc0 ∷ 0xb4 ∷ 0x11 ∷ 0xc7 ∷ 0x10 ∷ 0x97 ∷ 0xd6 ∷ 0x43 ∷ 0xd1 ∷ 0xa0 ∷ 0x14 ∷ 0xb1 ∷ 0x32 ∷ 0x40 ∷ []) (0x0f ∷ 0x95 ∷ 0xad ∷ 0xbc ∷ 0x12 ∷ 0xff ∷ 0xf0 ∷ 0x7e ∷ 0xef ∷ 0x5d ∷ 0x6a ∷ 0x41 ∷ 0xcf ∷ 0xee ∷ 0xc0 ∷ 0x49 ∷ [])
    ≡ 0x4f ∷ 0x26 ∷ 0x18 ∷ 0xbe ∷ 0x46 ∷ 0xa1 ∷ 0x48 ∷ 0x96 ∷ 0x4a ∷ 0xab ∷ 0x16 ∷ 0x91 ∷ 0x98 ∷ 0xfc ∷ 0x63 ∷ 0x2c ∷ []
unfolding joint_rand_seed turbo_shake128 keccak_p round_of
seed = refl
