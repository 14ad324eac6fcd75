-- Computed examples: the first values of a helper's stream, the measurement's first elements, and the wraparound seed of both shares'. They are those that oracle/original gives (`cut 1 1 0 1 1 1 1`, gradient 1.0, nonce 00 01 .. 0f, seeds 00 01 .. 4f). Assumes nothing.
use mathlib.Core.Path.{◌≡◌, refl, ap₂, ◌∙◌}
use mathlib.Core.List.{List, [], ◌∷◌, ◌++◌}
use Prim.Native.Nat.{ℕ, zero, suc}
use Rattle.keccak.specs.Keccak.{round_of, keccak_p}
use Rattle.turboshake.specs.TurboShake.{turbo_shake128}
use Rattle.field64.specs.Field.{p64}
use Rattle.field64.specs.Sums.{evaluate}
use Rattle.pine.specs.declared.PineParam.{PineParam}
use Rattle.pine.specs.Param.{standard}
use Rattle.pine.specs.Record.{halvings, digits, sq_norm_bound_of, sq_norm_bits_of}
use Rattle.flp.specs.Bits.{bits}
use Rattle.flp.specs.Encode.{sq_norm}
use Rattle.octets.specs.Octets.{from_bytes, elements_in}
use Rattle.sampler.specs.Sampler.{kept_of, values_of}
use Rattle.joint_rand.specs.JointRand.{joint_rand_part, joint_rand_seed}
use Rattle.shares.specs.Shares.{wr_blind₀, wr_blind₁, wr_joint_rand, helper_bytes, gradient_and_norm_len, with_norm}

abbrev counted : (n : ℕ) → List ℕ
counted zero = []
counted (suc n) = counted n ++ (n ∷ [])

first_bytes : helper_bytes 2 (counted 80) ≡ 0xc8 ∷ 0xc9 ∷ 0x10 ∷ 0x8d ∷ 0xb8 ∷ 0x75 ∷ 0xdf ∷ 0x7b ∷ 0x83 ∷ 0x5e ∷ 0xfa ∷ 0xad ∷ 0x07 ∷ 0x53 ∷ 0x44 ∷ 0xb4 ∷ []
unfolding turbo_shake128 keccak_p round_of
first_bytes = refl

first_values : values_of p64 2 (0xc8 ∷ 0xc9 ∷ 0x10 ∷ 0x8d ∷ 0xb8 ∷ 0x75 ∷ 0xdf ∷ 0x7b ∷ 0x83 ∷ 0x5e ∷ 0xfa ∷ 0xad ∷ 0x07 ∷ 0x53 ∷ 0x44 ∷ 0xb4 ∷ []) ≡ 0x7bdf75b88d10c9c8 ∷ 0xb4445307adfa5e83 ∷ []
unfolding values_of kept_of elements_in from_bytes
first_values = refl

-- the measurement's first elements: 1, then v = 1 and u = 0 as a bit each
abbrev param : PineParam
param = standard 1 1 0 1 1 1 1

how_many : gradient_and_norm_len param ≡ 3
unfolding sq_norm_bits_of sq_norm_bound_of digits halvings
how_many = refl

first_elements : with_norm p64 param (1 ∷ []) ≡ 1 ∷ 1 ∷ 0 ∷ []
unfolding sq_norm_bits_of sq_norm_bound_of digits halvings sq_norm evaluate bits
first_elements = refl

abbrev leader : List ℕ
leader = 0x84208a4672ef363a ∷ 0x4bbbacf75205a17f ∷ 0xb5997be8bc7704c0 ∷ []

abbrev helper : List ℕ
helper = 0x7bdf75b88d10c9c8 ∷ 0xb4445307adfa5e83 ∷ 0x4a6684164388fb41 ∷ []

leader_part : joint_rand_part 10 0 (wr_blind₀ (counted 80)) (counted 16) leader ≡ 0x61 ∷ 0xf3 ∷ 0x73 ∷ 0xe2 ∷ 0x60 ∷ 0x88 ∷ 0x00 ∷ 0x86 ∷ 0x43 ∷ 0x8a ∷ 0xf5 ∷ 0xc6 ∷ 0xdb ∷ 0xcc ∷ 0x93 ∷ 0xd4 ∷ []
unfolding joint_rand_part turbo_shake128 keccak_p round_of
leader_part = refl

helper_part : joint_rand_part 10 1 (wr_blind₁ (counted 80)) (counted 16) helper ≡ 0x50 ∷ 0xdd ∷ 0x9e ∷ 0x94 ∷ 0xea ∷ 0xf9 ∷ 0x6f ∷ 0xa8 ∷ 0xa7 ∷ 0xab ∷ 0x97 ∷ 0xf6 ∷ 0x62 ∷ 0x3c ∷ 0x4a ∷ 0x10 ∷ []
unfolding joint_rand_part turbo_shake128 keccak_p round_of
helper_part = refl

both : joint_rand_seed 9 (0x61 ∷ 0xf3 ∷ 0x73 ∷ 0xe2 ∷ 0x60 ∷ 0x88 ∷ 0x00 ∷ 0x86 ∷ 0x43 ∷ 0x8a ∷ 0xf5 ∷ 0xc6 ∷ 0xdb ∷ 0xcc ∷ 0x93 ∷ 0xd4 ∷ []) (0x50 ∷ 0xdd ∷ 0x9e ∷ 0x94 ∷ 0xea ∷ 0xf9 ∷ 0x6f ∷ 0xa8 ∷ 0xa7 ∷ 0xab ∷ 0x97 ∷ 0xf6 ∷ 0x62 ∷ 0x3c ∷ 0x4a ∷ 0x10 ∷ [])
    ≡ 0x42 ∷ 0x23 ∷ 0x64 ∷ 0x15 ∷ 0xeb ∷ 0xd0 ∷ 0x25 ∷ 0x39 ∷ 0x32 ∷ 0x40 ∷ 0x6b ∷ 0xb3 ∷ 0xb4 ∷ 0xae ∷ 0xd5 ∷ 0x6e ∷ []
unfolding joint_rand_seed turbo_shake128 keccak_p round_of
both = refl

wraparound_seed : wr_joint_rand (counted 16) (counted 80) leader helper ≡ 0x42 ∷ 0x23 ∷ 0x64 ∷ 0x15 ∷ 0xeb ∷ 0xd0 ∷ 0x25 ∷ 0x39 ∷ 0x32 ∷ 0x40 ∷ 0x6b ∷ 0xb3 ∷ 0xb4 ∷ 0xae ∷ 0xd5 ∷ 0x6e ∷ []
wraparound_seed = ap₂ (joint_rand_seed 9) leader_part helper_part ∙ both
