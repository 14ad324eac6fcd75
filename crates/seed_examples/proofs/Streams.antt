-- Computed examples of a seed's stream; oracle/original answers the first. Assumes nothing.
use mathlib.Core.Path.{◌≡◌, refl}
use mathlib.Core.List.{[], ◌∷◌}
use Rattle.keccak.specs.Keccak.{round_of, keccak_p}
use Rattle.turboshake.specs.TurboShake.{turbo_shake128}
use Rattle.wr_joint_rand.specs.WrJointRand.{wr_stream}

-- the first eight bytes of the seed 00 01 02 .. 0f
sixteen : wr_stream 8 (0 ∷ 1 ∷ 2 ∷ 3 ∷ 4 ∷ 5 ∷ 6 ∷ 7 ∷ 8 ∷ 9 ∷ 10 ∷ 11 ∷ 12 ∷ 13 ∷ 14 ∷ 15 ∷ []) ≡ 0x60 ∷ 0xaf ∷ 0x83 ∷ 0x40 ∷ 0xc2 ∷ 0xb0 ∷ 0x2d ∷ 0xf1 ∷ []
unfolding wr_stream turbo_shake128 keccak_p round_of
sixteen = refl

-- fifteen bytes, and seventeen, are no seed
fifteen : wr_stream 8 (0 ∷ 1 ∷ 2 ∷ 3 ∷ 4 ∷ 5 ∷ 6 ∷ 7 ∷ 8 ∷ 9 ∷ 10 ∷ 11 ∷ 12 ∷ 13 ∷ 14 ∷ []) ≡ []
unfolding wr_stream
fifteen = refl

seventeen : wr_stream 8 (0 ∷ 1 ∷ 2 ∷ 3 ∷ 4 ∷ 5 ∷ 6 ∷ 7 ∷ 8 ∷ 9 ∷ 10 ∷ 11 ∷ 12 ∷ 13 ∷ 14 ∷ 15 ∷ 16 ∷ []) ≡ []
unfolding wr_stream
seventeen = refl
