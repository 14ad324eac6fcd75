-- XofTurboShake128 of the VDAF draft, and the tag that `dst` of pine/mod.rs makes. Assumes nothing.
use Rattle.std.specs.Prelude.{List, ◌∷◌, ◌++◌, reverse, ℕ, length}
use Rattle.turboshake.specs.TurboShake.{low_bytes, turbo_shake128}

-- the algorithm id of `new_64`
abbrev pub algorithm_id : ℕ
algorithm_id = 0xffffffff

-- the tag: a version byte, the algorithm id in four bytes and the usage in two, the high byte first
abbrev pub dst : (algorithm_id usage : ℕ) → List ℕ
dst id usage = 1 ∷ (reverse (low_bytes 4 id) ++ reverse (low_bytes 2 usage))

-- what is absorbed before the binder: a byte with the tag's length, the tag and the seed
abbrev pub before_binder : (seed dst : List ℕ) → List ℕ
before_binder seed dst = length dst ∷ (dst ++ seed)

-- the first n bytes of the stream: TurboSHAKE128 with the domain byte 1
abbrev pub xof_turbo_shake128 : (seed dst binder : List ℕ) (n : ℕ) → List ℕ
xof_turbo_shake128 seed dst binder n = turbo_shake128 (before_binder seed dst ++ binder) 1 n
