-- The wraparound joint randomness: the bytes of the wraparound tests (docs/PINE.md, "The stream of a seed"). Assumes nothing.
use Rattle.std.specs.Prelude.{Bool, cond, List, [], ℕ, length, eqb}
use Rattle.xof.specs.Xof.{algorithm_id, dst, xof_turbo_shake128}

-- the n bytes that a seed makes: XofTurboShake128 under the usage 8, with no binder. A row that is no seed, for it has not 16 bytes, makes none, and no stream of a report is that short
unfoldable pub wr_stream : (n : ℕ) (seed : List ℕ) → List ℕ
wr_stream n seed = cond (eqb (length seed) 16) (xof_turbo_shake128 seed (dst algorithm_id 8) [] n) []

-- the bytes of a row that has a seed, or is the stream itself
abbrev pub stream_from : (seeded : Bool) (n : ℕ) (row : List ℕ) → List ℕ
stream_from seeded n row = cond seeded (wr_stream n row) row
