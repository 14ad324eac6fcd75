-- Rows that a caller lends to the tests tile by tile. No public contract cites these. Assumes nothing.
use Rattle.std.specs.Prelude.{List, ℕ, ◌≤◌, length}

-- rows that are long enough for a block of T tests: 26 words of state and 128 bytes of tile for each of 50
abbrev pub BlockRows : (T : ℕ) (states buffer : List ℕ) → Type 0
BlockRows T states buffer = (T ≤ 50) × ((1300 ≤ length states) × (6400 ≤ length buffer))
