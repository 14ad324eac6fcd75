-- The weights of the pairs of bits. No public contract cites these. Assumes nothing.
use Rattle.std.specs.Prelude.{◌≡◌, ℕ, ◌+◌, ◌*◌, ◌/◌, ◌%◌, ◌<◌, cond, List, map, get_or, set, eqb}
use Rattle.flp.specs.Tests.{pairs}

-- what a pair makes of a coordinate is this times the coordinate, less the coordinate
abbrev pub weight : (pair : ℕ) → ℕ
weight c = cond (eqb c 0) 0 (cond (eqb c 3) 2 1)

abbrev pub weights_of : (bytes : List ℕ) → List ℕ
weights_of bytes = map weight (pairs bytes)

-- entry h, of three each, begins with the weights of the two pairs of half a byte
abbrev pub PairWeights : (table : List ℕ) → Type 0
PairWeights t = (h : ℕ) → h < 16 → (get_or t (3 * h) 0 ≡ weight (h % 4)) × (get_or t (3 * h + 1) 0 ≡ weight (h / 4))

-- a row with the weights of a byte's four pairs from start on
abbrev pub written_at : (byte start : ℕ) (row : List ℕ) → List ℕ
written_at b start row = set (set (set (set row start (weight (b % 4))) (start + 1) (weight (b / 4 % 4))) (start + 2) (weight (b / 16 % 4))) (start + 3) (weight (b / 64 % 4))
