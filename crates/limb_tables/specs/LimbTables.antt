-- Tables of the three limbs of elements, in one row. No public contract cites these. Assumes nothing.
use Rattle.std.specs.Prelude.{ℕ, ◌^◌, List, drop}
use Rattle.tables.specs.Tables.{Tables}
use Rattle.limbs.specs.Limbs.{limbs}

-- the tables of the low limbs of xs, those of the middle ones and those of the high ones: 256 words for each limb
abbrev pub LimbTables : (count : ℕ) (xs row : List ℕ) → Type 0
LimbTables count xs row = Tables (2 ^ 64) count (limbs 0 xs) (drop 0 row) × (Tables (2 ^ 64) count (limbs 1 xs) (drop 256 row) × Tables (2 ^ 64) count (limbs 2 xs) (drop 512 row))
