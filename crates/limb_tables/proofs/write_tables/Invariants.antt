-- `limb_tables::write_tables` meets its contract. Assumes nothing.
use Rattle.std.proofs.Common.{◌≡◌, ℕ, ◌^◌, ◌<◌, length, get_or, drop}
use Rattle.tables.specs.Tables.{Tables}
use Rattle.limb_tables.proofs.write_tables.Given as goal

abbrev pub invariant-loop-i : goal.invariant-loop-i
invariant-loop-i l = (length l.tables ≡ length l.initial.tables) × (Tables (2 ^ 64) l.i l.xs (drop l.base l.tables) × ((n : ℕ) → n < l.base → get_or l.tables n 0 ≡ get_or l.initial.tables n 0))
