-- `wr_parts::take_all` meets its contract. Assumes nothing.
use mathlib.Core.Path.{◌≡◌}
use lib.ListN.{length}
use Rattle.std.specs.Slice.Iter.{chunks_rest, chunks_size}
use Rattle.field64.specs.Field.{p64}
use Rattle.wr_parts.proofs.Taking.{Took}
use Rattle.wr_parts.proofs.take_all.Given as goal

abbrev pub invariant-loop-piece : goal.invariant-loop-piece
invariant-loop-piece l =
    goal.iterator-loop-piece.can_next l.piece-iterator × goal.iterator-loop-piece.is_finite l.piece-iterator × (chunks_size l.piece-iterator ≡ 63)
    × (length l.row ≡ 64) × Took p64 l.frac_bits l.initial.parts l.gradient l.parts (chunks_rest l.piece-iterator)
