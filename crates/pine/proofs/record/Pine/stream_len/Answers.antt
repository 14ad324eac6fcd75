-- `pine::record::Pine::stream_len` meets its contract. Assumes nothing.
use Prim.Native.Nat.{◌≤◌}
use native.Mathlib.Nat.{mul-le-mul, lt_of_le_of_lt}
use native.Mathlib.Omega.{arith}
use lib.Dec.{lit<}
use Rattle.pine.proofs.Sizes.{small}
use Rattle.pine.proofs.record.Pine.stream_len.Goals as goal

pub chunk_count-requires : goal.chunk_count-requires
chunk_count-requires c = (omega arith, (omega arith, omega (arith, small c.args.self c.requires)))

pub overflow_mul-result : goal.overflow_mul-result
overflow_mul-result c =
    let k = small c.args.self c.requires in
    let h : c.chunk_count.result ≤ 65536 = omega (arith, c.chunk_count.ensures, k.dimension) in
    record { fits = lt_of_le_of_lt (mul-le-mul k.tests h) (lit< tt) }
