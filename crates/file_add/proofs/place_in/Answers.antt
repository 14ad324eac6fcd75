-- `file_add::place_in` meets its contract. Assumes nothing.
use mathlib.Core.Path.{ap, ◌∙◌}
use Prim.Native.Nat.{ℕ, ◌+◌, ◌-◌, ◌*◌}
use native.Mathlib.Omega.{arith}
use lib.ListN.{take, drop}
use Rattle.field64.specs.Field.{p64}
use Rattle.file_add.specs.Steps.{place_of}
use Rattle.file_add.proofs.Places.{contents_fit, contents_long, contents_rise, place_in_lem}
use Rattle.file_add.proofs.place_in.Goals as goal

pub slice_bounds-place_of-end : goal.slice_bounds-place_of-end
slice_bounds-place_of-end c =
    omega (arith, contents_fit p64 c.args.dimension c.args.file.now c.requires.0 _ c.count_of-count.ensures.0)

pub place_of-requires : goal.place_of-requires
place_of-requires c =
    (contents_long p64 c.args.dimension c.args.file.now c.requires.0 _ c.count_of-count.ensures.0, contents_rise p64 c.args.dimension c.args.file.now c.requires.0 _ c.count_of-count.ensures.0)

pub returns : goal.returns
returns c =
    let n = c.count_of-count.result in
    (place_in_lem p64 c.args.dimension c.args.file.now c.requires.0 n c.count_of-count.ensures.0 _ _ (c.place_of.ensures.0 ∙ ap (λ (k : ℕ). place_of n (take (6 + 12 * n - 6) (drop 6 c.args.file.now)) k) c.key_number.ensures), c.place_of.ensures.1)
