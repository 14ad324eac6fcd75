-- `sampler::read_and_keep` meets its contract. Assumes nothing.
use mathlib.Core.Path.{ap, ◌∙◌}
use mathlib.Core.List.{List}
use Prim.Native.Nat.{ℕ}
use lib.ListN.{length}
use Rattle.field64.specs.Field.{p64}
use Rattle.sampler.specs.Sampler.{kept_of, values_of}
use Rattle.sampler.proofs.read_and_keep.Goals as goal

pub returns : goal.returns
unfolding values_of
returns c =
    let r = c.read_elements.ensures in
    let k = c.keep.ensures in
    (k.0 ∙ ap (kept_of p64) r, k.1 ∙ ap (λ (xs : List ℕ). length (kept_of p64 xs)) r)
