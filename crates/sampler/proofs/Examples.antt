-- Computed examples: the order of the bytes, p itself, and both sides of the drawing limit. Assumes nothing.
use mathlib.Core.Path.{◌≡◌, refl}
use mathlib.Core.List.{[], ◌∷◌, ◌++◌}
use Prim.Native.Nat.{◌-◌}
use lib.ListN.{replicate}
use Rattle.rules.specs.Rules.{answer, accepted}
use Rattle.field64.specs.Field.{p64}
use Rattle.octets.specs.Octets.{from_bytes, elements_in}
use Rattle.sampler.specs.Sampler.{kept_of, values_of, sampled, draws_rule}

low_byte_first : values_of p64 1 (1 ∷ 2 ∷ 0 ∷ 0 ∷ 0 ∷ 0 ∷ 0 ∷ 0 ∷ []) ≡ 513 ∷ []
unfolding values_of kept_of elements_in from_bytes
low_byte_first = refl

-- p, p - 1 and 9: the first is skipped
skipped : values_of p64 3 (1 ∷ 0 ∷ 0 ∷ 0 ∷ 255 ∷ 255 ∷ 255 ∷ 255 ∷ 0 ∷ 0 ∷ 0 ∷ 0 ∷ 255 ∷ 255 ∷ 255 ∷ 255 ∷ 9 ∷ 0 ∷ 0 ∷ 0 ∷ 0 ∷ 0 ∷ 0 ∷ 0 ∷ []) ≡ (p64 - 1) ∷ 9 ∷ []
unfolding values_of kept_of elements_in from_bytes
skipped = refl

-- one element: the 65th value is looked at, and the 66th is not
last_draw : sampled p64 1 (replicate 512 255 ++ (7 ∷ 0 ∷ 0 ∷ 0 ∷ 0 ∷ 0 ∷ 0 ∷ 0 ∷ [])) ≡ 7 ∷ []
unfolding sampled values_of kept_of elements_in from_bytes
last_draw = refl

last_draw_passes : draws_rule p64 1 (replicate 512 255 ++ (7 ∷ 0 ∷ 0 ∷ 0 ∷ 0 ∷ 0 ∷ 0 ∷ 0 ∷ [])) ≡ accepted
unfolding draws_rule values_of kept_of elements_in from_bytes
last_draw_passes = refl

one_late : draws_rule p64 1 (replicate 520 255 ++ (7 ∷ 0 ∷ 0 ∷ 0 ∷ 0 ∷ 0 ∷ 0 ∷ 0 ∷ [])) ≡ answer 18 0
unfolding draws_rule values_of kept_of elements_in from_bytes
one_late = refl
