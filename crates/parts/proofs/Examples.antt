-- Worked examples of a part by its place, computed and written out by fields: in contracts the name `named` stands beside a definition that is made by the same `outcome`. Assumes nothing.
use mathlib.Core.Path.{◌≡◌, refl}
use mathlib.Core.List.{[], ◌∷◌}
use Rattle.rules.specs.Rules.{answer, accepted}
use Rattle.parts.specs.Places.{part_at, named}

record Parts : Type 0 where
  taken : part_at accepted 1 2 ≡ record { answer = record { number = 0; place = 0 }; start = 1; len = 2 }
  refused : part_at (answer 12 4) 1 2 ≡ record { answer = record { number = 12; place = 4 }; start = 0; len = 0 }
  there : named (part_at accepted 1 2) (5 ∷ 6 ∷ 7 ∷ 8 ∷ []) ≡ record { answer = record { number = 0; place = 0 }; row = 6 ∷ 7 ∷ [] }
  none : named (part_at (answer 12 4) 1 2) (5 ∷ 6 ∷ 7 ∷ 8 ∷ []) ≡ record { answer = record { number = 12; place = 4 }; row = [] }

parts : Parts
parts = record { taken = refl; refused = refl; there = refl; none = refl }
