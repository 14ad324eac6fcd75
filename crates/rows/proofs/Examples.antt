-- Worked examples of the definitions, computed. What a call gives is written out by its fields here: in contracts the name `outcome` stands on both sides, where nothing holds it to its sense.
-- Assumes nothing.
use Rattle.std.proofs.Common.{◌≡◌, ◌+◌, ◌-◌, [], ◌∷◌, ◌++◌, refl}
use Rattle.rules.specs.Rules.{answer, accepted}
use Rattle.field64.specs.Field.{p64}
use Rattle.rows.specs.Rows.{row_rule, elements_from, elements_rule, add_rows}
use Rattle.rows.specs.Outcome.{outcome, finish}

record Outcomes : Type 0 where
  refused : outcome (answer 12 3) (5 ∷ 6 ∷ []) ≡ record { answer = record { number = 12; place = 3 }; row = 5 ∷ 6 ∷ [] }
  taken : outcome accepted (5 ∷ 6 ∷ []) ≡ record { answer = record { number = 0; place = 0 }; row = 5 ∷ 6 ∷ [] }
  kept : finish (answer 7 2) (1 ∷ []) (9 ∷ []) ≡ record { answer = record { number = 7; place = 2 }; row = 9 ∷ [] }
  done : finish accepted (1 ∷ []) (9 ∷ []) ≡ record { answer = record { number = 0; place = 0 }; row = 1 ∷ [] }

outcomes : Outcomes
outcomes = record { refused = refl; taken = refl; kept = refl; done = refl }

-- ---- the rules on rows, and adding
record Rules : Type 0 where
  long : row_rule 2 4 3 ≡ answer 7 2
  just : row_rule 2 3 3 ≡ accepted
  -- the last element of the second of two rows joined, after one that is just below p
  second_row : elements_rule p64 ((1 ∷ 2 ∷ []) ++ ((p64 - 1) ∷ p64 ∷ [])) ≡ answer 12 3
  -- the first of two
  first_one : elements_rule p64 (1 ∷ p64 ∷ (p64 + 1) ∷ []) ≡ answer 12 1
  counted_on : elements_from p64 50 (1 ∷ p64 ∷ []) ≡ answer 12 51
  good : elements_rule p64 (0 ∷ (p64 - 1) ∷ []) ≡ accepted
  sums : add_rows p64 (1 ∷ (p64 - 1) ∷ []) (5 ∷ 3 ∷ []) ≡ 6 ∷ 2 ∷ []

rules : Rules
rules = record { long = refl; just = refl; second_row = refl; first_one = refl; counted_on = refl; good = refl; sums = refl }
