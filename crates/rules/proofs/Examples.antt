-- Worked examples of the definitions, computed. An answer is written out by its fields here: elsewhere the name `answer` stands on both sides of an equation, where nothing holds it to its sense.
-- Assumes nothing.
use mathlib.Core.Path.{◌≡◌, refl}
use mathlib.Core.Bool.{true, false}
use mathlib.Core.List.{[], ◌∷◌}
use Rattle.rules.specs.Rules.{answer, accepted, refuse, first, in_order}

record Answers : Type 0 where
  refused : answer 12 3 ≡ record { number = 12; place = 3 }
  taken : accepted ≡ record { number = 0; place = 0 }
  broken : refuse true 11 5 ≡ record { number = 11; place = 5 }
  kept : refuse false 11 5 ≡ record { number = 0; place = 0 }
  earlier : first (answer 7 2) (answer 12 3) ≡ record { number = 7; place = 2 }
  later : first accepted (answer 12 3) ≡ record { number = 12; place = 3 }
  in_order_lem : in_order (accepted ∷ answer 8 4 ∷ answer 9 0 ∷ []) ≡ record { number = 8; place = 4 }

answers : Answers
answers = record { refused = refl; taken = refl; broken = refl; kept = refl; earlier = refl; later = refl; in_order_lem = refl }
