-- Worked examples of the definitions, computed. Assumes nothing.
use Rattle.std.proofs.Common.{◌≡◌, ◌+◌, ◌*◌, ◌^◌, [], ◌∷◌, refl}
use Rattle.rules.specs.Rules.{answer, accepted}
use Rattle.rows.specs.Rows.{elements_from, elements_rule, add_rows, sub_rows}
use Rattle.field128.specs.Field128.{p128, elements_of, words_of}

record Examples : Type 0 where
  -- the low word comes first, and one that is left over is none
  pairs : elements_of (5 ∷ 7 ∷ 6 ∷ 0 ∷ 9 ∷ []) ≡ (7 * 2 ^ 64 + 5) ∷ 6 ∷ []
  words : words_of ((7 * 2 ^ 64 + 5) ∷ 6 ∷ []) ≡ 5 ∷ 7 ∷ 6 ∷ 0 ∷ []
  modulus : words_of (p128 ∷ []) ≡ 1 ∷ 18446744073709551588 ∷ []
  -- p - 1 and p: places count elements
  last : elements_rule p128 (elements_of (0 ∷ 18446744073709551588 ∷ [])) ≡ accepted
  second : elements_rule p128 (elements_of (0 ∷ 18446744073709551588 ∷ 1 ∷ 18446744073709551588 ∷ [])) ≡ answer 12 1
  counted_on : elements_from p128 50 (elements_of (0 ∷ 18446744073709551589 ∷ [])) ≡ answer 12 50
  -- a carry from the lower word, a sum that passes p, and a difference below 0
  carry : words_of (add_rows p128 (elements_of (18446744073709551615 ∷ 0 ∷ [])) (elements_of (1 ∷ 0 ∷ []))) ≡ 0 ∷ 1 ∷ []
  beyond : words_of (add_rows p128 (elements_of (0 ∷ 18446744073709551588 ∷ [])) (elements_of (3 ∷ 0 ∷ []))) ≡ 2 ∷ 0 ∷ []
  below : words_of (sub_rows p128 (elements_of (0 ∷ 0 ∷ [])) (elements_of (2 ∷ 0 ∷ []))) ≡ 18446744073709551615 ∷ 18446744073709551587 ∷ []

examples : Examples
examples = record { pairs = refl; words = refl; modulus = refl; last = refl; second = refl; counted_on = refl; carry = refl; beyond = refl; below = refl }
