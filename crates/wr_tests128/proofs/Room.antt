-- The tests alone over rows of two words to an element: what is asked for them is there, and what they leave is the call's. Assumes nothing.
use mathlib.Core.Path.{◌≡◌, sym, ap, ◌∙◌}
use mathlib.Core.List.{List}
use Prim.Native.Nat.{ℕ, ◌+◌, ◌*◌, ◌/◌, ◌≤◌}
use native.Mathlib.Nat.{le_of_eq}
use native.Mathlib.Omega.{arith}
use lib.ListN.{length}
use Rattle.rules.specs.declared.Answer.{Answer}
use Rattle.rules.specs.Rules.{in_order}
use Rattle.rows.specs.Rows.{Below}
use Rattle.rows.specs.Outcome.{outcome}
use Rattle.pine.specs.declared.PineParam.{PineParam}
use Rattle.flp.specs.Tests.{tests_of, run_tests_rules, run_tests_of}
use Rattle.field128.specs.Field128.{p128, elements_of, words_of, Whole}
use Rattle.field128.proofs.Pairs.{elements_length, whole_twice}
use Rattle.params128.specs.Field128.{Field128}
use Rattle.params128.proofs.Limits.{words_128}
use Rattle.wr_tests.proofs.Alone.{met, room, done}

module _ (i : PineParam) (xs s d : List ℕ) (a : Answer) (e : a ≡ in_order (run_tests_rules Field128 i xs s d)) (z : a.number ≡ 0) where
  -- the bytes of a test, by the gradient's words
  abbrev per : ℕ
  per = (length xs / 2 + 3) / 4

  per_is : (length (elements_of xs) + 3) / 4 ≡ per
  per_is = ap (λ (n : ℕ). (n + 3) / 4) (elements_length xs)

  pub asked : ((length (elements_of d) * per ≤ length s) × ((length (elements_of xs) ≤ 4 * per) × (per ≤ 16384))) × ((Whole d × (length (elements_of d) ≤ 256)) × Below p128 (elements_of xs))
  asked =
      let m = met Field128 i xs s d a e z in
      let w = room Field128 i xs s d a e z words_128 in
      let whole : length (elements_of d) * per ≡ length s = ap (λ (n : ℕ). length (elements_of d) * n) (sym per_is) ∙ w.whole ∙ sym m.row_2 in
      ((le_of_eq whole, (omega (arith, per_is, w.per.1), omega (arith, per_is, w.per.0.1))), (((whole_twice d _ m.row_3).0, w.tests.1), m.below))

  pub left : (r : List ℕ) → r ≡ words_of (tests_of p128 per (length (elements_of d)) s (elements_of xs)) → outcome a r ≡ run_tests_of Field128 i xs s d
  left r q = done Field128 i xs s d a e z words_128 r (q ∙ ap (λ (n : ℕ). words_of (tests_of p128 n (length (elements_of d)) s (elements_of xs))) (sym per_is))
