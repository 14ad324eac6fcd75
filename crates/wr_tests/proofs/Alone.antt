-- The cases of the tests alone. Assumes nothing.
use mathlib.Core.Path.{◌≡◌, sym, ap, ◌∙◌}
use mathlib.Core.List.{List}
use Prim.Native.Nat.{ℕ, ◌+◌, ◌*◌, ◌/◌, ◌≤◌, ◌<◌}
use native.Mathlib.Omega.{arith}
use lib.ListN.{length}
use lib.Dec.{ltb}
use borrow.Author.Tests.{eq-eqb, ne_eqb}
use Rattle.rules.specs.declared.Answer.{Answer}
use Rattle.rules.specs.Rules.{first, in_order}
use Rattle.rules.proofs.Chain.{passed, refuse_last}
use Rattle.pine.specs.declared.PineParam.{PineParam}
use Rattle.pine.specs.Param.{Field, param_answer}
use Rattle.pine.specs.Words.{WordLaws}
use Rattle.pine.specs.Record.{bytes_per_test, stream_len_of}
use Rattle.rows.specs.Rows.{first_bad, row_rule, elements_rule, Below}
use Rattle.rows.specs.Outcome.{outcome}
use Rattle.pine.proofs.Limits.{limits}
use Rattle.rows.proofs.Lengths.{row_right}
use Rattle.rows.proofs.Elements.{elements_below}
use Rattle.flp.specs.Tests.{tests_of, run_tests_rules, run_tests_of}
use Rattle.wr_joint_rand.proofs.Blocks.{some_bytes}

module _ (F : Field) (i : PineParam) (xs s d : List ℕ) where
  -- the answer to the rules after the first six
  pub tests_answer : (a a₂ : Answer) → (param_answer F i).number ≡ 0
      → a₂ ≡ row_rule 2 (length s) (stream_len_of i.num_wr_tests i.dimension)
      → a ≡ first (row_rule 1 (length xs) (F.words_in i.dimension)) (first a₂ (first (row_rule 3 (length d) (F.words_in i.num_wr_tests)) (elements_rule F.p (F.elements xs))))
      → a ≡ in_order (run_tests_rules F i xs s d)
  unfolding run_tests_rules
  tests_answer a a₂ h e₂ e = e ∙ simp (e₂, eq-eqb _ _ h, refuse_last (ltb (first_bad F.p (F.elements xs)) (length (F.elements xs))) 11 (0 + first_bad F.p (F.elements xs)))

  -- one of the first six is broken
  pub stopped : (a : Answer) → a ≡ param_answer F i → (a.number ≡ 0 → ⊥) → a ≡ in_order (run_tests_rules F i xs s d)
  unfolding run_tests_rules
  stopped a e h = simp (← e, ne_eqb a.number 0 h)

  module _ (a : Answer) (e : a ≡ in_order (run_tests_rules F i xs s d)) where
    pub refused : (a.number ≡ 0 → ⊥) → outcome a d ≡ run_tests_of F i xs s d
    unfolding run_tests_of
    refused f = simp (← e, ne_eqb a.number 0 f)

    module _ (z : a.number ≡ 0) where
      pub record Met : Type 0 where
        pub dimension : (0 < i.dimension) × (i.dimension ≤ 65536)
        pub tests : (0 < i.num_wr_tests) × (i.num_wr_tests ≤ 256)
        pub row_1 : length xs ≡ F.words_in i.dimension
        pub row_2 : length s ≡ stream_len_of i.num_wr_tests i.dimension
        pub row_3 : length d ≡ F.words_in i.num_wr_tests
        pub below : Below F.p (F.elements xs)

      pub met : Met
      unfolding run_tests_rules
      met =
          let h = passed (run_tests_rules F i xs s d) (ap (λ (b : Answer). b.number) (sym e) ∙ z) in
          record { dimension = (limits F i h.0).dimension; tests = (limits F i h.0).tests; row_1 = row_right 1 _ _ h.1.0; row_2 = row_right 2 _ _ h.1.1.0; row_3 = row_right 3 _ _ h.1.1.1.0; below = elements_below F.p 0 (F.elements xs) h.1.1.1.1.0 }

      -- how many elements the rows have
      module _ (laws : WordLaws F) where
        abbrev n : ℕ
        n = length (F.elements xs)

        abbrev t : ℕ
        t = length (F.elements d)

        gradient_long : n ≡ i.dimension
        gradient_long = laws.counted xs i.dimension met.row_1

        results_long : t ≡ i.num_wr_tests
        results_long = laws.counted d i.num_wr_tests met.row_3

        -- the tests have room, and take the whole stream
        pub record Room : Type 0 where
          pub whole : t * ((n + 3) / 4) ≡ stream_len_of i.num_wr_tests i.dimension
          pub some : 0 < stream_len_of i.num_wr_tests i.dimension
          pub tests : (0 < t) × (t ≤ 256)
          pub per : ((0 < (n + 3) / 4) × ((n + 3) / 4 ≤ 16384)) × (n ≤ 4 * ((n + 3) / 4))

        pub room : Room
        room = record {
          whole = λ j. results_long j * bytes_per_test (gradient_long j);
          some = some_bytes i.num_wr_tests (bytes_per_test i.dimension) met.tests.0 (omega (arith, met.dimension));
          tests = (omega (arith, results_long, met.tests), omega (arith, results_long, met.tests));
          per = ((omega (arith, gradient_long, met.dimension), omega (arith, gradient_long, met.dimension)), omega arith);
        }

        pub done : (r : List ℕ) → r ≡ F.words (tests_of F.p ((n + 3) / 4) t s (F.elements xs)) → outcome a r ≡ run_tests_of F i xs s d
        unfolding run_tests_of
        done r q =
            let f : r ≡ F.words (tests_of F.p (bytes_per_test i.dimension) i.num_wr_tests s (F.elements xs)) = q ∙ (λ j. F.words (tests_of F.p (bytes_per_test (gradient_long j)) (results_long j) s (F.elements xs))) in
            simp (f, ← e, eq-eqb a.number 0 z)
