-- The wraparound tests (docs/PINE.md, "The wraparound tests"). Assumes nothing.
use Rattle.std.specs.Prelude.{ℕ, ◌/◌, ◌%◌, cond, List, [], ◌∷◌, map, length, eqb}
use Rattle.rules.specs.declared.Answer.{Answer}
use Rattle.rules.specs.Rules.{in_order}
use Rattle.field64.specs.Field.{sub_mod}
use Rattle.field64.specs.Sums.{total}
use Rattle.pine.specs.declared.PineParam.{PineParam}
use Rattle.pine.specs.Param.{Field, param_answer}
use Rattle.pine.specs.Record.{bytes_per_test, stream_len_of}
use Rattle.rows.specs.Rows.{row_rule, elements_rule}
use Rattle.rows.specs.Outcome.{Outcome, finish}
use Rattle.flp.specs.Bits.{groups}

-- the pairs of bits of bytes: of each, bits 0 and 1, bits 2 and 3, bits 4 and 5, bits 6 and 7
unfoldable pub pairs : List ℕ → List ℕ
pairs [] = []
pairs (b ∷ bs) = b % 4 ∷ b / 4 % 4 ∷ b / 16 % 4 ∷ b / 64 % 4 ∷ pairs bs

-- pair 0 subtracts the coordinate, 3 adds it, 1 and 2 skip it
unfoldable pub weighed : (p pair x : ℕ) → ℕ
weighed p pair x = cond (eqb pair 0) (sub_mod p 0 x) (cond (eqb pair 3) x 0)

-- each coordinate by its pair; pairs that are left over have no coordinate
unfoldable pub weigh : (p : ℕ) (pairs xs : List ℕ) → List ℕ
weigh p [] xs = []
weigh p (c ∷ cs) [] = []
weigh p (c ∷ cs) (x ∷ xs) = weighed p c x ∷ weigh p cs xs

-- the result of one test, with its part of the stream
unfoldable pub test_of : (p : ℕ) (xs bytes : List ℕ) → ℕ
test_of p xs bytes = total p (weigh p (pairs bytes) xs)

-- the results of T tests on these elements: each takes the stream's next `per` bytes
unfoldable pub tests_of : (p per T : ℕ) (stream xs : List ℕ) → List ℕ
tests_of p per T stream xs = map (test_of p xs) (groups per T stream)

-- what `run_wr_tests` answers: tests alone, on a row of gradient elements, with the results' row as found
module _ (F : Field) (i : PineParam) (gradient stream results : List ℕ) where
  -- the rules in their order
  unfoldable pub run_tests_rules : List Answer
  run_tests_rules =
      param_answer F i
      ∷ row_rule 1 (length gradient) (F.words_in i.dimension)
      ∷ row_rule 2 (length stream) (stream_len_of i.num_wr_tests i.dimension)
      ∷ row_rule 3 (length results) (F.words_in i.num_wr_tests)
      ∷ elements_rule F.p (F.elements gradient)
      ∷ []

  unfoldable pub run_tests_of : Outcome
  run_tests_of = finish (in_order run_tests_rules) (F.words (tests_of F.p (bytes_per_test i.dimension) i.num_wr_tests stream (F.elements gradient))) results
