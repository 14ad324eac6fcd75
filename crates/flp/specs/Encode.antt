-- Encoding a gradient (docs/PINE.md, "Encoding"). Assumes nothing.
use Rattle.std.specs.Prelude.{ℕ, zero, suc, ◌+◌, ◌-◌, ◌*◌, Bool, true, false, cond, ◌||◌, ◌&&◌, List, [], ◌∷◌, ◌++◌, map, length, nat_abs, eqb, ltb, leb, Float}
use Rattle.rules.specs.declared.Answer.{Answer}
use Rattle.rules.specs.Rules.{answer, accepted, refuse, in_order}
use Rattle.field64.specs.Field.{add_mod, sub_mod, mul_mod}
use Rattle.field64.specs.Sums.{total}
use Rattle.doubles.specs.Doubles.{coordinate_rule, floor_of, element}
use Rattle.pine.specs.declared.PineParam.{PineParam}
use Rattle.pine.specs.declared.WrTestRule.{WrTestRule}
use Rattle.pine.specs.declared.WrTestRule.TheVariants.{Every, Enough}
use Rattle.pine.specs.Param.{Field, param_answer}
use Rattle.pine.specs.Record.{sq_norm_bound_of, sq_norm_bits_of, wr_test_bound, wr_test_bits_of, encoded_input_len_of, bytes_per_test, stream_len_of}
use Rattle.rows.specs.Rows.{row_rule}
use Rattle.flp.specs.Bits.{bits}
use Rattle.flp.specs.Tests.{tests_of}

-- the coordinates as field numbers
unfoldable pub elements : (p f : ℕ) → List Float → List ℕ
elements p f gradient = map (λ x. element p x f) gradient

-- v, the sum of squares in the field
unfoldable pub sq_norm : (p : ℕ) (xs : List ℕ) → ℕ
sq_norm p xs = total p (map (λ x. mul_mod p x x) xs)

-- the true squared norm: the squares of the floors as whole numbers, added without reduction
unfoldable pub true_sq_norm_of : (f : ℕ) → List Float → ℕ
true_sq_norm_of f [] = 0
true_sq_norm_of f (x ∷ xs) = nat_abs (floor_of x f) * nat_abs (floor_of x f) + true_sq_norm_of f xs

-- ---- the tests

-- from -b + 1 to b as a centred number: r is at most b, or r - p at least -b + 1
abbrev pub in_range : (p b r : ℕ) → Bool
in_range p b r = leb r b || ltb p (r + b)

-- how many results are in range
unfoldable pub count_in_range : (p b : ℕ) (results : List ℕ) → ℕ
count_in_range p b [] = 0
count_in_range p b (r ∷ rs) = cond (in_range p b r) (suc (count_in_range p b rs)) (count_in_range p b rs)

-- the number that is written for a result: result + b - 1, or 0 where it is out of range
abbrev pub written : (p b r : ℕ) → ℕ
written p b r = cond (in_range p b r) (add_mod p r (b - 1)) 0

-- the success bit of a test that is in range or not, k of these still to be given
abbrev pub success : (hit : Bool) (k : ℕ) → ℕ
success false k = 0
success true zero = 0
success true (suc k) = 1

-- how many are still to be given after it
abbrev pub still_to_give : (hit : Bool) (k : ℕ) → ℕ
still_to_give hit k = cond hit (k - 1) k

-- per test w bits of its number, low first, then one success bit: of the tests in range the first k have 1, every other test has 0
unfoldable pub test_bits : (p w b k : ℕ) (results : List ℕ) → List ℕ
test_bits p w b k [] = []
test_bits p w b k (r ∷ rs) = bits w (written p b r) ++ (success (in_range p b r) k ∷ test_bits p w b (still_to_give (in_range p b r) k) rs)

-- of a gradient with the elements xs
module _ (p : ℕ) (i : PineParam) (stream xs : List ℕ) where
  -- the results of the tests
  unfoldable pub results_of : List ℕ
  results_of = tests_of p (bytes_per_test i.dimension) i.num_wr_tests stream xs

  -- the measurement: the gradient's elements; v, then u = B - v, as q bits each; the test bits
  unfoldable pub measurement_of : List ℕ
  measurement_of =
      xs
      ++ (bits (sq_norm_bits_of i) (sq_norm p xs)
      ++ (bits (sq_norm_bits_of i) (sub_mod p (sq_norm_bound_of i) (sq_norm p xs))
      ++ test_bits p (wr_test_bits_of i) (wr_test_bound i) i.num_wr_successes results_of))

-- rules 8 and 17: the first coordinate that either refuses, counted from k
unfoldable pub coordinates_rule : (limit f k : ℕ) (gradient : List Float) → Answer
coordinates_rule limit f k [] = accepted
coordinates_rule limit f k (x ∷ xs) = cond (eqb (coordinate_rule limit x f).number 0) (coordinates_rule limit f (suc k) xs) (answer (coordinate_rule limit x f).number k)

-- rule 9
abbrev pub gradient_len_rule : (n d : ℕ) → Answer
gradient_len_rule n d = cond (eqb n d) accepted (answer 9 0)

-- rule 21: where the switch is on, the true squared norm above B
abbrev pub true_sq_norm_rule : (on : Bool) (n B : ℕ) → Answer
true_sq_norm_rule on n B = refuse (on && ltb B n) 21 0

-- rule 10: v above B
abbrev pub sq_norm_rule : (v B : ℕ) → Answer
sq_norm_rule v B = refuse (ltb B v) 10 0

-- rule 11: the first result out of range, counted from k
unfoldable pub every_rule : (p b k : ℕ) (results : List ℕ) → Answer
every_rule p b k [] = accepted
every_rule p b k (r ∷ rs) = cond (in_range p b r) (every_rule p b (suc k) rs) (answer 11 k)

-- rule 20: fewer than K of the results are in range; its place is how many are
unfoldable pub enough_rule : (p b K : ℕ) (results : List ℕ) → Answer
enough_rule p b K rs = refuse (ltb (count_in_range p b rs) K) 20 (count_in_range p b rs)

-- the one that the inputs name
unfoldable pub range_rule : WrTestRule → (p b K : ℕ) (results : List ℕ) → Answer
range_rule Every p b K rs = every_rule p b 0 rs
range_rule Enough p b K rs = enough_rule p b K rs

-- the answer and both rows
pub record Encoded : Type 0 where
  pub answer : Answer
  pub measurement : List ℕ
  pub results : List ℕ

abbrev pub encode_outcome : Answer → (measurement results : List ℕ) → Encoded
encode_outcome a m r = record { answer = a; measurement = m; results = r }

-- what `encode_with_wr_joint_rand` answers, with both rows as found
module _ (F : Field) (i : PineParam) (gradient : List Float) (stream measurement results : List ℕ) where
  -- the rules in their order
  unfoldable pub encode_rules : List Answer
  encode_rules =
      param_answer F i
      ∷ row_rule 2 (length stream) (stream_len_of i.num_wr_tests i.dimension)
      ∷ row_rule 3 (length measurement) (F.words_in (encoded_input_len_of i))
      ∷ row_rule 4 (length results) (F.words_in i.num_wr_tests)
      ∷ coordinates_rule F.floor_limit i.frac_bits 0 gradient
      ∷ gradient_len_rule (length gradient) i.dimension
      ∷ true_sq_norm_rule i.true_sq_norm (true_sq_norm_of i.frac_bits gradient) (sq_norm_bound_of i)
      ∷ sq_norm_rule (sq_norm F.p (elements F.p i.frac_bits gradient)) (sq_norm_bound_of i)
      ∷ range_rule i.wr_test_rule F.p (wr_test_bound i) i.num_wr_successes (results_of F.p i stream (elements F.p i.frac_bits gradient))
      ∷ []

  abbrev pub encode_answer : Answer
  encode_answer = in_order encode_rules

  -- both rows are as found, where the call is refused
  unfoldable pub encode_of : Encoded
  encode_of =
      cond (eqb encode_answer.number 0)
      (encode_outcome encode_answer (F.words (measurement_of F.p i stream (elements F.p i.frac_bits gradient))) (F.words (results_of F.p i stream (elements F.p i.frac_bits gradient))))
      (encode_outcome encode_answer measurement results)
