-- What is written for the text of a load (docs/PINE.md, "A load"). Assumes nothing.
use Rattle.std.specs.Prelude.{ℕ, cond, List, [], ◌∷◌, ◌++◌, length, get_or, replicate, eqb}
use Rattle.std.proofs.Math.Option.{Option, none, some}
use Rattle.rules.specs.declared.Answer.{Answer}
use Rattle.rules.specs.Rules.{in_order}
use Rattle.rows.specs.Rows.{row_rule}
use Rattle.rows.specs.Outcome.{Outcome, finish}
use Rattle.octets.specs.Octets.{element_bytes}
use Rattle.pine.specs.declared.PineParam.{PineParam}
use Rattle.pine.specs.Param.{Field64}
use Rattle.pine.specs.Record.{encoded_input_len_of, stream_len_of}
use Rattle.flp.specs.Encode.{Encoded, encode_of}
use Rattle.load_draws.specs.Draws.{gradient_of, stream_of}
use Rattle.load_text.specs.Text.{load_limits, numbers_of}
use Rattle.load_inputs.specs.Inputs.{param_of, early_rules}

module _ (seed : ℕ) (i : PineParam) where
  abbrev bytes : ℕ
  bytes = stream_len_of i.num_wr_tests i.dimension

  -- the gradient that the seed makes, encoded with the stream that it makes, into rows of a measurement and results
  abbrev pub encoded_in : (measurement results : List ℕ) → Encoded
  encoded_in measurement results = encode_of Field64 i (gradient_of seed i.dimension bytes) (stream_of seed i.dimension bytes) measurement results

  -- rows as long as derived. What they hold has no say
  unfoldable pub encoded_of : Encoded
  encoded_of = encoded_in (replicate (encoded_input_len_of i) 0) (replicate i.num_wr_tests 0)

  -- the rules in their order: 1 to 6 and 19, for a dimension up to 1024 and up to 16 tests; 22; and those of encoding
  unfoldable pub load_rules : List Answer
  load_rules = early_rules seed i ++ (encoded_of.answer ∷ [])

  -- the numbers that are written: the measurement and the results, or a refusal's number and place
  unfoldable pub words_of : List ℕ
  words_of = cond (eqb (in_order load_rules).number 0) (encoded_of.measurement ++ encoded_of.results) ((in_order load_rules).number ∷ (in_order load_rules).place ∷ [])

-- by the numbers of the lines; none for other text
abbrev pub words_for : Option (List ℕ) → List ℕ
words_for none = []
words_for (some ns) = words_of (get_or ns 0 0) (param_of ns)

-- WHAT THE PROGRAM `load` WRITES: each number in eight bytes, the low one first
unfoldable pub report_of : (text : List ℕ) → List ℕ
report_of text = element_bytes (words_for (numbers_of load_limits text))

-- what `write_report` answers, with the row as found
unfoldable pub write_report_of : (text row : List ℕ) → Outcome
write_report_of text row = finish (row_rule 2 (length row) (length (report_of text))) (report_of text) row
