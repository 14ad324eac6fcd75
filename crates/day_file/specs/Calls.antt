-- The calls on a day's file (docs/PINE.md, "The day's file") but adding: the rules of each in their order, and what it gives. i are the inputs, over Field64. Assumes nothing.
use Rattle.std.specs.Prelude.{ℕ, ◌*◌, min, cond, List, [], ◌∷◌, length, eqb}
use Rattle.rules.specs.declared.Answer.{Answer}
use Rattle.rules.specs.Rules.{in_order}
use Rattle.pine.specs.declared.PineParam.{PineParam}
use Rattle.pine.specs.Param.{Field64, param_answer}
use Rattle.rows.specs.Rows.{row_rule}
use Rattle.rows.specs.Outcome.{Outcome, finish}
use Rattle.entries.specs.File.{file_from, file_len, count_in, contents_in, bodies_in}
use Rattle.layout.specs.Layout.{file_rule, rows_rule}
use Rattle.day_file.specs.declared.FileLen.{FileLen}

-- ---- reading: a file into contents and bodies

pub record ReadOutcome : Type 0 where
  pub answer : Answer
  pub contents : List ℕ
  pub bodies : List ℕ

abbrev pub read_outcome : Answer → (contents bodies : List ℕ) → ReadOutcome
read_outcome a c b = record { answer = a; contents = c; bodies = b }

module _ (i : PineParam) where
  abbrev pub read_rules : (file : List ℕ) (contents bodies : ℕ) → List Answer
  read_rules file contents bodies =
      param_answer Field64 i
      ∷ row_rule 2 contents (12 * count_in file)
      ∷ row_rule 3 bodies (i.dimension * count_in file)
      ∷ file_rule i.dimension file
      ∷ []

  -- the rows' lengths, before the file itself
  unfoldable pub read_answer : (file : List ℕ) (contents bodies : ℕ) → Answer
  read_answer file contents bodies = in_order (read_rules file contents bodies)

  -- the rows as they were, where the call is refused
  unfoldable pub read_of : (file contents bodies : List ℕ) → ReadOutcome
  read_of file contents bodies =
      let a = read_answer file (length contents) (length bodies) in
      read_outcome a (cond (eqb a.number 0) (contents_in (count_in file) file) contents) (cond (eqb a.number 0) (bodies_in i.dimension (count_in file) file) bodies)

  -- ---- writing: a count, contents and bodies into a file

  abbrev pub write_rules : (count : ℕ) (contents bodies : List ℕ) (file : ℕ) → List Answer
  write_rules count contents bodies file =
      param_answer Field64 i
      ∷ row_rule 1 (length contents) (12 * count)
      ∷ row_rule 2 (length bodies) (i.dimension * count)
      ∷ row_rule 3 file (file_len i.dimension count)
      ∷ rows_rule count contents bodies
      ∷ []

  unfoldable pub write_answer : (count : ℕ) (contents bodies : List ℕ) (file : ℕ) → Answer
  write_answer count contents bodies file = in_order (write_rules count contents bodies file)

  unfoldable pub write_of : (count : ℕ) (contents bodies file : List ℕ) → Outcome
  write_of count contents bodies file = finish (write_answer count contents bodies (length file)) (file_from i.dimension count contents bodies) file

-- ---- the greatest length

abbrev pub of_len : Answer → ℕ → FileLen
of_len a n = record { answer = a; len = n }

-- of a file begun empty, after this many added reports
unfoldable pub max_of : (i : PineParam) (reports : ℕ) → FileLen
max_of i reports =
    let a = param_answer Field64 i in
    of_len a (cond (eqb a.number 0) (file_len i.dimension (min reports 1024)) 0)
