-- Adding a report to a day's file (docs/PINE.md, "The day's file"): the rules in their order, and what it gives. i are the inputs, over Field64. Assumes nothing.
use Rattle.std.specs.Prelude.{ℕ, ◌+◌, ◌*◌, cond, not, ◌&&◌, List, [], ◌∷◌, ◌++◌, length, drop, leb, eqb}
use Rattle.rules.specs.declared.Answer.{Answer}
use Rattle.rules.specs.Rules.{refuse, in_order}
use Rattle.field64.specs.Field.{p64}
use Rattle.pine.specs.declared.PineParam.{PineParam}
use Rattle.pine.specs.Param.{Field64, param_answer}
use Rattle.rows.specs.Rows.{row_rule, elements_rule}
use Rattle.entries.specs.File.{Entry, key_in, keys_of, file_of, entries_in, most_reports, fresh, held, index, entry_for, added}
use Rattle.layout.specs.Layout.{file_rule}

-- rules 15 and 16 for a report of this key: a new key when 1024 are held; a count of reports that is `most`
abbrev pub room_rule : (key : List ℕ) (es : List Entry) → Answer
room_rule key es = refuse (not (held (key_in key) (keys_of es)) && leb 1024 (length es)) 15 0

abbrev pub reports_rule : (most d : ℕ) (key : List ℕ) (es : List Entry) → Answer
reports_rule most d key es = refuse (eqb (entry_for (fresh d key) es).reports most) 16 (index (key_in key) (keys_of es))

-- what adding gives: its answer, the new length, and the second row
pub record AddOutcome : Type 0 where
  pub answer : Answer
  pub len : ℕ
  pub row : List ℕ

abbrev pub add_outcome : Answer → ℕ → List ℕ → AddOutcome
add_outcome a n r = record { answer = a; len = n; row = r }

module _ (i : PineParam) where
  abbrev pub add_rules : (key old share : List ℕ) (second : ℕ) → List Answer
  add_rules key old share second =
      param_answer Field64 i
      ∷ row_rule 2 (length share) i.dimension
      ∷ row_rule 3 second (length old + (12 + 8 * i.dimension))
      ∷ file_rule i.dimension old
      ∷ elements_rule p64 share
      ∷ room_rule key (entries_in i.dimension old)
      ∷ reports_rule most_reports i.dimension key (entries_in i.dimension old)
      ∷ []

  unfoldable pub add_answer : (key old share : List ℕ) (second : ℕ) → Answer
  add_answer key old share second = in_order (add_rules key old share second)

  -- the file with the report added
  unfoldable pub new_file : (key old share : List ℕ) → List ℕ
  new_file key old share = file_of i.dimension (added p64 i.dimension key share (entries_in i.dimension old))

  -- the new file, and past it the row as it was; where the call is refused, length 0 and the row as it was
  unfoldable pub add_of : (key old share second : List ℕ) → AddOutcome
  add_of key old share second =
      let a = add_answer key old share (length second) in
      let new = new_file key old share in
      add_outcome a (cond (eqb a.number 0) (length new) 0) (cond (eqb a.number 0) (new ++ drop (length new) second) second)
