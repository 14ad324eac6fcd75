-- Rule 14 (docs/PINE.md, "The day's file"). Assumes nothing.
use Rattle.std.specs.Prelude.{ℕ, cond, List}
use Rattle.rules.specs.declared.Answer.{Answer}
use Rattle.rules.specs.Rules.{answer, accepted}
use Rattle.field64.specs.Field.{p64}
use Rattle.entries.specs.File.{is_rows, is_file}

-- rule 14: of bytes, and of a count with its rows
abbrev pub file_rule : (d : ℕ) (file : List ℕ) → Answer
file_rule d file = cond (is_file p64 d file) accepted (answer 14 0)

abbrev pub rows_rule : (count : ℕ) (contents bodies : List ℕ) → Answer
rows_rule count contents bodies = cond (is_rows p64 count contents bodies) accepted (answer 14 0)
