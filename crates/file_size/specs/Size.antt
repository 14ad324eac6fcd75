-- The exact size of a file (docs/PINE.md, "The day's file"): reports added in order to entries, by adding itself, and the call. i are the inputs, over Field64. Assumes nothing.
use Rattle.std.specs.Prelude.{ℕ, zero, suc, ◌*◌, ◌/◌, cond, List, [], ◌∷◌, map, length, take, drop, eqb}
use Rattle.rules.specs.declared.Answer.{Answer}
use Rattle.rules.specs.Rules.{accepted, first, in_order}
use Rattle.field64.specs.Field.{p64}
use Rattle.pine.specs.declared.PineParam.{PineParam}
use Rattle.pine.specs.Param.{Field64, param_answer}
use Rattle.rows.specs.Rows.{row_rule}
use Rattle.entries.specs.File.{Entry, file_len, most_reports, added}
use Rattle.day_file.specs.declared.FileLen.{FileLen}
use Rattle.day_file.specs.Calls.{of_len}
use Rattle.file_add.specs.Add.{room_rule, reports_rule}

-- a report: the eight bytes of its key, and its share
pub record Report : Type 0 where
  pub key : List ℕ
  pub share : List ℕ

-- rules 15 and 16
abbrev pub report_answer : (most d : ℕ) (key : List ℕ) (es : List Entry) → Answer
report_answer most d key es = first (room_rule key es) (reports_rule most d key es)

-- reports added one after the other: the first refusal, if there is one, and the entries then
pub record Day : Type 0 where
  pub answer : Answer
  pub entries : List Entry

abbrev pub day : Answer → List Entry → Day
day a es = record { answer = a; entries = es }

unfoldable pub day_of : (most p d : ℕ) → List Entry → List Report → Day
day_of most p d es [] = day accepted es
day_of most p d es (r ∷ rs) = cond (eqb (report_answer most d r.key es).number 0) (day_of most p d (added p d r.key r.share es) rs) (day (report_answer most d r.key es) es)

-- the first n keys of a list, eight bytes each
unfoldable pub key_list : (n : ℕ) → List ℕ → List (List ℕ)
key_list zero bs = []
key_list (suc n) bs = take 8 bs ∷ key_list n (drop 8 bs)

-- a report without a share: its entry has no body
abbrev pub bare : List ℕ → Report
bare key = record { key = key; share = [] }

-- the day of these keys, begun with no entry
unfoldable pub keys_day : (most : ℕ) → List ℕ → Day
keys_day most keys = day_of most p64 0 [] (map bare (key_list (length keys / 8) keys))

-- where a key has `most` reports at most
module _ (most : ℕ) (i : PineParam) where
  abbrev pub size_rules : (keys : List ℕ) → List Answer
  size_rules keys = param_answer Field64 i ∷ row_rule 1 (length keys) (8 * (length keys / 8)) ∷ (keys_day most keys).answer ∷ []

  unfoldable pub size_answer : (keys : List ℕ) → Answer
  size_answer keys = in_order (size_rules keys)

  unfoldable pub size_up_to : (keys : List ℕ) → FileLen
  size_up_to keys =
      let a = size_answer keys in
      of_len a (cond (eqb a.number 0) (file_len i.dimension (length (keys_day most keys).entries)) 0)

-- what the call gives
abbrev pub size_of : (i : PineParam) (keys : List ℕ) → FileLen
size_of i keys = size_up_to most_reports i keys
