-- A day: calls of adding, one after the other, each with any arguments (docs/PINE.md, "The day's file"). Assumes nothing.
use Rattle.std.specs.Prelude.{ℕ, suc, ◌+◌, ◌*◌, ◌≡◌, Bool, false, cond, ◌&&◌, ◌||◌, List, [], ◌∷◌, ◌++◌, length, take, replicate, eqb}
use Rattle.rules.specs.declared.Answer.{Answer}
use Rattle.rules.specs.Rules.{accepted}
use Rattle.pine.specs.declared.PineParam.{PineParam}
use Rattle.rows.specs.Rows.{Below}
use Rattle.entries.specs.File.{Entry, entries_in, fresh, entry_for}
use Rattle.file_add.specs.Add.{AddOutcome, add_of}
use Rattle.file_size.specs.Size.{Report}
use Rattle.correctness.specs.Tally.{eq_row, FieldRow}

-- eight bytes
pub record Key (k : List ℕ) : Type 0 where
  pub long : length k ≡ 8
  pub bytes : Below 256 k

-- ---- any calls

-- a call of adding: its inputs, its key, its share, and what the second row held
pub record Adding : Type 0 where
  pub inputs : PineParam
  pub key : List ℕ
  pub share : List ℕ
  pub second : List ℕ

abbrev pub Keys : List Adding → Type 0
Keys [] = Unit {0}
Keys (a ∷ calls) = Key a.key × Keys calls

abbrev pub given : (file : List ℕ) → Adding → AddOutcome
given file a = add_of a.inputs a.key file a.share a.second

abbrev pub accepts : (file : List ℕ) → Adding → Bool
accepts file a = eqb (given file a).answer.number 0

-- the file after a call: the second row up to the new length, or the file as it was where the call is refused
abbrev pub after_one : (file : List ℕ) → Adding → List ℕ
after_one file a = cond (accepts file a) (take (given file a).len (given file a).row) file

unfoldable pub after : (file : List ℕ) → List Adding → List ℕ
after file [] = file
after file (a ∷ calls) = after (after_one file a) calls

-- the shares of the accepted calls with the key g, in their order
unfoldable pub shares_of : (g file : List ℕ) → List Adding → List (List ℕ)
shares_of g file [] = []
shares_of g file (a ∷ calls) =
    let rest = shares_of g (after_one file a) calls in
    cond (accepts file a && eq_row a.key g) (a.share ∷ rest) rest

-- the entry of the key g in a file, or that of no reports
abbrev pub entry_of : (d : ℕ) (g file : List ℕ) → Entry
entry_of d g file = entry_for (fresh d g) (entries_in d file)

-- ---- calls up to the first refusal, as the exact size counts them

pub record FileDay : Type 0 where
  pub answer : Answer
  pub file : List ℕ

abbrev pub file_day : Answer → List ℕ → FileDay
file_day a f = record { answer = a; file = f }

-- reports added with these inputs, each into a second row of zeros
unfoldable pub file_day_of : (i : PineParam) (file : List ℕ) → List Report → FileDay
file_day_of i file [] = file_day accepted file
file_day_of i file (r ∷ rs) =
    let o = add_of i r.key file r.share (replicate (length file + (12 + 8 * i.dimension)) 0) in
    cond (eqb o.answer.number 0) (file_day_of i (take o.len o.row) rs) (file_day o.answer file)

-- a key of eight bytes, a share of d field numbers
pub record ReportOk (p d : ℕ) (r : Report) : Type 0 where
  pub key : Key r.key
  pub share : FieldRow p d r.share

abbrev pub ReportsOk : (p d : ℕ) → List Report → Type 0
ReportsOk p d [] = Unit {0}
ReportsOk p d (r ∷ rs) = ReportOk p d r × ReportsOk p d rs

-- the list of the reports' keys, as the call takes it
abbrev pub key_bytes : List Report → List ℕ
key_bytes [] = []
key_bytes (r ∷ rs) = r.key ++ key_bytes rs

-- ---- the number of different keys

-- whether a key is among some, all its bytes compared
abbrev pub among : (k : List ℕ) → List (List ℕ) → Bool
among k [] = false
among k (l ∷ ks) = eq_row l k || among k ks

-- each counted where it comes first; seen are those that came before
unfoldable pub different : (seen ks : List (List ℕ)) → ℕ
different seen [] = 0
different seen (k ∷ ks) = cond (among k seen) (different seen ks) (suc (different (k ∷ seen) ks))
