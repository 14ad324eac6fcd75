-- What holds of the day's file as a whole, over the definitions that the calls' contracts cite. Rows are lists of numbers: a row of bytes has numbers below 256. Assumes nothing.
use Rattle.std.specs.Prelude.{ℕ, ◌+◌, ◌/◌, ◌≤◌, ◌<◌, min, ◌≡◌, true, cond, not, List, [], map, length, get_or, take, ltb, eqb, Float}
use Rattle.rules.specs.Rules.{accepted}
use Rattle.field64.specs.Field.{p64}
use Rattle.field64.specs.Sums.{total}
use Rattle.pine.specs.declared.PineParam.{PineParam}
use Rattle.pine.specs.Param.{Field64, param_answer}
use Rattle.rows.specs.Rows.{Below}
use Rattle.rows.specs.Outcome.{outcome}
use Rattle.entries.specs.File.{Entry, key_in, valve_in, less_bytes, keys_of, file_of, file_len, FileOk, count_in, entries_in, is_file, held, most_reports, raised}
use Rattle.day_file.specs.Calls.{read_answer, read_outcome, read_of, write_answer, write_of, of_len}
use Rattle.file_size.specs.Size.{Report, key_list, size_answer, size_of}
use Rattle.vdaf.specs.Aggregates.{unshard_of}
use Rattle.correctness.specs.Tally.{count, FieldRow, Each}
use Rattle.correctness.specs.Correctness as C
use Rattle.whole_day.specs.Day.{Key, Adding, Keys, accepts, after_one, after, shares_of, entry_of, file_day_of, ReportsOk, key_bytes, different}

-- ---- files and their entries

-- bytes are a file just where they are made from entries in order, and the entries in them are those. Keys rise by the address, its bytes compared from the first on, then by the valve as a number; keys of one number are one key, byte for byte
pub record Files : Type 0 where
  pub made : (d : ℕ) → d ≤ 65536 → (es : List Entry) → FileOk p64 d es → (is_file p64 d (file_of d es) ≡ true) × (entries_in d (file_of d es) ≡ es) × (length (file_of d es) ≡ file_len d (length es))
  pub taken_apart : (d : ℕ) (file : List ℕ) → Below 256 file → is_file p64 d file ≡ true → FileOk p64 d (entries_in d file) × (file_of d (entries_in d file) ≡ file)
  pub order : (g h : List ℕ) → Key g → Key h → ltb (key_in g) (key_in h) ≡ less_bytes (take 6 g) (take 6 h) (ltb (valve_in g) (valve_in h))
  pub one_key : (g h : List ℕ) → Key g → Key h → key_in g ≡ key_in h → g ≡ h

-- ---- reading and writing are exact inverses on files

pub record Inverses : Type 0 where
  pub read_then_write : (i : PineParam) (file c b : List ℕ) → Below 256 file → (read_answer i file (length c) (length b)).number ≡ 0 → (row : List ℕ) → length row ≡ length file
      → write_of i (count_in file) (read_of i file c b).contents (read_of i file c b).bodies row ≡ outcome accepted file
  pub write_then_read : (i : PineParam) (count : ℕ) (c b file : List ℕ) → (write_answer i count c b (length file)).number ≡ 0 → (c' b' : List ℕ) → length c' ≡ length c → length b' ≡ length b
      → read_of i (write_of i count c b file).row c' b' ≡ read_outcome accepted c b

-- ---- one accepted call of adding, on any bytes

module _ (old : List ℕ) (a : Adding) where
  abbrev dim : ℕ
  dim = a.inputs.dimension

  abbrev new : List ℕ
  new = after_one old a

  -- the new file is a file; the entry of the key has one report more, and the share added to its body; every other key's entry is as it was; there is one entry more if the key is new, or else as many
  pub record Added : Type 0 where
    pub file : is_file p64 dim new ≡ true
    pub this : entry_of dim a.key new ≡ raised p64 a.share (entry_of dim a.key old)
    pub others : (g : List ℕ) → Key g → (g ≡ a.key → ⊥) → entry_of dim g new ≡ entry_of dim g old
    pub count : length (entries_in dim new) ≡ length (entries_in dim old) + cond (held (key_in a.key) (keys_of (entries_in dim old))) 0 1

abbrev pub OneAdding : Type 0
OneAdding = (old : List ℕ) (a : Adding) → Below 256 old → Key a.key → accepts old a ≡ true → Added old a

-- ---- any calls of adding on a file of d begun empty

module _ (d : ℕ) (calls : List Adding) where
  abbrev pub day_file : List ℕ
  day_file = after (file_of d []) calls

  -- the shares of the key g that were accepted
  abbrev pub day_shares : (g : List ℕ) → List (List ℕ)
  day_shares g = shares_of g (file_of d []) calls

  -- the key g: it has an entry just where one of its reports was accepted; the entry counts these reports, and each element of its body is their sum modulo p
  pub record KeyDay (g : List ℕ) : Type 0 where
    pub entry : held (key_in g) (keys_of (entries_in d day_file)) ≡ not (eqb (length (day_shares g)) 0)
    pub reports : (entry_of d g day_file).reports ≡ length (day_shares g)
    pub shares : Each (FieldRow p64 d) (day_shares g)
    pub long : length (entry_of d g day_file).body ≡ d
    pub sums : (j : ℕ) → j < d → get_or (entry_of d g day_file).body j 0 ≡ total p64 (map (λ s. get_or s j 0) (day_shares g))

  pub record Day : Type 0 where
    pub file : is_file p64 d day_file ≡ true
    -- it is no longer than the greatest length after so many reports
    pub within : length day_file ≤ file_len d (min (length calls) 1024)
    pub key : (g : List ℕ) → Key g → KeyDay g

abbrev pub WholeDay : Type 0
WholeDay = (d : ℕ) → 0 < d → d ≤ 65536 → (calls : List Adding) → Keys calls → Day d calls

-- ---- two servers' files

-- where the accepted shares of one key in both are together, in some order, those of a list of reports: `unshard` of that key's two bodies, whatever its row held, gives the reports' doubles
abbrev pub KeyDoubles : Type 0
KeyDoubles =
    (i : PineParam) → param_answer Field64 i ≡ accepted → (left right : List Adding) → Keys left → Keys right → (g : List ℕ) → Key g → (reports : List (C.Report Field64 i))
    → ((r : List ℕ) → count r (day_shares i.dimension left g) + count r (day_shares i.dimension right g) ≡ count r (C.shares_of Field64 i reports))
    → (found : List Float) → length found ≡ i.dimension
    → C.Decodes Field64 i reports (unshard_of Field64 i (entry_of i.dimension g (day_file i.dimension left)).body (entry_of i.dimension g (day_file i.dimension right)).body found)

-- ---- the exact size

-- adding reports in order to a file begun empty is refused first exactly as the call on their keys says, or yields a file of the length that it gives; the length is that of as many entries as there are different keys
pub record ExactSize : Type 0 where
  pub refused : (i : PineParam) → param_answer Field64 i ≡ accepted → (rs : List Report) → ReportsOk p64 i.dimension rs
      → ((file_day_of i (file_of i.dimension []) rs).answer.number ≡ 0 → ⊥) → (file_day_of i (file_of i.dimension []) rs).answer ≡ size_answer most_reports i (key_bytes rs)
  pub made : (i : PineParam) → param_answer Field64 i ≡ accepted → (rs : List Report) → ReportsOk p64 i.dimension rs
      → (file_day_of i (file_of i.dimension []) rs).answer.number ≡ 0 → size_of i (key_bytes rs) ≡ of_len accepted (length (file_day_of i (file_of i.dimension []) rs).file)
  pub length_is : (i : PineParam) (keys : List ℕ) → Below 256 keys → (size_answer most_reports i keys).number ≡ 0 → (size_of i keys).len ≡ file_len i.dimension (different [] (key_list (length keys / 8) keys))
