-- The statements of `specs/Statements.antt` hold. Assumes nothing.
use mathlib.Core.Path.{◌≡◌, refl, sym, ap, ◌∙◌}
use mathlib.Core.Bool.{Bool, true, false, cond}
use mathlib.Core.List.{List, []}
use Prim.Native.Nat.{ℕ, ◌+◌, ◌*◌, ◌^◌, ◌≤◌, ◌<◌, min}
use native.Mathlib.Nat.{mul-le-mul_right}
use native.Mathlib.Omega.{arith}
use lib.ListN.{length, get_or, drop}
use lib.Seq.{take_at}
use lib.IntN.{pos}
use borrow.Author.Tests.{eqb-true}
use Rattle.field64.specs.Field.{p64}
use Rattle.pine.specs.Param.{Field64, param_answer}
use Rattle.pine.proofs.Words.{words_64}
use Rattle.flp.proofs.Gradient.{room_64}
use Rattle.entries.specs.File.{Entry, key_in, keys_of, FileOk, file_of, file_len, entries_in, held, fresh, entry_for}
use Rattle.entries.proofs.Files.{file_met, entries_ok, file_of_entries, file_accepted, entries_of_file, length_file}
use Rattle.day_file.proofs.Verdicts.{number, dimension_limits}
use Rattle.day_file.proofs.Inverse.{write_read, read_write}
use Rattle.file_add.specs.Add.{add_answer, new_file, add_of}
use Rattle.rows.specs.Rows.{Below}
use Rattle.correctness.proofs.Tally.{of_rows}
use Rattle.correctness.proofs.Correctness.{decodes, decodable_64}
use Rattle.whole_day.specs.Day.{Key, Adding, Keys, accepts, after_one, entry_of}
use Rattle.whole_day.specs.Statements.{Inverses, day_file, day_shares, KeyDay, WholeDay, KeyDoubles, ExactSize, Files, Added, OneAdding}
use Rattle.whole_day.proofs.Adding.{new_accepted, this_entry, other_entries, new_count}
use Rattle.whole_day.proofs.Days.{through, through_few, through_ok, after_is}
use Rattle.whole_day.proofs.Keys as keys
use Rattle.whole_day.proofs.Sizes as sizes
use Rattle.whole_day.proofs.Different as different

pub inverses : Inverses
inverses = record { read_then_write = write_read; write_then_read = read_write }

pub files : Files
files = record {
  made = λ d h es o.
      let n : d < 2 ^ 32 = omega arith in
      (file_accepted p64 d es o (omega arith) n, entries_of_file p64 d es o (omega arith) n, length_file p64 d es o (omega arith) n);
  taken_apart = λ d file b h. (entries_ok p64 d file (file_met p64 d file h) b, file_of_entries p64 d file (file_met p64 d file h) b);
  order = keys.order;
  one_key = keys.one_key;
}

-- ---- one call

module _ (old : List ℕ) (a : Adding) (b : Below 256 old) (k : Key a.key) (h : accepts old a ≡ true) where
  abbrev new : List ℕ
  new = new_file a.inputs a.key old a.share

  z : (add_answer a.inputs a.key old a.share (length a.second)).number ≡ 0
  z = unfold add_of in eqb-true _ 0 h

  after_call : after_one old a ≡ new
  after_call = unfold add_of in rw h (take_at new (drop (length new) a.second) (length new) refl)

  one_added : Added old a
  one_added = record {
    file = rw after_call (new_accepted a.inputs a.key old a.share _ z k.long k.bytes b);
    this = rw after_call (this_entry a.inputs a.key old a.share _ z k.long k.bytes b);
    others = λ g l n. rw after_call (other_entries a.inputs a.key old a.share _ z k.long k.bytes b g (λ e. n (keys.one_key g a.key l k e)));
    count = rw after_call (counted (held (key_in a.key) (keys_of (entries_in a.inputs.dimension old))) _ _ (new_count a.inputs a.key old a.share _ z k.long k.bytes b));
  }
    where
      counted : (t : Bool) (m n : ℕ) → m + cond t 1 0 ≡ n + 1 → m ≡ n + cond t 0 1
      counted true m n e = omega arith
      counted false m n e = omega arith

pub one_adding : OneAdding
one_adding = one_added

module _ (d : ℕ) (small : d ≤ 65536) (calls : List Adding) (k : Keys calls) where
  begun : FileOk p64 d []
  begun = record { few = omega arith; entries = tt; rise = refl }

  final : List Entry
  final = through d small [] calls

  ok : FileOk p64 d final
  unfolding final
  ok = through_ok d small [] begun calls k

  narrow : d < 2 ^ 32
  narrow = omega arith

  is_file_lem : day_file d calls ≡ file_of d final
  unfolding final
  is_file_lem = after_is d small [] begun calls k

  entries : entries_in d (day_file d calls) ≡ final
  entries = ap (entries_in d) is_file_lem ∙ entries_of_file p64 d final ok (omega arith) narrow

  within : length (day_file d calls) ≤ file_len d (min (length calls) 1024)
  unfolding final
  within =
      let few : length (through d small [] calls) ≤ min (length calls) 1024 = omega (arith, ok.few, through_few d small [] calls) in
      let m : length (through d small [] calls) * (12 + 8 * d) ≤ min (length calls) 1024 * (12 + 8 * d) = mul-le-mul_right (12 + 8 * d) few in
      rw (is_file_lem, length_file p64 d final ok (omega arith) narrow) (omega (arith, m))

  -- the body of the key g, as an aggregate
  body_is : (g : List ℕ) (h : Key g) → (keys.holding d small g h calls k).row ≡ (entry_of d g (day_file d calls)).body
  unfolding final
  body_is g h = ap (λ (l : List Entry). (entry_for (fresh d g) l).body) (sym entries)

  key_day : (g : List ℕ) → Key g → KeyDay d calls g
  unfolding final
  key_day g h = record {
    entry = ap (λ (l : List Entry). held (key_in g) (keys_of l)) entries ∙ keys.key_held d small g h calls k;
    reports = ap (λ (l : List Entry). (entry_for (fresh d g) l).reports) entries ∙ keys.key_reports d small g h calls k;
    shares = keys.key_shares d small g h calls k;
    long = ap length (sym (body_is g h)) ∙ (keys.holding_backed d small g h calls k).row.long;
    sums = λ j l. ap (λ (b : List ℕ). get_or b j 0) (sym (body_is g h)) ∙ of_rows Field64 words_64 d (omega arith) (keys.holding d small g h calls k) (keys.holding_backed d small g h calls k) (day_shares d calls g) (λ r. refl) j l;
  }

pub whole_days : WholeDay
whole_days d some small calls k = record {
  file = rw (is_file_lem d small calls k) (file_accepted p64 d (final d small calls k) (ok d small calls k) (omega arith) (narrow d small calls k));
  within = within d small calls k;
  key = key_day d small calls k;
}

pub key_doubles : KeyDoubles
key_doubles i accepts left right k l g h reports q found long =
    let d = i.dimension in
    let small : d ≤ 65536 = (dimension_limits i (param_answer Field64 i) refl (ap number accepts)).1 in
    rw (← body_is d small left k g h, ← body_is d small right l g h)
    (decodes Field64 words_64 (omega arith) room_64 i accepts (keys.holding d small g h left k) (keys.holding d small g h right l) (keys.holding_good d small g h left k) (keys.holding_good d small g h right l) reports (λ r. ap pos (q r)) (decodable_64 i reports) found long)

pub exact_size : ExactSize
exact_size = record { refused = sizes.first_refusal; made = sizes.file_of_size; length_is = different.length_is }
