-- What the verdict's steps give is adding's answer, and what an accepted adding has met. Assumes nothing.
use mathlib.Core.Path.{◌≡◌, refl, sym, ap, ◌∙◌}
use mathlib.Core.Bool.{Bool, true, false, not, ◌&&◌}
use mathlib.Core.List.{List}
use Prim.Native.Nat.{ℕ, ◌+◌, ◌*◌, ◌≤◌, ◌<◌}
use native.Mathlib.Omega.{arith}
use lib.ListN.{length}
use lib.Dec.{leb, eqb}
use borrow.Author.Tests.{eqb-false, leb-false}
use Rattle.rules.specs.declared.Answer.{Answer}
use Rattle.rules.specs.Rules.{accepted, first}
use Rattle.rules.proofs.Chain.{first_refused, first_passed, first_assoc, refuse_last, passed, so, not_so}
use Rattle.field64.specs.Field.{p64}
use Rattle.pine.specs.declared.PineParam.{PineParam}
use Rattle.pine.specs.Param.{Field64, param_answer}
use Rattle.rows.specs.Rows.{row_rule, elements_rule, Below}
use Rattle.rows.proofs.Lengths.{row_right}
use Rattle.rows.proofs.Elements.{elements_below}
use Rattle.entries.specs.File.{key_in, keys_of, count_in, contents_in, bodies_in, keys_in, entries_in, most_reports, is_file, fresh, held, index, entry_for}
use Rattle.entries.proofs.Rows.{keys_from, length_from}
use Rattle.entries.proofs.Files.{FileMet, file_met}
use Rattle.entries.proofs.Splicing.{found_reports}
use Rattle.layout.specs.Layout.{file_rule}
use Rattle.day_file.proofs.Verdicts.{number, dimension_limits}
use Rattle.file_add.specs.Add.{room_rule, reports_rule, add_rules, add_answer}
use Rattle.file_add.specs.Steps.{place_of, place_in, place_rules}

-- ---- the entries of a file, by places

pub keys_of_lem : (d : ℕ) (file : List ℕ) → keys_of (entries_in d file) ≡ keys_in (count_in file) (contents_in (count_in file) file)
unfolding entries_in
keys_of_lem d file = keys_from d (count_in file) (contents_in (count_in file) file) (bodies_in d (count_in file) file)

pub length_of : (d : ℕ) (file : List ℕ) → length (entries_in d file) ≡ count_in file
unfolding entries_in
length_of d file = length_from d (count_in file) (contents_in (count_in file) file) (bodies_in d (count_in file) file)

module _ (d : ℕ) (some : 0 < d) (old key : List ℕ) (m : FileMet p64 d old) (bytes : Below 256 old) (long : length key ≡ 8) (kb : Below 256 key) where
  abbrev k : ℕ
  k = key_in key

  pub place_reports : (place_in old k).reports ≡ (entry_for (fresh d key) (entries_in d old)).reports
  unfolding place_of
  place_reports = sym (found_reports p64 d (omega arith) some old m bytes key long kb)

  pub place_held_is : (place_in old k).held ≡ held k (keys_of (entries_in d old))
  unfolding place_of
  place_held_is = ap (held k) (sym (keys_of_lem d old))

  pub place_index : (place_in old k).index ≡ index k (keys_of (entries_in d old))
  unfolding place_of
  place_index = ap (index k) (sym (keys_of_lem d old))

  pub place_rules_lem : place_rules (count_in old) (place_in old k) ≡ first (room_rule key (entries_in d old)) (first (reports_rule most_reports d key (entries_in d old)) accepted)
  place_rules_lem =
      rw (place_reports, place_held_is, place_index, ← length_of d old)
      (ap (first (room_rule key (entries_in d old))) (sym (refuse_last (eqb (entry_for (fresh d key) (entries_in d old)).reports 4294967295) 15 (index k (keys_of (entries_in d old))))))

-- ---- the verdict

module _ (i : PineParam) (key old share : List ℕ) (second : ℕ) (a : Answer) (inputs : a ≡ param_answer Field64 i) where
  pub add_inputs : (a.number ≡ 0 → ⊥) → a ≡ add_answer i key old share second
  unfolding add_answer
  add_inputs n = rw (← inputs) (sym (first_refused a _ n))

  module _ (h : a.number ≡ 0) (l : Answer) (lens : l ≡ first (row_rule 2 (length share) i.dimension) (row_rule 3 second (length old + (12 + 8 * i.dimension)))) where
    abbrev rest : Answer
    rest = first (elements_rule p64 share) (first (room_rule key (entries_in i.dimension old)) (first (reports_rule most_reports i.dimension key (entries_in i.dimension old)) accepted))

    after_lens : add_answer i key old share second ≡ first l (first (file_rule i.dimension old) rest)
    unfolding add_answer
    after_lens = rw (← inputs) (first_passed a _ h ∙ sym (first_assoc (row_rule 2 (length share) i.dimension) (row_rule 3 second (length old + (12 + 8 * i.dimension))) (first (file_rule i.dimension old) rest)) ∙ ap (λ (x : Answer). first x (first (file_rule i.dimension old) rest)) (sym lens))

    pub add_lens : (l.number ≡ 0 → ⊥) → l ≡ add_answer i key old share second
    add_lens n = sym (after_lens ∙ first_refused l _ n)

    module _ (g : l.number ≡ 0) (f : Answer) (file : f ≡ file_rule i.dimension old) where
      after_file : add_answer i key old share second ≡ first f rest
      after_file = after_lens ∙ first_passed l _ g ∙ ap (λ (x : Answer). first x rest) (sym file)

      pub add_file : (f.number ≡ 0 → ⊥) → f ≡ add_answer i key old share second
      add_file n = sym (after_file ∙ first_refused f _ n)

      pub file_is : f.number ≡ 0 → is_file p64 i.dimension old ≡ true
      file_is z = so (is_file p64 i.dimension old) 13 0 (ap number (sym file) ∙ z)

      pub add_report : f.number ≡ 0 → Below 256 old → length key ≡ 8 → Below 256 key → (r : Answer) → r ≡ first (elements_rule p64 share) (place_rules (count_in old) (place_in old (key_in key))) → r ≡ add_answer i key old share second
      add_report z bytes long kb r e =
          let d = dimension_limits i a inputs h in
          let p = place_rules_lem i.dimension d.0 old key (file_met p64 i.dimension old (file_is z)) bytes long kb in
          e ∙ ap (first (elements_rule p64 share)) p ∙ sym (after_file ∙ first_passed f _ z)

-- ---- what an accepted adding has met

neither : (s t : Bool) → (not s && t) ≡ false → s ≡ false → t ≡ false
neither true t e f = absurd (mathlib.Core.Bool.true≢false f)
neither false t e f = e

pub record AddMet (i : PineParam) (key old share : List ℕ) (second : ℕ) : Type 0 where
  pub dimension : (0 < i.dimension) × (i.dimension ≤ 65536)
  pub share_long : length share ≡ i.dimension
  pub second_long : second ≡ length old + (12 + 8 * i.dimension)
  pub file : is_file p64 i.dimension old ≡ true
  pub share_below : Below p64 share
  pub room : held (key_in key) (keys_of (entries_in i.dimension old)) ≡ false → length (entries_in i.dimension old) < 1024
  pub reports : (entry_for (fresh i.dimension key) (entries_in i.dimension old)).reports ≡ 4294967295 → ⊥

pub add_met : (i : PineParam) (key old share : List ℕ) (second : ℕ) (a : Answer) → a ≡ add_answer i key old share second → a.number ≡ 0 → AddMet i key old share second
unfolding add_answer
add_met i key old share second a e h =
    let r = passed (add_rules i key old share second) (ap number (sym e) ∙ h) in
    let es = entries_in i.dimension old in
    record {
      dimension = dimension_limits i (param_answer Field64 i) refl r.0;
      share_long = row_right 2 (length share) i.dimension r.1.0;
      second_long = row_right 3 second (length old + (12 + 8 * i.dimension)) r.1.1.0;
      file = so (is_file p64 i.dimension old) 13 0 r.1.1.1.0;
      share_below = elements_below p64 0 share r.1.1.1.1.0;
      room = λ f. leb-false 1024 (length es) (neither (held (key_in key) (keys_of es)) (leb 1024 (length es)) (not_so (not (held (key_in key) (keys_of es)) && leb 1024 (length es)) 14 0 r.1.1.1.1.1.0) f);
      reports = eqb-false (entry_for (fresh i.dimension key) es).reports 4294967295 (not_so (eqb (entry_for (fresh i.dimension key) es).reports 4294967295) 15 (index (key_in key) (keys_of es)) r.1.1.1.1.1.1.0);
    }
