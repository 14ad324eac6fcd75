-- Any calls of adding on the file of some entries: each leaves the file of the entries with the report added, or the file as it was. Assumes nothing.
use mathlib.Core.Path.{◌≡◌, refl, sym, ap, subst, ◌∙◌}
use mathlib.Core.Bool.{Bool, true, false, cond}
use mathlib.Core.List.{List, [], ◌∷◌, ◌++◌}
use Prim.Native.Nat.{ℕ, ◌+◌, ◌^◌, ◌≤◌, ◌<◌}
use native.Mathlib.Omega.{arith}
use lib.ListN.{length, take, drop}
use lib.Seq.{take_at}
use lib.Dec.{eqb}
use borrow.Author.Tests.{eqb-true}
use Rattle.field64.specs.Field.{p64}
use Rattle.entries.specs.File.{Entry, key_in, keys_of, entries_in, FileOk, file_of, most_reports, fresh, held, entry_for, raised, added}
use Rattle.entries.proofs.Files.{file_met, file_accepted, entries_of_file}
use Rattle.entries.proofs.Adding.{added_ok, length_placed}
use Rattle.file_add.specs.Add.{add_answer, new_file, add_of}
use Rattle.file_add.proofs.Verdicts.{AddMet, add_met}
use Rattle.correctness.specs.Tally.{FieldRow}
use Rattle.whole_day.specs.Day.{Key, Adding, Keys, accepts, after_one, after}

module _ (d : ℕ) (small : d ≤ 65536) where
  narrow : d < 2 ^ 32
  narrow = omega arith

  -- ---- one call

  module _ (es : List Entry) (o : FileOk p64 d es) (a : Adding) (k : Key a.key) where
    abbrev file : List ℕ
    file = file_of d es

    back : entries_in d file ≡ es
    back = entries_of_file p64 d es o (omega arith) narrow

    abbrev n : ℕ
    n = (add_answer a.inputs a.key file a.share (length a.second)).number

    abbrev new : List Entry
    new = added p64 d a.key a.share es

    -- accepted
    module _ (h : n ≡ 0) where
      met : AddMet a.inputs a.key file a.share (length a.second)
      met = add_met a.inputs a.key file a.share (length a.second) _ refl h

      -- the call's dimension is the file's
      same : a.inputs.dimension ≡ d
      same = sym (file_met p64 a.inputs.dimension file met.file).dimension ∙ (file_met p64 d file (file_accepted p64 d es o (omega arith) narrow)).dimension

      pub share_row : FieldRow p64 d a.share
      share_row = record { long = met.share_long ∙ same; below = met.share_below }

      room : held (key_in a.key) (keys_of es) ≡ false → length es < 1024
      room =
          let r = subst (λ (m : ℕ). held (key_in a.key) (keys_of (entries_in m file)) ≡ false → length (entries_in m file) < 1024) same met.room in
          subst (λ (l : List Entry). held (key_in a.key) (keys_of l) ≡ false → length l < 1024) back r

      fits : (entry_for (fresh d a.key) es).reports ≡ most_reports → ⊥
      fits =
          let r = subst (λ (m : ℕ). (entry_for (fresh m a.key) (entries_in m file)).reports ≡ most_reports → ⊥) same met.reports in
          subst (λ (l : List Entry). (entry_for (fresh d a.key) l).reports ≡ most_reports → ⊥) back r

      new_ok : FileOk p64 d new
      new_ok = added_ok p64 d (omega arith) a.key k.long k.bytes a.share share_row.long es o fits room

      new_file_lem : new_file a.inputs a.key file a.share ≡ file_of d new
      unfolding new_file
      new_file_lem = ap (λ (m : ℕ). file_of m (added p64 m a.key a.share (entries_in m file))) same ∙ ap (λ (l : List Entry). file_of d (added p64 d a.key a.share l)) back

    -- the entries then
    abbrev pub next : List Entry
    next = cond (eqb n 0) new es

    pub next_ok : FileOk p64 d next
    next_ok = go (eqb n 0) refl
      where
        go : (t : Bool) → eqb n 0 ≡ t → FileOk p64 d (cond t new es)
        go true e = new_ok (eqb-true n 0 e)
        go false e = o

    pub accepts_is : accepts file a ≡ eqb n 0
    unfolding add_of
    accepts_is = refl

    pub after_one_lem : after_one file a ≡ file_of d next
    unfolding add_of
    after_one_lem = go (eqb n 0) refl
      where
        N : List ℕ
        N = new_file a.inputs a.key file a.share

        go : (t : Bool) → eqb n 0 ≡ t → cond t (take (cond t (length N) 0) (cond t (N ++ drop (length N) a.second) a.second)) file ≡ file_of d (cond t new es)
        go true e = take_at N (drop (length N) a.second) (length N) refl ∙ new_file_lem (eqb-true n 0 e)
        go false e = refl

  -- ---- one after the other

  unfoldable pub through : List Entry → List Adding → List Entry
  through es [] = es
  through es (a ∷ calls) = through (cond (eqb (add_answer a.inputs a.key (file_of d es) a.share (length a.second)).number 0) (added p64 d a.key a.share es) es) calls

  -- each call brings one entry at most
  added_few : (key share : List ℕ) (es : List Entry) → length (added p64 d key share es) ≤ length es + 1
  unfolding added
  added_few key share es = omega (arith, length_placed (raised p64 share (entry_for (fresh d key) es)) es)

  pub through_few : (es : List Entry) (calls : List Adding) → length (through es calls) ≤ length es + length calls
  unfolding through
  through_few es [] = omega arith
  through_few es (a ∷ calls) = go (eqb (add_answer a.inputs a.key (file_of d es) a.share (length a.second)).number 0) (through_few (added p64 d a.key a.share es) calls) (through_few es calls)
    where
      go : (t : Bool) → length (through (added p64 d a.key a.share es) calls) ≤ length (added p64 d a.key a.share es) + length calls → length (through es calls) ≤ length es + length calls
          → length (through (cond t (added p64 d a.key a.share es) es) calls) ≤ length es + length (a ∷ calls)
      go true f g = omega (arith, added_few a.key a.share es)
      go false f g = omega arith

  pub through_ok : (es : List Entry) → FileOk p64 d es → (calls : List Adding) → Keys calls → FileOk p64 d (through es calls)
  unfolding through
  through_ok es o [] k = o
  through_ok es o (a ∷ calls) k = through_ok (next es o a k.0) (next_ok es o a k.0) calls k.1

  pub after_is : (es : List Entry) → FileOk p64 d es → (calls : List Adding) → Keys calls → after (file_of d es) calls ≡ file_of d (through es calls)
  unfolding through after
  after_is es o [] k = refl
  after_is es o (a ∷ calls) k = ap (λ (f : List ℕ). after f calls) (after_one_lem es o a k.0) ∙ after_is (next es o a k.0) (next_ok es o a k.0) calls k.1
