-- The exact size: adding reports in order to a file begun empty is refused first exactly where and as the call says, and otherwise yields a file of the length that it gives; that length is 6 + D (12 + 8 d), D the number of different keys. Assumes nothing.
use mathlib.Core.Path.{◌≡◌, refl, sym, ap, ◌∙◌}
use mathlib.Core.Bool.{Bool, true, false, cond, not, ◌&&◌, ◌||◌, true≢false}
use mathlib.Core.List.{List, [], ◌∷◌, ◌++◌}
use Prim.Native.Nat.{ℕ, suc, ◌+◌, ◌-◌, ◌*◌, ◌/◌, ◌^◌, ◌≤◌, ◌<◌}
use native.Mathlib.Omega.{arith}
use lib.ListN.{length, take, drop, replicate, length-replicate, length-append}
use lib.Seq.{take_at, drop_at}
use lib.Dec.{leb, ltb, eqb}
use borrow.Author.Tests.{eq-eqb, ne_eqb, eqb-true, eqb-false, le-ltb, ltb-true, ltb-false, leb-false}
use Rattle.rules.specs.declared.Answer.{Answer}
use Rattle.rules.specs.Rules.{answer, accepted, first}
use Rattle.rules.proofs.Chain.{refuse_last, both, not_so, first_refused, first_passed}
use Rattle.field64.specs.Field.{p64}
use Rattle.pine.specs.declared.PineParam.{PineParam}
use Rattle.pine.specs.Param.{Field64, param_answer}
use Rattle.rows.specs.Rows.{row_rule}
use Rattle.rows.proofs.Lengths.{right_row}
use Rattle.rows.proofs.Elements.{right_elements}
use Rattle.entries.specs.File.{Entry, key_in, keys_of, file_of, file_len, FileOk, entries_in, most_reports, held, index, fresh, entry_for, added}
use Rattle.entries.proofs.Files.{file_accepted, entries_of_file, length_file}
use Rattle.entries.proofs.Adding.{added_ok, inserted}
use Rattle.day_file.specs.Calls.{of_len}
use Rattle.day_file.proofs.Verdicts.{number, dimension_limits}
use Rattle.file_add.specs.Add.{room_rule, reports_rule, add_answer, new_file, add_outcome, add_of}
use Rattle.file_size.specs.Size.{Report, report_answer, Day, day, day_of, keys_day, size_answer, size_up_to, size_of}
use Rattle.file_size.specs.Steps.{key_rules, reports_at, with_key, Run, run, run_of, numbers_in}
use Rattle.file_size.proofs.Steps.{inserted_split}
use Rattle.file_size.proofs.Days.{numbers_of, day_run, keys_run}
use Rattle.whole_day.specs.Day.{file_day, file_day_of, ReportOk, ReportsOk, key_bytes}

-- ---- one call on the file of some entries

module _ (i : PineParam) (ok : param_answer Field64 i ≡ accepted) where
  abbrev d : ℕ
  d = i.dimension

  dims : (0 < d) × (d ≤ 65536)
  dims = dimension_limits i (param_answer Field64 i) refl (ap number ok)

  small : p64 ≤ 2 ^ 64
  small = omega arith

  narrow : d < 2 ^ 32
  narrow = omega (arith, dims)

  module _ (es : List Entry) (o : FileOk p64 d es) (r : Report) (g : ReportOk p64 d r) where
    abbrev file : List ℕ
    file = file_of d es

    abbrev second : List ℕ
    second = replicate (length file + (12 + 8 * d)) 0

    back : entries_in d file ≡ es
    back = entries_of_file p64 d es o small narrow

    call_answer : add_answer i r.key file r.share (length second) ≡ report_answer most_reports d r.key es
    unfolding add_answer
    call_answer =
        rw (ok, right_row 2 (length r.share) d g.share.long, right_row 3 (length second) (length file + (12 + 8 * d)) (length-replicate (length file + (12 + 8 * d)) 0), file_accepted p64 d es o small narrow, right_elements p64 0 r.share g.share.below, back)
        (ap (first (room_rule r.key es)) (refuse_last (eqb (entry_for (fresh d r.key) es).reports 4294967295) 15 (index (key_in r.key) (keys_of es))))

    call_file : new_file i r.key file r.share ≡ file_of d (added p64 d r.key r.share es)
    unfolding new_file
    call_file = rw back

    pub next_ok : (report_answer most_reports d r.key es).number ≡ 0 → FileOk p64 d (added p64 d r.key r.share es)
    next_ok z =
        let b = both (room_rule r.key es) (reports_rule most_reports d r.key es) z in
        let n = eqb-false (entry_for (fresh d r.key) es).reports 4294967295 (not_so (eqb (entry_for (fresh d r.key) es).reports 4294967295) 15 (index (key_in r.key) (keys_of es)) b.1) in
        added_ok p64 d (omega arith) r.key g.key.long g.key.bytes r.share g.share.long es o n (λ f. room f (held (key_in r.key) (keys_of es)) refl f (not_so (not (held (key_in r.key) (keys_of es)) && leb 1024 (length es)) 14 0 b.0))
      where
        room : held (key_in r.key) (keys_of es) ≡ false → (t : Bool) → held (key_in r.key) (keys_of es) ≡ t → t ≡ false → (not t && leb 1024 (length es)) ≡ false → length es < 1024
        room f true e h q = absurd (true≢false h)
        room f false e h q = leb-false 1024 (length es) q

    abbrev new : List ℕ
    new = file_of d (added p64 d r.key r.share es)

    abbrev A : Answer
    A = report_answer most_reports d r.key es

    pub call_gives : add_of i r.key file r.share second ≡ add_outcome A (cond (eqb A.number 0) (length new) 0) (cond (eqb A.number 0) (new ++ drop (length new) second) second)
    unfolding add_of
    call_gives = rw (call_answer, call_file)

    day_step : (rs : List Report) → file_day_of i file (r ∷ rs) ≡ cond (eqb A.number 0) (file_day_of i new rs) (file_day A file)
    unfolding file_day_of
    day_step rs = rw call_gives (go (eqb A.number 0))
      where
        go : (t : Bool) → cond t (file_day_of i (take (cond t (length new) 0) (cond t (new ++ drop (length new) second) second)) rs) (file_day A file) ≡ cond t (file_day_of i new rs) (file_day A file)
        go true = ap (λ (f : List ℕ). file_day_of i f rs) (take_at new (drop (length new) second) (length new) refl)
        go false = refl

  -- ---- the calls of a day

  pub calls_day : (es : List Entry) → FileOk p64 d es → (rs : List Report) → ReportsOk p64 d rs
      → (file_day_of i (file_of d es) rs ≡ file_day (day_of most_reports p64 d es rs).answer (file_of d (day_of most_reports p64 d es rs).entries)) × FileOk p64 d (day_of most_reports p64 d es rs).entries
  unfolding day_of file_day_of
  calls_day es o [] g = (refl, o)
  calls_day es o (r ∷ rs) g =
      let p = go (eqb (report_answer most_reports d r.key es).number 0) refl (λ z. calls_day (added p64 d r.key r.share es) (next_ok es o r g.0 z) rs g.1) in
      (day_step es o r g.0 rs ∙ p.0, p.1)
    where
      go : (t : Bool) → eqb (report_answer most_reports d r.key es).number 0 ≡ t
          → ((report_answer most_reports d r.key es).number ≡ 0 → (file_day_of i (file_of d (added p64 d r.key r.share es)) rs ≡ file_day (day_of most_reports p64 d (added p64 d r.key r.share es) rs).answer (file_of d (day_of most_reports p64 d (added p64 d r.key r.share es) rs).entries)) × FileOk p64 d (day_of most_reports p64 d (added p64 d r.key r.share es) rs).entries)
          → (cond t (file_day_of i (file_of d (added p64 d r.key r.share es)) rs) (file_day (report_answer most_reports d r.key es) (file_of d es)) ≡ file_day (cond t (day_of most_reports p64 d (added p64 d r.key r.share es) rs) (day (report_answer most_reports d r.key es) es)).answer (file_of d (cond t (day_of most_reports p64 d (added p64 d r.key r.share es) rs) (day (report_answer most_reports d r.key es) es)).entries))
          × FileOk p64 d (cond t (day_of most_reports p64 d (added p64 d r.key r.share es) rs) (day (report_answer most_reports d r.key es) es)).entries
      go true e f = f (eqb-true (report_answer most_reports d r.key es).number 0 e)
      go false e f = (refl, o)

  -- ---- the list of keys, as the call takes it

  length_keys : (rs : List Report) → ReportsOk p64 d rs → length (key_bytes rs) ≡ 8 * length rs
  length_keys [] g = refl
  length_keys (r ∷ rs) g = length-append r.key (key_bytes rs) ∙ omega (arith, g.0.key.long, length_keys rs g.1)

  numbers_are : (rs : List Report) → ReportsOk p64 d rs → numbers_in (length rs) (key_bytes rs) ≡ numbers_of rs
  unfolding numbers_in
  numbers_are [] g = refl
  numbers_are (r ∷ rs) g = rw (take_at r.key (key_bytes rs) 8 g.0.key.long, drop_at r.key (key_bytes rs) 8 g.0.key.long) (ap (λ (l : List ℕ). key_in r.key ∷ l) (numbers_are rs g.1))

  module _ (rs : List Report) (g : ReportsOk p64 d rs) where
    eighth : length (key_bytes rs) / 8 ≡ length rs
    eighth = omega (arith, length_keys rs g)

    same_run : run_of most_reports [] [] (numbers_in (length (key_bytes rs) / 8) (key_bytes rs)) ≡ run_of most_reports [] [] (numbers_of rs)
    same_run = rw eighth (ap (run_of most_reports [] []) (numbers_are rs g))

    abbrev D : Day
    D = day_of most_reports p64 d [] rs

    same_answer : D.answer ≡ (keys_day most_reports (key_bytes rs)).answer
    same_answer = (day_run most_reports p64 d [] rs).answer ∙ ap (λ (x : Run). x.answer) (sym same_run) ∙ sym (keys_run most_reports (key_bytes rs)).answer

    size_answer_lem : size_answer most_reports i (key_bytes rs) ≡ first D.answer accepted
    unfolding size_answer
    size_answer_lem = rw (ok, right_row 1 (length (key_bytes rs)) (8 * (length (key_bytes rs) / 8)) whole, same_answer)
      where
        whole : length (key_bytes rs) ≡ 8 * (length (key_bytes rs) / 8)
        whole = omega (arith, length_keys rs g)

    same_length : D.answer.number ≡ 0 → length D.entries ≡ length (keys_day most_reports (key_bytes rs)).entries
    same_length z = (day_run most_reports p64 d [] rs).count z ∙ ap (λ (x : Run). x.count) (sym same_run) ∙ sym ((keys_run most_reports (key_bytes rs)).count (ap number (sym same_answer) ∙ z))

    -- a file begun empty
    pub begun : FileOk p64 d []
    begun = record { few = omega arith; entries = tt; rise = refl }

    -- refused first exactly as the call says
    pub first_refusal : ((file_day_of i (file_of d []) rs).answer.number ≡ 0 → ⊥) → (file_day_of i (file_of d []) rs).answer ≡ size_answer most_reports i (key_bytes rs)
    first_refusal n =
        let c = (calls_day [] begun rs g).0 in
        rw c (sym (size_answer_lem ∙ first_refused D.answer accepted (λ z. n (rw c z))))

    -- or not at all, and then the file has the length that the call gives
    pub file_of_size : (file_day_of i (file_of d []) rs).answer.number ≡ 0 → size_of i (key_bytes rs) ≡ of_len accepted (length (file_day_of i (file_of d []) rs).file)
    unfolding size_up_to
    file_of_size n =
        let c = calls_day [] begun rs g in
        let z : D.answer.number ≡ 0 = rw c.0 at n in
        let l : length (file_day_of i (file_of d []) rs).file ≡ file_len d (length D.entries) = rw c.0 (length_file p64 d D.entries c.1 small narrow) in
        rw (size_answer_lem, first_passed D.answer accepted z, l, same_length z)

-- ---- the number of entries is the number of different keys, as numbers

abbrev pub among_numbers : (k : ℕ) → List ℕ → Bool
among_numbers k [] = false
among_numbers k (l ∷ ks) = eqb l k || among_numbers k ks

unfoldable pub different_numbers : (seen ks : List ℕ) → ℕ
different_numbers seen [] = 0
different_numbers seen (k ∷ ks) = cond (among_numbers k seen) (different_numbers seen ks) (suc (different_numbers (k ∷ seen) ks))

-- a key that is held already changes nothing
inserted_held : (k : ℕ) (ks : List ℕ) → held k ks ≡ true → inserted k ks ≡ ks
inserted_held k [] h = absurd (true≢false (sym h))
inserted_held k (l ∷ ks) h = go (ltb l k) (eqb l k) h (inserted_held k ks)
  where
    go : (s t : Bool) → cond s (held k ks) t ≡ true → (held k ks ≡ true → inserted k ks ≡ ks) → cond s (l ∷ inserted k ks) (cond t (l ∷ ks) (k ∷ l ∷ ks)) ≡ l ∷ ks
    go true t h f = ap (λ (x : List ℕ). l ∷ x) (f h)
    go false true h f = refl
    go false false h f = absurd (true≢false (sym h))

-- a new one is there afterwards, beside those that were
inserted_new : (x k : ℕ) (ks : List ℕ) → held k ks ≡ false → held x (inserted k ks) ≡ (eqb k x || held x ks)
inserted_new x k [] h = go (ltb k x) refl
  where
    go : (t : Bool) → ltb k x ≡ t → cond t false (eqb k x) ≡ (eqb k x || false)
    go true e = rw (ne_eqb k x (λ q. omega (arith, ltb-true k x e)))
    go false e = plain (eqb k x)
      where
        plain : (t : Bool) → t ≡ (t || false)
        plain true = refl
        plain false = refl
inserted_new x k (l ∷ ks) h = go (ltb l k) (eqb l k) refl refl h (inserted_new x k ks)
  where
    go : (s t : Bool) → ltb l k ≡ s → eqb l k ≡ t → cond s (held k ks) t ≡ false → (held k ks ≡ false → held x (inserted k ks) ≡ (eqb k x || held x ks))
        → held x (cond s (l ∷ inserted k ks) (cond t (l ∷ ks) (k ∷ l ∷ ks))) ≡ (eqb k x || cond (ltb l x) (held x ks) (eqb l x))
    go true t e f h r = by (ltb l x) refl
      where
        by : (u : Bool) → ltb l x ≡ u → cond u (held x (inserted k ks)) (eqb l x) ≡ (eqb k x || cond u (held x ks) (eqb l x))
        by true q = r h
        by false q =
            let a : l < k = ltb-true l k e in
            let b : x ≤ l = ltb-false l x q in
            rw (ne_eqb k x (λ z. omega arith))
    go false true e f h r = absurd (true≢false h)
    go false false e f h r = by (ltb k x) refl
      where
        below : k < l
        below =
            let a : k ≤ l = ltb-false l k e in
            let b : l ≡ k → ⊥ = eqb-false l k f in
            omega arith

        by : (u : Bool) → ltb k x ≡ u → cond u (cond (ltb l x) (held x ks) (eqb l x)) (eqb k x) ≡ (eqb k x || cond (ltb l x) (held x ks) (eqb l x))
        by true q = rw (ne_eqb k x (λ z. omega (arith, ltb-true k x q)))
        by false q = again (eqb k x) refl
          where
            again : (v : Bool) → eqb k x ≡ v → v ≡ (v || cond (ltb l x) (held x ks) (eqb l x))
            again true w = refl
            again false w =
                let a : x ≤ k = ltb-false k x q in
                rw (le-ltb l x (omega (arith, below)), ne_eqb l x (λ z. omega (arith, below)))

pub held_inserted : (x k : ℕ) (ks : List ℕ) → held x (inserted k ks) ≡ (eqb k x || held x ks)
held_inserted x k ks = go (held k ks) refl
  where
    go : (t : Bool) → held k ks ≡ t → held x (inserted k ks) ≡ (eqb k x || held x ks)
    go true e = ap (held x) (inserted_held k ks e) ∙ by (eqb k x) refl
      where
        by : (t : Bool) → eqb k x ≡ t → held x ks ≡ (t || held x ks)
        by true q = ap (λ (y : ℕ). held y ks) (sym (eqb-true k x q)) ∙ e
        by false q = refl
    go false e = inserted_new x k ks e

length_inserted : (k : ℕ) (ks : List ℕ) → length (inserted k ks) ≡ length ks + cond (held k ks) 0 1
length_inserted k [] = refl
length_inserted k (l ∷ ks) = go (ltb l k) (eqb l k) (length_inserted k ks)
  where
    go : (s t : Bool) → length (inserted k ks) ≡ length ks + cond (held k ks) 0 1 → length (cond s (l ∷ inserted k ks) (cond t (l ∷ ks) (k ∷ l ∷ ks))) ≡ suc (length ks) + cond (cond s (held k ks) t) 0 1
    go true t r = omega arith
    go false true r = omega arith
    go false false r = omega arith

pub run_different : (most : ℕ) (ks rs ns seen : List ℕ) → ((x : ℕ) → among_numbers x seen ≡ held x ks) → (run_of most ks rs ns).answer.number ≡ 0 → (run_of most ks rs ns).count ≡ length ks + different_numbers seen ns
unfolding run_of different_numbers
run_different most ks rs [] seen f h = omega arith
run_different most ks rs (k ∷ ns) seen f h = go (eqb (key_rules most k ks rs).number 0) refl h (run_different most (with_key k ks ks k) (with_key k ks rs (reports_at k ks rs + 1)) ns)
  where
    W : with_key k ks ks k ≡ inserted k ks
    W = sym (inserted_split k ks)

    go : (t : Bool) → eqb (key_rules most k ks rs).number 0 ≡ t
        → (cond t (run_of most (with_key k ks ks k) (with_key k ks rs (reports_at k ks rs + 1)) ns) (run (key_rules most k ks rs) 0)).answer.number ≡ 0
        → ((seen' : List ℕ) → ((x : ℕ) → among_numbers x seen' ≡ held x (with_key k ks ks k)) → (run_of most (with_key k ks ks k) (with_key k ks rs (reports_at k ks rs + 1)) ns).answer.number ≡ 0 → (run_of most (with_key k ks ks k) (with_key k ks rs (reports_at k ks rs + 1)) ns).count ≡ length (with_key k ks ks k) + different_numbers seen' ns)
        → (cond t (run_of most (with_key k ks ks k) (with_key k ks rs (reports_at k ks rs + 1)) ns) (run (key_rules most k ks rs) 0)).count ≡ length ks + cond (among_numbers k seen) (different_numbers seen ns) (suc (different_numbers (k ∷ seen) ns))
    go false e h r = absurd (eqb-false (key_rules most k ks rs).number 0 e h)
    go true e h r = rw (f k) (by (held k ks) refl)
      where
        long : length (with_key k ks ks k) ≡ length ks + cond (held k ks) 0 1
        long = ap length W ∙ length_inserted k ks

        by : (u : Bool) → held k ks ≡ u → (run_of most (with_key k ks ks k) (with_key k ks rs (reports_at k ks rs + 1)) ns).count ≡ length ks + cond u (different_numbers seen ns) (suc (different_numbers (k ∷ seen) ns))
        by true q =
            let s = r seen (λ x. f x ∙ ap (held x) (sym (W ∙ inserted_held k ks q))) h in
            let l : length (with_key k ks ks k) ≡ length ks + 0 = long ∙ ap (λ (v : Bool). length ks + cond v 0 1) q in
            omega arith
        by false q =
            let s = r (k ∷ seen) (λ x. ap (λ (v : Bool). eqb k x || v) (f x) ∙ sym (ap (held x) W ∙ inserted_new x k ks q)) h in
            let l : length (with_key k ks ks k) ≡ length ks + 1 = long ∙ ap (λ (v : Bool). length ks + cond v 0 1) q in
            omega arith

-- the size is 6 + D (12 + 8 d)
pub size_different : (i : PineParam) (keys : List ℕ) → (size_answer most_reports i keys).number ≡ 0 → (size_of i keys).len ≡ file_len i.dimension (different_numbers [] (numbers_in (length keys / 8) keys))
unfolding size_answer size_up_to
size_different i keys h =
    let P = param_answer Field64 i in
    let R = row_rule 1 (length keys) (8 * (length keys / 8)) in
    let X = (keys_day most_reports keys).answer in
    let a = both P (first R (first X accepted)) h in
    let b = both R (first X accepted) a.1 in
    let z = (both X accepted b.1).0 in
    let s = keys_run most_reports keys in
    let n : length (keys_day most_reports keys).entries ≡ 0 + different_numbers [] (numbers_in (length keys / 8) keys) = s.count z ∙ run_different most_reports [] [] (numbers_in (length keys / 8) keys) [] (λ x. refl) (ap number (sym s.answer) ∙ z) in
    let m : length (keys_day most_reports keys).entries ≡ different_numbers [] (numbers_in (length keys / 8) keys) = omega arith in
    rw (eq-eqb (first P (first R (first X accepted))).number 0 h, m)
