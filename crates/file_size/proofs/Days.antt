-- A day by entries is the run of its keys: no share has a say in the answer or in the number of entries. Assumes nothing.
use mathlib.Core.Path.{◌≡◌, refl, sym, ap, ap₂, ◌∙◌}
use mathlib.Core.Bool.{Bool, true, false, cond}
use mathlib.Core.List.{List, [], ◌∷◌, ◌++◌, map}
use Prim.Native.Nat.{ℕ, zero, suc, ◌+◌, ◌/◌}
use lib.ListN.{length, get_or, take, drop, length-map}
use lib.Dec.{ltb, eqb}
use borrow.Author.Tests.{eqb-false}
use Rattle.entries.specs.File.{Entry, key_in, key_of, keys_of, fresh, held, index, entry_for, placed, raised, added}
use Rattle.entries.proofs.Walks.{held_one, placed_split}
use Rattle.entries.proofs.Adding.{found_key, keys_placed, inserted}
use Rattle.file_size.specs.Size.{Report, report_answer, Day, day, day_of, key_list, bare, keys_day}
use Rattle.file_size.specs.Steps.{reports_at, key_rules, with_key, Run, run, run_of, numbers_in}
use Rattle.file_size.proofs.Steps.{inserted_split}

abbrev pub reports_of : List Entry → List ℕ
reports_of es = map (λ e. e.reports) es

abbrev pub numbers_of : List Report → List ℕ
numbers_of rs = map (λ r. key_in r.key) rs

map-take_lem : (f : Entry → ℕ) (n : ℕ) (es : List Entry) → map f (take n es) ≡ take n (map f es)
map-take_lem f zero es = refl
map-take_lem f (suc n) [] = refl
map-take_lem f (suc n) (e ∷ es) = ap (λ (l : List ℕ). f e ∷ l) (map-take_lem f n es)

map-drop_lem : (f : Entry → ℕ) (n : ℕ) (es : List Entry) → map f (drop n es) ≡ drop n (map f es)
map-drop_lem f zero es = refl
map-drop_lem f (suc n) [] = refl
map-drop_lem f (suc n) (e ∷ es) = map-drop_lem f n es

map_join : (f : Entry → ℕ) (xs ys : List Entry) → map f (xs ++ ys) ≡ map f xs ++ map f ys
map_join f [] ys = refl
map_join f (x ∷ xs) ys = ap (λ (l : List ℕ). f x ∷ l) (map_join f xs ys)

-- the reports of the entry that is found
found_at : (f : Entry) (es : List Entry) → f.reports ≡ 0 → (entry_for f es).reports ≡ reports_at (key_of f) (keys_of es) (reports_of es)
found_at f [] z = z
found_at f (e ∷ es) z = go (ltb (key_of e) (key_of f)) (eqb (key_of e) (key_of f)) (found_at f es z)
  where
    go : (s t : Bool) → (entry_for f es).reports ≡ reports_at (key_of f) (keys_of es) (reports_of es)
        → (cond s (entry_for f es) (cond t e f)).reports ≡ cond (cond s (held (key_of f) (keys_of es)) t) (get_or (reports_of (e ∷ es)) (cond s (suc (index (key_of f) (keys_of es))) 0) 0) 0
    go true t r = r
    go false true r = refl
    go false false r = z

module _ (p d : ℕ) (key share : List ℕ) (es : List Entry) where
  abbrev k : ℕ
  k = key_in key

  abbrev found : Entry
  found = entry_for (fresh d key) es

  pub answer_is : (most : ℕ) → report_answer most d key es ≡ key_rules most k (keys_of es) (reports_of es)
  unfolding key_rules
  answer_is most = rw (found_at (fresh d key) es refl, length-map es key_of)

  abbrev next : Entry
  next = raised p share found

  pub keys_after : keys_of (added p d key share es) ≡ with_key k (keys_of es) (keys_of es) k
  unfolding added
  keys_after = keys_placed next es ∙ ap (λ (x : ℕ). inserted x (keys_of es)) (found_key (fresh d key) es) ∙ inserted_split k (keys_of es)

  pub reports_after : reports_of (added p d key share es) ≡ with_key k (keys_of es) (reports_of es) (reports_at k (keys_of es) (reports_of es) + 1)
  unfolding added
  reports_after =
      let f : Entry → ℕ = λ e. e.reports in
      let at : placed next es ≡ take (index k (keys_of es)) es ++ (next ∷ drop (index k (keys_of es) + held_one k (keys_of es)) es) = placed_split next es ∙ ap (λ (x : ℕ). take (index x (keys_of es)) es ++ (next ∷ drop (index x (keys_of es) + held_one x (keys_of es)) es)) (found_key (fresh d key) es) in
      ap (map f) at ∙ map_join f (take (index k (keys_of es)) es) (next ∷ drop (index k (keys_of es) + held_one k (keys_of es)) es)
      ∙ ap₂ (λ (x y : List ℕ). x ++ ((found.reports + 1) ∷ y)) (map-take_lem f (index k (keys_of es)) es) (map-drop_lem f (index k (keys_of es) + held_one k (keys_of es)) es)
      ∙ ap (λ (x : ℕ). take (index k (keys_of es)) (reports_of es) ++ ((x + 1) ∷ drop (index k (keys_of es) + held_one k (keys_of es)) (reports_of es))) (found_at (fresh d key) es refl)

-- a day and the run of its keys
pub record SameRun (D : Day) (R : Run) : Type 0 where
  pub answer : D.answer ≡ R.answer
  pub count : D.answer.number ≡ 0 → length D.entries ≡ R.count

pub day_run : (most p d : ℕ) (es : List Entry) (rs : List Report) → SameRun (day_of most p d es rs) (run_of most (keys_of es) (reports_of es) (numbers_of rs))
unfolding day_of run_of
day_run most p d es [] = record { answer = refl; count = λ z. sym (length-map es key_of) }
day_run most p d es (r ∷ rs) = go (eqb (report_answer most d r.key es).number 0) refl (day_run most p d (added p d r.key r.share es) rs)
  where
    a : report_answer most d r.key es ≡ key_rules most (key_in r.key) (keys_of es) (reports_of es)
    a = answer_is p d r.key r.share es most

    K : List ℕ
    K = with_key (key_in r.key) (keys_of es) (keys_of es) (key_in r.key)

    go : (t : Bool) → eqb (report_answer most d r.key es).number 0 ≡ t
        → SameRun (day_of most p d (added p d r.key r.share es) rs) (run_of most (keys_of (added p d r.key r.share es)) (reports_of (added p d r.key r.share es)) (numbers_of rs))
        → SameRun (cond t (day_of most p d (added p d r.key r.share es) rs) (day (report_answer most d r.key es) es))
        (cond (eqb (key_rules most (key_in r.key) (keys_of es) (reports_of es)).number 0) (run_of most (with_key (key_in r.key) (keys_of es) (keys_of es) (key_in r.key)) (with_key (key_in r.key) (keys_of es) (reports_of es) (reports_at (key_in r.key) (keys_of es) (reports_of es) + 1)) (numbers_of rs)) (run (key_rules most (key_in r.key) (keys_of es) (reports_of es)) 0))
    go true e s = rw (← a, e, ← keys_after p d r.key r.share es, ← reports_after p d r.key r.share es) s
    go false e s = rw (← a, e) (record { answer = refl; count = λ z. absurd (eqb-false (report_answer most d r.key es).number 0 e z) })

-- the keys of a list
numbers_bare : (n : ℕ) (bs : List ℕ) → numbers_of (map bare (key_list n bs)) ≡ numbers_in n bs
unfolding key_list numbers_in
numbers_bare zero bs = refl
numbers_bare (suc n) bs = ap (λ (l : List ℕ). key_in (take 8 bs) ∷ l) (numbers_bare n (drop 8 bs))

pub keys_run : (most : ℕ) (keys : List ℕ) → SameRun (keys_day most keys) (run_of most [] [] (numbers_in (length keys / 8) keys))
unfolding keys_day
keys_run most keys = rw (← numbers_bare (length keys / 8) keys) (day_run most Rattle.field64.specs.Field.p64 0 [] (map bare (key_list (length keys / 8) keys)))
