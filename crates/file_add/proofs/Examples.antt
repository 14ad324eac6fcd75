-- Worked examples of adding, computed: the new file, the bytes past it, and each rule. Assumes nothing.
use mathlib.Core.Path.{◌≡◌, refl}
use mathlib.Core.List.{List, [], ◌∷◌, ◌++◌}
use Prim.Native.Nat.{ℕ, zero, suc, ◌-◌}
use lib.ListN.{replicate}
use Rattle.rules.specs.Rules.{answer, accepted}
use Rattle.field64.specs.Field.{p64}
use Rattle.pine.specs.declared.PineParam.{PineParam}
use Rattle.pine.specs.Param.{param_rules, param_answer, standard}
use Rattle.octets.specs.Octets.{to_bytes, from_bytes, element_bytes, elements_in}
use Rattle.entries.specs.File.{Entry, entry, high_first, keys_in, count_in, dimension_in, contents_in, bodies_in, entries_from, entries_in, is_rows, is_file, file_of, added, most_reports}
use Rattle.file_add.specs.Add.{room_rule, reports_rule, add_answer, new_file, add_outcome, add_of}

-- dimension d
abbrev i : (d : ℕ) → PineParam
i d = standard 1 d 0 1 1 1 1

abbrev nothing : List ℕ
nothing = 0 ∷ 0 ∷ 1 ∷ 0 ∷ 0 ∷ 0 ∷ []

abbrev key : (valve : ℕ) → List ℕ
key v = 1 ∷ 2 ∷ 3 ∷ 4 ∷ 5 ∷ 6 ∷ v ∷ 0 ∷ []

-- a file of dimension 1 with one entry, valve 2
abbrev one : (reports x : ℕ) → List ℕ
one r x = (1 ∷ 0 ∷ 1 ∷ 0 ∷ 0 ∷ 0 ∷ []) ++ (key 2 ++ (to_bytes 4 r ++ to_bytes 8 x))

-- ---- a file begun empty; then one report more of the key, and of a valve before it; into rows of sevens

begins : add_of (i 1) (key 2) nothing (9 ∷ []) (replicate 26 7) ≡ add_outcome accepted 26 (one 1 9)
unfolding add_of add_answer new_file param_rules param_answer is_file is_rows count_in dimension_in contents_in bodies_in keys_in high_first from_bytes to_bytes elements_in element_bytes entries_in entries_from added file_of
begins = refl

again : add_of (i 1) (key 2) (one 1 9) ((p64 - 1) ∷ []) (replicate 46 7) ≡ add_outcome accepted 26 (one 2 8 ++ replicate 20 7)
unfolding add_of add_answer new_file param_rules param_answer is_file is_rows count_in dimension_in contents_in bodies_in keys_in high_first from_bytes to_bytes elements_in element_bytes entries_in entries_from added file_of
again = refl

before : add_of (i 1) (key 1) (one 1 9) (5 ∷ []) (replicate 46 7)
    ≡ add_outcome accepted 46 ((2 ∷ 0 ∷ 1 ∷ 0 ∷ 0 ∷ 0 ∷ []) ++ (key 1 ++ ((1 ∷ 0 ∷ 0 ∷ 0 ∷ []) ++ (key 2 ++ ((1 ∷ 0 ∷ 0 ∷ 0 ∷ []) ++ ((5 ∷ 0 ∷ 0 ∷ 0 ∷ 0 ∷ 0 ∷ 0 ∷ 0 ∷ []) ++ (9 ∷ 0 ∷ 0 ∷ 0 ∷ 0 ∷ 0 ∷ 0 ∷ 0 ∷ [])))))))
unfolding add_of add_answer new_file param_rules param_answer is_file is_rows count_in dimension_in contents_in bodies_in keys_in high_first from_bytes to_bytes elements_in element_bytes entries_in entries_from added file_of
before = refl

-- ---- 7, of the share and then of the second row; 14, after 7 and before 12; 12, its place within the share

share_short : add_of (i 1) (key 2) (1 ∷ []) [] (replicate 21 7) ≡ add_outcome (answer 7 2) 0 (replicate 21 7)
unfolding add_of add_answer param_rules param_answer
share_short = refl

second_long : add_of (i 1) (key 2) (one 1 9) (p64 ∷ []) (replicate 47 7) ≡ add_outcome (answer 7 3) 0 (replicate 47 7)
unfolding add_of add_answer param_rules param_answer to_bytes
second_long = refl

no_file : add_of (i 1) (key 2) (one 1 p64) (p64 ∷ []) (replicate 46 7) ≡ add_outcome (answer 14 0) 0 (replicate 46 7)
unfolding add_of add_answer param_rules param_answer is_file is_rows count_in dimension_in contents_in bodies_in keys_in high_first from_bytes to_bytes elements_in
no_file = refl

element : add_of (i 2) (key 2) (0 ∷ 0 ∷ 2 ∷ 0 ∷ 0 ∷ 0 ∷ []) (0 ∷ p64 ∷ []) (replicate 34 7) ≡ add_outcome (answer 12 1) 0 (replicate 34 7)
unfolding add_of add_answer param_rules param_answer is_file is_rows count_in dimension_in contents_in bodies_in keys_in high_first from_bytes elements_in
element = refl

-- 16, after 12; the count before the last is raised to it
full_count : add_of (i 1) (key 2) (one 4294967295 9) (0 ∷ []) (replicate 46 7) ≡ add_outcome (answer 16 0) 0 (replicate 46 7)
unfolding add_of add_answer param_rules param_answer is_file is_rows count_in dimension_in contents_in bodies_in keys_in high_first from_bytes to_bytes elements_in entries_in entries_from
full_count = refl

element_first : add_of (i 1) (key 2) (one 4294967295 9) (p64 ∷ []) (replicate 46 7) ≡ add_outcome (answer 12 0) 0 (replicate 46 7)
unfolding add_of add_answer param_rules param_answer is_file is_rows count_in dimension_in contents_in bodies_in keys_in high_first from_bytes to_bytes elements_in
element_first = refl

last_count : add_of (i 1) (key 2) (one 4294967294 9) (0 ∷ []) (replicate 46 7) ≡ add_outcome accepted 26 (one 4294967295 9 ++ replicate 20 7)
unfolding add_of add_answer new_file param_rules param_answer is_file is_rows count_in dimension_in contents_in bodies_in keys_in high_first from_bytes to_bytes elements_in element_bytes entries_in entries_from added file_of
last_count = refl

-- ---- 15: entries of n valves from v on, each with the last count of reports

abbrev valves : (n v : ℕ) → List Entry
valves zero v = []
valves (suc n) v = entry (1 ∷ 2 ∷ 3 ∷ 4 ∷ 5 ∷ 6 ∷ []) v most_reports [] ∷ valves n (suc v)

-- a new key when 1024 are held; a key that is held is 16, at its index; 1023 leave room for one
no_room : room_rule (key 9) (valves 1024 256) ≡ answer 15 0
unfolding high_first from_bytes
no_room = refl

is_held : room_rule (1 ∷ 2 ∷ 3 ∷ 4 ∷ 5 ∷ 6 ∷ 9 ∷ 1 ∷ []) (valves 1024 256) ≡ accepted
unfolding high_first from_bytes
is_held = refl

held_index : reports_rule most_reports 0 (1 ∷ 2 ∷ 3 ∷ 4 ∷ 5 ∷ 6 ∷ 9 ∷ 1 ∷ []) (valves 1024 256) ≡ answer 16 9
unfolding high_first from_bytes
held_index = refl

room_left : room_rule (key 9) (valves 1023 256) ≡ accepted
unfolding high_first from_bytes
room_left = refl
