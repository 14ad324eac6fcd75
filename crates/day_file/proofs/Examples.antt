-- Worked examples of reading, writing and the greatest length, computed: the rows, and each rule. Assumes nothing.
use mathlib.Core.Path.{◌≡◌, refl}
use mathlib.Core.List.{List, [], ◌∷◌}
use Prim.Native.Nat.{ℕ}
use lib.ListN.{replicate}
use Rattle.rules.specs.Rules.{answer, accepted}
use Rattle.field64.specs.Field.{p64}
use Rattle.pine.specs.declared.PineParam.{PineParam}
use Rattle.pine.specs.Param.{param_rules, param_answer, standard}
use Rattle.rows.specs.Outcome.{outcome}
use Rattle.octets.specs.Octets.{to_bytes, from_bytes, element_bytes, elements_in}
use Rattle.entries.specs.File.{high_first, keys_in, count_in, dimension_in, contents_in, bodies_in, is_rows, is_file}
use Rattle.day_file.specs.Calls.{read_answer, read_outcome, read_of, write_answer, write_of, of_len, max_of}

-- dimension d
abbrev i : (d : ℕ) → PineParam
i d = standard 1 d 0 1 1 1 1

-- a file of one entry of dimension 2: address 1 2 3 4 5 6, valve 258, 3 reports, and this body
abbrev file : (x y : ℕ) → List ℕ
file x y = 1 ∷ 0 ∷ 2 ∷ 0 ∷ 0 ∷ 0 ∷ 1 ∷ 2 ∷ 3 ∷ 4 ∷ 5 ∷ 6 ∷ 2 ∷ 1 ∷ 3 ∷ 0 ∷ 0 ∷ 0 ∷ x ∷ 0 ∷ 0 ∷ 0 ∷ 0 ∷ 0 ∷ 0 ∷ 0 ∷ 0 ∷ y ∷ 0 ∷ 0 ∷ 0 ∷ 0 ∷ 0 ∷ 0 ∷ []

abbrev contents : List ℕ
contents = 1 ∷ 2 ∷ 3 ∷ 4 ∷ 5 ∷ 6 ∷ 2 ∷ 1 ∷ 3 ∷ 0 ∷ 0 ∷ 0 ∷ []

-- ---- reading, into rows of sevens

reads : read_of (i 2) (file 9 1) (replicate 12 7) (replicate 2 7) ≡ read_outcome accepted contents (9 ∷ 256 ∷ [])
unfolding read_of read_answer is_file is_rows count_in dimension_in contents_in bodies_in keys_in high_first from_bytes elements_in param_rules param_answer
reads = refl

-- 3: the inputs come first. 7: contents, then bodies, by the count in the first two bytes, 0 for a file of one byte; before 14
inputs : read_of (i 0) (file 9 1) [] [] ≡ read_outcome (answer 3 0) [] []
unfolding read_of read_answer param_rules param_answer
inputs = refl

short_contents : read_of (i 2) (file 9 1) (replicate 11 7) (replicate 3 7) ≡ read_outcome (answer 7 2) (replicate 11 7) (replicate 3 7)
unfolding read_of read_answer count_in from_bytes param_rules param_answer
short_contents = refl

long_bodies : read_of (i 2) (file 9 1) (replicate 12 7) (replicate 3 7) ≡ read_outcome (answer 7 3) (replicate 12 7) (replicate 3 7)
unfolding read_of read_answer count_in from_bytes param_rules param_answer
long_bodies = refl

one_byte : read_of (i 2) (1 ∷ []) [] [] ≡ read_outcome (answer 14 0) [] []
unfolding read_of read_answer count_in from_bytes param_rules param_answer is_file
one_byte = refl

-- 14: another dimension; bytes that are missing
dimension_3 : read_of (i 3) (file 9 1) (replicate 12 7) (replicate 3 7) ≡ read_outcome (answer 14 0) (replicate 12 7) (replicate 3 7)
unfolding read_of read_answer count_in dimension_in from_bytes param_rules param_answer is_file
dimension_3 = refl

header_alone : read_of (i 2) (1 ∷ 0 ∷ 2 ∷ 0 ∷ 0 ∷ 0 ∷ []) (replicate 12 7) (replicate 2 7) ≡ read_outcome (answer 14 0) (replicate 12 7) (replicate 2 7)
unfolding read_of read_answer count_in dimension_in from_bytes param_rules param_answer is_file
header_alone = refl

-- ---- writing, over a row of sevens

writes : write_of (i 2) 1 contents (9 ∷ 256 ∷ []) (replicate 34 7) ≡ outcome accepted (file 9 1)
unfolding write_of write_answer is_rows keys_in high_first from_bytes to_bytes element_bytes param_rules param_answer
writes = refl

nothing : write_of (i 2) 0 [] [] (replicate 6 7) ≡ outcome accepted (0 ∷ 0 ∷ 2 ∷ 0 ∷ 0 ∷ 0 ∷ [])
unfolding write_of write_answer is_rows keys_in high_first from_bytes to_bytes element_bytes param_rules param_answer
nothing = refl

-- 7 by the count given, whole numbers of any size; an element that is p is 14
wrong_count : write_of (i 2) 2 contents (9 ∷ 256 ∷ []) (replicate 34 7) ≡ outcome (answer 7 1) (replicate 34 7)
unfolding write_of write_answer param_rules param_answer
wrong_count = refl

huge_count : write_of (i 2) 9223372036854775808 [] [] (replicate 6 7) ≡ outcome (answer 7 1) (replicate 6 7)
unfolding write_of write_answer param_rules param_answer
huge_count = refl

wrong_bodies : write_of (i 2) 1 contents (9 ∷ []) (replicate 34 7) ≡ outcome (answer 7 2) (replicate 34 7)
unfolding write_of write_answer param_rules param_answer
wrong_bodies = refl

wrong_file : write_of (i 2) 1 contents (p64 ∷ 256 ∷ []) (replicate 33 7) ≡ outcome (answer 7 3) (replicate 33 7)
unfolding write_of write_answer param_rules param_answer
wrong_file = refl

element_p : write_of (i 2) 1 contents (9 ∷ p64 ∷ []) (replicate 34 7) ≡ outcome (answer 14 0) (replicate 34 7)
unfolding write_of write_answer is_rows keys_in high_first from_bytes param_rules param_answer
element_p = refl

-- ---- the greatest length, of dimension 2: 28 bytes an entry

none_added : max_of (i 2) 0 ≡ of_len accepted 6
unfolding max_of param_rules param_answer
none_added = refl

most_added : max_of (i 2) 1024 ≡ of_len accepted 28678
unfolding max_of param_rules param_answer
most_added = refl

more_added : max_of (i 2) 4294967295 ≡ of_len accepted 28678
unfolding max_of param_rules param_answer
more_added = refl

refused : max_of (i 65537) 1 ≡ of_len (answer 3 0) 0
unfolding max_of param_rules param_answer
refused = refl
