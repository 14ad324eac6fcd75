-- Worked examples of the exact size, computed. Assumes nothing.
use mathlib.Core.Path.{◌≡◌, refl}
use mathlib.Core.List.{List, [], ◌∷◌, ◌++◌}
use Prim.Native.Nat.{ℕ}
use Rattle.rules.specs.Rules.{answer, accepted}
use Rattle.pine.specs.declared.PineParam.{PineParam}
use Rattle.pine.specs.Param.{param_rules, param_answer, standard}
use Rattle.entries.specs.File.{high_first, added}
use Rattle.octets.specs.Octets.{from_bytes}
use Rattle.day_file.specs.Calls.{of_len}
use Rattle.file_size.specs.Size.{day_of, key_list, keys_day, size_answer, size_up_to, size_of}

-- dimension 1: 20 bytes an entry
abbrev i : PineParam
i = standard 1 1 0 1 1 1 1

abbrev key : (first valve high : ℕ) → List ℕ
key a v w = a ∷ 0 ∷ 0 ∷ 0 ∷ 0 ∷ 0 ∷ v ∷ w ∷ []

none : size_of i [] ≡ of_len accepted 6
unfolding size_up_to size_answer keys_day key_list day_of param_rules param_answer
none = refl

-- one key twice, and two that differ in the valve's high byte
repeated : size_of i (key 1 2 0 ++ (key 1 2 1 ++ key 1 2 0)) ≡ of_len accepted 46
unfolding size_up_to size_answer keys_day key_list day_of param_rules param_answer added high_first from_bytes
repeated = refl

-- no whole keys
part : size_of i (key 1 2 0 ++ (1 ∷ [])) ≡ of_len (answer 7 1) 0
unfolding size_up_to size_answer param_rules param_answer
part = refl

-- where a key has 2 reports at most: the third of a key is 16, its place the key's index in the file then and not in the list
third : size_up_to 2 i (key 3 0 0 ++ (key 3 0 0 ++ (key 1 0 0 ++ (key 2 0 0 ++ (key 3 0 0 ++ key 0 0 0))))) ≡ of_len (answer 16 2) 0
unfolding size_up_to size_answer keys_day key_list day_of param_rules param_answer added high_first from_bytes
third = refl
