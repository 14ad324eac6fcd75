-- The tests taken by groups of columns: some bytes of every test, then the next. No public contract cites these. Assumes nothing.
use Rattle.std.specs.Prelude.{ℕ, ◌+◌, ◌*◌, min, cond, List, [], ◌∷◌, take, drop, leb}
use Rattle.field64.specs.Field.{add_mod}
use Rattle.flp.specs.Tests.{test_of}
use Rattle.groups.specs.declared.Group.{Group}

-- each result as f makes it of n bytes of its test, from byte j on
abbrev pub each_test : (f : (bytes : List ℕ) (r : ℕ) → ℕ) (per j n : ℕ) (stream results : List ℕ) → List ℕ
each_test f per j n stream [] = []
each_test f per j n stream (r ∷ rs) = f (take n (drop j stream)) r ∷ each_test f per j n (drop per stream) rs

-- each result with what n bytes of its test, from byte j on, add for the coordinates xs
abbrev pub add_group : (p per j n : ℕ) (xs stream results : List ℕ) → List ℕ
add_group p per j n xs stream results = each_test (λ bytes r. add_mod p r (test_of p xs bytes)) per j n stream results

-- so many words of a spare row are taken by n bytes of each of so many tests: four weights for a byte, or two tables of sixteen entries
abbrev pub room_for : (tests n : ℕ) → ℕ
room_for tests n = cond (leb tests 6) (4 * n) (32 * n)

-- the group from byte j on: up to so many bytes, and the coordinates for them, as many as there are
abbrev pub group_from : (j width per d : ℕ) → Group
group_from j width per d = record { end = min (j + width) per; first = min (4 * j) d; last = min (4 * min (j + width) per) d }
