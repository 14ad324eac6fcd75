-- Tables of what is taken off the results of tests. No public contract cites these. Assumes nothing.
use Rattle.std.specs.Prelude.{◌≡◌, ℕ, ◌+◌, ◌*◌, ◌/◌, ◌%◌, ◌<◌, List, [], ◌∷◌, get_or}
use Rattle.field64.specs.Field.{sub_mod}
use Rattle.flp.specs.Tests.{weighed}
use Rattle.groups.specs.Groups.{each_test}

-- entry k undoes what the pairs k % 4 and k / 4 make of a and b
abbrev pub Entry : (p a b k e : ℕ) → Type 0
Entry p a b k e = (e + (weighed p (k % 4) a + weighed p (k / 4) b)) % p ≡ 0

abbrev pub Undoes : (p a b : ℕ) (table : List ℕ) → Type 0
Undoes p a b t = (k : ℕ) → k < 16 → Entry p a b k (get_or t k 0)

-- table i, of 16 entries each, is that of the coordinates 2i and 2i + 1, one past the end counting as 0
abbrev pub Tables : (p count : ℕ) (xs tables : List ℕ) → Type 0
Tables p count xs t = (i : ℕ) → i < count → (k : ℕ) → k < 16 → Entry p (get_or xs (2 * i) 0) (get_or xs (2 * i + 1) 0) k (get_or t (16 * i + k) 0)

-- the entries of the two halves of a byte, in the two tables from start on, added
abbrev pub entries_at : (tables : List ℕ) (start byte : ℕ) → ℕ
entries_at t start byte = get_or t (start + byte % 16) 0 + get_or t (start + 16 + byte / 16) 0

-- those of bytes, each in the next two tables
abbrev pub entries_of : (tables : List ℕ) (start : ℕ) (bytes : List ℕ) → ℕ
entries_of t start [] = 0
entries_of t start (b ∷ bs) = entries_at t start b + entries_of t (start + 32) bs

-- r less the entries of the bytes of a test
abbrev pub less_entries : (p : ℕ) (tables bytes : List ℕ) (r : ℕ) → ℕ
less_entries p t bytes r = sub_mod p r (entries_of t 0 bytes % p)

-- each result less those of n bytes of its test, from byte j on
abbrev pub less_group : (p : ℕ) (tables : List ℕ) (per j n : ℕ) (stream results : List ℕ) → List ℕ
less_group p t per j n stream results = each_test (less_entries p t) per j n stream results
