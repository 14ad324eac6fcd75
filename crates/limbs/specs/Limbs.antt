-- Elements of Field128 by limbs, whose sums a word holds. No public contract cites these. Assumes nothing.
use Rattle.std.specs.Prelude.{◌≡◌, ℕ, zero, suc, ◌+◌, ◌-◌, ◌*◌, ◌/◌, ◌%◌, ◌^◌, Bool, true, false, cond, List, [], ◌∷◌, map, length, nat_le}
use Rattle.field64.specs.Field.{p64, add_mod}
use Rattle.field128.specs.Field128.{p128}

-- limb k of a number, the lowest first: 43 bits each, so that three make an element
abbrev pub limb : (k x : ℕ) → ℕ
limb zero x = x % 2 ^ 43
limb (suc k) x = limb k (x / 2 ^ 43)

abbrev pub limbs : (k : ℕ) (xs : List ℕ) → List ℕ
limbs k xs = map (limb k) xs

-- the modulus of the sums on limbs: Field64's where they are reduced, else that of words
abbrev pub modulus_of : (reduced : Bool) → ℕ
modulus_of true = p64
modulus_of false = 2 ^ 64

-- those of one or two tests are reduced
abbrev pub modulus_for : (tests : ℕ) → ℕ
modulus_for tests = modulus_of (nat_le tests 2)

-- so many bytes of each test are taken at a time
abbrev pub width_for : (tests : ℕ) → ℕ
width_for tests = cond (nat_le tests 2) 64 8

-- so many words of a spare row they take: four weights for a byte, or the tables of three limbs
abbrev pub spare_for : (tests : ℕ) → ℕ
spare_for tests = cond (nat_le tests 2) 256 768

-- a test's result by its results on the three limbs, modulo m. Each of these stands for a whole number, from -2 ^ 59 to 2 ^ 59, and is raised until that is none below 0; in all, 2 ^ 18 times p128 is added
abbrev pub raise_low : ℕ
raise_low = 2 ^ 60 + 2 ^ 18

abbrev pub raise_middle : ℕ
raise_middle = 2 ^ 60 - 7 * 2 ^ 41 - 2 ^ 17

abbrev pub raise_high : ℕ
raise_high = 2 ^ 60 - 2 ^ 17

unfoldable pub joined : (m low middle high : ℕ) → ℕ
joined m low middle high = (add_mod m low raise_low + 2 ^ 43 * (add_mod m middle raise_middle + 2 ^ 43 * add_mod m high raise_high)) % p128

abbrev pub joined_rows : (m : ℕ) (low middle high : List ℕ) → List ℕ
joined_rows m [] ys zs = []
joined_rows m (x ∷ xs) [] zs = []
joined_rows m (x ∷ xs) (y ∷ ys) [] = []
joined_rows m (x ∷ xs) (y ∷ ys) (z ∷ zs) = joined m x y z ∷ joined_rows m xs ys zs

-- three rows of n each
abbrev pub SameLength : (n : ℕ) (low middle high : List ℕ) → Type 0
SameLength n ls ms hs = (length ls ≡ n) × ((length ms ≡ n) × (length hs ≡ n))
