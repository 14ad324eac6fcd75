-- Bits of a number, and a row cut in groups. Assumes nothing.
use Rattle.std.specs.Prelude.{ℕ, zero, suc, ◌/◌, ◌%◌, List, [], ◌∷◌, take, drop}

-- the k low bits of v, low first
unfoldable pub bits : (k v : ℕ) → List ℕ
bits zero v = []
bits (suc k) v = v % 2 ∷ bits k (v / 2)

-- the row's first t groups of k elements
unfoldable pub groups : (k t : ℕ) → List ℕ → List (List ℕ)
groups k zero xs = []
groups k (suc t) xs = take k xs ∷ groups k t (drop k xs)
