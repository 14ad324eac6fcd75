-- Laws of bits and of groups. Assumes nothing.
use mathlib.Core.Path.{◌≡◌, refl, sym, ap, ◌∙◌}
use mathlib.Core.List.{List, []}
use Prim.Native.Nat.{ℕ, zero, suc, ◌+◌, ◌*◌, ◌/◌, ◌%◌, ◌^◌, ◌<◌}
use native.Mathlib.Nat.{zero-mod, pow-suc, div-one, zero-mul}
use native.Mathlib.Omega.{arith}
use lib.ListN.{length, get_or, take, drop}
use lib.Seq.{drop-drop}
use lib.Pow.{shr-shr}
use Rattle.field64.specs.Sums.{evaluate, number}
use Rattle.field64.proofs.Modular.{modular}
use Rattle.rows.specs.Rows.{Below}
use Rattle.flp.specs.Bits.{bits, groups}

pub length_bits : (k v : ℕ) → length (bits k v) ≡ k
unfolding bits
length_bits zero v = refl
length_bits (suc k) v = ap suc (length_bits k (v / 2))

-- bit j of v is v / 2 ^ j % 2
pub bits_at : (k v j : ℕ) → j < k → get_or (bits k v) j 0 ≡ v / 2 ^ j % 2
unfolding bits
bits_at zero v j h = absurd (omega arith)
bits_at (suc k) v zero h = sym (ap (λ (n : ℕ). n % 2) (div-one v))
bits_at (suc k) v (suc j) h = bits_at k (v / 2) j (omega arith) ∙ ap (λ (n : ℕ). n % 2) (shr-shr v 1 j ∙ ap (λ (n : ℕ). v / 2 ^ n) (omega arith))

pub bits_below : (k v : ℕ) → Below 2 (bits k v)
unfolding bits
bits_below zero v = tt
bits_below (suc k) v = (omega arith, bits_below k (v / 2))

-- the number of v's bits is v
pub number_bits : (p k v : ℕ) → v < 2 ^ k → number p (bits k v) ≡ v % p
unfolding bits evaluate
number_bits p zero v h =
    let z : v ≡ 0 = omega arith in
    rw z (sym (zero-mod p))
number_bits p (suc k) v h =
    let l : v / 2 < 2 ^ k = omega (arith, pow-suc 2 k) in
    rw (number_bits p k (v / 2) l) (simp modular (ap (λ (n : ℕ). n % p) (omega arith)))

pub length_groups : (k t : ℕ) (xs : List ℕ) → length (groups k t xs) ≡ t
unfolding groups
length_groups k zero xs = refl
length_groups k (suc t) xs = ap suc (length_groups k t _)

-- group t has the elements from t * k on
pub groups_at : (k n : ℕ) (xs : List ℕ) (t : ℕ) → t < n → get_or (groups k n xs) t [] ≡ take k (drop (t * k) xs)
unfolding groups
groups_at k zero xs t h = absurd (omega arith)
groups_at k (suc n) xs zero h = sym (ap (λ (m : ℕ). take k (drop m xs)) (zero-mul k))
groups_at k (suc n) xs (suc t) h =
    let e : k + t * k ≡ suc t * k = omega arith in
    groups_at k n (drop k xs) t (omega arith) ∙ rw (drop-drop (t * k) k xs, e)
