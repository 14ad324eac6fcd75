-- The number of a number's binary digits: 2 ^ digits n is the least power of two above n. Assumes nothing.
use mathlib.Core.Path.{◌≡◌, refl}
use mathlib.Core.Logic.{◌⊎◌, inl, inr}
use Prim.Native.Nat.{ℕ, zero, suc, ◌+◌, ◌-◌, ◌*◌, ◌/◌, ◌^◌, ◌≤◌, ◌<◌}
use native.Mathlib.Nat.{pow-suc, le_refl, le_antisymm, le_of_suc-le-suc, eq-zero-or-pos, lt_of_not-le, div-lt_iff_lt-mul, le-div_iff_mul-le, mul-le-mul_left}
use native.Mathlib.Omega.{arith}
use lib.Dec.{lit<}
use lib.Pow.{pow_pos, pow_mono}
use lib.Count.{count_leading_zeros, leading_unique}
use Rattle.pine.specs.Record.{ceil_div, halvings, digits}

halvings_above : (k n : ℕ) → n ≤ k → n < 2 ^ halvings k n
unfolding halvings
halvings_above zero n h = omega arith
halvings_above (suc k) zero h = lit< tt
halvings_above (suc k) (suc n) h =
    let l : suc n / 2 < 2 ^ halvings k (suc n / 2) = halvings_above k (suc n / 2) (omega arith) in
    rw pow-suc (omega arith)

halvings_least : (k n m : ℕ) → n < 2 ^ m → halvings k n ≤ m
unfolding halvings
halvings_least zero n m h = omega arith
halvings_least (suc k) zero m h = omega arith
halvings_least (suc k) (suc n) zero h = absurd (omega arith)
halvings_least (suc k) (suc n) (suc m) h =
    let l : halvings k (suc n / 2) ≤ m = halvings_least k (suc n / 2) m (omega (arith, pow-suc 2 m)) in
    omega arith

halvings_zero : (k : ℕ) → halvings k 0 ≡ 0
unfolding halvings
halvings_zero zero = refl
halvings_zero (suc k) = refl

-- no more than twice a number that is not 0
halvings_twice : (k n : ℕ) → 0 < n → 2 ^ halvings k n ≤ 2 * n
unfolding halvings
halvings_twice zero n h = omega arith
halvings_twice (suc k) zero h = absurd (omega arith)
halvings_twice (suc k) (suc n) h = rw pow-suc (go (eq-zero-or-pos (suc n / 2)) (λ g. halvings_twice k (suc n / 2) g))
  where
    go : (suc n / 2 ≡ 0) ⊎ (0 < suc n / 2) → (0 < suc n / 2 → 2 ^ halvings k (suc n / 2) ≤ 2 * (suc n / 2)) → 2 ^ halvings k (suc n / 2) * 2 ≤ 2 * suc n
    go (inl e) f = rw (e, halvings_zero k) (omega arith)
    go (inr g) f = omega (arith, f g)

pub digits_above : (n : ℕ) → n < 2 ^ digits n
unfolding digits
digits_above n = halvings_above n n (le_refl n)

pub digits_least : (n m : ℕ) → n < 2 ^ m → digits n ≤ m
unfolding digits
digits_least n m h = halvings_least n n m h

pub digits_twice : (n : ℕ) → 0 < n → 2 ^ digits n ≤ 2 * n
unfolding digits
digits_twice n h = halvings_twice n n h

digits_zero : digits 0 ≡ 0
unfolding digits
digits_zero = halvings_zero 0

pub digits_positive : (n : ℕ) → 0 < n → 0 < digits n
digits_positive n h = lt_of_not-le (λ (g : digits n ≤ 0). omega (arith, pow_mono g, digits_above n))

-- as a program counts them
pub digits_leading : (k n : ℕ) → n < 2 ^ k → k - count_leading_zeros k n ≡ digits n
digits_leading k n h =
    let l : digits n ≤ k = digits_least n k h in
    let e : k - digits n ≡ count_leading_zeros k n = leading_unique k n (k - digits n) (digits n) (omega arith) (digits_above n) (top n (eq-zero-or-pos n)) in
    omega arith
  where
    top : (n : ℕ) → (n ≡ 0) ⊎ (0 < n) → 2 ^ digits n ≤ 2 * n + 1
    top n (inl e) = rw (e, digits_zero) (omega arith)
    top n (inr g) = omega (arith, digits_twice n g)

-- the power of two above n, and the next one: 2 ^ w ≡ 2b for the digits w of 2b - 1
pub digits_power : (k : ℕ) → 2 ^ digits (2 * 2 ^ k - 1) ≡ 2 * 2 ^ k
digits_power k =
    let p : 0 < 2 ^ k = pow_pos k in
    let e : 2 ^ suc k ≡ 2 ^ k * 2 = pow-suc 2 k in
    le_antisymm
    (omega (arith, pow_mono (digits_least (2 * 2 ^ k - 1) (suc k) (omega arith))))
    (omega (arith, digits_above (2 * 2 ^ k - 1)))

-- ceil (a / c) is at most a
pub ceil_le : (a c : ℕ) → 0 < c → ceil_div a c ≤ a
ceil_le a c h =
    let l : a * 1 ≤ a * c = mul-le-mul_left a h in
    le_of_suc-le-suc ((div-lt_iff_lt-mul h).1 (omega arith))

-- and not 0 where a is not
pub ceil_pos : (a c : ℕ) → 0 < a → 0 < c → 0 < ceil_div a c
ceil_pos a c h g = (le-div_iff_mul-le g).1 (omega arith)
