-- The definitions of `specs/Doubles.antt` are what they are called: the floor is the one whole number with floor * c ≤ z < (floor + 1) * c, the remainder is below p, and differs from z by a
-- multiple of it; over a limit of half of p every centred number passes rule 23. Assumes nothing.
use Rattle.std.proofs.Common.{◌≡◌, ℕ, zero, suc, ◌+◌, ◌-◌, ◌*◌, ◌/◌, ◌%◌, ◌<◌, ◌≤◌, min, true, false, T, ℤ, pos, negsuc, ◌*ℤ◌, neg_ℤ, nat_abs, sym, refl, ◌∙◌, le_of_eq, lt_of_lt_of_le, le_of_suc-le-suc, mod-lt, mod-eq_of_lt, suc-mul, lt_of_not-le, div-mul-le_self, arith, le→leb, lt→ltb, le-ltb, lt-ltb}
use native.Mathlib.Nat.{mod_self, add-mod-mod, min-eq_left, min-eq_right, lt-div-mul-add}
use native.Mathlib.Decide.{dec_le}
use lib.IntN.{suc_ℤ}
use lib.Signed.{le_z, lt_z}
use lib.Ieee.{Float, nan, fin, of_int, neg, div}
use Rattle.rules.specs.Rules.{accepted}
use Rattle.doubles.specs.Doubles.{floor_div, beyond, mod_p, floor_limit64, unusable, floor_of, coordinate_rule, element, centred_size, centred, decoded, size_rule, decoded_of}

neg_le : (n a : ℕ) → a < n → T (le_z (neg_ℤ (pos n)) (negsuc a))
neg_le zero a h = absurd (no a h)
  where
    no : (a : ℕ) → a < 0 → ⊥
    no a h = omega arith
neg_le (suc r) a h = le→leb a r (le_of_suc-le-suc h)

neg_lt : (n a : ℕ) → n ≤ a → T (lt_z (negsuc a) (neg_ℤ (pos n)))
neg_lt zero a h = tt
neg_lt (suc r) a h = lt→ltb r a h

past : (a c : ℕ) → 0 < c → a < suc (a / c) * c
past a c C = lt_of_lt_of_le (lt-div-mul-add C) (le_of_eq (sym (suc-mul (a / c) c)))

next : (q a c : ℕ) → q * c ≤ a → T (lt_z (negsuc a) (suc_ℤ (negsuc q) *ℤ pos c))
next zero a c h = tt
next (suc q) a c h = neg_lt (suc q * c) a h

pub floor_is : (z : ℤ) (c : ℕ) → 0 < c → T (le_z (floor_div z c *ℤ pos c) z) × T (lt_z z (suc_ℤ (floor_div z c) *ℤ pos c))
unfolding floor_div
floor_is (pos a) c C = (le→leb (a / c * c) a (div-mul-le_self a c), lt→ltb a (suc (a / c) * c) (past a c C))
floor_is (negsuc a) c C = (neg_le (suc (a / c) * c) a (past a c C), next (a / c) a c (div-mul-le_self a c))

pub mod_p_below : (p : ℕ) → 0 < p → (z : ℤ) → mod_p p z < p
unfolding mod_p
mod_p_below p h (pos n) = mod-lt n h
mod_p_below p h (negsuc n) = go (n % p)
  where
    go : (m : ℕ) → p - 1 - m < p
    go m = omega arith

pub element_below : (p : ℕ) → 0 < p → (x : Float) (f : ℕ) → element p x f < p
unfolding element
element_below p h x f = mod_p_below p h (floor_of x f)

-- -(n + 1) and its remainder: their difference is a multiple of p
pub mod_p_negative : (p : ℕ) → 0 < p → (n : ℕ) → (mod_p p (negsuc n) + suc n) % p ≡ 0
unfolding mod_p
mod_p_negative p positive n =
    let l : n % p < p = mod-lt n positive in
    let c = p - 1 - n % p in
    let a : c + suc n ≡ (c + 1) + n = omega arith in
    let b : (c + 1) + n % p ≡ p = omega arith in
    rw a (sym (add-mod-mod (c + 1) n p) ∙ rw b (mod_self p))

-- a whole number that lies no further from 0 than half of p: the nearer of its two distances around p
pub size_back : (p limit : ℕ) → 2 * limit < p → (z : ℤ) → nat_abs z ≤ limit → min (mod_p p z) (p - mod_p p z) ≡ nat_abs z
unfolding mod_p
size_back p limit room (pos n) h =
    let e : n % p ≡ n = mod-eq_of_lt (omega arith) in
    rw e (min-eq_left (omega arith))
size_back p limit room (negsuc n) h =
    let e : n % p ≡ n = mod-eq_of_lt (omega arith) in
    let g : p - (p - 1 - n) ≡ suc n = omega arith in
    rw (e, g) (min-eq_right (omega arith))

-- a limit of half of p, and a centred number: its size is within the limit, and rule 23 does not refuse it
pub size_within : (p limit y : ℕ) → p ≤ 2 * limit + 1 → y < p → centred_size p y ≤ limit
size_within p limit y room h = go (dec_le y ((p - 1) / 2))
  where
    go : Dec (y ≤ (p - 1) / 2) → centred_size p y ≤ limit
    go (yes g) = rw (le-ltb ((p - 1) / 2) y g) (omega arith)
    go (no g) = let l = lt_of_not-le g in rw (lt-ltb ((p - 1) / 2) y l) (omega arith)

pub size_met : (p limit y : ℕ) → p ≤ 2 * limit + 1 → y < p → size_rule p limit y ≡ accepted
size_met p limit y room h = rw (le-ltb limit (centred_size p y) (size_within p limit y room h))

-- ---- worked rows

-- the limit, and what lies beyond one
limit : floor_limit64 ≡ 9223372034707292160
limit = refl

beyond_rows : (beyond 5 (pos 5) ≡ false) × (beyond 5 (pos 6) ≡ true) × (beyond 5 (negsuc 4) ≡ false) × (beyond 5 (negsuc 5) ≡ true)
beyond_rows = (refl, refl, refl, refl)

-- over a limit of 5, at f 1: a NaN, 3.0, -3.0, 2.5, -2.5 and -2.75
rule_rows : (coordinate_rule 5 nan 1 ≡ record { number = 8; place = 0 }) × (coordinate_rule 5 (fin false 3 (pos 0)) 1 ≡ record { number = 17; place = 0 })
    × (coordinate_rule 5 (fin true 3 (pos 0)) 1 ≡ record { number = 17; place = 0 }) × (coordinate_rule 5 (fin false 5 (negsuc 0)) 1 ≡ record { number = 0; place = 0 })
    × (coordinate_rule 5 (fin true 5 (negsuc 0)) 1 ≡ record { number = 0; place = 0 }) × (coordinate_rule 5 (fin true 11 (negsuc 1)) 1 ≡ record { number = 17; place = 0 })
unfolding unusable floor_of floor_div
rule_rows = (refl, refl, refl, refl, refl, refl)

-- p is 17 and the limit 5: as centred numbers 5 and 12 are 5 in size, and 6 and 11 are 6; 17 is no element, and rule 12 comes before
size_rows : (size_rule 17 5 5 ≡ record { number = 0; place = 0 }) × (size_rule 17 5 6 ≡ record { number = 23; place = 0 })
    × (size_rule 17 5 11 ≡ record { number = 23; place = 0 }) × (size_rule 17 5 12 ≡ record { number = 0; place = 0 })
size_rows = (refl, refl, refl, refl)

decoded_rows : (decoded_of 17 5 6 0 ≡ record { answer = record { number = 23; place = 0 }; value = fin false 0 (pos 0) })
    × (decoded_of 17 5 17 0 ≡ record { answer = record { number = 12; place = 0 }; value = fin false 0 (pos 0) })
    × (decoded_of 17 5 6 31 ≡ record { answer = record { number = 4; place = 0 }; value = fin false 0 (pos 0) })
    × (decoded_of 17 5 12 0 ≡ record { answer = record { number = 0; place = 0 }; value = fin true 5 (pos 0) })
unfolding decoded_of decoded centred of_int neg div
decoded_rows = (refl, refl, refl, refl)
