-- A double as a field number, and back (docs/PINE.md, "One coordinate"). `Float` is the kit's account of IEEE 754: `fin s m e` is the number m · 2 ^ e,
-- negative where s is true, and 2 ^ e is the fraction up e / down e. A whole number is `pos n`, which is n, or `negsuc n`, which is -(n + 1). Assumes nothing.
use Rattle.std.specs.Prelude.{ℕ, ◌-◌, ◌*◌, ◌/◌, ◌%◌, ◌^◌, Bool, true, false, cond, ◌&&◌, [], ◌∷◌, ℤ, pos, negsuc, neg_ℤ, ◌==◌, nat_le, nat_lt, unsigned_abs, Float}
use Rattle.std.specs.Float.{nan, inf, fin, binary64}
use Rattle.std.specs.Float.Ieee.{up, down, of_int, neg, div}
use Rattle.rules.specs.declared.Answer.{Answer}
use Rattle.rules.specs.Rules.{refuse, first, in_order}
use Rattle.field64.specs.Field.{p64}
use Rattle.doubles.specs.declared.Coordinate.{Coordinate}
use Rattle.doubles.specs.declared.Decoded.{Decoded}

-- ---- whole numbers

-- a, negative where s is true
abbrev pub signed : (s : Bool) (a : ℕ) → ℤ
signed s a = cond s (neg_ℤ (pos a)) (pos a)

-- the floor of z / c, for c above 0: the floor of -(a + 1) / c is -(a / c + 1), with a / c cut to a whole number
unfoldable pub floor_div : ℤ → (c : ℕ) → ℤ
floor_div (pos a) c = pos (a / c)
floor_div (negsuc a) c = negsuc (a / c)

-- z is below -limit or above limit
abbrev pub beyond : (limit : ℕ) → ℤ → Bool
beyond limit z = nat_lt limit (unsigned_abs z)

-- z modulo p, from 0 to p - 1: -(n + 1) is p - 1 - n modulo p
unfoldable pub mod_p : (p : ℕ) → ℤ → ℕ
mod_p p (pos n) = n % p
mod_p p (negsuc n) = p - 1 - n % p

-- ---- from a double

-- rule 4
abbrev pub frac_bits_rule : (f : ℕ) → Answer
frac_bits_rule f = refuse (nat_lt 30 f) 4 0

-- not zero, and below 2 ^ -1022 in size: m · 2 ^ e < 2 ^ -1022
abbrev pub subnormal : (m : ℕ) (e : ℤ) → Bool
subnormal m e = nat_lt 0 m && nat_lt (m * up e * 2 ^ 1022) (down e)

-- NaN, infinite or subnormal
unfoldable pub unusable : Float → Bool
unusable nan = true
unusable (inf s) = true
unusable (fin s m e) = subnormal m e

-- floor (x · 2 ^ f), for a finite x
unfoldable pub floor_of : Float → (f : ℕ) → ℤ
floor_of nan f = pos 0
floor_of (inf s) f = pos 0
floor_of (fin s m e) f = floor_div (signed s (m * up e * 2 ^ f)) (down e)

-- how far from 0 a floor may lie, over Field64
abbrev pub floor_limit64 : ℕ
floor_limit64 = (p64 - 1) / 2

-- rule 8, then rule 17: the floor lies beyond the limit
abbrev pub coordinate_rule : (limit : ℕ) → Float → (f : ℕ) → Answer
coordinate_rule limit x f = first (refuse (unusable x) 8 0) (refuse (beyond limit (floor_of x f)) 17 0)

-- floor (x · 2 ^ f), modulo p
unfoldable pub element : (p : ℕ) → Float → (f : ℕ) → ℕ
element p x f = mod_p p (floor_of x f)

-- the element, where the answer accepts; beside a refusal it is 0
abbrev pub coordinate : Answer → ℕ → Coordinate
coordinate a y = record { answer = a; element = cond (a.number == 0) y 0 }

-- a coordinate of a gradient whose frac_bits are accepted
unfoldable pub encoded : (p limit : ℕ) → Float → (f : ℕ) → Coordinate
encoded p limit x f = coordinate (coordinate_rule limit x f) (element p x f)

-- what `f64_to_field` answers
unfoldable pub coordinate_of : (p limit : ℕ) → Float → (f : ℕ) → Coordinate
coordinate_of p limit x f = coordinate (in_order (frac_bits_rule f ∷ coordinate_rule limit x f ∷ [])) (element p x f)

-- ---- to a double

abbrev pub plus_zero : Float
plus_zero = fin false 0 (pos 0)

-- 2 ^ f
abbrev pub power : (f : ℕ) → Float
power f = fin false 1 (pos f)

-- the size of y as a centred number: y above (p - 1) / 2 stands for y - p
abbrev pub centred_size : (p y : ℕ) → ℕ
centred_size p y = cond (nat_lt ((p - 1) / 2) y) (p - y) y

-- how large that may be, over Field64: every centred number's size is within it
abbrev pub size_limit64 : ℕ
size_limit64 = (p64 - 1) / 2

-- the double nearest to y read as a centred number, a tie to the even one
unfoldable pub centred : (p y : ℕ) → Float
centred p y = cond (nat_lt ((p - 1) / 2) y) (neg (of_int binary64 (pos (p - y)))) (of_int binary64 (pos y))

-- that, divided by 2 ^ f
unfoldable pub decoded : (p y f : ℕ) → Float
decoded p y f = div binary64 (centred p y) (power f)

-- rule 12, of one element
abbrev pub element_rule : (p y : ℕ) → Answer
element_rule p y = refuse (nat_le p y) 12 0

-- rule 23, of one element: its size as a centred number lies beyond the limit
abbrev pub size_rule : (p limit y : ℕ) → Answer
size_rule p limit y = refuse (nat_lt limit (centred_size p y)) 23 0

-- what `field_to_f64` answers; beside a refusal the double is +0
unfoldable pub decoded_of : (p limit y f : ℕ) → Decoded
decoded_of p limit y f =
    let a = in_order (frac_bits_rule f ∷ element_rule p y ∷ size_rule p limit y ∷ []) in
    record { answer = a; value = cond (a.number == 0) (decoded p y f) plus_zero }
