-- The floor of any double below 2 ^ 64 in size, in two parts: y, the sum of w and 3 * 2 ^ 83, counts multiples of 2 ^ 32, and what is left of w beside them, which is exact, has a floor of its own. Assumes nothing.
use Rattle.std.proofs.Common.{◌≡◌, ℕ, suc, ◌+◌, ◌-◌, ◌*◌, ◌/◌, ◌%◌, ◌^◌, ◌<◌, ◌≤◌, Bool, true, false, not, ◌&&◌, T, ◌⊎◌, ℤ, pos, negsuc, sym, refl, ap, ◌∙◌, subst, inl, inr, le_trans, le_of_eq, lt_of_lt_of_le, lt_of_le_of_lt, add-zero, le_of_lt, mul-le-mul_right, mod-eq_of_lt, zero-lt-suc, mul_assoc, mul_comm, add-mul, le_antisymm, eq-or-lt_of_le, mul-pos, one-mul, lt_of_not-le, mul-one, sub-add_cancel, not-le_of_lt, div-mul-le_self, le_of_mul-le-mul_right, arith, lit<, lit≤, pow_pos, pow_mono, pow-add, shl_lt, ltb-false, lt-ltb}
use mathlib.Core.Bool.{false≢true}
use native.Mathlib.Nat.{lt-div-mul-add}
use native.Mathlib.Decide.{dec_le}
use borrow.Author.Tests.{not-true}
use lib.Pow.{pow-lt}
use lib.Ieee.{Float, nan, inf, fin, binary64, up, down, round, sub, lt, le, fits, is_nan, to_bits}
use lib.Ieee.Fits.{down_pos}
use lib.Ieee.Exact.{HasValue, round_exact}
use lib.Ieee.Back.{round_whole}
use lib.Ieee.Order.{round_mono}
use lib.Ieee.Positive.{den_pos, positive, positive_of_value, value→cross, le→cross}
use Rattle.field64.specs.Field.{p64}
use Rattle.doubles.specs.Doubles.{signed, floor_div, beyond, mod_p, floor_limit64}
use Rattle.doubles.specs.Steps.{floor_at, floor_mod, within_limit, within, near}
use Rattle.doubles.proofs.Laws.{held, exponent_le}
use Rattle.doubles.proofs.Floor.{within_size}
use Rattle.doubles.proofs.Minus.{Minus, over, under, Holds, sub_minus, lt_minus, floor_minus}
use Rattle.doubles.proofs.Raised.{shifted, own_minus, shifted_least, shifted_most, middle, raised, lowered, Raised, raise, a_number}
use Rattle.doubles.proofs.Near.{floor_lt}

-- ---- a fraction over a double's denominator with few digits is a double
few_exact : (s : Bool) (v k : ℕ) → suc k ≤ 1074 → v < 2 ^ 53 → HasValue (round binary64 s v (2 ^ suc k)) s v (2 ^ suc k)
few_exact s v k h g =
    round_exact binary64 s v (2 ^ suc k) v (1074 - suc k) (pow_pos (suc k)) g
    (lt_of_lt_of_le (shl_lt 53 (1074 - suc k) g) (pow_mono (room k)))
    (ap (λ (x : ℕ). v * 2 ^ x) (sym (sub-add_cancel h)) ∙ ap (λ (x : ℕ). v * x) (pow-add 2 (1074 - suc k) (suc k)) ∙ sym (mul_assoc v (2 ^ (1074 - suc k)) (2 ^ suc k)))
  where
    room : (k : ℕ) → 53 + (1074 - suc k) ≤ 2098
    room k = omega arith

-- 2 ^ 53 itself is one digit
end_exact : (s : Bool) (k : ℕ) → suc k ≤ 1074 → HasValue (round binary64 s (2 ^ 53) (2 ^ suc k)) s (2 ^ 53) (2 ^ suc k)
end_exact s k h =
    round_exact binary64 s (2 ^ 53) (2 ^ suc k) 1 (53 + (1074 - suc k)) (pow_pos (suc k)) (lit< tt)
    (lt_of_le_of_lt (le_of_eq (one-mul (2 ^ (53 + (1074 - suc k))))) (pow-lt (room k)))
    (ap (λ (x : ℕ). 2 ^ 53 * 2 ^ x) (sym (sub-add_cancel h)) ∙ sym (pow-add 2 53 (1074 - suc k + suc k)) ∙ ap (λ (x : ℕ). 2 ^ x) (moved (1074 - suc k) (suc k)) ∙ pow-add 2 (53 + (1074 - suc k)) (suc k) ∙ ap (λ (x : ℕ). x * 2 ^ suc k) (sym (one-mul (2 ^ (53 + (1074 - suc k))))))
  where
    room : (k : ℕ) → 53 + (1074 - suc k) < 2098
    room k = omega arith

    moved : (a b : ℕ) → 53 + (a + b) ≡ 53 + a + b
    moved a b = omega arith

fraction_exact : (s : Bool) (v : ℕ) (e : ℤ) → down e ≤ 2 ^ 1074 → v ≤ 2 ^ 53 → HasValue (round binary64 s v (down e)) s v (down e)
fraction_exact s v (pos k) h g = round_whole binary64 s v g
fraction_exact s v (negsuc k) h g = go (eq-or-lt_of_le g)
  where
    go : (v ≡ 2 ^ 53) ⊎ (v < 2 ^ 53) → HasValue (round binary64 s v (2 ^ suc k)) s v (2 ^ suc k)
    go (inl i) = subst (λ (x : ℕ). HasValue (round binary64 s x (2 ^ suc k)) s x (2 ^ suc k)) (sym i) (end_exact s k (exponent_le (suc k) 1074 h))
    go (inr l) = few_exact s v k (exponent_le (suc k) 1074 h) l

-- ---- y is 3 * 2 ^ 83 itself for a w below 2 ^ 31 in size, by the two ends of what rounds to that
low_end : round binary64 false 29014219670751098045464576 1 ≡ fin false 3 (pos 83)
unfolding round
low_end = refl

high_end : round binary64 false 29014219670751102340431872 1 ≡ fin false 3 (pos 83)
unfolding round
high_end = refl

-- the values of two doubles in order
value_le : (x : Float) (a : ℕ) → HasValue x false a 1 → T (positive x) → T (le (fin false 3 (pos 83)) x) → T (le x (fin false 3 (pos 83))) → a ≡ middle 32
value_le x a h P l g =
    le_antisymm
    (le_of_mul-le-mul_right (le_trans (le_of_eq (sym (value→cross x a 1 h))) (le→cross x (fin false 3 (pos 83)) P tt g)) (den_pos x))
    (le_of_mul-le-mul_right (le_trans (le→cross (fin false 3 (pos 83)) x tt P l) (le_of_eq (value→cross x a 1 h))) (den_pos x))

stays : (x : Float) (n c a : ℕ) → 0 < c → x ≡ round binary64 false n c → 29014219670751098045464576 * c ≤ n → n ≤ 29014219670751102340431872 * c → HasValue x false a 1 → 0 < a → a ≡ middle 32
stays x n c a C e lo hi h A =
    value_le x a h (positive_of_value x a 1 h A)
    (subst T (ap (λ (z : Float). le z (round binary64 false n c)) low_end ∙ ap (le (fin false 3 (pos 83))) (sym e)) (round_mono binary64 29014219670751098045464576 1 n c (zero-lt-suc 0) C (le_trans lo (le_of_eq (sym (mul-one n))))))
    (subst T (ap (le (round binary64 false n c)) high_end ∙ ap (λ (z : Float). le z (fin false 3 (pos 83))) (sym e)) (round_mono binary64 n c 29014219670751102340431872 1 C (zero-lt-suc 0) (le_trans (le_of_eq (mul-one n)) hi)))

-- ---- numbers n and q · d, where q is the quotient of n by d, or one more
near_multiple : (n q d : ℕ) → 0 < d → n / d ≤ q → q ≤ 1 + n / d → (n ≤ q * d + d) × (q * d ≤ n + d)
near_multiple n q d D h g = (
  le_of_lt (lt_of_lt_of_le (lt-div-mul-add D) (up_to (n / d * d) (q * d) (mul-le-mul_right d h))),
  le_trans (mul-le-mul_right d g) (le_trans (le_of_eq (add-mul 1 (n / d) d)) (down_to (n / d * d) (one-mul d) (div-mul-le_self n d))),
)
  where
    up_to : (x y : ℕ) → x ≤ y → x + d ≤ y + d
    up_to x y h = omega arith

    down_to : (x : ℕ) → 1 * d ≡ d → x ≤ n → 1 * d + x ≤ n + d
    down_to x e h = omega arith

-- n and b are not far apart
record Close (n b : ℕ) : Type 0 where
  apart : ℕ
  small : apart ≤ 2 ^ 53
  above : n ≤ b + apart
  below : b ≤ n + apart

close_holds : (n b : ℕ) (e : ℤ) → down e ≤ 2 ^ 1074 → Close n b → Holds binary64 n b (down e)
close_holds n b e h k s v i = fraction_exact s v e h (le_trans (within_apart i) k.small)
  where
    within_apart : (n ≡ b + v) ⊎ (b ≡ n + v) → v ≤ k.apart
    within_apart (inl j) = omega (arith, k.above)
    within_apart (inr j) = omega (arith, k.below)

-- w and 3 * 2 ^ 83, over d = c * 2 ^ 32
wide : (c : ℕ) → middle 32 * c ≡ 6755399441055744 * (c * 2 ^ 32)
wide c = omega arith

in_units : (a c : ℕ) → a ≤ 2 ^ 64 * c → a ≤ 2 ^ 32 * (c * 2 ^ 32)
in_units a c h = omega arith

room : (a d z : ℕ) → z ≡ 6755399441055744 * d → a ≤ 2 ^ 32 * d → a ≤ z
room a d z e h = omega arith

from_least : (a d z n : ℕ) → z ≡ 6755399441055744 * d → a ≤ 2 ^ 32 * d → z - a ≤ n → 2 ^ 52 * d ≤ n
from_least a d z n e h k = omega arith

to_most : (a d z n : ℕ) → z ≡ 6755399441055744 * d → 0 < d → a ≤ 2 ^ 32 * d → n ≤ z + a → n < 7881299347898368 * d
to_most a d z n e D h k = omega arith

module _ (s : Bool) (m : ℕ) (e : ℤ) (g : m * up e ≤ 2 ^ 64 * down e) where
  abbrev sum_of : ℕ
  sum_of = shifted s (m * up e) (middle 32 * down e)

  least : middle 32 * down e - m * up e ≤ sum_of
  least = shifted_least s (m * up e) (middle 32 * down e)

  most : sum_of ≤ middle 32 * down e + m * up e
  most = shifted_most s (m * up e) (middle 32 * down e)

  own : Minus (fin s m e) sum_of (middle 32 * down e) (down e)
  own = own_minus s m e (middle 32 * down e) (room (m * up e) (down e * 2 ^ 32) _ (wide (down e)) (in_units (m * up e) (down e) g))

  rising : Raised 32 (fin s m e) sum_of (down e)
  rising =
      let D : 0 < down e * 2 ^ 32 = mul-pos (down_pos e) (pow_pos 32) in
      let h = in_units (m * up e) (down e) g in
      raise 32 (fin s m e) sum_of (down e) (down_pos e) (lit≤ tt) (from_least (m * up e) (down e * 2 ^ 32) _ sum_of (wide (down e)) h least) (to_most (m * up e) (down e * 2 ^ 32) _ sum_of (wide (down e)) D h most) own

  abbrev high : ℕ
  high = rising.number * 2 ^ 32 * down e

  high_is : high ≡ rising.number * (down e * 2 ^ 32)
  high_is = mul_assoc rising.number (2 ^ 32) (down e) ∙ ap (λ (x : ℕ). rising.number * x) (mul_comm (2 ^ 32) (down e))

  apart_by_rounding : (sum_of ≤ high + down e * 2 ^ 32) × (high ≤ sum_of + down e * 2 ^ 32)
  apart_by_rounding =
      subst (λ (x : ℕ). (sum_of ≤ x + down e * 2 ^ 32) × (x ≤ sum_of + down e * 2 ^ 32)) (sym high_is)
      (near_multiple sum_of rising.number (down e * 2 ^ 32) (mul-pos (down_pos e) (pow_pos 32)) rising.least rising.most)

  close_by_rounding : down e * 2 ^ 32 ≤ 2 ^ 53 → Close sum_of high
  close_by_rounding h = record { apart = down e * 2 ^ 32; small = h; above = apart_by_rounding.0; below = apart_by_rounding.1 }

  number_pos : 0 < rising.number * 2 ^ 32
  number_pos = mul-pos (first_pos rising.number rising.many) (pow_pos 32)
    where
      first_pos : (q : ℕ) → 2 ^ 52 ≤ q → 0 < q
      first_pos q h = omega arith

  close_by_size : m * up e < 2 ^ 31 * down e → m * up e ≤ 2 ^ 53 → Close sum_of high
  close_by_size h k =
      let i : rising.number * 2 ^ 32 ≡ middle 32 =
      stays (raised 32 (fin s m e)) sum_of (down e) (rising.number * 2 ^ 32) (down_pos e) rising.is (lower (m * up e) (down e) sum_of h least) (upper (m * up e) (down e) sum_of h most) rising.value number_pos in
      let j : high ≡ middle 32 * down e = ap (λ (x : ℕ). x * down e) i in
      record { apart = m * up e; small = k; above = omega (arith, j, most); below = omega (arith, j, least) }
    where
      lower : (a c n : ℕ) → a < 2 ^ 31 * c → 29014219670751100192948224 * c - a ≤ n → 29014219670751098045464576 * c ≤ n
      lower a c n h k = omega arith

      upper : (a c n : ℕ) → a < 2 ^ 31 * c → n ≤ 29014219670751100192948224 * c + a → n ≤ 29014219670751102340431872 * c
      upper a c n h k = omega arith

-- by the exponent: from 0 on, d is 2 ^ 32; below 0, w is below 2 ^ 31 in size, or has few digits below 1
digits : (m k : ℕ) → m < 2 ^ 53 → 2 ^ 31 * 2 ^ suc k ≤ m * 1 → 2 ^ suc k * 2 ^ 32 ≤ 2 ^ 53
digits m k h g =
    le_trans (le_of_eq (sym (pow-add 2 (suc k) 32)))
    (pow_mono (fewer k (lt_of_not-le (λ (i : 53 ≤ 31 + suc k). not-le_of_lt h (le_trans (pow_mono i) (le_trans (le_of_eq (pow-add 2 31 (suc k))) (le_trans g (le_of_eq (mul-one m)))))))))
  where
    fewer : (k : ℕ) → 31 + suc k < 53 → suc k + 32 ≤ 53
    fewer k h = omega arith

close : (s : Bool) (m : ℕ) (e : ℤ) (t : T (fits binary64 (fin s m e))) (g : m * up e ≤ 2 ^ 64 * down e) → Close (sum_of s m e g) (high s m e g)
close s m (pos k) t g = close_by_rounding s m (pos k) g (lit≤ tt)
close s m (negsuc k) t g = go (dec_le (2 ^ 31 * 2 ^ suc k) (m * 1))
  where
    small : m < 2 ^ 53
    small = (held binary64 s m (negsuc k) t).few

    go : Dec (2 ^ 31 * 2 ^ suc k ≤ m * 1) → Close (sum_of s m (negsuc k) g) (high s m (negsuc k) g)
    go (yes h) = close_by_rounding s m (negsuc k) g (digits m k small h)
    go (no h) = close_by_size s m (negsuc k) g (lt_of_not-le h) (le_trans (le_of_eq (mul-one m)) (le_of_lt small))

-- ---- what is left of w beside y - 3 * 2 ^ 83
abbrev pub left : Float → Float
left w = sub binary64 w (lowered 32 w)

pub record Split (w : Float) : Type 0 where
  pub number : T (not (is_nan (raised 32 w)))
  pub low : near (left w) ≡ true
  pub is : floor_mod (2 ^ 64) w ≡ (to_bits binary64 (raised 32 w) * 2 ^ 32 % 2 ^ 64 + floor_mod (2 ^ 64) (left w)) % 2 ^ 64

small_near : (x : Float) (n b c : ℕ) → 0 < c → n ≤ b + 2 ^ 32 * c → b ≤ n + 2 ^ 32 * c → 2 ^ 50 * c ≤ b → Minus x n b c → near x ≡ true
unfolding near
small_near x n b c C h g k l =
    ap (λ (i : Bool). i && lt x (fin false 1 (pos 50))) (lt_minus (fin true 1 (pos 50)) x (b - 2 ^ 50 * c) n b c C (under (2 ^ 50 * c) (omega arith) (refl, sym (mul-one (2 ^ 50 * c)))) l ∙ lt-ltb (b - 2 ^ 50 * c) n (omega arith))
    ∙ lt_minus x (fin false 1 (pos 50)) n (b + 2 ^ 50 * c) b c C l (over (2 ^ 50 * c) refl (refl, sym (mul-one (2 ^ 50 * c)))) ∙ lt-ltb n (b + 2 ^ 50 * c) (omega arith)

-- with x the floor of w + 3 * 2 ^ 83: 3 * 2 ^ 83 is 0 modulo 2 ^ 64
joined : (f l q x b : ℕ) → f < 2 ^ 64 → (f + 29014219670751100192948224) % 2 ^ 64 ≡ x % 2 ^ 64 → (l + q * 2 ^ 32) % 2 ^ 64 ≡ x % 2 ^ 64 → b ≡ 1106 * 2 ^ 52 + q → f ≡ (b * 2 ^ 32 % 2 ^ 64 + l) % 2 ^ 64
joined f l q x b F h g e = omega arith

split_size : (s : Bool) (m : ℕ) (e : ℤ) → T (fits binary64 (fin s m e)) → m * up e ≤ 2 ^ 64 * down e → Split (fin s m e)
split_size s m e t g =
    let w = fin s m e in
    let c : ℕ = down e in
    let n : ℕ = sum_of s m e g in
    let b : ℕ = high s m e g in
    let r = rising s m e g in
    let k = close s m e t g in
    let x : Minus (left w) n b c = sub_minus binary64 w (lowered 32 w) c (down_pos e) n b (middle 32 * c) (close_holds n b e (held binary64 s m e t).fine k) (own s m e g) r.back in
    let i = apart_by_rounding s m e g in
    record {
      number = a_number (raised 32 w) false (r.number * 2 ^ 32) 1 r.value;
      low = small_near (left w) n b c (down_pos e) (omega (arith, i.0)) (omega (arith, i.1)) (omega (arith, high_is s m e g, mul-le-mul_right (c * 2 ^ 32) r.many)) x;
      is = joined (floor_mod (2 ^ 64) w) (floor_mod (2 ^ 64) (left w)) r.number (n / c) _ (floor_lt (2 ^ 64) w (lit< tt))
          (floor_minus (2 ^ 64) w n (middle 32) c (lit< tt) (down_pos e) (own s m e g))
          (floor_minus (2 ^ 64) (left w) n (r.number * 2 ^ 32) c (lit< tt) (down_pos e) x)
          r.bits;
    }

pub split : (w : Float) → T (fits binary64 w) → within_limit (2 ^ 64 - 1) w ≡ true → Split w
split nan t h = absurd (false≢true (unfold within_limit in h))
split (inf s) t h = absurd (false≢true (unfold within_limit in h))
split (fin s m e) t h = split_size s m e t (le_trans (within_size (2 ^ 64 - 1) (lit≤ tt) s m e t h) (mul-le-mul_right (down e) (lit≤ tt)))

-- ---- the word of a floor within the limit, as a field number: 2 ^ 64 - p less where it is negative
-- x is the word
low_word : (x r : ℕ) → x < 2 ^ 63 → r < 2 ^ 64 → (r + x / 2 ^ 63 * 4294967295) % 2 ^ 64 ≡ x → r ≡ x
low_word x r h R e = same r R (subst (λ (b : ℕ). (r + b * 4294967295) % 2 ^ 64 ≡ x) (bit x h) e)
  where
    bit : (x : ℕ) → x < 2 ^ 63 → x / 2 ^ 63 ≡ 0
    bit x h = omega arith

    same : (r : ℕ) → r < 2 ^ 64 → (r + 0) % 2 ^ 64 ≡ x → r ≡ x
    same r R e = sym (mod-eq_of_lt R) ∙ ap (λ (n : ℕ). n % 2 ^ 64) (sym (add-zero r)) ∙ e

high_word : (x r : ℕ) → 2 ^ 63 ≤ x → x < 2 ^ 64 → r < 2 ^ 64 → (r + x / 2 ^ 63 * 4294967295) % 2 ^ 64 ≡ x → r ≡ x - 4294967295
high_word x r h X R e = less x r h R (subst (λ (b : ℕ). (r + b * 4294967295) % 2 ^ 64 ≡ x) (bit x h X) e)
  where
    bit : (x : ℕ) → 2 ^ 63 ≤ x → x < 2 ^ 64 → x / 2 ^ 63 ≡ 1
    bit x h X = omega arith

    less : (x r : ℕ) → 2 ^ 63 ≤ x → r < 2 ^ 64 → (r + 4294967295) % 2 ^ 64 ≡ x → r ≡ x - 4294967295
    less x r h R e = omega arith

field_of : (z : ℤ) → beyond floor_limit64 z ≡ false → (r : ℕ) → r < 2 ^ 64 → (r + mod_p (2 ^ 64) z / 2 ^ 63 * 4294967295) % 2 ^ 64 ≡ mod_p (2 ^ 64) z → r ≡ mod_p p64 z
unfolding mod_p
field_of (pos n) h r R e =
    let l : n ≤ floor_limit64 = ltb-false floor_limit64 n h in
    let x : n % 2 ^ 64 ≡ n = mod-eq_of_lt (lt_of_le_of_lt l (lit< tt)) in
    low_word (n % 2 ^ 64) r (lt_of_le_of_lt (le_of_eq x) (lt_of_le_of_lt l (lit< tt))) R e ∙ x ∙ sym (mod-eq_of_lt (lt_of_le_of_lt l (lit< tt)))
field_of (negsuc n) h r R e =
    let l : suc n ≤ floor_limit64 = ltb-false floor_limit64 (suc n) h in
    let x : n % 2 ^ 64 ≡ n = mod-eq_of_lt (lt_of_lt_of_le l (lit≤ tt)) in
    let y : n % p64 ≡ n = mod-eq_of_lt (lt_of_lt_of_le l (lit≤ tt)) in
    high_word (2 ^ 64 - 1 - n % 2 ^ 64) r (least n _ l x) (below (n % 2 ^ 64)) R e ∙ ends n _ x ∙ ap (λ (i : ℕ). p64 - 1 - i) (sym y)
  where
    least : (n m : ℕ) → suc n ≤ floor_limit64 → m ≡ n → 2 ^ 63 ≤ 2 ^ 64 - 1 - m
    least n m h e = omega arith

    below : (m : ℕ) → 2 ^ 64 - 1 - m < 2 ^ 64
    below m = omega arith

    ends : (n m : ℕ) → m ≡ n → 2 ^ 64 - 1 - m - 4294967295 ≡ p64 - 1 - n
    ends n m e = omega arith

pub field_word : (w : Float) → within w ≡ true → (r : ℕ) → r < 2 ^ 64 → (r + floor_mod (2 ^ 64) w / 2 ^ 63 * 4294967295) % 2 ^ 64 ≡ floor_mod (2 ^ 64) w → r ≡ floor_mod p64 w
unfolding within_limit floor_mod floor_at
field_word nan h r R e = absurd (false≢true h)
field_word (inf s) h r R e = absurd (false≢true h)
field_word (fin s m e) h r R i = field_of (floor_div (signed s (m * up e)) (down e)) (not-true _ h) r R i
