-- The double nearest to a field number read as a centred number, c: c + m is h * 2 ^ 32 + l, the doubles 2 ^ 84 + h * 2 ^ 32 and 2 ^ 52 + l are h and l in the digits of a bit pattern, and their sum less
-- 2 ^ 84 + m + 2 ^ 52 is c, rounded once. Over Field64 m is 2 ^ 63. Assumes nothing.
use Rattle.std.proofs.Common.{◌≡◌, ℕ, ◌+◌, ◌-◌, ◌*◌, ◌/◌, ◌%◌, ◌^◌, ◌<◌, ◌≤◌, Bool, true, false, cond, not, T, pos, sym, refl, ap, ◌∙◌, subst, zero-lt-suc, lt_of_not-le, zero-add, mul-one, arith, lit<, lit≤, le-ltb, lt-ltb}
use native.Mathlib.Decide.{dec_le}
use lib.Ieee.{Float, fin, binary64, round, neg, add, sub, of_int, nan_bits, of_bits}
use lib.Ieee.Bits.{nan_bits_is}
use lib.Ieee.Exact.{HasValue}
use lib.Ieee.Fits.{of_int-fits}
use Rattle.field64.specs.Field.{p64}
use Rattle.doubles.specs.Doubles.{centred}
use Rattle.doubles.proofs.Laws.{round_neg}
use Rattle.doubles.proofs.Minus.{over, round_minus, add_minus, sub_minus}
use Rattle.doubles.proofs.Binade.{of_pattern}
use Rattle.doubles.proofs.Raised.{a_number, multiple_exact, number_within, multiples_hold}

-- ---- a small number as the digits of a pattern
abbrev pub high_digits : ℕ → Float
high_digits h = of_bits binary64 (4985484787499139072 + h)

abbrev pub low_digits : ℕ → Float
low_digits l = of_bits binary64 (4841369599423283200 + l)

digits_value : (k q : ℕ) → 53 + k ≤ 1023 → 2 ^ 52 ≤ q → q < 2 ^ 53 → HasValue (of_bits binary64 ((1074 + k) * 2 ^ 52 + q)) false (q * 2 ^ k) 1
digits_value k q K h g = of_pattern binary64 k (round binary64 false (q * 2 ^ k) 1) q (unfold of_int in of_int-fits binary64 (pos (q * 2 ^ k))) (multiple_exact false q k g K) (number_within k q h g)

high_value : (h : ℕ) → h < 2 ^ 33 → HasValue (high_digits h) false ((2 ^ 52 + h) * 2 ^ 32) 1
high_value h l = subst (λ (n : ℕ). HasValue (of_bits binary64 n) false ((2 ^ 52 + h) * 2 ^ 32) 1) (moved h) (digits_value 32 (2 ^ 52 + h) (lit≤ tt) (omega arith) (omega arith))
  where
    moved : (h : ℕ) → 1106 * 2 ^ 52 + (2 ^ 52 + h) ≡ 4985484787499139072 + h
    moved h = omega arith

low_value : (l : ℕ) → l < 2 ^ 32 → HasValue (low_digits l) false (2 ^ 52 + l) 1
low_value l h =
    subst (λ (n : ℕ). HasValue (of_bits binary64 n) false (2 ^ 52 + l) 1) (moved l)
    (subst (λ (n : ℕ). HasValue (of_bits binary64 (1074 * 2 ^ 52 + (2 ^ 52 + l))) false n 1) (mul-one (2 ^ 52 + l)) (digits_value 0 (2 ^ 52 + l) (lit≤ tt) (omega arith) (omega arith)))
  where
    moved : (l : ℕ) → 1074 * 2 ^ 52 + (2 ^ 52 + l) ≡ 4841369599423283200 + l
    moved l = omega arith

-- neither is a NaN's
no_nan : (n a : ℕ) → HasValue (of_bits binary64 n) false a 1 → T (not (nan_bits binary64 n))
no_nan n a h = subst (λ (t : Bool). T (not t)) (sym (nan_bits_is binary64 n)) (a_number (of_bits binary64 n) false a 1 h)

pub high_number : (h : ℕ) → h < 2 ^ 33 → T (not (nan_bits binary64 (4985484787499139072 + h)))
high_number h l = no_nan _ _ (high_value h l)

pub low_number : (x : ℕ) → T (not (nan_bits binary64 (4841369599423283200 + x % 2 ^ 32)))
low_number x = no_nan _ _ (low_value (x % 2 ^ 32) (omega arith))

-- ---- the number: x is c + m
pub data Centre (p m y x : ℕ) : Type 0 where
  above : y ≤ (p - 1) / 2 → x ≡ y + m → Centre p m y x
  below : (p - 1) / 2 < y → x + p ≡ y + m → Centre p m y x

-- 2 ^ 84 + 2 ^ 52
abbrev pub patterns : ℕ
patterns = 19342813118337666422669312

centre_is : (p m y x : ℕ) → y < p → Centre p m y x → round_minus binary64 (x + patterns) (patterns + m) 1 ≡ centred p y
unfolding centred of_int
centre_is p m y x Y (above h e) =
    ap (λ (t : Bool). cond t (round binary64 true (patterns + m - (x + patterns)) 1) (round binary64 false (x + patterns - (patterns + m)) 1)) (le-ltb (x + patterns) (patterns + m) (omega arith))
    ∙ ap (λ (n : ℕ). round binary64 false n 1) (back x y e)
    ∙ ap (λ (t : Bool). cond t (neg (round binary64 false (p - y) 1)) (round binary64 false y 1)) (sym (le-ltb ((p - 1) / 2) y h))
  where
    back : (x y : ℕ) → x ≡ y + m → x + patterns - (patterns + m) ≡ y
    back x y e = omega arith
centre_is p m y x Y (below h e) =
    ap (λ (t : Bool). cond t (round binary64 true (patterns + m - (x + patterns)) 1) (round binary64 false (x + patterns - (patterns + m)) 1)) (lt-ltb (x + patterns) (patterns + m) (omega arith))
    ∙ ap (λ (n : ℕ). round binary64 true n 1) (back x y Y e)
    ∙ round_neg binary64 (p - y) 1
    ∙ ap (λ (t : Bool). cond t (neg (round binary64 false (p - y) 1)) (round binary64 false y 1)) (sym (lt-ltb ((p - 1) / 2) y h))
  where
    back : (x y : ℕ) → y < p → x + p ≡ y + m → patterns + m - (x + patterns) ≡ p - y
    back x y Y e = omega arith

-- THE SUM OF THE TWO, less that of the patterns and m, which is the double z: x is h * 2 ^ 32 + l
pub digits_centred : (p m y h l k : ℕ) (z : Float) → y < p → h < 2 ^ 33 → l < 2 ^ 32 → k < 2 ^ 53 → HasValue z false (k * 2 ^ 32) 1 → k * 2 ^ 32 ≡ patterns + m → Centre p m y (h * 2 ^ 32 + l)
    → add binary64 (sub binary64 (high_digits h) z) (low_digits l) ≡ centred p y
digits_centred p m y h l k z Y H L K v e c =
    add_minus binary64 (sub binary64 (high_digits h) z) (low_digits l) 1 (zero-lt-suc 0) ((2 ^ 52 + h) * 2 ^ 32) (k * 2 ^ 32) (2 ^ 52 + l)
    (sub_minus binary64 (high_digits h) z 1 (zero-lt-suc 0) ((2 ^ 52 + h) * 2 ^ 32) (k * 2 ^ 32) 0 (multiples_hold 32 (2 ^ 52 + h) k (lit≤ tt) (omega arith) K)
    (over ((2 ^ 52 + h) * 2 ^ 32) (sym (zero-add ((2 ^ 52 + h) * 2 ^ 32))) (high_value h H))
    (over (k * 2 ^ 32) (sym (zero-add (k * 2 ^ 32))) v))
    (low_value l L)
    ∙ ap (λ (n : ℕ). round_minus binary64 n (k * 2 ^ 32) 1) (halves h l)
    ∙ ap (λ (n : ℕ). round_minus binary64 (h * 2 ^ 32 + l + patterns) n 1) e
    ∙ centre_is p m y (h * 2 ^ 32 + l) Y c
  where
    halves : (h l : ℕ) → (2 ^ 52 + h) * 2 ^ 32 + (2 ^ 52 + l) ≡ h * 2 ^ 32 + l + patterns
    halves h l = omega arith

-- ---- over Field64

-- d is the half of p less y, g its gap, w the number modulo 2 ^ 64
bit_above : (y d : ℕ) → y ≤ 9223372034707292160 → d < 2 ^ 64 → (d + y) % 2 ^ 64 ≡ 9223372034707292160 → d / 2 ^ 63 ≡ 0
bit_above y d h D e = small d (less y d h D e)
  where
    less : (y d : ℕ) → y ≤ 9223372034707292160 → d < 2 ^ 64 → (d + y) % 2 ^ 64 ≡ 9223372034707292160 → d < 2 ^ 63
    less y d h D e = omega arith

    small : (d : ℕ) → d < 2 ^ 63 → d / 2 ^ 63 ≡ 0
    small d h = omega arith

bit_below : (y d : ℕ) → 9223372034707292160 < y → y < p64 → d < 2 ^ 64 → (d + y) % 2 ^ 64 ≡ 9223372034707292160 → d / 2 ^ 63 ≡ 1
bit_below y d h Y D e = large d D (more y d h Y D e)
  where
    more : (y d : ℕ) → 9223372034707292160 < y → y < p64 → d < 2 ^ 64 → (d + y) % 2 ^ 64 ≡ 9223372034707292160 → 2 ^ 63 ≤ d
    more y d h Y D e = omega arith

    large : (d : ℕ) → d < 2 ^ 64 → 2 ^ 63 ≤ d → d / 2 ^ 63 ≡ 1
    large d D h = omega arith

number_above : (y g w x : ℕ) → y ≤ 9223372034707292160 → g ≡ 0 → w ≡ (y + g) % 2 ^ 64 → x ≡ (w + 2 ^ 63) % 2 ^ 64 → x ≡ y + 2 ^ 63
number_above y g w x h i j k = omega arith

number_below : (y g w x : ℕ) → 9223372034707292160 < y → y < p64 → g ≡ 4294967295 → w ≡ (y + g) % 2 ^ 64 → x ≡ (w + 2 ^ 63) % 2 ^ 64 → x + p64 ≡ y + 2 ^ 63
number_below y g w x h Y i j k = omega arith

centre : (y d g w x : ℕ) → y < p64 → d < 2 ^ 64 → (d + y) % 2 ^ 64 ≡ 9223372034707292160 → g ≡ d / 2 ^ 63 * 4294967295 → w ≡ (y + g) % 2 ^ 64 → x ≡ (w + 2 ^ 63) % 2 ^ 64 → Centre p64 (2 ^ 63) y x
centre y d g w x Y D e i j k = go (dec_le y 9223372034707292160)
  where
    go : Dec (y ≤ 9223372034707292160) → Centre p64 (2 ^ 63) y x
    go (yes h) = above h (number_above y g w x h (i ∙ ap (λ (n : ℕ). n * 4294967295) (bit_above y d h D e)) j k)
    go (no h) = let l = lt_of_not-le h in below l (number_below y g w x l Y (i ∙ ap (λ (n : ℕ). n * 4294967295) (bit_below y d l Y D e)) j k)

pub nearest_centred : (y d g w x : ℕ) → y < p64 → d < 2 ^ 64 → (d + y) % 2 ^ 64 ≡ 9223372034707292160 → g ≡ d / 2 ^ 63 * 4294967295 → w ≡ (y + g) % 2 ^ 64 → x < 2 ^ 64 → x ≡ (w + 2 ^ 63) % 2 ^ 64
    → add binary64 (sub binary64 (high_digits (x / 2 ^ 32)) (fin false 4294969345 (pos 52))) (low_digits (x % 2 ^ 32)) ≡ centred p64 y
nearest_centred y d g w x Y D e i j X k =
    digits_centred p64 (2 ^ 63) y (x / 2 ^ 32) (x % 2 ^ 32) 4503601775902720 (fin false 4294969345 (pos 52)) Y (omega arith) (omega arith) (lit< tt) (refl, refl) refl
    (subst (Centre p64 (2 ^ 63) y) (whole x) (centre y d g w x Y D e i j k))
  where
    whole : (x : ℕ) → x ≡ x / 2 ^ 32 * 2 ^ 32 + x % 2 ^ 32
    whole x = omega arith
