-- A whole number z from -(2 ^ 64 - 1) to 2 ^ 64 - 1 by its word and its sign: z is the word, less 2 ^ 64 where the sign is 1. Its limbs, its size and its element by these. Assumes nothing.
use Rattle.std.proofs.Common.{◌≡◌, ℕ, zero, suc, ◌+◌, ◌-◌, ◌*◌, ◌/◌, ◌%◌, ◌^◌, ◌<◌, ◌≤◌, Bool, true, false, ◌&&◌, ltb, ℤ, pos, negsuc, nat_abs, sym, refl, ap, ◌∙◌, lt_of_lt_of_le, lt_of_le_of_lt, add-zero, mod-eq_of_lt, zero-lt-suc, zero-mul, mul-one, arith, lit<, lit≤, ltb-false, ltb-true, le-ltb, lt-ltb}
use mathlib.Core.Bool.{false≢true}
use lib.Ieee.{Float, nan, inf, fin, up, down, lt}
use borrow.Author.Tests.{not-true}
use Rattle.field64.specs.Field.{p64}
use Rattle.field128.specs.Field128.{p128, number}
use Rattle.doubles.specs.Doubles.{signed, floor_div, beyond, mod_p, plus_zero}
use Rattle.doubles.specs.Steps.{floor_at, floor_mod, within_limit}
use Rattle.doubles128.specs.Doubles128.{floor_limit128}
use Rattle.doubles128.specs.Steps.{flag, limbs_of}

pub data Signed (z : ℤ) (word sign : ℕ) : Type 0 where
  level : (n : ℕ) → z ≡ pos n → n < 2 ^ 64 → word ≡ n → sign ≡ 0 → Signed z word sign
  below : (n : ℕ) → z ≡ negsuc n → suc n < 2 ^ 64 → word + suc n ≡ 2 ^ 64 → sign ≡ 1 → Signed z word sign

-- ---- the floor of a double within the limit

-- a floor is negative just where the double is
sign_is : (s : Bool) (m : ℕ) (e : ℤ) → lt (fin s m e) plus_zero ≡ (s && ltb 0 (m * up e))
unfolding lt
sign_is false m e = ap (λ (n : ℕ). ltb (m * up e * 1) n) (zero-mul (down e)) ∙ le-ltb (m * up e * 1) 0 (omega arith)
sign_is true m e = ap (λ (n : ℕ). ltb 0 (m * up e * 1 + n)) (zero-mul (down e)) ∙ ap (λ (n : ℕ). ltb 0 n) (add-zero (m * up e * 1) ∙ mul-one (m * up e))

word_above : (n word : ℕ) → n < 2 ^ 64 → word ≡ n % 2 ^ 64 → word ≡ n
word_above n word h e = e ∙ mod-eq_of_lt h

word_below : (n word : ℕ) → suc n < 2 ^ 64 → word ≡ 2 ^ 64 - 1 - n % 2 ^ 64 → word + suc n ≡ 2 ^ 64
word_below n word h e = omega arith

more : (n : ℕ) → n ≤ 2 ^ 64 - 1 → n < 2 ^ 64
more n h = omega arith

by_size : (s : Bool) (a c word sign : ℕ) → beyond floor_limit128 (floor_div (signed s a) c) ≡ false → word ≡ mod_p (2 ^ 64) (floor_div (signed s a) c) → sign ≡ flag (s && ltb 0 a) → Signed (floor_div (signed s a) c) word sign
unfolding floor_div mod_p
by_size false a c word sign b w s = let h : a / c < 2 ^ 64 = more (a / c) (ltb-false floor_limit128 (a / c) b) in level (a / c) refl h (word_above (a / c) word h w) s
by_size true zero c word sign b w s = let h : 0 / c < 2 ^ 64 = more (0 / c) (ltb-false floor_limit128 (0 / c) b) in level (0 / c) refl h (word_above (0 / c) word h w) s
by_size true (suc a) c word sign b w s =
    let h : suc (a / c) < 2 ^ 64 = more (suc (a / c)) (ltb-false floor_limit128 (suc (a / c)) b) in
    below (a / c) refl h (word_below (a / c) word h w) (s ∙ ap flag (lt-ltb 0 (suc a) (zero-lt-suc a)))

pub signed_of : (w : Float) (word sign : ℕ) → within_limit floor_limit128 w ≡ true → word ≡ floor_mod (2 ^ 64) w → sign ≡ flag (lt w plus_zero) → Signed (floor_at w) word sign
unfolding within_limit floor_at floor_mod
signed_of nan word sign h w s = absurd (false≢true h)
signed_of (inf t) word sign h w s = absurd (false≢true h)
signed_of (fin t m e) word sign h w s = by_size t (m * up e) (down e) word sign (not-true _ h) w (s ∙ ap flag (sign_is t m e))

-- ---- what fits in a word
pub limb_fits : (z : ℤ) (word sign : ℕ) → word < 2 ^ 64 → Signed z word sign → word / 2 ^ 32 + sign * 18446744065119617025 < 2 ^ 64
limb_fits z word sign h (level n e l w s) = omega arith
limb_fits z word sign h (below n e l w s) = omega arith

pub upper_limb : (sign : ℕ) → sign ≤ 1 → sign * 18446744065119617025 < 2 ^ 64
upper_limb sign h = omega arith

pub upper_word : (sign : ℕ) → sign ≤ 1 → sign * 18446744073709551587 < 2 ^ 64
upper_word sign h = omega arith

pub upper_fits : (sign carry : ℕ) → sign ≤ 1 → carry ≤ 1 → sign * 18446744073709551587 + carry < 2 ^ 64
upper_fits sign carry h c = omega arith

pub sign_fits : (z : ℤ) (word sign : ℕ) → Signed z word sign → sign ≤ 1
sign_fits z word sign (level n e l w s) = omega arith
sign_fits z word sign (below n e l w s) = omega arith

-- ---- the limbs
low_limb : (z : ℤ) (word sign : ℕ) → Signed z word sign → word % 2 ^ 32 ≡ mod_p (2 ^ 32) z
unfolding mod_p
low_limb z word sign (level n e l w s) = ap (λ (i : ℕ). i % 2 ^ 32) w ∙ ap (mod_p (2 ^ 32)) (sym e)
low_limb z word sign (below n e l w s) = ends word n w ∙ ap (mod_p (2 ^ 32)) (sym e)
  where
    ends : (word n : ℕ) → word + suc n ≡ 2 ^ 64 → word % 2 ^ 32 ≡ 2 ^ 32 - 1 - n % 2 ^ 32
    ends word n w = omega arith

high_limb : (z : ℤ) (word sign : ℕ) → Signed z word sign → word / 2 ^ 32 + sign * 18446744065119617025 ≡ mod_p p64 (floor_div z (2 ^ 32))
unfolding mod_p floor_div
high_limb z word sign (level n e l w s) =
    upper word n sign w s ∙ sym (mod-eq_of_lt (lt_of_lt_of_le (few n l) (lit≤ tt))) ∙ ap (λ (i : ℤ). mod_p p64 (floor_div i (2 ^ 32))) (sym e)
  where
    few : (n : ℕ) → n < 2 ^ 64 → n / 2 ^ 32 < 2 ^ 32
    few n l = omega arith

    upper : (word n sign : ℕ) → word ≡ n → sign ≡ 0 → word / 2 ^ 32 + sign * 18446744065119617025 ≡ n / 2 ^ 32
    upper word n sign w s = omega arith
high_limb z word sign (below n e l w s) =
    upper word n sign l w s ∙ ap (λ (i : ℕ). p64 - 1 - i) (sym (mod-eq_of_lt (lt_of_lt_of_le (few n l) (lit≤ tt)))) ∙ ap (λ (i : ℤ). mod_p p64 (floor_div i (2 ^ 32))) (sym e)
  where
    few : (n : ℕ) → suc n < 2 ^ 64 → n / 2 ^ 32 < 2 ^ 32
    few n l = omega arith

    upper : (word n sign : ℕ) → suc n < 2 ^ 64 → word + suc n ≡ 2 ^ 64 → sign ≡ 1 → word / 2 ^ 32 + sign * 18446744065119617025 ≡ p64 - 1 - n / 2 ^ 32
    upper word n sign l w s = omega arith

pub limbs_are : (z : ℤ) (word sign : ℕ) → Signed z word sign → record { low = word % 2 ^ 32; high = word / 2 ^ 32 + sign * 18446744065119617025 } ≡ limbs_of z
limbs_are z word sign h = λ i. record { low = low_limb z word sign h i; high = high_limb z word sign h i }

-- ---- the size
pub size_below : (z : ℤ) (word sign r : ℕ) → Signed z word sign → sign ≡ 1 → r < 2 ^ 64 → (r + word) % 2 ^ 64 ≡ 0 → r ≡ nat_abs z
size_below z word sign r (level n e l w s) i h g = absurd (omega arith)
size_below z word sign r (below n e l w s) i h g = size word n r w h g l ∙ ap nat_abs (sym e)
  where
    size : (word n r : ℕ) → word + suc n ≡ 2 ^ 64 → r < 2 ^ 64 → (r + word) % 2 ^ 64 ≡ 0 → suc n < 2 ^ 64 → r ≡ suc n
    size word n r w h g l = omega arith

pub size_level : (z : ℤ) (word sign : ℕ) → Signed z word sign → sign ≡ 0 → word ≡ nat_abs z
size_level z word sign (level n e l w s) i = w ∙ ap nat_abs (sym e)
size_level z word sign (below n e l w s) i = absurd (omega arith)

-- ---- the element: p - 2 ^ 64 is h · 2 ^ 64 + 1

-- the sum of a word and a sign, with its carry
pub carried : (word sign low carry : ℕ) → sign ≤ 1 → word < 2 ^ 64 → low ≡ (word + sign) % 2 ^ 64 → carry ≡ flag (ltb low sign) → carry * 2 ^ 64 + low ≡ word + sign
carried word sign low carry s h e c = go (ltb low sign) (ltb-true low sign) (ltb-false low sign) c
  where
    go : (t : Bool) → (t ≡ true → low < sign) → (t ≡ false → sign ≤ low) → carry ≡ flag t → carry * 2 ^ 64 + low ≡ word + sign
    go true f g c = let k = f refl in omega arith
    go false f g c = let k = g refl in omega arith

above_is : (W h low carry word sign n : ℕ) → carry * W + low ≡ word + sign → word ≡ n → sign ≡ 0 → n < W → (sign * h + carry) * W + low ≡ n
above_is W h low carry word sign n c w s l = ap (λ (i : ℕ). (i * h + carry) * W + low) s ∙ same ∙ c ∙ ap (λ (i : ℕ). word + i) s ∙ add-zero word ∙ w
  where
    same : (0 * h + carry) * W + low ≡ carry * W + low
    same = omega arith

below_is : (W h p low carry word sign n : ℕ) → p ≡ (h + 1) * W + 1 → carry * W + low ≡ word + sign → word + suc n ≡ W → sign ≡ 1 → (sign * h + carry) * W + low ≡ p - 1 - n
below_is W h p low carry word sign n P c w s = ap (λ (i : ℕ). (i * h + carry) * W + low) s ∙ same (c ∙ ap (λ (i : ℕ). word + i) s)
  where
    same : carry * W + low ≡ word + 1 → (1 * h + carry) * W + low ≡ p - 1 - n
    same d = omega arith

pub element_is : (z : ℤ) (word sign low carry : ℕ) → Signed z word sign → carry * 2 ^ 64 + low ≡ word + sign → number low (sign * 18446744073709551587 + carry) ≡ mod_p p128 z
unfolding mod_p
element_is z word sign low carry (level n e l w s) c =
    above_is (2 ^ 64) 18446744073709551587 low carry word sign n c w s l ∙ sym (mod-eq_of_lt (lt_of_lt_of_le l (lit≤ tt))) ∙ ap (mod_p p128) (sym e)
element_is z word sign low carry (below n e l w s) c =
    below_is (2 ^ 64) 18446744073709551587 p128 low carry word sign n refl c w s ∙ ap (λ (i : ℕ). p128 - 1 - i) (sym (mod-eq_of_lt (lt_of_le_of_lt (less n l) (lit< tt)))) ∙ ap (mod_p p128) (sym e)
  where
    less : (n : ℕ) → suc n < 2 ^ 64 → n ≤ 2 ^ 64
    less n l = omega arith
