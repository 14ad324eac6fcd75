-- The floor of a double below 2 ^ 50 in size, with no test of its exponent: the sum of w and M = 3 * 2 ^ 51 is the floor of w + M, or one more, and w < w + M - M says which. Assumes nothing.
use Rattle.std.proofs.Common.{◌≡◌, ℕ, ◌+◌, ◌-◌, ◌*◌, ◌/◌, ◌%◌, ◌^◌, ◌<◌, ◌≤◌, Bool, true, false, not, ◌&&◌, T, ltb, ℤ, pos, negsuc, sym, ap, ◌∙◌, lt_of_le_of_lt, mod-lt, mod-eq_of_lt, div-lt_iff_lt-mul, le_antisymm, le-div_iff_mul-le, mul-one, arith, lit<, lit≤, ltb→lt, nltb→le}
use lib.Ieee.{Float, nan, inf, fin, binary64, up, down, lt, is_nan, to_bits}
use lib.Ieee.Fits.{down_pos, and_l, and_r}
use Rattle.doubles.specs.Doubles.{mod_p}
use Rattle.doubles.specs.Steps.{floor_mod, near}
use Rattle.doubles.proofs.Floor.{yes, no}
use Rattle.doubles.proofs.Minus.{lt_minus, floor_minus}
use Rattle.doubles.proofs.Raised.{shifted, own_minus, shifted_least, shifted_most, middle, raised, lowered, raise, a_number}

-- what is below the digits in the pattern of w + M
abbrev pub base : ℕ
base = 4836865999795912704

abbrev pub passed : Float → Bool
passed w = lt w (lowered 0 w)

-- the pattern is that of the floor of w + M, or one more where w is passed
pub record Near (w : Float) : Type 0 where
  pub number : T (not (is_nan (raised 0 w)))
  pub floor : ℕ
  pub small : base + floor + 1 < 2 ^ 64
  pub level : passed w ≡ false → to_bits binary64 (raised 0 w) ≡ base + floor
  pub above : passed w ≡ true → to_bits binary64 (raised 0 w) ≡ base + floor + 1
  pub is : (floor_mod (2 ^ 64) w + middle 0) % 2 ^ 64 ≡ floor

near_size : (s : Bool) (m : ℕ) (e : ℤ) → m * up e < 2 ^ 50 * down e → Near (fin s m e)
near_size s m e h =
    let c : ℕ = down e in
    let a : ℕ = m * up e in
    let n : ℕ = shifted s a (middle 0 * c) in
    let C : 0 < c = down_pos e in
    let own = own_minus s m e (middle 0 * c) (room a c h) in
    let r = raise 0 (fin s m e) n c C (lit≤ tt) (lower a c n h (shifted_least s a (middle 0 * c))) (upper a c n h (shifted_most s a (middle 0 * c))) own in
    let q : ℕ = r.number in
    let one : c * 2 ^ 0 ≡ c = mul-one c in
    let least : n / c ≤ q = omega (arith, r.least, ap (λ (x : ℕ). n / x) one) in
    let most : q ≤ 1 + n / c = omega (arith, r.most, ap (λ (x : ℕ). n / x) one) in
    let t : passed (fin s m e) ≡ ltb n (q * c) = lt_minus (fin s m e) (lowered 0 (fin s m e)) n (q * 1 * c) (middle 0 * c) c C own r.back ∙ ap (λ (x : ℕ). ltb n (x * c)) (mul-one q) in
    let few : n / c ≤ 7881299347898368 = omega (arith, r.few) in
    record {
      number = a_number (raised 0 (fin s m e)) false (q * 1) 1 r.value;
      floor = n / c;
      small = spare (n / c) few;
      level = λ f. r.bits ∙ ap (λ (x : ℕ). base + x) (le_antisymm ((le-div_iff_mul-le C).1 (nltb→le n (q * c) (no (sym t ∙ f)))) least);
      above = λ f. r.bits ∙ next (n / c) q ((div-lt_iff_lt-mul C).1 (ltb→lt n (q * c) (yes (sym t ∙ f)))) most;
      is = floor_minus (2 ^ 64) (fin s m e) n (middle 0) c (lit< tt) C own ∙ mod-eq_of_lt (lt_of_le_of_lt few (lit< tt));
    }
  where
    room : (a c : ℕ) → a < 2 ^ 50 * c → a ≤ 6755399441055744 * c
    room a c h = omega arith

    lower : (a c n : ℕ) → a < 2 ^ 50 * c → 6755399441055744 * c - a ≤ n → 2 ^ 52 * (c * 1) ≤ n
    lower a c n h g = omega arith

    upper : (a c n : ℕ) → a < 2 ^ 50 * c → n ≤ 6755399441055744 * c + a → n < 7881299347898368 * (c * 1)
    upper a c n h g = omega arith

    spare : (f : ℕ) → f ≤ 7881299347898368 → base + f + 1 < 2 ^ 64
    spare f h = omega arith

    next : (f q : ℕ) → f < q → q ≤ 1 + f → base + q ≡ base + f + 1
    next f q h g = omega arith

size_below : (a c : ℕ) → a * 1 < 1 * 2 ^ 50 * c → a < 2 ^ 50 * c
size_below a c h = omega arith

between : (w : Float) → T (lt (fin true 1 (pos 50)) w) → T (lt w (fin false 1 (pos 50))) → Near w
unfolding lt
between nan h g = absurd h
between (inf true) h g = absurd h
between (inf false) h g = absurd g
between (fin false m e) h g = near_size false m e (size_below (m * up e) (down e) (ltb→lt (m * up e * 1) (1 * 2 ^ 50 * down e) g))
between (fin true m e) h g = near_size true m e (size_below (m * up e) (down e) (ltb→lt (m * up e * 1) (1 * 2 ^ 50 * down e) h))

pub known : (w : Float) → near w ≡ true → Near w
unfolding near
known w h =
    let t : T (lt (fin true 1 (pos 50)) w && lt w (fin false 1 (pos 50))) = yes h in
    between w (and_l (lt (fin true 1 (pos 50)) w) (lt w (fin false 1 (pos 50))) t) (and_r (lt (fin true 1 (pos 50)) w) (lt w (fin false 1 (pos 50))) t)

-- ---- the floor as a word, by the difference of two patterns
mod_below : (p : ℕ) (z : ℤ) → 0 < p → mod_p p z < p
unfolding mod_p
mod_below p (pos n) P = mod-lt n P
mod_below p (negsuc n) P = less (n % p)
  where
    less : (r : ℕ) → p - 1 - r < p
    less r = omega arith

pub floor_lt : (p : ℕ) (w : Float) → 0 < p → floor_mod p w < p
unfolding floor_mod
floor_lt p w P = mod_below p _ P

pub word_is : (r f g : ℕ) → r < 2 ^ 64 → f < 2 ^ 64 → (r + (base + middle 0)) % 2 ^ 64 ≡ base + g → (f + middle 0) % 2 ^ 64 ≡ g → r ≡ f
word_is r f g R F h e = omega arith
