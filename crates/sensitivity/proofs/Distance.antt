-- Distances of whole numbers, and of doubles as exact numbers. Assumes nothing.
use mathlib.Core.Path.{◌≡◌, refl, sym, ap, subst, ◌∙◌}
use mathlib.Core.Logic.{◌⊎◌, inl, inr}
use mathlib.Core.Bool.{Bool, true, false, cond}
use Prim.Native.Nat.{ℕ, zero, suc, ◌+◌, ◌-◌, ◌*◌, ◌^◌, ◌≤◌, ◌<◌}
use native.Mathlib.Nat.{le_trans, le_of_eq, le_of_lt, lt_of_lt_of_le, eq-or-lt_of_le, mul_comm, mul_assoc, zero-mul, one-mul, mul-sub, mul-le-mul_right, mul_right_comm, sub-add_cancel}
use native.Mathlib.Omega.{arith}
use lib.Dec.{ltb, lit<, lit≤}
use lib.IntN.{ℤ, pos, negsuc, neg_ℤ, nat_abs, sub_ℕ, ◌+ℤ◌, ◌-ℤ◌, ◌*ℤ◌, pos-*ℤ-pos, negsuc-*ℤ-pos, zero-*ℤ}
use lib.Pow.{pow-add, pow_pos, pow-lt, pow_mono, shl_lt}
use lib.Ieee.{Float, nan, inf, fin, Format, binary32, binary64, prec, emax, low, up, down, round}
use lib.Ieee.Exact.{HasValue, round_exact}
use borrow.Author.Tests.{ltb-true, ltb-false}
use Rattle.doubles.specs.Doubles.{signed}
use Rattle.doubles.proofs.Nearest.{rounded_over, rounded_once}
use Rattle.correctness.specs.Correctness.{nearest_over}
use Rattle.sensitivity.specs.Sensitivity.{square, Exactly, Within}
use Rattle.doubles.proofs.Parts.{plus, minus}
use Rattle.correctness.proofs.Centred.{sum_parts}

-- ---- whole numbers

-- |y + z| and |y - z| are at most |y| + |z|
pub triangle_sum : (y z : ℤ) → nat_abs (y +ℤ z) ≤ nat_abs y + nat_abs z
triangle_sum y z = small (y +ℤ z) (plus y) (minus y) (plus z) (minus z) (sum_parts y z) (size y) (size z)
  where
    size : (z : ℤ) → nat_abs z ≡ plus z + minus z
    size (pos n) = omega arith
    size (negsuc n) = omega arith

    small : (s : ℤ) (a b c d : ℕ) → plus s + (b + d) ≡ minus s + (a + c) → nat_abs y ≡ a + b → nat_abs z ≡ c + d → nat_abs s ≤ nat_abs y + nat_abs z
    small (pos n) a b c d e f g = omega arith
    small (negsuc n) a b c d e f g = omega arith

size_of_negative : (z : ℤ) → nat_abs (neg_ℤ z) ≡ nat_abs z
size_of_negative (pos zero) = refl
size_of_negative (pos (suc n)) = refl
size_of_negative (negsuc n) = refl

pub triangle : (y z : ℤ) → nat_abs (y -ℤ z) ≤ nat_abs y + nat_abs z
triangle y z = le_trans (triangle_sum y (neg_ℤ z)) (le_of_eq (ap (λ (n : ℕ). nat_abs y + n) (size_of_negative z)))

-- (a + b)² is at most 2a² + 2b²
squares_of_sum : (a b : ℕ) → (a + b) * (a + b) ≤ 2 * (a * a) + 2 * (b * b)
squares_of_sum a b = go (ltb a b) refl
  where
    apart : (a c : ℕ) → (a + (a + c)) * (a + (a + c)) ≤ 2 * (a * a) + 2 * ((a + c) * (a + c))
    apart a c = omega arith

    go : (t : Bool) → ltb a b ≡ t → (a + b) * (a + b) ≤ 2 * (a * a) + 2 * (b * b)
    go true e =
        let q : a + (b - a) ≡ b = omega (arith, ltb-true a b e) in
        subst (λ (x : ℕ). (a + x) * (a + x) ≤ 2 * (a * a) + 2 * (x * x)) q (apart a (b - a))
    go false e =
        let q : b + (a - b) ≡ a = omega (arith, ltb-false a b e) in
        let h : (b + a) * (b + a) ≤ 2 * (b * b) + 2 * (a * a) = subst (λ (x : ℕ). (b + x) * (b + x) ≤ 2 * (b * b) + 2 * (x * x)) q (apart b (a - b)) in
        omega arith

squares_mono : (a b : ℕ) → a ≤ b → a * a ≤ b * b
squares_mono a b h =
    let q : a + (b - a) ≡ b = omega arith in
    subst (λ (x : ℕ). a * a ≤ x * x) q (more a (b - a))
  where
    more : (a c : ℕ) → a * a ≤ (a + c) * (a + c)
    more a c = omega arith

pub square_of_difference : (y z : ℤ) → square (y -ℤ z) ≤ 2 * square y + 2 * square z
square_of_difference y z = le_trans (squares_mono (nat_abs (y -ℤ z)) (nat_abs y + nat_abs z) (triangle y z)) (squares_of_sum (nat_abs y) (nat_abs z))

-- a² at most n² has a at most n
pub root : (a n : ℕ) → a * a ≤ n * n → a ≤ n
root a n h = go (ltb n a) refl
  where
    above : (n c : ℕ) → (n + suc c) * (n + suc c) ≤ n * n → ⊥
    above n c h = omega arith

    go : (t : Bool) → ltb n a ≡ t → a ≤ n
    go true e =
        let q : n + suc (a - suc n) ≡ a = omega (arith, ltb-true n a e) in
        absurd (above n (a - suc n) (subst (λ (x : ℕ). x * x ≤ n * n) (sym q) h))
    go false e = ltb-false n a e

-- ---- by signs

abbrev gap : (a b : ℕ) → ℕ
gap a b = (a - b) + (b - a)

abbrev distance : (s t : Bool) (x y : ℕ) → ℕ
distance false false x y = gap x y
distance true true x y = gap x y
distance false true x y = x + y
distance true false x y = x + y

gap_of : (a b : ℕ) → nat_abs (sub_ℕ a b) ≡ gap a b
gap_of a b = go (ltb a b) refl
  where
    go : (t : Bool) → ltb a b ≡ t → nat_abs (cond t (negsuc (b - suc a)) (pos (a - b))) ≡ gap a b
    go true e = omega (arith, ltb-true a b e)
    go false e = omega (arith, ltb-false a b e)

distance_is : (s t : Bool) (x y : ℕ) → nat_abs (signed s x -ℤ signed t y) ≡ distance s t x y
distance_is false false x zero = omega arith
distance_is false false x (suc y) = gap_of x (suc y)
distance_is true true zero zero = refl
distance_is true true zero (suc y) = omega arith
distance_is true true (suc x) zero = gap_of 0 (suc x) ∙ omega arith
distance_is true true (suc x) (suc y) = gap_of (suc y) (suc x) ∙ omega arith
distance_is false true x zero = omega arith
distance_is false true x (suc y) = omega arith
distance_is true false zero zero = refl
distance_is true false zero (suc y) = gap_of 0 (suc y) ∙ omega arith
distance_is true false (suc x) zero = gap_of 0 (suc x) ∙ omega arith
distance_is true false (suc x) (suc y) = omega arith

sub_times : (x y c : ℕ) → (x - y) * c ≡ x * c - y * c
sub_times x y c = mul_comm (x - y) c ∙ mul-sub c x y ∙ (λ i. mul_comm c x i - mul_comm c y i)

gap_times : (x y c : ℕ) → gap x y * c ≡ gap (x * c) (y * c)
gap_times x y c =
    let u = sub_times x y c in
    let v = sub_times y x c in
    omega arith

distance_times : (s t : Bool) (x y c : ℕ) → distance s t x y * c ≡ distance s t (x * c) (y * c)
distance_times false false x y c = gap_times x y c
distance_times true true x y c = gap_times x y c
distance_times false true x y c = omega arith
distance_times true false x y c = omega arith

-- ---- doubles

-- two fractions over S, and how far their numerators are apart
within_of : (x y : Float) (s t : Bool) (a b S most : ℕ) → HasValue x s a S → HasValue y t b S → nat_abs (signed s a -ℤ signed t b) ≤ most → Within x y most S
within_of nan y s t a b S most h k l = absurd h
within_of (inf u) y s t a b S most h k l = absurd h
within_of (fin u m e) nan s t a b S most h k l = absurd k
within_of (fin u m e) (inf v) s t a b S most h k l = absurd k
within_of (fin u m e) (fin v n g) s t a b S most h k l =
    let D = down e in
    let E = down g in
    let X : m * up e * E * S ≡ a * (D * E) = mul_right_comm (m * up e) E S ∙ ap (λ (z : ℕ). z * E) h.1 ∙ mul_assoc a D E in
    let Y : n * up g * D * S ≡ b * (D * E) = mul_right_comm (n * up g) D S ∙ ap (λ (z : ℕ). z * D) k.1 ∙ mul_assoc b E D ∙ ap (λ (z : ℕ). b * z) (mul_comm E D) in
    let q : nat_abs (signed u (m * up e * E) -ℤ signed v (n * up g * D)) * S ≡ nat_abs (signed u a -ℤ signed v b) * (D * E) =
    ap (λ (z : ℕ). z * S) (distance_is u v (m * up e * E) (n * up g * D))
    ∙ distance_times u v (m * up e * E) (n * up g * D) S
    ∙ (λ i. distance u v (X i) (Y i))
    ∙ sym (distance_times u v a b (D * E))
    ∙ ap (λ (z : ℕ). z * (D * E)) (sym (distance_is u v a b)) in
    le_trans (le_of_eq q) (mul-le-mul_right (D * E) (le_trans (le_of_eq (λ i. nat_abs (signed (h.0 i) a -ℤ signed (k.0 i) b))) l))

-- n / 2 ^ k is exact for n at most 2 ^ prec
module _ (b : Format) (s : Bool) (k : ℕ) (room : k ≤ low b) where
  split : 2 ^ (low b - k) * 2 ^ k ≡ 2 ^ low b
  split = sym (pow-add 2 (low b - k) k) ∙ ap (λ (x : ℕ). 2 ^ x) (sub-add_cancel room)

  fine : (b : Format) → prec b < suc (emax b)
  fine binary32 = lit< tt
  fine binary64 = lit< tt

  one_less : (b : Format) → 1 < 2 ^ prec b
  one_less binary32 = lit< tt
  one_less binary64 = lit< tt

  not_too_large : prec b + (low b - k) < low b + suc (emax b)
  not_too_large = go (prec b) (low b) (suc (emax b)) (fine b)
    where
      go : (p l e : ℕ) → p < e → p + (l - k) < l + e
      go p l e h = omega arith

  exact_over : (n : ℕ) → n ≤ 2 ^ prec b → HasValue (round b s n (2 ^ k)) s n (2 ^ k)
  exact_over n h = go (eq-or-lt_of_le h)
    where
      units_of : (n : ℕ) → n * 2 ^ low b ≡ n * 2 ^ (low b - k) * 2 ^ k
      units_of n = ap (λ (x : ℕ). n * x) (sym split) ∙ sym (mul_assoc n (2 ^ (low b - k)) (2 ^ k))

      -- 2 ^ prec is one unit of 2 ^ prec
      largest : HasValue (round b s (2 ^ prec b) (2 ^ k)) s (2 ^ prec b) (2 ^ k)
      largest =
          let j = prec b + (low b - k) in
          let e : 1 * 2 ^ j ≡ 2 ^ prec b * 2 ^ (low b - k) = one-mul (2 ^ j) ∙ pow-add 2 (prec b) (low b - k) in
          round_exact b s (2 ^ prec b) (2 ^ k) 1 j (pow_pos k) (one_less b) (subst (λ (x : ℕ). x < 2 ^ (low b + suc (emax b))) (sym (one-mul (2 ^ j))) (pow-lt not_too_large)) (units_of (2 ^ prec b) ∙ ap (λ (x : ℕ). x * 2 ^ k) (sym e))

      go : (n ≡ 2 ^ prec b) ⊎ (n < 2 ^ prec b) → HasValue (round b s n (2 ^ k)) s n (2 ^ k)
      go (inl e) = subst (λ (x : ℕ). HasValue (round b s x (2 ^ k)) s x (2 ^ k)) (sym e) largest
      go (inr l) = round_exact b s n (2 ^ k) n (low b - k) (pow_pos k) l (lt_of_lt_of_le (shl_lt (prec b) (low b - k) l) (pow_mono (le_of_lt not_too_large))) (units_of n)

abbrev negative : ℤ → Bool
negative (pos n) = false
negative (negsuc n) = true

-- so the double that stands for z over 2 ^ f is z / 2 ^ f
nearest_exact : (f : ℕ) (z : ℤ) → f ≤ 30 → nat_abs z ≤ 2 ^ 53 → HasValue (nearest_over f z) (negative z) (nat_abs z) (2 ^ f)
nearest_exact f z h l = subst (λ (x : Float). HasValue x (negative z) (nat_abs z) (2 ^ f)) (sym (rounded_once z f (lt_of_lt_of_le (next (nat_abs z) l) (lit≤ tt)) h)) (go z l)
  where
    next : (n : ℕ) → n ≤ 2 ^ 53 → n < 2 ^ 53 + 1
    next n h = omega arith

    go : (z : ℤ) → nat_abs z ≤ 2 ^ 53 → HasValue (rounded_over f z) (negative z) (nat_abs z) (2 ^ f)
    go (pos n) l = exact_over binary64 false f (le_trans h (lit≤ tt)) n l
    go (negsuc n) l = exact_over binary64 true f (le_trans h (lit≤ tt)) (suc n) l

by_sign : (z : ℤ) → z ≡ signed (negative z) (nat_abs z)
by_sign (pos n) = refl
by_sign (negsuc n) = refl

scaled : (s : Bool) (a c : ℕ) → signed s (a * c) ≡ signed s a *ℤ pos c
scaled false a c = sym (pos-*ℤ-pos a c)
scaled true zero c = ap (λ (n : ℕ). neg_ℤ (pos n)) (zero-mul c) ∙ sym (zero-*ℤ (pos c))
scaled true (suc a) c = sym (negsuc-*ℤ-pos a c)

exactly_of : (x : Float) (s : Bool) (a c : ℕ) → HasValue x s a c → Exactly x (signed s a) c
exactly_of nan s a c h = absurd h
exactly_of (inf t) s a c h = absurd h
exactly_of (fin t m e) s a c h = (λ i. signed (h.0 i) (h.1 i)) ∙ scaled s a (down e)

pub nearest_exactly : (f : ℕ) (z : ℤ) → f ≤ 30 → nat_abs z ≤ 2 ^ 53 → Exactly (nearest_over f z) z (2 ^ f)
nearest_exactly f z h l = subst (λ (y : ℤ). Exactly (nearest_over f z) y (2 ^ f)) (sym (by_sign z)) (exactly_of (nearest_over f z) (negative z) (nat_abs z) (2 ^ f) (nearest_exact f z h l))

pub nearest_within : (f : ℕ) (y z : ℤ) (most : ℕ) → f ≤ 30 → nat_abs y ≤ 2 ^ 53 → nat_abs z ≤ 2 ^ 53 → nat_abs (y -ℤ z) ≤ most → Within (nearest_over f y) (nearest_over f z) most (2 ^ f)
nearest_within f y z most h k l g =
    within_of (nearest_over f y) (nearest_over f z) (negative y) (negative z) (nat_abs y) (nat_abs z) (2 ^ f) most (nearest_exact f y h k) (nearest_exact f z h l) (le_trans (le_of_eq (λ i. nat_abs (sym (by_sign y) i -ℤ sym (by_sign z) i))) g)
