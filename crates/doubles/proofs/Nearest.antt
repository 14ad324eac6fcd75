-- A whole number rounded to a double and then divided by 2 ^ k is the double nearest to the quotient: the two steps come to one rounding. Assumes nothing.
use Rattle.std.proofs.Common.{◌≡◌, ℕ, zero, suc, ◌+◌, ◌*◌, ◌/◌, ◌%◌, ◌^◌, ◌<◌, ◌≤◌, Bool, true, false, ◌&&◌, T, eqb, ltb, leb, ℤ, pos, negsuc, nat_abs, sym, refl, ap, ◌∙◌, subst, true≢false, le_trans, le_of_eq, lt_of_le_of_lt, lt_irrefl, mul-le-mul_right, zero-lt-suc, mul_assoc, mul-le-mul_left, mul-pos, one-mul, pow-suc, zero-mul, mul-one, mul_right_comm, mul_left_comm, arith, lit≤, eqb→eq, pow_pos, pow-add}
use native.Mathlib.Nat.{pow-succ', eq_of_mul-eq-mul_right}
use lib.Ieee.{Float, nan, inf, fin, Format, binary64, prec, emax, low, up, down, size, round, neg, div, of_int, fits}
use lib.Ieee.Fits.{round-fits, div-fits, of_int-fits, up_pos, down_pos, and_l}
use lib.Ieee.Exact.{HasValue}
use lib.Ieee.Scale.{round_same, grid, overflow, finite, round_val, round_under, grid_scale, normal_of_fraction}
use lib.Ieee.Positive.{num, den, den_pos, value→cross}
use Rattle.doubles.specs.Doubles.{power}
use Rattle.doubles.proofs.Laws.{round_neg, div_power, Coarse, size_coarse, room, quotient_of_size}

-- ---- a value is written in one way

even_odd : (m t : ℕ) → m % 2 ≡ 1 → m ≡ 2 * t → ⊥
even_odd m t o h = omega arith

odd_power : (m n a b : ℕ) → m % 2 ≡ 1 → n % 2 ≡ 1 → m * 2 ^ a ≡ n * 2 ^ b → (m ≡ n) × (a ≡ b)
odd_power m n zero zero o p h = (sym (mul-one m) ∙ h ∙ mul-one n, refl)
odd_power m n zero (suc b) o p h = absurd (even_odd m (n * 2 ^ b) o (sym (mul-one m) ∙ h ∙ ap (λ (x : ℕ). n * x) (pow-succ' 2 b) ∙ mul_left_comm n 2 (2 ^ b)))
odd_power m n (suc a) zero o p h = absurd (even_odd n (m * 2 ^ a) p (sym (mul-one n) ∙ sym h ∙ ap (λ (x : ℕ). m * x) (pow-succ' 2 a) ∙ mul_left_comm m 2 (2 ^ a)))
odd_power m n (suc a) (suc b) o p h =
    let r = odd_power m n a b o p (eq_of_mul-eq-mul_right 2 (zero-lt-suc 1) (m * 2 ^ a) (n * 2 ^ b)
    (mul_assoc m (2 ^ a) 2 ∙ ap (λ (x : ℕ). m * x) (sym (pow-suc 2 a)) ∙ h ∙ ap (λ (x : ℕ). n * x) (pow-suc 2 b) ∙ sym (mul_assoc n (2 ^ b) 2))) in
    (r.0, ap suc r.1)

-- what a format holds has an odd m, or it is a zero with the exponent 0
is_odd : (b : Format) (s : Bool) (m : ℕ) (e : ℤ) → T (fits b (fin s (suc m) e)) → suc m % 2 ≡ 1
unfolding fits
is_odd b s m e t =
    eqb→eq (suc m % 2) 1 (and_l (eqb (suc m % 2) 1) (ltb (suc m) (2 ^ prec b)) (and_l (eqb (suc m % 2) 1 && ltb (suc m) (2 ^ prec b)) (leb (down e) (2 ^ low b))
    (and_l (eqb (suc m % 2) 1 && ltb (suc m) (2 ^ prec b) && leb (down e) (2 ^ low b)) (ltb (suc m * up e) (2 ^ suc (emax b) * down e)) t)))

two_up : (p : ℕ) → 0 < p → 2 * p ≡ 1 → ⊥
two_up p h e = omega arith

flat : (e : ℤ) → up e * down e ≡ 1 → e ≡ pos 0
flat (pos zero) h = refl
flat (pos (suc k)) h = absurd (two_up (2 ^ k) (pow_pos k) (sym (pow-succ' 2 k) ∙ sym (mul-one (2 ^ suc k)) ∙ h))
flat (negsuc k) h = absurd (two_up (2 ^ k) (pow_pos k) (sym (pow-succ' 2 k) ∙ sym (one-mul (2 ^ suc k)) ∙ h))

zero_exponent : (b : Format) (s : Bool) (e : ℤ) → T (fits b (fin s zero e)) → e ≡ pos 0
unfolding fits
zero_exponent b s e t = flat e (eqb→eq (up e * down e) 1 t)

-- X / D and a / c are one value, and so are a / c and a' / c'
cross : (X a a' c c' D : ℕ) → 0 < c → X * c ≡ a * D → a * c' ≡ a' * c → X * c' ≡ a' * D
cross X a a' c c' D C e f =
    eq_of_mul-eq-mul_right c C (X * c') (a' * D) (mul_right_comm X c' c ∙ ap (λ (x : ℕ). x * c') e ∙ mul_right_comm a D c' ∙ ap (λ (x : ℕ). x * D) f ∙ mul_right_comm a' c D)

same_value : (x : Float) (s : Bool) (a c a' c' : ℕ) → 0 < c → a * c' ≡ a' * c → HasValue x s a c → HasValue x s a' c'
same_value nan s a c a' c' C f h = absurd h
same_value (inf t) s a c a' c' C f h = absurd h
same_value (fin t m e) s a c a' c' C f h = (h.0, cross (m * up e) a a' c c' (down e) C h.1 f)

-- two odd m with one value
both_odd : (m n : ℕ) (e g : ℤ) → m % 2 ≡ 1 → n % 2 ≡ 1 → m * (up e * down g) ≡ n * (up g * down e) → (m ≡ n) × (e ≡ g)
both_odd m n (pos i) (pos j) o p h =
    let r = odd_power m n i j o p (ap (λ (x : ℕ). m * x) (sym (mul-one (2 ^ i))) ∙ h ∙ ap (λ (x : ℕ). n * x) (mul-one (2 ^ j))) in
    (r.0, ap pos r.1)
both_odd m n (pos i) (negsuc j) o p h =
    let r = odd_power m n (i + suc j) 0 o p (ap (λ (x : ℕ). m * x) (pow-add 2 i (suc j)) ∙ h) in
    absurd (none i j r.1)
  where
    none : (i j : ℕ) → i + suc j ≡ 0 → ⊥
    none i j e = omega arith
both_odd m n (negsuc i) (pos j) o p h =
    let r = odd_power m n 0 (j + suc i) o p (h ∙ ap (λ (x : ℕ). n * x) (sym (pow-add 2 j (suc i)))) in
    absurd (none j i r.1)
  where
    none : (i j : ℕ) → 0 ≡ i + suc j → ⊥
    none i j e = omega arith
both_odd m n (negsuc i) (negsuc j) o p h =
    let r = odd_power m n (suc j) (suc i) o p (ap (λ (x : ℕ). m * x) (sym (one-mul (2 ^ suc j))) ∙ h ∙ ap (λ (x : ℕ). n * x) (one-mul (2 ^ suc i))) in
    (r.0, ap negsuc (back i j r.1))
  where
    back : (i j : ℕ) → suc j ≡ suc i → i ≡ j
    back i j e = omega arith

some : (m u : ℕ) → 0 < u → 0 ≡ suc m * u → ⊥
some m u h e = lt_irrefl 0 (subst (λ (x : ℕ). 0 < x) (sym e) (mul-pos (zero-lt-suc m) h))

-- m · 2 ^ e and n · 2 ^ g, both a / c
level : (m n : ℕ) (e g : ℤ) (a c : ℕ) → 0 < c → m * up e * c ≡ a * down e → n * up g * c ≡ a * down g → m * (up e * down g) ≡ n * (up g * down e)
level m n e g a c C v w =
    sym (mul_assoc m (up e) (down g))
    ∙ eq_of_mul-eq-mul_right c C (m * up e * down g) (n * up g * down e)
    (mul_right_comm (m * up e) (down g) c ∙ ap (λ (x : ℕ). x * down g) v ∙ mul_right_comm a (down e) (down g) ∙ ap (λ (x : ℕ). x * down e) (sym w) ∙ mul_right_comm (n * up g) c (down e))
    ∙ mul_assoc n (up g) (down e)

unique : (b : Format) (x y : Float) (s : Bool) (a c : ℕ) → 0 < c → T (fits b x) → T (fits b y) → HasValue x s a c → HasValue y s a c → x ≡ y
unique b nan y s a c C p q v w = absurd v
unique b (inf t) y s a c C p q v w = absurd v
unique b (fin t m e) nan s a c C p q v w = absurd w
unique b (fin t m e) (inf u) s a c C p q v w = absurd w
unique b (fin t zero e) (fin u zero g) s a c C p q v w = λ i. fin ((v.0 ∙ sym w.0) i) zero ((zero_exponent b t e p ∙ sym (zero_exponent b u g q)) i)
unique b (fin t zero e) (fin u (suc n) g) s a c C p q v w =
    absurd (some n (up g * down e) (mul-pos (up_pos g) (down_pos e)) (sym (zero-mul (up e * down g)) ∙ level zero (suc n) e g a c C v.1 w.1))
unique b (fin t (suc m) e) (fin u zero g) s a c C p q v w =
    absurd (some m (up e * down g) (mul-pos (up_pos e) (down_pos g)) (sym (zero-mul (up g * down e)) ∙ level zero (suc m) g e a c C w.1 v.1))
unique b (fin t (suc m) e) (fin u (suc n) g) s a c C p q v w =
    let r = both_odd (suc m) (suc n) e g (is_odd b t m e p) (is_odd b u n g q) (level (suc m) (suc n) e g a c C v.1 w.1) in
    λ i. fin ((v.0 ∙ sym w.0) i) (r.0 i) (r.1 i)

-- ---- one rounding

coarse_finite : (z : Float) → Coarse z → T (finite z)
coarse_finite nan c = absurd c
coarse_finite (inf s) c = absurd c
coarse_finite (fin s m e) c = tt

-- n and n / 2 ^ k in the normal range: n rounded, and divided exactly, is n / 2 ^ k rounded
module _ (b : Format) (n k : ℕ) (normal : prec b ≤ size (n * 2 ^ low b / 2 ^ k)) where
  once : (z x : Float) → z ≡ round b false n 1 → T (finite z) → T (fits b x) → HasValue x false (num z) (den z * 2 ^ k) → x ≡ round b false n (2 ^ k)
  once z x e t f v =
      let g = grid b n (2 ^ k) in
      let same : z ≡ round b false (n * 2 ^ k) (2 ^ k) = e ∙ round_same b false n 1 (n * 2 ^ k) (2 ^ k) (pow_pos 0) (pow_pos k) (sym (mul-one (n * 2 ^ k))) in
      let scaled : grid b (n * 2 ^ k) (2 ^ k) ≡ g * 2 ^ k = grid_scale b n (2 ^ k) k (pow_pos k) normal in
      let under : grid b (n * 2 ^ k) (2 ^ k) < overflow b = round_under b (n * 2 ^ k) (2 ^ k) (subst (λ (y : Float). T (finite y)) same t) in
      let value : HasValue z false (g * 2 ^ k) (2 ^ low b) =
      subst (λ (y : Float). HasValue y false (g * 2 ^ k) (2 ^ low b)) (sym same)
      (subst (λ (m : ℕ). HasValue (round b false (n * 2 ^ k) (2 ^ k)) false m (2 ^ low b)) scaled (round_val b (n * 2 ^ k) (2 ^ k) under)) in
      let less : g < overflow b = lt_of_le_of_lt (le_trans (le_of_eq (sym (mul-one g))) (mul-le-mul_left g (pow_pos k))) (subst (λ (m : ℕ). m < overflow b) scaled under) in
      let fraction : num z * 2 ^ low b ≡ g * (den z * 2 ^ k) = value→cross z (g * 2 ^ k) (2 ^ low b) value ∙ mul_right_comm g (2 ^ k) (den z) ∙ mul_assoc g (den z) (2 ^ k) in
      unique b x (round b false n (2 ^ k)) false g (2 ^ low b) (pow_pos (low b)) f (round-fits b false n (2 ^ k))
      (same_value x false (num z) (den z * 2 ^ k) g (2 ^ low b) (mul-pos (den_pos z) (pow_pos k)) fraction v) (round_val b n (2 ^ k) less)

zero_is : of_int binary64 (pos 0) ≡ fin false 0 (pos 0)
unfolding of_int
zero_is = unfold round in refl

as_round : (n : ℕ) → of_int binary64 (pos n) ≡ round binary64 false n 1
unfolding of_int
as_round n = refl

quotient_rounds : (n k : ℕ) → n < 2 ^ 64 → k ≤ 30 → div binary64 (of_int binary64 (pos n)) (power k) ≡ round binary64 false n (2 ^ k)
quotient_rounds zero k l h =
    ap (λ (y : Float). div binary64 y (power k)) zero_is ∙ div_power binary64 false 0 (pos 0) k ∙ round_same binary64 false (0 * 1) (1 * 2 ^ k) 0 (2 ^ k) (mul-pos (pow_pos 0) (pow_pos k)) (pow_pos k) (zero-mul (2 ^ k) ∙ sym (zero-mul (1 * 2 ^ k)))
quotient_rounds (suc n) k l h =
    let z = of_int binary64 (pos (suc n)) in
    let c = size_coarse (suc n) l in
    once binary64 (suc n) k
    (normal_of_fraction binary64 (suc n) (2 ^ k) (pow_pos k) (le_trans (room (2 ^ 52) k (lit≤ tt) h) (le_trans (le_of_eq (sym (one-mul (2 ^ low binary64)))) (mul-le-mul_right (2 ^ low binary64) (zero-lt-suc n)))))
    z (div binary64 z (power k)) (as_round (suc n)) (coarse_finite z c) (div-fits binary64 z (power k)) (quotient_of_size z k (of_int-fits binary64 (pos (suc n))) c h)

-- and of a negative number
quotient_of_neg : (z : Float) (k : ℕ) → Coarse z → div binary64 (neg z) (power k) ≡ neg (div binary64 z (power k))
unfolding neg
quotient_of_neg nan k c = absurd c
quotient_of_neg (inf s) k c = absurd c
quotient_of_neg (fin true m e) k c = absurd (true≢false c.0)
quotient_of_neg (fin false m e) k c =
    div_power binary64 true m e k ∙ round_neg binary64 (m * up e) (down e * 2 ^ k) ∙ ap neg (sym (div_power binary64 false m e k))

as_neg : (n : ℕ) → of_int binary64 (negsuc n) ≡ neg (of_int binary64 (pos (suc n)))
unfolding of_int
as_neg n = round_neg binary64 (suc n) 1

-- the double nearest to z / 2 ^ k, a tie to the even one
abbrev pub rounded_over : (k : ℕ) → ℤ → Float
rounded_over k (pos n) = round binary64 false n (2 ^ k)
rounded_over k (negsuc n) = round binary64 true (suc n) (2 ^ k)

-- THE DOUBLE NEAREST TO z, DIVIDED BY 2 ^ k, IS THE DOUBLE NEAREST TO z / 2 ^ k
pub rounded_once : (z : ℤ) (k : ℕ) → nat_abs z < 2 ^ 64 → k ≤ 30 → div binary64 (of_int binary64 z) (power k) ≡ rounded_over k z
rounded_once (pos n) k l h = quotient_rounds n k l h
rounded_once (negsuc n) k l h =
    ap (λ (x : Float). div binary64 x (power k)) (as_neg n) ∙ quotient_of_neg (of_int binary64 (pos (suc n))) k (size_coarse (suc n) l) ∙ ap neg (quotient_rounds (suc n) k l h) ∙ sym (round_neg binary64 (suc n) (2 ^ k))
