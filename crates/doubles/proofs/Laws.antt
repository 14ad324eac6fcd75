-- The product of a double by 2 ^ k is exact unless it overflows, and the quotient of a decoded size by 2 ^ k is exact. Assumes nothing.
use Rattle.std.proofs.Common.{◌≡◌, ℕ, zero, suc, ◌+◌, ◌-◌, ◌*◌, ◌/◌, ◌%◌, ◌^◌, ◌<◌, ◌≤◌, Bool, true, false, cond, not, ◌&&◌, T, eqb, ltb, leb, ℤ, pos, negsuc, sym, refl, ap, ◌∙◌, subst, true≢false, suc-le-suc, le_trans, le_of_eq, lt_of_lt_of_le, le_of_suc-le-suc, lt_of_le_of_lt, le_of_lt, lt_irrefl, mul-le-mul_right, zero-lt-suc, mul_assoc, mul_comm, mul-le-mul, le_antisymm, lt_of_mul-lt-mul_right, mul-le-mul_left, mul-lt-mul_of_pos_right, mul-pos, one-mul, lt_of_not-le, le-div_iff_mul-le, zero-mul, mul-one, sub-add_cancel, mul_right_comm, not-le_of_lt, div-mul-le_self, arith, lit<, lit≤, eqb→eq, ltb→lt, lt→ltb, leb→le, pow_pos, pow_mono, pow-add, lt-ltb}
use native.Mathlib.Nat.{zero-div}
use native.Mathlib.Decide.{dec_le}
use lib.Pow.{pow-lt}
use lib.Ieee.{Float, nan, inf, fin, Format, binary64, prec, emax, low, up, down, unlike, odd, units, round, neg, mul, div, of_int, le, fits}
use lib.Ieee.Fits.{round_is, of_int-fits, neg-fits, up_pos, down_pos, and_l, and_r}
use lib.Ieee.Exact.{HasValue, round_exact}
use lib.Ieee.Back.{round_whole, whole_unique}
use lib.Ieee.Order.{round_mono}
use lib.Ieee.Nearest.{div_same}
use lib.Ieee.Positive.{num, den, positive, between, le→cross}
use Rattle.field64.specs.Field.{p64}
use Rattle.doubles.specs.Doubles.{signed, floor_div, beyond, floor_of, power, centred, decoded}
use Rattle.doubles.specs.Steps.{floor_at, within_limit}

-- ---- a double that a format holds: few digits, no smaller than the format's smallest value, below its overflow
pub record Held (b : Format) (m : ℕ) (e : ℤ) : Type 0 where
  pub few : m < 2 ^ prec b
  pub fine : down e ≤ 2 ^ low b
  pub under : m * up e < 2 ^ suc (emax b) * down e

one_factor : (u d : ℕ) → 0 < u → u * d ≡ 1 → d ≤ 1
one_factor u d h e = le_trans (le_of_eq (sym (one-mul d))) (le_trans (mul-le-mul_right d h) (le_of_eq e))

pub held : (b : Format) (s : Bool) (m : ℕ) (e : ℤ) → T (fits b (fin s m e)) → Held b m e
unfolding fits
held b s zero e t =
    let d : down e ≤ 1 = one_factor (up e) (down e) (up_pos e) (eqb→eq (up e * down e) 1 t) in
    record {
      few = pow_pos (prec b);
      fine = le_trans d (pow_pos (low b));
      under = lt_of_le_of_lt (le_of_eq (zero-mul (up e))) (mul-pos (pow_pos (suc (emax b))) (down_pos e));
    }
held b s (suc m) e t =
    let c1 = eqb (suc m % 2) 1 in
    let c2 = ltb (suc m) (2 ^ prec b) in
    let c3 = leb (down e) (2 ^ low b) in
    let c4 = ltb (suc m * up e) (2 ^ suc (emax b) * down e) in
    record {
      few = ltb→lt (suc m) (2 ^ prec b) (and_r c1 c2 (and_l (c1 && c2) c3 (and_l (c1 && c2 && c3) c4 t)));
      fine = leb→le (down e) (2 ^ low b) (and_r (c1 && c2) c3 (and_l (c1 && c2 && c3) c4 t));
      under = ltb→lt (suc m * up e) (2 ^ suc (emax b) * down e) (and_r (c1 && c2 && c3) c4 t);
    }

-- ---- m * 2 ^ e * 2 ^ k, and m * 2 ^ e / 2 ^ k, as a multiple of 2 ^ -l
pub exponent_le : (i l : ℕ) → 2 ^ i ≤ 2 ^ l → i ≤ l
exponent_le i l h = le_of_suc-le-suc (lt_of_not-le (λ (g : suc l ≤ i). not-le_of_lt (pow-lt g) h))

up_grid : (m k l : ℕ) (e : ℤ) → down e ≤ 2 ^ l → (j : ℕ) × (m * up e * 2 ^ k * 2 ^ l ≡ m * 2 ^ j * down e)
up_grid m k l (pos a) h = (a + k + l, simp (pow-add, mul_assoc, mul-one))
up_grid m k l (negsuc a) h =
    let g : l - suc a + suc a ≡ l = sub-add_cancel (exponent_le (suc a) l h) in
    (k + (l - suc a), ap (λ (x : ℕ). m * 1 * 2 ^ k * 2 ^ x) (sym g) ∙ simp (pow-add, mul_assoc, one-mul))

down_grid : (m k l : ℕ) (e : ℤ) → down e * 2 ^ k ≤ 2 ^ l → (j : ℕ) × (m * up e * 2 ^ l ≡ m * 2 ^ j * (down e * 2 ^ k))
down_grid m k l (pos a) h =
    let g : l - k + k ≡ l = sub-add_cancel (exponent_le k l (le_trans (le_of_eq (sym (one-mul (2 ^ k)))) h)) in
    (a + (l - k), ap (λ (x : ℕ). m * 2 ^ a * 2 ^ x) (sym g) ∙ simp (pow-add, mul_assoc, one-mul))
down_grid m k l (negsuc a) h =
    let g : l - (suc a + k) + (suc a + k) ≡ l = sub-add_cancel (exponent_le (suc a + k) l (le_trans (le_of_eq (pow-add 2 (suc a) k)) h)) in
    (l - (suc a + k), ap (λ (x : ℕ). m * 1 * 2 ^ x) (sym g) ∙ simp (pow-add, mul_assoc, one-mul))

-- ---- rounding: a negative fraction is a positive one's negation, and from the overflow on it is infinite
odd_neg : (d q k l : ℕ) → odd d true q k l ≡ neg (odd d false q k l)
unfolding odd neg
odd_neg d zero k l = refl
odd_neg d (suc q) k l = refl

units_neg : (b : Format) (q k : ℕ) → units b true q k ≡ neg (units b false q k)
unfolding units
units_neg b q k = go (ltb (q * 2 ^ k) (2 ^ (low b + suc (emax b))))
  where
    go : (t : Bool) → cond t (odd (suc (prec b)) true q k (low b)) (inf true) ≡ neg (cond t (odd (suc (prec b)) false q k (low b)) (inf false))
    go true = odd_neg (suc (prec b)) q k (low b)
    go false = unfold neg in refl

pub round_neg : (b : Format) (a c : ℕ) → round b true a c ≡ neg (round b false a c)
round_neg b a c = round_is b true a c ∙ units_neg b _ _ ∙ ap neg (sym (round_is b false a c))

infinite : (z : Float) → T (le (inf false) z) → z ≡ inf false
unfolding le
infinite nan t = absurd t
infinite (inf true) t = absurd t
infinite (inf false) t = refl
infinite (fin s m e) t = absurd t

top : round binary64 false (2 ^ 1024) 1 ≡ inf false
unfolding round
top = refl

round_over : (a c : ℕ) → 0 < c → 2 ^ 1024 * c ≤ a → round binary64 false a c ≡ inf false
round_over a c C h =
    infinite (round binary64 false a c)
    (subst (λ (z : Float). T (le z (round binary64 false a c))) top (round_mono binary64 (2 ^ 1024) 1 a c (pow_pos 0) C (le_trans h (le_of_eq (sym (mul-one a))))))

round_over_signed : (s : Bool) (a c : ℕ) → 0 < c → 2 ^ 1024 * c ≤ a → round binary64 s a c ≡ inf s
round_over_signed false a c C h = round_over a c C h
round_over_signed true a c C h = round_neg binary64 a c ∙ ap neg (round_over a c C h) ∙ (unfold neg in refl)

-- ---- the product
same_sign : (s : Bool) → unlike s false ≡ s
same_sign true = refl
same_sign false = refl

pub mul_power : (b : Format) (s : Bool) (m : ℕ) (e : ℤ) (k : ℕ) → mul b (fin s m e) (power k) ≡ round b s (m * up e * 2 ^ k) (down e)
unfolding mul
mul_power b s m e k =
    ap (λ (t : Bool). round b t (m * up e * (1 * 2 ^ k)) (down e * 1)) (same_sign s)
    ∙ ap (λ (x : ℕ). round b s (m * up e * x) (down e * 1)) (one-mul (2 ^ k))
    ∙ ap (λ (x : ℕ). round b s (m * up e * 2 ^ k) x) (mul-one (down e))

-- a / c below 2 ^ (emax + 1), which is w multiples of 2 ^ -low: so w is below the overflow
below_overflow : (b : Format) (a c w : ℕ) → a * 2 ^ low b ≡ w * c → a < 2 ^ suc (emax b) * c → w < 2 ^ (low b + suc (emax b))
below_overflow b a c w g h =
    lt_of_mul-lt-mul_right c
    (lt_of_le_of_lt (le_of_eq (sym g))
    (lt_of_lt_of_le (mul-lt-mul_of_pos_right h (pow_pos (low b)))
    (le_of_eq (mul_right_comm (2 ^ suc (emax b)) c (2 ^ low b) ∙ ap (λ (x : ℕ). x * c) (mul_comm (2 ^ suc (emax b)) (2 ^ low b) ∙ sym (pow-add 2 (low b) (suc (emax b))))))))

-- THE PRODUCT BY 2 ^ k IS EXACT where it is below the overflow: it has x's sign, and in size it is m * 2 ^ e * 2 ^ k
pub product_exact : (b : Format) (s : Bool) (m : ℕ) (e : ℤ) (k : ℕ) → T (fits b (fin s m e)) → m * up e * 2 ^ k < 2 ^ suc (emax b) * down e
    → HasValue (mul b (fin s m e) (power k)) s (m * up e * 2 ^ k) (down e)
product_exact b s m e k t h =
    let x = held b s m e t in
    let g = up_grid m k (low b) e x.fine in
    subst (λ (z : Float). HasValue z s (m * up e * 2 ^ k) (down e)) (sym (mul_power b s m e k))
    (round_exact b s (m * up e * 2 ^ k) (down e) m g.0 (down_pos e) x.few (below_overflow b (m * up e * 2 ^ k) (down e) (m * 2 ^ g.0) g.1 h) g.1)

-- AND OVERFLOWS TO AN INFINITY of x's sign from 2 ^ 1024 on
pub product_overflows : (s : Bool) (m : ℕ) (e : ℤ) (k : ℕ) → 2 ^ 1024 * down e ≤ m * up e * 2 ^ k → mul binary64 (fin s m e) (power k) ≡ inf s
product_overflows s m e k h = mul_power binary64 s m e k ∙ round_over_signed s (m * up e * 2 ^ k) (down e) (down_pos e) h

-- ---- the quotient
pub div_power : (b : Format) (s : Bool) (m : ℕ) (e : ℤ) (k : ℕ) → div b (fin s m e) (power k) ≡ round b s (m * up e) (down e * 2 ^ k)
unfolding div
div_power b s m e k =
    ap (λ (t : Bool). round b t (m * up e * 1) (1 * 2 ^ k * down e)) (same_sign s)
    ∙ ap (λ (x : ℕ). round b s x (1 * 2 ^ k * down e)) (mul-one (m * up e))
    ∙ ap (λ (x : ℕ). round b s (m * up e) x) (ap (λ (x : ℕ). x * down e) (one-mul (2 ^ k)) ∙ mul_comm (2 ^ k) (down e))

-- The quotient by 2 ^ k is exact where 2 ^ e / 2 ^ k is not below the format's smallest value
pub quotient_exact : (b : Format) (s : Bool) (m : ℕ) (e : ℤ) (k : ℕ) → T (fits b (fin s m e)) → down e * 2 ^ k ≤ 2 ^ low b
    → HasValue (div b (fin s m e) (power k)) s (m * up e) (down e * 2 ^ k)
quotient_exact b s m e k t h =
    let x = held b s m e t in
    let g = down_grid m k (low b) e h in
    let C : 0 < down e * 2 ^ k = mul-pos (down_pos e) (pow_pos k) in
    let under : m * up e < 2 ^ suc (emax b) * (down e * 2 ^ k) =
    lt_of_lt_of_le x.under
    (le_trans (le_of_eq (sym (mul-one (2 ^ suc (emax b) * down e))))
    (le_trans (mul-le-mul_left (2 ^ suc (emax b) * down e) (pow_pos k)) (le_of_eq (mul_assoc (2 ^ suc (emax b)) (down e) (2 ^ k))))) in
    subst (λ (z : Float). HasValue z s (m * up e) (down e * 2 ^ k)) (sym (div_power b s m e k))
    (round_exact b s (m * up e) (down e * 2 ^ k) m g.0 C x.few (below_overflow b (m * up e) (down e * 2 ^ k) (m * 2 ^ g.0) g.1 under) g.1)

-- ---- a whole number below 2 ^ 64 as a double: 0, or 1 at least, so that 2 ^ e is no finer than 2 ^ -53
abbrev pub Coarse : Float → Type 0
Coarse nan = ⊥
Coarse (inf s) = ⊥
Coarse (fin s m e) = (s ≡ false) × (down e ≤ 2 ^ 53)

coarse_of : (m : ℕ) (e : ℤ) → m < 2 ^ 53 → down e ≤ m * up e → down e ≤ 2 ^ 53
coarse_of m (pos a) h g = lit≤ tt
coarse_of m (negsuc a) h g = le_trans g (le_trans (le_of_eq (mul-one m)) (le_of_lt h))

coarse_between : (z : Float) → T (fits binary64 z) → T (positive z) → T (le (fin false 1 (pos 0)) z) → Coarse z
coarse_between nan t q l = absurd q
coarse_between (inf s) t q l = absurd q
coarse_between (fin true m e) t q l = absurd q
coarse_between (fin false m e) t q l = (
  refl,
  coarse_of m e (held binary64 false m e t).few
      (le_trans (le_of_eq (sym (one-mul (down e)))) (le_trans (le→cross (fin false 1 (pos 0)) (fin false m e) tt q l) (le_of_eq (mul-one (m * up e))))),
)

one_is : round binary64 false 1 1 ≡ fin false 1 (pos 0)
unfolding round
one_is = refl

end_is : round binary64 false (2 ^ 64) 1 ≡ fin false 1 (pos 64)
unfolding round
end_is = refl

pub size_coarse : (n : ℕ) → n < 2 ^ 64 → Coarse (of_int binary64 (pos n))
unfolding of_int
size_coarse zero h = (refl, lit≤ tt)
size_coarse (suc n) h =
    let z = round binary64 false (suc n) 1 in
    let lo : T (le (fin false 1 (pos 0)) z) = subst (λ (x : Float). T (le x z)) one_is (round_mono binary64 1 1 (suc n) 1 (pow_pos 0) (pow_pos 0) (mul-le-mul_right 1 (zero-lt-suc n))) in
    let hi : T (le z (fin false 1 (pos 64))) = subst (λ (x : Float). T (le z x)) end_is (round_mono binary64 (suc n) 1 (2 ^ 64) 1 (pow_pos 0) (pow_pos 0) (mul-le-mul_right 1 (le_of_lt h))) in
    coarse_between z (of_int-fits binary64 (pos (suc n))) (between (fin false 1 (pos 0)) z (fin false 1 (pos 64)) tt tt lo hi) lo

pub room : (d k : ℕ) → d ≤ 2 ^ 53 → k ≤ 30 → d * 2 ^ k ≤ 2 ^ low binary64
room d k h g = le_trans (mul-le-mul h (pow_mono g)) (lit≤ tt)

pub quotient_of_size : (z : Float) (k : ℕ) → T (fits binary64 z) → Coarse z → k ≤ 30 → HasValue (div binary64 z (power k)) false (num z) (den z * 2 ^ k)
quotient_of_size nan k t c g = absurd c
quotient_of_size (inf s) k t c g = absurd c
quotient_of_size (fin s m e) k t c g =
    subst (λ (v : Bool). HasValue (div binary64 (fin s m e) (power k)) v (m * up e) (down e * 2 ^ k)) c.0 (quotient_exact binary64 s m e k t (room (down e) k c.1 g))

quotient_of_negated : (z : Float) (k : ℕ) → T (fits binary64 z) → Coarse z → k ≤ 30 → HasValue (div binary64 (neg z) (power k)) true (num (neg z)) (den (neg z) * 2 ^ k)
unfolding neg
quotient_of_negated nan k t c g = absurd c
quotient_of_negated (inf s) k t c g = absurd c
quotient_of_negated (fin s m e) k t c g =
    subst (λ (v : Bool). HasValue (div binary64 (fin (not s) m e) (power k)) v (m * up e) (down e * 2 ^ k)) (ap not c.0)
    (quotient_exact binary64 (not s) m e k (neg-fits binary64 (fin s m e) t) (room (down e) k c.1 g))

-- THE DIVISION BY 2 ^ k IS EXACT for every decoded size: the quotient has the sign of `centred p64 y`, and in size it is that of `centred p64 y` over 2 ^ k
pub division_exact : (y k : ℕ) → y < p64 → k ≤ 30 → HasValue (decoded p64 y k) (ltb ((p64 - 1) / 2) y) (num (centred p64 y)) (den (centred p64 y) * 2 ^ k)
unfolding centred decoded
division_exact y k h g = go (ltb ((p64 - 1) / 2) y)
  where
    small : p64 - y < 2 ^ 64
    small = omega arith

    go : (b : Bool) → HasValue (div binary64 (cond b (neg (of_int binary64 (pos (p64 - y)))) (of_int binary64 (pos y))) (power k)) b
        (num (cond b (neg (of_int binary64 (pos (p64 - y)))) (of_int binary64 (pos y)))) (den (cond b (neg (of_int binary64 (pos (p64 - y)))) (of_int binary64 (pos y))) * 2 ^ k)
    go true = quotient_of_negated (of_int binary64 (pos (p64 - y))) k (of_int-fits binary64 (pos (p64 - y))) (size_coarse (p64 - y) small) g
    go false = quotient_of_size (of_int binary64 (pos y)) k (of_int-fits binary64 (pos y)) (size_coarse y (lt_of_lt_of_le h (lit≤ tt))) g

-- ---- the floor of a fraction goes by its value
below_same : (a b c d : ℕ) → 0 < c → 0 < d → suc a * d ≡ suc b * c → a / c ≤ b / d
below_same a b c d C D e =
    let q = a / c in
    (le-div_iff_mul-le D).1
    (le_of_suc-le-suc
    (lt_of_mul-lt-mul_right c
    (lt_of_le_of_lt (le_of_eq (mul_right_comm q d c))
    (lt_of_lt_of_le (mul-lt-mul_of_pos_right (suc-le-suc (div-mul-le_self a c)) D) (le_of_eq e)))))

no_zero : (b c d : ℕ) → 0 < c → zero * d ≡ suc b * c → ⊥
no_zero b c d C e = lt_irrefl 0 (subst (λ (x : ℕ). 0 < x) (sym e ∙ zero-mul d) (mul-pos (zero-lt-suc b) C))

floor_same : (s : Bool) (a c b d : ℕ) → 0 < c → 0 < d → a * d ≡ b * c → floor_div (signed s a) c ≡ floor_div (signed s b) d
unfolding floor_div
floor_same false a c b d C D e = ap pos (div_same a c b d C D e)
floor_same true zero c zero d C D e = ap pos (zero-div c ∙ sym (zero-div d))
floor_same true zero c (suc b) d C D e = absurd (no_zero b c d C e)
floor_same true (suc a) c zero d C D e = absurd (no_zero a d c D (sym e))
floor_same true (suc a) c (suc b) d C D e = ap negsuc (le_antisymm (below_same a b c d C D e) (below_same b a d c D C (sym e)))

pub floor_of_value : (z : Float) (s : Bool) (a c : ℕ) → 0 < c → HasValue z s a c → floor_at z ≡ floor_div (signed s a) c
unfolding floor_at
floor_of_value nan s a c C h = absurd h
floor_of_value (inf t) s a c C h = absurd h
floor_of_value (fin t m e) s a c C h = ap (λ (v : Bool). floor_div (signed v (m * up e)) (down e)) h.0 ∙ floor_same s (m * up e) (down e) a c (down_pos e) C h.1

within_of_value : (l : ℕ) (z : Float) (s : Bool) (a c : ℕ) → 0 < c → HasValue z s a c → within_limit l z ≡ not (beyond l (floor_div (signed s a) c))
unfolding within_limit floor_at
within_of_value l nan s a c C h = absurd h
within_of_value l (inf t) s a c C h = absurd h
within_of_value l (fin t m e) s a c C h = ap (λ (z : ℤ). not (beyond l z)) (floor_of_value (fin t m e) s a c C h)

-- ---- a size of 2 ^ 64 or more has its floor beyond a limit below that
module _ (l : ℕ) (small : l < 2 ^ 64) where
  far_floor : (s : Bool) (a c : ℕ) → 0 < c → 2 ^ 64 * c ≤ a → beyond l (floor_div (signed s a) c) ≡ true
  unfolding floor_div
  far_floor false a c C h = lt-ltb l (a / c) (lt_of_lt_of_le small ((le-div_iff_mul-le C).1 h))
  far_floor true zero c C h = absurd (not-le_of_lt (mul-pos (pow_pos 64) C) h)
  far_floor true (suc a) c C h = lt-ltb l (suc (a / c)) (suc-le-suc (le_trans (le_of_suc-le-suc small) ((le-div_iff_mul-le C).1 (less c a C h))))
    where
      less : (c a : ℕ) → 0 < c → 2 ^ 64 * c ≤ suc a → (2 ^ 64 - 1) * c ≤ a
      less c a C h = omega arith

  within_inf : (s : Bool) → within_limit l (inf s) ≡ false
  unfolding within_limit
  within_inf s = refl

  -- ---- so the floor of the product is that of x * 2 ^ k: where the product overflows, both are beyond the limit
  module _ (s : Bool) (m : ℕ) (e : ℤ) (k : ℕ) (t : T (fits binary64 (fin s m e))) where
    overflow_far : 2 ^ 1024 * down e ≤ m * up e * 2 ^ k → beyond l (floor_div (signed s (m * up e * 2 ^ k)) (down e)) ≡ true
    overflow_far h = far_floor s (m * up e * 2 ^ k) (down e) (down_pos e) (le_trans (mul-le-mul_right (down e) (lit≤ tt)) h)

    pub product_within : within_limit l (mul binary64 (fin s m e) (power k)) ≡ not (beyond l (floor_of (fin s m e) k))
    unfolding floor_of
    product_within = go (dec_le (2 ^ 1024 * down e) (m * up e * 2 ^ k))
      where
        go : Dec (2 ^ 1024 * down e ≤ m * up e * 2 ^ k) → within_limit l (mul binary64 (fin s m e) (power k)) ≡ not (beyond l (floor_div (signed s (m * up e * 2 ^ k)) (down e)))
        go (yes h) = ap (within_limit l) (product_overflows s m e k h) ∙ within_inf s ∙ ap not (sym (overflow_far h))
        go (no h) = within_of_value l (mul binary64 (fin s m e) (power k)) s (m * up e * 2 ^ k) (down e) (down_pos e) (product_exact binary64 s m e k t (lt_of_not-le h))

    pub product_floor : beyond l (floor_of (fin s m e) k) ≡ false → floor_at (mul binary64 (fin s m e) (power k)) ≡ floor_of (fin s m e) k
    unfolding floor_of
    product_floor b = go (dec_le (2 ^ 1024 * down e) (m * up e * 2 ^ k))
      where
        go : Dec (2 ^ 1024 * down e ≤ m * up e * 2 ^ k) → floor_at (mul binary64 (fin s m e) (power k)) ≡ floor_div (signed s (m * up e * 2 ^ k)) (down e)
        go (yes h) = absurd (true≢false (sym (overflow_far h) ∙ b))
        go (no h) = floor_of_value (mul binary64 (fin s m e) (power k)) s (m * up e * 2 ^ k) (down e) (down_pos e) (product_exact binary64 s m e k t (lt_of_not-le h))

-- ---- 2 ^ f, for a small f, as a double
power_fits : (f : ℕ) → f ≤ 30 → T (fits binary64 (power f))
unfolding fits
power_fits f h = lt→ltb (1 * 2 ^ f) (2 ^ 1024 * 1) (lt_of_le_of_lt (le_of_eq (one-mul (2 ^ f))) (lt_of_le_of_lt (pow_mono h) (lit< tt)))

pub power_is : (f : ℕ) → f ≤ 30 → of_int binary64 (pos (2 ^ f)) ≡ power f
unfolding of_int
power_is f h =
    whole_unique binary64 (round binary64 false (2 ^ f) 1) (power f) false (2 ^ f) (of_int-fits binary64 (pos (2 ^ f))) (power_fits f h)
    (round_whole binary64 false (2 ^ f) (le_trans (pow_mono h) (lit≤ tt)))
    (refl, ap (λ (x : ℕ). x * 1) (one-mul (2 ^ f)))
