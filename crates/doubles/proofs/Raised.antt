-- The sum of a double w and M = 3 * 2 ^ (51 + k), for a w below 2 ^ (50 + k) in size: the multiple of 2 ^ k below w + M, or the next. Its bit pattern counts it, and taking M off again is exact. Assumes nothing.
use Rattle.std.proofs.Common.{◌≡◌, ℕ, suc, ◌+◌, ◌-◌, ◌*◌, ◌/◌, ◌^◌, ◌<◌, ◌≤◌, Bool, true, false, not, T, ℤ, pos, sym, refl, ap, ◌∙◌, subst, inl, inr, le_trans, le_of_eq, lt_of_lt_of_le, lt_of_le_of_lt, mul-le-mul_right, zero-lt-suc, mul_assoc, mul_comm, div-lt_iff_lt-mul, mul-lt-mul_of_pos_right, mul-pos, one-mul, le-div_iff_mul-le, zero-add, mul-one, arith, lit<, lit≤, pow_pos, pow_mono, pow-add, shl_lt}
use lib.Ieee.{Float, nan, inf, fin, binary64, up, down, round, add, sub, is_nan, to_bits}
use lib.Ieee.Exact.{HasValue, round_exact}
use Rattle.doubles.proofs.Minus.{sub_mul, Minus, over, under, widened, Holds, add_back, sub_minus}
use Rattle.doubles.proofs.Binade.{Within, round_within, pattern}

-- ---- a double of the sign s and the size a / c is the z / c that is added to it less than this over c
abbrev pub shifted : Bool → (a z : ℕ) → ℕ
shifted false a z = z + a
shifted true a z = z - a

pub own_minus : (s : Bool) (m : ℕ) (e : ℤ) (z : ℕ) → m * up e ≤ z → Minus (fin s m e) (shifted s (m * up e) z) z (down e)
own_minus false m e z h = over (m * up e) refl (refl, refl)
own_minus true m e z h = under (m * up e) (omega arith) (refl, refl)

pub shifted_least : (s : Bool) (a z : ℕ) → z - a ≤ shifted s a z
shifted_least false a z = omega arith
shifted_least true a z = omega arith

pub shifted_most : (s : Bool) (a z : ℕ) → shifted s a z ≤ z + a
shifted_most false a z = omega arith
shifted_most true a z = omega arith

-- ---- a multiple of 2 ^ k with few digits is a double
pub multiple_exact : (s : Bool) (d k : ℕ) → d < 2 ^ 53 → 53 + k ≤ 1023 → HasValue (round binary64 s (d * 2 ^ k) 1) s (d * 2 ^ k) 1
multiple_exact s d k h g =
    round_exact binary64 s (d * 2 ^ k) 1 d (k + 1074) (zero-lt-suc 0) h
    (lt_of_lt_of_le (shl_lt 53 (k + 1074) h) (pow_mono (room k g)))
    (mul_assoc d (2 ^ k) (2 ^ 1074) ∙ ap (λ (x : ℕ). d * x) (sym (pow-add 2 k 1074)) ∙ sym (mul-one (d * 2 ^ (k + 1074))))
  where
    room : (k : ℕ) → 53 + k ≤ 1023 → 53 + (k + 1074) ≤ 2098
    room k h = omega arith

pub a_number : (x : Float) (s : Bool) (q c : ℕ) → HasValue x s q c → T (not (is_nan x))
unfolding is_nan
a_number nan s q c h = absurd h
a_number (inf t) s q c h = absurd h
a_number (fin t m e) s q c h = tt

module _ (k : ℕ) where
  abbrev pub middle : ℕ
  middle = 3 * 2 ^ (51 + k)

  abbrev pub raised : Float → Float
  raised w = add binary64 w (fin false 3 (pos (51 + k)))

  abbrev pub lowered : Float → Float
  lowered w = sub binary64 (raised w) (fin false 3 (pos (51 + k)))

  pub record Raised (w : Float) (n c : ℕ) : Type 0 where
    pub number : ℕ
    pub value : HasValue (raised w) false (number * 2 ^ k) 1
    pub is : raised w ≡ round binary64 false n c
    pub bits : to_bits binary64 (raised w) ≡ (1074 + k) * 2 ^ 52 + number
    pub least : n / (c * 2 ^ k) ≤ number
    pub most : number ≤ 1 + n / (c * 2 ^ k)
    pub many : 2 ^ 52 ≤ number
    pub few : number ≤ 7881299347898368
    pub back : Minus (lowered w) (number * 2 ^ k * c) (middle * c) c

  middle_is : middle ≡ 3 * 2 ^ 51 * 2 ^ k
  middle_is = ap (λ (x : ℕ). 3 * x) (pow-add 2 51 k) ∙ sym (mul_assoc 3 (2 ^ 51) (2 ^ k))

  power_is : (j c : ℕ) → 2 ^ (j + k) * c ≡ 2 ^ j * (c * 2 ^ k)
  power_is j c = ap (λ (x : ℕ). x * c) (pow-add 2 j k) ∙ mul_assoc (2 ^ j) (2 ^ k) c ∙ ap (λ (x : ℕ). 2 ^ j * x) (mul_comm (2 ^ k) c)

  -- 2 ^ 52 ≤ q < 2 ^ 53, as multiples of 2 ^ k
  pub number_within : (q : ℕ) → 2 ^ 52 ≤ q → q < 2 ^ 53 → Within binary64 k (q * 2 ^ k) 1
  number_within q h g = record {
    from = le_trans (le_of_eq (power_is 52 1 ∙ ap (λ (x : ℕ). 2 ^ 52 * x) (one-mul (2 ^ k)))) (mul-le-mul_right (2 ^ k) h);
    to = lt_of_lt_of_le (mul-lt-mul_of_pos_right g (pow_pos k)) (le_of_eq (sym (power_is 53 1 ∙ ap (λ (x : ℕ). 2 ^ 53 * x) (one-mul (2 ^ k)))));
  }

  -- the distance of two multiples
  eq_sub : (a b v : ℕ) → a * 2 ^ k ≡ b * 2 ^ k + v → v ≡ (a - b) * 2 ^ k
  eq_sub a b v h = taken (a * 2 ^ k) (b * 2 ^ k) v h ∙ sym (sub_mul a b (2 ^ k))
    where
      taken : (x y v : ℕ) → x ≡ y + v → v ≡ x - y
      taken x y v h = omega arith

  pub multiples_hold : (q z : ℕ) → 53 + k ≤ 1023 → q < 2 ^ 53 → z < 2 ^ 53 → Holds binary64 (q * 2 ^ k) (z * 2 ^ k) 1
  multiples_hold q z K h g s v (inl e) = subst (λ (x : ℕ). HasValue (round binary64 s x 1) s x 1) (sym (eq_sub q z v e)) (multiple_exact s (q - z) k (omega arith) K)
  multiples_hold q z K h g s v (inr e) = subst (λ (x : ℕ). HasValue (round binary64 s x 1) s x 1) (sym (eq_sub z q v e)) (multiple_exact s (z - q) k (omega arith) K)

  pub raise : (w : Float) (n c : ℕ) → 0 < c → 53 + k ≤ 1023 → 2 ^ 52 * (c * 2 ^ k) ≤ n → n < 7881299347898368 * (c * 2 ^ k) → Minus w n (middle * c) c → Raised w n c
  raise w n c C K lo hi h =
      let D : 0 < c * 2 ^ k = mul-pos C (pow_pos k) in
      let in-range : Within binary64 k n c = record { from = le_trans (le_of_eq (power_is 52 c)) lo; to = lt_of_lt_of_le hi (le_trans (mul-le-mul_right (c * 2 ^ k) (lit≤ tt)) (le_of_eq (sym (power_is 53 c)))) } in
      let m = round_within binary64 k n c C K in-range in
      let q : ℕ = m.number in
      let f : ℕ = n / (c * 2 ^ k) in
      let lo' : 2 ^ 52 ≤ f = (le-div_iff_mul-le D).1 lo in
      let hi' : f < 7881299347898368 = (div-lt_iff_lt-mul D).1 hi in
      let is : raised w ≡ round binary64 false n c = add_back binary64 w (fin false 3 (pos (51 + k))) c C n (middle * c) h (refl, sym (mul-one (middle * c))) in
      let v : HasValue (raised w) false (q * 2 ^ k) 1 = subst (λ (x : Float). HasValue x false (q * 2 ^ k) 1) (sym is) m.value in
      let many : 2 ^ 52 ≤ q = le_trans lo' m.least in
      let few : q ≤ 7881299347898368 = bound f q hi' m.most in
      record {
        number = q;
        value = v;
        is = is;
        bits = pattern binary64 k (raised w) q v (number_within q many (lt_of_le_of_lt few (lit< tt)));
        least = m.least;
        most = bound' f q m.most;
        many = many;
        few = few;
        back = subst (λ (x : ℕ). Minus (lowered w) (q * 2 ^ k * c) (middle * c) x) (one-mul c)
            (widened (lowered w) (q * 2 ^ k) middle 1 c
            (sub_minus binary64 (raised w) (fin false 3 (pos (51 + k))) 1 (zero-lt-suc 0) (q * 2 ^ k) middle 0 (subst (λ (x : ℕ). Holds binary64 (q * 2 ^ k) x 1) (sym middle_is) (multiples_hold q (3 * 2 ^ 51) K (lt_of_le_of_lt few (lit< tt)) (lit< tt))) (over (q * 2 ^ k) (sym (zero-add (q * 2 ^ k))) v) (over middle (sym (zero-add middle)) (refl, refl))));
      }
    where
      bound : (f q : ℕ) → f < 7881299347898368 → q ≤ suc f → q ≤ 7881299347898368
      bound f q h g = omega arith

      bound' : (f q : ℕ) → q ≤ suc f → q ≤ 1 + f
      bound' f q h = omega arith
