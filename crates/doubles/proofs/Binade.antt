-- Where a format's values are the multiples of 2 ^ k, one after the other: from 2 ^ (prec - 1 + k) to 2 ^ (prec + k). What rounding gives there, and that bit patterns count on with the values. Assumes nothing.
use Rattle.std.proofs.Common.{◌≡◌, ℕ, suc, ◌+◌, ◌-◌, ◌*◌, ◌/◌, ◌%◌, ◌^◌, ◌<◌, ◌≤◌, true, false, T, sym, ap, ◌∙◌, subst, true≢false, le_trans, le_of_eq, lt_of_lt_of_le, lt_of_le_of_lt, mul-le-mul_right, mul_assoc, mul_comm, div-lt_iff_lt-mul, add_comm, mul-lt-mul_of_pos_right, mul-pos, lt_of_not-le, le-div_iff_mul-le, zero-add, mul-one, mul_right_comm, not-le_of_lt, mul-div_cancel, arith, lit<, pow_pos, pow_mono, pow-add}
use Prim.Native.Nat.{compare, Ordering}
use native.Mathlib.Nat.{mul-div-mul_right, eq_of_mul-eq-mul_right}
use lib.Pow.{pow-lt}
use lib.Ieee.{Float, nan, inf, fin, Format, binary32, binary64, prec, emax, low, up, down, hid, size, nearest, units, round, fits, to_bits, of_bits}
use lib.Ieee.Bits.{of_bits-to_bits}
use lib.Ieee.Digits.{size-lt, size-le}
use lib.Ieee.Fits.{core, round_is, nearest-le, down_pos}
use lib.Ieee.Nearest.{nearest-ge}
use lib.Ieee.Exact.{HasValue, units_val}

size_is : (p l n : ℕ) → 0 < p → 2 ^ (p - 1 + l) ≤ n → n < 2 ^ (p + l) → size n - p ≡ l
size_is p l n P h g = both (size n) (more (size n) (size-lt n)) (size-le n (p + l) g)
  where
    more : (z : ℕ) → n < 2 ^ z → p - 1 + l < z
    more z k = lt_of_not-le (λ (q : z ≤ p - 1 + l). not-le_of_lt (lt_of_lt_of_le k (pow_mono q)) h)

    both : (z : ℕ) → p - 1 + l < z → z ≤ p + l → z - p ≡ l
    both z x y = omega arith

prec_pos : (b : Format) → 0 < prec b
prec_pos binary32 = lit< tt
prec_pos binary64 = lit< tt

unscale : (x : Float) (q l : ℕ) → 0 < l → HasValue x false (q * l) l → HasValue x false q 1
unscale nan q l L h = h
unscale (inf t) q l L h = h
unscale (fin t m e) q l L h = (h.0, mul-one (m * up e) ∙ eq_of_mul-eq-mul_right l L (m * up e) (q * down e) (h.1 ∙ mul_right_comm q l (down e)))

-- a / c lies there
pub record Within (b : Format) (k a c : ℕ) : Type 0 where
  pub from : 2 ^ (prec b - 1 + k) * c ≤ a
  pub to : a < 2 ^ (prec b + k) * c

module _ (b : Format) (k : ℕ) where
  -- in units of the format's smallest value, 2 ^ k is 2 ^ (low + k)
  power_of : (i : ℕ) → 2 ^ (i + (low b + k)) ≡ 2 ^ (i + k) * 2 ^ low b
  power_of i = ap (λ (n : ℕ). 2 ^ n) (moved i (low b) k) ∙ pow-add 2 (i + k) (low b)
    where
      moved : (i l k : ℕ) → i + (l + k) ≡ i + k + l
      moved i l k = omega arith

  scaled : (q : ℕ) → q * 2 ^ (low b + k) ≡ q * 2 ^ k * 2 ^ low b
  scaled q = ap (λ (n : ℕ). q * n) (ap (λ (n : ℕ). 2 ^ n) (add_comm (low b) k) ∙ pow-add 2 k (low b)) ∙ sym (mul_assoc q (2 ^ k) (2 ^ low b))

  units_from : (a c : ℕ) → Within b k a c → 2 ^ (prec b - 1 + (low b + k)) * c ≤ a * 2 ^ low b
  units_from a c h = le_trans (le_of_eq (ap (λ (x : ℕ). x * c) (power_of (prec b - 1)) ∙ mul_right_comm (2 ^ (prec b - 1 + k)) (2 ^ low b) c)) (mul-le-mul_right (2 ^ low b) h.from)

  units_to : (a c : ℕ) → Within b k a c → a * 2 ^ low b < 2 ^ (prec b + (low b + k)) * c
  units_to a c h = lt_of_lt_of_le (mul-lt-mul_of_pos_right h.to (pow_pos (low b))) (le_of_eq (mul_right_comm (2 ^ (prec b + k)) c (2 ^ low b) ∙ ap (λ (x : ℕ). x * c) (sym (power_of (prec b)))))

  drops : (a c : ℕ) → 0 < c → Within b k a c → size (a * 2 ^ low b / c) - prec b ≡ low b + k
  drops a c C h = size_is (prec b) (low b + k) (a * 2 ^ low b / c) (prec_pos b) ((le-div_iff_mul-le C).1 (units_from a c h)) ((div-lt_iff_lt-mul C).1 (units_to a c h))

  -- x is a multiple of 2 ^ k, the one below a / c or the next
  pub record Multiple (x : Float) (a c : ℕ) : Type 0 where
    pub number : ℕ
    pub value : HasValue x false (number * 2 ^ k) 1
    pub least : a / (c * 2 ^ k) ≤ number
    pub most : number ≤ suc (a / (c * 2 ^ k))

  pub round_within : (a c : ℕ) → 0 < c → prec b + k ≤ emax b → Within b k a c → Multiple (round b false a c) a c
  round_within a c C room h =
      let u : ℕ = c * 2 ^ (low b + k) in
      let o : Ordering = compare (a * 2 ^ low b % u * 2) u in
      let q : ℕ = nearest (a / (c * 2 ^ k)) o in
      let is : round b false a c ≡ units b false q (low b + k) =
      round_is b false a c
      ∙ ap (λ (j : ℕ). core b false (a * 2 ^ low b) c j) (drops a c C h)
      ∙ ap (λ (x : ℕ). units b false (nearest x o) (low b + k)) (ap (λ (x : ℕ). a * 2 ^ low b / x) (scaled c) ∙ mul-div-mul_right a (c * 2 ^ k) (pow_pos (low b))) in
      let few : q ≤ 2 ^ prec b = le_trans (nearest-le (a / (c * 2 ^ k)) o) ((div-lt_iff_lt-mul (mul-pos C (pow_pos k))).1 (lt_of_lt_of_le h.to (le_of_eq (ap (λ (x : ℕ). x * c) (pow-add 2 (prec b) k) ∙ mul_assoc (2 ^ prec b) (2 ^ k) c ∙ ap (λ (x : ℕ). 2 ^ prec b * x) (mul_comm (2 ^ k) c))))) in
      let under : q * 2 ^ (low b + k) < 2 ^ (low b + suc (emax b)) =
      lt_of_le_of_lt (mul-le-mul_right (2 ^ (low b + k)) few) (lt_of_le_of_lt (le_of_eq (sym (pow-add 2 (prec b) (low b + k)))) (pow-lt (sums (prec b) (low b) k (emax b) room))) in
      record {
        number = q;
        value = subst (λ (x : Float). HasValue x false (q * 2 ^ k) 1) (sym is) (unscale (units b false q (low b + k)) (q * 2 ^ k) (2 ^ low b) (pow_pos (low b)) (subst (λ (x : ℕ). HasValue (units b false q (low b + k)) false x (2 ^ low b)) (scaled q) (units_val b false q (low b + k) under)));
        least = nearest-ge (a / (c * 2 ^ k)) o;
        most = nearest-le (a / (c * 2 ^ k)) o;
      }
    where
      sums : (p l k e : ℕ) → p + k ≤ e → p + (l + k) < l + suc e
      sums p l k e h = omega arith

  -- its bit pattern
  pub pattern : (x : Float) (q : ℕ) → HasValue x false (q * 2 ^ k) 1 → Within b k (q * 2 ^ k) 1 → to_bits b x ≡ (low b + k) * hid b + q
  unfolding to_bits
  pattern nan q h w = absurd h
  pattern (inf s) q h w = absurd h
  pattern (fin true m e) q h w = absurd (true≢false h.0)
  pattern (fin false m e) q h w =
      let v : ℕ = q * 2 ^ k in
      let n : m * up e * 2 ^ low b / down e ≡ v * 2 ^ low b =
      ap (λ (x : ℕ). x * 2 ^ low b / down e) (sym (mul-one (m * up e)) ∙ h.1) ∙ ap (λ (x : ℕ). x / down e) (mul_right_comm v (down e) (2 ^ low b)) ∙ mul-div_cancel (v * 2 ^ low b) (down_pos e) in
      let d : size (v * 2 ^ low b) - prec b ≡ low b + k =
      size_is (prec b) (low b + k) (v * 2 ^ low b) (prec_pos b) (le_trans (le_of_eq (sym (mul-one (2 ^ (prec b - 1 + (low b + k)))))) (units_from v 1 w)) (lt_of_lt_of_le (units_to v 1 w) (le_of_eq (mul-one (2 ^ (prec b + (low b + k)))))) in
      ap (λ (x : ℕ). 0 + (size x - prec b) * hid b + x / 2 ^ (size x - prec b)) n
      ∙ ap (λ (x : ℕ). 0 + x * hid b + v * 2 ^ low b / 2 ^ x) d
      ∙ ap (λ (x : ℕ). x + v * 2 ^ low b / 2 ^ (low b + k)) (zero-add ((low b + k) * hid b))
      ∙ ap (λ (x : ℕ). (low b + k) * hid b + x) (ap (λ (x : ℕ). x / 2 ^ (low b + k)) (sym (scaled q)) ∙ mul-div_cancel q (pow_pos (low b + k)))

  -- and what has that pattern
  pub of_pattern : (x : Float) (q : ℕ) → T (fits b x) → HasValue x false (q * 2 ^ k) 1 → Within b k (q * 2 ^ k) 1 → HasValue (of_bits b ((low b + k) * hid b + q)) false (q * 2 ^ k) 1
  of_pattern x q t h w = subst (λ (y : Float). HasValue y false (q * 2 ^ k) 1) (sym (ap (of_bits b) (sym (pattern x q h w)) ∙ of_bits-to_bits b x t)) h
