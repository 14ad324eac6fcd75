-- A double as a difference of two natural numbers over a denominator: what sums, differences and comparisons of such doubles are, with no case on a sign. Assumes nothing.
use Rattle.std.proofs.Common.{◌≡◌, ℕ, zero, suc, ◌+◌, ◌-◌, ◌*◌, ◌/◌, ◌%◌, ◌<◌, ◌≤◌, Bool, true, false, cond, not, ◌&&◌, ltb, ◌⊎◌, sym, refl, ap, ◌∙◌, subst, inl, inr, lt_of_le_of_lt, add-zero, mod-lt, mul_assoc, suc-mul, mul_comm, add-mul, add_comm, lt_of_mul-lt-mul_right, mul-pos, one-mul, div-add-mod', zero-add, zero-mul, mul_right_comm, div-mul-le_self, mul-div_cancel, arith, ltb→lt, lt→ltb, ltb-false, ltb-true, le-ltb, lt-ltb}
use mathlib.Core.Bool.{beq}
use native.Mathlib.Nat.{mul-sub, zero-div, add-mul-div_right, lt-div-mul-add, div-eq_of_lt-le, mod-add-mod, add-mul-mod_self_right}
use lib.Ieee.{Float, nan, inf, fin, Format, up, down, round, neg, add, sub, sum, below, lt}
use lib.Ieee.Fits.{down_pos}
use lib.Ieee.Exact.{HasValue}
use lib.Ieee.Scale.{round_same}
use Rattle.doubles.specs.Doubles.{floor_div, mod_p}
use Rattle.doubles.specs.Steps.{floor_mod}
use Rattle.doubles.proofs.Laws.{floor_of_value}
use Rattle.doubles.proofs.Floor.{alike, ltb_scale}

pub sub_mul : (m n k : ℕ) → (m - n) * k ≡ m * k - n * k
sub_mul m n k = mul_comm (m - n) k ∙ mul-sub k m n ∙ ap (λ (i : ℕ). i - k * n) (mul_comm k m) ∙ ap (λ (i : ℕ). m * k - i) (mul_comm k n)

-- ---- sums and comparisons go by the values: x / d and y / d are a / c and b / c
module _ (c d a b x y : ℕ) (C : 0 < c) (D : 0 < d) (e : x * c ≡ a * d) (g : y * c ≡ b * d) where
  both : (x + y) * c ≡ (a + b) * d
  both = add-mul x y c ∙ ap (λ (n : ℕ). n + y * c) e ∙ ap (λ (n : ℕ). a * d + n) g ∙ sym (add-mul a b d)

  order : ltb x y ≡ ltb a b
  order = sym (ltb_scale x y c C) ∙ ap (λ (n : ℕ). ltb n (y * c)) e ∙ ap (λ (n : ℕ). ltb (a * d) n) g ∙ ltb_scale a b d D

  rest : (x - y) * c ≡ (a - b) * d
  rest = sub_mul x y c ∙ ap (λ (n : ℕ). n - y * c) e ∙ ap (λ (n : ℕ). a * d - n) g ∙ sym (sub_mul a b d)

sum_same : (f : Format) (s t : Bool) (c d a b x y : ℕ) → 0 < c → 0 < d → x * c ≡ a * d → y * c ≡ b * d → sum f s x t y d ≡ sum f s a t b c
unfolding sum
sum_same f s t c d a b x y C D e g =
    ap (λ (z : Float). cond (beq s t) z (cond (ltb x y) (round f t (y - x) d) (round f (s && ltb y x) (x - y) d))) (round_same f s (x + y) d (a + b) c D C (both c d a b x y C D e g))
    ∙ ap (λ (z : Bool). cond (beq s t) (round f s (a + b) c) (cond z (round f t (y - x) d) (round f (s && ltb y x) (x - y) d))) (order c d a b x y C D e g)
    ∙ ap (λ (z : Bool). cond (beq s t) (round f s (a + b) c) (cond (ltb a b) (round f t (y - x) d) (round f (s && z) (x - y) d))) (order c d b a y x C D g e)
    ∙ ap (λ (z : Float). cond (beq s t) (round f s (a + b) c) (cond (ltb a b) z (round f (s && ltb b a) (x - y) d))) (round_same f t (y - x) d (b - a) c D C (rest c d b a y x C D g e))
    ∙ ap (λ (z : Float). cond (beq s t) (round f s (a + b) c) (cond (ltb a b) (round f t (b - a) c) z)) (round_same f (s && ltb b a) (x - y) d (a - b) c D C (rest c d a b x y C D e g))

below_same : (s t : Bool) (c d a b x y : ℕ) → 0 < c → 0 < d → x * c ≡ a * d → y * c ≡ b * d → below s x t y ≡ below s a t b
below_same false false c d a b x y C D e g = order c d a b x y C D e g
below_same false true c d a b x y C D e g = refl
below_same true false c d a b x y C D e g = order c d 0 (a + b) 0 (x + y) C D (zero-mul c ∙ sym (zero-mul d)) (both c d a b x y C D e g)
below_same true true c d a b x y C D e g = order c d b a y x C D g e

-- over one denominator, the product of the two
left_over : (n u d e c a : ℕ) → n * u * c ≡ a * d → n * u * e * c ≡ a * (d * e)
left_over n u d e c a h = mul_right_comm (n * u) e c ∙ ap (λ (z : ℕ). z * e) h ∙ mul_assoc a d e

right_over : (n u d e c a : ℕ) → n * u * c ≡ a * e → n * u * d * c ≡ a * (d * e)
right_over n u d e c a h = left_over n u e d c a h ∙ ap (λ (z : ℕ). a * z) (mul_comm e d)

module _ (f : Format) (s t : Bool) (a b c : ℕ) (C : 0 < c) where
  add_values : (x y : Float) → HasValue x s a c → HasValue y t b c → add f x y ≡ sum f s a t b c
  unfolding add
  add_values nan y h g = absurd h
  add_values (inf i) y h g = absurd h
  add_values (fin i m e) nan h g = absurd g
  add_values (fin i m e) (inf j) h g = absurd g
  add_values (fin i m e) (fin j n d) h g =
      ap (λ (z : Bool). sum f z (m * up e * down d) j (n * up d * down e) (down e * down d)) h.0
      ∙ ap (λ (z : Bool). sum f s (m * up e * down d) z (n * up d * down e) (down e * down d)) g.0
      ∙ sum_same f s t c (down e * down d) a b _ _ C (mul-pos (down_pos e) (down_pos d)) (left_over m (up e) (down e) (down d) c a h.1) (right_over n (up d) (down e) (down d) c b g.1)

module _ (s t : Bool) (a b c : ℕ) (C : 0 < c) where
  lt_values : (x y : Float) → HasValue x s a c → HasValue y t b c → lt x y ≡ below s a t b
  unfolding lt
  lt_values nan y h g = absurd h
  lt_values (inf i) y h g = absurd h
  lt_values (fin i m e) nan h g = absurd g
  lt_values (fin i m e) (inf j) h g = absurd g
  lt_values (fin i m e) (fin j n d) h g =
      ap (λ (z : Bool). below z (m * up e * down d) j (n * up d * down e)) h.0
      ∙ ap (λ (z : Bool). below s (m * up e * down d) z (n * up d * down e)) g.0
      ∙ below_same s t c (down e * down d) a b _ _ C (mul-pos (down_pos e) (down_pos d)) (left_over m (up e) (down e) (down d) c a h.1) (right_over n (up d) (down e) (down d) c b g.1)

neg_value : (y : Float) (t : Bool) (b c : ℕ) → HasValue y t b c → HasValue (neg y) (not t) b c
unfolding neg
neg_value nan t b c h = h
neg_value (inf i) t b c h = h
neg_value (fin i m e) t b c h = (ap not h.0, h.1)

sub_values : (f : Format) (s t : Bool) (a b c : ℕ) → 0 < c → (x y : Float) → HasValue x s a c → HasValue y t b c → sub f x y ≡ sum f s a (not t) b c
unfolding sub
sub_values f s t a b c C x y h g = add_values f s (not t) a b c C x (neg y) h (neg_value y t b c g)

-- ---- x is (n - z) / c: a zero with either sign
pub data Minus (x : Float) (n z c : ℕ) : Type 0 where
  over : (v : ℕ) → n ≡ z + v → HasValue x false v c → Minus x n z c
  under : (v : ℕ) → z ≡ n + v → HasValue x true v c → Minus x n z c

-- over another denominator
more_over : (x : Float) (s : Bool) (v c k : ℕ) → HasValue x s v c → HasValue x s (v * k) (c * k)
more_over nan s v c k h = h
more_over (inf t) s v c k h = h
more_over (fin t m e) s v c k h = (h.0, sym (mul_assoc (m * up e) c k) ∙ ap (λ (z : ℕ). z * k) h.1 ∙ mul_right_comm v (down e) k)

pub widened : (x : Float) (n z c k : ℕ) → Minus x n z c → Minus x (n * k) (z * k) (c * k)
widened x n z c k (over v e h) = over (v * k) (ap (λ (i : ℕ). i * k) e ∙ add-mul z v k) (more_over x false v c k h)
widened x n z c k (under v e h) = under (v * k) (ap (λ (i : ℕ). i * k) e ∙ add-mul n v k) (more_over x true v c k h)

-- n / c - z / c rounded, for n and z over c
abbrev pub round_minus : Format → (n z c : ℕ) → Float
round_minus f n z c = cond (ltb n z) (round f true (z - n) c) (round f false (n - z) c)

not_below : (f : Format) (n z c v : ℕ) → z ≤ n → v ≡ n - z → round f false v c ≡ round_minus f n z c
not_below f n z c v h e = ap (λ (i : ℕ). round f false i c) e ∙ ap (λ (t : Bool). cond t (round f true (z - n) c) (round f false (n - z) c)) (sym (le-ltb n z h))

is_below : (f : Format) (n z c v : ℕ) → n < z → v ≡ z - n → round f true v c ≡ round_minus f n z c
is_below f n z c v h e = ap (λ (i : ℕ). round f true i c) e ∙ ap (λ (t : Bool). cond t (round f true (z - n) c) (round f false (n - z) c)) (sym (lt-ltb n z h))

-- the format holds (n - m) / c
abbrev pub Holds : Format → (n m c : ℕ) → Type 0
Holds f n m c = (s : Bool) (v : ℕ) → (n ≡ m + v) ⊎ (m ≡ n + v) → HasValue (round f s v c) s v c

held_over : (f : Format) (n m c v : ℕ) → Holds f n m c → n ≡ m + v → Minus (round f false v c) n m c
held_over f n m c v E e = over v e (E false v (inl e))

held_under : (f : Format) (n m c v : ℕ) → Holds f n m c → m ≡ n + v → Minus (round f true v c) n m c
held_under f n m c v E e = under v e (E true v (inr e))

module _ (f : Format) (x y : Float) (c : ℕ) (C : 0 < c) where
  -- the sum with b / c is one rounding
  pub add_minus : (n z b : ℕ) → Minus x n z c → HasValue y false b c → add f x y ≡ round_minus f (n + b) z c
  add_minus n z b (over v e h) g = add_values f false false v b c C x y h g ∙ (unfold sum in not_below f (n + b) z c (v + b) (omega arith) (omega arith))
  add_minus n z b (under v e h) g = add_values f true false v b c C x y h g ∙ (unfold sum in go (ltb v b) (ltb b v) (ltb-true v b) (ltb-false v b) (ltb-true b v) (ltb-false b v))
    where
      go : (i j : Bool) → (i ≡ true → v < b) → (i ≡ false → b ≤ v) → (j ≡ true → b < v) → (j ≡ false → v ≤ b)
          → cond i (round f false (b - v) c) (round f (true && j) (v - b) c) ≡ round_minus f (n + b) z c
      go true j p q r t = let k = p refl in not_below f (n + b) z c (b - v) (omega arith) (omega arith)
      go false true p q r t = let k = r refl in is_below f (n + b) z c (v - b) (omega arith) (omega arith)
      go false false p q r t =
          let k = q refl in
          let l = t refl in
          not_below f (n + b) z c (v - b) (omega arith) (omega arith)

  -- and none where b is what was taken off
  pub add_back : (n z : ℕ) → Minus x n z c → HasValue y false z c → add f x y ≡ round f false n c
  add_back n z h g = add_minus n z z h g ∙ sym (not_below f (n + z) z c n (omega arith) (omega arith))

  -- the difference, where the format holds it
  pub sub_minus : (n m z : ℕ) → Holds f n m c → Minus x n z c → Minus y m z c → Minus (sub f x y) n m c
  sub_minus n m z E (over a e h) (over b i g) = subst (λ (w : Float). Minus w n m c) (sym (sub_values f false false a b c C x y h g)) (unfold sum in go (ltb a b) (ltb-true a b) (ltb-false a b))
    where
      go : (j : Bool) → (j ≡ true → a < b) → (j ≡ false → b ≤ a) → Minus (cond j (round f true (b - a) c) (round f false (a - b) c)) n m c
      go true p q = let k = p refl in held_under f n m c (b - a) E (omega arith)
      go false p q = let k = q refl in held_over f n m c (a - b) E (omega arith)
  sub_minus n m z E (over a e h) (under b i g) = subst (λ (w : Float). Minus w n m c) (sym (sub_values f false true a b c C x y h g)) (unfold sum in held_over f n m c (a + b) E (omega arith))
  sub_minus n m z E (under a e h) (over b i g) = subst (λ (w : Float). Minus w n m c) (sym (sub_values f true false a b c C x y h g)) (unfold sum in held_under f n m c (a + b) E (omega arith))
  sub_minus n m z E (under a e h) (under b i g) = subst (λ (w : Float). Minus w n m c) (sym (sub_values f true true a b c C x y h g)) (unfold sum in go (ltb a b) (ltb b a) (ltb-true a b) (ltb-false a b) (ltb-true b a) (ltb-false b a))
    where
      go : (j k : Bool) → (j ≡ true → a < b) → (j ≡ false → b ≤ a) → (k ≡ true → b < a) → (k ≡ false → a ≤ b)
          → Minus (cond j (round f false (b - a) c) (round f (true && k) (a - b) c)) n m c
      go true k p q r t = let o = p refl in held_over f n m c (b - a) E (omega arith)
      go false true p q r t = let o = r refl in held_under f n m c (a - b) E (omega arith)
      go false false p q r t =
          let o = q refl in
          let l = t refl in
          held_over f n m c (a - b) E (omega arith)

-- x is below y just where n is below m
pub lt_minus : (x y : Float) (n m z c : ℕ) → 0 < c → Minus x n z c → Minus y m z c → lt x y ≡ ltb n m
lt_minus x y n m z c C (over a e h) (over b i g) =
    lt_values false false a b c C x y h g ∙ alike (ltb a b) (ltb n m) (λ t. let k = ltb→lt a b t in lt→ltb n m (omega arith)) (λ t. let k = ltb→lt n m t in lt→ltb a b (omega arith))
lt_minus x y n m z c C (over a e h) (under b i g) = lt_values false true a b c C x y h g ∙ sym (le-ltb n m (omega arith))
lt_minus x y n m z c C (under a e h) (over b i g) =
    lt_values true false a b c C x y h g ∙ alike (ltb 0 (a + b)) (ltb n m) (λ t. let k = ltb→lt 0 (a + b) t in lt→ltb n m (omega arith)) (λ t. let k = ltb→lt n m t in lt→ltb 0 (a + b) (omega arith))
lt_minus x y n m z c C (under a e h) (under b i g) =
    lt_values true true a b c C x y h g ∙ alike (ltb b a) (ltb n m) (λ t. let k = ltb→lt b a t in lt→ltb n m (omega arith)) (λ t. let k = ltb→lt n m t in lt→ltb b a (omega arith))

-- ---- the floor: that of (n - z · c) / c is n / c - z, modulo p

-- below zero: z · c is n + a + 1
module _ (n z c a : ℕ) (C : 0 < c) (e : z * c ≡ n + suc a) where
  few : a / c < z
  few = lt_of_mul-lt-mul_right c (lt_of_le_of_lt (div-mul-le_self a c) (omega arith))

  floor_below : n / c ≡ z - 1 - a / c
  floor_below = div-eq_of_lt-le c (lower (a / c) (z - 1 - a / c) parts (lt-div-mul-add C)) (upper (a / c) (z - 1 - a / c) parts (div-mul-le_self a c))
    where
      parts : z * c ≡ a / c * c + (z - 1 - a / c) * c + c
      parts = ap (λ (x : ℕ). x * c) (whole (a / c) few) ∙ add-mul (a / c + (z - 1 - a / c)) 1 c ∙ ap (λ (x : ℕ). x + 1 * c) (add-mul (a / c) (z - 1 - a / c) c) ∙ ap (λ (x : ℕ). a / c * c + (z - 1 - a / c) * c + x) (one-mul c)
        where
          whole : (k : ℕ) → k < z → z ≡ k + (z - 1 - k) + 1
          whole k h = omega arith

      lower : (k j : ℕ) → z * c ≡ k * c + j * c + c → a < k * c + c → j * c ≤ n
      lower k j h g = omega arith

      upper : (k j : ℕ) → z * c ≡ k * c + j * c + c → k * c ≤ a → n < (j + 1) * c
      upper k j h g = omega (arith, add-mul j 1 c, one-mul c)

below_mod : (p k z : ℕ) → 0 < p → k < z → (p - 1 - k % p + z) % p ≡ (z - 1 - k) % p
below_mod p k z P h =
    ap (λ (x : ℕ). x % p) (regroup (k % p) (k / p * p) (mod-lt k P) (div-add-mod' k p) ∙ ap (λ (x : ℕ). z - 1 - k + x) (sym (suc-mul (k / p) p))) ∙ add-mul-mod_self_right (z - 1 - k) (suc (k / p)) p
  where
    regroup : (r d : ℕ) → r < p → d + r ≡ k → p - 1 - r + z ≡ z - 1 - k + (d + p)
    regroup r d l e = omega arith

pub floor_minus : (p : ℕ) (x : Float) (n z c : ℕ) → 0 < p → 0 < c → Minus x n (z * c) c → (floor_mod p x + z) % p ≡ n / c % p
unfolding floor_mod floor_div mod_p
floor_minus p x n z c P C (over v e h) =
    ap (λ (i : ℕ). (i + z) % p) (ap (mod_p p) (floor_of_value x false v c C h))
    ∙ mod-add-mod (v / c) p z
    ∙ ap (λ (i : ℕ). i % p) (sym (add-mul-div_right v z C) ∙ ap (λ (i : ℕ). i / c) (add_comm v (z * c) ∙ sym e))
floor_minus p x n z c P C (under zero e h) =
    ap (λ (i : ℕ). (i + z) % p) (ap (mod_p p) (floor_of_value x true 0 c C h) ∙ ap (λ (i : ℕ). i % p) (zero-div c))
    ∙ mod-add-mod 0 p z
    ∙ ap (λ (i : ℕ). i % p) (zero-add z ∙ sym (mul-div_cancel z C) ∙ ap (λ (i : ℕ). i / c) (e ∙ add-zero n))
floor_minus p x n z c P C (under (suc a) e h) =
    ap (λ (i : ℕ). (i + z) % p) (ap (mod_p p) (floor_of_value x true (suc a) c C h))
    ∙ below_mod p (a / c) z P (few n z c a C e)
    ∙ ap (λ (i : ℕ). i % p) (sym (floor_below n z c a C e))
