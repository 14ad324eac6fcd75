-- What the tests of `within_limit` on a double say of its floor. Assumes nothing.
use Rattle.std.proofs.Common.{◌≡◌, ℕ, zero, suc, ◌+◌, ◌*◌, ◌/◌, ◌^◌, ◌<◌, ◌≤◌, Bool, true, false, not, ◌&&◌, ◌||◌, T, eqb, ltb, ℤ, pos, negsuc, neg_ℤ, nat_abs, sym, refl, ap, ◌∙◌, subst, suc-le-suc, le_trans, le_of_eq, le_of_suc-le-suc, le_of_lt, lt_of_mul-lt-mul_right, mul-le-mul_left, mul-lt-mul_of_pos_right, mul-pos, le-div_iff_mul-le, mul-one, div-le_self, div-one, arith, lit<, lit≤, eqb→eq, ltb→lt, lt→ltb, pow_pos, ltb-false, ltb-true, le-ltb, lt-ltb, eqb-true}
use native.Mathlib.Nat.{zero-div}
use lib.Dec.{eqb_refl}
use borrow.Author.Tests.{eqb-false, not-true}
use lib.Ieee.{Float, nan, inf, fin, binary64, up, down, le, fits}
use lib.Ieee.Fits.{down_pos}
use Rattle.doubles.specs.Doubles.{signed, floor_div, beyond, floor_limit64}
use Rattle.doubles.specs.Steps.{within_limit, within}
use Rattle.doubles.proofs.Laws.{held}
use Rattle.doubles.proofs.Accept.{and_true}

-- ---- tests
pub yes : {b : Bool} → b ≡ true → T b
yes h = subst T (sym h) tt

pub no : {b : Bool} → b ≡ false → T (not b)
no h = subst (λ (x : Bool). T (not x)) (sym h) tt

pub alike : (x y : Bool) → (T x → T y) → (T y → T x) → x ≡ y
alike true true f g = refl
alike true false f g = absurd (f tt)
alike false true f g = absurd (g tt)
alike false false f g = refl

pub ltb_scale : (a b k : ℕ) → 0 < k → ltb (a * k) (b * k) ≡ ltb a b
ltb_scale a b k K =
    alike (ltb (a * k) (b * k)) (ltb a b)
    (λ t. lt→ltb a b (lt_of_mul-lt-mul_right k (ltb→lt (a * k) (b * k) t)))
    (λ t. lt→ltb (a * k) (b * k) (mul-lt-mul_of_pos_right (ltb→lt a b t) K))

-- ---- the limit: a double is beyond it just where its floor is
whole_part : (l : ℕ) → 2 ^ 53 ≤ l → (s : Bool) (m : ℕ) (e : ℤ) → T (fits binary64 (fin s m e)) → ltb l (m * up e / down e) ≡ ltb (l * down e) (m * up e)
whole_part l L s m (pos a) t = ap (ltb l) (div-one (m * 2 ^ a)) ∙ ap (λ (n : ℕ). ltb n (m * 2 ^ a)) (sym (mul-one l))
whole_part l L s m (negsuc a) t =
    let small : m * 1 ≤ l = le_trans (le_of_eq (mul-one m)) (le_trans (le_of_lt (held binary64 s m (negsuc a) t).few) L) in
    le-ltb l (m * 1 / 2 ^ suc a) (le_trans (div-le_self (m * 1) (2 ^ suc a)) small)
    ∙ sym (le-ltb (l * 2 ^ suc a) (m * 1) (le_trans small (le_trans (le_of_eq (sym (mul-one l))) (mul-le-mul_left l (pow_pos (suc a))))))

below_part : (l a c : ℕ) → 0 < c → beyond l (floor_div (neg_ℤ (pos a)) c) ≡ ltb (l * c) a
unfolding floor_div
below_part l zero c C = ap (ltb l) (zero-div c) ∙ le-ltb l 0 (omega arith) ∙ sym (le-ltb (l * c) 0 (omega arith))
below_part l (suc a) c C =
    alike (ltb l (suc (a / c))) (ltb (l * c) (suc a))
    (λ t. lt→ltb (l * c) (suc a) (suc-le-suc ((le-div_iff_mul-le C).0 (le_of_suc-le-suc (ltb→lt l (suc (a / c)) t)))))
    (λ t. lt→ltb l (suc (a / c)) (suc-le-suc ((le-div_iff_mul-le C).1 (le_of_suc-le-suc (ltb→lt (l * c) (suc a) t)))))

pub beyond_is : (l : ℕ) → 2 ^ 53 ≤ l → (s : Bool) (m : ℕ) (e : ℤ) → T (fits binary64 (fin s m e)) → beyond l (floor_div (signed s (m * up e)) (down e)) ≡ ltb (l * down e) (m * up e)
beyond_is l L false m e t = (unfold floor_div in whole_part l L false m e t)
beyond_is l L true m e t = below_part l (m * up e) (down e) (down_pos e)

not_above : (a b : ℕ) → (ltb a b || (eqb a b && true)) ≡ not (ltb b a)
not_above a b = go (ltb a b) (eqb a b) refl refl
  where
    other : (a b : ℕ) → b ≤ a → (a ≡ b → ⊥) → b < a
    other a b h g = omega (arith, g)

    go : (t z : Bool) → ltb a b ≡ t → eqb a b ≡ z → (t || (z && true)) ≡ not (ltb b a)
    go true z h g = ap not (sym (le-ltb b a (le_of_lt (ltb-true a b h))))
    go false true h g = ap not (sym (le-ltb b a (le_of_eq (eqb-true a b g))))
    go false false h g = ap not (sym (lt-ltb b a (other a b (ltb-false a b h) (eqb-false a b g))))

not_below_limit : (a b : ℕ) → (ltb b a || (eqb a b && true)) ≡ not (ltb a b)
not_below_limit a b = ap (λ (t : Bool). ltb b a || (t && true)) (alike (eqb a b) (eqb b a) (λ t. eq→eqb b a (sym (eqb→eq a b t))) (λ t. eq→eqb a b (sym (eqb→eq b a t)))) ∙ not_above b a
  where
    eq→eqb : (a b : ℕ) → a ≡ b → T (eqb a b)
    eq→eqb a b e = subst (λ (x : ℕ). T (eqb a x)) e (eqb_refl a)

positive_true : (a b : ℕ) (z : Bool) → 0 < a + b → (ltb 0 (a + b) || z) ≡ true
positive_true a b z h = ap (λ (t : Bool). t || z) (lt-ltb 0 (a + b) h)

limit_pos : (e : ℤ) → 0 < 9223372034707292160 * down e
limit_pos e = mul-pos (lit< tt) (down_pos e)

-- the two ends, as doubles
abbrev pub above_end : Float → Bool
above_end w = le (fin true 4294967295 (pos 31)) w

abbrev pub below_end : Float → Bool
below_end w = le w (fin false 4294967295 (pos 31))

pub within_tests : (w : Float) → T (fits binary64 w) → (above_end w && below_end w) ≡ within w
unfolding le within_limit
within_tests nan t = refl
within_tests (inf true) t = refl
within_tests (inf false) t = refl
within_tests (fin false m e) t =
    ap (λ (b : Bool). b && (ltb (m * up e * 1) (9223372034707292160 * down e) || (eqb (m * up e * 1) (9223372034707292160 * down e) && true)))
    (positive_true (9223372034707292160 * down e) (m * up e * 1) _ (more (9223372034707292160 * down e) (m * up e * 1) (limit_pos e)))
    ∙ not_above (m * up e * 1) (9223372034707292160 * down e)
    ∙ ap (λ (x : ℕ). not (ltb (9223372034707292160 * down e) x)) (mul-one (m * up e))
    ∙ ap not (sym (beyond_is floor_limit64 (lit≤ tt) false m e t))
  where
    more : (a b : ℕ) → 0 < a → 0 < a + b
    more a b h = omega arith
within_tests (fin true m e) t =
    ap (λ (b : Bool). (ltb (m * up e * 1) (9223372034707292160 * down e) || (eqb (9223372034707292160 * down e) (m * up e * 1) && true)) && b)
    (positive_true (m * up e * 1) (9223372034707292160 * down e) _ (more (m * up e * 1) (9223372034707292160 * down e) (limit_pos e)))
    ∙ and_true _
    ∙ not_below_limit (9223372034707292160 * down e) (m * up e * 1)
    ∙ ap (λ (x : ℕ). not (ltb (9223372034707292160 * down e) x)) (mul-one (m * up e))
    ∙ ap not (sym (beyond_is floor_limit64 (lit≤ tt) true m e t))
  where
    more : (a b : ℕ) → 0 < b → 0 < a + b
    more a b h = omega arith

-- what lies within, in size
pub within_size : (l : ℕ) → 2 ^ 53 ≤ l → (s : Bool) (m : ℕ) (e : ℤ) → T (fits binary64 (fin s m e)) → within_limit l (fin s m e) ≡ true → m * up e ≤ l * down e
unfolding within_limit
within_size l L s m e t h = ltb-false (l * down e) (m * up e) (sym (beyond_is l L s m e t) ∙ not-true _ h)

-- and within a larger limit
pub within_more : (l k : ℕ) → l ≤ k → (w : Float) → within_limit l w ≡ true → within_limit k w ≡ true
unfolding within_limit
within_more l k h nan e = e
within_more l k h (inf s) e = e
within_more l k h (fin s m e) g = let z = floor_div (signed s (m * up e)) (down e) in ap not (le-ltb k (nat_abs z) (le_trans (ltb-false l (nat_abs z) (not-true _ g)) h))
