-- What the tests of `within_limit` on a double say of its floor, and what is known of an accepted coordinate times the scale. Assumes nothing.
use Rattle.std.proofs.Common.{◌≡◌, ℕ, suc, ◌+◌, ◌*◌, ◌^◌, ◌<◌, ◌≤◌, Bool, true, false, not, ◌&&◌, T, ltb, ℤ, pos, negsuc, sym, refl, ap, ◌∙◌, le_trans, le_of_eq, lt_of_lt_of_le, lt_of_le_of_lt, le_of_lt, mul-le-mul_left, mul-pos, mul-one, arith, lit<, lit≤, pow_pos, ltb-false, ltb-true, le-ltb, lt-ltb}
use lib.Ieee.{Float, nan, inf, fin, binary64, up, down, lt, fits, mul}
use lib.Ieee.Fits.{down_pos}
use Rattle.doubles.specs.Doubles.{floor_of, power, coordinate_rule}
use Rattle.doubles.specs.Steps.{floor_at, within_limit}
use Rattle.doubles.proofs.Laws.{held}
use Rattle.doubles.proofs.Floor.{beyond_is}
use Rattle.doubles.proofs.Accept.{and_true, taken, usable_within, product_floor_is}
use Rattle.doubles128.specs.Doubles128.{floor_limit128}

-- ---- the limit: a double is beyond it from 2 ^ 64 on
next_test : (x n : ℕ) → not (ltb x n) ≡ ltb n (suc x)
next_test x n = go (ltb x n) (ltb-true x n) (ltb-false x n)
  where
    go : (t : Bool) → (t ≡ true → x < n) → (t ≡ false → n ≤ x) → not t ≡ ltb n (suc x)
    go true f g = sym (le-ltb n (suc x) (f refl))
    go false f g = let h = g refl in sym (lt-ltb n (suc x) (omega arith))

next_double : (s : Bool) (m : ℕ) (e : ℤ) → T (fits binary64 (fin s m e)) → not (ltb (floor_limit128 * down e) (m * up e)) ≡ ltb (m * up e) (2 ^ 64 * down e)
next_double s m (pos a) t = next_test floor_limit128 (m * 2 ^ a)
next_double s m (negsuc a) t =
    let small : m * 1 < 2 ^ 53 = lt_of_le_of_lt (le_of_eq (mul-one m)) (held binary64 s m (negsuc a) t).few in
    let room : 2 ^ 53 ≤ floor_limit128 * 2 ^ suc a = le_trans (lit≤ tt) (mul-le-mul_left floor_limit128 (pow_pos (suc a))) in
    let more : 2 ^ 53 ≤ 2 ^ 64 * 2 ^ suc a = le_trans (lit≤ tt) (mul-le-mul_left (2 ^ 64) (pow_pos (suc a))) in
    ap not (le-ltb (floor_limit128 * 2 ^ suc a) (m * 1) (le_of_lt (lt_of_lt_of_le small room))) ∙ sym (lt-ltb (m * 1) (2 ^ 64 * 2 ^ suc a) (lt_of_lt_of_le small more))

within_is : (s : Bool) (m : ℕ) (e : ℤ) → T (fits binary64 (fin s m e)) → ltb (m * up e * 1) (2 ^ 64 * down e) ≡ within_limit floor_limit128 (fin s m e)
unfolding within_limit
within_is s m e t = ap (λ (n : ℕ). ltb n (2 ^ 64 * down e)) (mul-one (m * up e)) ∙ sym (next_double s m e t) ∙ ap not (sym (beyond_is floor_limit128 (lit≤ tt) s m e t))

-- the two ends, as doubles
abbrev pub above_end : Float → Bool
above_end w = lt (fin true 1 (pos 64)) w

abbrev pub below_end : Float → Bool
below_end w = lt w (fin false 1 (pos 64))

some : (a b : ℕ) → 0 < a → ltb 0 (a + b) ≡ true
some a b h = lt-ltb 0 (a + b) (omega arith)

some_more : (a b : ℕ) → 0 < b → ltb 0 (a + b) ≡ true
some_more a b h = lt-ltb 0 (a + b) (omega arith)

pub within_tests : (w : Float) → T (fits binary64 w) → (above_end w && below_end w) ≡ within_limit floor_limit128 w
unfolding lt
within_tests nan t = unfold within_limit in refl
within_tests (inf true) t = unfold within_limit in refl
within_tests (inf false) t = unfold within_limit in refl
within_tests (fin false m e) t =
    ap (λ (b : Bool). b && ltb (m * up e * 1) (2 ^ 64 * down e)) (some (2 ^ 64 * down e) (m * up e * 1) (mul-pos (lit< tt) (down_pos e)))
    ∙ within_is false m e t
within_tests (fin true m e) t =
    ap (λ (b : Bool). ltb (m * up e * 1) (2 ^ 64 * down e) && b) (some_more (m * up e * 1) (2 ^ 64 * down e) (mul-pos (lit< tt) (down_pos e)))
    ∙ and_true _
    ∙ within_is true m e t

-- ---- an accepted coordinate, times the scale
pub record Scaled (x scale : Float) (f : ℕ) : Type 0 where
  pub within : within_limit floor_limit128 (mul binary64 x scale) ≡ true
  pub floor : floor_at (mul binary64 x scale) ≡ floor_of x f

pub scaled : (x scale : Float) (f : ℕ) → T (fits binary64 x) → (coordinate_rule floor_limit128 x f).number ≡ 0 → scale ≡ power f → Scaled x scale f
scaled x scale f t h s =
    let g = taken floor_limit128 x f h in
    record {
      within = ap (λ (z : Float). within_limit floor_limit128 (mul binary64 x z)) s ∙ usable_within floor_limit128 (lit< tt) x f t g.usable ∙ ap not g.near;
      floor = ap (λ (z : Float). floor_at (mul binary64 x z)) s ∙ product_floor_is floor_limit128 (lit< tt) x f t g;
    }
