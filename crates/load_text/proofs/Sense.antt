-- How long the text of a load can be. Assumes nothing.
use mathlib.Core.Path.{◌≡◌, refl, sym, ap, ◌∙◌}
use mathlib.Core.Bool.{Bool, true, false, cond}
use mathlib.Core.List.{List, [], ◌∷◌}
use mathlib.Core.Option.{Option, none, some, none-ne-some}
use Prim.Native.Nat.{ℕ, suc, ◌+◌, ◌-◌, ◌*◌, ◌^◌, ◌≤◌, ◌<◌}
use native.Mathlib.Nat.{le_trans, not-le_of_lt, mul_assoc, mul-le-mul_right, one-mul, mul-one, pow-succ', pow-le-pow_right}
use native.Mathlib.Omega.{arith}
use lib.ListN.{length}
use lib.Dec.{eqb, leb, lit<}
use borrow.Author.Tests.{leb-true, leb-false, eqb-false}
use Rattle.load_text.specs.Text.{other, number, is_digit, ends_at, digits_from, first_line, numbers_of, load_limits}
use Rattle.load_text.proofs.Lines.{digit_above, first}

clash : {X : Type 0} {n : ℕ} {rest : List ℕ} → other ≡ number n rest → X
clash e = let z : ◌≡◌ {A = ℕ} 0 1 = cc in absurd (omega arith)

-- after the digits of n: so many more, up to the newline, make m
record Digits (n : ℕ) (bs : List ℕ) (m : ℕ) (rest : List ℕ) : Type 0 where
  more : ℕ
  long : length bs ≡ more + 1 + length rest
  grown : n * 10 ^ more ≤ m

digits_long : (n : ℕ) (bs : List ℕ) (m : ℕ) (rest : List ℕ) → digits_from n bs ≡ number m rest → Digits n bs m rest
unfolding digits_from
digits_long n [] m rest e = clash e
digits_long n (b ∷ bs) m rest e = go (is_digit b) (eqb b 10) e (λ q. digits_long (n * 10 + (b - 48)) bs m rest q)
  where
    go : (t u : Bool) → cond t (digits_from (n * 10 + (b - 48)) bs) (cond u (number n bs) other) ≡ number m rest
        → (digits_from (n * 10 + (b - 48)) bs ≡ number m rest → Digits (n * 10 + (b - 48)) bs m rest) → Digits n (b ∷ bs) m rest
    go true u e f =
        let d = f e in
        let k : n * 10 ^ suc d.more ≡ n * 10 * 10 ^ d.more = ap (λ (x : ℕ). n * x) (pow-succ' 10 d.more) ∙ sym (mul_assoc n 10 (10 ^ d.more)) in
        let g : n * 10 * 10 ^ d.more ≤ (n * 10 + (b - 48)) * 10 ^ d.more = mul-le-mul_right (10 ^ d.more) (omega arith) in
        record { more = suc d.more; long = omega (arith, d.long); grown = rw k (le_trans g d.grown) }
    go false true e f =
        let s : n ≡ m = cc in
        let r : bs ≡ rest = cc in
        record { more = 0; long = rw r (omega arith); grown = rw (mul-one n, s) (omega arith) }
    go false false e f = clash e

above : {b : ℕ} → 48 ≤ b → (b ≡ 48 → ⊥) → 1 ≤ b - 48
above {b} a z = go (leb 49 b) refl
  where
    go : (t : Bool) → leb 49 b ≡ t → 1 ≤ b - 48
    go true e = let h = leb-true 49 b e in omega arith
    go false e = let h = leb-false 49 b e in absurd (z (omega arith))

end_long : (n : ℕ) (bs : List ℕ) (m : ℕ) (rest : List ℕ) → ends_at n bs ≡ number m rest → length bs ≡ 1 + length rest
end_long n [] m rest e = clash e
end_long n (b ∷ bs) m rest e = go (eqb b 10) e
  where
    go : (u : Bool) → cond u (number n bs) other ≡ number m rest → length (b ∷ bs) ≡ 1 + length rest
    go true e = let r : bs ≡ rest = cc in rw r (omega arith)
    go false e = clash e

few : (k m most : ℕ) → most < 10 ^ 20 → 10 ^ k ≤ m → m ≤ most → k < 20
few k m most h l t = go (leb 20 k) refl
  where
    go : (b : Bool) → leb 20 k ≡ b → k < 20
    go true e = let z : 10 ^ 20 ≤ 10 ^ k = pow-le-pow_right (lit< tt) (leb-true 20 k e) in absurd (not-le_of_lt h (le_trans z (le_trans l t)))
    go false e = leb-false 20 k e

-- a number below 10 ^ 20 has 20 digits at most
line_short : (most : ℕ) → most < 10 ^ 20 → (text : List ℕ) (m : ℕ) (rest : List ℕ) → first_line text ≡ number m rest → m ≤ most → length text ≤ 21 + length rest
unfolding first_line
line_short most h [] m rest e l = clash e
line_short most h (b ∷ bs) m rest e l = go (is_digit b) (eqb b 48) refl refl e
  where
    go : (t u : Bool) → is_digit b ≡ t → eqb b 48 ≡ u → cond t (cond u (ends_at 0 bs) (digits_from (b - 48) bs)) other ≡ number m rest → length (b ∷ bs) ≤ 21 + length rest
    go true true p q e = omega (arith, end_long 0 bs m rest e)
    go true false p q e =
        let d = digits_long (b - 48) bs m rest e in
        let z : b ≡ 48 → ⊥ = eqb-false b 48 q in
        let a : 48 ≤ b = digit_above b p in
        let o : 1 ≤ b - 48 = above a z in
        let g : 10 ^ d.more ≤ m = le_trans (rw (one-mul (10 ^ d.more)) at (mul-le-mul_right (10 ^ d.more) o)) d.grown in
        let k = few d.more m most h g l in
        omega (arith, d.long)
    go false u p q e = clash e

-- each limit has 20 digits at most
abbrev Short : List ℕ → Type 0
Short [] = Unit {0}
Short (m ∷ ms) = (m < 10 ^ 20) × Short ms

numbers_short : (limits : List ℕ) → Short limits → (text ns : List ℕ) → numbers_of limits text ≡ some ns → length text ≤ 21 * length limits
unfolding numbers_of
numbers_short [] h [] ns e = omega arith
numbers_short [] h (b ∷ bs) ns e = absurd (none-ne-some _ e)
numbers_short (m ∷ ms) h text ns e =
    let f = first m (first_line text) (numbers_of ms) ns e in
    let s = line_short m h.0 text f.n f.rest f.line f.fits in
    let r = numbers_short ms h.1 f.rest f.others f.then in
    omega arith

limits_short : Short load_limits
limits_short = (lit< tt, (lit< tt, (lit< tt, (lit< tt, (lit< tt, (lit< tt, (lit< tt, (lit< tt, (lit< tt, (lit< tt, (lit< tt, (lit< tt, tt))))))))))))

-- THE TEXT OF A LOAD HAS 252 BYTES AT MOST
pub long_text : (text : List ℕ) → 252 < length text → numbers_of load_limits text ≡ none
long_text text h = go (numbers_of load_limits text) refl
  where
    go : (o : Option (List ℕ)) → numbers_of load_limits text ≡ o → numbers_of load_limits text ≡ none
    go none e = e
    go (some ns) e = let l = numbers_short load_limits limits_short text ns e in absurd (omega arith)
