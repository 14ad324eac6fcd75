-- Elements by their two words: whether a number is below p, rule 23, and what a centred number is. p is k · 2 ^ 64 + 1. Assumes nothing.
use Rattle.std.proofs.Common.{◌≡◌, ℕ, zero, suc, ◌+◌, ◌-◌, ◌*◌, ◌/◌, ◌%◌, ◌^◌, ◌<◌, ◌≤◌, Bool, true, false, cond, not, eqb, ltb, leb, ◌⊎◌, [], ◌∷◌, sym, refl, ap, ◌∙◌, subst, inl, inr, true≢false, le_trans, le_of_eq, lt_of_le_of_lt, add-zero, mul-le-mul_right, mod-eq_of_lt, lt_of_mul-lt-mul_right, div-add-mod', arith, lit≤, ltb-false, ltb-true, le-ltb, lt-ltb, eq-eqb, ne_eqb, eqb-true, le-leb, leb-false, leb-true}
use native.Mathlib.Nat.{sub-zero}
use borrow.Author.Tests.{lt-leb, eqb-false}
use Rattle.field128.specs.Field128.{p128, number}
use lib.Ieee.{Float}
use Rattle.rules.specs.declared.Answer.{Answer}
use Rattle.rules.specs.Rules.{refuse, in_order}
use Rattle.rules.proofs.Chain.{not_so}
use Rattle.doubles.specs.declared.Decoded.{Decoded}
use Rattle.doubles.specs.Doubles.{centred_size, size_rule, plus_zero, decoded, decoded_of}
use Rattle.doubles.proofs.Centred.{Centre, above, below}
use Rattle.doubles128.specs.Doubles128.{size_limit128}
use Rattle.doubles128.specs.Steps.{flag, large}

-- a word as a flag
pub none : (n : ℕ) → n ≡ 0 → flag (not (eqb n 0)) ≡ 0
none n e = ap (λ (t : Bool). flag (not t)) (eq-eqb n 0 e)

pub some : (n : ℕ) → (n ≡ 0 → ⊥) → flag (not (eqb n 0)) ≡ 1
some n h = ap (λ (t : Bool). flag (not t)) (ne_eqb n 0 h)

pub flag_is : (n : ℕ) (t : Bool) → n ≡ flag t → n ≤ 1
flag_is n true e = omega arith
flag_is n false e = omega arith

pub flag_test : (n : ℕ) (t : Bool) → n ≡ flag t → ltb 0 n ≡ t
flag_test n true e = ap (ltb 0) e
flag_test n false e = ap (ltb 0) e

-- ---- rule 12
pub reaches : (k low high : ℕ) → low < 2 ^ 64 → leb (k + 1 - flag (not (eqb low 0))) high ≡ leb (k * 2 ^ 64 + 1) (number low high)
reaches k zero high h = ap (λ (n : ℕ). leb n high) (sub-zero (k + 1)) ∙ go (leb (k + 1) high) (leb-true (k + 1) high) (leb-false (k + 1) high)
  where
    go : (t : Bool) → (t ≡ true → k + 1 ≤ high) → (t ≡ false → high < k + 1) → t ≡ leb (k * 2 ^ 64 + 1) (number 0 high)
    go true f g = let l = f refl in sym (le-leb (k * 2 ^ 64 + 1) (number 0 high) (omega arith))
    go false f g = let l = g refl in sym (lt-leb (k * 2 ^ 64 + 1) (number 0 high) (omega arith))
reaches k (suc low) high h = ap (λ (n : ℕ). leb (k + 1 - n) high) (some (suc low) (λ e. no low e)) ∙ ap (λ (n : ℕ). leb n high) (less k) ∙ go (leb k high) (leb-true k high) (leb-false k high)
  where
    no : (low : ℕ) → suc low ≡ 0 → ⊥
    no low e = omega arith

    less : (k : ℕ) → k + 1 - 1 ≡ k
    less k = omega arith

    go : (t : Bool) → (t ≡ true → k ≤ high) → (t ≡ false → high < k) → t ≡ leb (k * 2 ^ 64 + 1) (number (suc low) high)
    go true f g = let l = f refl in sym (le-leb (k * 2 ^ 64 + 1) (number (suc low) high) (omega arith))
    go false f g = let l = g refl in sym (lt-leb (k * 2 ^ 64 + 1) (number (suc low) high) (omega arith))

-- ---- rule 23

-- p - y is one word, or more, for p = k · W + 1 and y = high · W + low: b says whether low is above 1
module _ (W k low high b : ℕ) (L : low < W) where
  more_words : (b ≡ 0 → low ≤ 1) → b ≤ 1 → high + b < k → high * W + low + W ≤ k * W + 1
  more_words f g h = go b f g (mul-le-mul_right W h)
    where
      go : (b : ℕ) → (b ≡ 0 → low ≤ 1) → b ≤ 1 → suc (high + b) * W ≤ k * W → high * W + low + W ≤ k * W + 1
      go zero f g m = let l = f refl in omega arith
      go (suc zero) f g m = omega arith
      go (suc (suc b)) f g m = absurd (omega arith)

  single_word : (b ≡ 1 → 1 < low) → b ≤ 1 → 2 ≤ W → k ≤ high + b → k * W + 1 < high * W + low + W
  single_word f g T h = go b f g (mul-le-mul_right W h)
    where
      go : (b : ℕ) → (b ≡ 1 → 1 < low) → b ≤ 1 → k * W ≤ (high + b) * W → k * W + 1 < high * W + low + W
      go zero f g m = omega arith
      go (suc zero) f g m = let l = f refl in omega arith
      go (suc (suc b)) f g m = absurd (omega arith)

-- the size of y by those
module _ (p y : ℕ) (P : 2 ^ 66 ≤ p) (Y : y < p) where
  abbrev half : ℕ
  half = (p - 1) / 2

  small : y < 2 ^ 64 → ltb (2 ^ 64 - 1) (centred_size p y) ≡ false
  small h = go (ltb half y) (ltb-true half y)
    where
      go : (t : Bool) → (t ≡ true → half < y) → ltb (2 ^ 64 - 1) (cond t (p - y) y) ≡ false
      go true f = let l = f refl in absurd (omega arith)
      go false f = le-ltb (2 ^ 64 - 1) y (omega arith)

  small_below : p < y + 2 ^ 64 → ltb (2 ^ 64 - 1) (centred_size p y) ≡ false
  small_below h = go (ltb half y) (ltb-false half y)
    where
      go : (t : Bool) → (t ≡ false → y ≤ half) → ltb (2 ^ 64 - 1) (cond t (p - y) y) ≡ false
      go true f = le-ltb (2 ^ 64 - 1) (p - y) (omega arith)
      go false f = let l = f refl in absurd (omega arith)

  neither : 2 ^ 64 ≤ y → y + 2 ^ 64 ≤ p → ltb (2 ^ 64 - 1) (centred_size p y) ≡ true
  neither h g = go (ltb half y)
    where
      go : (t : Bool) → ltb (2 ^ 64 - 1) (cond t (p - y) y) ≡ true
      go true = lt-ltb (2 ^ 64 - 1) (p - y) (omega arith)
      go false = lt-ltb (2 ^ 64 - 1) y (omega arith)

-- by one test of the upper word less 1, modulo 2 ^ 64
module _ (p k low high step middle : ℕ) (P : p ≡ k * 2 ^ 64 + 1) (K : 4 ≤ k) (M : k < 2 ^ 64) (Y : number low high < p) (L : low < 2 ^ 64) (s : step ≡ flag (ltb 1 low)) (m : (middle + 1) % 2 ^ 64 ≡ high) (W : middle < 2 ^ 64) where
  abbrev y : ℕ
  y = number low high

  large_p : 2 ^ 66 ≤ p
  large_p = go k p K P
    where
      go : (k p : ℕ) → 4 ≤ k → p ≡ k * 2 ^ 64 + 1 → 2 ^ 66 ≤ p
      go k p h e = omega arith

  step_none : step ≡ 0 → low ≤ 1
  step_none e = go (ltb 1 low) (ltb-false 1 low) (sym s ∙ e)
    where
      go : (t : Bool) → (t ≡ false → low ≤ 1) → flag t ≡ 0 → low ≤ 1
      go true f e = absurd (omega arith)
      go false f e = f refl

  step_one : step ≡ 1 → 1 < low
  step_one e = go (ltb 1 low) (ltb-true 1 low) (sym s ∙ e)
    where
      go : (t : Bool) → (t ≡ true → 1 < low) → flag t ≡ 1 → 1 < low
      go true f e = f refl
      go false f e = absurd (omega arith)

  -- the upper word is 0, or middle is one less
  around : (n r : ℕ) → n < 2 ^ 64 → (n + 1) % 2 ^ 64 ≡ r → ((r ≡ 0) × (n ≡ 2 ^ 64 - 1)) ⊎ (r ≡ n + 1)
  around n r h e = go (ltb n (2 ^ 64 - 1)) (ltb-true n (2 ^ 64 - 1)) (ltb-false n (2 ^ 64 - 1))
    where
      go : (t : Bool) → (t ≡ true → n < 2 ^ 64 - 1) → (t ≡ false → 2 ^ 64 - 1 ≤ n) → ((r ≡ 0) × (n ≡ 2 ^ 64 - 1)) ⊎ (r ≡ n + 1)
      go true f g = let l = f refl in inr (omega arith)
      go false f g = let l = g refl in inl (omega arith, omega arith)

  one_word : high ≡ 0 → y < 2 ^ 64
  one_word h = go low high h L
    where
      go : (low high : ℕ) → high ≡ 0 → low < 2 ^ 64 → number low high < 2 ^ 64
      go low high h L = omega arith

  two_words : high ≡ middle + 1 → 2 ^ 64 ≤ y
  two_words h = go low high middle h
    where
      go : (low high middle : ℕ) → high ≡ middle + 1 → 2 ^ 64 ≤ number low high
      go low high middle h = omega arith

  pub size_flag_is : ltb middle (k - 1 - step) ≡ ltb (2 ^ 64 - 1) (centred_size p y)
  size_flag_is = go (around middle high W m)
    where
      few : step ≤ 1
      few = flag_is step (ltb 1 low) s

      past : (middle k step : ℕ) → k < 2 ^ 64 → middle ≡ 2 ^ 64 - 1 → k - 1 - step ≤ middle
      past middle k step M e = omega arith

      within : (middle k step high : ℕ) → high ≡ middle + 1 → middle < k - 1 - step → high + step < k
      within middle k step high e h = omega arith

      beside : (middle k step high : ℕ) → high ≡ middle + 1 → k - 1 - step ≤ middle → 4 ≤ k → step ≤ 1 → k ≤ high + step
      beside middle k step high e h K l = omega arith

      go : ((high ≡ 0) × (middle ≡ 2 ^ 64 - 1)) ⊎ (high ≡ middle + 1) → ltb middle (k - 1 - step) ≡ ltb (2 ^ 64 - 1) (centred_size p y)
      go (inl h) = le-ltb middle (k - 1 - step) (past middle k step M h.1) ∙ sym (small p y large_p Y (one_word h.0))
      go (inr h) = by (ltb middle (k - 1 - step)) (ltb-true middle (k - 1 - step)) (ltb-false middle (k - 1 - step))
        where
          by : (t : Bool) → (t ≡ true → middle < k - 1 - step) → (t ≡ false → k - 1 - step ≤ middle) → t ≡ ltb (2 ^ 64 - 1) (centred_size p y)
          by true f g = sym (neither p y large_p Y (two_words h) (le_trans (more_words (2 ^ 64) k low high step L step_none few (within middle k step high h (f refl))) (le_of_eq (sym P))))
          by false f g = sym (small_below p y large_p Y (lt_of_le_of_lt (le_of_eq P) (single_word (2 ^ 64) k low high step L step_one few (lit≤ tt) (beside middle k step high h (g refl) K few))))

-- what `field_to_f64` answers where rules 4 and 12 leave y, by the answer of rule 23
pub not_large : (y : ℕ) (a : Answer) → a ≡ size_rule p128 size_limit128 y → a.number ≡ 0 → large y ≡ false
not_large y a e h = not_so _ 22 0 (ap (λ (b : Answer). b.number) (sym e) ∙ h)

in_order_lem : (u v t : Bool) → u ≡ false → v ≡ false → in_order (refuse u 4 0 ∷ refuse v 12 0 ∷ refuse t 23 0 ∷ []) ≡ refuse t 23 0
in_order_lem true v t e g = absurd (true≢false e)
in_order_lem false true t e g = absurd (true≢false g)
in_order_lem false false true e g = refl
in_order_lem false false false e g = refl

module _ (y f : ℕ) (F : f ≤ 30) (Y : y < p128) (a : Answer) (e : a ≡ size_rule p128 size_limit128 y) where
  abbrev given : Answer → Decoded
  given b = record { answer = b; value = cond (eqb b.number 0) (decoded p128 y f) plus_zero }

  all_rules : given a ≡ decoded_of p128 size_limit128 y f
  unfolding decoded_of
  all_rules = ap given (e ∙ sym (in_order_lem (ltb 30 f) (leb p128 y) (large y) (le-ltb 30 f F) (lt-leb p128 y Y)))

  pub decoded_refused : (a.number ≡ 0 → ⊥) → record { answer = a; value = plus_zero } ≡ decoded_of p128 size_limit128 y f
  decoded_refused h = ap (λ (t : Bool). record { answer = a; value = cond t (decoded p128 y f) plus_zero }) (sym (ne_eqb a.number 0 h)) ∙ all_rules

  pub decoded_accepted : (v : Float) → a.number ≡ 0 → v ≡ decoded p128 y f → record { answer = a; value = v } ≡ decoded_of p128 size_limit128 y f
  decoded_accepted v h g = ap (λ (x : Float). record { answer = a; value = x }) g ∙ ap (λ (t : Bool). record { answer = a; value = cond t (decoded p128 y f) plus_zero }) (sym (eq-eqb a.number 0 h)) ∙ all_rules

-- ---- the centred number and 2 ^ 64, of a y that rule 23 leaves: upper · 2 ^ 32 and the word's lower half

-- the halves of a word, with a bit above them
pub upper_few : (b word : ℕ) → word < 2 ^ 64 → (1 - b) * 2 ^ 32 + word / 2 ^ 32 < 2 ^ 33
upper_few b word h = few (word / 2 ^ 32) (half word h)
  where
    half : (word : ℕ) → word < 2 ^ 64 → word / 2 ^ 32 < 2 ^ 32
    half word h = omega arith

    few : (n : ℕ) → n < 2 ^ 32 → (1 - b) * 2 ^ 32 + n < 2 ^ 33
    few n h = omega arith

joined : (b word : ℕ) → (b * 2 ^ 32 + word / 2 ^ 32) * 2 ^ 32 + word % 2 ^ 32 ≡ b * 2 ^ 64 + word
joined b word = omega arith

-- c is p - y, and the word is the lower word of y less 1: word and c come to 2 ^ 64
module _ (W word c high : ℕ) where
  turn : (m : ℕ) → word < W → 0 < c → c < W → word + c + high * W ≡ m * W → word + c ≡ W
  turn m h C l e =
      let a : high < m = lt_of_mul-lt-mul_right W (omega arith) in
      let b : m < high + 2 = lt_of_mul-lt-mul_right W (omega arith) in
      let d : m ≡ high + 1 = omega arith in
      let f : m * W ≡ (high + 1) * W = ap (λ (n : ℕ). n * W) d in
      omega arith

  wrapped : (low q k : ℕ) → q * W + low ≡ word + 1 → high * W + low + c ≡ k * W + 1 → word + c + high * W ≡ (k + q) * W
  wrapped low q k e f = omega arith

module _ (p k low high sign word : ℕ) (P : p ≡ k * 2 ^ 64 + 1) (K : 4 ≤ k) (Y : number low high < p) (S : ltb (2 ^ 64 - 1) (centred_size p (number low high)) ≡ false) (L : low < 2 ^ 64)
    (s : sign ≡ flag (not (eqb high 0))) (w : (word + sign) % 2 ^ 64 ≡ low) (W : word < 2 ^ 64) where
  abbrev x : ℕ
  x = ((1 - sign) * 2 ^ 32 + word / 2 ^ 32) * 2 ^ 32 + word % 2 ^ 32

  level_number : high ≡ 0 → sign ≡ 0 → x ≡ number low high + 2 ^ 64
  level_number h i =
      joined (1 - sign) word
      ∙ ends (1 - sign) word low high (ap (λ (n : ℕ). 1 - n) i) (sym (mod-eq_of_lt W) ∙ ap (λ (n : ℕ). n % 2 ^ 64) (sym (add-zero word) ∙ ap (λ (n : ℕ). word + n) (sym i)) ∙ w) h
    where
      ends : (b word low high : ℕ) → b ≡ 1 → word ≡ low → high ≡ 0 → b * 2 ^ 64 + word ≡ number low high + 2 ^ 64
      ends b word low high i j h = omega arith

  below_number : p - number low high ≤ 2 ^ 64 - 1 → sign ≡ 1 → x + p ≡ number low high + 2 ^ 64
  below_number h i =
      let e : (word + 1) / 2 ^ 64 * 2 ^ 64 + low ≡ word + 1 = ap (λ (n : ℕ). (word + 1) / 2 ^ 64 * 2 ^ 64 + n) (sym (ap (λ (n : ℕ). (word + n) % 2 ^ 64) (sym i) ∙ w)) ∙ div-add-mod' (word + 1) (2 ^ 64) in
      let c = p - number low high in
      let f : high * 2 ^ 64 + low + c ≡ k * 2 ^ 64 + 1 = whole p (number low high) Y ∙ P in
      let t : word + c ≡ 2 ^ 64 = turn (2 ^ 64) word c high (k + (word + 1) / 2 ^ 64) W (positive p (number low high) Y) (few c h) (wrapped (2 ^ 64) word c high low ((word + 1) / 2 ^ 64) k e f) in
      ap (λ (n : ℕ). n + p) (joined (1 - sign) word ∙ ap (λ (n : ℕ). (1 - n) * 2 ^ 64 + word) i) ∙ ends word p (number low high) Y t
    where
      whole : (p y : ℕ) → y < p → y + (p - y) ≡ p
      whole p y h = omega arith

      positive : (p y : ℕ) → y < p → 0 < p - y
      positive p y h = omega arith

      few : (c : ℕ) → c ≤ 2 ^ 64 - 1 → c < 2 ^ 64
      few c h = omega arith

      ends : (word p y : ℕ) → y < p → word + (p - y) ≡ 2 ^ 64 → 0 * 2 ^ 64 + word + p ≡ y + 2 ^ 64
      ends word p y h t = omega arith

  pub centre_of : Centre p (2 ^ 64) (number low high) x
  centre_of = go (eqb high 0) (eqb-true high 0) (eqb-false high 0) s (ltb ((p - 1) / 2) (number low high)) (ltb-true ((p - 1) / 2) (number low high)) (ltb-false ((p - 1) / 2) (number low high)) S
    where
      near_zero : (k low high : ℕ) → 4 ≤ k → low < 2 ^ 64 → high ≡ 0 → (k * 2 ^ 64 + 1 - 1) / 2 < number low high → ⊥
      near_zero k low high K L h l = omega arith

      far : (low high : ℕ) → (high ≡ 0 → ⊥) → number low high ≤ 2 ^ 64 - 1 → ⊥
      far low high h l = omega (arith, h)

      go : (t : Bool) → (t ≡ true → high ≡ 0) → (t ≡ false → high ≡ 0 → ⊥) → sign ≡ flag (not t) → (b : Bool) → (b ≡ true → (p - 1) / 2 < number low high) → (b ≡ false → number low high ≤ (p - 1) / 2)
          → ltb (2 ^ 64 - 1) (cond b (p - number low high) (number low high)) ≡ false → Centre p (2 ^ 64) (number low high) x
      go true a b i true f g S = absurd (near_zero k low high K L (a refl) (subst (λ (n : ℕ). (n - 1) / 2 < number low high) P (f refl)))
      go true a b i false f g S = above (g refl) (level_number (a refl) i)
      go false a b i true f g S = below (f refl) (below_number (ltb-false (2 ^ 64 - 1) (p - number low high) S) i)
      go false a b i false f g S = absurd (far low high (b refl) (ltb-false (2 ^ 64 - 1) (number low high) S))
