-- A number of two words beside a bound of one: bits tell whether it is above, and where it is not, its low word is the number. Assumes nothing.
use Rattle.std.proofs.Common.{◌≡◌, ℕ, zero, suc, ◌+◌, ◌-◌, ◌*◌, ◌/◌, ◌%◌, ◌^◌, ◌<◌, ◌≤◌, Bool, true, false, cond, ltb, sym, refl, ap, ◌∙◌, le_trans, lt_of_le_of_lt, arith, ltb-false, ltb-true, le-ltb, lt-ltb, le-leb}
use lib.Bits.{bit_or, or_shr, or_lt}
use borrow.Author.Tests.{lt-leb}
use Rattle.field128.specs.Field128.{p128, number}
use Rattle.narrow.specs.Narrow.{flag_above, class_of, Sorted, sorted_result, narrowed}

-- a high word that is not 0
large : (l h : ℕ) → (h ≡ 0 → ⊥) → 2 ^ 64 ≤ number l h
large l zero n = absurd (n refl)
large l (suc h) n = omega arith

alone : (l h : ℕ) → h ≡ 0 → number l h ≡ l
alone l h e = omega arith

-- ---- by bits

-- of two bits one is 1
joined : (x y : ℕ) → x ≤ 1 → y ≤ 1 → 1 ≤ x + y → bit_or x y ≡ 1
joined zero zero h k l = absurd (omega arith)
joined zero (suc zero) h k l = refl
joined zero (suc (suc y)) h k l = absurd (omega arith)
joined (suc zero) zero h k l = refl
joined (suc zero) (suc zero) h k l = refl
joined (suc zero) (suc (suc y)) h k l = absurd (omega arith)
joined (suc (suc x)) y h k l = absurd (omega arith)

-- of two words one has the highest bit
has_top : (a b : ℕ) → a < 2 ^ 64 → b < 2 ^ 64 → 1 ≤ a / 2 ^ 63 + b / 2 ^ 63 → bit_or a b / 2 ^ 63 ≡ 1
has_top a b ha hb k = or_shr a b 63 ∙ joined (a / 2 ^ 63) (b / 2 ^ 63) (omega arith) (omega arith) k

-- a word is not 0: it has the highest bit, or what is left of it up to 2 ^ 64 has
nonzero_top : (h m : ℕ) → h < 2 ^ 64 → m < 2 ^ 64 → (m + h) % 2 ^ 64 ≡ 0 → (h ≡ 0 → ⊥) → 1 ≤ h / 2 ^ 63 + m / 2 ^ 63
nonzero_top zero m hh hm e n = absurd (n refl)
nonzero_top (suc h) m hh hm e n = omega arith

-- a word above a bound of 63 bits: it has the highest bit, or the bound less it has
above_top : (l b e : ℕ) → l < 2 ^ 64 → e < 2 ^ 64 → b < 2 ^ 63 → (e + l) % 2 ^ 64 ≡ b → b < l → 1 ≤ l / 2 ^ 63 + e / 2 ^ 63
above_top l b e hl he hb k n = omega arith

no_high : (l h b : ℕ) → b < 2 ^ 63 → number l h ≤ b → h ≡ 0
no_high l zero b hb k = refl
no_high l (suc h) b hb k = absurd (omega arith)

nothing : (h m : ℕ) → h ≡ 0 → m < 2 ^ 64 → (m + h) % 2 ^ 64 ≡ 0 → m ≡ 0
nothing h m z hm e = omega arith

small_rest : (l b e : ℕ) → l ≤ b → e < 2 ^ 64 → b < 2 ^ 63 → (e + l) % 2 ^ 64 ≡ b → e < 2 ^ 63
small_rest l b e k he hb ee = omega arith

no_top : (w : ℕ) → w < 2 ^ 63 → w / 2 ^ 63 ≡ 0
no_top w h = omega arith

module _ (l h b m e : ℕ) (hl : l < 2 ^ 64) (hh : h < 2 ^ 64) (hm : m < 2 ^ 64) (he : e < 2 ^ 64) (hb : b < 2 ^ 63) (em : (m + h) % 2 ^ 64 ≡ 0) (ee : (e + l) % 2 ^ 64 ≡ b) where
  abbrev word : ℕ
  word = bit_or (bit_or (bit_or h m) l) e

  -- with a high word of 0
  without : h ≡ 0 → bit_or (bit_or h m) l ≡ l
  without z = ap (λ (x : ℕ). bit_or (bit_or x m) l) z ∙ ap (λ (x : ℕ). bit_or x l) (nothing h m z hm em)

  three_fit : bit_or (bit_or h m) l < 2 ^ 64
  three_fit = or_lt 64 (bit_or h m) l (or_lt 64 h m hh hm) hl

  some_high : (h ≡ 0 → ⊥) → word / 2 ^ 63 ≡ 1
  some_high n =
      let f : bit_or h m / 2 ^ 63 ≡ 1 = has_top h m hh hm (nonzero_top h m hh hm em n) in
      let g : bit_or (bit_or h m) l / 2 ^ 63 ≡ 1 = has_top (bit_or h m) l (or_lt 64 h m hh hm) hl (one_more (l / 2 ^ 63) f) in
      has_top (bit_or (bit_or h m) l) e three_fit he (one_more (e / 2 ^ 63) g)
    where
      one_more : {x : ℕ} (y : ℕ) → x ≡ 1 → 1 ≤ x + y
      one_more y z = omega arith

  low_alone : h ≡ 0 → b < l → word / 2 ^ 63 ≡ 1
  low_alone z k = has_top (bit_or (bit_or h m) l) e three_fit he (rw (without z) (above_top l b e hl he hb ee k))

  beyond : b < number l h → word / 2 ^ 63 ≡ 1
  beyond k = cases h refl
    where
      cases : (x : ℕ) → h ≡ x → word / 2 ^ 63 ≡ 1
      cases zero z = low_alone z (rw (alone l h z) at k)
      cases (suc x) z = some_high (λ o. not_both x h z o)
        where
          not_both : (x h : ℕ) → h ≡ suc x → h ≡ 0 → ⊥
          not_both x h z o = omega arith

  within : number l h ≤ b → word / 2 ^ 63 ≡ 0
  within k =
      let z : h ≡ 0 = no_high l h b hb k in
      let i : l ≤ b = rw (alone l h z) at k in
      rw (without z) (no_top (bit_or l e) (or_lt 63 l e (lt_of_le_of_lt i hb) (small_rest l b e i he hb ee)))

  pub above_by_bits : word / 2 ^ 63 ≡ flag_above b (number l h)
  above_by_bits = go (ltb b (number l h)) refl
    where
      go : (t : Bool) → ltb b (number l h) ≡ t → word / 2 ^ 63 ≡ cond t 1 0
      go true t = beyond (ltb-true b _ t)
      go false t = within (ltb-false b _ t)

pub flag_fits : (b n f : ℕ) → f ≡ flag_above b n → f ≤ 1
flag_fits b n f e = rw e (go (ltb b n))
  where
    go : (t : Bool) → cond t 1 0 ≤ 1
    go true = omega arith
    go false = omega arith

-- ---- the digits

turned : (p r b : ℕ) → r < p → ltb (p - r) b ≡ ltb p (r + b)
turned p r b k = go (ltb p (r + b)) refl
  where
    go : (t : Bool) → ltb p (r + b) ≡ t → ltb (p - r) b ≡ ltb p (r + b)
    go true e = lt-ltb (p - r) b (omega (arith, ltb-true p (r + b) e)) ∙ sym e
    go false e = le-ltb (p - r) b (omega (arith, ltb-false p (r + b) e)) ∙ sym e

-- from the last one of a bound
not_last : (b n : ℕ) → 0 < b → b - 1 < n → b ≤ n
not_last b n h k = omega arith

last : (b n : ℕ) → 0 < b → n ≤ b - 1 → n < b
last b n h k = omega arith

module _ (b r : ℕ) (positive : 0 < b) (small : b ≤ 2 ^ 48) (k : r < p128) where
  abbrev low : ℕ
  low = flag_above (b - 1) (p128 - r)

  abbrev high : ℕ
  high = flag_above b r

  split : (f g : ℕ) → f ≤ 1 → ((f + 4294967296 * g) % 4294967296 ≡ f) × ((f + 4294967296 * g) / 4294967296 ≡ g)
  split f g h = (omega arith, omega arith)

  class_low : class_of b r % 4294967296 ≡ low
  class_low = (split low high (flag_fits (b - 1) (p128 - r) low refl)).0

  class_high : class_of b r / 4294967296 ≡ high
  class_high = (split low high (flag_fits (b - 1) (p128 - r) low refl)).1

  -- a digit of 0: not above
  not_above : (c n : ℕ) → flag_above c n ≡ 0 → n ≤ c
  not_above c n e = go (ltb c n) refl e
    where
      go : (t : Bool) → ltb c n ≡ t → ◌≡◌ {A = ℕ} (cond t 1 0) 0 → n ≤ c
      go true d o = absurd (omega arith)
      go false d o = ltb-false c n d

  class_sorted : Sorted r low high
  class_sorted =
      let f : low ≡ 0 → p128 - r < 2 ^ 48 = λ z. before (not_above (b - 1) (p128 - r) z) in
      let g : high ≡ 0 → r ≤ 2 ^ 48 = λ z. le_trans (not_above b r z) small in
      record { low_digit = flag_fits (b - 1) (p128 - r) low refl; high_digit = flag_fits b r high refl; negative = f; positive = g }
    where
      before : {n : ℕ} → n ≤ b - 1 → n < 2 ^ 48
      before h = omega arith

  class_result : sorted_result r low high ≡ narrowed b r
  class_result = go (ltb b r) (ltb (b - 1) (p128 - r)) refl refl
    where
      go : (s t : Bool) → ltb b r ≡ s → ltb (b - 1) (p128 - r) ≡ t → sorted_result r low high ≡ narrowed b r
      go false t d e = rw (d, le-leb r b (ltb-false b r d))
      go true true d e = rw (d, e, lt-leb r b (ltb-true b r d), ← turned p128 r b k, le-ltb (p128 - r) b (not_last b (p128 - r) positive (ltb-true (b - 1) (p128 - r) e)))
      go true false d e = rw (d, e, lt-leb r b (ltb-true b r d), ← turned p128 r b k, lt-ltb (p128 - r) b (last b (p128 - r) positive (ltb-false (b - 1) (p128 - r) e)))

-- the digits of a word that tells where a result lies
pub sorted_by : (b r k : ℕ) → 0 < b → b ≤ 2 ^ 48 → r < p128 → k ≡ class_of b r → Sorted r (k % 4294967296) (k / 4294967296)
sorted_by b r k h i j e = rw (e, class_low b r h i j, class_high b r h i j) (class_sorted b r h i j)

pub narrowed_by : (b r k : ℕ) → 0 < b → b ≤ 2 ^ 48 → r < p128 → k ≡ class_of b r → sorted_result r (k % 4294967296) (k / 4294967296) ≡ narrowed b r
narrowed_by b r k h i j e = rw (e, class_low b r h i j, class_high b r h i j) (class_result b r h i j)
