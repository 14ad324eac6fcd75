-- Rows of limbs, and the results on limbs put together, with the loops over rows of them. Assumes nothing.
use Rattle.std.proofs.Common.{◌≡◌, ℕ, zero, suc, ◌+◌, ◌*◌, ◌%◌, ◌^◌, ◌<◌, ◌≤◌, List, [], ◌∷◌, length, get_or, set, sym, refl, ap, ◌∙◌, lt_of_lt_of_le, mod-lt, zero-add, arith, lit<, lit≤}
use lib.ListN.{length-map}
use Rattle.field64.specs.Field.{add_mod}
use Rattle.field64.proofs.Modular.{modular}
use Rattle.rows.specs.Rows.{Below}
use Rattle.rows.proofs.Elements.{below_at}
use Rattle.rows.proofs.Walk.{Walking, walking_next, walked_end}
use Rattle.field128.specs.Field128.{p128, number, elements_of, words_of, Whole}
use Rattle.rows128.proofs.ByPairs.{same_elements, element_next, words_end}
use Rattle.limbs.proofs.Summed.{map_at}
use Rattle.limbs.specs.Limbs.{limb, limbs, raise_low, raise_middle, raise_high, joined, joined_rows, SameLength}

-- ---- rows of limbs

pub length_limbs : (k : ℕ) (xs : List ℕ) → length (limbs k xs) ≡ length xs
length_limbs k xs = length-map xs (limb k)

-- ---- a loop that writes a row of limbs: d was the row, a is it so far

module _ (k : ℕ) (words d a : List ℕ) (i : ℕ) (same : length d ≡ length (elements_of words)) (w : Walking (limbs k (elements_of words)) d a i) where
  as_long : length (limbs k (elements_of words)) ≡ length d
  as_long = length_limbs k (elements_of words) ∙ sym same

  pub element_inside : i < length a → i < length (elements_of words)
  element_inside h = omega (arith, w.1, same)

  pub limbs_next : i < length a → (x r : ℕ) → x ≡ get_or (elements_of words) i 0 → r ≡ limb k x → Walking (limbs k (elements_of words)) d (set a i r) (i + 1)
  limbs_next h x r e f = walking_next 0 (limbs k (elements_of words)) d a i r as_long w h (f ∙ ap (limb k) e ∙ sym (map_at (limb k) 0 (elements_of words) i (element_inside h)))

  pub limbs_end : length a ≤ i → a ≡ limbs k (elements_of words)
  limbs_end h = w.2 ∙ walked_end (limbs k (elements_of words)) d i as_long (omega (arith, w.0, w.1))

-- ---- the results put together

pub word_below : (n : ℕ) → n < 2 ^ 64 → number n 0 < p128
word_below n h = rw (zero-add n) (lt_of_lt_of_le h (lit≤ tt))

pub shifted_below : (n m : ℕ) → n < 2 ^ 64 → m ≡ 2 ^ 43 * n → m < p128
shifted_below n m h e =
    let l : m < 2 ^ 107 = omega arith in
    lt_of_lt_of_le l (lit≤ tt)

pub remainder_below : (n m : ℕ) → n ≡ m % p128 → n < p128
remainder_below n m e = rw e (mod-lt m (lit< tt))

pub joined_is : (m low middle high a b c y s t r : ℕ) → a ≡ add_mod m low raise_low → b ≡ add_mod m middle raise_middle → c ≡ add_mod m high raise_high
    → y ≡ 2 ^ 43 * b → s ≡ add_mod p128 (number a 0) y → t ≡ 2 ^ 43 * (2 ^ 43 * c) % p128 → r ≡ add_mod p128 s t → r ≡ joined m low middle high
unfolding joined
joined_is m low middle high a b c y s t r ea eb ec ey es et er =
    let order : 0 + a + 2 ^ 43 * b + 2 ^ 43 * (2 ^ 43 * c) ≡ a + 2 ^ 43 * (b + 2 ^ 43 * c) = omega arith in
    let put : add_mod p128 s t ≡ (a + 2 ^ 43 * (b + 2 ^ 43 * c)) % p128 = rw (es, et, ey) (simp modular (ap (λ (n : ℕ). n % p128) order)) in
    er ∙ put ∙ (λ i. (ea i + 2 ^ 43 * (eb i + 2 ^ 43 * ec i)) % p128)

-- ---- a loop that puts rows of results together: d was the row of words, a is it so far

module _ (m : ℕ) where
  length_joined : (n : ℕ) (xs ys zs : List ℕ) → SameLength n xs ys zs → length (joined_rows m xs ys zs) ≡ n
  length_joined n [] ys zs e = e.0
  length_joined n (x ∷ xs) [] zs e = absurd (omega (arith, e.0, e.1.0))
  length_joined n (x ∷ xs) (y ∷ ys) [] e = absurd (omega (arith, e.0, e.1.1))
  length_joined n (x ∷ xs) (y ∷ ys) (z ∷ zs) e = ap suc (length_joined (length xs) xs ys zs (refl, (omega (arith, e), omega (arith, e)))) ∙ e.0

  joined_at : (n : ℕ) (xs ys zs : List ℕ) → SameLength n xs ys zs → (i : ℕ) → i < n → get_or (joined_rows m xs ys zs) i 0 ≡ joined m (get_or xs i 0) (get_or ys i 0) (get_or zs i 0)
  joined_at n [] ys zs e i k = absurd (omega (arith, e.0))
  joined_at n (x ∷ xs) [] zs e i k = absurd (omega (arith, e.0, e.1.0))
  joined_at n (x ∷ xs) (y ∷ ys) [] e i k = absurd (omega (arith, e.0, e.1.1))
  joined_at n (x ∷ xs) (y ∷ ys) (z ∷ zs) e zero k = refl
  joined_at n (x ∷ xs) (y ∷ ys) (z ∷ zs) e (suc i) k = joined_at (length xs) xs ys zs (refl, (omega (arith, e), omega (arith, e))) i (omega (arith, e.0))

module _ (m : ℕ) (ls ms hs d a : List ℕ) (i : ℕ) (whole : Whole d) (same : SameLength (length (elements_of d)) ls ms hs) (w : Walking (words_of (joined_rows m ls ms hs)) d a (2 * i)) where
  long : length (joined_rows m ls ms hs) ≡ length (elements_of d)
  long = length_joined m (length (elements_of d)) ls ms hs same

  module _ (h : i < length ls) where
    inside : i < length (elements_of d)
    inside = omega (arith, same.0)

    pub rows_inside : (i < length ms) × ((i < length hs) × (i < length (elements_of a)))
    rows_inside = (omega (arith, same), (omega (arith, same), omega (arith, inside, same_elements (joined_rows m ls ms hs) d a i whole long w)))

    pub results_below : Below m ls × (Below m ms × Below m hs) → (get_or ls i 0 < m) × ((get_or ms i 0 < m) × (get_or hs i 0 < m))
    results_below b = (below_at m ls b.0 i h, (below_at m ms b.1.0 i rows_inside.0, below_at m hs b.1.1 i rows_inside.1.0))

    pub joined_next : (low high : ℕ) (a' : List ℕ) → low < 2 ^ 64 → number low high ≡ joined m (get_or ls i 0) (get_or ms i 0) (get_or hs i 0) → a' ≡ set (set a (2 * i) low) (2 * i + 1) high → Walking (words_of (joined_rows m ls ms hs)) d a' (2 * (i + 1))
    joined_next low high a' k e f = rw f (element_next (joined_rows m ls ms hs) d a i whole long w inside low high k (e ∙ sym (joined_at m (length (elements_of d)) ls ms hs same i inside)))

  pub joined_end : length ls ≤ i → a ≡ words_of (joined_rows m ls ms hs)
  joined_end h = words_end (joined_rows m ls ms hs) d a i whole long w (omega (arith, same.0))
