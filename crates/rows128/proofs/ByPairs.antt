-- An element by its words, and a loop that replaces each element x of a row d by f x y, for y that of a row s of the same length; both rows hold two words to an element. Assumes nothing.
use Rattle.std.proofs.Common.{◌≡◌, ℕ, zero, suc, ◌+◌, ◌*◌, ◌/◌, ◌%◌, ◌^◌, ◌<◌, ◌≤◌, List, [], ◌∷◌, length, get_or, set, sym, refl, ap, ◌∙◌, arith}
use lib.Arith.{digits_div, digits_mod}
use Rattle.rows.specs.Rows.{Below, by_element}
use Rattle.rows.proofs.Elements.{below_at}
use Rattle.rows.proofs.ByElement.{length_by, get_or_by}
use Rattle.rows.proofs.Walk.{walked, Walking, walking_next, walked_end}
use Rattle.field128.specs.Field128.{number, elements_of, words_of, Whole}
use Rattle.field128.proofs.Pairs.{element_at, same_number, words_length, word_low, word_high}

-- the element that two words make
pub element_by_words : (ws : List ℕ) (i low high : ℕ) → i < length (elements_of ws) → (low ≡ get_or ws (2 * i) 0) × (high ≡ get_or ws (2 * i + 1) 0) → number low high ≡ get_or (elements_of ws) i 0
element_by_words ws i low high h e = (λ j. number (e.0 j) (e.1 j)) ∙ sym (element_at ws i h)

-- what stands past i is as it was
walked_past : (R d : List ℕ) (i j : ℕ) → length R ≡ length d → i ≤ j → j < length d → get_or (walked R d i) j 0 ≡ get_or d j 0
walked_past R d zero j e l h = refl
walked_past [] [] (suc i) j e l h = absurd (omega arith)
walked_past [] (x ∷ d) (suc i) j e l h = absurd (omega arith)
walked_past (r ∷ R) [] (suc i) j e l h = absurd (omega arith)
walked_past (r ∷ R) (x ∷ d) (suc i) zero e l h = absurd (omega arith)
walked_past (r ∷ R) (x ∷ d) (suc i) (suc j) e l h = walked_past R d i j (omega arith) (omega arith) (omega arith)

-- ---- any loop in place by elements: xs is what the elements of d are to become

module _ (xs d a : List ℕ) (i : ℕ) (whole : Whole d) (same : length xs ≡ length (elements_of d)) (inv : Walking (words_of xs) d a (2 * i)) where
  words_same : length (words_of xs) ≡ length d
  words_same = words_length xs ∙ ap (λ (n : ℕ). 2 * n) same ∙ sym whole

  pub same_elements : length (elements_of a) ≡ length (elements_of d)
  same_elements = same_number a d inv.1

  -- the words that stand at i, and the element, are as they were
  pub words_kept : i < length (elements_of d) → (get_or a (2 * i) 0 ≡ get_or d (2 * i) 0) × (get_or a (2 * i + 1) 0 ≡ get_or d (2 * i + 1) 0)
  words_kept h = (
    rw inv.2 (walked_past (words_of xs) d (2 * i) (2 * i) words_same (omega arith) (omega arith)),
    rw inv.2 (walked_past (words_of xs) d (2 * i) (2 * i + 1) words_same (omega arith) (omega arith)),
  )

  pub element_kept : i < length (elements_of d) → get_or (elements_of a) i 0 ≡ get_or (elements_of d) i 0
  element_kept h =
      let k = words_kept h in
      element_at a i (omega (arith, same_elements)) ∙ element_by_words d i _ _ h k

  -- a turn: two words are stored
  pub element_next : i < length (elements_of d) → (low high : ℕ) → low < 2 ^ 64 → number low high ≡ get_or xs i 0 → Walking (words_of xs) d (set (set a (2 * i) low) (2 * i + 1) high) (2 * (i + 1))
  element_next h low high k e =
      let f : low ≡ get_or (words_of xs) (2 * i) 0 = sym (word_low xs i (omega arith) ∙ ap (λ (n : ℕ). n % 2 ^ 64) (sym e) ∙ digits_mod high k) in
      let g : high ≡ get_or (words_of xs) (2 * i + 1) 0 = sym (word_high xs i (omega arith) ∙ ap (λ (n : ℕ). n / 2 ^ 64) (sym e) ∙ digits_div high k) in
      let w : Walking (words_of xs) d (set a (2 * i) low) (2 * i + 1) = walking_next 0 (words_of xs) d a (2 * i) low words_same inv (omega arith) f in
      let v : Walking (words_of xs) d (set (set a (2 * i) low) (2 * i + 1) high) (2 * i + 1 + 1) = walking_next 0 (words_of xs) d (set a (2 * i) low) (2 * i + 1) high words_same w (omega arith) g in
      rw (step i) v
    where
      step : (i : ℕ) → 2 * (i + 1) ≡ 2 * i + 1 + 1
      step i = omega arith

  pub words_end : length (elements_of d) ≤ i → a ≡ words_of xs
  words_end h = inv.2 ∙ walked_end (words_of xs) d (2 * i) words_same (omega (arith, inv.0))

-- ---- two rows made one

-- the elements are f of both up to i, and as they were from there
abbrev pub Pairing : (f : ℕ → ℕ → ℕ) (d s a : List ℕ) (i : ℕ) → Type 0
Pairing f d s a i = Walking (words_of (by_element f (elements_of d) (elements_of s))) d a (2 * i)

module _ (f : ℕ → ℕ → ℕ) (d s a : List ℕ) (i : ℕ) (whole : Whole d) (same : length d ≡ length s) (inv : Pairing f d s a i) where
  abbrev made : List ℕ
  made = by_element f (elements_of d) (elements_of s)

  alike : length (elements_of d) ≡ length (elements_of s)
  alike = same_number d s same

  long : length made ≡ length (elements_of d)
  long = length_by f (elements_of d) (elements_of s) alike

  -- both rows have an element at i
  pub pairing_room : i < length (elements_of d) → (i < length (elements_of a)) × (i < length (elements_of s))
  pairing_room h = (omega (arith, same_elements made d a i whole long inv), omega (arith, alike))

  -- and the words of the first are as they were
  pub pairing_kept : i < length (elements_of d) → (get_or a (2 * i) 0 ≡ get_or d (2 * i) 0) × (get_or a (2 * i + 1) 0 ≡ get_or d (2 * i + 1) 0)
  pairing_kept h = words_kept made d a i whole long inv h

  pub pairing_below : (n x y : ℕ) → Below n (elements_of d) × Below n (elements_of s) → i < length (elements_of d) → x ≡ get_or (elements_of a) i 0 → y ≡ get_or (elements_of s) i 0 → (x < n) × (y < n)
  pairing_below n x y b h e g = (
    rw (e, element_kept made d a i whole long inv h) (below_at n (elements_of d) b.0 i h),
    rw g (below_at n (elements_of s) b.1 i (omega (arith, alike))),
  )

  pub pairing_next : (x y low high : ℕ) → i < length (elements_of d) → x ≡ get_or (elements_of a) i 0 → y ≡ get_or (elements_of s) i 0 → low < 2 ^ 64 → number low high ≡ f x y → Pairing f d s (set (set a (2 * i) low) (2 * i + 1) high) (i + 1)
  pairing_next x y low high h e g k r = element_next made d a i whole long inv h low high k (r ∙ (λ j. f ((e ∙ element_kept made d a i whole long inv h) j) (g j)) ∙ sym (get_or_by f (elements_of d) (elements_of s) i alike h))

  pub pairing_end : length (elements_of d) ≤ i → a ≡ words_of (by_element f (elements_of d) (elements_of s))
  pairing_end = words_end made d a i whole long inv
