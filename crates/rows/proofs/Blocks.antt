-- Laws of how rule 12 is tested: carries, and those of a row part by part. Assumes nothing.
use Rattle.std.proofs.Common.{◌≡◌, ℕ, ◌+◌, ◌-◌, ◌/◌, ◌%◌, ◌^◌, ◌<◌, ◌≤◌, Bool, true, false, ltb, List, length, get_or, take, drop, sym, refl, ap, ◌∙◌, subst, arith, length-drop, length-take-le, get_or-drop, take_all, get_or-take, ltb-false, ltb-true}
use lib.Bits.{bit_and, bit_or, and_shr, and_self, and_le_l, and_le_r, or_add_and, or_lt}
use Rattle.rows.specs.Rows.{Below}
use Rattle.rows.proofs.Elements.{below_all, below_at, below_take, below_drop}

-- ---- a word that is not below q wraps when g is added, q and g being 2 ^ 64 together
module _ (q g x s : ℕ) (all : q + g ≡ 2 ^ 64) (small : g ≤ 2 ^ 63) (w : s ≡ (x + g) % 2 ^ 64) where
  no_carry : x < 2 ^ 64 → bit_and x (18446744073709551615 - s) < 2 ^ 63 → x < q
  no_carry h k = go (ltb x q) refl
    where
      go : (t : Bool) → ltb x q ≡ t → x < q
      go true e = ltb-true x q e
      go false e =
          let l : q ≤ x = ltb-false x q e in
          let a : x / 2 ^ 63 ≡ 1 = omega arith in
          let b : (18446744073709551615 - s) / 2 ^ 63 ≡ 1 = omega arith in
          let o : bit_and x (18446744073709551615 - s) / 2 ^ 63 ≡ bit_and 1 1 = and_shr x _ 63 ∙ rw (a, b) in
          absurd (omega (arith, o ∙ and_self 1))

  -- and one below q does not
  no_carry_below : x < q → bit_and x (18446744073709551615 - s) < 2 ^ 63
  no_carry_below h = go (ltb x (2 ^ 63)) refl
    where
      go : (t : Bool) → ltb x (2 ^ 63) ≡ t → bit_and x (18446744073709551615 - s) < 2 ^ 63
      go true e = omega (arith, ltb-true x _ e, and_le_l x (18446744073709551615 - s))
      go false e =
          let l : 2 ^ 63 ≤ x = ltb-false x _ e in
          let b : 18446744073709551615 - s < 2 ^ 63 = omega arith in
          omega (arith, and_le_r x (18446744073709551615 - s))

or_left : (a b : ℕ) → a ≤ bit_or a b
or_left a b = omega (arith, or_add_and a b, and_le_r a b)

or_right : (a b : ℕ) → b ≤ bit_or a b
or_right a b = omega (arith, or_add_and a b, and_le_l a b)

-- one element more
below_next : (n : ℕ) (xs : List ℕ) (i : ℕ) → ((j : ℕ) → j < i → get_or xs j 0 < n) → get_or xs i 0 < n → (j : ℕ) → j < i + 1 → get_or xs j 0 < n
below_next n xs i f h j k = go (ltb j i) refl
  where
    go : (t : Bool) → ltb j i ≡ t → get_or xs j 0 < n
    go true e = f j (ltb-true j i e)
    go false e =
        let s : j ≡ i = omega (arith, ltb-false j i e) in
        rw s h

-- what `or_carry` gives
pub carry_gives : (q g seen x s : ℕ) → q + g ≡ 2 ^ 64 → g ≤ 2 ^ 63 → x < 2 ^ 64 → s ≡ (x + g) % 2 ^ 64
    → (bit_or seen (bit_and x (18446744073709551615 - s)) < 2 ^ 63 → (seen < 2 ^ 63) × (x < q)) × ((seen < 2 ^ 63) × (x < q) → bit_or seen (bit_and x (18446744073709551615 - s)) < 2 ^ 63)
carry_gives q g seen x s all small h w =
    let b = bit_and x (18446744073709551615 - s) in (
      λ k. (omega (arith, or_left seen b), no_carry q g x s all small w h (omega (arith, or_right seen b))),
      λ k. or_lt 63 seen b k.0 (no_carry_below q g x s all small w k.1),
    )

-- ---- a row of which the first i elements were seen

abbrev pub Seen : (p : ℕ) (row : List ℕ) (i seen : ℕ) → Type 0
Seen p row i seen = (seen < 2 ^ 63 → (j : ℕ) → j < i → get_or row j 0 < p) × (Below p row → seen < 2 ^ 63)

pub seen_none : (p : ℕ) (row : List ℕ) → Seen p row 0 0
seen_none p row = (λ k j h. absurd (omega arith), λ k. omega arith)

pub seen_next : (p : ℕ) (row : List ℕ) (i seen x r : ℕ) → i < length row → x ≡ get_or row i 0 → (r < 2 ^ 63 → (seen < 2 ^ 63) × (x < p)) → ((seen < 2 ^ 63) × (x < p) → r < 2 ^ 63) → Seen p row i seen → Seen p row (i + 1) r
seen_next p row i seen x r h e f g s = (
  λ k. below_next p row i (s.0 (f k).0) (subst (λ (n : ℕ). n < p) e (f k).1),
  λ k. g (s.1 k, subst (λ (n : ℕ). n < p) (sym e) (below_at p row k i h)),
)

pub seen_all : (p : ℕ) (row : List ℕ) (i seen : ℕ) → length row ≤ i → Seen p row i seen → (seen < 2 ^ 63 → Below p row) × (Below p row → seen < 2 ^ 63)
seen_all p row i seen h s = (λ k. below_all p row (λ j l. s.0 k j (omega arith)), s.1)

-- ---- a row part by part

-- a row from an index on
pub rest_is : (row : List ℕ) (at : ℕ) → take (length row - at) (drop at row) ≡ drop at row
rest_is row at =
    let l : length (drop at row) ≤ length row - at = rw (length-drop at row) (omega arith) in
    take_all (length row - at) (drop at row) l

-- r is what the part from at to end gives
module _ (p : ℕ) (row : List ℕ) (at end seen r : ℕ) (inside : (at ≤ end) × (end ≤ length row)) where
  abbrev part : List ℕ
  part = take (end - at) (drop at row)

  long : length part ≡ end - at
  long =
      let l : end - at ≤ length (drop at row) = rw (length-drop at row) (omega (arith, inside)) in
      length-take-le (end - at) (drop at row) l

  -- an element of the part
  in_part : (j : ℕ) → at ≤ j → j < end → Below p part → get_or row j 0 < p
  in_part j h k b =
      let l : j - at < length part = rw long (omega arith) in
      let e : get_or part (j - at) 0 ≡ get_or row j 0 = get_or-take (end - at) (drop at row) (j - at) 0 (omega arith) ∙ get_or-drop at row (j - at) 0 ∙ ap (λ (n : ℕ). get_or row n 0) (omega arith) in
      subst (λ (n : ℕ). n < p) e (below_at p part b (j - at) l)

  pub seen_part : (r < 2 ^ 63 → Below p part) → (Below p part → r < 2 ^ 63) → Seen p row at seen → Seen p row end (bit_or seen r)
  seen_part f g s = (λ k j l. go k j l (ltb j at) refl, λ b. or_lt 63 seen r (s.1 b) (g (below_take p (end - at) (drop at row) (below_drop p at row b))))
    where
      go : bit_or seen r < 2 ^ 63 → (j : ℕ) → j < end → (t : Bool) → ltb j at ≡ t → get_or row j 0 < p
      go k j l true e = s.0 (omega (arith, or_left seen r)) j (ltb-true j at e)
      go k j l false e = in_part j (ltb-false j at e) l (f (omega (arith, or_right seen r)))
