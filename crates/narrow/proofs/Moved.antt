-- A result moved from one modulus to another is in range where it was, and is written as it was; so rows of them have the same rules and bits. Assumes nothing.
use Rattle.std.proofs.Common.{◌≡◌, ℕ, suc, ◌+◌, ◌-◌, ◌*◌, ◌%◌, ◌<◌, ◌≤◌, Bool, true, false, ltb, leb, List, [], ◌∷◌, map, sym, refl, ◌∙◌, mod-eq_of_lt, arith, ltb-false, ltb-true, le-ltb, lt-ltb, le-leb, leb-false, leb-true}
use native.Mathlib.Nat.{add-mod_left}
use borrow.Author.Tests.{lt-leb}
use Rattle.pine.specs.declared.WrTestRule.{WrTestRule}
use Rattle.pine.specs.declared.WrTestRule.TheVariants.{Every, Enough}
use Rattle.rows.specs.Rows.{Below}
use Rattle.flp.specs.Encode.{in_range, written, still_to_give, test_bits, count_in_range, every_rule, enough_rule, range_rule}
use Rattle.narrow.specs.Narrow.{moved}

-- once around n
wrapped : (x n rest : ℕ) → x ≡ n + rest → rest < n → x % n ≡ rest
wrapped x n rest e h = rw e (add-mod_left n rest ∙ mod-eq_of_lt h)

module _ (p q b out : ℕ) (positive : 0 < b) (room-p : 2 * b ≤ p) (room-q : 2 * b ≤ q) (above : b < out) (below : out + b ≤ q) where
  -- of one result
  record Same (r : ℕ) : Type 0 where
    range : in_range q b (moved p q b out r) ≡ in_range p b r
    number : written q b (moved p q b out r) ≡ written p b r
    small : moved p q b out r < q

  low : (r : ℕ) → r ≤ b → Same r
  low r h =
      let e : leb r b ≡ true = le-leb r b h in
      let f : (r + (b - 1)) % q ≡ (r + (b - 1)) % p = mod-eq_of_lt (omega arith) ∙ sym (mod-eq_of_lt (omega arith)) in
      record { range = rw (e, e); number = rw (e, e, f); small = rw e (omega arith) }

  negative : (r : ℕ) → r < p → b < r → p < r + b → Same r
  negative r k h g =
      let e : leb r b ≡ false = lt-leb r b h in
      let f : ltb p (r + b) ≡ true = lt-ltb p (r + b) g in
      let i : leb (q - (p - r)) b ≡ false = lt-leb (q - (p - r)) b (omega arith) in
      let j : ltb q (q - (p - r) + b) ≡ true = lt-ltb q (q - (p - r) + b) (omega arith) in
      let s : (q - (p - r) + (b - 1)) % q ≡ (r + (b - 1)) % p = wrapped (q - (p - r) + (b - 1)) q (b - 1 - (p - r)) (omega arith) (omega arith) ∙ sym (wrapped (r + (b - 1)) p (b - 1 - (p - r)) (omega arith) (omega arith)) in
      record { range = rw (e, f, i, j); number = rw (e, f, i, j, s); small = rw (e, f) (omega arith) }

  far : (r : ℕ) → b < r → r + b ≤ p → Same r
  far r h g =
      let e : leb r b ≡ false = lt-leb r b h in
      let f : ltb p (r + b) ≡ false = le-ltb p (r + b) g in
      let i : leb out b ≡ false = lt-leb out b above in
      let j : ltb q (out + b) ≡ false = le-ltb q (out + b) below in
      record { range = rw (e, f, i, j); number = rw (e, f, i, j); small = rw (e, f) (omega arith) }

  same : (r : ℕ) → r < p → Same r
  same r k = go (leb r b) (ltb p (r + b)) refl refl
    where
      go : (s t : Bool) → leb r b ≡ s → ltb p (r + b) ≡ t → Same r
      go true t e f = low r (leb-true r b e)
      go false true e f = negative r k (leb-false r b e) (ltb-true p (r + b) f)
      go false false e f = far r (leb-false r b e) (ltb-false p (r + b) f)

  -- of a row
  abbrev moved_row : List ℕ → List ℕ
  moved_row rs = map (λ r. moved p q b out r) rs

  pub moved_below : (rs : List ℕ) → Below p rs → Below q (moved_row rs)
  moved_below [] f = tt
  moved_below (r ∷ rs) f = ((same r f.0).small, moved_below rs f.1)

  count_same : (rs : List ℕ) → Below p rs → count_in_range q b (moved_row rs) ≡ count_in_range p b rs
  unfolding count_in_range
  count_same [] f = refl
  count_same (r ∷ rs) f = rw ((same r f.0).range, count_same rs f.1)

  every_same : (k : ℕ) (rs : List ℕ) → Below p rs → every_rule q b k (moved_row rs) ≡ every_rule p b k rs
  unfolding every_rule
  every_same k [] f = refl
  every_same k (r ∷ rs) f = rw ((same r f.0).range, every_same (suc k) rs f.1)

  -- rules 11 and 20
  pub range_same : (rule : WrTestRule) (K : ℕ) (rs : List ℕ) → Below p rs → range_rule rule q b K (moved_row rs) ≡ range_rule rule p b K rs
  unfolding range_rule enough_rule
  range_same Every K rs f = every_same 0 rs f
  range_same Enough K rs f = rw (count_same rs f)

  pub bits_same : (w k : ℕ) (rs : List ℕ) → Below p rs → test_bits q w b k (moved_row rs) ≡ test_bits p w b k rs
  unfolding test_bits
  bits_same w k [] f = refl
  bits_same w k (r ∷ rs) f = rw ((same r f.0).number, (same r f.0).range, bits_same w (still_to_give (in_range p b r) k) rs f.1)
