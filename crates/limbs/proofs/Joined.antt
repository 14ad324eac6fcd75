-- A test on elements of Field128 is three tests on their limbs. Assumes nothing.
use Rattle.std.proofs.Common.{◌≡◌, ℕ, zero, suc, ◌+◌, ◌*◌, ◌/◌, ◌%◌, ◌^◌, ◌<◌, ◌≤◌, Bool, true, false, List, [], ◌∷◌, map, length, sym, refl, ap, ◌∙◌, map-id, lt_of_lt_of_le, add-zero, le_of_lt, mod-eq_of_lt, div-lt_iff_lt-mul, arith, lit<, lit≤}
use native.Mathlib.Nat.{add-mul-mod_self_right}
use Rattle.field64.specs.Field.{p64, add_mod}
use Rattle.field64.proofs.Sums.{evaluate_below}
use Rattle.rows.specs.Rows.{Below}
use Rattle.field128.specs.Field128.{p128}
use Rattle.flp.specs.Bits.{groups}
use Rattle.flp.specs.Tests.{pairs, weigh, test_of, tests_of}
use Rattle.limbs.specs.Limbs.{limb, limbs, modulus_of, raise_low, raise_middle, raise_high, joined, joined_rows}
use Rattle.limbs.proofs.Readings.{Every, Stands, Bounded, Splits, sums, test_stands, test_raised, sums_split, join, lowered}

-- every number of a row, or every one of a row below n, is such
every : {A : Type 0} (P : A → Type 0) → ((z : A) → P z) → (zs : List A) → Every P zs
every P f [] = tt
every P f (z ∷ zs) = (f z, every P f zs)

every_below : (n : ℕ) (P : ℕ → Type 0) → ((x : ℕ) → x < n → P x) → (xs : List ℕ) → Below n xs → Every P xs
every_below n P f [] b = tt
every_below n P f (x ∷ xs) b = (f x b.0, every_below n P f xs b.1)

pub test_below : (p : ℕ) → 0 < p → (xs bytes : List ℕ) → test_of p xs bytes < p
unfolding test_of
test_below p h xs bytes = evaluate_below p 1 h (weigh p (pairs bytes) xs)

-- numbers without a second part
abbrev none : ℕ → ℕ
none x = 0

-- an element without its lowest limb
abbrev upper : ℕ → ℕ
upper x = x / 2 ^ 43

stands : (p x : ℕ) → x ≤ p → Stands p x x 0
stands p x h = (h, rw (add-zero x))

limb_small : (k x : ℕ) → limb k x < 2 ^ 43
limb_small zero x = omega arith
limb_small (suc k) x = limb_small k (x / 2 ^ 43)

pub limbs_below : (k : ℕ) (xs : List ℕ) → Below p64 (limbs k xs)
limbs_below k [] = tt
limbs_below k (x ∷ xs) = (lt_of_lt_of_le (limb_small k x) (lit≤ tt), limbs_below k xs)

low_splits : (x : ℕ) → Splits (2 ^ 43) (λ x. x) none (limb 0) none upper none x
low_splits x = omega arith

-- the limbs above two have nothing left
high_splits : (x : ℕ) → x < 2 ^ 128 → Splits (2 ^ 43) upper none (limb 1) none (limb 2) none x
high_splits x h = go (x / 2 ^ 43) ((div-lt_iff_lt-mul (omega arith)).1 (lt_of_lt_of_le h (lit≤ tt)))
  where
    go : (y : ℕ) → y < 2 ^ 86 → y + (0 + 2 ^ 43 * 0) ≡ 0 + (y % 2 ^ 43 + 2 ^ 43 * (y / 2 ^ 43 % 2 ^ 43))
    go y h = omega arith

-- both moduli have room for the sums
pub enough : (reduced : Bool) → 2 ^ 62 ≤ modulus_of reduced
enough true = lit≤ tt
enough false = lit≤ tt

module _ (m : ℕ) (room : 2 ^ 62 ≤ m) (bytes xs : List ℕ) (below : Below p128 xs) (few : length xs ≤ 65536) where
  limb_raised : (k raise : ℕ) → 2 ^ 59 ≤ raise → raise + raise < 2 ^ 62 → add_mod m (test_of m (limbs k xs) bytes) raise + sums none (limb k) (pairs bytes) xs ≡ sums (limb k) none (pairs bytes) xs + raise
  limb_raised k raise h twice =
      test_raised m (omega arith) (limb k) (limb k) none (2 ^ 43) raise bytes xs
      (every (λ x. Stands m (limb k x) (limb k x) 0) (λ x. stands m (limb k x) (omega (arith, limb_small k x))) xs)
      (every (Bounded (limb k) none (2 ^ 43)) (λ x. (le_of_lt (limb_small k x), omega arith)) xs) (omega arith) (omega arith)

  whole : (add_mod m (test_of m (limbs 0 xs) bytes) raise_low + 2 ^ 43 * (add_mod m (test_of m (limbs 1 xs) bytes) raise_middle + 2 ^ 43 * add_mod m (test_of m (limbs 2 xs) bytes) raise_high))
      + sums none (λ x. x) (pairs bytes) xs ≡ sums (λ x. x) none (pairs bytes) xs + (raise_low + 2 ^ 43 * (raise_middle + 2 ^ 43 * raise_high))
  whole =
      let cs = pairs bytes in
      join (2 ^ 43) _ _ raise_low (raise_middle + 2 ^ 43 * raise_high) (sums (λ x. x) none cs xs) (sums none (λ x. x) cs xs) (sums (limb 0) none cs xs) (sums none (limb 0) cs xs) (sums upper none cs xs) (sums none upper cs xs)
      (sums_split (2 ^ 43) (λ x. x) none (limb 0) none upper none cs xs (every (Splits (2 ^ 43) (λ x. x) none (limb 0) none upper none) low_splits xs))
      (limb_raised 0 raise_low (lit≤ tt) (lit< tt))
      (join (2 ^ 43) _ _ raise_middle raise_high (sums upper none cs xs) (sums none upper cs xs) (sums (limb 1) none cs xs) (sums none (limb 1) cs xs) (sums (limb 2) none cs xs) (sums none (limb 2) cs xs)
      (sums_split (2 ^ 43) upper none (limb 1) none (limb 2) none cs xs (every_below p128 (Splits (2 ^ 43) upper none (limb 1) none (limb 2) none) (λ x h. high_splits x (lt_of_lt_of_le h (lit≤ tt))) xs below))
      (limb_raised 1 raise_middle (lit≤ tt) (lit< tt)) (limb_raised 2 raise_high (lit≤ tt) (lit< tt)))

  itself : (test_of p128 xs bytes + sums none (λ x. x) (pairs bytes) xs) % p128 ≡ sums (λ x. x) none (pairs bytes) xs % p128
  itself =
      ap (λ (ys : List ℕ). (test_of p128 ys bytes + sums none (λ x. x) (pairs bytes) xs) % p128) (sym (map-id xs))
      ∙ test_stands p128 (lit< tt) (λ x. x) (λ x. x) none bytes xs (every_below p128 (λ x. Stands p128 x x 0) (λ x h. stands p128 x (le_of_lt h)) xs below)

  test_joined : joined m (test_of m (limbs 0 xs) bytes) (test_of m (limbs 1 xs) bytes) (test_of m (limbs 2 xs) bytes) ≡ test_of p128 xs bytes
  unfolding joined
  test_joined =
      lowered p128 (lit< tt) (test_of p128 xs bytes) _ (2 ^ 18 * p128) (sums (λ x. x) none (pairs bytes) xs) (sums none (λ x. x) (pairs bytes) xs) itself whole
      ∙ add-mul-mod_self_right (test_of p128 xs bytes) (2 ^ 18) p128 ∙ mod-eq_of_lt (test_below p128 (lit< tt) xs bytes)

pub tests_joined : (m : ℕ) → 2 ^ 62 ≤ m → (per T : ℕ) (stream xs : List ℕ) → Below p128 xs → length xs ≤ 65536
    → joined_rows m (tests_of m per T stream (limbs 0 xs)) (tests_of m per T stream (limbs 1 xs)) (tests_of m per T stream (limbs 2 xs)) ≡ tests_of p128 per T stream xs
unfolding tests_of
tests_joined m room per T stream xs below few = go (groups per T stream)
  where
    go : (gs : List (List ℕ)) → joined_rows m (map (test_of m (limbs 0 xs)) gs) (map (test_of m (limbs 1 xs)) gs) (map (test_of m (limbs 2 xs)) gs) ≡ map (test_of p128 xs) gs
    go [] = refl
    go (g ∷ gs) = (λ i. test_joined m room g xs below few i ∷ go gs i)
