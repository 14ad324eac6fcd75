-- The tests of few bytes, byte by byte. Assumes nothing.
use mathlib.Core.Path.{◌≡◌, refl, sym, ap, ◌∙◌}
use mathlib.Core.List.{List, [], ◌∷◌}
use Prim.Native.Nat.{ℕ, zero, suc, ◌+◌, ◌*◌, ◌-◌, ◌/◌, ◌%◌, ◌≤◌, ◌<◌}
use native.Mathlib.Nat.{add-zero, mod-eq_of_lt}
use native.Mathlib.Omega.{arith}
use lib.ListN.{length, get_or, take, drop, set}
use lib.Dec.{lit<}
use borrow.Author.Tests.{ne_eqb}
use Rattle.field64.specs.Field.{p64}
use Rattle.sums.specs.declared.Total.{Total}
use Rattle.sums.specs.Unreduced.{total_of}
use Rattle.rows.proofs.Walk.{Walking}
use Rattle.flp.specs.Bits.{groups}
use Rattle.flp.specs.Tests.{pairs, weighed, weigh, test_of, tests_of}
use Rattle.groups.specs.Groups.{each_test}
use Rattle.groups.proofs.Each.{inside, bytes_long, each_next, each_end}
use Rattle.weights.proofs.Weights.{length_pairs, sum_start, sum_next, sum_end}
use Rattle.byte_columns.specs.ByteColumns.{PlusPair, Summed}

-- ---- what a pair makes of a coordinate

pub three_adds : (pair x : ℕ) → pair ≡ 3 → x < p64 → x % p64 ≡ weighed p64 pair x
unfolding weighed
three_adds pair x e h = rw e (mod-eq_of_lt h)

pub zero_subtracts : (pair x : ℕ) → pair ≡ 0 → (p64 - x) % p64 ≡ weighed p64 pair x
unfolding weighed
zero_subtracts pair x e =
    let same : p64 - x ≡ 0 + (p64 - x) = omega arith in
    rw e (ap (λ (n : ℕ). n % p64) same)

pub others_skip : (pair x : ℕ) → (pair ≡ 0 → ⊥) → (pair ≡ 3 → ⊥) → 0 % p64 ≡ weighed p64 pair x
unfolding weighed
others_skip pair x f g = rw (ne_eqb pair 0 f, ne_eqb pair 3 g) refl

-- ---- the elements of a test, as its pairs have them

-- the pairs of byte j
pairs_of : (bytes : List ℕ) (j : ℕ) → j < length bytes → (get_or (pairs bytes) (4 * j) 0 ≡ get_or bytes j 0 % 4) × (get_or (pairs bytes) (4 * j + 1) 0 ≡ get_or bytes j 0 / 4 % 4) × (get_or (pairs bytes) (4 * j + 2) 0 ≡ get_or bytes j 0 / 16 % 4) × (get_or (pairs bytes) (4 * j + 3) 0 ≡ get_or bytes j 0 / 64 % 4)
unfolding pairs
pairs_of [] j h = absurd (omega arith)
pairs_of (b ∷ bs) zero h = (refl, refl, refl, refl)
pairs_of (b ∷ bs) (suc j) h =
    let w = pairs_of bs j (omega arith) in
    let e : 4 * suc j ≡ suc (suc (suc (suc (4 * j)))) = omega arith in
    let f : 4 * suc j + 1 ≡ suc (suc (suc (suc (4 * j + 1)))) = omega arith in
    let g : 4 * suc j + 2 ≡ suc (suc (suc (suc (4 * j + 2)))) = omega arith in
    let i : 4 * suc j + 3 ≡ suc (suc (suc (suc (4 * j + 3)))) = omega arith in
    let at : ℕ → ℕ = λ n. get_or (pairs (b ∷ bs)) n 0 in
    (ap at e ∙ w.0, ap at f ∙ w.1, ap at g ∙ w.2, ap at i ∙ w.3)

length_weigh : (cs xs : List ℕ) → length xs ≤ length cs → length (weigh p64 cs xs) ≡ length xs
unfolding weigh
length_weigh [] [] h = refl
length_weigh [] (x ∷ xs) h = absurd (omega arith)
length_weigh (c ∷ cs) [] h = refl
length_weigh (c ∷ cs) (x ∷ xs) h = ap suc (length_weigh cs xs (omega arith))

get_or_weigh : (cs xs : List ℕ) (k : ℕ) → length xs ≤ length cs → k < length xs → get_or (weigh p64 cs xs) k 0 ≡ weighed p64 (get_or cs k 0) (get_or xs k 0)
unfolding weigh
get_or_weigh cs [] k l h = absurd (omega arith)
get_or_weigh [] (x ∷ xs) k l h = absurd (omega arith)
get_or_weigh (c ∷ cs) (x ∷ xs) zero l h = refl
get_or_weigh (c ∷ cs) (x ∷ xs) (suc k) l h = get_or_weigh cs xs k (omega arith) (omega arith)

module _ (xs bytes : List ℕ) (long : length xs ≤ 4 * length bytes) where
  enough : length xs ≤ length (pairs bytes)
  enough = omega (arith, length_pairs bytes, long)

  pub summed_none : (sum : Total) → sum ≡ record { high = 0; low = 0 } → Summed xs bytes 0 sum
  summed_none sum e = rw e (omega arith, sum_start p64 (lit< tt) (weigh p64 (pairs bytes) xs))

  -- with element k
  summed_next : (k m pair : ℕ) (sum r : Total) → k + 1 ≡ m → k < length xs → get_or (pairs bytes) k 0 ≡ pair → Summed xs bytes k sum → PlusPair xs k pair sum r → Summed xs bytes m r
  summed_next k m pair sum r em h ec s e =
      let R : List ℕ = weigh p64 (pairs bytes) xs in
      let y : ℕ = weighed p64 pair (get_or xs k 0) in
      let at : get_or R k 0 ≡ y = get_or_weigh (pairs bytes) xs k enough h ∙ ap (λ (c : ℕ). weighed p64 c (get_or xs k 0)) ec in
      rw (← em) (omega (arith, s.0, e.1), e.0 ∙ sum_next p64 (lit< tt) (total_of sum) (total_of sum + y) y k R (rw (length_weigh (pairs bytes) xs enough) h) s.1 refl (ap (λ (n : ℕ). n % p64) (sym at)))

  pub summed_as : (k m : ℕ) (sum : Total) → k ≡ m → Summed xs bytes k sum → Summed xs bytes m sum
  summed_as k m sum e s = rw (← e) s

  pub summed_all : (k : ℕ) (sum : Total) → length xs ≤ k → Summed xs bytes k sum → total_of sum % p64 ≡ test_of p64 xs bytes
  unfolding test_of
  summed_all k sum h s = sum_end p64 (lit< tt) (total_of sum) k (weigh p64 (pairs bytes) xs) (rw (length_weigh (pairs bytes) xs enough) h) s.1

  -- with the elements of byte j, one after the other
  module _ (j : ℕ) (sum r : Total) where
    pub first_pair : 4 * j < length xs → Summed xs bytes (4 * j) sum → PlusPair xs (4 * j) (get_or bytes j 0 % 4) sum r → Summed xs bytes (4 * j + 1) r
    first_pair h s e = summed_next (4 * j) (4 * j + 1) _ sum r refl h (pairs_of bytes j (omega (arith, long))).0 s e

    pub second_pair : 4 * j + 1 < length xs → Summed xs bytes (4 * j + 1) sum → PlusPair xs (4 * j + 1) (get_or bytes j 0 / 4 % 4) sum r → Summed xs bytes (4 * j + 2) r
    second_pair h s e = summed_next (4 * j + 1) (4 * j + 2) _ sum r (omega arith) h (pairs_of bytes j (omega (arith, long))).1 s e

    pub third_pair : 4 * j + 2 < length xs → Summed xs bytes (4 * j + 2) sum → PlusPair xs (4 * j + 2) (get_or bytes j 0 / 16 % 4) sum r → Summed xs bytes (4 * j + 3) r
    third_pair h s e = summed_next (4 * j + 2) (4 * j + 3) _ sum r (omega arith) h (pairs_of bytes j (omega (arith, long))).2 s e

    pub fourth_pair : 4 * j + 3 < length xs → Summed xs bytes (4 * j + 3) sum → PlusPair xs (4 * j + 3) (get_or bytes j 0 / 64 % 4) sum r → Summed xs bytes (4 * j + 4) r
    fourth_pair h s e = summed_next (4 * j + 3) (4 * j + 4) _ sum r (omega arith) h (pairs_of bytes j (omega (arith, long))).3 s e

-- ---- all the tests, each with its bytes

module _ (per : ℕ) (xs s : List ℕ) where
  -- what is made of the bytes of a test, whatever stood in its place
  abbrev result : (bytes : List ℕ) (r : ℕ) → ℕ
  result bytes r = test_of p64 xs bytes

  abbrev pub all_results : (d : List ℕ) → List ℕ
  all_results d = each_test result per 0 per s d

  results_are : (d : List ℕ) (s' : List ℕ) → each_test result per 0 per s' d ≡ tests_of p64 per (length d) s' xs
  unfolding tests_of groups
  results_are [] s' = refl
  results_are (r ∷ d) s' = ap (λ (rs : List ℕ). test_of p64 xs (take per s') ∷ rs) (results_are d (drop per s'))

  -- after t of them, d being the results before and a what they are now
  module _ (d a : List ℕ) (t : ℕ) (w : Walking (all_results d) d a t) where
    pub results_end : length d ≡ t → a ≡ tests_of p64 per (length d) s xs
    results_end h = each_end result per 0 per s d a t w h ∙ results_are d s

    module _ (h : t < length a) (room : length d * per ≤ length s) where
      pub bytes_inside : t * per + per ≤ length s
      bytes_inside = omega (arith, inside result per 0 per s d a t w h room (omega arith))

      pub part_long : length (take (t * per + per - t * per) (drop (t * per) s)) ≡ per
      part_long = ap (λ (n : ℕ). length (take (n + per - n) (drop n s))) (sym (add-zero (t * per))) ∙ bytes_long result per 0 per s d a t w h room (omega arith)

      pub results_next : (r : ℕ) → r ≡ test_of p64 xs (take (t * per + per - t * per) (drop (t * per) s)) → Walking (all_results d) d (set a t r) (t + 1)
      results_next r e = each_next result per 0 per s d a t w h r (e ∙ ap (λ (n : ℕ). test_of p64 xs (take (n + per - n) (drop n s))) (sym (add-zero (t * per))))
