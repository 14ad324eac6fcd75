-- The tests taken by groups of bytes: what bytes j to e add, for the coordinates 4j to 4e, is added to what those before them do. Assumes nothing.
use mathlib.Core.Path.{◌≡◌, refl, sym, ap, ◌∙◌}
use mathlib.Core.Bool.{Bool, true, false, cond}
use mathlib.Core.List.{List, [], ◌∷◌}
use Prim.Native.Nat.{ℕ, zero, suc, ◌+◌, ◌-◌, ◌*◌, ◌/◌, ◌%◌, ◌≤◌, ◌<◌, min}
use native.Mathlib.Nat.{mod_self, zero-mod, mod-eq_of_lt, sub-zero}
use native.Mathlib.Omega.{arith}
use lib.ListN.{length, get_or, take, drop, replicate, length-take, length-drop, length-replicate}
use lib.Seq.{take-nil, drop-nil, take_all, take-take, drop-drop, length-take-le}
use lib.Dec.{eqb, leb}
use borrow.Author.Tests.{le-leb, lt-leb}
use Rattle.field64.specs.Field.{add_mod, sub_mod}
use Rattle.field64.specs.Sums.{evaluate, total}
use Rattle.field64.proofs.Modular.{modular}
use Rattle.field64.proofs.Sums.{evaluate_below}
use Rattle.rows.specs.Rows.{Below}
use Rattle.flp.specs.Bits.{groups}
use Rattle.flp.specs.Tests.{pairs, weighed, weigh, test_of, tests_of}
use Rattle.groups.specs.declared.Group.{Group}
use Rattle.groups.specs.Groups.{add_group, room_for, group_from}
use Rattle.flp.proofs.Tests.{tests_below}

-- what a byte adds for four coordinates
unfoldable pub column : (p byte a b c d : ℕ) → ℕ
column p byte a b c d = total p (weighed p (byte % 4) a ∷ weighed p (byte / 4 % 4) b ∷ weighed p (byte / 16 % 4) c ∷ weighed p (byte / 64 % 4) d ∷ [])

module _ (p : ℕ) where
  weighed_zero : (c : ℕ) → weighed p c 0 ≡ 0
  unfolding weighed
  weighed_zero c = go (eqb c 0) (eqb c 3)
    where
      go : (s t : Bool) → cond s (sub_mod p 0 0) (cond t 0 0) ≡ 0
      go true t = ap (λ (n : ℕ). n % p) (omega arith) ∙ mod_self p
      go false true = refl
      go false false = refl

  pub test_nil : (bytes : List ℕ) → test_of p [] bytes ≡ 0
  unfolding test_of weigh evaluate pairs
  test_nil [] = refl
  test_nil (b ∷ bs) = refl

  pub first_column : (byte : ℕ) (bytes xs : List ℕ) → test_of p xs (byte ∷ bytes) ≡ add_mod p (column p byte (get_or xs 0 0) (get_or xs 1 0) (get_or xs 2 0) (get_or xs 3 0)) (test_of p (drop 4 xs) bytes)
  unfolding test_of column weigh evaluate pairs
  first_column byte bytes [] = sym (simp (weighed_zero, test_nil bytes, modular) (zero-mod p))
  first_column byte bytes (a ∷ []) = simp (weighed_zero, test_nil bytes, modular) (ap (λ (n : ℕ). n % p) (omega arith))
  first_column byte bytes (a ∷ b ∷ []) = simp (weighed_zero, test_nil bytes, modular) (ap (λ (n : ℕ). n % p) (omega arith))
  first_column byte bytes (a ∷ b ∷ c ∷ []) = simp (weighed_zero, test_nil bytes, modular) (ap (λ (n : ℕ). n % p) (omega arith))
  first_column byte bytes (a ∷ b ∷ c ∷ d ∷ xs) = simp modular (ap (λ (n : ℕ). n % p) (omega arith))

  front : (n byte : ℕ) (bytes xs : List ℕ) → test_of p (take (suc (suc (suc (suc n)))) xs) (byte ∷ bytes) ≡ add_mod p (column p byte (get_or xs 0 0) (get_or xs 1 0) (get_or xs 2 0) (get_or xs 3 0)) (test_of p (take n (drop 4 xs)) bytes)
  front n byte bytes [] = rw (take-nil {A = ℕ} n) (first_column byte bytes [])
  front n byte bytes (a ∷ []) = rw (take-nil {A = ℕ} n) (first_column byte bytes (a ∷ []))
  front n byte bytes (a ∷ b ∷ []) = rw (take-nil {A = ℕ} n) (first_column byte bytes (a ∷ b ∷ []))
  front n byte bytes (a ∷ b ∷ c ∷ []) = rw (take-nil {A = ℕ} n) (first_column byte bytes (a ∷ b ∷ c ∷ []))
  front n byte bytes (a ∷ b ∷ c ∷ d ∷ xs) = first_column byte bytes (a ∷ b ∷ c ∷ d ∷ take n xs)

  -- the bytes before j, and the others
  split : 0 < p → (j : ℕ) (bytes xs : List ℕ) → test_of p xs bytes ≡ add_mod p (test_of p (take (4 * j) xs) bytes) (test_of p (drop (4 * j) xs) (drop j bytes))
  unfolding test_of weigh evaluate pairs
  split h zero bytes xs =
      let b : test_of p xs bytes < p = evaluate_below p 1 h (weigh p (pairs bytes) xs) in
      sym (rw (test_nil bytes) (ap (λ (n : ℕ). n % p) (omega arith) ∙ mod-eq_of_lt b))
  split h (suc j) [] xs = sym (zero-mod p)
  split h (suc j) (b ∷ bs) xs =
      let four : 4 * suc j ≡ suc (suc (suc (suc (4 * j)))) = omega arith in
      let t : test_of p (take (4 * suc j) xs) (b ∷ bs) ≡ add_mod p (column p b (get_or xs 0 0) (get_or xs 1 0) (get_or xs 2 0) (get_or xs 3 0)) (test_of p (take (4 * j) (drop 4 xs)) bs) = ap (λ (k : ℕ). test_of p (take k xs) (b ∷ bs)) four ∙ front (4 * j) b bs xs in
      let on : 4 * suc j ≡ 4 + 4 * j = omega arith in
      let d : drop (4 * suc j) xs ≡ drop (4 * j) (drop 4 xs) = ap (λ (k : ℕ). drop k xs) on ∙ sym (drop-drop (4 * j) 4 xs) in
      first_column b bs xs ∙ rw (t, d, split h j bs (drop 4 xs)) (simp modular (ap (λ (n : ℕ). n % p) (omega arith)))

  -- bytes past the coordinates add nothing
  fewer : (n : ℕ) (bytes xs : List ℕ) → length xs ≤ 4 * n → test_of p xs bytes ≡ test_of p xs (take n bytes)
  fewer zero bytes [] h = test_nil bytes ∙ sym (test_nil [])
  fewer zero bytes (x ∷ xs) h = absurd (omega arith)
  fewer (suc n) [] xs h = refl
  fewer (suc n) (b ∷ bs) xs h = first_column b bs xs ∙ rw (fewer n bs (drop 4 xs) (rw (length-drop 4 xs) (omega arith))) (sym (first_column b (take n bs) xs))

  -- ---- a group of all the tests

  -- after none of the coordinates
  pub tests_none : (per T : ℕ) (s xs : List ℕ) → tests_of p per T s (take 0 xs) ≡ replicate T 0
  unfolding tests_of groups
  tests_none per zero s xs = refl
  tests_none per (suc T) s xs = (λ i. test_nil (take per s) i ∷ tests_none per T (drop per s) xs i)

  inner : (k j per : ℕ) (s : List ℕ) → j + k ≤ per → take k (drop j (take per s)) ≡ take k (drop j s)
  inner k zero per s h = take-take k per s (omega arith)
  inner k (suc j) per [] h = ap (λ (l : List ℕ). take k (drop (suc j) l)) (take-nil {A = ℕ} per)
  inner k (suc j) zero (x ∷ s) h = absurd (omega arith)
  inner k (suc j) (suc per) (x ∷ s) h = inner k j per s (omega arith)

  -- after the bytes before j, those before e
  module _ (positive : 0 < p) (per j e : ℕ) (xs : List ℕ) (h : (j ≤ e) × (e ≤ per)) where
    one : (s : List ℕ) → add_mod p (test_of p (take (4 * j) xs) (take per s)) (test_of p (drop (4 * j) (take (4 * e) xs)) (take (e - j) (drop j s))) ≡ test_of p (take (4 * e) xs) (take per s)
    one s =
        let l : length (drop (4 * j) (take (4 * e) xs)) ≤ 4 * (e - j) = rw (length-drop (4 * j) (take (4 * e) xs), length-take (4 * e) xs) (omega (arith, h)) in
        let t : take (4 * j) (take (4 * e) xs) ≡ take (4 * j) xs = take-take (4 * j) (4 * e) xs (omega (arith, h)) in
        let b : take (e - j) (drop j (take per s)) ≡ take (e - j) (drop j s) = inner (e - j) j per s (omega (arith, h)) in
        sym (split positive j (take per s) (take (4 * e) xs) ∙ rw (t, fewer (e - j) (drop j (take per s)) (drop (4 * j) (take (4 * e) xs)) l, b))

    pub tests_next : (T : ℕ) (s : List ℕ) → add_group p per j (e - j) (drop (4 * j) (take (4 * e) xs)) s (tests_of p per T s (take (4 * j) xs)) ≡ tests_of p per T s (take (4 * e) xs)
    unfolding tests_of groups
    tests_next zero s = refl
    tests_next (suc T) s = (λ i. one s i ∷ tests_next T (drop per s) i)

-- ---- the coordinates of a group, as they are cut out

-- as many as there are
all_of : {A : Type 0} (m : ℕ) (xs : List A) → take (min m (length xs)) xs ≡ take m xs
all_of zero xs =
    let e : min 0 (length xs) ≡ 0 = omega arith in
    ap (λ (k : ℕ). take k xs) e
all_of {A} (suc m) [] = take-nil {A = A} (min (suc m) 0)
all_of {A} (suc m) (x ∷ xs) =
    let e : min (suc m) (suc (length xs)) ≡ suc (min m (length xs)) = omega arith in
    ap (λ (k : ℕ). take k (x ∷ xs)) e ∙ ap (λ (t : List A). x ∷ t) (all_of m xs)

cut_is : {A : Type 0} (k m : ℕ) (xs : List A) → k ≤ m → take (min m (length xs) - min k (length xs)) (drop (min k (length xs)) xs) ≡ drop k (take m xs)
cut_is {A} zero m xs h =
    let e : min m (length xs) - min 0 (length xs) ≡ min m (length xs) = omega arith in
    let f : min 0 (length xs) ≡ 0 = omega arith in
    (λ i. take (e i) (drop (f i) xs)) ∙ all_of m xs
cut_is {A} (suc k) m [] h =
    let n : ℕ = min m 0 - min (suc k) 0 in
    ap (take n) (drop-nil {A = A} (min (suc k) 0)) ∙ take-nil {A = A} n ∙ sym (ap (drop (suc k)) (take-nil {A = A} m))
cut_is {A} (suc k) zero (x ∷ xs) h = absurd (omega arith)
cut_is {A} (suc k) (suc m) (x ∷ xs) h =
    let e : min (suc m) (suc (length xs)) - min (suc k) (suc (length xs)) ≡ min m (length xs) - min k (length xs) = omega arith in
    let f : min (suc k) (suc (length xs)) ≡ suc (min k (length xs)) = omega arith in
    (λ i. take (e i) (drop (f i) (x ∷ xs))) ∙ cut_is k m xs (omega arith)

-- ---- a group

pub record Fits (j width per d : ℕ) (g : Group) : Type 0 where
  pub goes_on : j < g.end
  pub inside : g.end ≤ per
  pub few : g.end - j ≤ width
  pub in_order : g.first ≤ g.last
  pub coordinates : g.last ≤ d
  pub few_coordinates : g.last - g.first ≤ 4 * (g.end - j)

pub group_fits : (j width per d : ℕ) (g : Group) → j < per → 0 < width → g ≡ group_from j width per d → Fits j width per d g
group_fits j width per d g h some e =
    rw e (record { goes_on = omega arith; inside = omega arith; few = omega arith; in_order = omega arith; coordinates = omega arith; few_coordinates = omega arith })

-- its coordinates
pub group_cut : {A : Type 0} (j width per : ℕ) (xs : List A) (g : Group) → j < per → g ≡ group_from j width per (length xs) → take (g.last - g.first) (drop g.first xs) ≡ drop (4 * j) (take (4 * g.end) xs)
group_cut j width per xs g h e =
    let l : 4 * j ≤ 4 * min (j + width) per = omega arith in
    rw e (cut_is (4 * j) (4 * min (j + width) per) xs l)

-- how many they are
pub part_long : {A : Type 0} (first last : ℕ) (xs : List A) → first ≤ last → last ≤ length xs → length (take (last - first) (drop first xs)) ≡ last - first
part_long first last xs h l =
    let e : last - first ≤ length (drop first xs) = rw (length-drop first xs) (omega arith) in
    length-take-le (last - first) (drop first xs) e

-- as many of a row that is lent
pub row_long : (n : ℕ) (row : List ℕ) → n ≤ length row → length (take (n - 0) row) ≡ n
row_long n row h = rw (sub-zero n) (length-take-le n row h)

-- the room that it takes
pub room_few : (tests n : ℕ) → tests ≤ 6 → room_for tests n ≡ 4 * n
room_few tests n h = rw (le-leb tests 6 h)

pub room_many : (tests n : ℕ) → 6 < tests → room_for tests n ≡ 32 * n
room_many tests n h = rw (lt-leb tests 6 h)

pub room_less : (tests tests' n m l l' : ℕ) → tests' ≡ tests → l' ≡ l → n ≤ m → room_for tests m ≤ l → room_for tests' n ≤ l'
room_less tests tests' n m l l' e f h = rw (e, f) (go (leb tests 6))
  where
    go : (t : Bool) → cond t (4 * m) (32 * m) ≤ l → cond t (4 * n) (32 * n) ≤ l
    go true g = omega arith
    go false g = omega arith

-- ---- what the loop over the groups needs and gives, d being the results so far
module _ (p per : ℕ) (s xs d : List ℕ) where
  pub groups_start : (d₀ : List ℕ) → d ≡ replicate (length d₀) 0 → d ≡ tests_of p per (length d) s (take (4 * 0) xs)
  groups_start d₀ e =
      e ∙ ap (λ (n : ℕ). replicate {A = ℕ} n 0) (sym (ap length e ∙ length-replicate {A = ℕ} (length d₀) 0)) ∙ sym (tests_none p per (length d) s xs)

  pub groups_below : (j T : ℕ) → 0 < p → d ≡ tests_of p per T s (take (4 * j) xs) → Below p d
  groups_below j T h e = rw e (tests_below p h per T s (take (4 * j) xs))

  pub groups_next : (j e n T : ℕ) (part d' : List ℕ) → 0 < p → (j ≤ e) × (e ≤ per) → n ≡ e - j → part ≡ drop (4 * j) (take (4 * e) xs) → d ≡ tests_of p per T s (take (4 * j) xs) → d' ≡ add_group p per j n part s d → d' ≡ tests_of p per T s (take (4 * e) xs)
  groups_next j e n T part d' h g en ep ed eg = eg ∙ rw (en, ep, ed) (tests_next p h per j e xs g T s)

  pub groups_end : (j T : ℕ) → per ≤ j → length xs ≤ 4 * per → d ≡ tests_of p per T s (take (4 * j) xs) → d ≡ tests_of p per T s xs
  groups_end j T h l e =
      let f : length xs ≤ 4 * j = omega arith in
      e ∙ ap (tests_of p per T s) (take_all (4 * j) xs f)

-- a row as long as another has the same room
pub same_room : (n m per k : ℕ) → n ≡ m → m * per ≤ k → n * per ≤ k
same_room n m per k e h = rw e h
