-- The tests on a row of limbs, group by group, into a row of sums: ys are the limbs, s is the stream. Assumes nothing.
use Rattle.std.proofs.Common.{◌≡◌, ℕ, zero, suc, ◌-◌, ◌*◌, ◌<◌, ◌≤◌, List, [], ◌∷◌, map, length, get_or, take, drop, replicate, refl, ap, ◌∙◌, le_of_lt, arith, length-take-le}
use lib.ListN.{length-replicate}
use Rattle.rows.specs.Rows.{Below}
use Rattle.flp.specs.Tests.{tests_of}
use Rattle.groups.specs.Groups.{add_group, room_for}
use Rattle.groups.proofs.Swapped.{groups_start, groups_below, groups_next, groups_end, room_few, room_many}

-- ---- a row that is made of another element by element

module _ {A : Type 0} (f : A → ℕ) where
  pub map_at : (z : A) (xs : List A) (i : ℕ) → i < length xs → get_or (map f xs) i 0 ≡ f (get_or xs i z)
  map_at z [] i h = absurd (omega arith)
  map_at z (x ∷ xs) zero h = refl
  map_at z (x ∷ xs) (suc i) h = map_at z xs i (omega arith)

  map-take_lem : (n : ℕ) (xs : List A) → map f (take n xs) ≡ take n (map f xs)
  map-take_lem zero xs = refl
  map-take_lem (suc n) [] = refl
  map-take_lem (suc n) (x ∷ xs) = ap (λ (ys : List ℕ). f x ∷ ys) (map-take_lem n xs)

  map-drop_lem : (n : ℕ) (xs : List A) → map f (drop n xs) ≡ drop n (map f xs)
  map-drop_lem zero xs = refl
  map-drop_lem (suc n) [] = refl
  map-drop_lem (suc n) (x ∷ xs) = map-drop_lem n xs

  pub map_cut : (k m : ℕ) (xs part : List A) → part ≡ drop k (take m xs) → map f part ≡ drop k (take m (map f xs))
  map_cut k m xs part e = ap (map f) e ∙ map-drop_lem k (take m xs) ∙ ap (drop k) (map-take_lem m xs)

-- ---- the sums

module _ (m per : ℕ) (s ys : List ℕ) where
  -- after the bytes before j
  abbrev pub Summed : (T j : ℕ) (d : List ℕ) → Type 0
  Summed T j d = (length d ≡ T) × (d ≡ tests_of m per T s (take (4 * j) ys))

  pub summed_start : (T : ℕ) (d₀ d : List ℕ) → length d₀ ≡ T → d ≡ replicate (length d₀) 0 → Summed T 0 d
  summed_start T d₀ d l e =
      let n : length d ≡ T = ap length e ∙ length-replicate {A = ℕ} (length d₀) 0 ∙ l in
      (n, groups_start m per s ys d d₀ e ∙ ap (λ (k : ℕ). tests_of m per k s (take (4 * 0) ys)) n)

  pub summed_below : 0 < m → (T j : ℕ) (d : List ℕ) → Summed T j d → Below m d
  summed_below positive T j d h = groups_below m per s ys d j T positive h.1

  pub summed_next : 0 < m → (T j e : ℕ) (part d d' : List ℕ) → j < e → e ≤ per → part ≡ drop (4 * j) (take (4 * e) ys) → length d' ≡ length d → d' ≡ add_group m per j (e - j) part s d → Summed T j d → Summed T e d'
  summed_next positive T j e part d d' h k c l a w = (l ∙ w.0, groups_next m per s ys d j e (e - j) T part d' positive (le_of_lt h, k) refl c w.1 a)

  pub summed_end : (T T₀ j : ℕ) (d : List ℕ) → T ≡ T₀ → per ≤ j → length ys ≤ 4 * per → Summed T j d → d ≡ tests_of m per T₀ s ys
  summed_end T T₀ j d e h l w = groups_end m per s ys d j T h l w.1 ∙ ap (λ (n : ℕ). tests_of m per n s ys) e

-- ---- rows of 256 words, for limbs, for tables or weights and for sums

-- the first n of m zeros
pub zeros_long : (m n : ℕ) → n ≤ m → length (take n (replicate {A = ℕ} m 0)) ≡ n
zeros_long m n h = length-take-le n (replicate {A = ℕ} m 0) (rw (length-replicate {A = ℕ} m 0) h)

-- so many bytes of each test take no more than that
abbrev pub Room : (tests width : ℕ) → Type 0
Room tests width = ((0 < width) × (width ≤ 64)) × ((4 * width ≤ 256) × (room_for tests width ≤ 256))

pub many_fit : (tests width : ℕ) → 6 < tests → width ≡ 8 → Room tests width
many_fit tests width h e = rw e ((omega arith, omega arith), (omega arith, omega (arith, room_many tests 8 h)))

pub few_fit : (tests width : ℕ) → tests ≤ 6 → width ≡ 64 → Room tests width
few_fit tests width h e = rw e ((omega arith, omega arith), (omega arith, omega (arith, room_few tests 64 h)))
