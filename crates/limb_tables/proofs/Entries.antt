-- Tables from some place of a row on, and sums of their entries modulo m. Assumes nothing.
use Rattle.std.proofs.Common.{◌≡◌, ℕ, ◌+◌, ◌*◌, ◌%◌, ◌^◌, ◌<◌, ◌≤◌, List, [], length, get_or, drop, sym, ap, ◌∙◌, le_of_lt, mod-lt, mod-eq_of_lt, arith, drop_of_length-le, get_or-drop}
use native.Mathlib.Nat.{mod-mod, mod-add-mod}
use Rattle.field64.proofs.Modular.{sub_is}
use Rattle.rows.specs.Rows.{Below}
use Rattle.groups.specs.Groups.{add_group}
use Rattle.tables.specs.Tables.{Tables, entries_at, entries_of, less_entries, less_group}
use Rattle.tables.proofs.Tables.{entries_step, group_law}
use Rattle.limbs.specs.Limbs.{limbs}
use Rattle.limb_tables.specs.LimbTables.{LimbTables}

-- ---- tables from base on

-- those before far are as they were
pub tables_kept : (m base far count : ℕ) (xs t t₀ : List ℕ) → base + 16 * count ≤ far → ((n : ℕ) → n < far → get_or t n 0 ≡ get_or t₀ n 0) → Tables m count xs (drop base t₀) → Tables m count xs (drop base t)
tables_kept m base far count xs t t₀ l g w i h k q =
    rw (get_or-drop base t (16 * i + k) 0 ∙ g (base + (16 * i + k)) (omega arith) ∙ sym (get_or-drop base t₀ (16 * i + k) 0)) (w i h k q)

-- those of the three limbs, each written after the other
pub limb_tables : (n : ℕ) (xs t₁ t₂ t₃ : List ℕ) → n ≤ 8 → Tables (2 ^ 64) (2 * n) (limbs 0 xs) (drop 0 t₁)
    → Tables (2 ^ 64) (2 * n) (limbs 1 xs) (drop 256 t₂) → ((i : ℕ) → i < 256 → get_or t₂ i 0 ≡ get_or t₁ i 0)
    → Tables (2 ^ 64) (2 * n) (limbs 2 xs) (drop 512 t₃) → ((i : ℕ) → i < 512 → get_or t₃ i 0 ≡ get_or t₂ i 0) → LimbTables (2 * n) xs t₃
limb_tables n xs t₁ t₂ t₃ h low middle kept high kept' =
    (tables_kept (2 ^ 64) 0 256 (2 * n) (limbs 0 xs) t₃ t₁ (omega arith) (λ i l. kept' i (omega arith) ∙ kept i l) low, (tables_kept (2 ^ 64) 256 512 (2 * n) (limbs 1 xs) t₃ t₂ (omega arith) kept' middle, high))

-- ---- the entries of a test's bytes

module _ (m : ℕ) (positive : 0 < m) (t bytes : List ℕ) where
  -- a sum s of the entries of k bytes, with those of the bytes that are left, is that of all
  abbrev pub Left : (s k : ℕ) → Type 0
  Left s k = (s < m) × ((s + entries_of t (32 * k) (drop k bytes)) % m ≡ entries_of t 0 bytes % m)

  pub left_start : Left 0 0
  left_start = (positive, ap (λ (n : ℕ). n % m) (omega arith))

  pub left_next : (s s' k : ℕ) → k < length bytes → Left s k → s' ≡ (s + entries_at t (32 * k) (get_or bytes k 0)) % m → Left s' (k + 1)
  left_next s s' k h w e =
      let order : s + entries_at t (32 * k) (get_or bytes k 0) + entries_of t (32 * (k + 1)) (drop (k + 1) bytes) ≡ s + entries_of t (32 * k) (drop k bytes) = omega (arith, entries_step t bytes k h) in
      (rw e (mod-lt _ positive), ap (λ (n : ℕ). (n + entries_of t (32 * (k + 1)) (drop (k + 1) bytes)) % m) e ∙ mod-add-mod (s + entries_at t (32 * k) (get_or bytes k 0)) m (entries_of t (32 * (k + 1)) (drop (k + 1) bytes)) ∙ ap (λ (n : ℕ). n % m) order ∙ w.1)

  pub left_end : (s k : ℕ) → length bytes ≤ k → Left s k → s ≡ entries_of t 0 bytes % m
  left_end s k h w =
      let none : drop k bytes ≡ [] = drop_of_length-le bytes h in
      let all : s ≡ s + entries_of t (32 * k) (drop k bytes) = rw none (omega arith) in
      sym (mod-eq_of_lt w.0) ∙ ap (λ (n : ℕ). n % m) all ∙ w.1

  -- all taken off
  pub taken_off : (r e r' : ℕ) → r' < m → e ≡ entries_of t 0 bytes % m → (r' + e) % m ≡ r → r' ≡ less_entries m t bytes r
  taken_off r e r' l f g =
      let h : (r' + entries_of t 0 bytes % m) % m ≡ r % m = ap (λ (n : ℕ). (r' + n) % m) (sym f) ∙ sym (mod-mod (r' + e) m) ∙ ap (λ (n : ℕ). n % m) g in
      sym (sub_is m positive r (entries_of t 0 bytes % m) r' (le_of_lt (mod-lt _ positive)) h ∙ mod-eq_of_lt l)

-- a group of all the tests
pub group_added : (m n per j base : ℕ) (ys t s row r : List ℕ) → 0 < m → Tables m (2 * n) ys (drop base t) → Below 256 s → r ≡ less_group m (drop base t) per j n s row → r ≡ add_group m per j n ys s row
group_added m n per j base ys t s row r positive w b e = e ∙ group_law m (2 * n) ys (drop base t) positive w per j n s row (omega arith) b

-- ---- words, as numbers modulo m

pub again : (m r n : ℕ) → r ≡ n % m → r % m ≡ n % m
again m r n e = ap (λ (k : ℕ). k % m) e ∙ mod-mod n m

pub whole : (m n r : ℕ) → n % m ≡ r → n % m ≡ r % m
whole m n r e = sym (mod-mod n m) ∙ ap (λ (k : ℕ). k % m) e
