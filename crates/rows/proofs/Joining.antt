-- A loop that replaces each element x of a row d by f x y, for y that of a row s of the same length. Assumes nothing.
use Rattle.std.proofs.Common.{◌≡◌, ℕ, ◌+◌, ◌<◌, List, length, get_or, set, sym, ap, ◌∙◌, arith}
use Rattle.rows.specs.Rows.{Below, by_element}
use Rattle.rows.proofs.Elements.{below_at}
use Rattle.rows.proofs.ByElement.{length_by, get_or_by}
use Rattle.rows.proofs.Walk.{walked_at, walked_end, Walking, walking_next}

-- the row is f of both up to i, and as it was from there
abbrev pub Joining : (f : ℕ → ℕ → ℕ) (d s a : List ℕ) (i : ℕ) → Type 0
Joining f d s a i = Walking (by_element f d s) d a i

module _ (f : ℕ → ℕ → ℕ) (d s a : List ℕ) (i : ℕ) (same : length d ≡ length s) (inv : Joining f d s a i) where
  long : length (by_element f d s) ≡ length d
  long = length_by f d s same

  here : i < length a → get_or a i 0 ≡ get_or d i 0
  here h = rw inv.2 (walked_at 0 (by_element f d s) d i long (omega arith))

  pub reads_below : (n : ℕ) → Below n d × Below n s → i < length a → (get_or a i 0 < n) × (get_or s i 0 < n)
  reads_below n b h = (rw (here h) (below_at n d b.0 i (omega arith)), below_at n s b.1 i (omega arith))

  pub joining_next : i < length a → (r : ℕ) → r ≡ f (get_or a i 0) (get_or s i 0) → Joining f d s (set a i r) (i + 1)
  joining_next h r e = walking_next 0 (by_element f d s) d a i r long inv h (e ∙ ap (λ (x : ℕ). f x (get_or s i 0)) (here h) ∙ sym (get_or_by f d s i same (omega arith)))

  pub joined_end : length d ≡ i → a ≡ by_element f d s
  joined_end h = inv.2 ∙ walked_end _ _ i long h
