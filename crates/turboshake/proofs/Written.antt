-- Bytes of a row, written and read one after the other. Assumes nothing.
use mathlib.Core.Path.{◌≡◌, refl, sym, ap, ◌∙◌}
use mathlib.Core.List.{List, [], ◌∷◌}
use Prim.Native.Nat.{ℕ, zero, suc, ◌+◌, ◌≤◌}
use native.Mathlib.Omega.{arith}
use lib.ListN.{length, get_or, take, drop}
use lib.Seq.{drop-cons}

-- the n elements from i on
abbrev pub elements : (n i : ℕ) → List ℕ → List ℕ
elements zero i l = []
elements (suc n) i l = get_or l i 0 ∷ elements n (suc i) l

pub elements_are : (n i : ℕ) (l : List ℕ) → i + n ≤ length l → elements n i l ≡ take n (drop i l)
elements_are zero i l h = refl
elements_are (suc n) i l h = ap (λ (r : List ℕ). get_or l i 0 ∷ r) (elements_are n (suc i) l (omega arith)) ∙ ap (take (suc n)) (sym (drop-cons l i 0 (omega arith)))
