-- Laws of the sums of two rows, each read as a double, and of rule 23 on them. Assumes nothing.
use mathlib.Core.Path.{◌≡◌, refl, ap, ◌∙◌}
use mathlib.Core.List.{List, [], ◌∷◌, map}
use Prim.Native.Nat.{ℕ, zero, suc, ◌+◌, ◌*◌, ◌≤◌, ◌<◌}
use native.Mathlib.Omega.{arith}
use lib.ListN.{length, get_or, length-map}
use lib.Ieee.{Float}
use borrow.Author.Tests.{le-ltb}
use Rattle.rules.specs.Rules.{accepted}
use Rattle.field64.specs.Field.{add_mod}
use Rattle.doubles.specs.Doubles.{centred_size, decoded}
use Rattle.doubles.proofs.Sense.{size_within}
use Rattle.rows.specs.Rows.{Below, add_rows}
use Rattle.rows.proofs.Elements.{below_at}
use Rattle.rows.proofs.Added.{length-add_rows, get_or-add_rows}
use Rattle.vdaf.specs.Aggregates.{sizes_rule, decoded_sums}

-- what stands at i in a mapped list, whatever `get_or` gives beyond the ends
pub get_or-map_at : {A B : Type 0} (f : A → B) (xs : List A) (i : ℕ) (x : A) (y : B) → i < length xs → get_or (map f xs) i y ≡ f (get_or xs i x)
get_or-map_at f [] i x y h = absurd (omega arith)
get_or-map_at f (a ∷ xs) zero x y h = refl
get_or-map_at f (a ∷ xs) (suc i) x y h = get_or-map_at f xs i x y (omega arith)

module _ (p f : ℕ) (l r : List ℕ) (e : length l ≡ length r) where
  pub length-decoded_sums : length (decoded_sums p f l r) ≡ length l
  unfolding decoded_sums
  length-decoded_sums = length-map (add_rows p l r) (λ y. decoded p y f) ∙ length-add_rows p l r e

  pub get_or-decoded_sums : (z : Float) (i : ℕ) → i < length l → get_or (decoded_sums p f l r) i z ≡ decoded p (add_mod p (get_or l i 0) (get_or r i 0)) f
  unfolding decoded_sums
  get_or-decoded_sums z i h =
      let n : length (add_rows p l r) ≡ length l = length-add_rows p l r e in
      get_or-map_at (λ y. decoded p y f) (add_rows p l r) i 0 z (omega arith) ∙ ap (λ (y : ℕ). decoded p y f) (get_or-add_rows p l r i e h)

-- rule 23 refuses no row of which each element's size is within the limit
pub sizes_met : (p limit k : ℕ) (ys : List ℕ) → ((j : ℕ) → j < length ys → centred_size p (get_or ys j 0) ≤ limit) → sizes_rule p limit k ys ≡ accepted
unfolding sizes_rule
sizes_met p limit k [] f = refl
sizes_met p limit k (y ∷ ys) f = rw (le-ltb limit (centred_size p y) (f 0 (omega arith))) (sizes_met p limit (suc k) ys (λ j h. f (suc j) (omega arith)))

-- nor any row of field numbers, where the limit is half of p
pub sizes_free : (p limit k : ℕ) → p ≤ 2 * limit + 1 → (ys : List ℕ) → Below p ys → sizes_rule p limit k ys ≡ accepted
sizes_free p limit k room ys f = sizes_met p limit k ys (λ j h. size_within p limit (get_or ys j 0) room (below_at p ys f j h))
