-- A row that becomes the gradient's elements, one after the other. Assumes nothing.
use mathlib.Core.Path.{◌≡◌, sym, ◌∙◌}
use mathlib.Core.List.{List}
use Prim.Native.Nat.{ℕ, ◌+◌, ◌<◌}
use native.Mathlib.Omega.{arith}
use lib.ListN.{length, get_or, set}
use lib.Ieee.{Float, nan}
use Rattle.field64.specs.Field.{p64}
use Rattle.doubles.specs.Doubles.{element}
use Rattle.rows.proofs.Walk.{walked, walked_next, walked_end}
use Rattle.flp.specs.Encode.{elements}
use Rattle.flp.proofs.Gradient.{length_elements, elements_at}

-- the row is the elements up to i, and as it was from there
abbrev pub Written : (f : ℕ) (g : List Float) (d a : List ℕ) (i : ℕ) → Type 0
Written f g d a i = a ≡ walked (elements p64 f g) d i

module _ (f : ℕ) (g : List Float) (d : List ℕ) (same : length d ≡ length g) where
  long : length (elements p64 f g) ≡ length d
  long = length_elements p64 f g ∙ sym same

  pub one_more : (a : List ℕ) (i y : ℕ) → Written f g d a i → i < length d → y ≡ element p64 (get_or g i nan) f → Written f g d (set a i y) (i + 1)
  one_more a i y w h e = rw w (walked_next 0 (elements p64 f g) d i y long h (e ∙ sym (elements_at p64 f nan g i (omega arith))))

  pub all_written : (a : List ℕ) (i : ℕ) → Written f g d a i → length d ≡ i → a ≡ elements p64 f g
  all_written a i w h = w ∙ walked_end (elements p64 f g) d i long h
