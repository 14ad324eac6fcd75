-- Rows cut in two, as a report's measurement is, and the whole numbers that their elements stand for, over a modulus p. Assumes nothing.
use Prim.Native.Nat.{ℕ, ◌-◌, ◌/◌}
use mathlib.Core.Path.{◌≡◌}
use mathlib.Core.Bool.{cond}
use mathlib.Core.List.{List, [], ◌∷◌, map}
use lib.ListN.{get_or}
use lib.Dec.{ltb}
use lib.IntN.{ℤ, pos, neg_ℤ}
use Rattle.doubles.specs.Doubles.{mod_p}
use Rattle.rows.specs.Rows.{add_rows}
use Rattle.correctness.specs.Tally.{FieldRow}
use Rattle.correctness.specs.Correctness.{sumℤ}

-- a row, cut into two that add up to it, and the whole numbers that its elements may stand for, by their places
pub record Cut (p d : ℕ) : Type 0 where
  pub whole : List ℕ
  pub left : List ℕ
  pub right : List ℕ
  pub left_row : FieldRow p d left
  pub right_row : FieldRow p d right
  pub adds : add_rows p left right ≡ whole
  pub number : ℕ → ℤ

-- the shares of a list of reports, as rows of words
abbrev pub shares : (words : List ℕ → List ℕ) {p d : ℕ} → List (Cut p d) → List (List ℕ)
shares words [] = []
shares words (c ∷ cs) = words c.left ∷ words c.right ∷ shares words cs

abbrev pub wholes : {p d : ℕ} → List (Cut p d) → List (List ℕ)
wholes cs = map (λ c. c.whole) cs

-- a field number read as the whole number nearest zero: y above (p - 1) / 2 stands for y - p
abbrev pub centred_number : (p y : ℕ) → ℤ
centred_number p y = cond (ltb ((p - 1) / 2) y) (neg_ℤ (pos (p - y))) (pos y)

-- element j of the row is its number modulo p
abbrev pub StandsFor : (p d j : ℕ) → Cut p d → Type 0
StandsFor p d j c = get_or c.whole j 0 ≡ mod_p p (c.number j)

-- the sum of the numbers of element j over reports
abbrev pub numbers_sum : {p d : ℕ} → ℕ → List (Cut p d) → ℤ
numbers_sum j cs = sumℤ (map (λ c. c.number j) cs)
