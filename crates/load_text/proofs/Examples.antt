-- Worked rows, computed from the definitions: 48 to 57 are the digits, 10 is the newline. Assumes nothing.
use mathlib.Core.Path.{◌≡◌, refl}
use mathlib.Core.List.{List, [], ◌∷◌, ◌++◌}
use mathlib.Core.Option.{none, some}
use Prim.Native.Nat.{ℕ}
use lib.ListN.{take}
use Rattle.load_text.specs.Text.{other, number, digits_from, first_line, numbers_of, load_limits}

-- 1 800 33 8 4 6 7 3 87 10 0 1
abbrev text : List ℕ
text =
    49 ∷ 10 ∷ 56 ∷ 48 ∷ 48 ∷ 10 ∷ 51 ∷ 51 ∷ 10 ∷ 56 ∷ 10 ∷ 52 ∷ 10 ∷ 54 ∷ 10 ∷ 55 ∷ 10 ∷ 51 ∷ 10 ∷ 56 ∷ 55 ∷ 10 ∷ 49 ∷ 48 ∷ 10 ∷ 48 ∷ 10 ∷ 49 ∷ 10 ∷ []

pub record Texts : Type 0 where
  pub twelve : numbers_of load_limits text ≡ some (1 ∷ 800 ∷ 33 ∷ 8 ∷ 4 ∷ 6 ∷ 7 ∷ 3 ∷ 87 ∷ 10 ∷ 0 ∷ 1 ∷ [])
  pub no_last_newline : numbers_of load_limits (take 28 text) ≡ none
  pub thirteen : numbers_of load_limits (text ++ (48 ∷ 10 ∷ [])) ≡ none
  pub empty_first : numbers_of load_limits (10 ∷ text) ≡ none
  pub twelve_empty : numbers_of load_limits (10 ∷ 10 ∷ 10 ∷ 10 ∷ 10 ∷ 10 ∷ 10 ∷ 10 ∷ 10 ∷ 10 ∷ 10 ∷ 10 ∷ []) ≡ none
  -- one line: 0, 00, 01, 10, 1 and a carriage return, +1, -1, a space and 1, 1 and a space, nothing
  pub zero : first_line (48 ∷ 10 ∷ 55 ∷ []) ≡ number 0 (55 ∷ [])
  pub zeros : first_line (48 ∷ 48 ∷ 10 ∷ []) ≡ other
  pub leading : first_line (48 ∷ 49 ∷ 10 ∷ []) ≡ other
  pub ten : first_line (49 ∷ 48 ∷ 10 ∷ []) ≡ number 10 []
  pub return : first_line (49 ∷ 13 ∷ 10 ∷ []) ≡ other
  pub plus : first_line (43 ∷ 49 ∷ 10 ∷ []) ≡ other
  pub minus : first_line (45 ∷ 49 ∷ 10 ∷ []) ≡ other
  pub space_before : first_line (32 ∷ 49 ∷ 10 ∷ []) ≡ other
  pub space_after : first_line (49 ∷ 32 ∷ 10 ∷ []) ≡ other
  pub empty : first_line (10 ∷ []) ≡ other
  pub nothing : first_line [] ≡ other
  -- the bytes before 0 and after 9
  pub slash : first_line (47 ∷ 10 ∷ []) ≡ other
  pub colon : first_line (49 ∷ 58 ∷ 10 ∷ []) ≡ other
  pub nine : first_line (57 ∷ 57 ∷ 10 ∷ []) ≡ number 99 []
  -- the limits
  pub last : numbers_of (255 ∷ []) (50 ∷ 53 ∷ 53 ∷ 10 ∷ []) ≡ some (255 ∷ [])
  pub too_wide : numbers_of (255 ∷ []) (50 ∷ 53 ∷ 54 ∷ 10 ∷ []) ≡ none

pub texts : Texts
unfolding digits_from first_line numbers_of
texts = record { twelve = refl; no_last_newline = refl; thirteen = refl; empty_first = refl; twelve_empty = refl; zero = refl; zeros = refl; leading = refl; ten = refl; return = refl; plus = refl; minus = refl; space_before = refl; space_after = refl; empty = refl; nothing = refl; slash = refl; colon = refl; nine = refl; last = refl; too_wide = refl }
