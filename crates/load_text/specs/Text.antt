-- The text of a load: decimal numbers, one a line (docs/PINE.md, "A load"). A text is a list of bytes; 48 to 57 are the digits 0 to 9, 10 is the newline. Assumes nothing.
use Rattle.std.specs.Prelude.{ℕ, ◌+◌, ◌-◌, ◌*◌, ◌^◌, Bool, cond, ◌&&◌, List, [], ◌∷◌, ◌++◌, replicate, eqb, leb}
use Rattle.std.proofs.Math.Option.{Option, none, some}

-- what a text begins with: a number and its newline, with the rest of the text; or something else
pub data Line : Type 0 where
  other : Line
  number : (n : ℕ) (rest : List ℕ) → Line

abbrev pub is_digit : (b : ℕ) → Bool
is_digit b = leb 48 b && leb b 57

-- the newline, after the digits of n
abbrev pub ends_at : (n : ℕ) → List ℕ → Line
ends_at n [] = other
ends_at n (b ∷ bs) = cond (eqb b 10) (number n bs) other

-- any further digits, after those of n, and the newline
unfoldable pub digits_from : (n : ℕ) → List ℕ → Line
digits_from n [] = other
digits_from n (b ∷ bs) = cond (is_digit b) (digits_from (n * 10 + (b - 48)) bs) (ends_at n (b ∷ bs))

-- digits and a newline, and no leading zero but in 0 itself
unfoldable pub first_line : List ℕ → Line
first_line [] = other
first_line (b ∷ bs) = cond (is_digit b) (cond (eqb b 48) (ends_at 0 bs) (digits_from (b - 48) bs)) other

-- a number that is too wide is other text
abbrev pub up_to : (most : ℕ) → Line → Line
up_to most other = other
up_to most (number n rest) = cond (leb n most) (number n rest) other

-- a number before others
abbrev pub before : (n : ℕ) → Option (List ℕ) → Option (List ℕ)
before n none = none
before n (some ns) = some (n ∷ ns)

-- a line's number, and those that are read from the rest
abbrev pub and_then : Line → (List ℕ → Option (List ℕ)) → Option (List ℕ)
and_then other read = none
and_then (number n rest) read = before n (read rest)

-- the numbers of a text of as many lines as there are limits, each up to its own, with nothing after the last
unfoldable pub numbers_of : (limits : List ℕ) → (text : List ℕ) → Option (List ℕ)
numbers_of [] [] = some []
numbers_of [] (b ∷ bs) = none
numbers_of (most ∷ limits) text = and_then (up_to most (first_line text)) (numbers_of limits)

-- of a load: the seed and the seven first inputs have 64 bits, the two of the multiplier 16; the rule of the tests and the switch are 0 or 1
abbrev pub load_limits : List ℕ
load_limits = replicate 8 (2 ^ 64 - 1) ++ (65535 ∷ 65535 ∷ 1 ∷ 1 ∷ [])
