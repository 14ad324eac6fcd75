-- What the inner functions of `load_text` give. Assumes nothing.
use Rattle.std.specs.Prelude.{ℕ, suc, ◌+◌, ◌*◌, ◌≤◌, ◌≡◌, Bool, true, false, Some, None, List, drop}
use Rattle.std.proofs.Math.Option.{Option, none, some}
use Rattle.load_text.specs.Text.{Line, other, number}
use Rattle.load_text.specs.declared.Read.{Read}

-- a line, with the index at which the rest of the text begins
abbrev pub line_in : (text : List ℕ) → Rattle.std.specs.Prelude.Option Read → Line
line_in text None = other
line_in text (Some read) = number read.value (drop read.next text)

-- a digit more, of a number that may be most
abbrev pub Appends : (n d most : ℕ) → Rattle.std.specs.Prelude.Option ℕ → Type 0
Appends n d most None = suc most ≤ n * 10 + d
Appends n d most (Some m) = (m ≡ n * 10 + d) × (m ≤ most)

-- numbers that were read, or not
abbrev pub numbers_if : (ok : Bool) → List ℕ → Option (List ℕ)
numbers_if true ns = some ns
numbers_if false ns = none
