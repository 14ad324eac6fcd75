-- Rows of words: Field64's, of which an element is its word; and the length that the calls ask of a row. Assumes nothing.
use mathlib.Core.Path.{◌≡◌, refl, ap, ◌∙◌}
use mathlib.Core.List.{List}
use Prim.Native.Nat.{ℕ}
use lib.ListN.{length}
use Rattle.pine.specs.Param.{Field, Field64}
use Rattle.pine.specs.Words.{WordLaws}

pub words_64 : WordLaws Field64
words_64 = record { read_back = λ xs h. refl; as_many = λ xs. refl; counted = λ row n h. h }

pub words_long : (F : Field) → WordLaws F → (xs : List ℕ) (n : ℕ) → length xs ≡ n → length (F.words xs) ≡ F.words_in n
words_long F laws xs n h = laws.as_many xs ∙ ap F.words_in h
