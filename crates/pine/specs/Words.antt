-- What the statements over any field ask of its rows. Assumes nothing.
use Rattle.std.specs.Prelude.{◌≡◌, List, ℕ, length}
use Rattle.rows.specs.Rows.{Below}
use Rattle.pine.specs.Param.{Field}

-- field numbers come back from their words, and a row of words has as many elements as its length says
pub record WordLaws (F : Field) : Type 0 where
  pub read_back : (xs : List ℕ) → Below F.p xs → F.elements (F.words xs) ≡ xs
  pub as_many : (xs : List ℕ) → length (F.words xs) ≡ F.words_in (length xs)
  pub counted : (row : List ℕ) (n : ℕ) → length row ≡ F.words_in n → length (F.elements row) ≡ n
