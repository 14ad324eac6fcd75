-- Laws of rule 7, a row's length. Assumes nothing.
use Rattle.std.proofs.Common.{◌≡◌, ℕ, Bool, true, false, cond, eqb, refl, eq-eqb, eqb-true}
use Rattle.rules.specs.Rules.{answer, accepted, first}
use Rattle.rules.proofs.Chain.{so}
use Rattle.rows.specs.Rows.{row_rule}

pub right_row : (k n m : ℕ) → n ≡ m → row_rule k n m ≡ accepted
right_row k n m e = rw (eq-eqb n m e)

pub row_right : (k n m : ℕ) → (row_rule k n m).number ≡ 0 → n ≡ m
row_right k n m h = eqb-true n m (so (eqb n m) 6 k h)

-- the last rule of a chain
pub row_last : (k n m : ℕ) → first (row_rule k n m) accepted ≡ row_rule k n m
row_last k n m = go (eqb n m)
  where
    go : (t : Bool) → first (cond t accepted (answer 7 k)) accepted ≡ cond t accepted (answer 7 k)
    go true = refl
    go false = refl
