-- Laws of rows added and taken out by element, modulo any p. Assumes nothing.
use Rattle.std.proofs.Common.{◌≡◌, ℕ, ◌%◌, ◌<◌, List, [], ◌∷◌, ◌++◌, length, get_or, take, drop, replicate, sym, refl, ap, le_of_lt, mod-lt, arith}
use native.Mathlib.Nat.{zero-mod}
use Rattle.field64.specs.Field.{add_mod, sub_mod}
use Rattle.field64.specs.Sums.{evaluate}
use Rattle.field64.proofs.Modular.{modular}
use Rattle.field64.proofs.Ring.{sum_comm, sum_assoc, sum_zero, difference_below, difference_of_sum, sum_of_difference}
use Rattle.rows.specs.Rows.{Below, add_rows, sub_rows}
use Rattle.rows.proofs.ByElement.{length_by, get_or_by, below_by, take_by, drop_by, append_by}

module _ (p : ℕ) where
  pub length-add_rows : (xs ys : List ℕ) → length xs ≡ length ys → length (add_rows p xs ys) ≡ length xs
  length-add_rows = length_by (add_mod p)

  pub get_or-add_rows : (xs ys : List ℕ) (i : ℕ) → length xs ≡ length ys → i < length xs → get_or (add_rows p xs ys) i 0 ≡ add_mod p (get_or xs i 0) (get_or ys i 0)
  get_or-add_rows = get_or_by (add_mod p)

  pub add_below : 0 < p → (xs ys : List ℕ) → Below p (add_rows p xs ys)
  add_below h = below_by (add_mod p) p (λ x y. mod-lt _ h)

  pub take_add : (n : ℕ) (xs ys : List ℕ) → take n (add_rows p xs ys) ≡ add_rows p (take n xs) (take n ys)
  take_add = take_by (add_mod p)

  pub drop_add : (n : ℕ) (xs ys : List ℕ) → length xs ≡ length ys → drop n (add_rows p xs ys) ≡ add_rows p (drop n xs) (drop n ys)
  drop_add = drop_by (add_mod p)

  pub append_add : (xs ys zs ws : List ℕ) → length xs ≡ length ys → add_rows p (xs ++ zs) (ys ++ ws) ≡ add_rows p xs ys ++ add_rows p zs ws
  append_add = append_by (add_mod p)

  -- adding is commutative and associative, whatever the lengths
  pub add_rows_comm : (xs ys : List ℕ) → add_rows p xs ys ≡ add_rows p ys xs
  add_rows_comm [] [] = refl
  add_rows_comm [] (y ∷ ys) = refl
  add_rows_comm (x ∷ xs) [] = refl
  add_rows_comm (x ∷ xs) (y ∷ ys) = λ i. sum_comm p x y i ∷ add_rows_comm xs ys i

  pub add_rows_assoc : (xs ys zs : List ℕ) → add_rows p (add_rows p xs ys) zs ≡ add_rows p xs (add_rows p ys zs)
  add_rows_assoc [] ys zs = refl
  add_rows_assoc (x ∷ xs) [] zs = refl
  add_rows_assoc (x ∷ xs) (y ∷ ys) [] = refl
  add_rows_assoc (x ∷ xs) (y ∷ ys) (z ∷ zs) = λ i. sum_assoc p x y z i ∷ add_rows_assoc xs ys zs i

  -- zeros change nothing
  pub add_rows_zero : (xs : List ℕ) → Below p xs → add_rows p xs (replicate (length xs) 0) ≡ xs
  add_rows_zero [] f = refl
  add_rows_zero (x ∷ xs) f = λ i. sum_zero p x f.0 i ∷ add_rows_zero xs f.1 i

  module _ (positive : 0 < p) where
    pub sub_below : (xs ys : List ℕ) → Below p (sub_rows p xs ys)
    sub_below = below_by (sub_mod p) p (difference_below p positive)

    -- taking out an equal row undoes adding, and adding undoes taking out
    pub sub_undoes : (xs ys : List ℕ) → length xs ≡ length ys → Below p xs → Below p ys → sub_rows p (add_rows p xs ys) ys ≡ xs
    sub_undoes [] ys e f g = refl
    sub_undoes (x ∷ xs) [] e f g = absurd (omega arith)
    sub_undoes (x ∷ xs) (y ∷ ys) e f g =
        let s : sub_mod p (add_mod p x y) y ≡ x = difference_of_sum p positive x y f.0 (le_of_lt g.0) in
        let r : sub_rows p (add_rows p xs ys) ys ≡ xs = sub_undoes xs ys (omega arith) f.1 g.1 in
        λ i. s i ∷ r i

    pub add_undoes : (xs ys : List ℕ) → length xs ≡ length ys → Below p xs → Below p ys → add_rows p (sub_rows p xs ys) ys ≡ xs
    add_undoes [] ys e f g = refl
    add_undoes (x ∷ xs) [] e f g = absurd (omega arith)
    add_undoes (x ∷ xs) (y ∷ ys) e f g =
        let s : add_mod p (sub_mod p x y) y ≡ x = sum_of_difference p positive x y f.0 (le_of_lt g.0) in
        let r : add_rows p (sub_rows p xs ys) ys ≡ xs = add_undoes xs ys (omega arith) f.1 g.1 in
        λ i. s i ∷ r i

  -- the sum of a row added by element is the sum of the sums, whatever the weights
  pub evaluate_add : (r : ℕ) (xs ys : List ℕ) → length xs ≡ length ys → evaluate p r (add_rows p xs ys) ≡ add_mod p (evaluate p r xs) (evaluate p r ys)
  unfolding evaluate
  evaluate_add r [] [] e = sym (zero-mod p)
  evaluate_add r [] (y ∷ ys) e = absurd (omega arith)
  evaluate_add r (x ∷ xs) [] e = absurd (omega arith)
  evaluate_add r (x ∷ xs) (y ∷ ys) e =
      rw (evaluate_add r xs ys (omega arith)) (simp modular (ap (λ (n : ℕ). n % p) (omega arith)))
