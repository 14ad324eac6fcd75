-- Laws of f of two rows, by element, for any f. Assumes nothing.
use Rattle.std.proofs.Common.{◌≡◌, ℕ, zero, suc, ◌<◌, List, [], ◌∷◌, ◌++◌, length, get_or, take, drop, refl, ap, arith}
use Rattle.rows.specs.Rows.{Below, by_element}

module _ (f : ℕ → ℕ → ℕ) where
  pub length_by : (xs ys : List ℕ) → length xs ≡ length ys → length (by_element f xs ys) ≡ length xs
  length_by [] ys e = refl
  length_by (x ∷ xs) [] e = omega arith
  length_by (x ∷ xs) (y ∷ ys) e = ap suc (length_by xs ys (omega arith))

  pub get_or_by : (xs ys : List ℕ) (i : ℕ) → length xs ≡ length ys → i < length xs → get_or (by_element f xs ys) i 0 ≡ f (get_or xs i 0) (get_or ys i 0)
  get_or_by [] ys i e h = omega arith
  get_or_by (x ∷ xs) [] i e h = omega arith
  get_or_by (x ∷ xs) (y ∷ ys) zero e h = refl
  get_or_by (x ∷ xs) (y ∷ ys) (suc i) e h = get_or_by xs ys i (omega arith) (omega arith)

  pub below_by : (n : ℕ) → ((x y : ℕ) → f x y < n) → (xs ys : List ℕ) → Below n (by_element f xs ys)
  below_by n h [] ys = tt
  below_by n h (x ∷ xs) [] = tt
  below_by n h (x ∷ xs) (y ∷ ys) = (h x y, below_by n h xs ys)

  -- the parts are those of the parts
  pub take_by : (n : ℕ) (xs ys : List ℕ) → take n (by_element f xs ys) ≡ by_element f (take n xs) (take n ys)
  take_by zero xs ys = refl
  take_by (suc n) [] ys = refl
  take_by (suc n) (x ∷ xs) [] = refl
  take_by (suc n) (x ∷ xs) (y ∷ ys) = ap (λ (t : List ℕ). f x y ∷ t) (take_by n xs ys)

  pub drop_by : (n : ℕ) (xs ys : List ℕ) → length xs ≡ length ys → drop n (by_element f xs ys) ≡ by_element f (drop n xs) (drop n ys)
  drop_by zero xs ys e = refl
  drop_by (suc n) [] ys e = refl
  drop_by (suc n) (x ∷ xs) [] e = absurd (omega arith)
  drop_by (suc n) (x ∷ xs) (y ∷ ys) e = drop_by n xs ys (omega arith)

  pub append_by : (xs ys zs ws : List ℕ) → length xs ≡ length ys → by_element f (xs ++ zs) (ys ++ ws) ≡ by_element f xs ys ++ by_element f zs ws
  append_by [] [] zs ws e = refl
  append_by [] (y ∷ ys) zs ws e = absurd (omega arith)
  append_by (x ∷ xs) [] zs ws e = absurd (omega arith)
  append_by (x ∷ xs) (y ∷ ys) zs ws e = ap (λ (t : List ℕ). f x y ∷ t) (append_by xs ys zs ws (omega arith))
