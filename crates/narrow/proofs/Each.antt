-- A loop that writes φ of each element of a row of two words to an element. Assumes nothing.
use Rattle.std.proofs.Common.{◌≡◌, ℕ, zero, suc, ◌+◌, ◌*◌, ◌<◌, List, [], ◌∷◌, map, length, get_or, set, sym, refl, ap, ◌∙◌, arith}
use lib.ListN.{length-map, get_or-map}
use Rattle.rows.proofs.Walk.{Walking, walked_at, walking_next}
use Rattle.field128.specs.Field128.{elements_of}
use Rattle.field128.proofs.Pairs.{whole_twice}

module _ (φ : ℕ → ℕ) (rs d : List ℕ) (same : length rs ≡ 2 * length d) where
  pub many : length (elements_of rs) ≡ length d
  many = (whole_twice rs (length d) same).1

  pub long : length (map φ (elements_of rs)) ≡ length d
  long = length-map (elements_of rs) φ ∙ many

  pub turn : (a : List ℕ) (t x y : ℕ) → Walking (map φ (elements_of rs)) d a t → t < length a → x ≡ get_or (elements_of rs) t 0 → y ≡ φ x → Walking (map φ (elements_of rs)) d (set a t y) (t + 1)
  turn a t x y inv h e f = walking_next (φ 0) (map φ (elements_of rs)) d a t y long inv h (f ∙ ap φ e ∙ sym (get_or-map φ (elements_of rs) t 0))

-- a loop that writes φ of each element over ψ of it
module _ (φ ψ : ℕ → ℕ) (rs d : List ℕ) (same : length rs ≡ 2 * length d) where
  abbrev Over : (a : List ℕ) (t : ℕ) → Type 0
  Over a t = Walking (map φ (elements_of rs)) (map ψ (elements_of rs)) a t

  written : length rs ≡ 2 * length (map ψ (elements_of rs))
  written = same ∙ ap (λ (n : ℕ). 2 * n) (sym (long ψ rs d same))

  pub over_inside : (a : List ℕ) (t : ℕ) → Over a t → t < length a → t < length (elements_of rs)
  over_inside a t inv h = omega (arith, length-map (elements_of rs) ψ)

  -- what stands at t still is ψ's
  pub over_at : (a : List ℕ) (t : ℕ) → Over a t → t < length a → get_or a t 0 ≡ ψ (get_or (elements_of rs) t 0)
  over_at a t inv h =
      ap (λ (x : List ℕ). get_or x t 0) inv.2
      ∙ walked_at 0 (map φ (elements_of rs)) (map ψ (elements_of rs)) t (long φ rs (map ψ (elements_of rs)) written) (omega arith)
      ∙ mapped (elements_of rs) t (over_inside a t inv h)
    where
      mapped : (xs : List ℕ) (t : ℕ) → t < length xs → get_or (map ψ xs) t 0 ≡ ψ (get_or xs t 0)
      mapped [] t h = absurd (omega arith)
      mapped (x ∷ xs) zero h = refl
      mapped (x ∷ xs) (suc t) h = mapped xs t (omega arith)

  pub over_turn : (a : List ℕ) (t x y : ℕ) → Over a t → t < length a → x ≡ get_or (elements_of rs) t 0 → y ≡ φ x → Over (set a t y) (t + 1)
  over_turn a t x y = turn φ rs (map ψ (elements_of rs)) written a t x y
