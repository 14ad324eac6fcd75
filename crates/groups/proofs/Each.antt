-- A loop over all the tests, whatever is made of the bytes of each: result by result, as a row whose elements are replaced from the front. Assumes nothing.
use mathlib.Core.Path.{◌≡◌, refl, sym, ap, ◌∙◌}
use mathlib.Core.List.{List, [], ◌∷◌}
use Prim.Native.Nat.{ℕ, zero, suc, ◌+◌, ◌-◌, ◌*◌, ◌≤◌, ◌<◌}
use native.Mathlib.Nat.{suc-mul, mul-le-mul_right}
use native.Mathlib.Omega.{arith}
use lib.ListN.{length, get_or, take, drop, set, length-drop}
use lib.Seq.{drop-drop, length-take-le}
use Rattle.rows.specs.Rows.{Below}
use Rattle.rows.proofs.Elements.{below_at}
use Rattle.rows.proofs.Walk.{Walking, walked_at, walked_end, walking_next}
use Rattle.groups.specs.Groups.{each_test}

-- the bytes of test i lie within the stream
bytes_inside : (i T per j n l : ℕ) → i < T → j + n ≤ per → T * per ≤ l → i * per + j + n ≤ l
bytes_inside i T per j n l h g m = omega (arith, suc-mul i per, mul-le-mul_right per h)

module _ (f : (bytes : List ℕ) (r : ℕ) → ℕ) (per j n : ℕ) where
  length_each : (s row : List ℕ) → length (each_test f per j n s row) ≡ length row
  length_each s [] = refl
  length_each s (r ∷ row) = ap suc (length_each (drop per s) row)

  get_or_each : (s row : List ℕ) (i : ℕ) → i < length row → get_or (each_test f per j n s row) i 0 ≡ f (take n (drop (i * per + j) s)) (get_or row i 0)
  get_or_each s [] i h = absurd (omega arith)
  get_or_each s (r ∷ row) zero h =
      let on : j ≡ 0 * per + j = omega arith in
      ap (λ (k : ℕ). f (take n (drop k s)) r) on
  get_or_each s (r ∷ row) (suc i) h =
      let on : per + (i * per + j) ≡ suc i * per + j = omega (arith, suc-mul i per) in
      get_or_each (drop per s) row i (omega arith)
      ∙ ap (λ (bytes : List ℕ). f (take n bytes) (get_or row i 0)) (drop-drop (i * per + j) per s ∙ ap (λ (k : ℕ). drop k s) on)

  -- the results, of which t have been replaced: s is the stream, d the results before, a what they are now
  module _ (s d a : List ℕ) (t : ℕ) (w : Walking (each_test f per j n s d) d a t) where
    pub each_end : length d ≡ t → a ≡ each_test f per j n s d
    each_end h = w.2 ∙ walked_end _ _ t (length_each s d) h

    module _ (h : t < length a) where
      here : get_or a t 0 ≡ get_or d t 0
      here = rw w.2 (walked_at 0 (each_test f per j n s d) d t (length_each s d) (omega arith))

      pub small : (p : ℕ) → Below p d → get_or a t 0 < p
      small p b = rw here (below_at p d b t (omega arith))

      pub inside : length d * per ≤ length s → j + n ≤ per → t * per + j + n ≤ length s
      inside l m = bytes_inside t (length d) per j n (length s) (omega arith) m l

      part_is : take (t * per + j + n - (t * per + j)) (drop (t * per + j) s) ≡ take n (drop (t * per + j) s)
      part_is =
          let e : t * per + j + n - (t * per + j) ≡ n = omega arith in
          rw e

      pub bytes_long : length d * per ≤ length s → j + n ≤ per → length (take (t * per + j + n - (t * per + j)) (drop (t * per + j) s)) ≡ n
      bytes_long l m =
          let e : n ≤ length (drop (t * per + j) s) = rw (length-drop (t * per + j) s) (omega (arith, inside l m)) in
          ap length part_is ∙ length-take-le n (drop (t * per + j) s) e

      pub each_next : (r : ℕ) → r ≡ f (take (t * per + j + n - (t * per + j)) (drop (t * per + j) s)) (get_or a t 0) → Walking (each_test f per j n s d) d (set a t r) (t + 1)
      each_next r e = walking_next 0 (each_test f per j n s d) d a t r (length_each s d) w h (e ∙ (λ i. f (part_is i) (here i)) ∙ sym (get_or_each s d t (omega arith)))

-- the next of n steps
pub step_le : (k n : ℕ) → k < n → k + 1 ≤ n
step_le k n h = omega arith
