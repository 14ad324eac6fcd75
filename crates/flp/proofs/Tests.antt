-- Laws of the wraparound tests, over any modulus p: which bits a coordinate has; the results of a sum by element are the sums of the results. Assumes nothing.
use mathlib.Core.Path.{◌≡◌, refl, sym, ap, ◌∙◌}
use mathlib.Core.Bool.{Bool, true, false, cond}
use mathlib.Core.List.{List, [], ◌∷◌, map}
use Prim.Native.Nat.{ℕ, zero, suc, ◌+◌, ◌*◌, ◌/◌, ◌%◌, ◌^◌, ◌<◌}
use native.Mathlib.Nat.{mod-lt, zero-mod, le_of_lt, div-one}
use native.Mathlib.Omega.{arith}
use lib.ListN.{length, get_or, length-map}
use lib.Dec.{eqb}
use Rattle.field64.specs.Field.{add_mod, sub_mod}
use Rattle.field64.proofs.Modular.{modular, add_both, sub_add, sub_is}
use Rattle.field64.proofs.Sums.{evaluate_below}
use Rattle.rows.specs.Rows.{Below, add_rows}
use Rattle.rows.proofs.Added.{evaluate_add}
use Rattle.flp.specs.Bits.{groups}
use Rattle.flp.specs.Tests.{pairs, weighed, weigh, test_of, tests_of}
use Rattle.flp.proofs.Bits.{length_groups}

-- coordinate j has byte j / 4, and there the bits 2 (j % 4) and one above
pub pairs_at : (bytes : List ℕ) (j : ℕ) → j < 4 * length bytes → get_or (pairs bytes) j 0 ≡ get_or bytes (j / 4) 0 / 4 ^ (j % 4) % 4
unfolding pairs
pairs_at [] j h = absurd (omega arith)
pairs_at (b ∷ bs) zero h = sym (ap (λ (n : ℕ). n % 4) (div-one b))
pairs_at (b ∷ bs) (suc zero) h = refl
pairs_at (b ∷ bs) (suc (suc zero)) h = refl
pairs_at (b ∷ bs) (suc (suc (suc zero))) h = refl
pairs_at (b ∷ bs) (suc (suc (suc (suc j)))) h =
    let q : suc (suc (suc (suc j))) / 4 ≡ suc (j / 4) = omega arith in
    let r : suc (suc (suc (suc j))) % 4 ≡ j % 4 = omega arith in
    pairs_at bs j (omega arith) ∙ sym (rw (q, r))

pub length_tests : (p per T : ℕ) (stream xs : List ℕ) → length (tests_of p per T stream xs) ≡ T
unfolding tests_of
length_tests p per T stream xs = length-map (groups per T stream) (test_of p xs) ∙ length_groups per T stream

length_weigh : (p : ℕ) (cs xs ys : List ℕ) → length xs ≡ length ys → length (weigh p cs xs) ≡ length (weigh p cs ys)
unfolding weigh
length_weigh p [] xs ys e = refl
length_weigh p (c ∷ cs) [] [] e = refl
length_weigh p (c ∷ cs) [] (y ∷ ys) e = absurd (omega arith)
length_weigh p (c ∷ cs) (x ∷ xs) [] e = absurd (omega arith)
length_weigh p (c ∷ cs) (x ∷ xs) (y ∷ ys) e = ap suc (length_weigh p cs xs ys (omega arith))

module _ (p : ℕ) (positive : 0 < p) where
  pub tests_below : (per T : ℕ) (stream xs : List ℕ) → Below p (tests_of p per T stream xs)
  unfolding tests_of test_of
  tests_below per T stream xs = go (groups per T stream)
    where
      go : (gs : List (List ℕ)) → Below p (map (test_of p xs) gs)
      go [] = tt
      go (g ∷ gs) = (evaluate_below p 1 positive _, go gs)

  negative_add : (x y : ℕ) → x < p → y < p → sub_mod p 0 (add_mod p x y) ≡ add_mod p (sub_mod p 0 x) (sub_mod p 0 y)
  negative_add x y h k =
      sub_is p positive 0 (add_mod p x y) (sub_mod p 0 x + sub_mod p 0 y) (le_of_lt (mod-lt (x + y) positive))
      (simp modular (ap (λ (n : ℕ). n % p) (omega arith))
      ∙ add_both p (sub_mod p 0 x + x) 0 (sub_mod p 0 y + y) 0 (sub_add p positive 0 x (le_of_lt h)) (sub_add p positive 0 y (le_of_lt k)))

  weighed_add : (c x y : ℕ) → x < p → y < p → weighed p c (add_mod p x y) ≡ add_mod p (weighed p c x) (weighed p c y)
  unfolding weighed
  weighed_add c x y h k = go (eqb c 0) (eqb c 3)
    where
      go : (s t : Bool) → cond s (sub_mod p 0 (add_mod p x y)) (cond t (add_mod p x y) 0) ≡ add_mod p (cond s (sub_mod p 0 x) (cond t x 0)) (cond s (sub_mod p 0 y) (cond t y 0))
      go true t = negative_add x y h k
      go false true = refl
      go false false = sym (zero-mod p)

  weigh_add : (cs xs ys : List ℕ) → Below p xs → Below p ys → length xs ≡ length ys → weigh p cs (add_rows p xs ys) ≡ add_rows p (weigh p cs xs) (weigh p cs ys)
  unfolding weigh
  weigh_add [] xs ys f g e = refl
  weigh_add (c ∷ cs) [] ys f g e = refl
  weigh_add (c ∷ cs) (x ∷ xs) [] f g e = absurd (omega arith)
  weigh_add (c ∷ cs) (x ∷ xs) (y ∷ ys) f g e = rw (weighed_add c x y f.0 g.0, weigh_add cs xs ys f.1 g.1 (omega arith))

  module _ (xs ys : List ℕ) (f : Below p xs) (g : Below p ys) (e : length xs ≡ length ys) where
    test_add : (bytes : List ℕ) → test_of p (add_rows p xs ys) bytes ≡ add_mod p (test_of p xs bytes) (test_of p ys bytes)
    unfolding test_of
    test_add bytes = rw (weigh_add (pairs bytes) xs ys f g e) (evaluate_add p 1 _ _ (length_weigh p (pairs bytes) xs ys e))

    -- whatever the stream
    pub tests_add : (per T : ℕ) (stream : List ℕ) → tests_of p per T stream (add_rows p xs ys) ≡ add_rows p (tests_of p per T stream xs) (tests_of p per T stream ys)
    unfolding tests_of
    tests_add per T stream = go (groups per T stream)
      where
        go : (gs : List (List ℕ)) → map (test_of p (add_rows p xs ys)) gs ≡ add_rows p (map (test_of p xs) gs) (map (test_of p ys) gs)
        go [] = refl
        go (b ∷ bs) = rw (test_add b, go bs)

-- a row that is known to be such results
pub results_below : (p : ℕ) → 0 < p → (per T : ℕ) (s xs rs : List ℕ) → rs ≡ tests_of p per T s xs → Below p rs
results_below p h per T s xs rs e = rw e (tests_below p h per T s xs)
