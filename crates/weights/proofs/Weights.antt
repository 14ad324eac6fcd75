-- The weights of a test's bytes: the elements each times its weight, less each once, are what the bytes add. Over any modulus p. Assumes nothing.
use mathlib.Core.Path.{◌≡◌, refl, sym, ap, ◌∙◌}
use mathlib.Core.Bool.{Bool, true, false, cond}
use mathlib.Core.List.{List, [], ◌∷◌, ◌++◌, map}
use Prim.Native.Nat.{ℕ, zero, suc, ◌+◌, ◌*◌, ◌-◌, ◌/◌, ◌%◌, ◌^◌, ◌≤◌, ◌<◌}
use native.Mathlib.Nat.{mod_self, zero-mod, mod-mod, mod-eq_of_lt, add-mod-mod, sub-zero, le_of_lt}
use native.Mathlib.Numerals.{add-one}
use native.Mathlib.Omega.{arith}
use lib.ListN.{length, get_or, take, set, length-map}
use lib.Seq.{take-suc, take_all, length-take-le}
use lib.Dec.{eqb}
use Rattle.field64.specs.Field.{add_mod, sub_mod, mul_mod}
use Rattle.field64.specs.Sums.{evaluate, total}
use Rattle.field64.proofs.Modular.{modular, add_both, sub_is}
use Rattle.field64.proofs.Sums.{evaluate_below, total_append}
use Rattle.rows.specs.Rows.{Below, by_element}
use Rattle.rows.proofs.ByElement.{length_by, get_or_by}
use Rattle.rows.proofs.Elements.{below_at, below_take}
use Rattle.rows.proofs.Walk.{Walking, walking_next}
use Rattle.flp.specs.Tests.{pairs, weighed, weigh, test_of}
use Rattle.weights.specs.Weights.{weight, weights_of, PairWeights, written_at}

pub length_pairs : (bytes : List ℕ) → length (pairs bytes) ≡ 4 * length bytes
unfolding pairs
length_pairs [] = refl
length_pairs (b ∷ bs) =
    let e : length (pairs bs) ≡ 4 * length bs = length_pairs bs in
    omega arith

-- ---- a test

module _ (p : ℕ) (positive : 0 < p) where
  one_weighed : (c x : ℕ) → x < p → (weighed p c x + x) % p ≡ (x * weight c) % p
  unfolding weighed
  one_weighed c x h = go (eqb c 0) (eqb c 3)
    where
      go : (s t : Bool) → (cond s (sub_mod p 0 x) (cond t x 0) + x) % p ≡ (x * cond s 0 (cond t 2 1)) % p
      go true t =
          let e : 0 + (p - x) + x ≡ p = omega arith in
          let z : x * 0 ≡ 0 = omega arith in
          simp modular (ap (λ (n : ℕ). n % p) e ∙ mod_self p ∙ sym (zero-mod p) ∙ ap (λ (n : ℕ). n % p) (sym z))
      go false true = ap (λ (n : ℕ). n % p) (omega arith)
      go false false = ap (λ (n : ℕ). n % p) (omega arith)

  -- as many weights as there are elements
  all_weighed : (cs xs : List ℕ) → length xs ≤ length cs → Below p xs → (total p (weigh p cs xs) + total p xs) % p ≡ total p (by_element (mul_mod p) xs (take (length xs) (map weight cs)))
  unfolding weigh evaluate
  all_weighed [] [] h b = zero-mod p
  all_weighed [] (x ∷ xs) h b = absurd (omega arith)
  all_weighed (c ∷ cs) [] h b = zero-mod p
  all_weighed (c ∷ cs) (x ∷ xs) h b =
      let w : ℕ = weighed p c x in
      let u : ℕ = total p (weigh p cs xs) in
      let v : ℕ = total p xs in
      let products : List ℕ = by_element (mul_mod p) xs (take (length xs) (map weight cs)) in
      let r : ℕ = total p products in
      let later : (u + v) % p ≡ r = all_weighed cs xs (omega arith) b.1 in
      let both : (w + x + (u + v)) % p ≡ (x * weight c + r) % p = add_both p (w + x) (x * weight c) (u + v) r (one_weighed c x b.0) (later ∙ sym (mod-eq_of_lt (evaluate_below p 1 positive products))) in
      simp modular (ap (λ (n : ℕ). n % p) (swap w u x v) ∙ both ∙ ap (λ (n : ℕ). n % p) (once (x * weight c) r))
    where
      swap : (w u x v : ℕ) → w + 1 * u + (x + 1 * v) ≡ w + x + (u + v)
      swap w u x v = omega arith

      once : (y r : ℕ) → y + r ≡ y + 1 * r
      once y r = omega arith

  -- a result with a test's bytes: W added, and the plain sum taken off
  pub bytes_weighed : (r plain W : ℕ) (xs bytes : List ℕ) → Below p xs → length xs ≤ 4 * length bytes → plain ≡ total p xs → W ≡ total p (by_element (mul_mod p) xs (take (length xs) (weights_of bytes))) → sub_mod p (add_mod p r W) plain ≡ add_mod p r (test_of p xs bytes)
  unfolding test_of
  bytes_weighed r plain W xs bytes b h e f =
      let l : length xs ≤ length (pairs bytes) = omega (arith, length_pairs bytes) in
      let u : ℕ = total p (weigh p (pairs bytes) xs) in
      let s : plain ≤ p = rw e (le_of_lt (evaluate_below p 1 positive xs)) in
      let z : (u + plain) % p ≡ W = ap (λ (n : ℕ). (u + n) % p) e ∙ all_weighed (pairs bytes) xs l b ∙ sym f in
      sub_is p positive (add_mod p r W) plain (r + u) s (ap (λ (n : ℕ). n % p) (joined r u plain) ∙ sym (add-mod-mod r (u + plain) p) ∙ ap (λ (n : ℕ). (r + n) % p) z ∙ sym (mod-mod (r + W) p))
    where
      joined : (r u v : ℕ) → r + u + v ≡ r + (u + v)
      joined r u v = omega arith

  -- ---- sums that are not reduced: N, after k numbers of R

  pub sum_start : (R : List ℕ) → 0 % p ≡ total p (take 0 R)
  unfolding evaluate
  sum_start R = zero-mod p

  pub sum_next : (N M y k : ℕ) (R : List ℕ) → k < length R → N % p ≡ total p (take k R) → M ≡ N + y → y % p ≡ get_or R k 0 % p → M % p ≡ total p (take (k + 1) R)
  unfolding evaluate
  sum_next N M y k R h e f g =
      let t : take (k + 1) R ≡ take k R ++ (get_or R k 0 ∷ []) = rw (add-one, take-suc R k 0 h) in
      ap (λ (n : ℕ). n % p) f ∙ add_both p N (total p (take k R)) y (get_or R k 0) (e ∙ sym (mod-eq_of_lt (evaluate_below p 1 positive (take k R)))) g
      ∙ sym (ap (total p) t ∙ total_append p positive (take k R) (get_or R k 0 ∷ []) ∙ simp modular (ap (λ (n : ℕ). n % p) (omega arith)))

  pub sum_end : (N k : ℕ) (R : List ℕ) → length R ≤ k → N % p ≡ total p (take k R) → N % p ≡ total p R
  sum_end N k R h e = e ∙ ap (total p) (take_all k R h)

  -- R being the elements, and the elements each times its weight
  pub plain_next : (N M k : ℕ) (xs : List ℕ) → k < length xs → N % p ≡ total p (take k xs) → M ≡ N + get_or xs k 0 * 1 → M % p ≡ total p (take (k + 1) xs)
  plain_next N M k xs h e f =
      let one : get_or xs k 0 * 1 ≡ get_or xs k 0 = omega arith in
      sum_next N M (get_or xs k 0 * 1) k xs h e f (ap (λ (n : ℕ). n % p) one)

  pub weighed_next : (N M k : ℕ) (xs ws : List ℕ) → length xs ≡ length ws → k < length xs → N % p ≡ total p (take k (by_element (mul_mod p) xs ws)) → M ≡ N + get_or xs k 0 * get_or ws k 0 → M % p ≡ total p (take (k + 1) (by_element (mul_mod p) xs ws))
  weighed_next N M k xs ws l h e f =
      sum_next N M (get_or xs k 0 * get_or ws k 0) k (by_element (mul_mod p) xs ws) (rw (length_by (mul_mod p) xs ws l) h) e f
      (sym (ap (λ (n : ℕ). n % p) (get_or_by (mul_mod p) xs ws k l h) ∙ mod-mod (get_or xs k 0 * get_or ws k 0) p))

-- a half of such a sum, after k of at most 256 numbers
pub half_room : (k n h : ℕ) → k < n → n ≤ 256 → h ≤ k * 2 ^ 33 → h + 2 ^ 33 < 2 ^ 64
half_room k n h l m b = omega arith

pub half_next : (k h h' : ℕ) → h ≤ k * 2 ^ 33 → h' ≤ h + 2 ^ 33 → h' ≤ (k + 1) * 2 ^ 33
half_next k h h' b m = omega arith

-- ---- the weights as they are written

pub weights_below : (cs : List ℕ) → Below 3 (map weight cs)
weights_below [] = tt
weights_below (c ∷ cs) = (go (eqb c 0) (eqb c 3), weights_below cs)
  where
    go : (s t : Bool) → cond s 0 (cond t 2 1) < 3
    go true t = omega arith
    go false true = omega arith
    go false false = omega arith

pub weight_at : (ws : List ℕ) (k n : ℕ) → Below 3 ws → n ≡ length ws → k < n → get_or ws k 0 ≤ 2
weight_at ws k n b e h = omega (arith, below_at 3 ws b k (omega arith))

-- as many as there are elements, as a program cuts them out of the row
module _ (xs bytes row : List ℕ) (e : row ≡ weights_of bytes) where
  pub part_fits : length xs ≤ 4 * length bytes → (length xs ≡ length (take (length xs - 0) row)) × Below 3 (take (length xs - 0) row)
  part_fits h =
      let l : length xs ≤ length row = rw e (omega (arith, length-map (pairs bytes) weight, length_pairs bytes)) in
      (sym (rw (sub-zero (length xs)) (length-take-le (length xs) row l)), below_take 3 (length xs - 0) row (rw e (weights_below (pairs bytes))))

  pub part_weighed : (p W : ℕ) → W ≡ total p (by_element (mul_mod p) xs (take (length xs - 0) row)) → W ≡ total p (by_element (mul_mod p) xs (take (length xs) (weights_of bytes)))
  part_weighed p W f = f ∙ (λ i. total p (by_element (mul_mod p) xs (take (sub-zero (length xs) i) (e i))))

-- the table of half a byte
pub pairs_table : PairWeights (0 ∷ 0 ∷ 0 ∷ 1 ∷ 0 ∷ 0 ∷ 1 ∷ 0 ∷ 0 ∷ 2 ∷ 0 ∷ 0 ∷ 0 ∷ 1 ∷ 0 ∷ 1 ∷ 1 ∷ 0 ∷ 1 ∷ 1 ∷ 0 ∷ 2 ∷ 1 ∷ 0 ∷ 0 ∷ 1 ∷ 0 ∷ 1 ∷ 1 ∷ 0 ∷ 1 ∷ 1 ∷ 0 ∷ 2 ∷ 1 ∷ 0 ∷ 0 ∷ 2 ∷ 0 ∷ 1 ∷ 2 ∷ 0 ∷ 1 ∷ 2 ∷ 0 ∷ 2 ∷ 2 ∷ 0 ∷ [])
pairs_table zero h = (refl, refl)
pairs_table (suc zero) h = (refl, refl)
pairs_table (suc (suc zero)) h = (refl, refl)
pairs_table (suc (suc (suc zero))) h = (refl, refl)
pairs_table (suc (suc (suc (suc zero)))) h = (refl, refl)
pairs_table (suc (suc (suc (suc (suc zero))))) h = (refl, refl)
pairs_table (suc (suc (suc (suc (suc (suc zero)))))) h = (refl, refl)
pairs_table (suc (suc (suc (suc (suc (suc (suc zero))))))) h = (refl, refl)
pairs_table (suc (suc (suc (suc (suc (suc (suc (suc zero)))))))) h = (refl, refl)
pairs_table (suc (suc (suc (suc (suc (suc (suc (suc (suc zero))))))))) h = (refl, refl)
pairs_table (suc (suc (suc (suc (suc (suc (suc (suc (suc (suc zero)))))))))) h = (refl, refl)
pairs_table (suc (suc (suc (suc (suc (suc (suc (suc (suc (suc (suc zero))))))))))) h = (refl, refl)
pairs_table (suc (suc (suc (suc (suc (suc (suc (suc (suc (suc (suc (suc zero)))))))))))) h = (refl, refl)
pairs_table (suc (suc (suc (suc (suc (suc (suc (suc (suc (suc (suc (suc (suc zero))))))))))))) h = (refl, refl)
pairs_table (suc (suc (suc (suc (suc (suc (suc (suc (suc (suc (suc (suc (suc (suc zero)))))))))))))) h = (refl, refl)
pairs_table (suc (suc (suc (suc (suc (suc (suc (suc (suc (suc (suc (suc (suc (suc (suc zero))))))))))))))) h = (refl, refl)
pairs_table (suc (suc (suc (suc (suc (suc (suc (suc (suc (suc (suc (suc (suc (suc (suc (suc h)))))))))))))))) l = absurd (omega arith)

weights_at : (bytes : List ℕ) (k : ℕ) → k < length bytes → (get_or (weights_of bytes) (4 * k) 0 ≡ weight (get_or bytes k 0 % 4)) × (get_or (weights_of bytes) (4 * k + 1) 0 ≡ weight (get_or bytes k 0 / 4 % 4)) × (get_or (weights_of bytes) (4 * k + 2) 0 ≡ weight (get_or bytes k 0 / 16 % 4)) × (get_or (weights_of bytes) (4 * k + 3) 0 ≡ weight (get_or bytes k 0 / 64 % 4))
unfolding pairs
weights_at [] k h = absurd (omega arith)
weights_at (b ∷ bs) zero h = (refl, refl, refl, refl)
weights_at (b ∷ bs) (suc k) h =
    let w = weights_at bs k (omega arith) in
    let e : 4 * suc k ≡ suc (suc (suc (suc (4 * k)))) = omega arith in
    let f : 4 * suc k + 1 ≡ suc (suc (suc (suc (4 * k + 1)))) = omega arith in
    let g : 4 * suc k + 2 ≡ suc (suc (suc (suc (4 * k + 2)))) = omega arith in
    let i : 4 * suc k + 3 ≡ suc (suc (suc (suc (4 * k + 3)))) = omega arith in
    let at : ℕ → ℕ = λ n. get_or (weights_of (b ∷ bs)) n 0 in
    (ap at e ∙ w.0, ap at f ∙ w.1, ap at g ∙ w.2, ap at i ∙ w.3)

-- the bytes before k have their weights in the row
module _ (bytes d : List ℕ) (long : length d ≡ 4 * length bytes) where
  pub weights_long : length (weights_of bytes) ≡ length d
  weights_long = length-map (pairs bytes) weight ∙ length_pairs bytes ∙ sym long

  turn : (a : List ℕ) (i m v : ℕ) → i + 1 ≡ m → Walking (weights_of bytes) d a i → i < length d → v ≡ get_or (weights_of bytes) i 0 → Walking (weights_of bytes) d (set a i v) m
  turn a i m v e w h g = rw (← e) (walking_next 0 (weights_of bytes) d a i v weights_long w (omega arith) g)

  pub byte_walked : (a : List ℕ) (k : ℕ) → k < length bytes → Walking (weights_of bytes) d a (4 * k) → Walking (weights_of bytes) d (written_at (get_or bytes k 0) (4 * k) a) (4 * (k + 1))
  byte_walked a k h w =
      let v = weights_at bytes k h in
      let w₁ = turn a (4 * k) (4 * k + 1) _ (omega arith) w (omega arith) (sym v.0) in
      let w₂ = turn _ (4 * k + 1) (4 * k + 2) _ (omega arith) w₁ (omega arith) (sym v.1) in
      let w₃ = turn _ (4 * k + 2) (4 * k + 3) _ (omega arith) w₂ (omega arith) (sym v.2) in
      turn _ (4 * k + 3) (4 * (k + 1)) _ (omega arith) w₃ (omega arith) (sym v.3)
