-- A polynomial A(r1) + r3·N + r3²·W(r2) + r3³·G over a prime: how many triples make it zero, unless all its coefficients are. Assumes nothing.
use mathlib.Core.Path.{◌≡◌, refl, sym, ap, ◌∙◌}
use mathlib.Core.Bool.{Bool, true, false, cond}
use mathlib.Core.List.{List, [], ◌∷◌}
use Prim.Native.Nat.{ℕ, suc, ◌+◌, ◌-◌, ◌*◌, ◌%◌, ◌≤◌, ◌<◌}
use native.Mathlib.Nat.{mod-eq_of_lt, zero-mod, mul-zero, add-zero, mul-le-mul_right}
use native.Mathlib.Omega.{arith}
use lib.ListN.{length}
use lib.Dec.{eqb}
use borrow.Author.Tests.{eqb-true, eqb-false, eq-eqb, ne_eqb}
use Rattle.field64.specs.Field.{add_mod, mul_mod}
use Rattle.field64.specs.Prime.{Prime}
use Rattle.field64.specs.Sums.{evaluate}
use Rattle.field64.proofs.Sums.{evaluate_below}
use Rattle.field64.proofs.Factors.{positive}
use Rattle.soundness.specs.Soundness.{sum_below, count, triples}
use Rattle.soundness.proofs.Counting.{sum_le, sum_same, sum_most, sum_add, sum_times, count_le, count_all, count_none}
use Rattle.soundness.proofs.Roots.{Zeros, zeros_evaluate, is_root, roots}

abbrev pub is_zero : (p : ℕ) (xs ws : List ℕ) (N G : ℕ) → (r1 r2 r3 : ℕ) → Bool
is_zero p xs ws N G r1 r2 r3 = eqb (evaluate p r3 (evaluate p r1 xs ∷ N ∷ evaluate p r2 ws ∷ G ∷ [])) 0

-- zeros at the end count for nothing
last_zero : (p r a b c : ℕ) → evaluate p r (a ∷ b ∷ c ∷ 0 ∷ []) ≡ evaluate p r (a ∷ b ∷ c ∷ [])
unfolding evaluate
last_zero p r a b c = ap (λ (n : ℕ). add_mod p a (mul_mod p r (add_mod p b (mul_mod p r (add_mod p c (mul_mod p r n)))))) (zeros_evaluate p r (0 ∷ []) (zero-mod p, tt))

constant : (p r a : ℕ) → evaluate p r (a ∷ 0 ∷ 0 ∷ 0 ∷ []) ≡ a % p
unfolding evaluate
constant p r a = ap (λ (n : ℕ). add_mod p a (mul_mod p r n)) (zeros_evaluate p r (0 ∷ 0 ∷ 0 ∷ []) (zero-mod p, (zero-mod p, (zero-mod p, tt)))) ∙ rw (mul-zero, zero-mod, add-zero)

module _ (p : ℕ) (prime : Prime p) (xs ws : List ℕ) where
  -- N or G is not zero: 3 roots r3 at the most, for each r1 and r2
  pub outer : (N G : ℕ) → ((r1 r2 : ℕ) → Zeros p (evaluate p r1 xs ∷ N ∷ evaluate p r2 ws ∷ G ∷ []) → ⊥) → triples p (is_zero p xs ws N G) ≤ 3 * (p * p)
  unfolding triples
  outer N G some =
      let h : triples p (is_zero p xs ws N G) ≤ p * (p * 3) =
      sum_most p (p * 3) _ (λ r1 k1. sum_most p 3 _ (λ r2 k2. below_suc _ 3 (roots p prime (evaluate p r1 xs ∷ N ∷ evaluate p r2 ws ∷ G ∷ []) (some r1 r2)))) in
      omega arith
    where
      below_suc : (a n : ℕ) → a < suc n → a ≤ n
      below_suc a n h = omega arith

  module _ (some : Zeros p ws → ⊥) where
    -- 2 roots r3 at the most, but for the roots r2 of W
    middle_at : (r1 r2 : ℕ) → count p (is_zero p xs ws 0 0 r1 r2) ≤ 2 + cond (is_root p ws r2) 1 0 * p
    middle_at r1 r2 = go (is_root p ws r2) refl
      where
        go : (t : Bool) → is_root p ws r2 ≡ t → count p (is_zero p xs ws 0 0 r1 r2) ≤ 2 + cond t 1 0 * p
        go true e = omega (arith, count_all p (is_zero p xs ws 0 0 r1 r2))
        go false e =
            let a = evaluate p r1 xs in
            let w = evaluate p r2 ws in
            let h : count p (is_zero p xs ws 0 0 r1 r2) ≤ count p (is_root p (a ∷ 0 ∷ w ∷ [])) = count_le p _ _ (λ r3 k t. eq-eqb _ _ (sym (last_zero p r3 a 0 w) ∙ eqb-true _ _ t)) in
            let l : count p (is_root p (a ∷ 0 ∷ w ∷ [])) < 3 = roots p prime (a ∷ 0 ∷ w ∷ []) (λ z. eqb-false _ _ e (sym (mod-eq_of_lt (evaluate_below p r2 (positive p prime) ws)) ∙ z.1.1.0)) in
            omega arith

    middle_row : (r1 : ℕ) → sum_below p (λ r2. count p (is_zero p xs ws 0 0 r1 r2)) ≤ (length ws + 1) * p
    unfolding count
    middle_row r1 =
        let c = count p (is_root p ws) in
        let h : sum_below p (λ r2. count p (is_zero p xs ws 0 0 r1 r2)) ≤ sum_below p (λ r2. 2 + cond (is_root p ws r2) 1 0 * p) = sum_le p _ _ (λ r2 k. middle_at r1 r2) in
        let e : sum_below p (λ r2. 2 + cond (is_root p ws r2) 1 0 * p) ≡ p * 2 + c * p = sum_add p (λ r2. 2) (λ r2. cond (is_root p ws r2) 1 0 * p) ∙ rw (sum_same p 2, sum_times p p (λ r2. cond (is_root p ws r2) 1 0)) in
        let l : suc c * p ≤ length ws * p = mul-le-mul_right p (roots p prime ws some) in
        omega arith

    -- N and G are zero, and W is not
    pub middle : triples p (is_zero p xs ws 0 0) ≤ (length ws + 1) * (p * p)
    unfolding triples
    middle =
        let h : triples p (is_zero p xs ws 0 0) ≤ p * ((length ws + 1) * p) = sum_most p ((length ws + 1) * p) _ (λ r1 k. middle_row r1) in
        omega arith

  module _ (none : Zeros p ws) (some : Zeros p xs → ⊥) where
    -- every r2 and r3, for the roots r1 of A
    inner_row : (r1 : ℕ) → sum_below p (λ r2. count p (is_zero p xs ws 0 0 r1 r2)) ≤ cond (is_root p xs r1) 1 0 * (p * p)
    inner_row r1 = go (is_root p xs r1) refl
      where
        go : (t : Bool) → is_root p xs r1 ≡ t → sum_below p (λ r2. count p (is_zero p xs ws 0 0 r1 r2)) ≤ cond t 1 0 * (p * p)
        go true e = omega (arith, sum_most p p (λ r2. count p (is_zero p xs ws 0 0 r1 r2)) (λ r2 k. count_all p _))
        go false e = omega (arith, sum_most p 0 (λ r2. count p (is_zero p xs ws 0 0 r1 r2)) (λ r2 k. count_none p _ (λ r3 l. ne_eqb _ _ (not_zero r2 r3))))
          where
            not_zero : (r2 r3 : ℕ) → evaluate p r3 (evaluate p r1 xs ∷ 0 ∷ evaluate p r2 ws ∷ 0 ∷ []) ≡ 0 → ⊥
            not_zero r2 r3 z =
                let a = evaluate p r1 xs in
                eqb-false a 0 e (sym (mod-eq_of_lt (evaluate_below p r1 (positive p prime) xs)) ∙ sym (constant p r3 a) ∙ rw (zeros_evaluate p r2 ws none) at z)

    -- N, G and W are zero, and A is not
    pub inner : triples p (is_zero p xs ws 0 0) ≤ (length xs - 1) * (p * p)
    unfolding triples count
    inner =
        let c = count p (is_root p xs) in
        let h : triples p (is_zero p xs ws 0 0) ≤ sum_below p (λ r1. cond (is_root p xs r1) 1 0 * (p * p)) = sum_le p _ _ (λ r1 k. inner_row r1) in
        let e : sum_below p (λ r1. cond (is_root p xs r1) 1 0 * (p * p)) ≡ c * (p * p) = sum_times p (p * p) (λ r1. cond (is_root p xs r1) 1 0) in
        let l : c * (p * p) ≤ (length xs - 1) * (p * p) = mul-le-mul_right (p * p) (omega (arith, roots p prime xs some)) in
        omega arith
