-- Modulo a prime, a polynomial of n + 1 coefficients that are not all zero has n roots at the most. Assumes nothing.
use mathlib.Core.Path.{◌≡◌, refl, sym, ap, ◌∙◌}
use mathlib.Core.Bool.{Bool}
use mathlib.Core.List.{List, [], ◌∷◌}
use Prim.Native.Nat.{ℕ, zero, suc, ◌+◌, ◌-◌, ◌*◌, ◌%◌, ◌≤◌, ◌<◌}
use native.Mathlib.Nat.{mod-eq_of_lt, zero-mod, mul-zero, add-zero, zero-add, mod-mod, suc_inj}
use native.Mathlib.Decide.{ℕ_discrete}
use native.Mathlib.Omega.{arith}
use lib.ListN.{length}
use lib.Dec.{eqb}
use borrow.Author.Tests.{eqb-true, eq-eqb}
use Rattle.field64.specs.Field.{add_mod, mul_mod}
use Rattle.field64.specs.Prime.{Prime}
use Rattle.field64.specs.Sums.{evaluate}
use Rattle.field64.proofs.Modular.{modular, add_both, mul_both}
use Rattle.field64.proofs.Sums.{evaluate_below}
use Rattle.field64.proofs.Factors.{positive, other_zero}
use Rattle.soundness.specs.Soundness.{count}
use Rattle.soundness.proofs.Counting.{count_le, count_before}

-- each is zero modulo p
abbrev pub Zeros : (p : ℕ) → List ℕ → Type 0
Zeros p [] = Unit {0}
Zeros p (c ∷ cs) = (c % p ≡ 0) × Zeros p cs

pub zeros_evaluate : (p r : ℕ) (cs : List ℕ) → Zeros p cs → evaluate p r cs ≡ 0
unfolding evaluate
zeros_evaluate p r [] z = refl
zeros_evaluate p r (c ∷ cs) z = rw (zeros_evaluate p r cs z.1, mul-zero, zero-mod, add-zero) z.0

-- the values at a of a polynomial's tails: those of c₁ ∷ c₂ ∷ .. are the coefficients of the quotient of c₀ ∷ c₁ ∷ c₂ ∷ .. by x - a
divided : (p a : ℕ) → List ℕ → List ℕ
divided p a [] = []
divided p a (c ∷ cs) = evaluate p a (c ∷ cs) ∷ divided p a cs

length_divided : (p a : ℕ) (cs : List ℕ) → length (divided p a cs) ≡ length cs
unfolding divided
length_divided p a [] = refl
length_divided p a (c ∷ cs) = ap suc (length_divided p a cs)

zeros_divided : (p a : ℕ) (cs : List ℕ) → Zeros p (divided p a cs) → Zeros p cs
unfolding divided evaluate
zeros_divided p a [] z = tt
zeros_divided p a (c ∷ cs) z =
    let more : Zeros p cs = zeros_divided p a cs z.1 in
    let e : evaluate p a cs ≡ 0 = zeros_evaluate p a cs more in
    (rw (e, mul-zero, zero-mod, add-zero, mod-mod) at z.0, more)

joined : (p x d c E e D : ℕ) → E % p ≡ (e + d * D) % p → add_mod p c (mul_mod p (x + d) E) ≡ (add_mod p c (mul_mod p x e) + d * add_mod p E (mul_mod p x D)) % p
joined p x d c E e D h =
    simp modular (
    ap (λ (n : ℕ). n % p) (one x d c E)
    ∙ add_both p (c + d * E) (c + d * E) (x * E) (x * (e + d * D)) refl (mul_both p x x E (e + d * D) refl h)
    ∙ ap (λ (n : ℕ). n % p) (two x d c E e D))
  where
    one : (x d c E : ℕ) → c + (x + d) * E ≡ (c + d * E) + x * E
    one x d c E = omega arith

    two : (x d c E e D : ℕ) → (c + d * E) + x * (e + d * D) ≡ (c + x * e) + d * (E + x * D)
    two x d c E e D = omega arith

-- f (x + d) is f x + d · q x, where q is the quotient of f by the difference to x + d
quotient : (p x d c : ℕ) (cs : List ℕ) → evaluate p (x + d) (c ∷ cs) ≡ (evaluate p x (c ∷ cs) + d * evaluate p x (divided p (x + d) cs)) % p
unfolding divided evaluate
quotient p x d c [] = simp modular (ap (λ (n : ℕ). n % p) (simp mul-zero (omega arith)))
quotient p x d c (c1 ∷ cs) =
    let E = evaluate p (x + d) (c1 ∷ cs) in
    let e = evaluate p x (c1 ∷ cs) in
    let D = evaluate p x (divided p (x + d) cs) in
    let h : E % p ≡ (e + d * D) % p = ap (λ (n : ℕ). n % p) (quotient p x d c1 cs) ∙ mod-mod (e + d * D) p in
    joined p x d c E e D h

-- a polynomial that is zero at a, all of whose later coefficients are zero
zeros_whole : (p a c : ℕ) (cs : List ℕ) → evaluate p a (c ∷ cs) ≡ 0 → Zeros p cs → Zeros p (c ∷ cs)
unfolding evaluate
zeros_whole p a c cs e z = (rw (zeros_evaluate p a cs z, mul-zero, zero-mod, add-zero) at e, z)

abbrev pub is_root : (p : ℕ) → List ℕ → ℕ → Bool
is_root p cs r = eqb (evaluate p r cs) 0

module _ (p : ℕ) (prime : Prime p) where
  -- a root x below the root a is one of the quotient
  root_left : (x a c : ℕ) (cs : List ℕ) → x < a → a < p → evaluate p a (c ∷ cs) ≡ 0 → evaluate p x (c ∷ cs) ≡ 0 → evaluate p x (divided p a cs) ≡ 0
  root_left x a c cs h l f e =
      let s : x + (a - x) ≡ a = omega arith in
      let D = evaluate p x (divided p a cs) in
      let q : evaluate p a (c ∷ cs) ≡ (evaluate p x (c ∷ cs) + (a - x) * D) % p = rw s at (quotient p x (a - x) c cs) in
      let z : ((a - x) * D) % p ≡ 0 = sym (ap (λ (n : ℕ). n % p) (zero-add ((a - x) * D))) ∙ rw (e, f) at (sym q) in
      sym (mod-eq_of_lt (evaluate_below p x (positive p prime) (divided p a cs))) ∙ other_zero p prime (a - x) D z (λ w. apart (a - x) (omega arith) (omega arith) w)
    where
      apart : (d : ℕ) → 0 < d → d < p → d % p ≡ 0 → ⊥
      apart d h l w = omega (arith, mod-eq_of_lt l)

  -- below any m that is at most p
  up_to : (n c : ℕ) (cs : List ℕ) → length cs ≡ n → (Zeros p (c ∷ cs) → ⊥) → (m : ℕ) → m ≤ p → count m (is_root p (c ∷ cs)) ≤ n
  unfolding divided
  up_to zero c [] l some = count_before p 0 (is_root p (c ∷ [])) (λ a h t. absurd (some (zeros_whole p a c [] (eqb-true _ _ t) tt)))
  up_to zero c (c1 ∷ cs) l some = absurd (omega arith)
  up_to (suc n) c [] l some = absurd (omega arith)
  up_to (suc n) c (c1 ∷ cs) l some = count_before p (suc n) (is_root p (c ∷ c1 ∷ cs)) (λ a h t. before a h (eqb-true _ _ t) (up_to n (evaluate p a (c1 ∷ cs)) (divided p a cs) (length_divided p a cs ∙ suc_inj l)))
    where
      before : (a : ℕ) → a < p → evaluate p a (c ∷ c1 ∷ cs) ≡ 0
          → ((Zeros p (evaluate p a (c1 ∷ cs) ∷ divided p a cs) → ⊥) → (m : ℕ) → m ≤ p → count m (is_root p (evaluate p a (c1 ∷ cs) ∷ divided p a cs)) ≤ n)
          → count a (is_root p (c ∷ c1 ∷ cs)) < suc n
      before a h e more =
          let b : count a (is_root p (evaluate p a (c1 ∷ cs) ∷ divided p a cs)) ≤ n = more (λ z. some (zeros_whole p a c (c1 ∷ cs) e (zeros_divided p a (c1 ∷ cs) z))) a (omega arith) in
          let d : count a (is_root p (c ∷ c1 ∷ cs)) ≤ count a (is_root p (evaluate p a (c1 ∷ cs) ∷ divided p a cs)) = count_le a _ _ (λ x k t. eq-eqb _ _ (root_left x a c (c1 ∷ cs) k h e (eqb-true _ _ t))) in
          omega arith

  -- FEWER ROOTS THAN COEFFICIENTS, if not all of these are zero
  pub roots : (cs : List ℕ) → (Zeros p cs → ⊥) → count p (is_root p cs) < length cs
  roots [] some = absurd (some tt)
  roots (c ∷ cs) some = omega (arith, up_to (length cs) c cs refl some p (omega arith))

pub zeros_or : (p : ℕ) (cs : List ℕ) → Dec (Zeros p cs)
zeros_or p [] = yes tt
zeros_or p (c ∷ cs) = go (ℕ_discrete (c % p) 0) (zeros_or p cs)
  where
    go : Dec (c % p ≡ 0) → Dec (Zeros p cs) → Dec (Zeros p (c ∷ cs))
    go (yes e) (yes z) = yes (e, z)
    go (yes e) (no z) = no (λ w. z w.1)
    go (no e) (yes z) = no (λ w. e w.0)
    go (no e) (no z) = no (λ w. e w.0)
