-- A test on a row that stands for whole numbers: where each element is up a - down a modulo p, the result is the sum of these by the pairs of bits, modulo p. Assumes nothing.
use Rattle.std.proofs.Common.{◌≡◌, ℕ, ◌+◌, ◌-◌, ◌*◌, ◌%◌, ◌<◌, ◌≤◌, Bool, true, false, cond, eqb, List, [], ◌∷◌, map, length, sym, refl, ap, ◌∙◌, mod-eq_of_lt, suc-mul, arith}
use Rattle.field64.specs.Field.{add_mod, sub_mod}
use Rattle.field64.specs.Sums.{evaluate}
use Rattle.field64.proofs.Modular.{modular, add_both, cancel, sub_add}
use Rattle.flp.specs.Tests.{pairs, weighed, weigh, test_of}

-- each of a list is such
abbrev pub Every : {A : Type 0} → (A → Type 0) → List A → Type 0
Every P [] = Unit {0}
Every P (a ∷ zs) = P a × Every P zs

-- what a pair takes of a number's two parts: 0 takes the second, 3 the first
abbrev pub taken : (pair first second : ℕ) → ℕ
taken pair first second = cond (eqb pair 0) second (cond (eqb pair 3) first 0)

-- a test's sum of up a - down a over a list is `sums up down` less `sums down up`
unfoldable pub sums : {A : Type 0} (up down : A → ℕ) (pairs : List ℕ) (zs : List A) → ℕ
sums up down [] zs = 0
sums up down (c ∷ cs) [] = 0
sums up down (c ∷ cs) (a ∷ zs) = taken c (up a) (down a) + sums up down cs zs

-- ---- a test on field numbers

-- x is u - d modulo p
abbrev pub Stands : (p x u d : ℕ) → Type 0
Stands p x u d = (x ≤ p) × ((x + d) % p ≡ u % p)

module _ (p : ℕ) (positive : 0 < p) where
  negative_stands : (x u d : ℕ) → Stands p x u d → (sub_mod p 0 x + u) % p ≡ d % p
  negative_stands x u d s =
      let e : (sub_mod p 0 x + u) + x ≡ (sub_mod p 0 x + x) + u = omega arith in
      let f : u ≡ 0 + u = omega arith in
      let g : x + d ≡ d + x = omega arith in
      cancel p positive (sub_mod p 0 x + u) d x
      (ap (λ (n : ℕ). n % p) e ∙ add_both p (sub_mod p 0 x + x) 0 u u (sub_add p positive 0 x s.0) refl
      ∙ ap (λ (n : ℕ). n % p) (sym f) ∙ sym s.1 ∙ ap (λ (n : ℕ). n % p) g)

  weighed_stands : (c x u d : ℕ) → Stands p x u d → (weighed p c x + taken c d u) % p ≡ taken c u d % p
  unfolding weighed
  weighed_stands c x u d s = go (eqb c 0) (eqb c 3)
    where
      go : (q t : Bool) → (cond q (sub_mod p 0 x) (cond t x 0) + cond q u (cond t d 0)) % p ≡ cond q d (cond t u 0) % p
      go true t = negative_stands x u d s
      go false true = s.1
      go false false = refl

  module _ {A : Type 0} (x up down : A → ℕ) where
    abbrev StandsAt : A → Type 0
    StandsAt a = Stands p (x a) (up a) (down a)

    total_stands : (cs : List ℕ) (zs : List A) → Every StandsAt zs → (evaluate p 1 (weigh p cs (map x zs)) + sums down up cs zs) % p ≡ sums up down cs zs % p
    unfolding evaluate weigh sums
    total_stands [] zs s = refl
    total_stands (c ∷ cs) [] s = refl
    total_stands (c ∷ cs) (a ∷ zs) s =
        let w = weighed p c (x a) in
        let e = evaluate p 1 (weigh p cs (map x zs)) in
        let order : (w + 1 * e) + (taken c (down a) (up a) + sums down up cs zs) ≡ (w + taken c (down a) (up a)) + (e + sums down up cs zs) = omega arith in
        simp modular (ap (λ (n : ℕ). n % p) order)
        ∙ add_both p (w + taken c (down a) (up a)) (taken c (up a) (down a)) (e + sums down up cs zs) (sums up down cs zs) (weighed_stands c (x a) (up a) (down a) s.0) (total_stands cs zs s.1)

    pub test_stands : (bytes : List ℕ) (zs : List A) → Every StandsAt zs → (test_of p (map x zs) bytes + sums down up (pairs bytes) zs) % p ≡ sums up down (pairs bytes) zs % p
    unfolding test_of
    test_stands bytes zs s = total_stands (pairs bytes) zs s

-- ---- the sums themselves

-- they are no larger than so many of the bound
module _ {A : Type 0} (up down : A → ℕ) (bound : ℕ) where
  abbrev pub Bounded : A → Type 0
  Bounded a = (up a ≤ bound) × (down a ≤ bound)

  taken_small : (c u d : ℕ) → u ≤ bound → d ≤ bound → taken c u d ≤ bound
  taken_small c u d h k = go (eqb c 0) (eqb c 3)
    where
      go : (q t : Bool) → cond q d (cond t u 0) ≤ bound
      go true t = k
      go false true = h
      go false false = omega arith

  pub sums_small : (cs : List ℕ) (zs : List A) → Every Bounded zs → (sums up down cs zs ≤ length zs * bound) × (sums down up cs zs ≤ length zs * bound)
  unfolding sums
  sums_small [] zs s = (omega arith, omega arith)
  sums_small (c ∷ cs) [] s = (omega arith, omega arith)
  sums_small (c ∷ cs) (z ∷ zs) s = (
    omega (arith, suc-mul (length zs) bound, taken_small c (up z) (down z) s.0.0 s.0.1, sums_small cs zs s.1),
    omega (arith, suc-mul (length zs) bound, taken_small c (down z) (up z) s.0.1 s.0.0, sums_small cs zs s.1),
  )

-- numbers by two limbs, each with its parts: low + base * high
module _ {A : Type 0} (base : ℕ) (up down up₀ down₀ up₁ down₁ : A → ℕ) where
  abbrev pub Splits : A → Type 0
  Splits a = up a + (down₀ a + base * down₁ a) ≡ down a + (up₀ a + base * up₁ a)

  abbrev Split : (u d u₀ d₀ u₁ d₁ : ℕ) → Type 0
  Split u d u₀ d₀ u₁ d₁ = u + (d₀ + base * d₁) ≡ d + (u₀ + base * u₁)

  taken_splits : (c u d u₀ d₀ u₁ d₁ : ℕ) → Split u d u₀ d₀ u₁ d₁ → Split (taken c u d) (taken c d u) (taken c u₀ d₀) (taken c d₀ u₀) (taken c u₁ d₁) (taken c d₁ u₁)
  taken_splits c u d u₀ d₀ u₁ d₁ s = go (eqb c 0) (eqb c 3)
    where
      go : (q t : Bool) → Split (cond q d (cond t u 0)) (cond q u (cond t d 0)) (cond q d₀ (cond t u₀ 0)) (cond q u₀ (cond t d₀ 0)) (cond q d₁ (cond t u₁ 0)) (cond q u₁ (cond t d₁ 0))
      go true t = sym s
      go false true = s
      go false false = refl

  pub sums_split : (cs : List ℕ) (zs : List A) → Every Splits zs
      → sums up down cs zs + (sums down₀ up₀ cs zs + base * sums down₁ up₁ cs zs) ≡ sums down up cs zs + (sums up₀ down₀ cs zs + base * sums up₁ down₁ cs zs)
  unfolding sums
  sums_split [] zs s = refl
  sums_split (c ∷ cs) [] s = refl
  sums_split (c ∷ cs) (a ∷ zs) s =
      omega (arith, taken_splits c (up a) (down a) (up₀ a) (down₀ a) (up₁ a) (down₁ a) s.0, sums_split cs zs s.1)

-- ---- from results modulo p to whole numbers

-- a result with `raise` added, where its sum is no further from 0 than that: it is the sum itself, raised
pub raised : (p : ℕ) → 0 < p → (r raise u d : ℕ) → (r + d) % p ≡ u % p → d ≤ raise → u + raise < p → add_mod p r raise + d ≡ u + raise
raised p positive r raise u d e h k =
    let order : (r + raise) + d ≡ (r + d) + raise = omega arith in
    let back : (u + (raise - d)) + d ≡ u + raise = omega arith in
    let same : (r + raise) % p ≡ (u + (raise - d)) % p = cancel p positive (r + raise) (u + (raise - d)) d (ap (λ (n : ℕ). n % p) order ∙ add_both p (r + d) u raise raise e refl ∙ sym (ap (λ (n : ℕ). n % p) back)) in
    let l : u + (raise - d) < p = omega arith in
    omega (arith, same ∙ mod-eq_of_lt l)

pub test_raised : {A : Type 0} (p : ℕ) → 0 < p → (x up down : A → ℕ) (bound raise : ℕ) (bytes : List ℕ) (zs : List A) → Every (λ z. Stands p (x z) (up z) (down z)) zs → Every (Bounded up down bound) zs → length zs * bound ≤ raise → raise + raise < p
    → add_mod p (test_of p (map x zs) bytes) raise + sums down up (pairs bytes) zs ≡ sums up down (pairs bytes) zs + raise
test_raised p positive x up down bound raise bytes zs s b h room =
    let m : (sums up down (pairs bytes) zs ≤ length zs * bound) × (sums down up (pairs bytes) zs ≤ length zs * bound) = sums_small up down bound (pairs bytes) zs b in
    raised p positive (test_of p (map x zs) bytes) raise (sums up down (pairs bytes) zs) (sums down up (pairs bytes) zs) (test_stands p positive x up down bytes zs s) (omega (arith, m)) (omega (arith, m))

-- two limbs raised, put together
pub join : (base n₀ n₁ raise₀ raise₁ u d u₀ d₀ u₁ d₁ : ℕ) → u + (d₀ + base * d₁) ≡ d + (u₀ + base * u₁) → n₀ + d₀ ≡ u₀ + raise₀ → n₁ + d₁ ≡ u₁ + raise₁
    → (n₀ + base * n₁) + d ≡ u + (raise₀ + base * raise₁)
join base n₀ n₁ raise₀ raise₁ u d u₀ d₀ u₁ d₁ s e f =
    let g : base * (n₁ + d₁) ≡ base * (u₁ + raise₁) = ap (λ (n : ℕ). base * n) f in
    omega arith

-- modulo p again
pub lowered : (p : ℕ) → 0 < p → (t n raise u d : ℕ) → (t + d) % p ≡ u % p → n + d ≡ u + raise → n % p ≡ (t + raise) % p
lowered p positive t n raise u d e f =
    let order : (t + raise) + d ≡ (t + d) + raise = omega arith in
    cancel p positive n (t + raise) d (ap (λ (m : ℕ). m % p) f ∙ sym (ap (λ (m : ℕ). m % p) order ∙ add_both p (t + d) u raise raise e refl))
