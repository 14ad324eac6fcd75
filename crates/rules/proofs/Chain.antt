-- Laws of rules in their order: what an answer of 0 has met, and what meets it. Assumes nothing.
use mathlib.Core.Path.{◌≡◌, refl, sym, ap, ◌∙◌}
use mathlib.Core.Bool.{Bool, true, false, cond, ◌||◌, true≢false}
use mathlib.Core.List.{List, [], ◌∷◌}
use Prim.Native.Nat.{ℕ, zero, suc, ◌≤◌, ◌<◌}
use native.Mathlib.Omega.{arith}
use lib.ListN.{take, drop}
use lib.Dec.{eqb, ltb}
use borrow.Author.Tests.{eqb-true, eqb-false, ltb-false, eq-eqb, ne_eqb}
use Rattle.rules.specs.declared.Answer.{Answer}
use Rattle.rules.specs.Rules.{answer, accepted, refuse, first, in_order, out_of}

-- the last rule of a chain
pub refuse_last : (t : Bool) (n k : ℕ) → first (refuse t (suc n) k) accepted ≡ refuse t (suc n) k
refuse_last true n k = rw (ne_eqb (suc n) 0 (λ e. omega arith))
refuse_last false n k = refl

-- ---- chains

pub first_refused : (a b : Answer) → (a.number ≡ 0 → ⊥) → first a b ≡ a
first_refused a b h = rw (ne_eqb a.number 0 h)

pub first_passed : (a b : Answer) → a.number ≡ 0 → first a b ≡ b
first_passed a b h = rw (eq-eqb a.number 0 h)

-- where a refuses, both sides are a, and where it does not, both are the rest
pub first_assoc : (a b c : Answer) → first (first a b) c ≡ first a (first b c)
first_assoc a b c = go (eqb a.number 0) refl
  where
    go : (t : Bool) → eqb a.number 0 ≡ t → first (cond t b a) c ≡ cond t (first b c) a
    go true e = refl
    go false e = rw e

pub both : (a b : Answer) → (first a b).number ≡ 0 → (a.number ≡ 0) × (b.number ≡ 0)
both a b h = go (eqb a.number 0) refl h
  where
    go : (t : Bool) → eqb a.number 0 ≡ t → (cond t b a).number ≡ 0 → (a.number ≡ 0) × (b.number ≡ 0)
    go true e h = (eqb-true _ _ e, h)
    go false e h = absurd (eqb-false _ _ e h)

-- none of the rules is broken
abbrev pub Passed : List Answer → Type 0
Passed [] = Unit {0}
Passed (a ∷ rest) = (a.number ≡ 0) × Passed rest

pub passed : (rules : List Answer) → (in_order rules).number ≡ 0 → Passed rules
passed [] h = tt
passed (a ∷ rest) h = ((both a (in_order rest) h).0, passed rest (both a (in_order rest) h).1)

pub accepts : (rules : List Answer) → Passed rules → in_order rules ≡ accepted
accepts [] h = refl
accepts (a ∷ rest) h = rw (eq-eqb a.number 0 h.0) (accepts rest h.1)

pub none : {a : Answer} → a ≡ accepted → a.number ≡ 0
none e = ap (λ (a : Answer). a.number) e

-- an answer whose number is 0 is `accepted` itself
pub accepted_whole : (rules : List Answer) → (in_order rules).number ≡ 0 → in_order rules ≡ accepted
accepted_whole rules h = accepts rules (passed rules h)

-- ---- one rule

-- refuses where t is true, or where it is false
pub not_so : (t : Bool) (n k : ℕ) → (refuse t (suc n) k).number ≡ 0 → t ≡ false
not_so true n k h = absurd (omega arith)
not_so false n k h = refl

pub so : (t : Bool) (n k : ℕ) → (cond t accepted (answer (suc n) k)).number ≡ 0 → t ≡ true
so true n k h = refl
so false n k h = absurd (omega arith)

neither : (s t : Bool) → (s || t) ≡ false → (s ≡ false) × (t ≡ false)
neither false t h = (refl, h)
neither true t h = absurd (true≢false h)

-- a number within a rule's limits
pub within : (x m : ℕ) → out_of x m ≡ false → (0 < x) × (x ≤ m)
within x m h =
    let e = neither (eqb x 0) (ltb m x) h in
    (some x (eqb-false x 0 e.0), ltb-false m x e.1)
  where
    some : (x : ℕ) → (x ≡ 0 → ⊥) → 0 < x
    some zero h = absurd (h refl)
    some (suc x) h = omega arith

pub inside : (x m n k : ℕ) → (refuse (out_of x m) (suc n) k).number ≡ 0 → (0 < x) × (x ≤ m)
inside x m n k h = within x m (not_so (out_of x m) n k h)

-- ---- the first k rules, and the others
pub split : (k : ℕ) (rules : List Answer) → in_order rules ≡ first (in_order (take k rules)) (in_order (drop k rules))
split zero rules = refl
split (suc k) [] = refl
split (suc k) (a ∷ rest) = ap (first a) (split k rest) ∙ sym (first_assoc a (in_order (take k rest)) (in_order (drop k rest)))
