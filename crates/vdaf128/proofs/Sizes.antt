-- The search for a sum that is too large to be decoded (rule 23). Assumes nothing.
use mathlib.Core.Path.{◌≡◌, refl, sym, ap, ◌∙◌}
use mathlib.Core.Bool.{Bool, true, false, cond}
use mathlib.Core.List.{List, [], ◌∷◌}
use Prim.Native.Nat.{ℕ, zero, suc, ◌+◌, ◌/◌, ◌≤◌, ◌<◌}
use native.Mathlib.Nat.{mod-lt}
use native.Mathlib.Numerals.{add-one}
use native.Mathlib.Omega.{arith}
use lib.ListN.{length, get_or, drop, drop_of_length-le}
use lib.Seq.{drop-cons}
use lib.Dec.{eqb, ltb, lit<}
use borrow.Author.Tests.{eq-eqb, ne_eqb}
use Rattle.rules.specs.declared.Answer.{Answer}
use Rattle.rules.specs.Rules.{answer, accepted, refuse}
use Rattle.doubles.specs.Doubles.{centred_size, size_rule}
use Rattle.field64.specs.Field.{add_mod}
use Rattle.rows.specs.Rows.{add_rows}
use Rattle.rows.proofs.Added.{length-add_rows, get_or-add_rows}
use Rattle.field128.specs.Field128.{p128, elements_of}
use Rattle.field128.proofs.Pairs.{same_number, elements_length}
use Rattle.vdaf.specs.Aggregates.{sizes_rule}

-- a rule's answer by its number
refused_is : (t : Bool) → ((refuse t 23 0).number ≡ 0 → ⊥) → (refuse t 23 0).number ≡ 23
refused_is true n = refl
refused_is false n = absurd (n refl)

module _ (p l : ℕ) where
  -- the search, a being sum i's answer: it goes on, it stops, it ends
  module _ (ys : List ℕ) (i : ℕ) (h : i < length ys) (e : sizes_rule p l 0 ys ≡ sizes_rule p l i (drop i ys)) where
    pub sizes_next : (size_rule p l (get_or ys i 0)).number ≡ 0 → sizes_rule p l 0 ys ≡ sizes_rule p l (i + 1) (drop (i + 1) ys)
    unfolding sizes_rule
    sizes_next n = e ∙ rw (drop-cons ys i 0 h, eq-eqb (size_rule p l (get_or ys i 0)).number 0 n, add-one)

    pub sizes_stop : (a : Answer) → a ≡ size_rule p l (get_or ys i 0) → (a.number ≡ 0 → ⊥) → answer a.number i ≡ sizes_rule p l 0 ys
    unfolding sizes_rule
    sizes_stop a g n =
        let m : (size_rule p l (get_or ys i 0)).number ≡ 0 → ⊥ = λ z. n (ap (λ (b : Answer). b.number) g ∙ z) in
        let k : a.number ≡ 23 = ap (λ (b : Answer). b.number) g ∙ refused_is (ltb l (centred_size p (get_or ys i 0))) m in
        ap (λ (j : ℕ). answer j i) k ∙ sym (e ∙ rw (drop-cons ys i 0 h, ne_eqb (size_rule p l (get_or ys i 0)).number 0 m))

  pub sizes_end : (ys : List ℕ) (i : ℕ) → length ys ≤ i → sizes_rule p l 0 ys ≡ sizes_rule p l i (drop i ys) → accepted ≡ sizes_rule p l 0 ys
  unfolding sizes_rule
  sizes_end ys i h e = sym (e ∙ rw (drop_of_length-le ys h))

  -- what an accepted row has met
  pub all_small : (k : ℕ) (ys : List ℕ) → (sizes_rule p l k ys).number ≡ 0 → (j : ℕ) → j < length ys → ltb l (centred_size p (get_or ys j 0)) ≡ false
  unfolding sizes_rule
  all_small k [] h j g = absurd (omega arith)
  all_small k (y ∷ ys) h j g = go (ltb l (centred_size p y)) refl h (λ z i. all_small (suc k) ys z i) j g
    where
      go : (t : Bool) → ltb l (centred_size p y) ≡ t → (cond (eqb (refuse t 23 0).number 0) (sizes_rule p l (suc k) ys) (answer 23 k)).number ≡ 0 → ((sizes_rule p l (suc k) ys).number ≡ 0 → (i : ℕ) → i < length ys → ltb l (centred_size p (get_or ys i 0)) ≡ false) → (j : ℕ) → j < suc (length ys)
          → ltb l (centred_size p (get_or (y ∷ ys) j 0)) ≡ false
      go true e h more j g = absurd (omega (arith, h))
      go false e h more zero g = e
      go false e h more (suc j) g = more h j (omega arith)

-- one sum, by a flag
pub small_by_flag : (p l y r : ℕ) → r ≡ cond (ltb l (centred_size p y)) 1 0 → (r ≤ 1) × (r ≡ 0 → (size_rule p l y).number ≡ 0)
small_by_flag p l y r e = go (ltb l (centred_size p y)) e
  where
    go : (t : Bool) → r ≡ cond t 1 0 → (r ≤ 1) × (r ≡ 0 → (refuse t 23 0).number ≡ 0)
    go true f = (omega (arith, f), λ z. absurd (omega (arith, f, z)))
    go false f = (omega (arith, f), λ z. refl)

-- ---- the sums of two rows of words

abbrev pub sums : (left right : List ℕ) → List ℕ
sums left right = add_rows p128 (elements_of left) (elements_of right)

module _ (left right : List ℕ) (same : length left ≡ length right) where
  pub alike : length (elements_of left) ≡ length (elements_of right)
  alike = same_number left right same

  pub sums_long : length (sums left right) ≡ length left / 2
  sums_long = length-add_rows p128 (elements_of left) (elements_of right) alike ∙ elements_length left

  module _ (i : ℕ) (h : i < length left / 2) where
    pub sum_inside : (i < length (elements_of left)) × (i < length (elements_of right))
    sum_inside = (omega (arith, elements_length left), omega (arith, alike, elements_length left))

    pub sum_is : (s : ℕ) → s ≡ add_mod p128 (get_or (elements_of left) i 0) (get_or (elements_of right) i 0) → s ≡ get_or (sums left right) i 0
    sum_is s e = e ∙ sym (get_or-add_rows p128 (elements_of left) (elements_of right) i alike sum_inside.0)

pub sum_below_lem : (s a b : ℕ) → s ≡ add_mod p128 a b → s < p128
sum_below_lem s a b e = rw e (mod-lt (a + b) (lit< tt))
