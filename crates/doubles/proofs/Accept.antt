-- Which doubles rules 8 and 17 refuse, by the tests of `usable`, `size` and `normal_size` and by the product with the scale, and what the product's floor is. Assumes nothing.
use Rattle.std.proofs.Common.{◌≡◌, ℕ, zero, suc, ◌+◌, ◌*◌, ◌^◌, ◌<◌, ◌≤◌, Bool, true, false, cond, not, ◌&&◌, ◌||◌, T, eqb, ltb, ℤ, pos, negsuc, sym, refl, ap, ◌∙◌, subst, true≢false, lt_irrefl, zero-lt-suc, mul-pos, one-mul, zero-mul, arith, eqb→eq, ltb→lt, lt→ltb, le-ltb, eq-eqb, ne_eqb}
use mathlib.Core.Bool.{beq, false≢true}
use lib.Ieee.{Float, nan, inf, fin, binary64, up, down, neg, mul, lt, eq, fits}
use lib.Ieee.Bits.{is_true}
use lib.Ieee.Fits.{up_pos, and_l}
use borrow.Author.Tests.{not-true, not-false}
use Rattle.rules.specs.declared.Answer.{Answer}
use Rattle.rules.specs.Rules.{answer, accepted, refuse, first}
use Rattle.rules.proofs.Chain.{both, not_so}
use Rattle.doubles.specs.Doubles.{beyond, mod_p, unusable, floor_of, coordinate_rule, element, coordinate, encoded, coordinate_of, power}
use Rattle.doubles.specs.Steps.{size_of, normal_size, small, floor_at, floor_mod, within_limit}
use Rattle.doubles.proofs.Laws.{product_within, product_floor}

abbrev usable : Float → Bool
usable x = not (unusable x)

pub and_true : (b : Bool) → b && true ≡ b
and_true true = refl
and_true false = refl

pub clash {ℓ} : {X : Type ℓ} (b : Bool) → b ≡ true → b ≡ false → X
clash b h g = absurd (true≢false (sym h ∙ g))

-- 0.0 is `fin false 0 (pos 0)`: how a value compares with it
pub size_pos : (m : ℕ) (e : ℤ) → 0 < suc m * up e * 1
size_pos m e = mul-pos (mul-pos (zero-lt-suc m) (up_pos e)) (zero-lt-suc 0)

zero_product : (u d : ℕ) → 0 * u * 1 ≡ 0 * 1 * d
zero_product u d = ap (λ (x : ℕ). x * 1) (zero-mul u) ∙ sym (zero-mul d)

eq_is_zero : (s : Bool) (e : ℤ) → eq (fin s zero e) (fin false 0 (pos 0)) ≡ true
unfolding eq
eq_is_zero s e =
    ap (λ (x : ℕ). eqb x (0 * 1 * down e) && (beq s false || eqb x 0)) (ap (λ (x : ℕ). x * 1) (zero-mul (up e)))
    ∙ ap (λ (x : ℕ). eqb 0 x && (beq s false || true)) (zero-mul (down e)) ∙ or_true (beq s false)
  where
    or_true : (b : Bool) → (b || true) ≡ true
    or_true true = refl
    or_true false = refl

never_below_zero : (a d : ℕ) → ltb a (0 * 1 * d) ≡ true → ⊥
never_below_zero a d h = no (ltb→lt a (0 * 1 * d) (subst T (sym h) tt)) (zero-mul d)
  where
    no : a < 0 * d → 0 * d ≡ 0 → ⊥
    no g e = omega arith

-- a size that is not zero: subnormal or not
normal_is : (s : Bool) (m : ℕ) (e : ℤ) → normal_size (fin false (suc m) e) ≡ usable (fin s (suc m) e)
unfolding normal_size unusable lt
normal_is s m e =
    and_true (not (ltb (suc m * up e * 2 ^ 1022) (1 * 1 * down e)))
    ∙ ap (λ (x : ℕ). not (ltb (suc m * up e * 2 ^ 1022) x)) (one-mul (down e))
    ∙ ap (λ (b : Bool). not (b && ltb (suc m * up e * 2 ^ 1022) (down e))) (sym (is_true (ltb 0 (suc m)) (lt→ltb 0 (suc m) (zero-lt-suc m))))

usable_zero : (x : Float) → eq x (fin false 0 (pos 0)) ≡ true → true ≡ usable x
unfolding eq unusable
usable_zero nan h = absurd (false≢true h)
usable_zero (inf s) h = absurd (false≢true h)
usable_zero (fin s zero e) h = refl
usable_zero (fin s (suc m) e) h =
    let z : suc m * up e * 1 ≡ 0 * 1 * down e = eqb→eq (suc m * up e * 1) (0 * 1 * down e) (and_l (eqb (suc m * up e * 1) (0 * 1 * down e)) (beq s false || eqb (suc m * up e * 1) 0) (subst T (sym h) tt)) in
    absurd (lt_irrefl 0 (subst (λ (n : ℕ). 0 < n) (z ∙ zero-mul (down e)) (size_pos m e)))

below_zero : (m : ℕ) (e : ℤ) → lt (fin false m e) (fin false 0 (pos 0)) ≡ true → ⊥
unfolding lt
below_zero m e h = never_below_zero (m * up e * 1) (down e) h

zero_not_below : (e : ℤ) → lt (fin true zero e) (fin false 0 (pos 0)) ≡ false
unfolding lt
zero_not_below e = ap (λ (x : ℕ). ltb 0 (x * 1 + 0 * 1 * down e)) (zero-mul (up e)) ∙ ap (λ (x : ℕ). ltb 0 (0 + x)) (zero-mul (down e))

negative_below : (m : ℕ) (e : ℤ) → lt (fin true (suc m) e) (fin false 0 (pos 0)) ≡ true
unfolding lt
negative_below m e = is_true (ltb 0 (suc m * up e * 1 + 0 * 1 * down e)) (lt→ltb 0 (suc m * up e * 1 + 0 * 1 * down e) (more (suc m * up e * 1) (0 * 1 * down e) (size_pos m e)))
  where
    more : (a b : ℕ) → 0 < a → 0 < a + b
    more a b h = omega arith

usable_negative : (x : Float) → lt x (fin false 0 (pos 0)) ≡ true → normal_size (neg x) ≡ usable x
unfolding neg
usable_negative nan h = absurd (false≢true (unfold lt in h))
usable_negative (inf true) h = unfold normal_size unusable lt in refl
usable_negative (inf false) h = absurd (false≢true (unfold lt in h))
usable_negative (fin true zero e) h = clash (lt (fin true zero e) (fin false 0 (pos 0))) h (zero_not_below e)
usable_negative (fin true (suc m) e) h = normal_is true m e
usable_negative (fin false m e) h = absurd (below_zero m e h)

usable_positive : (x : Float) → eq x (fin false 0 (pos 0)) ≡ false → lt x (fin false 0 (pos 0)) ≡ false → normal_size x ≡ usable x
usable_positive nan z h = unfold normal_size unusable lt in refl
usable_positive (inf true) z h = absurd (true≢false (unfold lt in h))
usable_positive (inf false) z h = unfold normal_size unusable lt in refl
usable_positive (fin s zero e) z h = clash (eq (fin s zero e) (fin false 0 (pos 0))) (eq_is_zero s e) z
usable_positive (fin true (suc m) e) z h = clash (lt (fin true (suc m) e) (fin false 0 (pos 0))) (negative_below m e) h
usable_positive (fin false (suc m) e) z h = normal_is false m e

-- by its size
by_size : (x : Float) (t z : Bool) → lt x (fin false 0 (pos 0)) ≡ t → eq x (fin false 0 (pos 0)) ≡ z → z ≡ false → normal_size (cond t (neg x) x) ≡ usable x
by_size x true z h e f = usable_negative x h
by_size x false z h e f = usable_positive x (e ∙ f) h

pub usable_normal : (x : Float) → normal_size (size_of x) ≡ true → true ≡ usable x
unfolding size_of
usable_normal x h = go (eq x (fin false 0 (pos 0))) refl
  where
    go : (z : Bool) → eq x (fin false 0 (pos 0)) ≡ z → true ≡ usable x
    go true e = usable_zero x e
    go false e = sym h ∙ by_size x (lt x (fin false 0 (pos 0))) false refl e refl

pub usable_other : (x : Float) → normal_size (size_of x) ≡ false → eq x (fin false 0 (pos 0)) ≡ usable x
unfolding size_of
usable_other x h = go (eq x (fin false 0 (pos 0))) refl
  where
    go : (z : Bool) → eq x (fin false 0 (pos 0)) ≡ z → z ≡ usable x
    go true e = usable_zero x e
    go false e = sym h ∙ by_size x (lt x (fin false 0 (pos 0))) false refl e refl

-- ---- rules 8 and 17, by the product with the scale
pub usable_within : (l : ℕ) → l < 2 ^ 64 → (x : Float) (f : ℕ) → T (fits binary64 x) → unusable x ≡ false → within_limit l (mul binary64 x (power f)) ≡ not (beyond l (floor_of x f))
unfolding unusable
usable_within l L nan f t h = absurd (true≢false h)
usable_within l L (inf s) f t h = absurd (true≢false h)
usable_within l L (fin s m e) f t h = product_within l L s m e f t

-- what the two tests say of x
pub usable_is : (x : Float) (t : Bool) → t ≡ not (unusable x) → not t ≡ false → unusable x ≡ false
usable_is x t e h = not-true _ (sym e ∙ not-false t h)

pub limit_is : (l : ℕ) → l < 2 ^ 64 → (x scale : Float) (f : ℕ) → T (fits binary64 x) → scale ≡ power f → unusable x ≡ false → (t : Bool) → t ≡ within_limit l (mul binary64 x scale) → not t ≡ beyond l (floor_of x f)
limit_is l L x scale f t s u b e = ap not (e ∙ ap (λ (z : Float). within_limit l (mul binary64 x z)) s ∙ usable_within l L x f t u) ∙ not_not _
  where
    not_not : (b : Bool) → not (not b) ≡ b
    not_not true = refl
    not_not false = refl

-- the same by fewer tests: a product within the limit is that of a finite double
finite_size : (s : Bool) (m : ℕ) (e : ℤ) → lt (size_of (fin s m e)) (inf false) ≡ true
unfolding size_of neg
finite_size s m e = go (lt (fin s m e) (fin false 0 (pos 0)))
  where
    go : (t : Bool) → lt (cond t (fin (not s) m e) (fin s m e)) (inf false) ≡ true
    go true = unfold lt in refl
    go false = unfold lt in refl

not_small : (x : Float) → small x ≡ false → lt (size_of x) (inf false) ≡ true → unusable x ≡ false
unfolding small
not_small x h i = go (lt (size_of x) (fin false 1 (negsuc 1021))) (eq x (fin false 0 (pos 0))) refl refl h
  where
    go : (t z : Bool) → lt (size_of x) (fin false 1 (negsuc 1021)) ≡ t → eq x (fin false 0 (pos 0)) ≡ z → (t && not z) ≡ false → unusable x ≡ false
    go true true a b g = not-true _ (sym (usable_zero x b))
    go true false a b g = absurd (true≢false g)
    go false z a b g = not-true _ (sym (usable_normal x (unfold normal_size in (ap (λ (t : Bool). not t && lt (size_of x) (inf false)) a ∙ i))))

-- what is not small
pub zero_not_small : (x : Float) → eq x (fin false 0 (pos 0)) ≡ true → small x ≡ false
unfolding small
zero_not_small x h = ap (λ (t : Bool). lt (size_of x) (fin false 1 (negsuc 1021)) && not t) h ∙ and_false (lt (size_of x) (fin false 1 (negsuc 1021)))
  where
    and_false : (t : Bool) → (t && false) ≡ false
    and_false true = refl
    and_false false = refl

pub large_not_small : (x : Float) → lt (size_of x) (fin false 1 (negsuc 1021)) ≡ false → small x ≡ false
unfolding small
large_not_small x h = ap (λ (t : Bool). t && not (eq x (fin false 0 (pos 0)))) h

usable_unless_small : (l : ℕ) (x : Float) (f : ℕ) → small x ≡ false → within_limit l (mul binary64 x (power f)) ≡ true → unusable x ≡ false
usable_unless_small l nan f h g = absurd (false≢true (unfold mul within_limit in g))
usable_unless_small l (inf s) f h g = absurd (false≢true (unfold mul within_limit in g))
usable_unless_small l (fin s m e) f h g = not_small (fin s m e) h (finite_size s m e)

-- a coordinate that neither refuses
pub record Taken (l : ℕ) (x : Float) (f : ℕ) : Type 0 where
  pub usable : unusable x ≡ false
  pub near : beyond l (floor_of x f) ≡ false

pub taken : (l : ℕ) (x : Float) (f : ℕ) → (coordinate_rule l x f).number ≡ 0 → Taken l x f
taken l x f h = let g = both _ _ h in record { usable = not_so _ 7 0 g.0; near = not_so _ 16 0 g.1 }

-- the product's floor is its own
pub product_floor_is : (l : ℕ) → l < 2 ^ 64 → (x : Float) (f : ℕ) → T (fits binary64 x) → Taken l x f → floor_at (mul binary64 x (power f)) ≡ floor_of x f
product_floor_is l L nan f t h = absurd (true≢false (unfold unusable in h.usable))
product_floor_is l L (inf s) f t h = absurd (true≢false (unfold unusable in h.usable))
product_floor_is l L (fin s m e) f t h = product_floor l L s m e f t h.near

pub product_is_element : (p l : ℕ) → l < 2 ^ 64 → (x : Float) (f : ℕ) → T (fits binary64 x) → Taken l x f → floor_mod p (mul binary64 x (power f)) ≡ element p x f
unfolding floor_mod element
product_is_element p l L x f t h = ap (mod_p p) (product_floor_is l L x f t h)

-- ---- the answers
module _ (l : ℕ) (x : Float) (f : ℕ) where
  pub answer_8 : unusable x ≡ true → answer 8 0 ≡ coordinate_rule l x f
  answer_8 h = rw h

  pub answer_17 : unusable x ≡ false → beyond l (floor_of x f) ≡ true → answer 17 0 ≡ coordinate_rule l x f
  answer_17 h g = rw (h, g)

  pub answer_none : unusable x ≡ false → beyond l (floor_of x f) ≡ false → accepted ≡ coordinate_rule l x f
  answer_none h g = rw (h, g)

  pub not_refused : l < 2 ^ 64 → (scale : Float) → T (fits binary64 x) → scale ≡ power f → small x ≡ false → within_limit l (mul binary64 x scale) ≡ true → (coordinate_rule l x f).number ≡ 0
  not_refused L scale t s h g =
      let w : within_limit l (mul binary64 x (power f)) ≡ true = ap (λ (z : Float). within_limit l (mul binary64 x z)) (sym s) ∙ g in
      let u : unusable x ≡ false = usable_unless_small l x f h w in
      ap (λ (a : Answer). a.number) (sym (answer_none u (not-true _ (sym (usable_within l L x f t u) ∙ w))))

  module _ (p : ℕ) (a : Answer) (e : a ≡ coordinate_rule l x f) where
    pub encoded_refused : (a.number ≡ 0 → ⊥) → record { answer = a; element = 0 } ≡ encoded p l x f
    unfolding encoded
    encoded_refused h = ap (λ (t : Bool). record { answer = a; element = cond t (element p x f) 0 }) (sym (ne_eqb a.number 0 h)) ∙ ap (λ (b : Answer). coordinate b (element p x f)) e

    pub encoded_accepted : (y : ℕ) → a.number ≡ 0 → y ≡ element p x f → record { answer = a; element = y } ≡ encoded p l x f
    unfolding encoded
    encoded_accepted y h g =
        ap (λ (z : ℕ). record { answer = a; element = z }) g
        ∙ ap (λ (t : Bool). record { answer = a; element = cond t (element p x f) 0 }) (sym (eq-eqb a.number 0 h)) ∙ ap (λ (b : Answer). coordinate b (element p x f)) e

-- rule 4 met, the two calls give the same
pub small_frac_bits : (p l : ℕ) (x : Float) (f : ℕ) → f ≤ 30 → encoded p l x f ≡ coordinate_of p l x f
unfolding encoded coordinate_of
small_frac_bits p l x f h = ap (λ (a : Answer). coordinate a (element p x f)) (sym (first_last (unusable x) (beyond l (floor_of x f)))) ∙ ap (λ (t : Bool). coordinate (first (refuse t 4 0) (first (coordinate_rule l x f) accepted)) (element p x f)) (sym (le-ltb 30 f h))
  where
    first_last : (u b : Bool) → first (first (refuse u 8 0) (refuse b 17 0)) accepted ≡ first (refuse u 8 0) (refuse b 17 0)
    first_last true b = refl
    first_last false true = refl
    first_last false false = refl
