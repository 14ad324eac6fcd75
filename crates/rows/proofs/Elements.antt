-- Laws of rule 12: elements below p, in one row or in rows joined. Assumes nothing.
use Rattle.std.proofs.Common.{◌≡◌, ℕ, zero, suc, ◌+◌, ◌<◌, ◌≤◌, Bool, true, false, cond, ltb, List, [], ◌∷◌, ◌++◌, length, get_or, take, drop, sym, refl, ap, ◌∙◌, zero-add, add-one, arith, length-append, drop-cons, leb, tests, Option, Some, None, unwrap_or, ltb-false, ltb-true, le-ltb, lt-ltb}
use Rattle.std.specs.List.{position_or_len}
use Rattle.rules.specs.declared.Answer.{Answer}
use Rattle.rules.specs.Rules.{accepted, first}
use Rattle.rules.proofs.Chain.{not_so, first_passed}
use Rattle.rows.specs.Rows.{first_bad, elements_from, elements_rule, Below}

-- ---- rows whose elements are below n

pub below_all : (n : ℕ) (xs : List ℕ) → ((j : ℕ) → j < length xs → get_or xs j 0 < n) → Below n xs
below_all n [] f = tt
below_all n (x ∷ xs) f = (f 0 (omega arith), below_all n xs (λ j h. f (suc j) (omega arith)))

pub below_at : (n : ℕ) (xs : List ℕ) → Below n xs → (i : ℕ) → i < length xs → get_or xs i 0 < n
below_at n [] f i h = absurd (omega arith)
below_at n (x ∷ xs) f zero h = f.0
below_at n (x ∷ xs) f (suc i) h = below_at n xs f.1 i (omega arith)

pub below_append : (n : ℕ) (xs ys : List ℕ) → Below n xs → Below n ys → Below n (xs ++ ys)
below_append n [] ys f g = g
below_append n (x ∷ xs) ys f g = (f.0, below_append n xs ys f.1 g)

pub below_parts : (n : ℕ) (xs ys : List ℕ) → Below n (xs ++ ys) → Below n xs × Below n ys
below_parts n [] ys f = (tt, f)
below_parts n (x ∷ xs) ys f = ((f.0, (below_parts n xs ys f.1).0), (below_parts n xs ys f.1).1)

pub below_more : (n m : ℕ) → n ≤ m → (xs : List ℕ) → Below n xs → Below m xs
below_more n m h [] f = tt
below_more n m h (x ∷ xs) f = (omega (arith, f.0), below_more n m h xs f.1)

pub below_take : (n k : ℕ) (xs : List ℕ) → Below n xs → Below n (take k xs)
below_take n zero xs f = tt
below_take n (suc k) [] f = tt
below_take n (suc k) (x ∷ xs) f = (f.0, below_take n k xs f.1)

pub below_drop : (n k : ℕ) (xs : List ℕ) → Below n xs → Below n (drop k xs)
below_drop n zero xs f = f
below_drop n (suc k) [] f = tt
below_drop n (suc k) (x ∷ xs) f = below_drop n k xs f.1

-- ---- the first that is not

-- a step of the search: the element at i is below p
pub bad_next : (p : ℕ) (xs : List ℕ) (i : ℕ) → i < length xs → get_or xs i 0 < p → first_bad p xs ≡ i + first_bad p (drop i xs) → first_bad p xs ≡ (i + 1) + first_bad p (drop (i + 1) xs)
bad_next p xs i h l e =
    let d : drop i xs ≡ get_or xs i 0 ∷ drop (i + 1) xs = rw (add-one, drop-cons xs i 0) in
    e ∙ rw (d, lt-ltb (get_or xs i 0) p l) (omega arith)

-- the search stops at i
pub bad_here : (p : ℕ) (xs : List ℕ) (i : ℕ) → i < length xs → p ≤ get_or xs i 0 → first_bad p xs ≡ i + first_bad p (drop i xs) → i ≡ first_bad p xs
bad_here p xs i h l e =
    sym (e ∙ rw (drop-cons xs i 0 h, le-ltb (get_or xs i 0) p l) (omega arith))

-- there is none just where each element is below p
pub none_bad : (p : ℕ) (xs : List ℕ) → Below p xs → first_bad p xs ≡ length xs
none_bad p [] f = refl
none_bad p (x ∷ xs) f = rw (lt-ltb x p f.0) (ap suc (none_bad p xs f.1))

pub bad_fits : (p : ℕ) (xs : List ℕ) → first_bad p xs ≤ length xs
bad_fits p [] = omega arith
bad_fits p (x ∷ xs) = go (ltb x p) (bad_fits p xs)
  where
    go : (t : Bool) → first_bad p xs ≤ length xs → cond t (suc (first_bad p xs)) 0 ≤ suc (length xs)
    go true h = omega arith
    go false h = omega arith

pub all_below_lem : (p : ℕ) (xs : List ℕ) → length xs ≤ first_bad p xs → Below p xs
all_below_lem p [] g = tt
all_below_lem p (x ∷ xs) g = go (ltb x p) refl g (λ k. all_below_lem p xs k)
  where
    go : (t : Bool) → ltb x p ≡ t → suc (length xs) ≤ cond t (suc (first_bad p xs)) 0 → (length xs ≤ first_bad p xs → Below p xs) → (x < p) × Below p xs
    go true e g r = (ltb-true x p e, r (omega arith))
    go false e g r = absurd (omega arith)

-- two rows joined: the first bad element of the first, if it has one, or else that of the second
left_cons : (t : Bool) (a b l : ℕ) → (b < l → a ≡ b) → cond t (suc b) 0 < suc l → cond t (suc a) 0 ≡ cond t (suc b) 0
left_cons true a b l f h = ap suc (f (omega arith))
left_cons false a b l f h = refl

pub bad_left : (p : ℕ) (xs ys : List ℕ) → first_bad p xs < length xs → first_bad p (xs ++ ys) ≡ first_bad p xs
bad_left p [] ys h = absurd (omega arith)
bad_left p (x ∷ xs) ys h = left_cons (ltb x p) (first_bad p (xs ++ ys)) (first_bad p xs) (length xs) (λ k. bad_left p xs ys k) h

right_cons : (t : Bool) (a b l n : ℕ) → (l ≤ b → a ≡ l + n) → suc l ≤ cond t (suc b) 0 → cond t (suc a) 0 ≡ suc l + n
right_cons true a b l n f h = omega (arith, f (omega arith))
right_cons false a b l n f h = absurd (omega arith)

pub bad_right : (p : ℕ) (xs ys : List ℕ) → length xs ≤ first_bad p xs → first_bad p (xs ++ ys) ≡ length xs + first_bad p ys
bad_right p [] ys h = omega arith
bad_right p (x ∷ xs) ys h = right_cons (ltb x p) (first_bad p (xs ++ ys)) (first_bad p xs) (length xs) (first_bad p ys) (λ k. bad_right p xs ys k) h

-- ---- the rule

-- of rows joined: that of the first, and then that of the second with its elements counted on
pub elements_joined : (p : ℕ) (xs ys : List ℕ) → elements_rule p (xs ++ ys) ≡ first (elements_rule p xs) (elements_from p (length xs) ys)
elements_joined p xs ys = go (ltb (first_bad p xs) (length xs)) (ltb (first_bad p ys) (length ys)) refl refl
  where
    go : (s t : Bool) → ltb (first_bad p xs) (length xs) ≡ s → ltb (first_bad p ys) (length ys) ≡ t → elements_rule p (xs ++ ys) ≡ first (elements_rule p xs) (elements_from p (length xs) ys)
    go true t e f =
        let l : first_bad p xs < length xs = ltb-true _ _ e in
        let m : first_bad p xs < length xs + length ys = omega arith in
        simp (bad_left p xs ys l, length-append, lt-ltb (first_bad p xs) (length xs + length ys) m, e)
    go false true e f =
        let m : length xs + first_bad p ys < length xs + length ys = omega (arith, ltb-true (first_bad p ys) (length ys) f) in
        simp (bad_right p xs ys (ltb-false (first_bad p xs) (length xs) e), length-append, lt-ltb (length xs + first_bad p ys) (length xs + length ys) m, e, f, zero-add)
    go false false e f =
        let m : length xs + length ys ≤ length xs + first_bad p ys = omega (arith, ltb-false (first_bad p ys) (length ys) f) in
        simp (bad_right p xs ys (ltb-false (first_bad p xs) (length xs) e), length-append, le-ltb (length xs + first_bad p ys) (length xs + length ys) m, e, f)

-- an answer so far, and rule 12 of two rows, each searched by itself
pub elements_after : (p : ℕ) (xs ys : List ℕ) (s a b r : Answer) → s.number ≡ 0 → a ≡ elements_from p 0 xs → b ≡ elements_from p (length xs) ys → r ≡ first a b → r ≡ first s (elements_rule p (xs ++ ys))
elements_after p xs ys s a b r z e f g = g ∙ rw (e, f) (sym (elements_joined p xs ys) ∙ sym (first_passed s (elements_rule p (xs ++ ys)) z))

pub right_elements : (p k : ℕ) (xs : List ℕ) → Below p xs → elements_from p k xs ≡ accepted
right_elements p k xs f = rw (le-ltb (first_bad p xs) (length xs) (omega (arith, none_bad p xs f)))

pub elements_below : (p k : ℕ) (xs : List ℕ) → (elements_from p k xs).number ≡ 0 → Below p xs
elements_below p k xs h = all_below_lem p xs (ltb-false _ _ (not_so (ltb (first_bad p xs) (length xs)) 11 (k + first_bad p xs) h))

-- ---- the first bad element is the place that a search finds, or the length where it finds none

first_bad_position : (p : ℕ) (xs : List ℕ) → position_or_len (leb p) xs ≡ first_bad p xs
first_bad_position p [] = refl
first_bad_position p (x ∷ xs) = grind (arith, tests, first_bad_position p xs)

first_bad_within : (p : ℕ) (xs : List ℕ) → first_bad p xs ≤ length xs
first_bad_within p [] = omega arith
first_bad_within p (x ∷ xs) = grind (arith, first_bad_within p xs)

or_else : (n i : ℕ) → i ≤ n → unwrap_or (cond (ltb i n) (Some i) None) n ≡ i
or_else n i h = grind (arith, tests)

pub first_bad_found : (p : ℕ) (xs : List ℕ) (found : Option ℕ) → found ≡ cond (ltb (position_or_len (leb p) xs) (length xs)) (Some (position_or_len (leb p) xs)) None → unwrap_or found (length xs) ≡ first_bad p xs
first_bad_found p xs found e = rw (e, first_bad_position p xs) (or_else _ _ (first_bad_within p xs))
