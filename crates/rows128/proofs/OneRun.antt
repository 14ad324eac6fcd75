-- Adding and rule 12 in one run: elements of a row are counted that are below p, and joined elements parted again. Assumes nothing.
use Rattle.std.proofs.Common.{◌≡◌, ℕ, zero, suc, ◌+◌, ◌*◌, ◌/◌, ◌%◌, ◌^◌, ◌<◌, ◌≤◌, Bool, true, false, cond, ltb, List, [], ◌∷◌, ◌++◌, length, get_or, take, drop, sym, refl, ap, ◌∙◌, subst, add-one, arith, ltb-false, ltb-true, lt-ltb, ne_eqb}
use lib.Arith.{digits_div, digits_mod}
use lib.Pow.{split}
use Rattle.rules.specs.declared.Answer.{Answer}
use Rattle.rules.specs.Rules.{accepted, first}
use Rattle.rules.proofs.Chain.{first_passed}
use Rattle.field64.specs.Field.{add_mod}
use Rattle.rows.specs.Rows.{first_bad, elements_rule, Below, by_element, add_rows}
use Rattle.rows.specs.Outcome.{outcome, finish}
use Rattle.rows.proofs.Elements.{below_append, below_parts, below_take, none_bad, bad_fits, all_below_lem, right_elements, elements_below}
use Rattle.rows.proofs.ByElement.{length_by}
use Rattle.rows.proofs.Walk.{walked_length, walked_end}
use Rattle.field128.specs.Field128.{p128, number, elements_of, words_of, Whole}
use Rattle.field128.specs.Joined.{joined, parted}
use Rattle.field128.proofs.Joined.{parted_is}
use Rattle.field128.proofs.Pairs.{elements_length, same_number, words_length}

below_one_more : (p : ℕ) (xs : List ℕ) (i : ℕ) → i < length xs → Below p (take i xs) → get_or xs i 0 < p → Below p (take (suc i) xs)
below_one_more p [] i h f l = absurd (omega arith)
below_one_more p (x ∷ xs) zero h f l = (l, tt)
below_one_more p (x ∷ xs) (suc i) h f l = (f.0, below_one_more p xs i (omega arith) f.1 l)

-- a row's first elements, and its first words, one element more
pub below_next : (p : ℕ) (xs : List ℕ) (i : ℕ) → i < length xs → Below p (take i xs) → get_or xs i 0 < p → Below p (take (i + 1) xs)
below_next p xs i h f l = rw add-one (below_one_more p xs i h f l)

pub words_next : (p : ℕ) (ws : List ℕ) (i : ℕ) → 2 * i + 1 < length ws → Below p (take (2 * i) ws) → get_or ws (2 * i) 0 < p → get_or ws (2 * i + 1) 0 < p → Below p (take (2 * (i + 1)) ws)
words_next p ws i h f l k = rw (step i) (below_next p ws (2 * i + 1) h (below_next p ws (2 * i) (omega arith) f l) k)
  where
    step : (i : ℕ) → 2 * (i + 1) ≡ 2 * i + 1 + 1
    step i = omega arith

-- what stands before the first that is not below p
pub below_before : (p : ℕ) (xs : List ℕ) → Below p (take (first_bad p xs) xs)
below_before p [] = tt
below_before p (x ∷ xs) = go (ltb x p) refl (below_before p xs)
  where
    go : (t : Bool) → ltb x p ≡ t → Below p (take (first_bad p xs) xs) → Below p (take (cond t (suc (first_bad p xs)) 0) (x ∷ xs))
    go true e f = (ltb-true x p e, f)
    go false e f = tt

-- ---- how many of the first i elements are below p: b of them, and all just where b is i

abbrev pub Counted : (p : ℕ) (xs : List ℕ) (b i : ℕ) → Type 0
Counted p xs b i = (b ≤ i) × ((b ≡ i → Below p (take i xs)) × (Below p (take i xs) → b ≡ i))

below_one_less : (p : ℕ) (xs : List ℕ) (i : ℕ) → i < length xs → Below p (take (suc i) xs) → Below p (take i xs) × (get_or xs i 0 < p)
below_one_less p [] i h f = absurd (omega arith)
below_one_less p (x ∷ xs) zero h f = (tt, f.0)
below_one_less p (x ∷ xs) (suc i) h f =
    let r = below_one_less p xs i (omega arith) f.1 in
    ((f.0, r.0), r.1)

pub counted_next : (p : ℕ) (xs : List ℕ) (b i y t : ℕ) → i < length xs → y ≡ get_or xs i 0 → t ≡ cond (ltb y p) 1 0 → Counted p xs b i → Counted p xs (b + t) (i + 1)
counted_next p xs b i y t h e f k = rw add-one (go (ltb y p) refl f)
  where
    go : (v : Bool) → ltb y p ≡ v → t ≡ cond v 1 0 → Counted p xs (b + t) (suc i)
    go true v f = (
      omega (arith, k.0),
      ((λ g. below_one_more p xs i h (k.1.0 (omega arith)) (rw (← e) (ltb-true y p v))), (λ g. omega (arith, k.1.1 (below_one_less p xs i h g).0))),
    )
    go false v f = (
      omega (arith, k.0),
      ((λ g. absurd (omega (arith, k.0))), (λ g. absurd (omega (arith, ltb-false y p v, rw (← e) at (below_one_less p xs i h g).1)))),
    )

-- ---- joined up to n, and parted again

abbrev joined_to : (k : ℕ) (d s : List ℕ) → List ℕ
joined_to k d s = take k (words_of (by_element joined (elements_of d) (elements_of s))) ++ drop k d

abbrev parted_to : (k : ℕ) (d s : List ℕ) → List ℕ
parted_to k a s = take k (words_of (by_element parted (elements_of a) (elements_of s))) ++ drop k a

twice : (n : ℕ) → 2 * suc n ≡ suc (suc (2 * n))
twice n = omega arith

pub taken_back : (n : ℕ) (d s : List ℕ) → n ≤ length (elements_of d) → n ≤ length (elements_of s) → Below (2 ^ 64) (take (2 * n) d) → Below p128 (take n (elements_of d)) → Below (2 ^ 128) (take n (elements_of s)) → parted_to (2 * n) (joined_to (2 * n) d s) s ≡ d
taken_back zero d s h k w f g = refl
taken_back (suc n) [] s h k w f g = absurd (omega arith)
taken_back (suc n) (l ∷ []) s h k w f g = absurd (omega arith)
taken_back (suc n) (l ∷ m ∷ d) [] h k w f g = absurd (omega arith)
taken_back (suc n) (l ∷ m ∷ d) (x ∷ []) h k w f g = absurd (omega arith)
taken_back (suc n) (l ∷ m ∷ d) (x ∷ y ∷ s) h k w f g =
    let v : Below (2 ^ 64) (take (suc (suc (2 * n))) (l ∷ m ∷ d)) = subst (λ (t : ℕ). Below (2 ^ 64) (take t (l ∷ m ∷ d))) (twice n) w in
    let e : parted (number (joined (number l m) (number x y) % 2 ^ 64) (joined (number l m) (number x y) / 2 ^ 64)) (number x y) ≡ number l m =
    ap (λ (z : ℕ). parted z (number x y)) (split (joined (number l m) (number x y)) 64) ∙ parted_is (number l m) (number x y) f.0 g.0 in
    ap (λ (t : ℕ). parted_to t (joined_to t (l ∷ m ∷ d) (x ∷ y ∷ s)) (x ∷ y ∷ s)) (twice n)
    ∙ (λ j. e j % 2 ^ 64 ∷ e j / 2 ^ 64 ∷ taken_back n d s (omega arith) (omega arith) v.1.1 f.1 g.1 j)
    ∙ (λ j. digits_mod m v.0 j ∷ digits_div m v.0 j ∷ d)

-- ---- the outcome of adding, from a run that joined done elements, of which below were below p

joined_below : (xs ys : List ℕ) → Below p128 ys → by_element joined xs ys ≡ add_rows p128 xs ys
joined_below [] ys f = refl
joined_below (x ∷ xs) [] f = refl
joined_below (x ∷ xs) (y ∷ ys) f =
    (λ j. add_mod (cond (lt-ltb y p128 f.0 j) p128 (2 ^ 128)) x y ∷ joined_below xs ys f.1 j)

take_all : (xs : List ℕ) (n : ℕ) → length xs ≡ n → take n xs ≡ xs
take_all [] zero e = refl
take_all [] (suc n) e = refl
take_all (x ∷ xs) zero e = absurd (omega arith)
take_all (x ∷ xs) (suc n) e = ap (λ (ys : List ℕ). x ∷ ys) (take_all xs n (omega arith))

module _ (d s : List ℕ) (whole : Whole d) (same : length d ≡ length s) where
  abbrev D : List ℕ
  D = elements_of d

  abbrev S : List ℕ
  S = elements_of s

  abbrev made : List ℕ
  made = words_of (by_element joined D S)

  alike : length D ≡ length S
  alike = same_number d s same

  made_length : length made ≡ length d
  made_length = words_length (by_element joined D S) ∙ ap (λ (n : ℕ). 2 * n) (length_by joined D S alike) ∙ sym whole

  module _ (a : List ℕ) (done below : ℕ) (row : a ≡ joined_to (2 * done) d s) (first-bad : done ≡ first_bad p128 D) (count : Counted p128 S below done) where
    fits : done ≤ length D
    fits = subst (λ (n : ℕ). n ≤ length D) (sym first-bad) (bad_fits p128 D)

    a_length : length a ≡ length d
    a_length = ap length row ∙ walked_length made d (2 * done) made_length

    pub to_be_parted : (Whole a × (length a ≡ length s)) × (done ≤ length (elements_of a))
    to_be_parted =
        let e : length (elements_of a) ≡ length D = same_number a d a_length in
        ((omega (arith, a_length, whole, e), a_length ∙ same), omega (arith, fits, e))

    pub added : (r : Answer) → r ≡ accepted → below ≡ length d / 2 → outcome r a ≡ finish (elements_rule p128 (D ++ S)) (words_of (add_rows p128 D S)) d
    added r e b =
        let n : done ≡ length D = omega (arith, fits, count.0, elements_length d) in
        let f : Below p128 D = all_below_lem p128 D (omega (arith, first-bad)) in
        let g : Below p128 S = subst (Below p128) (take_all S done (omega (arith, alike))) (count.1.0 (omega (arith, elements_length d))) in
        let w : a ≡ words_of (add_rows p128 D S) = row ∙ walked_end made d (2 * done) made_length (omega (arith, whole)) ∙ ap words_of (joined_below D S g) in
        (λ j. outcome (e j) (w j)) ∙ sym (ap (λ (v : Answer). finish v (words_of (add_rows p128 D S)) d) (right_elements p128 0 (D ++ S) (below_append p128 D S f g)))

    pub not_added : (b : List ℕ) (t r : Answer) → (below ≡ length d / 2 → ⊥) → Below (2 ^ 64) (take (2 * done) d) × Below (2 ^ 128) (take done S) → b ≡ parted_to (2 * done) a s → t ≡ accepted → r ≡ first t (elements_rule p128 (elements_of b ++ S)) → outcome r b ≡ finish (elements_rule p128 (D ++ S)) (words_of (add_rows p128 D S)) d
    not_added b t r n w e g k =
        let v : Below p128 (take done D) = subst (λ (i : ℕ). Below p128 (take i D)) (sym first-bad) (below_before p128 D) in
        let back : b ≡ d = e ∙ ap (λ (x : List ℕ). parted_to (2 * done) x s) row ∙ taken_back done d s fits (omega (arith, fits, alike)) w.0 v w.1 in
        let rule : r ≡ elements_rule p128 (D ++ S) = k ∙ (λ j. first (g j) (elements_rule p128 (elements_of (back j) ++ S))) ∙ first_passed accepted (elements_rule p128 (D ++ S)) refl in
        (λ j. outcome (rule j) (back j)) ∙ sym (ap (λ (q : Bool). outcome (elements_rule p128 (D ++ S)) (cond q (words_of (add_rows p128 D S)) d)) (ne_eqb _ 0 bad))
      where
        bad : (elements_rule p128 (D ++ S)).number ≡ 0 → ⊥
        bad z =
            let both = below_parts p128 D S (elements_below p128 0 (D ++ S) z) in
            let m : done ≡ length D = first-bad ∙ none_bad p128 D both.0 in
            n (count.1.1 (below_take p128 done S both.1) ∙ m ∙ elements_length d)
