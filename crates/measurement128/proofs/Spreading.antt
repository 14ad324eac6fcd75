-- A row whose first n words become its n elements, from the back: the first i are still as they were, and from element i on it is done. Assumes nothing.
use mathlib.Core.Path.{◌≡◌, sym, ap, ◌∙◌}
use mathlib.Core.List.{List, ◌∷◌}
use Prim.Native.Nat.{ℕ, suc, ◌+◌, ◌*◌, ◌/◌, ◌%◌, ◌^◌, ◌≤◌, ◌<◌}
use native.Mathlib.Nat.{mod-eq_of_lt, div-eq_of_lt}
use native.Mathlib.Omega.{arith}
use lib.ListN.{length, get_or, take, drop, set, length-set}
use lib.Seq.{drop-cons, take-take, get_or-take, get_or-set_same, get_or-set_other, take-set-le, drop-set-lt, length-take-le}
use Rattle.field128.specs.Field128.{words_of}

pub record Spreading (d a : List ℕ) (i : ℕ) : Type 0 where
  pub inside : i ≤ length d / 2
  pub long : length a ≡ length d
  pub front : take i a ≡ take i d
  pub back : drop (2 * i) a ≡ words_of (drop i (take (length d / 2) d))

module _ (d : List ℕ) (whole : length d ≡ 2 * (length d / 2)) where
  abbrev half : ℕ
  half = length d / 2

  -- a turn: word k is stored as element k
  module _ (a : List ℕ) (k : ℕ) (s : Spreading d a (k + 1)) (x : ℕ) (small : x < 2 ^ 64) (is : x ≡ get_or a k 0) where
    abbrev next : List ℕ
    next = set (set a (2 * k) x) (2 * k + 1) 0

    kept : x ≡ get_or d k 0
    kept = is ∙ sym (get_or-take (k + 1) a k 0 (omega arith)) ∙ ap (λ (l : List ℕ). get_or l k 0) s.front ∙ get_or-take (k + 1) d k 0 (omega arith)

    front_kept : take k next ≡ take k d
    front_kept =
        take-set-le k (set a (2 * k) x) (2 * k + 1) 0 (omega arith) ∙ take-set-le k a (2 * k) x (omega arith)
        ∙ sym (take-take k (k + 1) a (omega arith)) ∙ ap (take k) s.front ∙ take-take k (k + 1) d (omega arith)

    -- what stands from there on
    low_there : get_or next (2 * k) 0 ≡ x
    low_there = get_or-set_other (set a (2 * k) x) (2 * k + 1) (2 * k) 0 0 (λ e. absurd (omega (arith, e))) ∙ get_or-set_same a (2 * k) x 0 (omega (arith, s.inside, s.long, whole))

    high_there : get_or next (suc (2 * k)) 0 ≡ 0
    high_there = ap (λ (n : ℕ). get_or next n 0) (one_more (2 * k)) ∙ get_or-set_same (set a (2 * k) x) (2 * k + 1) 0 0 (omega (arith, length-set a (2 * k) x, s.inside, s.long, whole))
      where
        one_more : (n : ℕ) → suc n ≡ n + 1
        one_more n = omega arith

    rest_kept : drop (suc (suc (2 * k))) next ≡ drop (2 * (k + 1)) a
    rest_kept =
        drop-set-lt (suc (suc (2 * k))) (set a (2 * k) x) (2 * k + 1) 0 (omega arith) ∙ drop-set-lt (suc (suc (2 * k))) a (2 * k) x (omega arith) ∙ ap (λ (n : ℕ). drop n a) (two_more k)
      where
        two_more : (k : ℕ) → suc (suc (2 * k)) ≡ 2 * (k + 1)
        two_more k = omega arith

    long_next : length next ≡ length d
    long_next = length-set (set a (2 * k) x) (2 * k + 1) 0 ∙ length-set a (2 * k) x ∙ s.long

    words_there : drop (2 * k) next ≡ x ∷ 0 ∷ drop (2 * (k + 1)) a
    words_there =
        drop-cons next (2 * k) 0 (omega (arith, long_next, s.inside, whole))
        ∙ (λ j. low_there j ∷ (drop-cons next (suc (2 * k)) 0 (omega (arith, long_next, s.inside, whole)) ∙ (λ i. high_there i ∷ rest_kept i)) j)

    elements_there : words_of (drop k (take half d)) ≡ x ∷ 0 ∷ words_of (drop (k + 1) (take half d))
    elements_there =
        let h : k < length (take half d) = omega (arith, length-take-le half d (omega arith), s.inside) in
        let e : get_or (take half d) k 0 ≡ x = get_or-take half d k 0 (omega (arith, s.inside)) ∙ sym kept in
        ap words_of (drop-cons (take half d) k 0 h)
        ∙ (λ j. e j % 2 ^ 64 ∷ e j / 2 ^ 64 ∷ words_of (drop (one_more k j) (take half d)))
        ∙ (λ j. mod-eq_of_lt small j ∷ div-eq_of_lt small j ∷ words_of (drop (k + 1) (take half d)))
      where
        one_more : (n : ℕ) → suc n ≡ n + 1
        one_more n = omega arith

    pub spread_next : Spreading d next k
    spread_next = record {
      inside = omega (arith, s.inside);
      long = long_next;
      front = front_kept;
      back = words_there ∙ (λ j. x ∷ 0 ∷ s.back j) ∙ sym elements_there;
    }
