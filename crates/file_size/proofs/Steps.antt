-- Laws of counting keys: each step keeps what is held, and the steps give the run. Assumes nothing.
use mathlib.Core.Path.{◌≡◌, refl, sym, ap, ◌∙◌}
use mathlib.Core.Bool.{Bool, true, false, cond}
use mathlib.Core.List.{List, [], ◌∷◌, ◌++◌}
use Prim.Native.Nat.{ℕ, zero, suc, ◌+◌, ◌*◌, ◌≤◌, ◌<◌}
use native.Mathlib.Nat.{add-zero}
use native.Mathlib.Numerals.{add-one}
use native.Mathlib.Omega.{arith}
use lib.ListN.{length, get_or, take, drop, length-set, drop_of_length-le}
use lib.Seq.{take-set-lt, set_split, split_at, get_or-take, drop-cons, drop-drop, length-take-le}
use lib.Dec.{leb, ltb, eqb}
use borrow.Author.Tests.{lt-ltb, le-ltb, ltb-true, leb-false, eq-eqb, ne_eqb, eqb-true, eqb-false}
use Rattle.rules.specs.declared.Answer.{Answer}
use Rattle.rules.specs.Rules.{accepted}
use Rattle.rules.proofs.Chain.{refuse_last, not_so}
use Rattle.rows.proofs.Elements.{below_append, below_take, below_drop, below_at}
use Rattle.entries.specs.File.{key_in, held, index}
use Rattle.entries.proofs.Walks.{index_fits}
use Rattle.entries.proofs.Adding.{inserted, rising_inserted}
use Rattle.entries.proofs.Files.{and_both}
use Rattle.file_add.proofs.Places.{held_at}
use Rattle.file_size.specs.Steps.{key_rules, with_key, run, run_of, numbers_in, Again, Begun, Holding, Stepped}
use Rattle.file_size.proofs.Moved.{length_moved, moved_take}

-- a key put in stands at its index
pub inserted_split : (k : ℕ) (ks : List ℕ) → inserted k ks ≡ with_key k ks ks k
inserted_split k [] = refl
inserted_split k (l ∷ ks) = go (ltb l k) (eqb l k) refl (inserted_split k ks)
  where
    go : (s t : Bool) → eqb l k ≡ t → inserted k ks ≡ with_key k ks ks k
        → cond s (l ∷ inserted k ks) (cond t (l ∷ ks) (k ∷ l ∷ ks)) ≡ take (cond s (suc (index k ks)) 0) (l ∷ ks) ++ (k ∷ drop (cond s (suc (index k ks)) 0 + cond (cond s (held k ks) t) 1 0) (l ∷ ks))
    go true t u r =
        let n : suc (index k ks) + cond (held k ks) 1 0 ≡ suc (index k ks + cond (held k ks) 1 0) = omega arith in
        rw n (ap (λ (x : List ℕ). l ∷ x) r)
    go false true u r = ap (λ (x : ℕ). x ∷ ks) (eqb-true l k u)
    go false false u r = refl

module _ (most : ℕ) (keys counts : List ℕ) (n key : ℕ) (H : Holding most keys counts n) where
  abbrev K : List ℕ
  K = take n keys

  abbrev C : List ℕ
  C = take n counts

  K_long : length K ≡ n
  K_long = length-take-le n keys (omega (arith, H.few, H.keys_long))

  C_long : length C ≡ n
  C_long = length-take-le n counts (omega (arith, H.few, H.counts_long))

  pub index_below : (i : ℕ) → i ≡ index key K → i ≤ n
  index_below i e = omega (arith, e, index_fits key K, K_long)

  pub count_fits : (i : ℕ) → i < n → get_or counts i 0 ≤ most
  count_fits i h =
      let b : get_or counts i 0 < suc most = rw (sym (get_or-take n counts i 0 h)) (below_at (suc most) C H.fit i (omega (arith, C_long))) in
      omega arith

  -- the key is held
  module _ (i : ℕ) (e : i ≡ index key K) (is_held_lem : held key K ≡ true) (a : Answer) (m : ℕ) (after : List ℕ) (r : Again most counts n i a m after) where
    tests : (ltb i (length K) ≡ true) × (eqb (get_or K i 0) key ≡ true)
    tests = and_both (ltb i (length K)) (eqb (get_or K i 0) key) (sym (rw e (held_at key K)) ∙ is_held_lem)

    h : i < n
    h = omega (arith, ltb-true i (length K) tests.0, K_long)

    there : get_or K i 0 ≡ key
    there = eqb-true (get_or K i 0) key tests.1

    same_count : get_or C i 0 ≡ get_or counts i 0
    same_count = get_or-take n counts i 0 h

    new_counts : a.number ≡ 0 → take m after ≡ take i C ++ ((get_or counts i 0 + 1) ∷ drop (suc i) C)
    new_counts z = rw (r.count, r.row z) (take-set-lt n counts i (get_or counts i 0 + 1) h ∙ set_split C i (get_or counts i 0 + 1) (omega (arith, C_long, h)))

    small : a.number ≡ 0 → get_or counts i 0 + 1 < suc most
    small z =
        let b = eqb-false (get_or counts i 0) most (not_so (eqb (get_or counts i 0) most) 15 i (ap (λ (y : Answer). y.number) (sym r.answer) ∙ z)) in
        let c = count_fits i h in
        omega arith

    pub stepped_again : Stepped most keys counts n key a m keys after
    unfolding key_rules
    stepped_again = record {
      answer = r.answer ∙ rw (is_held_lem, ← e, same_count);
      holding = λ z. record {
        some = H.some;
        few = rw r.count H.few;
        keys_long = H.keys_long;
        counts_long = rw (r.row z) (length-set counts i (get_or counts i 0 + 1) ∙ H.counts_long);
        rise = rw r.count H.rise;
        fit = rw (new_counts z) (below_append (suc most) (take i C) _ (below_take (suc most) i C H.fit) (small z, below_drop (suc most) (suc i) C H.fit));
      };
      keys_row = λ z. rw (r.count, is_held_lem, ← e, add-one i) (split_at K i 0 (omega (arith, K_long, h)) ∙ ap (λ (y : ℕ). take i K ++ (y ∷ drop (suc i) K)) there);
      counts_row = λ z. new_counts z ∙ rw (is_held_lem, ← e, add-one i, same_count);
    }

  -- the key is new
  module _ (i : ℕ) (e : i ≡ index key K) (new : held key K ≡ false) (a : Answer) (m : ℕ) (keys' counts' : List ℕ) (r : Begun keys counts n i key a m keys' counts') where
    room : a.number ≡ 0 → n < 1024
    room z = leb-false 1024 n (not_so (leb 1024 n) 14 0 (ap (λ (y : Answer). y.number) (sym r.answer) ∙ z))

    keys_are : a.number ≡ 0 → take m keys' ≡ with_key key K K key
    keys_are z =
        let l : n < length keys = omega (arith, room z, H.keys_long) in
        rw (r.count z, r.keys_row z, new, ← e, add-zero i) (moved_take i n key keys (index_below i e) l)

    counts_are : a.number ≡ 0 → take m counts' ≡ take i C ++ (1 ∷ drop i C)
    counts_are z =
        let l : n < length counts = omega (arith, room z, H.counts_long) in
        rw (r.count z, r.counts_row z) (moved_take i n 1 counts (index_below i e) l)

    pub stepped_begun : Stepped most keys counts n key a m keys' counts'
    unfolding key_rules
    stepped_begun = record {
      answer = r.answer ∙ rw (new, K_long, ne_eqb 0 most (λ e. omega (arith, H.some))) (sym (refuse_last (leb 1024 n) 14 0));
      holding = λ z. record {
        some = H.some;
        few = rw (r.count z) (omega (arith, room z));
        keys_long = rw (r.keys_row z) (length_moved i n key keys (index_below i e) (omega (arith, room z, H.keys_long)) ∙ H.keys_long);
        counts_long = rw (r.counts_row z) (length_moved i n 1 counts (index_below i e) (omega (arith, room z, H.counts_long)) ∙ H.counts_long);
        rise = rw (keys_are z, ← inserted_split key K) (rising_inserted key K H.rise);
        fit = rw (counts_are z) (below_append (suc most) (take i C) _ (below_take (suc most) i C H.fit) (omega (arith, H.some), below_drop (suc most) i C H.fit));
      };
      keys_row = keys_are;
      counts_row = λ z. counts_are z ∙ rw (new, ← e, add-zero i);
    }

-- whether the key is there
pub at_is : (keys : List ℕ) (n i key : ℕ) → n ≤ length keys → i ≡ index key (take n keys) → i < n → eqb (get_or keys i 0) key ≡ held key (take n keys)
at_is keys n i key l e h =
    let k : length (take n keys) ≡ n = length-take-le n keys l in
    let t : ltb i (length (take n keys)) ≡ true = lt-ltb i (length (take n keys)) (omega arith) in
    sym (held_at key (take n keys) ∙ rw (← e, t) (ap (λ (y : ℕ). eqb y key) (get_or-take n keys i 0 h)))

pub at_none : (keys : List ℕ) (n i key : ℕ) → n ≤ length keys → i ≡ index key (take n keys) → n ≤ i → ltb i n ≡ held key (take n keys)
at_none keys n i key l e h =
    let k : length (take n keys) ≡ n = length-take-le n keys l in
    let t : ltb i (length (take n keys)) ≡ false = le-ltb i (length (take n keys)) (omega arith) in
    le-ltb i n h ∙ sym (held_at key (take n keys) ∙ rw (← e, t))

pub held_inside : (key : ℕ) (ks : List ℕ) (i : ℕ) → i ≡ index key ks → held key ks ≡ true → i < length ks
held_inside key ks i e t = ltb-true i (length ks) (and_both (ltb i (length ks)) (eqb (get_or ks i 0) key) (sym (rw e (held_at key ks)) ∙ t)).0

-- ---- the run

pub length_numbers : (n : ℕ) (bs : List ℕ) → length (numbers_in n bs) ≡ n
unfolding numbers_in
length_numbers zero bs = refl
length_numbers (suc n) bs = ap suc (length_numbers n (drop 8 bs))

pub numbers_at : (n : ℕ) (bs : List ℕ) (i : ℕ) → i < n → get_or (numbers_in n bs) i 0 ≡ key_in (take 8 (drop (8 * i) bs))
unfolding numbers_in
numbers_at zero bs i h = absurd (omega arith)
numbers_at (suc n) bs zero h = refl
numbers_at (suc n) bs (suc i) h =
    let e : 8 + 8 * i ≡ 8 * suc i = omega arith in
    numbers_at n (drop 8 bs) i (omega arith) ∙ ap (λ (l : List ℕ). key_in (take 8 l)) (drop-drop (8 * i) 8 bs ∙ ap (λ (k : ℕ). drop k bs) e)

module _ (most : ℕ) (N keys counts : List ℕ) (n i key : ℕ) (inside : i < length N) (here : key ≡ get_or N i 0) (so_far : run_of most [] [] N ≡ run_of most (take n keys) (take n counts) (drop i N)) (a : Answer) (m : ℕ) (keys' counts' : List ℕ) (s : Stepped most keys counts n key a m keys' counts') where
  at_key : run_of most [] [] N ≡ run_of most (take n keys) (take n counts) (key ∷ drop (i + 1) N)
  at_key = so_far ∙ ap (run_of most (take n keys) (take n counts)) (rw (here, add-one i) (drop-cons N i 0 inside))

  pub run_next : a.number ≡ 0 → run_of most [] [] N ≡ run_of most (take m keys') (take m counts') (drop (i + 1) N)
  unfolding run_of
  run_next z = at_key ∙ rw (← s.answer, eq-eqb a.number 0 z, ← s.keys_row z, ← s.counts_row z)

  pub run_stops : (a.number ≡ 0 → ⊥) → run a 0 ≡ run_of most [] [] N
  unfolding run_of
  run_stops z = sym (at_key ∙ rw (← s.answer, ne_eqb a.number 0 z))

pub run_end : (most : ℕ) (N keys counts : List ℕ) (n i : ℕ) → length N ≤ i → Holding most keys counts n → run_of most [] [] N ≡ run_of most (take n keys) (take n counts) (drop i N) → run accepted n ≡ run_of most [] [] N
unfolding run_of
run_end most N keys counts n i h H e =
    let l : length (take n keys) ≡ n = length-take-le n keys (omega (arith, H.few, H.keys_long)) in
    sym (e ∙ rw (drop_of_length-le N h, l))
