-- After every list of calls each aggregate is the field sum of the rows of its tally, each times its number. Assumes nothing.
use mathlib.Core.Path.{◌≡◌, refl, sym, ap, ◌∙◌, fun_ext}
use mathlib.Core.Bool.{Bool, true, false, cond}
use mathlib.Core.List.{List, [], ◌∷◌, ◌++◌, map}
use Prim.Native.Nat.{ℕ, zero, suc, ◌+◌, ◌*◌, ◌%◌, ◌<◌, ◌≤◌}
use native.Mathlib.Nat.{mod-eq_of_lt, le_of_lt}
use native.Mathlib.Omega.{arith}
use lib.ListN.{length, get_or, replicate, length-replicate, get_or-replicate}
use lib.Seq.{ext_get_or}
use lib.IntN.{ℤ, pos, negsuc, neg_ℤ, ◌+ℤ◌, ◌-ℤ◌}
use lib.Dec.{eqb}
use borrow.Author.Tests.{eqb-true, eq-eqb}
use Rattle.rules.specs.declared.Answer.{Answer}
use Rattle.field64.specs.Field.{add_mod, sub_mod, mul_mod}
use Rattle.field64.specs.Sums.{evaluate, total}
use Rattle.field64.proofs.Modular.{modular, add_both, mul_both, cancel, sub_add}
use Rattle.field64.proofs.Sums.{evaluate_below, total_cons}
use Rattle.doubles.specs.Doubles.{mod_p}
use Rattle.pine.specs.declared.PineParam.{PineParam}
use Rattle.pine.specs.Param.{Field}
use Rattle.pine.specs.Words.{WordLaws}
use Rattle.pine.proofs.Words.{words_long}
use Rattle.rows.specs.Rows.{Below, by_element, add_rows, sub_rows}
use Rattle.rows.specs.Outcome.{Outcome, finish}
use Rattle.rows.proofs.Elements.{below_all, below_at}
use Rattle.rows.proofs.ByElement.{length_by, get_or_by}
use Rattle.rows.proofs.Added.{add_below, sub_below}
use Rattle.vdaf.specs.Aggregates.{empty_answer, empty_of, accumulate_answer, accumulate_of, subtract_of}
use Rattle.vdaf.proofs.Accepted.{emptied, added}
use Rattle.correctness.specs.Tally.{eq_row, count, Tally, brought, taken, Aggregate, Aggregates, alone, Call, after, put, adding, taking, step, run, Begun, FieldRow, Each, WordRow, weighed, Tallied}
use Rattle.correctness.proofs.Counts.{one_if, count_append, different, different_once, each_different, covered, once_of, sum_over, sum_over_append, total_over, by_counts, same_counts}
use Rattle.doubles.proofs.Parts.{plus, minus, mod_p_parts}
use Rattle.correctness.proofs.Centred.{sum_parts}

each_append : {A : Type 0} (P : A → Type 0) (xs ys : List A) → Each P xs → Each P ys → Each P (xs ++ ys)
each_append P [] ys f g = g
each_append P (x ∷ xs) ys f g = (f.0, each_append P xs ys f.1 g)

abbrev aggregate : List ℕ → Tally → Aggregate
aggregate r t = record { row = r; tally = t }

-- element j of a row of words
abbrev pub at : (F : Field) (j : ℕ) → List ℕ → ℕ
at F j r = get_or (F.elements r) j 0

-- ---- z is a - b
abbrev pub Differs : (z : ℤ) (a b : ℕ) → Type 0
Differs z a b = plus z + b ≡ minus z + a

opposite : (z : ℤ) → (plus (neg_ℤ z) ≡ minus z) × (minus (neg_ℤ z) ≡ plus z)
opposite (pos zero) = (refl, refl)
opposite (pos (suc n)) = (refl, refl)
opposite (negsuc n) = (refl, refl)

differs_plus : (y z : ℤ) (a b c d : ℕ) → Differs y a b → Differs z c d → Differs (y +ℤ z) (a + c) (b + d)
differs_plus y z a b c d e f = omega (arith, sum_parts y z)

differs_less : (y z : ℤ) (a b c d : ℕ) → Differs y a b → Differs z c d → Differs (y -ℤ z) (a + d) (b + c)
differs_less y z a b c d e f = omega (arith, sum_parts y (neg_ℤ z), (opposite z).0, (opposite z).1)

differs_zero : (z : ℤ) → Differs z 0 0 → z ≡ pos 0
differs_zero (pos n) e = ap pos (omega arith)
differs_zero (negsuc n) e = absurd (omega arith)

module _ (F : Field) (d : ℕ) where
  -- what makes an aggregate: the rows added and the rows taken out, for d field numbers. A row's number is how often it is among the first less how often among the second, and
  -- each element with that of the second added is that of the first
  pub record Backed (a : Aggregate) : Type 0 where
    pub row : WordRow F d a.row
    pub adds : List (List ℕ)
    pub takes : List (List ℕ)
    pub adds_rows : Each (WordRow F d) adds
    pub takes_rows : Each (WordRow F d) takes
    pub numbers : (r : List ℕ) → Differs (a.tally r) (count r adds) (count r takes)
    pub sums : (j : ℕ) → j < d → (at F j a.row + sum_over (at F j) takes) % F.p ≡ sum_over (at F j) adds % F.p

  -- what each of the aggregates is: such a one, whose row is its elements' words
  pub record Good (a : Aggregate) : Type 0 where
    pub backing : Backed a
    pub written : F.words (F.elements a.row) ≡ a.row

module _ (F : Field) (laws : WordLaws F) (d : ℕ) where
  pub elements_long : (r : List ℕ) → WordRow F d r → length (F.elements r) ≡ d
  elements_long r f = laws.counted r d f.long

  -- the words of d field numbers
  pub word_row : (xs : List ℕ) → FieldRow F.p d xs → WordRow F d (F.words xs)
  word_row xs f = record { long = words_long F laws xs d f.long; below = rw (laws.read_back xs f.below) f.below }

  written_words : (xs : List ℕ) (t : Tally) → Below F.p xs → Backed F d (aggregate (F.words xs) t) → Good F d (aggregate (F.words xs) t)
  written_words xs t f g = record { backing = g; written = ap F.words (laws.read_back xs f) }

  element_below : (r : List ℕ) → WordRow F d r → (j : ℕ) → j < d → at F j r < F.p
  element_below r f j h = below_at F.p (F.elements r) f.below j (omega (arith, elements_long r f))

module _ (F : Field) (laws : WordLaws F) (d : ℕ) (positive : 0 < F.p) where
  abbrev p : ℕ
  p = F.p

  zero_elements : FieldRow F.p d (replicate d 0)
  zero_elements = record {
    long = length-replicate {A = ℕ} d 0;
    below = below_all p (replicate d 0) (λ j h. rw (get_or-replicate {A = ℕ} d j 0 0 (omega (arith, length-replicate {A = ℕ} d 0))) positive);
  }

  pub zero_row : WordRow F d (F.words (replicate d 0))
  zero_row = word_row F laws d (replicate d 0) zero_elements

  -- d zeros, of no rows
  pub zeros : (r : List ℕ) (t : Tally) → r ≡ F.words (replicate d 0) → ((s : List ℕ) → t s ≡ pos 0) → Good F d (aggregate r t)
  zeros r t e f = rw e (written_words F laws d (replicate d 0) t zero_elements.below (record {
    row = zero_row;
    adds = [];
    takes = [];
    adds_rows = tt;
    takes_rows = tt;
    numbers = λ s. rw (f s);
    sums = λ j h. rw (laws.read_back (replicate d 0) zero_elements.below, get_or-replicate {A = ℕ} d j 0 0 h);
  }))

  -- a row for field numbers, of itself
  pub itself : (r : List ℕ) → WordRow F d r → Backed F d (alone r)
  itself r f = record {
    row = f;
    adds = r ∷ [];
    takes = [];
    adds_rows = (f, tt);
    takes_rows = tt;
    numbers = λ s. go (eq_row r s);
    sums = λ j h. refl;
  }
    where
      go : (t : Bool) → Differs (cond t (pos 1) (pos 0)) (one_if t + 0) 0
      go true = refl
      go false = refl

  module _ (a b : Aggregate) (f : Backed F d a) (g : Backed F d b) where
    abbrev x : List ℕ
    x = F.elements a.row

    abbrev y : List ℕ
    y = F.elements b.row

    same_long : length x ≡ length y
    same_long = elements_long F laws d a.row f.row ∙ sym (elements_long F laws d b.row g.row)

    -- of the two, element by element
    by_long : (op : ℕ → ℕ → ℕ) → length (by_element op x y) ≡ d
    by_long op = length_by op x y same_long ∙ elements_long F laws d a.row f.row

    at_by : (op : ℕ → ℕ → ℕ) → Below p (by_element op x y) → (j : ℕ) → j < d → at F j (F.words (by_element op x y)) ≡ op (at F j a.row) (at F j b.row)
    at_by op h j l = rw (laws.read_back (by_element op x y) h) (get_or_by op x y j same_long (omega (arith, elements_long F laws d a.row f.row)))

    pub sum : Good F d (aggregate (F.words (add_rows p x y)) (brought a.tally b.tally))
    sum = written_words F laws d (add_rows p x y) _ (add_below p positive x y) (record {
      row = word_row F laws d (add_rows p x y) (record { long = by_long (add_mod p); below = add_below p positive x y });
      adds = f.adds ++ g.adds;
      takes = f.takes ++ g.takes;
      adds_rows = each_append _ f.adds g.adds f.adds_rows g.adds_rows;
      takes_rows = each_append _ f.takes g.takes f.takes_rows g.takes_rows;
      numbers = λ r. rw (count_append r f.adds g.adds, count_append r f.takes g.takes) (differs_plus (a.tally r) (b.tally r) _ _ _ _ (f.numbers r) (g.numbers r));
      sums = λ j h.
          rw (at_by (add_mod p) (add_below p positive x y) j h, sum_over_append (at F j) f.adds g.adds, sum_over_append (at F j) f.takes g.takes)
          (added_up (at F j a.row) (at F j b.row) _ _ _ _ (f.sums j h) (g.sums j h));
    })
      where
        added_up : (x y b d a c : ℕ) → (x + b) % p ≡ a % p → (y + d) % p ≡ c % p → (add_mod p x y + (b + d)) % p ≡ (a + c) % p
        added_up x y b d a c e f =
            let q : x + y + (b + d) ≡ (x + b) + (y + d) = omega arith in
            simp modular (ap (λ (n : ℕ). n % p) q ∙ add_both p (x + b) a (y + d) c e f)

    pub difference : Good F d (aggregate (F.words (sub_rows p x y)) (taken a.tally b.tally))
    difference = written_words F laws d (sub_rows p x y) _ (sub_below p positive x y) (record {
      row = word_row F laws d (sub_rows p x y) (record { long = by_long (sub_mod p); below = sub_below p positive x y });
      adds = f.adds ++ g.takes;
      takes = f.takes ++ g.adds;
      adds_rows = each_append _ f.adds g.takes f.adds_rows g.takes_rows;
      takes_rows = each_append _ f.takes g.adds f.takes_rows g.adds_rows;
      numbers = λ r. rw (count_append r f.adds g.takes, count_append r f.takes g.adds) (differs_less (a.tally r) (b.tally r) _ _ _ _ (f.numbers r) (g.numbers r));
      sums = λ j h.
          rw (at_by (sub_mod p) (sub_below p positive x y) j h, sum_over_append (at F j) f.adds g.takes, sum_over_append (at F j) f.takes g.adds)
          (taken_off (at F j a.row) (at F j b.row) _ _ _ _ (le_of_lt (element_below F laws d b.row g.row j h)) (f.sums j h) (g.sums j h));
    })
      where
        -- with y added on both sides
        taken_off : (x y b d a c : ℕ) → y ≤ p → (x + b) % p ≡ a % p → (y + d) % p ≡ c % p → (sub_mod p x y + (b + c)) % p ≡ (a + d) % p
        taken_off x y b d a c l e f =
            let q : sub_mod p x y + (b + c) + y ≡ (sub_mod p x y + y) + (b + c) = omega arith in
            let u : x + (b + c) ≡ (x + b) + c = omega arith in
            let v : a + (y + d) ≡ (a + d) + y = omega arith in
            cancel p positive (sub_mod p x y + (b + c)) (a + d) y
            (ap (λ (n : ℕ). n % p) q
            ∙ add_both p (sub_mod p x y + y) x (b + c) (b + c) (sub_add p positive x y l) refl
            ∙ ap (λ (n : ℕ). n % p) u
            ∙ add_both p (x + b) a c (y + d) e (sym f)
            ∙ ap (λ (n : ℕ). n % p) v)

  -- ---- the sum over the rows, each times its number

  -- a number of times: z is a - b, so g times z modulo p and b times g is a times g
  times : (z : ℤ) (a b g : ℕ) → Differs z a b → (mod_p p z * g + b * g) % p ≡ (a * g) % p
  times z a b g e =
      let q : mod_p p z + b + minus z ≡ (mod_p p z + minus z) + b = omega arith in
      let u : plus z + b ≡ a + minus z = omega arith in
      let h : (mod_p p z + b) % p ≡ a % p = cancel p positive (mod_p p z + b) a (minus z) (ap (λ (n : ℕ). n % p) q ∙ add_both p (mod_p p z + minus z) (plus z) b b (mod_p_parts p positive z) refl ∙ ap (λ (n : ℕ). n % p) u) in
      let w : mod_p p z * g + b * g ≡ (mod_p p z + b) * g = omega arith in
      ap (λ (n : ℕ). n % p) w ∙ mul_both p (mod_p p z + b) a g g h refl

  all_times : (t : Tally) (j : ℕ) (a b : List ℕ → ℕ) → ((r : List ℕ) → Differs (t r) (a r) (b r)) → (s : List (List ℕ))
      → (total p (weighed F t j s) + sum_over (λ r. b r * at F j r) s) % p ≡ sum_over (λ r. a r * at F j r) s % p
  unfolding evaluate
  all_times t j a b e [] = refl
  all_times t j a b e (r ∷ s) =
      let w : ℕ = mod_p p (t r) * at F j r in
      let W = total p (weighed F t j s) in
      let B = sum_over (λ r. b r * at F j r) s in
      let q : w + W + (b r * at F j r + B) ≡ (w + b r * at F j r) + (W + B) = omega arith in
      rw (total_cons p positive (mul_mod p (mod_p p (t r)) (at F j r)) (weighed F t j s)) (simp modular (ap (λ (n : ℕ). n % p) q ∙ add_both p (w + b r * at F j r) (a r * at F j r) (W + B) _ (times (t r) (a r) (b r) (at F j r) (e r)) (all_times t j a b e s)))

  pub tallied_of : (a : Aggregate) → Backed F d a → Tallied F d a
  tallied_of a f = record {
    row = f.row;
    rows = s;
    fields = each_different (WordRow F d) all (each_append _ f.adds f.takes f.adds_rows f.takes_rows);
    different = λ r. (different_once r all).0;
    others = λ r h.
        let z : count r f.adds + count r f.takes ≡ 0 = sym (count_append r f.adds f.takes) ∙ (different_once r all).1 h in
        differs_zero (a.tally r) (omega (arith, f.numbers r));
    sums = λ j h.
        let W = total p (weighed F a.tally j s) in
        let q : (W + sum_over (at F j) f.takes) % p ≡ sum_over (at F j) f.adds % p =
        ap (λ (n : ℕ). (W + n) % p) (sym (by_counts (at F j) s f.takes (covered s f.takes (λ r l. on r (omega (arith, count_append r f.adds f.takes))))))
        ∙ all_times a.tally j (λ r. count r f.adds) (λ r. count r f.takes) f.numbers s
        ∙ ap (λ (n : ℕ). n % p) (by_counts (at F j) s f.adds (covered s f.adds (λ r l. on r (omega (arith, count_append r f.adds f.takes))))) in
        let l : at F j a.row < p = element_below F laws d a.row f.row j h in
        sym (mod-eq_of_lt l) ∙ cancel p positive (at F j a.row) W (sum_over (at F j) f.takes) (f.sums j h ∙ sym q) ∙ mod-eq_of_lt (evaluate_below p 1 positive (weighed F a.tally j s));
  }
    where
      all : List (List ℕ)
      all = f.adds ++ f.takes

      s : List (List ℕ)
      s = different all

      on : (r : List ℕ) → 0 < count r all → count r s ≡ 1
      on r h = once_of r s all (different_once r all) h

  -- ---- an aggregate's row goes by its tally

  -- where the tally counts the rows of a list, each element is the sum of that element over the list
  pub of_rows : (a : Aggregate) → Backed F d a → (rows : List (List ℕ)) → ((r : List ℕ) → a.tally r ≡ pos (count r rows)) → (j : ℕ) → j < d → at F j a.row ≡ total p (map (at F j) rows)
  of_rows a f rows e j h =
      let l : at F j a.row < p = element_below F laws d a.row f.row j h in
      let c : sum_over (at F j) f.adds ≡ sum_over (at F j) rows + sum_over (at F j) f.takes = same_counts (at F j) f.adds (rows ++ f.takes) counts ∙ sum_over_append (at F j) rows f.takes in
      sym (mod-eq_of_lt l)
      ∙ cancel p positive (at F j a.row) (sum_over (at F j) rows) (sum_over (at F j) f.takes) (f.sums j h ∙ ap (λ (n : ℕ). n % p) c)
      ∙ sym (total_over (at F j) p positive rows)
    where
      counts : (r : List ℕ) → count r f.adds ≡ count r (rows ++ f.takes)
      counts r = rw (count_append r rows f.takes) (omega (arith, f.numbers r, ap plus (e r), ap minus (e r)))

  pub determined : (a b : Aggregate) → Good F d a → Good F d b → ((r : List ℕ) → a.tally r ≡ b.tally r) → a ≡ b
  determined a b good-a good-b e = λ i. record { row = rows i; tally = fun_ext e i }
    where
      f : Backed F d a
      f = good-a.backing

      g : Backed F d b
      g = good-b.backing

      counts : (r : List ℕ) → count r (f.adds ++ g.takes) ≡ count r (g.adds ++ f.takes)
      counts r = rw (count_append r f.adds g.takes, count_append r g.adds f.takes) (omega (arith, f.numbers r, g.numbers r, ap plus (e r), ap minus (e r)))

      elements : (j : ℕ) → j < d → at F j a.row ≡ at F j b.row
      elements j h =
          let l : at F j a.row < p = element_below F laws d a.row f.row j h in
          let k : at F j b.row < p = element_below F laws d b.row g.row j h in
          let S = sum_over (at F j) in
          let c : S f.adds + S g.takes ≡ S g.adds + S f.takes = sym (sum_over_append (at F j) f.adds g.takes) ∙ same_counts (at F j) (f.adds ++ g.takes) (g.adds ++ f.takes) counts ∙ sum_over_append (at F j) g.adds f.takes in
          let u : at F j a.row + (S f.takes + S g.takes) ≡ (at F j a.row + S f.takes) + S g.takes = omega arith in
          let v : (at F j b.row + S g.takes) + S f.takes ≡ at F j b.row + (S f.takes + S g.takes) = omega arith in
          sym (mod-eq_of_lt l)
          ∙ cancel p positive (at F j a.row) (at F j b.row) (S f.takes + S g.takes)
          (ap (λ (n : ℕ). n % p) u
          ∙ add_both p _ (S f.adds) (S g.takes) (S g.takes) (f.sums j h) refl
          ∙ ap (λ (n : ℕ). n % p) c
          ∙ add_both p (S g.adds) _ (S f.takes) (S f.takes) (sym (g.sums j h)) refl
          ∙ ap (λ (n : ℕ). n % p) v)
          ∙ mod-eq_of_lt k

      rows : a.row ≡ b.row
      rows =
          sym good-a.written
          ∙ ap F.words (ext_get_or 0 (F.elements a.row) (F.elements b.row) (elements_long F laws d a.row f.row ∙ sym (elements_long F laws d b.row g.row)) (λ j h. elements j (omega (arith, elements_long F laws d a.row f.row))))
          ∙ good-b.written

  finished : (a : Aggregate) (x : Answer) (done : List ℕ) (new : Tally) → Good F d a → (x.number ≡ 0 → Good F d (aggregate done new)) → Good F d (after a (finish x done a.row) new)
  finished a x done new f g = go (eqb x.number 0) refl
    where
      go : (t : Bool) → eqb x.number 0 ≡ t → Good F d (aggregate (cond t done a.row) (cond t new a.tally))
      go true e = g (eqb-true _ _ e)
      go false e = f

  -- an aggregate to which a row was added, or from which it was taken
  module _ (a : Aggregate) (i : PineParam) (f : Good F d a) where
    pub added_to : (b : Aggregate) → ((accumulate_answer F i a.row b.row).number ≡ 0 → Backed F d b) → Good F d (adding F a i b)
    unfolding accumulate_of
    added_to b g = finished a (accumulate_answer F i a.row b.row) _ _ f (λ z. sum a b f.backing (g z))

    pub taken_from : (b : Aggregate) → ((accumulate_answer F i a.row b.row).number ≡ 0 → Backed F d b) → Good F d (taking F a i b)
    unfolding subtract_of
    taken_from b g = finished a (accumulate_answer F i a.row b.row) _ _ f (λ z. difference a b f.backing (g z))

    -- a row that a call with these inputs accepted as the share
    pub share_row : (r : List ℕ) → (accumulate_answer F i a.row r).number ≡ 0 → Backed F d (alone r)
    share_row r z =
        let t = added F i a.row r z in
        itself r (record { long = t.right_long ∙ sym t.left_long ∙ f.backing.row.long; below = t.right_below })

  -- a row for d elements that was emptied
  emptied_zeros : (i : PineParam) (row : List ℕ) → (empty_answer F i row).number ≡ 0 → length row ≡ F.words_in d → F.words (replicate i.dimension 0) ≡ F.words (replicate d 0)
  emptied_zeros i row z l = ap (λ (n : ℕ). F.words (replicate n 0)) (sym (laws.counted row i.dimension (emptied F i row z).1) ∙ laws.counted row d l)

  module _ (s : Aggregates) (f : (k : ℕ) → Good F d (s k)) where
    stored : (k : ℕ) (a : Aggregate) → Good F d a → (n : ℕ) → Good F d (put s k a n)
    stored k a g n = go (eqb n k)
      where
        go : (t : Bool) → Good F d (cond t a (s n))
        go true = g
        go false = f n

    pub stepped : (c : Call) (n : ℕ) → Good F d (step F s c n)
    unfolding step empty_of
    stepped (Call.empty k i) = stored k _ (finished (s k) (empty_answer F i (s k).row) _ _ (f k) (λ z. zeros _ _ (emptied_zeros i (s k).row z (f k).backing.row.long) (λ r. refl)))
    stepped (Call.accumulate k i r) = stored k _ (added_to (s k) i (f k) (alone r) (share_row (s k) i (f k) r))
    stepped (Call.merge k i m) = stored k _ (added_to (s k) i (f k) (s m) (λ z. (f m).backing))
    stepped (Call.subtract k i r) = stored k _ (taken_from (s k) i (f k) (alone r) (share_row (s k) i (f k) r))
    stepped (Call.unmerge k i m) = stored k _ (taken_from (s k) i (f k) (s m) (λ z. (f m).backing))

  pub begins : (a : Aggregate) → Begun F d a → Good F d a
  unfolding empty_of
  begins a b =
      let i = b.inputs in
      let z : (empty_answer F i b.found).number ≡ 0 = ap (λ (o : Outcome). o.answer.number) b.call in
      let r : F.words (replicate i.dimension 0) ≡ a.row = rw (eq-eqb _ _ z) at (ap (λ (o : Outcome). o.row) b.call) in
      zeros a.row a.tally (sym r ∙ emptied_zeros i b.found z b.long) b.none

  pub ran : (s : Aggregates) → ((k : ℕ) → Good F d (s k)) → (cs : List Call) (k : ℕ) → Good F d (run F s cs k)
  unfolding run
  ran s f [] = f
  ran s f (c ∷ cs) = ran (step F s c) (stepped s f c) cs

  -- after every list of calls, on aggregates each begun by an accepted call
  pub backed : (s : Aggregates) → ((k : ℕ) → Begun F d (s k)) → (cs : List Call) (k : ℕ) → Good F d (run F s cs k)
  backed s b cs = ran s (λ k. begins (s k) (b k)) cs
