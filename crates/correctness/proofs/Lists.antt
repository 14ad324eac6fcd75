-- Tallies as lists: without withdrawals a tally is a list of rows, and a row's number is how often it stands there. So what is said of such lists, of aggregates and of decoded
-- sums, is a case of `Correctness`. Assumes nothing.
use mathlib.Core.Path.{◌≡◌, refl, sym, ap, ◌∙◌}
use mathlib.Core.Logic.{∥∥₁_elim}
use mathlib.Core.Bool.{Bool, true, false, cond}
use mathlib.Core.List.{List, [], ◌∷◌, ◌++◌, map, Perm, Permᴰ}
use Prim.Native.Nat.{ℕ, ◌+◌, ◌<◌}
use native.Mathlib.Nat.{ℕ_set}
use native.Mathlib.Omega.{arith}
use lib.ListN.{length}
use lib.IntN.{ℤ, pos, ◌+ℤ◌}
use lib.Dec.{eqb}
use lib.Ieee.{Float}
use Rattle.rules.specs.Rules.{accepted}
use Rattle.pine.specs.declared.PineParam.{PineParam}
use Rattle.field64.specs.Sums.{total}
use Rattle.pine.specs.Param.{Field, param_answer}
use Rattle.pine.specs.Words.{WordLaws}
use Rattle.vdaf.specs.Aggregates.{empty_of, accumulate_of, unshard_of}
use Rattle.correctness.specs.Tally.{eq_row, count, Tally, once, Aggregates, Call, step, run, Begun, Each, Joined}
use Rattle.correctness.specs.Correctness.{Report, shares_of, Decodable, Decodes, Correctness}
use Rattle.correctness.proofs.Counts.{one_if, count_append}
use Rattle.correctness.proofs.Tally.{at, of_rows, backed}

-- ---- counts of a permuted list

permuted : (r : List ℕ) {xs ys : List (List ℕ)} → Permᴰ xs ys → count r xs ≡ count r ys
permuted r Permᴰ.nil = refl
permuted r (Permᴰ.cons e d) = λ i. one_if (eq_row (e i) r) + permuted r d i
permuted r (Permᴰ.swap e f) =
    let u = ap (λ (x : List ℕ). one_if (eq_row x r)) e in
    let v = ap (λ (x : List ℕ). one_if (eq_row x r)) f in
    omega arith
permuted r (Permᴰ.trans d e) = permuted r d ∙ permuted r e

count_perm : (r : List ℕ) {xs ys : List (List ℕ)} → Perm xs ys → count r xs ≡ count r ys
count_perm r q = ∥∥₁_elim q (ℕ_set _ _) (λ d. permuted r d)

-- ---- the lists

abbrev Lists : Type 0
Lists = ℕ → List (List ℕ)

-- the call takes nothing out
abbrev pub Additive : Call → Type 0
Additive (Call.empty k i) = Unit {0}
Additive (Call.accumulate k i r) = Unit {0}
Additive (Call.merge k i m) = Unit {0}
Additive (Call.subtract k i r) = ⊥
Additive (Call.unmerge k i m) = ⊥

module _ (F : Field) where
  -- emptying clears the list, adding appends the row, or the rows of the other; a refused call changes none
  abbrev listed : Aggregates → Lists → Call → Lists
  listed s l (Call.empty k i) n = cond (eqb n k) (cond (eqb (empty_of F i (s k).row).answer.number 0) [] (l k)) (l n)
  listed s l (Call.accumulate k i r) n = cond (eqb n k) (cond (eqb (accumulate_of F i (s k).row r).answer.number 0) (l k ++ (r ∷ [])) (l k)) (l n)
  listed s l (Call.merge k i m) n = cond (eqb n k) (cond (eqb (accumulate_of F i (s k).row (s m).row).answer.number 0) (l k ++ l m) (l k)) (l n)
  listed s l (Call.subtract k i r) n = l n
  listed s l (Call.unmerge k i m) n = l n

  pub lists : Aggregates → Lists → List Call → Lists
  lists s l [] = l
  lists s l (c ∷ cs) = lists (step F s c) (listed s l c) cs

  -- after a list of calls, each list being without any row at first
  abbrev pub lists_after : Aggregates → List Call → Lists
  lists_after s calls = lists s (λ n. []) calls

  -- each number is how often the row stands in the list
  Counting : Aggregates → Lists → Type 0
  Counting s l = (n : ℕ) (r : List ℕ) → (s n).tally r ≡ pos (count r (l n))

  module _ (s : Aggregates) (l : Lists) (f : Counting s l) where
    both : (x y : Bool) (n k : ℕ) (new : Tally) (row : List ℕ) (rows : List (List ℕ)) → ((r : List ℕ) → new r ≡ pos (count r rows)) → (r : List ℕ)
        → (cond x (record { row = row; tally = cond y new (s k).tally }) (s n)).tally r ≡ pos (count r (cond x (cond y rows (l k)) (l n)))
    unfolding Counting
    both true true n k new row rows g r = g r
    both true false n k new row rows g r = f k r
    both false y n k new row rows g r = f n r

    counted : (c : Call) → Additive c → Counting (step F s c) (listed s l c)
    unfolding Counting step
    counted (Call.empty k i) a n = both (eqb n k) (eqb (empty_of F i (s k).row).answer.number 0) n k _ _ [] (λ r. refl)
    counted (Call.accumulate k i x) a n = both (eqb n k) (eqb (accumulate_of F i (s k).row x).answer.number 0) n k _ _ (l k ++ (x ∷ [])) (λ r. ap (λ (z : ℤ). z +ℤ once x r) (f k r) ∙ one (eq_row x r) (count r (l k)) ∙ ap pos (sym (count_append r (l k) (x ∷ []))))
      where
        one : (t : Bool) (n : ℕ) → pos n +ℤ cond t (pos 1) (pos 0) ≡ pos (n + (one_if t + 0))
        one true n = ap pos (omega arith)
        one false n = ap pos (omega arith)
    counted (Call.merge k i m) a n = both (eqb n k) (eqb (accumulate_of F i (s k).row (s m).row).answer.number 0) n k _ _ (l k ++ l m) (λ r. (λ j. f k r j +ℤ f m r j) ∙ ap pos (sym (count_append r (l k) (l m))))
    counted (Call.subtract k i x) a n = absurd a
    counted (Call.unmerge k i m) a n = absurd a

  counting : (cs : List Call) → Each Additive cs → (s : Aggregates) (l : Lists) → Counting s l → Counting (run F s cs) (lists s l cs)
  unfolding run lists
  counting [] a s l f = f
  counting (c ∷ cs) a s l f = counting cs a.1 (step F s c) (listed s l c) (counted s l f c a.0)

-- after calls that take nothing out, on aggregates each begun by an accepted call: what holds of such lists
module _ (F : Field) (d : ℕ) (s : Aggregates) (b : (k : ℕ) → Begun F d (s k)) (calls : List Call) (additive : Each Additive calls) where
  counts : (k : ℕ) (r : List ℕ) → (run F s calls k).tally r ≡ pos (count r (lists_after F s calls k))
  unfolding Counting
  counts = counting F calls additive s (λ n. []) (λ n r. (b n).none r)

  -- each element of an aggregate is the sum of that element over its list
  pub list_sums : WordLaws F → 0 < F.p → (k j : ℕ) → j < d → at F j (run F s calls k).row ≡ total F.p (map (at F j) (lists_after F s calls k))
  list_sums laws positive k j h = of_rows F laws d positive (run F s calls k) (backed F laws d positive s b calls k).backing (lists_after F s calls k) (counts k) j h

  -- where two lists joined are, in some order, certain rows, so are the two tallies
  pub lists_joined : (k m : ℕ) (rows : List (List ℕ)) → Perm (lists_after F s calls k ++ lists_after F s calls m) rows → Joined (run F s calls k).tally (run F s calls m).tally rows
  lists_joined k m rows q r = (λ j. counts k r j +ℤ counts m r j) ∙ ap pos (sym (count_append r (lists_after F s calls k) (lists_after F s calls m)) ∙ count_perm r q)

-- so the doubles, stated by lists of rows, follow from `Correctness`
pub as_before : (F : Field) → Correctness F → (i : PineParam) → param_answer F i ≡ accepted → (s : Aggregates) → ((k : ℕ) → Begun F i.dimension (s k)) → (calls : List Call) → Each Additive calls → (reports : List (Report F i))
    → (k m : ℕ) → Perm (lists_after F s calls k ++ lists_after F s calls m) (shares_of F i reports) → Decodable F i reports → (found : List Float) → length found ≡ i.dimension
    → Decodes F i reports (unshard_of F i (run F s calls k).row (run F s calls m).row found)
as_before F holds i ok s b calls additive reports k m q = (holds i ok s b calls reports).decoded k m (lists_joined F i.dimension s b calls additive k m _ q)
