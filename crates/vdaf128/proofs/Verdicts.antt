-- Rule 7 over rows of words, after the rules on the inputs; what two such rows are; adding, with rule 12; and rule 23, the last. Assumes nothing.
use mathlib.Core.Path.{◌≡◌, refl, sym, ap, ◌∙◌}
use mathlib.Core.Bool.{Bool, true, false, cond}
use Prim.Native.Nat.{ℕ, suc, ◌*◌}
use mathlib.Core.List.{List, [], ◌∷◌, ◌++◌}
use lib.ListN.{length}
use lib.Dec.{eqb}
use lib.Ieee.{Float}
use Rattle.rules.specs.declared.Answer.{Answer}
use Rattle.rules.specs.Rules.{answer, accepted, first}
use Rattle.rules.proofs.Chain.{passed, first_refused, first_passed, first_assoc, both}
use Rattle.rows.specs.Rows.{row_rule, elements_rule, Below, add_rows}
use Rattle.rows.specs.Outcome.{Outcome, outcome, finish}
use Rattle.rows.proofs.Lengths.{row_right}
use Rattle.pine.specs.declared.PineParam.{PineParam}
use Rattle.pine.specs.Param.{param_answer}
use Rattle.pine.specs.Record.{pine_of}
use Rattle.field128.specs.Field128.{p128, elements_of, words_of, Whole}
use Rattle.field128.proofs.Pairs.{whole_twice}
use Rattle.params128.specs.Field128.{Field128}
use Rattle.doubles.specs.Doubles.{size_rule}
use Rattle.doubles128.specs.Doubles128.{size_limit128}
use Rattle.vdaf.specs.Aggregates.{empty_answer, accumulate_answer, accumulate_of, sizes_rule, unshard_rules, unshard_answer}
use Rattle.vdaf.proofs.Accepted.{TwoRows, two_rows}
use Rattle.vdaf128.proofs.Sizes.{sums}
use Rattle.vdaf.proofs.Effects.{accumulate_refused}
use Rattle.vdaf.proofs.Verdicts.{lens_verdict, empty_verdict, accumulate_verdict, unshard_verdict}

module _ (i : PineParam) (a : Answer) (e : a ≡ param_answer Field128 i) (z : a.number ≡ 0) (l : ℕ) (g : l ≡ 2 * i.dimension) where
  pub lens_by_words : (n m : ℕ) (b c s : Answer) → b ≡ row_rule 1 n l → c ≡ row_rule 2 m l → s ≡ first b c → s ≡ first (param_answer Field128 i) (first (row_rule 1 n (2 * i.dimension)) (row_rule 2 m (2 * i.dimension)))
  unfolding pine_of
  lens_by_words n m b c s h k q = lens_verdict Field128 i a e z (pine_of i) refl n m b c s (rw (← g) h) (rw (← g) k) q

  pub empty_by_words : (row : List ℕ) (b : Answer) → b ≡ row_rule 1 (length row) l → b ≡ empty_answer Field128 i row
  unfolding pine_of
  empty_by_words row b h = empty_verdict Field128 i a e z (pine_of i) refl row b (rw (← g) h)

-- two rows that are accepted have no word left over, and as many elements, which are below p
pub rows_ready : (i : PineParam) (left right : List ℕ) → TwoRows Field128 i left right → (Whole left × (length left ≡ length right)) × (Below p128 (elements_of left) × Below p128 (elements_of right))
rows_ready i left right t = (((whole_twice left i.dimension t.left_long).0, t.left_long ∙ sym t.right_long), (t.left_below, t.right_below))

-- ---- adding: the rules up to 7, then 12 with the adding itself

module _ (i : PineParam) (agg share : List ℕ) (a : Answer) (e : a ≡ first (param_answer Field128 i) (first (row_rule 1 (length agg) (2 * i.dimension)) (row_rule 2 (length share) (2 * i.dimension)))) where
  pub lens_refused : (a.number ≡ 0 → ⊥) → outcome a agg ≡ accumulate_of Field128 i agg share
  lens_refused n = accumulate_refused Field128 i a agg share (accumulate_verdict Field128 i agg share a a e (sym (first_refused a _ n))) n

  module _ (z : a.number ≡ 0) where
    pub lens_met : Whole agg × (length agg ≡ length share)
    lens_met =
        let l = both (param_answer Field128 i) _ (ap (λ (t : Answer). t.number) (sym e) ∙ z) in
        let m = both (row_rule 1 (length agg) (2 * i.dimension)) (row_rule 2 (length share) (2 * i.dimension)) l.1 in
        let g : length agg ≡ 2 * i.dimension = row_right 1 (length agg) (2 * i.dimension) m.0 in
        ((whole_twice agg i.dimension g).0, g ∙ sym (row_right 2 (length share) (2 * i.dimension) m.1))

    pub elements_outcome : (r : Outcome) → r ≡ finish (elements_rule p128 (elements_of agg ++ elements_of share)) (words_of (add_rows p128 (elements_of agg) (elements_of share))) agg → r ≡ accumulate_of Field128 i agg share
    unfolding accumulate_of
    elements_outcome r g =
        let h : elements_rule p128 (elements_of agg ++ elements_of share) ≡ accumulate_answer Field128 i agg share = accumulate_verdict Field128 i agg share a _ e (sym (first_passed a _ z)) in
        g ∙ ap (λ (t : Answer). finish t (words_of (add_rows p128 (elements_of agg) (elements_of share))) agg) h

-- ---- 12 of two aggregates, then 23 of their sums

sizes_last : (p l k : ℕ) (ys : List ℕ) → first (sizes_rule p l k ys) accepted ≡ sizes_rule p l k ys
unfolding sizes_rule
sizes_last p l k [] = refl
sizes_last p l k (y ∷ ys) = go (eqb (size_rule p l y).number 0) (sizes_last p l (suc k) ys)
  where
    go : (t : Bool) → first (sizes_rule p l (suc k) ys) accepted ≡ sizes_rule p l (suc k) ys → first (cond t (sizes_rule p l (suc k) ys) (answer 23 k)) accepted ≡ cond t (sizes_rule p l (suc k) ys) (answer 23 k)
    go true e = e
    go false e = refl

module _ (i : PineParam) (left right : List ℕ) (row : List Float) where
  abbrev lens : Answer
  lens = first (param_answer Field128 i) (first (row_rule 1 (length left) (2 * i.dimension)) (row_rule 2 (length right) (2 * i.dimension)))

  abbrev elements : Answer
  elements = elements_rule p128 (elements_of left ++ elements_of right)

  abbrev sizes : Answer
  sizes = sizes_rule p128 size_limit128 0 (sums left right)

  module _ (a : Answer) (e : a ≡ lens) (z : a.number ≡ 0) (b x : Answer) (f : b ≡ row_rule 3 (length row) i.dimension) (g : x ≡ first b elements) where
    answered : (s : Answer) → s ≡ first b (first elements (first sizes accepted)) → s ≡ unshard_answer Field128 i left right row
    unfolding pine_of
    answered s h = unshard_verdict Field128 i left right row a e z (pine_of i) refl b (first elements (first sizes accepted)) s f refl h

    pub elements_refused : (x.number ≡ 0 → ⊥) → x ≡ unshard_answer Field128 i left right row
    elements_refused n = answered x (sym (first_refused x (first sizes accepted) n) ∙ ap (λ (t : Answer). first t (first sizes accepted)) g ∙ first_assoc b elements (first sizes accepted))

    module _ (k : x.number ≡ 0) where
      pub rows_met : TwoRows Field128 i left right
      rows_met =
          let l = both (param_answer Field128 i) _ (ap (λ (t : Answer). t.number) (sym e) ∙ z) in
          let m = both (row_rule 1 (length left) (2 * i.dimension)) (row_rule 2 (length right) (2 * i.dimension)) l.1 in
          two_rows Field128 i left right l.0 m.0 m.1 (both b elements (ap (λ (t : Answer). t.number) (sym g) ∙ k)).1

      pub sizes_answer : (y : Answer) → y ≡ sizes → y ≡ unshard_answer Field128 i left right row
      sizes_answer y h = answered y (h ∙ sym (sizes_last p128 size_limit128 0 (sums left right)) ∙ sym (first_passed x (first sizes accepted) k) ∙ ap (λ (t : Answer). first t (first sizes accepted)) g ∙ first_assoc b elements (first sizes accepted))

-- what an accepted call has met of the sums, and of the rows' lengths
pub sums_met : (i : PineParam) (left right : List ℕ) (row : List Float) → TwoRows Field128 i left right × (length row ≡ i.dimension) → ((length left ≡ 2 * length row) × (length right ≡ 2 * length row)) × (Below p128 (elements_of left) × Below p128 (elements_of right))
sums_met i left right row t = ((t.0.left_long ∙ ap (λ (n : ℕ). 2 * n) (sym t.1), t.0.right_long ∙ ap (λ (n : ℕ). 2 * n) (sym t.1)), (t.0.left_below, t.0.right_below))

pub sizes_passed : (i : PineParam) (left right : List ℕ) (row : List Float) (a : Answer) → a ≡ unshard_answer Field128 i left right row → a.number ≡ 0 → (sizes_rule p128 size_limit128 0 (sums left right)).number ≡ 0
unfolding unshard_answer
sizes_passed i left right row a e z = (passed (unshard_rules Field128 i left right row) (ap (λ (t : Answer). t.number) (sym e) ∙ z)).1.1.1.1.1.0
