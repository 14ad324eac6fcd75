-- The answer that a call's check_* function puts together is the one of its rules in their order. Assumes nothing.
use mathlib.Core.Path.{◌≡◌, refl, sym, ap, ◌∙◌}
use mathlib.Core.List.{List, [], ◌∷◌, ◌++◌}
use Prim.Native.Nat.{ℕ, ◌+◌, ◌*◌, ◌≤◌, ◌<◌}
use lib.ListN.{length}
use lib.Dec.{ltb}
use lib.Ieee.{Float}
use Rattle.rules.specs.declared.Answer.{Answer}
use Rattle.rules.specs.Rules.{accepted, first, in_order}
use Rattle.rules.proofs.Chain.{refuse_last, first_refused, first_passed, first_assoc, both}
use Rattle.pine.specs.declared.PineParam.{PineParam}
use Rattle.pine.specs.declared.record.Pine.{Pine}
use Rattle.pine.specs.Param.{Field, param_answer}
use Rattle.pine.specs.Record.{pine_of}
use Rattle.pine.proofs.Limits.{param_accepted}
use Rattle.rows.specs.Rows.{row_rule, first_bad, elements_rule, add_rows}
use Rattle.rows.proofs.Lengths.{row_last}
use Rattle.rows.proofs.Added.{add_below}
use Rattle.vdaf.specs.Aggregates.{empty_answer, accumulate_answer, sizes_rule, unshard_answer}
use Rattle.vdaf.proofs.Decoded.{sizes_free}

elements_last : (p : ℕ) (xs : List ℕ) → first (elements_rule p xs) accepted ≡ elements_rule p xs
elements_last p xs = refuse_last (ltb (first_bad p xs) (length xs)) 11 (0 + first_bad p xs)

-- one more rule after three; and what follows a chain of two and a third
after_three : (a b c l : Answer) → first l accepted ≡ l → first (first a (first b c)) l ≡ in_order (a ∷ b ∷ c ∷ l ∷ [])
after_three a b c l e = first_assoc a (first b c) l ∙ ap (first a) (first_assoc b c l ∙ ap (λ (t : Answer). first b (first c t)) (sym e))

after_four : (a b c d l : Answer) → first (first (first a (first b c)) d) l ≡ first a (first b (first c (first d l)))
after_four a b c d l = first_assoc (first a (first b c)) d l ∙ first_assoc a (first b c) (first d l) ∙ ap (first a) (first_assoc b c (first d l))

-- 12 of two aggregates, then 23 of their sum
module _ (F : Field) (left right : List ℕ) where
  abbrev pub elements_sizes : Answer
  elements_sizes = in_order (elements_rule F.p (F.elements left ++ F.elements right) ∷ sizes_rule F.p F.size_limit 0 (add_rows F.p (F.elements left) (F.elements right)) ∷ [])

  -- where the limit is half of p: 12 alone
  pub only_elements : 0 < F.p → F.p ≤ 2 * F.size_limit + 1 → elements_rule F.p (F.elements left ++ F.elements right) ≡ elements_sizes
  only_elements positive room =
      sym (rw (sizes_free F.p F.size_limit 0 room (add_rows F.p (F.elements left) (F.elements right)) (add_below F.p positive (F.elements left) (F.elements right))) (elements_last F.p (F.elements left ++ F.elements right)))

module _ (F : Field) (i : PineParam) where
  abbrev row_rule_lem : ℕ → List ℕ → Answer
  row_rule_lem k row = row_rule k (length row) (F.words_in i.dimension)

  -- the rules on the inputs, and 7, of two rows, by their lengths
  abbrev lens : (n m : ℕ) → Answer
  lens n m = first (param_answer F i) (first (row_rule 1 n (F.words_in i.dimension)) (row_rule 2 m (F.words_in i.dimension)))

  -- ---- the rules on the inputs refuse, or the inputs are accepted and the record's dimension serves

  module _ (a : Answer) (e : a ≡ param_answer F i) where
    pub stopped : (rest : Answer) → (a.number ≡ 0 → ⊥) → a ≡ first (param_answer F i) rest
    stopped rest n = sym (first_refused a rest n) ∙ ap (λ (t : Answer). first t rest) e

    pub empty_stopped : (row : List ℕ) → (a.number ≡ 0 → ⊥) → a ≡ empty_answer F i row
    unfolding empty_answer
    empty_stopped row n = stopped _ n

    module _ (z : a.number ≡ 0) where
      pub inputs_met : param_answer F i ≡ accepted
      inputs_met = param_accepted F i (ap (λ (t : Answer). t.number) (sym e) ∙ z)

      module _ (r : Pine) (f : r ≡ pine_of i) where
        by_record : (w : ℕ → ℕ) (k n : ℕ) (b : Answer) → b ≡ row_rule k n (w r.dimension) → b ≡ row_rule k n (w i.dimension)
        unfolding pine_of
        by_record w k n b g = g ∙ ap (λ (t : Pine). row_rule k n (w t.dimension)) f

        pub lens_verdict : (n m : ℕ) (b c s : Answer) → b ≡ row_rule 1 n (F.words_in r.dimension) → c ≡ row_rule 2 m (F.words_in r.dimension) → s ≡ first b c → s ≡ lens n m
        lens_verdict n m b c s g h q = q ∙ rw (by_record F.words_in 1 n b g, by_record F.words_in 2 m c h, inputs_met)

        pub empty_verdict : (row : List ℕ) (b : Answer) → b ≡ row_rule 1 (length row) (F.words_in r.dimension) → b ≡ empty_answer F i row
        unfolding empty_answer
        empty_verdict row b g = by_record F.words_in 1 (length row) b g ∙ sym (rw inputs_met (row_last 1 (length row) (F.words_in i.dimension)))

  -- ---- the rules on the inputs, and 7, of two rows, and then the others

  pub accumulate_verdict : (agg share : List ℕ) (a r : Answer) → a ≡ lens (length agg) (length share) → r ≡ first a (elements_rule F.p (F.elements agg ++ F.elements share)) → r ≡ accumulate_answer F i agg share
  unfolding accumulate_answer
  accumulate_verdict agg share a r e g = g ∙ rw e (after_three (param_answer F i) (row_rule_lem 1 agg) (row_rule_lem 2 share) _ (elements_last F.p (F.elements agg ++ F.elements share)))

  module _ (left right : List ℕ) (row : List Float) (a : Answer) (e : a ≡ lens (length left) (length right)) where
    abbrev row_3 : Answer
    row_3 = row_rule 3 (length row) i.dimension

    chained : (r : Answer) → r ≡ first (first a row_3) (elements_sizes F left right) → r ≡ unshard_answer F i left right row
    unfolding unshard_answer
    chained r h = h ∙ rw e (after_four (param_answer F i) (row_rule_lem 1 left) (row_rule_lem 2 right) row_3 (elements_sizes F left right))

    pub unshard_stopped : (a.number ≡ 0 → ⊥) → a ≡ unshard_answer F i left right row
    unshard_stopped n = chained a (sym (first_assoc a _ _ ∙ first_refused a _ n))

    module _ (z : a.number ≡ 0) where
      pub lens_met : param_answer F i ≡ accepted
      lens_met = param_accepted F i (both (param_answer F i) _ (ap (λ (t : Answer). t.number) (sym e) ∙ z)).0

      pub unshard_verdict : (r : Pine) → r ≡ pine_of i → (b l s : Answer) → b ≡ row_rule 3 (length row) r.dimension → l ≡ elements_sizes F left right → s ≡ first b l → s ≡ unshard_answer F i left right row
      unshard_verdict r f b l s g q h =
          chained s (h ∙ rw q (ap (λ (t : Answer). first t (elements_sizes F left right)) (by_record (param_answer F i) refl (ap (λ (t : Answer). t.number) lens_met) r f (λ n. n) 3 (length row) b g ∙ sym (first_passed a row_3 z))))
