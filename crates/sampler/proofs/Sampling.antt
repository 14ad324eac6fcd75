-- The cases of sampling: refused by the inputs, by a row, or by the draws, or accepted. Assumes nothing.
use mathlib.Core.Path.{◌≡◌, sym, ap, ap₂, ◌∙◌}
use mathlib.Core.List.{List}
use Prim.Native.Nat.{ℕ, ◌*◌, ◌/◌}
use native.Mathlib.Omega.{arith}
use lib.ListN.{length, take, drop}
use lib.Dec.{ltb}
use borrow.Author.Tests.{eq-eqb, ne_eqb}
use Rattle.rules.specs.declared.Answer.{Answer}
use Rattle.rules.specs.Rules.{refuse, first, in_order}
use Rattle.rules.proofs.Chain.{refuse_last, first_refused, first_passed, split, both}
use Rattle.pine.specs.declared.PineParam.{PineParam}
use Rattle.pine.specs.Param.{Field, param_answer}
use Rattle.pine.specs.Record.{encoded_input_len_of}
use Rattle.rows.specs.Rows.{row_rule}
use Rattle.rows.specs.Outcome.{outcome}
use Rattle.rows.proofs.Lengths.{row_right, row_last}
use Rattle.sampler.specs.Sampler.{draw_limit, values_of, sampled, draws_rule, sample_rules, sample_of}

module _ (F : Field) (i : PineParam) (s share : List ℕ) where
  abbrev n : ℕ
  n = encoded_input_len_of i

  abbrev whole : Answer
  whole = in_order (sample_rules F i s share)

  refused : (a : Answer) → whole ≡ a → (a.number ≡ 0 → ⊥) → outcome a share ≡ sample_of F i s share
  unfolding sample_of
  refused a e h = rw (e, ne_eqb a.number 0 h)

  -- by the inputs
  pub inputs_refused : (a : Answer) → a ≡ param_answer F i → (a.number ≡ 0 → ⊥) → outcome a share ≡ sample_of F i s share
  unfolding sample_rules
  inputs_refused a e h = refused a (first_refused (param_answer F i) (in_order (drop 1 (sample_rules F i s share))) (λ z. h (ap (λ (b : Answer). b.number) e ∙ z)) ∙ sym e) h

  module _ (met : (param_answer F i).number ≡ 0) (a : Answer) (rows_are : a ≡ first (row_rule 1 (length s) (8 * draw_limit n)) (row_rule 2 (length share) n)) where
    rest_is : whole ≡ first a (draws_rule F.p n s)
    unfolding sample_rules draws_rule
    rest_is =
        let early : in_order (take 3 (sample_rules F i s share)) ≡ a = rw (eq-eqb _ _ met, row_last 2 (length share) n) (sym rows_are) in
        split 3 (sample_rules F i s share) ∙ ap₂ first early (refuse_last (ltb (length (values_of F.p (draw_limit n) s)) n) 17 0)

    -- by a row
    pub rows_refused : (a.number ≡ 0 → ⊥) → outcome a share ≡ sample_of F i s share
    rows_refused h = refused a (rest_is ∙ first_refused a (draws_rule F.p n s) h) h

    module _ (right : a.number ≡ 0) where
      lengths : (length s ≡ 8 * draw_limit n) × (length share ≡ n)
      lengths =
          let b = both (row_rule 1 (length s) (8 * draw_limit n)) (row_rule 2 (length share) n) (ap (λ (c : Answer). c.number) (sym rows_are) ∙ right) in
          (row_right 1 _ _ b.0, row_right 2 _ _ b.1)

      limit : length s / 8 ≡ draw_limit n
      limit = omega (arith, lengths.0)

      -- what the code has found
      module _ (count : ℕ) (counted : count ≡ length (values_of F.p (length s / 8) s)) (late : Answer) (late_is : late ≡ refuse (ltb count (length share)) 18 0) where
        rule_is : draws_rule F.p n s ≡ late
        unfolding draws_rule
        rule_is = sym (late_is ∙ (λ j. refuse (ltb ((counted ∙ ap (λ (m : ℕ). length (values_of F.p m s)) limit) j) (lengths.1 j)) 18 0))

        late_whole : whole ≡ late
        late_whole = rest_is ∙ first_passed a (draws_rule F.p n s) right ∙ rule_is

        pub draws_refused : (late.number ≡ 0 → ⊥) → outcome late share ≡ sample_of F i s share
        draws_refused h = refused late late_whole h

        module _ (z : late.number ≡ 0) where
          pub accepted_with : (row : List ℕ) → row ≡ take (length share) (values_of F.p (length s / 8) s) → outcome late row ≡ sample_of F i s share
          unfolding sample_of sampled
          accepted_with row e = rw (late_whole, eq-eqb late.number 0 z) (ap (outcome late) (e ∙ (λ j. take (lengths.1 j) (values_of F.p (limit j) s))))
