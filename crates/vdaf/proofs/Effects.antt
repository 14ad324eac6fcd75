-- A call's outcome, from the answer that its check_* function gave and the row that it then wrote. Assumes nothing.
use mathlib.Core.Path.{◌≡◌, sym, ap, ◌∙◌}
use mathlib.Core.List.{List}
use Prim.Native.Nat.{ℕ}
use lib.ListN.{length, replicate}
use lib.Ieee.{Float}
use borrow.Author.Tests.{eq-eqb, ne_eqb}
use Rattle.rules.specs.declared.Answer.{Answer}
use Rattle.pine.specs.declared.PineParam.{PineParam}
use Rattle.pine.specs.declared.record.Pine.{Pine}
use Rattle.pine.specs.Param.{Field}
use Rattle.pine.specs.Record.{pine_of}
use Rattle.rows.specs.Rows.{add_rows, sub_rows}
use Rattle.rows.specs.Outcome.{outcome}
use Rattle.vdaf.specs.Aggregates.{empty_answer, empty_of, accumulate_answer, accumulate_of, subtract_of, unshard_outcome, decoded_sums, unshard_answer, unshard_of}
use Rattle.vdaf.proofs.Accepted.{TwoRows, emptied, added, unsharded}

abbrev pub number : Answer → ℕ
number a = a.number

module _ (F : Field) (i : PineParam) (a : Answer) where
  module _ (row : List ℕ) (e : a ≡ empty_answer F i row) where
    pub empty_refused : (a.number ≡ 0 → ⊥) → outcome a row ≡ empty_of F i row
    unfolding empty_of
    empty_refused n = rw (← e, ne_eqb a.number 0 n)

    -- where the words of zeros are zeros
    pub empty_done : ((n : ℕ) → F.words (replicate n 0) ≡ replicate (F.words_in n) 0) → a.number ≡ 0 → (r : List ℕ) → r ≡ replicate (length row) 0 → outcome a r ≡ empty_of F i row
    unfolding empty_of
    empty_done zeros z r g =
        let l : length row ≡ F.words_in i.dimension = (emptied F i row (ap number (sym e) ∙ z)).1 in
        rw (g, ← e, l, zeros i.dimension, eq-eqb a.number 0 z)

  module _ (agg share : List ℕ) (e : a ≡ accumulate_answer F i agg share) where
    pub accumulate_refused : (a.number ≡ 0 → ⊥) → outcome a agg ≡ accumulate_of F i agg share
    unfolding accumulate_of
    accumulate_refused n = rw (← e, ne_eqb a.number 0 n)

    pub accumulate_met : a.number ≡ 0 → TwoRows F i agg share
    accumulate_met z = added F i agg share (ap number (sym e) ∙ z)

    pub accumulate_done : a.number ≡ 0 → (r : List ℕ) → r ≡ F.words (add_rows F.p (F.elements agg) (F.elements share)) → outcome a r ≡ accumulate_of F i agg share
    unfolding accumulate_of
    accumulate_done z r g = rw (g, ← e, eq-eqb a.number 0 z)

    pub subtract_refused : (a.number ≡ 0 → ⊥) → outcome a agg ≡ subtract_of F i agg share
    unfolding subtract_of
    subtract_refused n = rw (← e, ne_eqb a.number 0 n)

    pub subtract_done : a.number ≡ 0 → (r : List ℕ) → r ≡ F.words (sub_rows F.p (F.elements agg) (F.elements share)) → outcome a r ≡ subtract_of F i agg share
    unfolding subtract_of
    subtract_done z r g = rw (g, ← e, eq-eqb a.number 0 z)

  module _ (left right : List ℕ) (row : List Float) (e : a ≡ unshard_answer F i left right row) where
    pub unshard_refused : (a.number ≡ 0 → ⊥) → unshard_outcome a row ≡ unshard_of F i left right row
    unfolding unshard_of
    unshard_refused n = rw (← e, ne_eqb a.number 0 n)

    pub unshard_met : a.number ≡ 0 → TwoRows F i left right × (length row ≡ i.dimension)
    unshard_met z = unsharded F i left right row (ap number (sym e) ∙ z)

    -- decoded at the record's own scale
    pub unshard_done : a.number ≡ 0 → (R : Pine) → R ≡ pine_of i → (r : List Float) → r ≡ decoded_sums F.p R.frac_bits (F.elements left) (F.elements right) → unshard_outcome a r ≡ unshard_of F i left right row
    unfolding unshard_of pine_of
    unshard_done z R f r g = rw (g, f, ← e, eq-eqb a.number 0 z)
