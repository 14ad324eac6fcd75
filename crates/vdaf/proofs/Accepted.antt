-- What an accepted call has met, what makes a call accept, and that no answer turns on the elements of an aggregate. Assumes nothing.
use mathlib.Core.Path.{◌≡◌, sym, ◌∙◌}
use mathlib.Core.List.{List, ◌++◌}
use Prim.Native.Nat.{ℕ}
use lib.ListN.{length, replicate}
use lib.Ieee.{Float}
use Rattle.rules.specs.Rules.{accepted}
use Rattle.rules.proofs.Chain.{passed}
use Rattle.pine.specs.declared.PineParam.{PineParam}
use Rattle.pine.specs.Param.{Field, param_answer}
use Rattle.rows.specs.Rows.{row_rule, elements_rule, Below, add_rows}
use Rattle.rows.specs.Outcome.{outcome}
use Rattle.pine.proofs.Limits.{param_accepted}
use Rattle.rows.proofs.Lengths.{right_row, row_right}
use Rattle.rows.proofs.Elements.{below_append, below_parts, elements_joined, right_elements, elements_below}
use Rattle.vdaf.specs.Aggregates.{empty_rules, empty_answer, empty_of, accumulate_rules, accumulate_answer, accumulate_of, unshard_outcome, sizes_rule, decoded_sums, unshard_rules, unshard_answer, unshard_of}

-- accepted inputs, and two rows of words for d elements, which are field numbers
pub record TwoRows (F : Field) (i : PineParam) (left right : List ℕ) : Type 0 where
  pub param : param_answer F i ≡ accepted
  pub left_long : length left ≡ F.words_in i.dimension
  pub right_long : length right ≡ F.words_in i.dimension
  pub left_below : Below F.p (F.elements left)
  pub right_below : Below F.p (F.elements right)

-- from the answers of the rules on the inputs, 7 and 12
pub two_rows : (F : Field) (i : PineParam) (left right : List ℕ) → (param_answer F i).number ≡ 0 → (row_rule 1 (length left) (F.words_in i.dimension)).number ≡ 0 → (row_rule 2 (length right) (F.words_in i.dimension)).number ≡ 0
    → (elements_rule F.p (F.elements left ++ F.elements right)).number ≡ 0 → TwoRows F i left right
two_rows F i left right h l r e =
    let b = below_parts F.p (F.elements left) (F.elements right) (elements_below F.p 0 (F.elements left ++ F.elements right) e) in
    record {
      param = param_accepted F i h;
      left_long = row_right 1 (length left) (F.words_in i.dimension) l;
      right_long = row_right 2 (length right) (F.words_in i.dimension) r;
      left_below = b.0;
      right_below = b.1;
    }

module _ (F : Field) (i : PineParam) where
  -- ---- the aggregate of no shares

  module _ (row : List ℕ) where
    pub emptied : (empty_answer F i row).number ≡ 0 → (param_answer F i ≡ accepted) × (length row ≡ F.words_in i.dimension)
    unfolding empty_answer
    emptied h =
        let r = passed (empty_rules F i row) h in
        (param_accepted F i r.0, row_right 1 (length row) (F.words_in i.dimension) r.1.0)

    pub empties : param_answer F i ≡ accepted → length row ≡ F.words_in i.dimension → empty_of F i row ≡ outcome accepted (F.words (replicate i.dimension 0))
    unfolding empty_of empty_answer
    empties e l = rw (e, right_row 1 (length row) (F.words_in i.dimension) l)

  -- ---- adding

  module _ (agg share : List ℕ) where
    pub added : (accumulate_answer F i agg share).number ≡ 0 → TwoRows F i agg share
    unfolding accumulate_answer
    added h =
        let r = passed (accumulate_rules F i agg share) h in
        two_rows F i agg share r.0 r.1.0 r.1.1.0 r.1.1.1.0

    pub adds : TwoRows F i agg share → accumulate_of F i agg share ≡ outcome accepted (F.words (add_rows F.p (F.elements agg) (F.elements share)))
    unfolding accumulate_of accumulate_answer
    adds t =
        rw (t.param, right_row 1 (length agg) (F.words_in i.dimension) t.left_long, right_row 2 (length share) (F.words_in i.dimension) t.right_long, right_elements F.p 0 (F.elements agg ++ F.elements share) (below_append F.p (F.elements agg) (F.elements share) t.left_below t.right_below))

  -- ---- unsharding

  module _ (left right : List ℕ) (row : List Float) where
    pub unsharded : (unshard_answer F i left right row).number ≡ 0 → TwoRows F i left right × (length row ≡ i.dimension)
    unfolding unshard_answer
    unsharded h =
        let r = passed (unshard_rules F i left right row) h in
        (two_rows F i left right r.0 r.1.0 r.1.1.0 r.1.1.1.1.0, row_right 3 (length row) i.dimension r.1.1.1.0)

    pub unshards : TwoRows F i left right → length row ≡ i.dimension → sizes_rule F.p F.size_limit 0 (add_rows F.p (F.elements left) (F.elements right)) ≡ accepted
        → unshard_of F i left right row ≡ unshard_outcome accepted (decoded_sums F.p i.frac_bits (F.elements left) (F.elements right))
    unfolding unshard_of unshard_answer
    unshards t l z =
        rw (t.param, right_row 1 (length left) (F.words_in i.dimension) t.left_long, right_row 2 (length right) (F.words_in i.dimension) t.right_long, right_row 3 (length row) i.dimension l, right_elements F.p 0 (F.elements left ++ F.elements right) (below_append F.p (F.elements left) (F.elements right) t.left_below t.right_below), z)

  -- ---- what an answer does not turn on

  -- emptying: on no element at all
  pub empty_unread : (x y : List ℕ) → length x ≡ length y → empty_answer F i x ≡ empty_answer F i y
  unfolding empty_answer
  empty_unread x y e = rw e

  -- adding: on no element of the aggregate, if these are field numbers
  elements_unread : (x y r : List ℕ) → length x ≡ length y → Below F.p x → Below F.p y → elements_rule F.p (x ++ r) ≡ elements_rule F.p (y ++ r)
  elements_unread x y r e f g =
      elements_joined F.p x r ∙ rw (right_elements F.p 0 x f, e) (sym (elements_joined F.p y r ∙ rw (right_elements F.p 0 y g)))

  pub accumulate_unread : (x y r : List ℕ) → length x ≡ length y → length (F.elements x) ≡ length (F.elements y) → Below F.p (F.elements x) → Below F.p (F.elements y) → accumulate_answer F i x r ≡ accumulate_answer F i y r
  unfolding accumulate_answer
  accumulate_unread x y r e n f g = rw (e, elements_unread (F.elements x) (F.elements y) (F.elements r) n f g)

  -- nor on any of the row added, if that is another aggregate
  pub accumulate_unread_right : (x r s : List ℕ) → length r ≡ length s → Below F.p (F.elements r) → Below F.p (F.elements s) → accumulate_answer F i x r ≡ accumulate_answer F i x s
  unfolding accumulate_answer
  accumulate_unread_right x r s e f g =
      let n = length (F.elements x) in
      rw (e, elements_joined F.p (F.elements x) (F.elements r), elements_joined F.p (F.elements x) (F.elements s), right_elements F.p n (F.elements r) f, right_elements F.p n (F.elements s) g)
