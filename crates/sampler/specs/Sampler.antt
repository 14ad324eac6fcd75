-- Sampling a share from a stream (docs/PINE.md, "Cutting a report"; `into_field_vec` of the Rust, with a limit). Assumes nothing.
use Rattle.std.specs.Prelude.{ℕ, ◌+◌, ◌*◌, cond, List, [], ◌∷◌, length, take, ltb}
use Rattle.rules.specs.declared.Answer.{Answer}
use Rattle.rules.specs.Rules.{refuse, in_order}
use Rattle.pine.specs.declared.PineParam.{PineParam}
use Rattle.pine.specs.Param.{Field, param_answer}
use Rattle.pine.specs.Record.{encoded_input_len_of}
use Rattle.rows.specs.Rows.{row_rule}
use Rattle.rows.specs.Outcome.{Outcome, finish}
use Rattle.octets.specs.Octets.{elements_in}

-- the drawing limit: how many values are drawn at most for n elements
abbrev pub draw_limit : (n : ℕ) → ℕ
draw_limit n = n + 64

-- those below p, in their order
unfoldable pub kept_of : (p : ℕ) → List ℕ → List ℕ
kept_of p [] = []
kept_of p (v ∷ vs) = cond (ltb v p) (v ∷ kept_of p vs) (kept_of p vs)

-- of a stream's first k values, eight bytes each, the low byte first, those below p
unfoldable pub values_of : (p k : ℕ) (stream : List ℕ) → List ℕ
values_of p k stream = kept_of p (elements_in k stream)

-- n elements: the first n values below p. Only values up to the drawing limit are looked at
unfoldable pub sampled : (p n : ℕ) (stream : List ℕ) → List ℕ
sampled p n stream = take n (values_of p (draw_limit n) stream)

-- rule 18: there are fewer of them
unfoldable pub draws_rule : (p n : ℕ) (stream : List ℕ) → Answer
draws_rule p n stream = refuse (ltb (length (values_of p (draw_limit n) stream)) n) 18 0

-- what `sample` answers, with the share's row as found
module _ (F : Field) (i : PineParam) (stream share : List ℕ) where
  -- the rules in their order
  unfoldable pub sample_rules : List Answer
  sample_rules =
      param_answer F i
      ∷ row_rule 1 (length stream) (8 * draw_limit (encoded_input_len_of i))
      ∷ row_rule 2 (length share) (encoded_input_len_of i)
      ∷ draws_rule F.p (encoded_input_len_of i) stream
      ∷ []

  unfoldable pub sample_of : Outcome
  sample_of = finish (in_order sample_rules) (sampled F.p (encoded_input_len_of i) stream) share
