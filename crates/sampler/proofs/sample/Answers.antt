-- `sampler::sample` meets its contract. Assumes nothing.
use mathlib.Core.Path.{◌≡◌, sym, ap, ◌∙◌}
use Prim.Native.Nat.{ℕ, ◌*◌}
use native.Mathlib.Omega.{arith}
use lib.ListN.{length}
use Rattle.rules.specs.declared.Answer.{Answer}
use Rattle.rules.specs.Rules.{accepted, first}
use Rattle.pine.specs.Param.{Field64, param_answer}
use Rattle.pine.specs.Record.{encoded_input_len_of, pine_of}
use Rattle.pine.proofs.Limits.{param_accepted}
use Rattle.pine.proofs.Sizes.{derivable_64, sizes_64}
use Rattle.rows.specs.Rows.{row_rule}
use Rattle.sampler.specs.Sampler.{draw_limit}
use Rattle.sampler.proofs.Sampling.{inputs_refused, rows_refused, draws_refused, accepted_with}
use Rattle.sampler.proofs.sample.Lts as lts
use Rattle.sampler.proofs.sample.Reads as reads
use Rattle.sampler.proofs.sample.Tie as tie
use Rattle.sampler.proofs.sample.Goals as goal

abbrev Else-inputs-ne0 : Type 0
Else-inputs-ne0 = lts.Else1 tie.the-claims reads.Pre reads.Post

abbrev After-new-pine : Type 0
After-new-pine = lts.After-new tie.the-claims reads.Pre reads.Post

abbrev After-or-early : Type 0
After-or-early = lts.After-or tie.the-claims reads.Pre reads.Post

abbrev After-count_values : Type 0
After-count_values = lts.After-count_values tie.the-claims reads.Pre reads.Post

-- the inputs are accepted
passed : (c : Else-inputs-ne0) → param_answer Field64 c.args.param ≡ accepted
passed c = param_accepted Field64 _ (ap (λ (a : Answer). a.number) (sym c.check_param-inputs.ensures) ∙ c.if-inputs-ne0.false)

met : (c : After-new-pine) → (param_answer Field64 c.args.param).number ≡ 0
met c = ap (λ (a : Answer). a.number) (passed c.before)

long : (c : After-new-pine) → c.new-pine.result.encoded_input_len ≡ encoded_input_len_of c.args.param
unfolding pine_of
long c = rw c.new-pine.ensures

rows_are : (c : After-or-early) → c.or-early.result ≡ first (row_rule 1 (length c.args.stream.now) (8 * draw_limit (encoded_input_len_of c.args.param))) (row_rule 2 (length c.args.share.now) (encoded_input_len_of c.args.param))
rows_are c = c.or-early.ensures ∙ (λ j. first ((c.check_len-row_1.ensures ∙ ap (λ (n : ℕ). row_rule 1 (length c.args.stream.now) (8 * draw_limit n)) (long c.before.before.before.before)) j) ((c.check_len-row_2.ensures ∙ ap (λ (n : ℕ). row_rule 2 (length c.args.share.now) n) (long c.before.before.before.before)) j))

right : (c : After-count_values) → c.or-early.result.number ≡ 0
right c = c.if-early-ne0.false

pub returns-then-inputs-ne0 : goal.returns-then-inputs-ne0
returns-then-inputs-ne0 c = inputs_refused Field64 c.args.param c.args.stream.now c.args.share.now _ c.check_param-inputs.ensures c.if-inputs-ne0.true

pub new-pine-requires : goal.new-pine-requires
new-pine-requires c = derivable_64 (passed c.before)

pub overflow_add-most : goal.overflow_add-most
overflow_add-most c = record { fits = omega (arith, long c.before.before, (sizes_64 _ (passed c.before.before.before)).encoded) }

pub overflow_mul-most : goal.overflow_mul-most
overflow_mul-most c = record { fits = omega (arith, long c.before.before, (sizes_64 _ (passed c.before.before.before)).encoded) }

pub returns-then-early-ne0 : goal.returns-then-early-ne0
returns-then-early-ne0 c = rows_refused Field64 c.args.param c.args.stream.now c.args.share.now (met c.before.before.before.before.before.before.before) _ (rows_are c.before.before.before) c.if-early-ne0.true

pub returns-then-late-ne0 : goal.returns-then-late-ne0
returns-then-late-ne0 c = draws_refused Field64 c.args.param c.args.stream.now c.args.share.now (met c.before.before.before.before.before.before.before.before.before.before.before) _ (rows_are c.before.before.before.before.before.before.before) (right c.before.before.before.before) _ c.count_values.ensures _ c.refuse_if-late.ensures c.if-late-ne0.true

pub returns : goal.returns
returns c = accepted_with Field64 c.args.param c.args.stream.now c.args.share.now (met c.before.before.before.before.before.before.before.before.before.before.before.before.before.before.before) _ (rows_are c.before.before.before.before.before.before.before.before.before.before.before) (right c.before.before.before.before.before.before.before.before) _ c.count_values.ensures _ c.refuse_if-late.ensures c.if-late-ne0.false _ c.take_values.ensures
