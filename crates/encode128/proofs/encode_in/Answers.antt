-- `encode128::encode_in` meets its contract. Assumes nothing.
use mathlib.Core.Path.{◌≡◌, sym, ap, ◌∙◌}
use Prim.Native.Nat.{ℕ}
use lib.ListN.{length, take}
use Rattle.rules.specs.declared.Answer.{Answer}
use Rattle.rules.specs.Rules.{accepted, in_order}
use Rattle.pine.specs.Param.{param_answer}
use Rattle.pine.specs.Record.{FromDerivable}
use Rattle.pine.proofs.Limits.{param_accepted}
use Rattle.rows.specs.Rows.{row_rule}
use Rattle.flp.specs.Encode.{true_sq_norm_of, encode_rules}
use Rattle.params128.specs.Field128.{Field128}
use Rattle.params128.proofs.Limits.{derivable_128}
use Rattle.encode.proofs.Encoding.{fraction_is, stream_is, early_is, early_refused, inputs_refused, early_met}
use Rattle.encode128.proofs.Found.{met_rules, tests, asked, below, exact, room_for, whole}
use Rattle.encode128.proofs.encode_in.Lts as lts
use Rattle.encode128.proofs.encode_in.Reads as reads
use Rattle.encode128.proofs.encode_in.Tie as tie
use Rattle.encode128.proofs.encode_in.Goals as goal

abbrev Else-inputs-ne0 : Type 0
Else-inputs-ne0 = lts.Else1 tie.the-claims reads.Pre reads.Post tie.handed_clauses

abbrev After-new-pine : Type 0
After-new-pine = lts.After-new tie.the-claims reads.Pre reads.Post tie.handed_clauses

abbrev After-check_rows-early : Type 0
After-check_rows-early = lts.After-check_rows tie.the-claims reads.Pre reads.Post tie.handed_clauses

abbrev Else-early-ne0 : Type 0
Else-early-ne0 = lts.Else2 tie.the-claims reads.Pre reads.Post tie.handed_clauses

-- the inputs are accepted
passed : (c : Else-inputs-ne0) → param_answer Field128 c.args.param ≡ accepted
passed c = param_accepted Field128 _ (ap (λ (a : Answer). a.number) (sym c.check_param-inputs.ensures) ∙ c.if-inputs-ne0.false)

-- so the record was derived from them
derived : (c : After-new-pine) → FromDerivable c.new-pine.result
derived c = record { param = _; derivable = derivable_128 (passed c.before); is = c.new-pine.ensures }

-- the answer by the rules up to 9
early : (c : After-check_rows-early) → c.check_rows-early.result ≡ in_order (take 6 (encode_rules Field128 c.args.param c.args.gradient.now c.args.stream.now c.args.measurement.now c.args.results.now))
early c =
    early_is Field128 c.args.param c.args.gradient.now c.args.stream.now c.args.measurement.now c.args.results.now _ c.new-pine.ensures _ _ (ap (λ (a : Answer). a.number) (passed c.before.before.before.before)) (c.check_len-row_2.ensures ∙ ap (λ (n : ℕ). row_rule 2 (length c.args.stream.now) n) (c.stream_len.ensures ∙ stream_is _ _ c.new-pine.ensures)) c.check_rows-early.ensures

-- they are met
met : (c : Else-early-ne0) → in_order (take 6 (encode_rules Field128 c.args.param c.args.gradient.now c.args.stream.now c.args.measurement.now c.args.results.now)) ≡ accepted
met c =
    early_met Field128 c.args.param c.args.gradient.now c.args.stream.now c.args.measurement.now c.args.results.now _ (early c.before.before) c.if-early-ne0.false

pub returns-then-inputs-ne0 : goal.returns-then-inputs-ne0
returns-then-inputs-ne0 c =
    inputs_refused Field128 c.args.param c.args.gradient.now c.args.stream.now c.args.measurement.now c.args.results.now _ c.check_param-inputs.ensures c.if-inputs-ne0.true

pub new-pine-requires : goal.new-pine-requires
new-pine-requires c = derivable_128 (passed c.before)

pub stream_len-requires : goal.stream_len-requires
stream_len-requires c = derived c.before

pub check_rows-early-requires : goal.check_rows-early-requires
check_rows-early-requires c = derived c.before.before.before

pub returns-then-early-ne0 : goal.returns-then-early-ne0
returns-then-early-ne0 c =
    early_refused Field128 c.args.param c.args.gradient.now c.args.stream.now c.args.measurement.now c.args.results.now _ (early c.before.before.before) c.if-early-ne0.true

pub norm_and_tests-norm-requires : goal.norm_and_tests-norm-requires
norm_and_tests-norm-requires c =
    let both = asked c.args.param c.args.gradient.now c.args.stream.now c.args.measurement.now c.args.results.now c.args.found.now (met c.before.before) c.requires.0 _ c.new-pine.ensures in
    record {
      usable = both.0;
      scale_value = both.1.0;
      per_in_bounds = both.1.1.0;
      whole = both.1.1.1;
    }

pub finish-requires : goal.finish-requires
finish-requires c =
    let n = c.new-pine in
    let t = c.norm_and_tests-norm in
    let f = fraction_is c.args.param _ n.ensures in
    let h = met_rules c.args.param c.args.gradient.now c.args.stream.now c.args.measurement.now c.args.results.now c.args.found.now (met c.before.before.before.before.before.before.before.before) c.requires.0 in
    let kept = t.auto.results in
    record {
      pine_value = (n.ensures, h.inputs);
      usable = (h.usable, t.ensures.result_value ∙ ap (λ (f : ℕ). true_sq_norm_of f c.args.gradient.now) f);
      below = (below c.args.param c.args.gradient.now c.args.stream.now c.args.measurement.now c.args.results.now c.args.found.now (met c.before.before.before.before.before.before.before.before) c.requires.0 _ f _ kept t.ensures.results_after, exact c.args.param c.args.gradient.now c.args.stream.now c.args.measurement.now c.args.results.now c.args.found.now (met c.before.before.before.before.before.before.before.before) c.requires.0 _ f _ kept t.ensures.results_after);
      rooms = (room_for c.args.param c.args.gradient.now c.args.stream.now c.args.measurement.now c.args.results.now c.args.found.now (met c.before.before.before.before.before.before.before.before) c.requires.0 _ f _ kept t.ensures.results_after, c.requires.1 ∙ tests c.args.param c.args.gradient.now c.args.stream.now c.args.measurement.now c.args.results.now c.args.found.now (met c.before.before.before.before.before.before.before.before) c.requires.0);
    }

pub returns : goal.returns
returns c =
    let n = c.new-pine in
    let t = c.norm_and_tests-norm in
    c.finish.ensures ∙ whole c.args.param c.args.gradient.now c.args.stream.now c.args.measurement.now c.args.results.now c.args.found.now (met c.before.before.before.before.before.before.before.before.before.before.before.before.before.before.before) c.requires.0 _ (fraction_is c.args.param _ n.ensures) _ t.auto.results t.ensures.results_after
