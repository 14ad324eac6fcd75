-- `encode::encode_in` meets its contract. Assumes nothing.
use mathlib.Core.Path.{◌≡◌, sym, subst, ap, ◌∙◌}
use Prim.Native.Nat.{ℕ}
use mathlib.Core.List.{List}
use native.Mathlib.Nat.{le_of_eq}
use native.Mathlib.Omega.{arith}
use lib.ListN.{length, take}
use Rattle.rules.specs.declared.Answer.{Answer}
use Rattle.rules.specs.Rules.{accepted, in_order}
use Rattle.field64.specs.Field.{p64}
use Rattle.doubles.specs.Doubles.{floor_limit64}
use Rattle.pine.specs.Param.{Field64, param_answer}
use Rattle.pine.specs.Record.{stream_len_of}
use Rattle.wr_joint_rand.proofs.Seeds.{stream_some}
use Rattle.wr_joint_rand.specs.WrJointRand.{stream_from}
use Rattle.pine.proofs.Limits.{param_accepted}
use Rattle.pine.proofs.Sizes.{derivable_64, derived_64, scale_is}
use Rattle.pine.proofs.Words.{words_64}
use Rattle.rows.specs.Rows.{row_rule}
use Rattle.flp.specs.Encode.{true_sq_norm_of, encode_rules}
use Rattle.flp.proofs.Tests.{results_below}
use Rattle.measurement.specs.Parts.{Usable}
use Rattle.encode.proofs.Encoding.{fraction_is, stream_is, early_is, early_refused, inputs_refused, early_met, ready, few, room, rooms, late_is}
use Rattle.encode.proofs.encode_in.Lts as lts
use Rattle.encode.proofs.encode_in.Reads as reads
use Rattle.encode.proofs.encode_in.Tie as tie
use Rattle.encode.proofs.encode_in.Goals as goal

abbrev Start : Type 0
Start = lts.Start tie.the-claims reads.Pre reads.Post tie.handed_clauses

abbrev Else-inputs-ne0 : Type 0
Else-inputs-ne0 = lts.Else1 tie.the-claims reads.Pre reads.Post tie.handed_clauses

abbrev After-check_rows-early : Type 0
After-check_rows-early = lts.After-check_rows tie.the-claims reads.Pre reads.Post tie.handed_clauses

abbrev Else-early-ne0 : Type 0
Else-early-ne0 = lts.Else2 tie.the-claims reads.Pre reads.Post tie.handed_clauses

-- the tests' bytes
abbrev bytes : Start → List ℕ
bytes s = stream_from s.args.seeded (stream_len_of s.args.param.num_wr_tests s.args.param.dimension) s.args.row.now

-- the inputs are accepted
passed : (c : Else-inputs-ne0) → param_answer Field64 c.args.param ≡ accepted
passed c = param_accepted Field64 _ (ap (λ (a : Answer). a.number) (sym c.check_param-inputs.ensures) ∙ c.if-inputs-ne0.false)

-- the answer by the rules up to 9
early : (c : After-check_rows-early) → let s = c in c.check_rows-early.result ≡ in_order (take 6 (encode_rules Field64 s.args.param s.args.gradient.now (bytes s.before.before.before.before.before.before.before.before.before.before.before.before) s.args.measurement.now s.args.results.now))
early c =
    early_is Field64 c.args.param c.args.gradient.now (bytes c.before.before.before.before.before.before.before.before.before.before.before.before) c.args.measurement.now c.args.results.now _ c.new-pine.ensures _ _ (ap (λ (a : Answer). a.number) (passed c.before.before.before.before)) (c.check_row-row_2.ensures ∙ ap (λ (n : ℕ). row_rule 2 (length (stream_from c.args.seeded n c.args.row.now)) n) (c.stream_len.ensures ∙ stream_is _ _ c.new-pine.ensures)) c.check_rows-early.ensures

-- they are met
met : (c : Else-early-ne0) → let s = c in in_order (take 6 (encode_rules Field64 s.args.param s.args.gradient.now (bytes s.before.before.before.before.before.before.before.before.before.before.before.before.before.before) s.args.measurement.now s.args.results.now)) ≡ accepted
met c =
    early_met Field64 c.args.param c.args.gradient.now (bytes c.before.before.before.before.before.before.before.before.before.before.before.before.before.before) c.args.measurement.now c.args.results.now _ (early c.before.before) c.if-early-ne0.false

-- so the row for the results is as long as theirs
whole : (c : Else-early-ne0) → length c.args.found.now ≡ length c.args.results.now
whole c =
    omega (arith, c.requires, few Field64 c.args.param c.args.gradient.now (bytes c.before.before.before.before.before.before.before.before.before.before.before.before.before.before) c.args.measurement.now c.args.results.now (met c) words_64)

pub returns-then-inputs-ne0 : goal.returns-then-inputs-ne0
returns-then-inputs-ne0 c =
    inputs_refused Field64 c.args.param c.args.gradient.now (bytes c.before.before.before.before.before.before.before.before.before) c.args.measurement.now c.args.results.now _ c.check_param-inputs.ensures c.if-inputs-ne0.true

pub new-pine-requires : goal.new-pine-requires
new-pine-requires c = derivable_64 (passed c.before)

pub stream_len-requires : goal.stream_len-requires
stream_len-requires c = derived_64 (record { param = _; accepts = passed c.before.before; is = c.new-pine.ensures })

pub check_row-row_2-requires : goal.check_row-row_2-requires
check_row-row_2-requires c = rw (c.stream_len.ensures ∙ stream_is _ _ c.new-pine.ensures) (stream_some Field64 _ (passed c.before.before.before))

pub check_rows-early-requires : goal.check_rows-early-requires
check_rows-early-requires c = scale_is _ _ c.new-pine.ensures

pub returns-then-early-ne0 : goal.returns-then-early-ne0
returns-then-early-ne0 c =
    early_refused Field64 c.args.param c.args.gradient.now (bytes c.before.before.before.before.before.before.before.before.before.before.before.before.before.before.before) c.args.measurement.now c.args.results.now _ (early c.before.before.before) c.if-early-ne0.true

pub norm_and_tests-norm-requires : goal.norm_and_tests-norm-requires
norm_and_tests-norm-requires c =
    let n = c.new-pine in
    let h = ready Field64 c.args.param c.args.gradient.now (bytes c.before.before.before.before.before.before.before.before.before.before.before.before.before.before.before.before) c.args.measurement.now c.args.results.now (met c.before.before) in
    let w = room Field64 c.args.param c.args.gradient.now (bytes c.before.before.before.before.before.before.before.before.before.before.before.before.before.before.before.before) c.args.measurement.now c.args.results.now (met c.before.before) words_64 (length c.args.found.now) (whole c.before.before) in
    record {
      usable = (subst (λ (f : ℕ). Usable floor_limit64 f c.args.gradient.now) (sym (fraction_is c.args.param _ n.ensures)) h.usable, scale_is c.args.param _ n.ensures);
      per_in_bounds = rw w.whole (le_of_eq (sym h.stream_long));
      results_nonzero = w.tests;
      per_nonzero = w.per;
    }

pub finish-requires : goal.finish-requires
finish-requires c =
    let n = c.new-pine in
    let h = ready Field64 c.args.param c.args.gradient.now (bytes c.before.before.before.before.before.before.before.before.before.before.before.before.before.before.before.before.before.before.before.before.before) c.args.measurement.now c.args.results.now (met c.before.before.before.before.before.before.before) in
    let t = c.norm_and_tests-norm in
    record {
      pine_value = (n.ensures, h.inputs);
      usable = (h.usable, t.ensures.result_value ∙ ap (λ (f : ℕ). true_sq_norm_of f c.args.gradient.now) (fraction_is c.args.param _ n.ensures));
      below = (results_below p64 (omega arith) _ _ _ _ _ t.ensures.results_after, rooms Field64 c.args.param c.args.gradient.now (bytes c.before.before.before.before.before.before.before.before.before.before.before.before.before.before.before.before.before.before.before.before.before) c.args.measurement.now c.args.results.now (met c.before.before.before.before.before.before.before) words_64 t.new.results (t.auto.results ∙ whole c.before.before.before.before.before.before.before));
    }

pub returns : goal.returns
returns c =
    let n = c.new-pine in
    let t = c.norm_and_tests-norm in
    let w = room Field64 c.args.param c.args.gradient.now (bytes c.before.before.before.before.before.before.before.before.before.before.before.before.before.before.before.before.before.before.before.before.before.before.before.before.before.before) c.args.measurement.now c.args.results.now (met c.before.before.before.before.before.before.before.before.before.before.before.before) words_64 (length c.args.found.now) (whole c.before.before.before.before.before.before.before.before.before.before.before.before) in
    c.finish.ensures ∙ late_is Field64 c.args.param c.args.gradient.now (bytes c.before.before.before.before.before.before.before.before.before.before.before.before.before.before.before.before.before.before.before.before.before.before.before.before.before.before) c.args.measurement.now c.args.results.now (met c.before.before.before.before.before.before.before.before.before.before.before.before) words_64 _ (length c.args.found.now) _ (whole c.before.before.before.before.before.before.before.before.before.before.before.before) (fraction_is c.args.param _ n.ensures) (rw w.whole at t.ensures.results_after)
