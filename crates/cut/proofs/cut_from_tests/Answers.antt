-- `cut::cut_from_tests` meets its contract. Assumes nothing.
use borrow.Author.Rules.{rules}
use mathlib.Core.Path.{◌≡◌, refl, sym, ap, subst, ◌∙◌}
use mathlib.Core.List.{List, ◌++◌}
use Prim.Native.Nat.{ℕ}
use native.Mathlib.Omega.{arith}
use lib.ListN.{length, get_or, take, drop}
use lib.Seq.{length-take-le, length_front}
use lib.Dec.{lit<}
use mir.Syntax.{w8}
use mir.Val.{Fits}
use Rattle.rules.specs.Rules.{accepted}
use Rattle.field64.specs.Field.{p64}
use Rattle.pine.specs.Param.{Field64}
use Rattle.pine.specs.Record.{stream_len_of}
use Rattle.pine.proofs.Sizes.{sizes_64}
use Rattle.rows.specs.Rows.{Below}
use Rattle.flp.specs.Encode.{elements, encode_outcome, encode_of}
use Rattle.flp.proofs.Gradient.{elements_below}
use Rattle.flp.proofs.Encoded.{measurement_below}
use Rattle.turboshake.proofs.Shake.{bytes_all}
use Rattle.sampler.specs.Sampler.{sampled, draws_rule}
use Rattle.shares.specs.Shares.{helper_stream}
use Rattle.cut.specs.Cut.{wr_stream_of}
use Rattle.cut.proofs.Cutting.{Ready, ready, draws_were, met_8, stream_of_lem, stream_whole, tests_refused, measured, accepted_with}
use Rattle.cut.proofs.cut_from_tests.Lts as lts
use Rattle.cut.proofs.cut_from_tests.Reads as reads
use Rattle.cut.proofs.cut_from_tests.Tie as tie
use Rattle.cut.proofs.cut_from_tests.Goals as goal

abbrev Start : Type 0
Start = lts.Start tie.the-claims reads.Pre reads.Post tie.handed_clauses

abbrev After-encode_with_wr_joint_rand_seed-answer : Type 0
After-encode_with_wr_joint_rand_seed-answer = lts.After-encode_with_wr_joint_rand_seed tie.the-claims reads.Pre reads.Post tie.handed_clauses

ready_of : (s : Start) → Ready Field64 s.args.param s.args.gradient.now s.args.nonce.now s.args.seeds.now s.args.leader.now s.args.helper.now s.args.given.now (met_8 Field64 s.args.param s.args.gradient.now s.args.nonce.now s.args.seeds.now s.args.leader.now s.args.helper.now s.args.given.now s.requires.met_up_to)
ready_of s = ready Field64 s.args.param s.args.gradient.now s.args.nonce.now s.args.seeds.now s.args.leader.now s.args.helper.now s.args.given.now (met_8 Field64 s.args.param s.args.gradient.now s.args.nonce.now s.args.seeds.now s.args.leader.now s.args.helper.now s.args.given.now s.requires.met_up_to)

-- the row for the tests' results
results : Start → List ℕ
results s = take s.args.param.num_wr_tests s.args.helper.now

results_long : (s : Start) → length (results s) ≡ s.args.param.num_wr_tests
unfolding results
results_long s = length-take-le s.args.param.num_wr_tests s.args.helper.now (ready_of s).tests

stream_is : (s : Start) → length (wr_stream_of Field64 s.args.param s.args.gradient.now s.args.nonce.now s.args.seeds.now) ≡ stream_len_of s.args.param.num_wr_tests s.args.param.dimension
stream_is s =
    let fits : (j : ℕ) → Fits w8 (get_or s.args.wr j 0) = λ j. search rules in
    let n : length s.args.wr ≡ 16 = search rules in
    stream_whole Field64 s.args.param s.args.gradient.now s.args.nonce.now s.args.seeds.now s.args.leader.now s.args.helper.now s.args.given.now s.requires.met_up_to s.args.wr s.requires.wr_value n (bytes_all s.args.wr (λ j h. (fits j).fits))

-- what encoding gave
call : (c : After-encode_with_wr_joint_rand_seed-answer) → encode_outcome c.encode_with_wr_joint_rand_seed-answer.result c.encode_with_wr_joint_rand_seed-answer.new.measurement c.encode_with_wr_joint_rand_seed-answer.new.results ≡ encode_of Field64 c.args.param c.args.gradient.now (wr_stream_of Field64 c.args.param c.args.gradient.now c.args.nonce.now c.args.seeds.now) c.args.leader.now (results c.before.before.before.before.before.before.before.before.before.before)
unfolding results
call c = c.encode_with_wr_joint_rand_seed-answer.ensures ∙ ap (λ (b : List ℕ). encode_of Field64 c.args.param c.args.gradient.now b c.args.leader.now (results c.before.before.before.before.before.before.before.before.before.before)) (stream_of_lem Field64 c.args.param c.args.gradient.now c.args.nonce.now c.args.seeds.now c.args.leader.now c.args.helper.now c.args.given.now c.requires.met_up_to c.args.wr c.requires.wr_value)

-- the helper's row is as long as before
helper_long : (c : After-encode_with_wr_joint_rand_seed-answer) → length (c.encode_with_wr_joint_rand_seed-answer.new.results ++ drop c.args.param.num_wr_tests c.args.helper.now) ≡ length c.args.helper.now
helper_long c = length_front c.args.helper.now c.encode_with_wr_joint_rand_seed-answer.new.results c.args.param.num_wr_tests c.encode_with_wr_joint_rand_seed-answer.auto.results

pub returns-then-answer-ne0 : goal.returns-then-answer-ne0
unfolding results
returns-then-answer-ne0 c = tests_refused c.args.param c.args.gradient.now c.args.nonce.now c.args.seeds.now c.args.leader.now c.args.helper.now c.args.given.now c.requires.met_up_to (results c.before.before.before.before.before.before.before.before.before.before.before.before.before.before.before.before.before) (results_long c.before.before.before.before.before.before.before.before.before.before.before.before.before.before.before.before.before) (stream_is c.before.before.before.before.before.before.before.before.before.before.before.before.before.before.before.before.before) _ _ _ (call c.before.before.before.before.before.before.before) c.args.param.num_wr_tests refl c.if-answer-ne0.true

pub cut_measurement-requires : goal.cut_measurement-requires
cut_measurement-requires c =
    let r = ready_of c.before.before.before.before.before.before.before.before.before.before.before.before.before.before.before.before.before.before.before.before in
    let m = measured c.args.param c.args.gradient.now c.args.nonce.now c.args.seeds.now c.args.leader.now c.args.helper.now c.args.given.now c.requires.met_up_to (results c.before.before.before.before.before.before.before.before.before.before.before.before.before.before.before.before.before.before.before.before) (results_long c.before.before.before.before.before.before.before.before.before.before.before.before.before.before.before.before.before.before.before.before) (stream_is c.before.before.before.before.before.before.before.before.before.before.before.before.before.before.before.before.before.before.before.before) _ _ _ (call c.before.before.before.before.before.before.before.before.before.before) c.if-answer-ne0.false in
    let xs = elements p64 c.args.param.frac_bits c.args.gradient.now in
    let stream = wr_stream_of Field64 c.args.param c.args.gradient.now c.args.nonce.now c.args.seeds.now in
    let below = subst (Below p64) (sym m) (measurement_below p64 (omega arith) c.args.param stream xs (elements_below p64 c.args.param.frac_bits (lit< tt) c.args.gradient.now)) in
    let long = helper_long c.before.before.before.before.before.before.before.before.before.before ∙ r.helper_long in
    let draws = subst (λ (k : ℕ). draws_rule p64 k (helper_stream k c.args.seeds.now) ≡ accepted) (sym long) (draws_were Field64 c.args.param c.args.gradient.now c.args.nonce.now c.args.seeds.now c.args.leader.now c.args.helper.now c.args.given.now c.requires.met_up_to) in
    record {
      seeds_len = (r.seeds_long, r.given_long);
      below = (below, (c.encode_with_wr_joint_rand_seed-answer.auto.measurement ∙ r.leader_long ∙ sym long, omega (arith, long, (sizes_64 c.args.param r.inputs).encoded)));
      seeds_value = draws;
    }

pub returns : goal.returns
returns c =
    let drawn = c.cut_measurement.ensures.helper_after ∙ ap (λ (k : ℕ). sampled p64 k (helper_stream k c.args.seeds.now)) (helper_long c.before.before.before.before.before.before.before.before.before.before.before.before.before.before.before.before.before) in
    accepted_with c.args.param c.args.gradient.now c.args.nonce.now c.args.seeds.now c.args.leader.now c.args.helper.now c.args.given.now c.requires.met_up_to (results c.before.before.before.before.before.before.before.before.before.before.before.before.before.before.before.before.before.before.before.before.before.before.before.before.before.before.before) (results_long c.before.before.before.before.before.before.before.before.before.before.before.before.before.before.before.before.before.before.before.before.before.before.before.before.before.before.before) (stream_is c.before.before.before.before.before.before.before.before.before.before.before.before.before.before.before.before.before.before.before.before.before.before.before.before.before.before.before) _ _ _ (call c.before.before.before.before.before.before.before.before.before.before.before.before.before.before.before.before.before) c.if-answer-ne0.false c.args.wr _ _ _ c.requires.wr_value drawn c.cut_measurement.ensures.leader_after c.cut_measurement.ensures.given_after

pub slice_bounds-encode_with_wr_joint_rand_seed-end-2 : goal.slice_bounds-encode_with_wr_joint_rand_seed-end-2
slice_bounds-encode_with_wr_joint_rand_seed-end-2 c = (ready_of c.before.before.before.before.before.before.before.before.before).tests

pub slice_bounds-encode_with_wr_joint_rand_seed-end-3 : goal.slice_bounds-encode_with_wr_joint_rand_seed-end-3
unfolding results
slice_bounds-encode_with_wr_joint_rand_seed-end-3 c = sym (results_long c.before.before.before.before.before.before.before.before.before.before)
