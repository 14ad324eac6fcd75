-- `wr_tests::check_seeded` meets its contract. Assumes nothing.
use mathlib.Core.Path.{◌≡◌, sym, ap, ◌∙◌}
use mathlib.Core.List.{List}
use Prim.Native.Nat.{ℕ}
use lib.ListN.{length}
use Rattle.rules.specs.declared.Answer.{Answer}
use Rattle.pine.specs.Param.{Field64, param_answer}
use Rattle.pine.proofs.Limits.{limits, param_accepted}
use Rattle.rows.specs.Rows.{row_rule}
use Rattle.pine.specs.Record.{stream_len_of}
use Rattle.wr_joint_rand.specs.WrJointRand.{wr_stream}
use Rattle.wr_joint_rand.proofs.Seeds.{stream_some}
use Rattle.wr_tests.proofs.Alone.{tests_answer, stopped}
use Rattle.wr_tests.proofs.check_seeded.Lts as lts
use Rattle.wr_tests.proofs.check_seeded.Reads as reads
use Rattle.wr_tests.proofs.check_seeded.Tie as tie
use Rattle.wr_tests.proofs.check_seeded.Goals as goal

abbrev Start : Type 0
Start = lts.Start tie.the-claims reads.Pre reads.Post

abbrev Else-inputs-ne0 : Type 0
Else-inputs-ne0 = lts.Else1 tie.the-claims reads.Pre reads.Post

-- the tests' bytes
abbrev bytes : Start → List ℕ
bytes s = wr_stream (stream_len_of s.args.param.num_wr_tests s.args.param.dimension) s.args.seed.now

-- the inputs are accepted
passed : (c : Else-inputs-ne0) → (param_answer Field64 c.args.param).number ≡ 0
passed c = ap (λ (a : Answer). a.number) (sym c.check_param-inputs.ensures) ∙ c.if-inputs-ne0.false

pub returns-then-inputs-ne0 : goal.returns-then-inputs-ne0
returns-then-inputs-ne0 c =
    stopped Field64 c.args.param c.args.gradient.now (bytes c.before.before.before.before.before.before.before) c.args.results.now _ c.check_param-inputs.ensures c.if-inputs-ne0.true

pub stream_len-requires : goal.stream_len-requires
stream_len-requires c =
    let l = limits Field64 _ (passed c.before) in
    (l.tests.1, l.dimension.1)

pub check_row-row_2-requires : goal.check_row-row_2-requires
check_row-row_2-requires c = rw c.stream_len.ensures (stream_some Field64 _ (param_accepted Field64 _ (passed c.before.before)))

pub returns : goal.returns
returns c =
    tests_answer Field64 c.args.param c.args.gradient.now (bytes c.before.before.before.before.before.before.before.before.before.before) c.args.results.now _ _ (passed c.before.before.before.before) (c.check_row-row_2.ensures ∙ ap (λ (n : ℕ). row_rule 2 (length (wr_stream n c.args.seed.now)) n) c.stream_len.ensures) c.check_rows.ensures
