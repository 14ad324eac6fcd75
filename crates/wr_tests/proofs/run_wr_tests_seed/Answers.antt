-- `wr_tests::run_wr_tests_seed` meets its contract. Assumes nothing.
use mathlib.Core.Path.{sym}
use native.Mathlib.Nat.{le_of_eq}
use mathlib.Core.List.{List}
use Prim.Native.Nat.{ℕ}
use Rattle.pine.specs.Record.{stream_len_of}
use Rattle.wr_joint_rand.specs.WrJointRand.{wr_stream}
use Rattle.wr_joint_rand.proofs.Seeds.{is_seed}
use Rattle.pine.specs.Param.{Field64}
use Rattle.pine.proofs.Words.{words_64}
use Rattle.wr_tests.proofs.Alone.{refused, met, room, done}
use Rattle.wr_tests.proofs.run_wr_tests_seed.Lts as lts
use Rattle.wr_tests.proofs.run_wr_tests_seed.Reads as reads
use Rattle.wr_tests.proofs.run_wr_tests_seed.Tie as tie
use Rattle.wr_tests.proofs.run_wr_tests_seed.Goals as goal

abbrev Start : Type 0
Start = lts.Start tie.the-claims reads.Pre reads.Post tie.handed_clauses

-- the tests' bytes
abbrev bytes : Start → List ℕ
bytes s = wr_stream (stream_len_of s.args.param.num_wr_tests s.args.param.dimension) s.args.seed.now

pub returns-then-answer-ne0 : goal.returns-then-answer-ne0
returns-then-answer-ne0 c =
    refused Field64 c.args.param c.args.gradient.now (bytes c.before.before.before.before.before.before.before) c.args.results.now _ c.check_seeded-answer.ensures c.if-answer-ne0.true

pub run_from_seed-requires : goal.run_from_seed-requires
run_from_seed-requires c =
    let v = c.check_seeded-answer.ensures in
    let z = c.if-answer-ne0.false in
    let m = met Field64 c.args.param c.args.gradient.now (bytes c.before.before.before.before.before.before.before.before) c.args.results.now _ v z in
    let w = room Field64 c.args.param c.args.gradient.now (bytes c.before.before.before.before.before.before.before.before) c.args.results.now _ v z words_64 in
    record {
      seed_len = (is_seed _ c.args.seed.now w.some (le_of_eq (sym m.row_2)), w.tests);
      below = (m.below, w.per);
    }

pub returns : goal.returns
returns c =
    let v = c.check_seeded-answer.ensures in
    let z = c.if-answer-ne0.false in
    done Field64 c.args.param c.args.gradient.now (bytes c.before.before.before.before.before.before.before.before.before.before.before) c.args.results.now _ v z words_64 _ (rw (room Field64 c.args.param c.args.gradient.now (bytes c.before.before.before.before.before.before.before.before.before.before.before) c.args.results.now _ v z words_64).whole at c.run_from_seed.ensures)
