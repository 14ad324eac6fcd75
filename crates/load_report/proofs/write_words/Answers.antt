-- `load_report::write_words` meets its contract. Assumes nothing.
use mathlib.Core.Path.{◌≡◌, sym, ap, ◌∙◌}
use Prim.Native.Nat.{ℕ, ◌≤◌}
use native.Mathlib.Omega.{arith}
use Rattle.rules.specs.declared.Answer.{Answer}
use Rattle.rules.specs.Rules.{in_order}
use Rattle.pine.specs.declared.record.Pine.{Pine}
use Rattle.pine.specs.Record.{pine_of, encoded_input_len_of}
use Rattle.pine.proofs.Sizes.{derivable_64}
use Rattle.load_inputs.specs.Inputs.{early_rules}
use Rattle.load_report.proofs.Reported.{Room, room, inputs_passed, words_early, part_long}
use Rattle.load_report.proofs.write_words.Lts as lts
use Rattle.load_report.proofs.write_words.Reads as reads
use Rattle.load_report.proofs.write_words.Tie as tie
use Rattle.load_report.proofs.write_words.Goals as goal

abbrev Else-early-ne0 : Type 0
Else-early-ne0 = lts.Else1 tie.the-claims reads.Pre reads.Post tie.handed_clauses

abbrev After-new-pine : Type 0
After-new-pine = lts.After-new tie.the-claims reads.Pre reads.Post tie.handed_clauses

-- the rules before encoding are met
early_passed : (c : Else-early-ne0) → (in_order (early_rules c.args.seed c.args.param)).number ≡ 0
early_passed c = ap (λ (a : Answer). a.number) (sym c.check_load-early.ensures) ∙ c.if-early-ne0.false

room_of : (c : Else-early-ne0) → Room c.args.param
room_of c = let s = c in room s.args.param (inputs_passed s.args.seed s.args.param (early_passed c))

tests_are : (c : After-new-pine) → c.new-pine.result.num_wr_tests ≡ c.args.param.num_wr_tests
unfolding pine_of
tests_are c = ap (λ (r : Pine). r.num_wr_tests) c.new-pine.ensures

measurement_is : (c : After-new-pine) → c.new-pine.result.encoded_input_len ≡ encoded_input_len_of c.args.param
unfolding pine_of
measurement_is c = ap (λ (r : Pine). r.encoded_input_len) c.new-pine.ensures

tests_fit : (c : After-new-pine) → c.new-pine.result.num_wr_tests ≤ 16
tests_fit c = rw (tests_are c) (room_of c.before).tests

pub returns-then-early-ne0 : goal.returns-then-early-ne0
returns-then-early-ne0 c =
    (c.write_answer.ensures.0 ∙ words_early _ _ _ c.check_load-early.ensures c.if-early-ne0.true, omega (arith, c.write_answer.ensures.1))

pub new-pine-requires : goal.new-pine-requires
new-pine-requires c = derivable_64 (room_of c.before).accepts

pub slice_bounds-results-end : goal.slice_bounds-results-end
slice_bounds-results-end c = tests_fit c.before

pub slice_bounds-write_encoded-end : goal.slice_bounds-write_encoded-end
slice_bounds-write_encoded-end c = part_long {A = ℕ} 16 _ 0 (tests_fit c.before.before)

pub write_encoded-requires : goal.write_encoded-requires
write_encoded-requires c =
    record {
      param_value = early_passed c.before.before.before;
      m_value = (measurement_is c.before.before, sym (part_long {A = ℕ} 16 _ 0 (tests_fit c.before.before)) ∙ tests_are c.before.before);
      row_len = c.requires;
    }
