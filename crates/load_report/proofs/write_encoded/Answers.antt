-- `load_report::write_encoded` meets its contract. Assumes nothing.
use mathlib.Core.Path.{◌≡◌, sym, ap, ◌∙◌}
use mathlib.Core.List.{List, ◌++◌}
use Prim.Native.Nat.{ℕ, ◌≤◌}
use native.Mathlib.Omega.{arith}
use lib.ListN.{length, take, drop}
use lib.Seq.{length-take-le}
use Rattle.load_report.proofs.Reported.{Room, room, inputs_passed, words_refused, words_made, joined}
use Rattle.load_report.proofs.write_encoded.Lts as lts
use Rattle.load_report.proofs.write_encoded.Reads as reads
use Rattle.load_report.proofs.write_encoded.Tie as tie
use Rattle.load_report.proofs.write_encoded.Goals as goal

abbrev Start : Type 0
Start = lts.Start tie.the-claims reads.Pre reads.Post tie.handed_clauses

room_of : (c : Start) → Room c.args.param
room_of c = room c.args.param (inputs_passed c.args.seed c.args.param c.requires.param_value)

front_fits : (c : Start) → c.args.m ≤ length c.args.row.now
front_fits c = omega (arith, (room_of c).measurement, c.requires.m_value.0, c.requires.row_len)

pub overflow_add-end : goal.overflow_add-end
overflow_add-end c = let s = c in omega (arith, (room_of s.before.before.before).measurement, (room_of s.before.before.before).tests, s.requires.m_value.0, s.requires.m_value.1)

pub slice_bounds-encode_load-end : goal.slice_bounds-encode_load-end
slice_bounds-encode_load-end c = front_fits c.before.before.before

pub slice_bounds-encode_load-end-2 : goal.slice_bounds-encode_load-end-2
slice_bounds-encode_load-end-2 c = let s = c in sym (length-take-le s.args.m s.args.row.now (front_fits s.before.before.before.before))

pub encode_load-answer-requires : goal.encode_load-answer-requires
encode_load-answer-requires c = let s = c in inputs_passed s.args.seed s.args.param s.requires.param_value

pub returns-then-answer-ne0 : goal.returns-then-answer-ne0
returns-then-answer-ne0 c =
    let w = c in (
      w.write_answer.ensures.0
          ∙ words_refused c.args.seed c.args.param (take c.args.m c.args.row.now) c.args.results.now (length-take-le c.args.m c.args.row.now (front_fits c.before.before.before.before.before.before.before.before.before.before.before.before.before.before.before.before) ∙ c.requires.m_value.0) c.requires.m_value.1 c.requires.param_value _ _ _ c.encode_load-answer.ensures w.if-answer-ne0.true,
      omega (arith, w.write_answer.ensures.1),
    )

pub offset_bounds-row-m : goal.offset_bounds-row-m
offset_bounds-row-m c =
    omega (arith, (room_of c.before.before.before.before.before.before.before.before.before.before.before.before).measurement, c.requires.m_value.0)

pub slice_bounds-copy_row-end : goal.slice_bounds-copy_row-end
slice_bounds-copy_row-end c =
    omega (arith, (room_of c.before.before.before.before.before.before.before.before.before.before.before.before).measurement, (room_of c.before.before.before.before.before.before.before.before.before.before.before.before).tests, c.requires.m_value.0, c.requires.m_value.1, c.requires.row_len)

pub returns : goal.returns
returns c =
    let lm : length (take c.args.m c.args.row.now) ≡ c.args.m = length-take-le c.args.m c.args.row.now (front_fits c.before.before.before.before.before.before.before.before.before.before.before.before.before.before.before.before) in
    let la : length c.encode_load-answer.new.measurement ≡ c.args.m = c.encode_load-answer.auto.measurement ∙ lm in
    let lb : length c.copy_row.new.to ≡ length c.args.results.now = ap length c.copy_row.ensures ∙ c.encode_load-answer.auto.results in (
      joined c.args.m (length c.args.results.now) c.encode_load-answer.new.measurement (drop c.args.m c.args.row.now) c.copy_row.new.to la lb
          ∙ ap (λ (b : List ℕ). c.encode_load-answer.new.measurement ++ b) c.copy_row.ensures
          ∙ words_made c.args.seed c.args.param (take c.args.m c.args.row.now) c.args.results.now (lm ∙ c.requires.m_value.0) c.requires.m_value.1 c.requires.param_value _ _ _ c.encode_load-answer.ensures c.if-answer-ne0.false,
      omega (arith, (room_of c.before.before.before.before.before.before.before.before.before.before.before.before.before.before.before.before).measurement, (room_of c.before.before.before.before.before.before.before.before.before.before.before.before.before.before.before.before).tests, c.requires.m_value.0, c.requires.m_value.1),
    )
