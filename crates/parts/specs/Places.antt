-- A part of a row by its place in it, and by the derived record. Assumes nothing.
use Rattle.std.specs.Prelude.{ℕ, cond, List, take, drop, eqb}
use Rattle.rules.specs.declared.Answer.{Answer}
use Rattle.rules.specs.Rules.{in_order}
use Rattle.pine.specs.declared.PineParam.{PineParam}
use Rattle.pine.specs.declared.record.Pine.{Pine}
use Rattle.pine.specs.Param.{Field}
use Rattle.pine.specs.Record.{pine_of, no_pine}
use Rattle.rows.specs.Outcome.{Outcome, outcome}
use Rattle.flp.specs.Circuits.{part_rules}
use Rattle.parts.specs.declared.Part.{Part}
use Rattle.parts.specs.declared.Verdict.{Verdict}

-- beside a refusal, both numbers are 0
abbrev pub part_at : Answer → (start len : ℕ) → Part
part_at a start len = record { answer = a; start = cond (eqb a.number 0) start 0; len = cond (eqb a.number 0) len 0 }

-- the elements that it names, with its answer
abbrev pub named : Part → (row : List ℕ) → Outcome
named part row = outcome part.answer (take part.len (drop part.start row))

-- the answer of the rules, and the record: beside a refusal it is all 0
abbrev pub verdict_of : Field → PineParam → (full : List ℕ) → Verdict
verdict_of F i full = record { answer = in_order (part_rules F i full); pine = cond (eqb (in_order (part_rules F i full)).number 0) (pine_of i) no_pine }

-- the parts, as the record says where they lie
module _ (r : Pine) (full : List ℕ) where
  abbrev pub gradient_in : List ℕ
  gradient_in = take r.dimension full

  abbrev pub checked_in : List ℕ
  checked_in = take r.bit_checked_len (drop r.dimension full)

  abbrev pub results_in : List ℕ
  results_in = take r.num_wr_tests (drop r.encoded_input_len full)
