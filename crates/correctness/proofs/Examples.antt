-- Lists of calls run, with refused ones and withdrawals in them, and reports by either rule of the tests: what the statements ask can be met. Assumes nothing.
use mathlib.Core.Path.{◌≡◌, refl, ap, subst}
use mathlib.Core.Bool.{Bool, true, false}
use mathlib.Core.List.{List, [], ◌∷◌}
use Prim.Native.Nat.{ℕ, ◌<◌, ◌-◌}
use native.Mathlib.Omega.{arith}
use lib.IntN.{pos, negsuc, ◌+ℤ◌}
use lib.ListN.{get_or, length, take, replicate}
use lib.Dec.{lit≤}
use lib.Ieee.{of_bits, round, of_int, div}
use Rattle.correctness.proofs.Correctness.{correctness_64, decodable_64}
use Rattle.correctness.proofs.Table.{table}
use Rattle.correctness.specs.Correctness.{Report, TestsAdd, CircuitsZero}
use Rattle.correctness.specs.Table.{param, narrow, none, one, two, three, large}
use Rattle.pine.proofs.Words.{words_64}
use Rattle.rows.proofs.Elements.{elements_below}
use Rattle.field64.specs.Field.{p64}
use Rattle.doubles.specs.Doubles.{mod_p, floor_div, floor_of, plus_zero}
use Rattle.pine.specs.declared.PineParam.{PineParam}
use Rattle.pine.specs.declared.WrTestRule.TheVariants.{Enough}
use Rattle.pine.specs.Param.{Field64, param_rules, param_answer, standard}
use Rattle.rows.specs.Rows.{add_rows, elements_rule}
use Rattle.vdaf.specs.Aggregates.{empty_answer, empty_of, accumulate_answer, accumulate_of, subtract_of, unshard_of}
use Rattle.correctness.specs.Tally.{eq_row, count, Tally, nothing, Call, Aggregates, step, run, Begun, FieldRow, Each, Joined}
use Rattle.correctness.proofs.Cut.{Cut, centred_number}
use Rattle.correctness.specs.Correctness.{sumℤ}
use Rattle.correctness.proofs.Aggregation.{aggregation}
use Rattle.correctness.proofs.Counts.{eq_row_true}
use Rattle.correctness.proofs.Undo.{withdrawal}
use Rattle.rules.specs.declared.Answer.{Answer}

abbrev with_dimension : ℕ → PineParam
with_dimension d = standard 1 d 0 1 1 1 1

abbrev start : Aggregates
start k = record { row = 0 ∷ 0 ∷ []; tally = nothing }

-- what the rows held before does not matter
begun : (k : ℕ) → Begun Field64 2 (start k)
unfolding empty_of empty_answer param_answer param_rules
begun k = record { inputs = with_dimension 2; found = 77 ∷ 18446744069414584329 ∷ []; long = refl; call = refl; none = λ r. refl }

field_row : (a b : ℕ) → a < p64 → b < p64 → FieldRow p64 2 (a ∷ b ∷ [])
field_row a b h k = record { long = refl; below = (h, (k, tt)) }

-- -3 and 5, cut twice
abbrev first_cut : Cut p64 2
first_cut = record {
  whole = 18446744069414584318 ∷ 5 ∷ [];
  left = 10 ∷ 5 ∷ [];
  right = 18446744069414584308 ∷ 0 ∷ [];
  left_row = field_row 10 5 (omega arith) (omega arith);
  right_row = field_row 18446744069414584308 0 (omega arith) (omega arith);
  adds = refl;
  number = λ j. negsuc 2;
}

abbrev second_cut : Cut p64 2
second_cut = record {
  whole = 18446744069414584318 ∷ 5 ∷ [];
  left = 1 ∷ 18446744069414584320 ∷ [];
  right = 18446744069414584317 ∷ 6 ∷ [];
  left_row = field_row 1 18446744069414584320 (omega arith) (omega arith);
  right_row = field_row 18446744069414584317 6 (omega arith) (omega arith);
  adds = refl;
  number = λ j. negsuc 2;
}

-- what holds of the rows of a list, and of every other row, holds of every row
by_rows : (P : List ℕ → Type 0) (r : List ℕ) (rows : List (List ℕ)) → Each P rows → (Each (λ x. eq_row x r ≡ false) rows → P r) → P r
by_rows P r [] f g = g tt
by_rows P r (x ∷ rows) f g = go (eq_row x r) refl (λ e. by_rows P r rows f.1 (λ h. g (e, h)))
  where
    go : (t : Bool) → eq_row x r ≡ t → (eq_row x r ≡ false → P r) → P r
    go true e k = subst P (eq_row_true x r e) f.0
    go false e k = k e

pub joins : (t u : Tally) (parts rows : List (List ℕ)) → Each (λ r. t r +ℤ u r ≡ pos (count r parts)) rows → ((r : List ℕ) → Each (λ x. eq_row x r ≡ false) rows → t r +ℤ u r ≡ pos (count r parts)) → Joined t u parts
joins t u parts rows f g r = by_rows (λ r. t r +ℤ u r ≡ pos (count r parts)) r rows f (g r)

abbrev a_row : (a b : ℕ) → List ℕ
a_row a b = a ∷ b ∷ []

-- aggregate 0 gathers the shares of one side over aggregate 7, with a share too long, one with an element p, other inputs and a wrong dimension in between; a share is added and taken out,
-- and one, never added there, taken out that aggregate 1 holds; aggregate 7 comes in twice and goes once
abbrev calls : List Call
calls =
    Call.accumulate 0 (with_dimension 2) (a_row 3 4)
    ∷ Call.empty 0 (with_dimension 3)
    ∷ Call.empty 0 (with_dimension 2)
    ∷ Call.accumulate 0 (with_dimension 2) (1 ∷ 2 ∷ 3 ∷ [])
    ∷ Call.accumulate 0 (with_dimension 2) (a_row 1 18446744069414584321)
    ∷ Call.accumulate 0 (with_dimension 2) (a_row 8 9)
    ∷ Call.subtract 0 (with_dimension 2) (a_row 5 6)
    ∷ Call.accumulate 7 (with_dimension 2) (a_row 1 18446744069414584320)
    ∷ Call.merge 0 (with_dimension 2) 7
    ∷ Call.unmerge 0 (with_dimension 2) 7
    ∷ Call.accumulate 7 (with_dimension 2) (a_row 10 5)
    ∷ Call.merge 0 (with_dimension 2) 7
    ∷ Call.merge 0 (with_dimension 0) 7
    ∷ Call.subtract 0 (with_dimension 0) (a_row 10 5)
    ∷ Call.subtract 0 (with_dimension 2) (a_row 8 9)
    ∷ Call.accumulate 1 (with_dimension 2) (a_row 18446744069414584308 0)
    ∷ Call.accumulate 1 (with_dimension 2) (a_row 5 6)
    ∷ Call.accumulate 1 (with_dimension 2) (a_row 18446744069414584317 6)
    ∷ []

record Ran : Type 0 where
  row_0 : (run Field64 start calls 0).row ≡ a_row 6 18446744069414584319
  row_1 : (run Field64 start calls 1).row ≡ a_row 18446744069414584309 12
  -- added once, added and taken out, taken out though never added, refused
  once : (run Field64 start calls 0).tally (a_row 10 5) ≡ pos 1
  out : (run Field64 start calls 0).tally (a_row 8 9) ≡ pos 0
  minus_one : (run Field64 start calls 0).tally (a_row 5 6) ≡ negsuc 0
  never : (run Field64 start calls 0).tally (a_row 1 18446744069414584321) ≡ pos 0
  -- cleared by emptying; in another aggregate that came twice and went once; still in that one
  cleared : (run Field64 start calls 0).tally (a_row 3 4) ≡ pos 0
  brought_once : (run Field64 start calls 0).tally (a_row 1 18446744069414584320) ≡ pos 1
  others_own : (run Field64 start calls 7).tally (a_row 1 18446744069414584320) ≡ pos 1

ran : Ran
unfolding run step empty_of empty_answer accumulate_of accumulate_answer subtract_of param_answer param_rules
ran = record { row_0 = refl; row_1 = refl; once = refl; out = refl; minus_one = refl; never = refl; cleared = refl; brought_once = refl; others_own = refl }

abbrev parts : List (List ℕ)
parts = a_row 1 18446744069414584320 ∷ a_row 18446744069414584317 6 ∷ a_row 10 5 ∷ a_row 18446744069414584308 0 ∷ []

-- joined, the two tallies are the shares of the two reports
joined_tallies : Joined (run Field64 start calls 0).tally (run Field64 start calls 1).tally parts
unfolding run step empty_of empty_answer accumulate_of accumulate_answer subtract_of param_answer param_rules
joined_tallies =
    joins (run Field64 start calls 0).tally (run Field64 start calls 1).tally parts (a_row 8 9 ∷ a_row 5 6 ∷ parts) (refl, (refl, (refl, (refl, (refl, (refl, tt)))))) (λ r e. rw (e.0, e.1.0, e.1.1.0, e.1.1.1.0, e.1.1.1.1.0, e.1.1.1.1.1.0))

-- by the theorem: element 0 of the two aggregates reads as -3 + -3
reads_0 : centred_number p64 (get_or (add_rows p64 (run Field64 start calls 0).row (run Field64 start calls 1).row) 0 0) ≡ negsuc 5
unfolding sumℤ mod_p
reads_0 = (aggregation Field64 words_64 (omega arith) 2 start begun calls (second_cut ∷ first_cut ∷ [])).reads 0 1 joined_tallies 0 (omega arith) (refl, (refl, tt)) (omega arith)

seven : ◌≡◌ {A = ℕ} 7 0 → ⊥
seven e = omega arith

-- a share added, and withdrawn after calls on this aggregate and others, one of them a refused emptying: by the law, as if neither had been made
undone : run Field64 start (Call.accumulate 0 (with_dimension 2) (a_row 8 9) ∷ Call.merge 0 (with_dimension 2) 7 ∷ Call.empty 0 (with_dimension 3) ∷ Call.empty 1 (with_dimension 2) ∷ Call.subtract 0 (with_dimension 2) (a_row 8 9) ∷ Call.merge 1 (with_dimension 2) 0 ∷ [])
    ≡ run Field64 start (Call.merge 0 (with_dimension 2) 7 ∷ Call.empty 0 (with_dimension 3) ∷ Call.empty 1 (with_dimension 2) ∷ Call.merge 1 (with_dimension 2) 0 ∷ [])
unfolding empty_of empty_answer accumulate_of accumulate_answer param_answer param_rules
undone =
    (withdrawal.calls Field64 (omega arith) words_64 2 start begun 0 [] (Call.merge 0 (with_dimension 2) 7 ∷ Call.empty 0 (with_dimension 3) ∷ Call.empty 1 (with_dimension 2) ∷ []) (Call.merge 1 (with_dimension 2) 0 ∷ [])
    (λ _ e. omega arith, (λ q. absurd (seven (ap (λ (a : Answer). a.number) q)), (λ _ e. omega arith, tt)))).withdrawn (with_dimension 2) (with_dimension 2) (a_row 8 9) refl refl

-- an aggregate added, and an equal row taken out as a share, after a call on that other aggregate: by the law, the rows are as if neither had been made
row_undone : (n : ℕ)
    → (run Field64 start (Call.accumulate 7 (with_dimension 2) (a_row 8 9) ∷ Call.merge 0 (with_dimension 2) 7 ∷ Call.accumulate 7 (with_dimension 2) (a_row 1 2) ∷ Call.subtract 0 (with_dimension 2) (a_row 8 9) ∷ []) n).row
    ≡ (run Field64 start (Call.accumulate 7 (with_dimension 2) (a_row 8 9) ∷ Call.accumulate 7 (with_dimension 2) (a_row 1 2) ∷ []) n).row
unfolding run step accumulate_of accumulate_answer param_answer param_rules
row_undone =
    (withdrawal.calls Field64 (omega arith) words_64 2 start begun 0 (Call.accumulate 7 (with_dimension 2) (a_row 8 9) ∷ []) (Call.accumulate 7 (with_dimension 2) (a_row 1 2) ∷ []) [] (tt, tt)
    ).row_withdrawn (Call.merge 0 (with_dimension 2) 7) (Call.subtract 0 (with_dimension 2) (a_row 8 9)) (a_row 8 9) (refl, refl, refl) (refl, refl, refl)

-- ---- a report, cut in two: the first row of the table of worked examples

abbrev inputs : PineParam
inputs = param 1 4 2 2

abbrev left_side : List ℕ
left_side = 5 ∷ 18446744069414584320 ∷ 0 ∷ 7 ∷ 4712128852136459333 ∷ 6613812840851947673 ∷ 12736496262939004471 ∷ 15523137368101252074 ∷ 12027861843233603113 ∷ 9777509567454608800 ∷ 15501686781378355951 ∷ 14313909076419087323 ∷ 4594210616595436404 ∷ 956523682424107605 ∷ 2893396244277848635 ∷ 6858376947525423350 ∷ 16019991071338850466 ∷ 7023743836218156456 ∷ []

abbrev right_side : List ℕ
right_side = 18446744069414584317 ∷ 1 ∷ 0 ∷ 18446744069414584314 ∷ 13734615217278124989 ∷ 11832931228562636648 ∷ 5710247806475579850 ∷ 2923606701313332247 ∷ 6418882226180981208 ∷ 8669234501959975521 ∷ 2945057288036228371 ∷ 4132834992995496999 ∷ 13852533452819147917 ∷ 17490220386990476717 ∷ 15553347825136735687 ∷ 11588367121889160972 ∷ 2426752998075733855 ∷ 11423000233196427866 ∷ []

-- a row of field numbers, by rule 12
pub row_of : (xs : List ℕ) → (elements_rule p64 xs).number ≡ 0 → FieldRow p64 (length xs) xs
row_of xs e = record { long = refl; below = elements_below p64 0 xs e }

a_report : Report Field64 inputs
a_report = record {
  gradient = one ∷ none ∷ none ∷ none ∷ [];
  stream = 3 ∷ 0 ∷ [];
  found_measurement = replicate 18 7;
  found_results = replicate 2 7;
  measurement = 1 ∷ 0 ∷ 0 ∷ 0 ∷ 1 ∷ 0 ∷ 0 ∷ 0 ∷ 0 ∷ 0 ∷ 1 ∷ 1 ∷ 0 ∷ 1 ∷ 1 ∷ 1 ∷ 0 ∷ 1 ∷ [];
  results = 1 ∷ (p64 - 1) ∷ [];
  call = table.short;
  left = left_side;
  right = right_side;
  left_row = row_of left_side refl;
  right_row = row_of right_side refl;
  adds = refl;
}

abbrev empties : Aggregates
empties k = record { row = replicate 4 0; tally = nothing }

empties_begun : (k : ℕ) → Begun Field64 4 (empties k)
unfolding empty_of empty_answer param_answer param_rules
empties_begun k = record { inputs = inputs; found = replicate 4 9; long = refl; call = refl; none = λ r. refl }

-- both shares added, each to an aggregate of its own, after a share that is refused; those of another report added before and withdrawn after
abbrev report_calls : List Call
report_calls =
    Call.accumulate 0 inputs (1 ∷ 2 ∷ 3 ∷ p64 ∷ [])
    ∷ Call.accumulate 0 inputs (1 ∷ 2 ∷ 3 ∷ 4 ∷ [])
    ∷ Call.accumulate 1 inputs (5 ∷ 6 ∷ 7 ∷ 8 ∷ [])
    ∷ Call.accumulate 0 inputs (take 4 left_side)
    ∷ Call.accumulate 1 inputs (take 4 right_side)
    ∷ Call.subtract 1 inputs (5 ∷ 6 ∷ 7 ∷ 8 ∷ [])
    ∷ Call.subtract 0 inputs (1 ∷ 2 ∷ 3 ∷ 4 ∷ [])
    ∷ []

joined_report : Joined (run Field64 empties report_calls 0).tally (run Field64 empties report_calls 1).tally (take 4 left_side ∷ take 4 right_side ∷ [])
unfolding run step accumulate_of accumulate_answer subtract_of param_answer param_rules
joined_report =
    joins (run Field64 empties report_calls 0).tally (run Field64 empties report_calls 1).tally (take 4 left_side ∷ take 4 right_side ∷ []) ((1 ∷ 2 ∷ 3 ∷ 4 ∷ []) ∷ (5 ∷ 6 ∷ 7 ∷ 8 ∷ []) ∷ take 4 left_side ∷ take 4 right_side ∷ []) (refl, (refl, (refl, (refl, tt)))) (λ r e. rw (e.0, e.1.0, e.1.1.0, e.1.1.1.0))

-- by the theorem: the decoded coordinate 0 is 1.0, whatever the row held
decoded_sum_lem : get_or (unshard_of Field64 inputs (run Field64 empties report_calls 0).row (run Field64 empties report_calls 1).row (large ∷ large ∷ large ∷ large ∷ [])).row 0 plus_zero ≡ one
unfolding param_answer param_rules sumℤ floor_of floor_div of_bits of_int div round a_report
decoded_sum_lem =
    ((correctness_64 inputs refl empties empties_begun report_calls (a_report ∷ [])
    ).decoded 0 1 joined_report (decodable_64 inputs (a_report ∷ [])) (large ∷ large ∷ large ∷ large ∷ []) refl).at 0 (omega arith) (lit≤ tt)

-- ---- a report in which two tests miss, cut in two

abbrev missed_left : List ℕ
missed_left = replicate 30 18446744069414584320

abbrev missed_right : List ℕ
missed_right = 4 ∷ 3 ∷ 2 ∷ 1 ∷ 2 ∷ 2 ∷ 1 ∷ 2 ∷ 2 ∷ 1 ∷ 1 ∷ 1 ∷ 2 ∷ 2 ∷ 2 ∷ 1 ∷ 1 ∷ 1 ∷ 1 ∷ 1 ∷ 1 ∷ 1 ∷ 1 ∷ 2 ∷ 1 ∷ 2 ∷ 1 ∷ 2 ∷ 1 ∷ 1 ∷ []

missed_report : Report Field64 (narrow Enough 6 2)
missed_report = record {
  gradient = three ∷ two ∷ [];
  stream = 13 ∷ 15 ∷ 1 ∷ 12 ∷ 3 ∷ 5 ∷ [];
  found_measurement = replicate 30 7;
  found_results = replicate 6 7;
  measurement = 3 ∷ 2 ∷ 1 ∷ 0 ∷ 1 ∷ 1 ∷ 0 ∷ 1 ∷ 1 ∷ 0 ∷ 0 ∷ 0 ∷ 1 ∷ 1 ∷ 1 ∷ 0 ∷ 0 ∷ 0 ∷ 0 ∷ 0 ∷ 0 ∷ 0 ∷ 0 ∷ 1 ∷ 0 ∷ 1 ∷ 0 ∷ 1 ∷ 0 ∷ 0 ∷ [];
  results = 2 ∷ 5 ∷ (p64 - 2) ∷ (p64 - 1) ∷ 1 ∷ 0 ∷ [];
  call = table.missed;
  left = missed_left;
  right = missed_right;
  left_row = row_of missed_left refl;
  right_row = row_of missed_right refl;
  adds = refl;
}

-- by the theorem: its tests add up and both circuits are zero, as where every test is in range
missed_tests : TestsAdd Field64 (narrow Enough 6 2) missed_report
unfolding param_answer param_rules
missed_tests = (correctness_64 (narrow Enough 6 2) refl start begun [] (missed_report ∷ [])).tests.0

missed_circuits : CircuitsZero Field64 (narrow Enough 6 2) missed_report
unfolding param_answer param_rules
missed_circuits = (correctness_64 (narrow Enough 6 2) refl start begun [] (missed_report ∷ [])).circuits.0

every_tests : TestsAdd Field64 inputs a_report
unfolding param_answer param_rules
every_tests = (correctness_64 inputs refl empties empties_begun [] (a_report ∷ [])).tests.0

every_circuits : CircuitsZero Field64 inputs a_report
unfolding param_answer param_rules
every_circuits = (correctness_64 inputs refl empties empties_begun [] (a_report ∷ [])).circuits.0
