-- Worked examples of the definitions, computed. Assumes nothing.
use mathlib.Core.Path.{◌≡◌, refl}
use mathlib.Core.List.{List, [], ◌∷◌}
use Prim.Native.Nat.{ℕ, ◌+◌, ◌-◌, ◌^◌}
use lib.ListN.{replicate}
use lib.Ieee.{Float, binary64, of_bits, of_int, neg, div}
use Rattle.rules.specs.Rules.{answer, accepted}
use Rattle.field64.specs.Field.{p64}
use Rattle.doubles.specs.Doubles.{floor_limit64, plus_zero, centred, decoded}
use Rattle.pine.specs.declared.PineParam.{PineParam}
use Rattle.pine.specs.Param.{Field, Field64, param_rules, param_answer, standard, with_alpha}
use Rattle.rows.specs.Outcome.{Outcome, outcome}
use Rattle.vdaf.specs.Aggregates.{empty_answer, empty_of, accumulate_answer, accumulate_of, subtract_of, UnshardOutcome, unshard_outcome, sizes_rule, decoded_sums, unshard_answer, unshard_of}

-- the inputs with this dimension and these fractional bits; the others are the least
abbrev inputs : (d f : ℕ) → PineParam
inputs d f = standard 1 d f 1 1 1 1

-- refused by 19, the last of the rules on inputs
abbrev without_multiplier : (d : ℕ) → PineParam
without_multiplier d = with_alpha 87 0 (inputs d 0)

-- ---- emptying: what the row held does not matter, its length does
record Emptying : Type 0 where
  done : empty_of Field64 (inputs 2 0) (77 ∷ (p64 + 8) ∷ []) ≡ outcome accepted (0 ∷ 0 ∷ [])
  short : empty_of Field64 (inputs 2 0) (77 ∷ []) ≡ outcome (answer 7 1) (77 ∷ [])
  inputs_first : empty_of Field64 (inputs 0 31) (77 ∷ []) ≡ outcome (answer 3 0) (77 ∷ [])
  multiplier_first : empty_of Field64 (without_multiplier 2) (77 ∷ []) ≡ outcome (answer 19 0) (77 ∷ [])

emptying : Emptying
unfolding empty_of empty_answer param_answer param_rules
emptying = record { done = refl; short = refl; inputs_first = refl; multiplier_first = refl }

-- ---- adding
abbrev sum : (d f : ℕ) (agg share : List ℕ) → Outcome
sum d f agg share = accumulate_of Field64 (inputs d f) agg share

record Adding : Type 0 where
  wraps : sum 2 0 (1 ∷ (p64 - 1) ∷ []) (5 ∷ 3 ∷ []) ≡ outcome accepted (6 ∷ 2 ∷ [])
  long : sum 2000 0 (replicate 2000 3) (replicate 2000 4) ≡ outcome accepted (replicate 2000 7)
  -- the aggregate is row 1, the share row 2, and the first row of a wrong length counts
  agg_short : sum 2 0 (1 ∷ []) (5 ∷ []) ≡ outcome (answer 7 1) (1 ∷ [])
  share_long : sum 2 0 (1 ∷ 2 ∷ []) (5 ∷ 3 ∷ 1 ∷ []) ≡ outcome (answer 7 2) (1 ∷ 2 ∷ [])
  -- a length before an element
  length_first : sum 2 0 (p64 ∷ 2 ∷ []) (5 ∷ []) ≡ outcome (answer 7 2) (p64 ∷ 2 ∷ [])
  -- elements are counted over both rows
  in_agg : sum 2 0 (1 ∷ p64 ∷ []) (p64 ∷ 3 ∷ []) ≡ outcome (answer 12 1) (1 ∷ p64 ∷ [])
  in_share : sum 2 0 (1 ∷ 2 ∷ []) (5 ∷ p64 ∷ []) ≡ outcome (answer 12 3) (1 ∷ 2 ∷ [])
  inputs_first : sum 2 31 (1 ∷ []) (p64 ∷ []) ≡ outcome (answer 4 0) (1 ∷ [])
  multiplier_first : accumulate_of Field64 (without_multiplier 2) (1 ∷ []) (p64 ∷ []) ≡ outcome (answer 19 0) (1 ∷ [])

adding : Adding
unfolding accumulate_of accumulate_answer param_answer param_rules
adding = record {
  wraps = refl;
  long = refl;
  agg_short = refl;
  share_long = refl;
  length_first = refl;
  in_agg = refl;
  in_share = refl;
  inputs_first = refl;
  multiplier_first = refl;
}

-- ---- taking out: the rows and the refusals are adding's
abbrev difference : (d f : ℕ) (agg share : List ℕ) → Outcome
difference d f agg share = subtract_of Field64 (inputs d f) agg share

record TakingOut : Type 0 where
  wraps : difference 3 0 (6 ∷ 2 ∷ 7 ∷ []) (5 ∷ 3 ∷ 7 ∷ []) ≡ outcome accepted (1 ∷ (p64 - 1) ∷ 0 ∷ [])
  -- never added
  from_zero : difference 2 0 (0 ∷ 0 ∷ []) (1 ∷ (p64 - 1) ∷ []) ≡ outcome accepted ((p64 - 1) ∷ 1 ∷ [])
  agg_short : difference 2 0 (1 ∷ []) (5 ∷ []) ≡ outcome (answer 7 1) (1 ∷ [])
  share_long : difference 2 0 (1 ∷ 2 ∷ []) (5 ∷ 3 ∷ 1 ∷ []) ≡ outcome (answer 7 2) (1 ∷ 2 ∷ [])
  length_first : difference 2 0 (p64 ∷ 2 ∷ []) (5 ∷ []) ≡ outcome (answer 7 2) (p64 ∷ 2 ∷ [])
  in_agg : difference 2 0 (1 ∷ p64 ∷ []) (p64 ∷ 3 ∷ []) ≡ outcome (answer 12 1) (1 ∷ p64 ∷ [])
  in_share : difference 2 0 (1 ∷ 2 ∷ []) (5 ∷ p64 ∷ []) ≡ outcome (answer 12 3) (1 ∷ 2 ∷ [])
  inputs_first : difference 2 31 (1 ∷ []) (p64 ∷ []) ≡ outcome (answer 4 0) (1 ∷ [])
  -- what stands in an outcome, accepted and refused
  number : (difference 2 0 (1 ∷ 2 ∷ []) (5 ∷ p64 ∷ [])).answer.number ≡ 12
  place : (difference 2 0 (1 ∷ 2 ∷ []) (5 ∷ p64 ∷ [])).answer.place ≡ 3
  kept : (difference 2 0 (1 ∷ 2 ∷ []) (5 ∷ p64 ∷ [])).row ≡ 1 ∷ 2 ∷ []
  zero_number : (difference 1 0 (7 ∷ []) (5 ∷ [])).answer.number ≡ 0
  written : (difference 1 0 (7 ∷ []) (5 ∷ [])).row ≡ 2 ∷ []

taking_out : TakingOut
unfolding subtract_of accumulate_answer param_answer param_rules
taking_out = record {
  wraps = refl;
  from_zero = refl;
  agg_short = refl;
  share_long = refl;
  length_first = refl;
  in_agg = refl;
  in_share = refl;
  inputs_first = refl;
  number = refl;
  place = refl;
  kept = refl;
  zero_number = refl;
  written = refl;
}

-- ---- unsharding
abbrev doubles : (d f : ℕ) (left right : List ℕ) (row : List Float) → UnshardOutcome
doubles d f left right row = unshard_of Field64 (inputs d f) left right row

record Unsharding : Type 0 where
  -- p - 1 and 3 at f 2: -0.25 and 0.75; the decoded row's own contents do not matter
  quarters : doubles 2 2 ((p64 - 5) ∷ (p64 - 1) ∷ []) (4 ∷ 4 ∷ []) (of_bits binary64 0x7ff8_0000_0000_0000 ∷ plus_zero ∷ [])
      ≡ unshard_outcome accepted (of_bits binary64 0xbfd0_0000_0000_0000 ∷ of_bits binary64 0x3fe8_0000_0000_0000 ∷ [])
  -- a sum of 0 is +0 at the largest f
  zero_sum : doubles 1 30 ((p64 - 7) ∷ []) (7 ∷ []) (of_bits binary64 0x3ff0_0000_0000_0000 ∷ []) ≡ unshard_outcome accepted (plus_zero ∷ [])
  -- 2 ^ 53 + 1 and 2 ^ 53 + 3 are ties
  ties : doubles 2 0 ((2 ^ 53) ∷ (2 ^ 53) ∷ []) (1 ∷ 3 ∷ []) (plus_zero ∷ plus_zero ∷ [])
      ≡ unshard_outcome accepted (of_bits binary64 0x4340_0000_0000_0000 ∷ of_bits binary64 0x4340_0000_0000_0002 ∷ [])
  -- the decoded row is row 3; an element is refused after any length
  row_short : doubles 1 0 (p64 ∷ []) (1 ∷ []) [] ≡ unshard_outcome (answer 7 3) []
  in_right : doubles 1 0 (1 ∷ []) (p64 ∷ []) (plus_zero ∷ []) ≡ unshard_outcome (answer 12 1) (plus_zero ∷ [])
  -- by fields: in contracts the name `unshard_outcome` stands on both sides, where nothing holds it to its sense
  refused : doubles 2 0 (1 ∷ 2 ∷ []) (3 ∷ p64 ∷ []) (plus_zero ∷ of_bits binary64 0x3ff0_0000_0000_0000 ∷ []) ≡ record { answer = record { number = 12; place = 3 }; row = plus_zero ∷ of_bits binary64 0x3ff0_0000_0000_0000 ∷ [] }
  taken : doubles 2 0 (1 ∷ 2 ∷ []) (3 ∷ (p64 - 2) ∷ []) (plus_zero ∷ of_bits binary64 0x3ff0_0000_0000_0000 ∷ []) ≡ record { answer = record { number = 0; place = 0 }; row = of_bits binary64 0x4010_0000_0000_0000 ∷ plus_zero ∷ [] }

unsharding : Unsharding
unfolding unshard_of unshard_answer sizes_rule decoded_sums decoded centred param_answer param_rules of_bits of_int neg div
unsharding = record { quarters = refl; zero_sum = refl; ties = refl; row_short = refl; in_right = refl; refused = refl; taken = refl }

-- ---- over a field with Field64's modulus and rows, of which no decoded number's size may be above 5: rule 23 names the first sum beyond it
abbrev small_sizes : Field
small_sizes = record {
  p = p64;
  floor_limit = floor_limit64;
  size_limit = 5;
  norm_limit = 3037000499;
  words_in = λ n. n;
  elements = λ row. row;
  words = λ xs. xs;
}

abbrev small : (left right : List ℕ) (row : List Float) → UnshardOutcome
small left right row = unshard_of small_sizes (inputs 2 0) left right row

record Sizes : Type 0 where
  within : small (2 ∷ (p64 - 9) ∷ []) (3 ∷ 4 ∷ []) (plus_zero ∷ plus_zero ∷ []) ≡ unshard_outcome accepted (of_bits binary64 0x4014_0000_0000_0000 ∷ of_bits binary64 0xc014_0000_0000_0000 ∷ [])
  above : small (5 ∷ 3 ∷ []) (0 ∷ 3 ∷ []) (plus_zero ∷ plus_zero ∷ []) ≡ unshard_outcome (answer 23 1) (plus_zero ∷ plus_zero ∷ [])
  below : small ((p64 - 3) ∷ 3 ∷ []) ((p64 - 3) ∷ 3 ∷ []) (plus_zero ∷ plus_zero ∷ []) ≡ unshard_outcome (answer 23 0) (plus_zero ∷ plus_zero ∷ [])
  -- an element before a size
  element_first : small (6 ∷ p64 ∷ []) (1 ∷ 1 ∷ []) (plus_zero ∷ plus_zero ∷ []) ≡ unshard_outcome (answer 12 1) (plus_zero ∷ plus_zero ∷ [])

sizes : Sizes
unfolding unshard_of unshard_answer sizes_rule decoded_sums decoded centred param_answer param_rules of_bits of_int neg div
sizes = record { within = refl; above = refl; below = refl; element_first = refl }
