-- How rarely a false report looks true (docs/SOUNDNESS.md): of the p³ triples r1, r2, r3 of field numbers, at how many the main circuit, for one share, is zero. Assumes nothing.
use Rattle.std.specs.Prelude.{ℕ, zero, suc, ◌+◌, ◌-◌, ◌*◌, ◌≤◌, ◌<◌, max, Bool, true, cond, ◌≡◌, List, [], ◌∷◌, eqb}
use Rattle.rules.specs.Rules.{accepted}
use Rattle.field64.specs.Prime.{Prime}
use Rattle.pine.specs.declared.PineParam.{PineParam}
use Rattle.pine.specs.Param.{Field}
use Rattle.pine.specs.Record.{bit_checked_len_of, gadget_calls_of}
use Rattle.flp.specs.declared.Circuit.{Circuit}
use Rattle.flp.specs.Circuits.{valid_of, zero_with, FullVector, WellFormed}

-- ---- counting

-- f 0 + f 1 + .. + f (n - 1)
unfoldable pub sum_below : (n : ℕ) (f : ℕ → ℕ) → ℕ
sum_below zero f = 0
sum_below (suc n) f = sum_below n f + f n

-- how many numbers below n pass a test
unfoldable pub count : (n : ℕ) (test : ℕ → Bool) → ℕ
count n test = sum_below n (λ r. cond (test r) 1 0)

-- how many triples of numbers below n pass a test
unfoldable pub triples : (n : ℕ) (test : (r1 r2 r3 : ℕ) → Bool) → ℕ
triples n test = sum_below n (λ r1. sum_below n (λ r2. count n (λ r3. test r1 r2 r3)))

-- ---- the main circuit

module _ (F : Field) (i : PineParam) (full : List ℕ) where
  -- what it answers, for one share and the joint randomness r1, r2, r3
  abbrev pub main : (r1 r2 r3 : ℕ) → Circuit
  main r1 r2 r3 = valid_of F i 1 (F.words full) (F.words (r1 ∷ r2 ∷ r3 ∷ []))

  -- its value is zero, whatever is answered beside it
  abbrev pub looks_true : (r1 r2 r3 : ℕ) → Bool
  looks_true r1 r2 r3 = eqb (main r1 r2 r3).value 0

-- max (L - 1, T + 1, 3)
abbrev pub worst : PineParam → ℕ
worst i = max (bit_checked_len_of i - 1) (max (i.num_wr_tests + 1) 3)

-- for all accepted inputs and every vector of input_len field numbers
pub record Soundness (F : Field) : Type 0 where
  pub prime : Prime F.p
  -- there are p³ triples of field numbers
  pub all : triples F.p (λ r1 r2 r3. true) ≡ F.p * (F.p * F.p)
  -- none is refused: so a value of zero is the circuit's, and not the one that stands beside a refusal
  pub accepts : (i : PineParam) (full : List ℕ) → FullVector F i full → (r1 r2 r3 : ℕ) → r1 < F.p → r2 < F.p → r3 < F.p → (main F i full r1 r2 r3).answer ≡ accepted
  -- on a well-formed vector the circuit is zero at every triple
  pub always : (i : PineParam) (full : List ℕ) → FullVector F i full → WellFormed F.p i full → (r1 r2 r3 : ℕ) → r1 < F.p → r2 < F.p → r3 < F.p → main F i full r1 r2 r3 ≡ zero_with (gadget_calls_of i)
  -- on any other, at max (L - 1, T + 1, 3) · p² triples at the most
  pub rarely : (i : PineParam) (full : List ℕ) → FullVector F i full → (WellFormed F.p i full → ⊥) → triples F.p (looks_true F i full) ≤ worst i * (F.p * F.p)
