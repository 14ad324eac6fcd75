-- How far one report can move the sums of a batch (docs/SENSITIVITY.md), over a field F. Assumes nothing.
use Rattle.std.specs.Prelude.{ℕ, zero, suc, ◌+◌, ◌*◌, ◌^◌, ◌<◌, ◌≤◌, ◌≡◌, true, length, get_or, ℤ, pos, nat_abs, ◌-ℤ◌, ◌*ℤ◌, Float}
use mathlib.Core.List.{List, ◌∷◌, Perm}
use Rattle.std.specs.Float.{nan, inf, fin}
use Rattle.std.specs.Float.Ieee.{up, down}
use Rattle.rules.specs.Rules.{accepted}
use Rattle.doubles.specs.Doubles.{signed, plus_zero}
use Rattle.pine.specs.declared.PineParam.{PineParam}
use Rattle.pine.specs.Param.{Field, param_answer}
use Rattle.pine.specs.Record.{sq_norm_bound_of}
use Rattle.flp.specs.Encode.{elements, sq_norm, true_sq_norm_of, encode_answer}
use Rattle.vdaf.specs.Aggregates.{UnshardOutcome, unshard_of}
use Rattle.correctness.specs.Tally.{Call, Aggregates, run, Begun, Each, Joined}
use Rattle.correctness.specs.Correctness.{Report, shares_of, floors_sum, Decodable}

-- ---- true lengths

-- the true squared length of a gradient is at most B
abbrev pub Short : PineParam → (gradient : List Float) → Type 0
Short i gradient = true_sq_norm_of i.frac_bits gradient ≤ sq_norm_bound_of i

pub record TrueLengths (F : Field) : Type 0 where
  -- then it is v, the sum of squares in the field
  pub v : (i : PineParam) → param_answer F i ≡ accepted → (gradient : List Float) → Short i gradient → sq_norm F.p (elements F.p i.frac_bits gradient) ≡ true_sq_norm_of i.frac_bits gradient
  -- and encoding is never refused by rule 10
  pub never : (i : PineParam) (gradient : List Float) (stream measurement results : List ℕ) → Short i gradient → (encode_answer F i gradient stream measurement results).number ≡ 10 → ⊥
  -- with the switch on, encoding accepts short gradients only, and never answers 10
  pub on_short : (i : PineParam) → i.true_sq_norm ≡ true → (r : Report F i) → Short i r.gradient
  pub on_never : (i : PineParam) → i.true_sq_norm ≡ true → (gradient : List Float) (stream measurement results : List ℕ) → (encode_answer F i gradient stream measurement results).number ≡ 10 → ⊥

-- ---- numbers

abbrev pub square : ℤ → ℕ
square z = nat_abs z * nat_abs z

-- g 0 + .. + g (d - 1)
abbrev pub over_all : (d : ℕ) → (ℕ → ℕ) → ℕ
over_all zero g = 0
over_all (suc d) g = g 0 + over_all d (λ j. g (suc j))

-- a double is exactly z / c: m · 2 ^ e, with 2 ^ e the fraction up e / down e
abbrev pub Exactly : Float → (z : ℤ) (c : ℕ) → Type 0
Exactly nan z c = ⊥
Exactly (inf s) z c = ⊥
Exactly (fin s m e) z c = signed s (m * up e * c) ≡ z *ℤ pos (down e)

-- two finite doubles, as exact numbers, differ by at most a / c: m · 2 ^ e and n · 2 ^ g as fractions over down e · down g
abbrev pub Within : Float → Float → (a c : ℕ) → Type 0
Within nan y a c = ⊥
Within (inf s) y a c = ⊥
Within (fin s m e) nan a c = ⊥
Within (fin s m e) (inf t) a c = ⊥
Within (fin s m e) (fin t n g) a c = nat_abs (signed s (m * up e * down g) -ℤ signed t (n * up g * down e)) * c ≤ a * (down e * down g)

module _ (F : Field) (i : PineParam) where
  -- ---- two batches that differ in one report

  -- in some order they are one list with one report more each, both short
  pub record Replaced (xs ys : List (Report F i)) : Type 0 where
    pub both : List (Report F i)
    pub one : Report F i
    pub other : Report F i
    pub first : Perm xs (one ∷ both)
    pub second : Perm ys (other ∷ both)
    pub one_short : Short i one.gradient
    pub other_short : Short i other.gradient

  -- in some order the first is the second with one report more, a short one (distances are the same from either side)
  pub record Removed (xs ys : List (Report F i)) : Type 0 where
    pub one : Report F i
    pub first : Perm xs (one ∷ ys)
    pub one_short : Short i one.gradient

  -- ---- their sums

  -- the differences of the sums of floors, squared, over all coordinates
  abbrev pub squared_distance : (xs ys : List (Report F i)) → ℕ
  squared_distance xs ys = over_all i.dimension (λ j. square (floors_sum F i j xs -ℤ floors_sum F i j ys))

  -- ---- their decoded rows

  -- a batch summed, as in the main theorem: aggregates each begun by an accepted call, any list of calls on these, two of them whose tallies joined are the shares of the reports, and a row for
  -- `unshard`, whatever it holds. The reports' sums can be decoded: over Field64 they always can
  pub record Summed (reports : List (Report F i)) : Type 0 where
    pub start : Aggregates
    pub begun : (k : ℕ) → Begun F i.dimension (start k)
    pub calls : List Call
    pub left : ℕ
    pub right : ℕ
    pub joined : Joined (run F start calls left).tally (run F start calls right).tally (shares_of F i reports)
    pub decodable : Decodable F i reports
    pub found : List Float
    pub long : length found ≡ i.dimension

  -- what `unshard` gives of the two
  abbrev pub unsharded : {reports : List (Report F i)} → Summed reports → UnshardOutcome
  unsharded s = unshard_of F i (run F s.start s.calls s.left).row (run F s.start s.calls s.right).row s.found

  -- coordinate j of the decoded row
  abbrev pub decoded_at : (j : ℕ) → {reports : List (Report F i)} → Summed reports → Float
  decoded_at j s = get_or (unsharded s).row j plus_zero

  -- where the sum of a coordinate is within 2 ^ 53 of zero, its double is the sum / 2 ^ f
  pub record Exact (reports : List (Report F i)) (s : Summed reports) : Type 0 where
    pub accepts : (unsharded s).answer ≡ accepted
    pub long : length (unsharded s).row ≡ i.dimension
    pub at : (j : ℕ) → j < i.dimension → nat_abs (floors_sum F i j reports) ≤ 2 ^ 53 → Exactly (decoded_at j s) (floors_sum F i j reports) (2 ^ i.frac_bits)

  -- where both sums of a coordinate are, the two doubles differ by at most most / 2 ^ f
  abbrev pub Close : (xs ys : List (Report F i)) → Summed xs → Summed ys → (most : ℕ) → Type 0
  Close xs ys a b most = (j : ℕ) → j < i.dimension → nat_abs (floors_sum F i j xs) ≤ 2 ^ 53 → nat_abs (floors_sum F i j ys) ≤ 2 ^ 53 → Within (decoded_at j a) (decoded_at j b) most (2 ^ i.frac_bits)

-- ---- how far they are apart

-- the sums of floors, over every field and for any inputs
pub record MovedSums : Type 0 where
  -- with one report in place of another; with one report less, or more
  pub replaced : (F : Field) (i : PineParam) (xs ys : List (Report F i)) → Replaced F i xs ys → squared_distance F i xs ys ≤ 4 * sq_norm_bound_of i
  pub removed : (F : Field) (i : PineParam) (xs ys : List (Report F i)) → Removed F i xs ys → squared_distance F i xs ys ≤ sq_norm_bound_of i
  -- of short reports alone: n in size for each report, at the most. So k reports have sums within 2 ^ 53 of zero, where k · n is at most 2 ^ 53
  pub small : (F : Field) (i : PineParam) (reports : List (Report F i)) → Each (λ r. Short i r.gradient) reports → (j : ℕ) → j < i.dimension → nat_abs (floors_sum F i j reports) ≤ length reports * i.norm_bound

-- the doubles, for all accepted inputs, however the batches were summed
pub record MovedDoubles (F : Field) : Type 0 where
  pub exact : (i : PineParam) → param_answer F i ≡ accepted → (reports : List (Report F i)) (s : Summed F i reports) → Exact F i reports s
  -- with one report in place of another; with one report less, or more
  pub replaced : (i : PineParam) → param_answer F i ≡ accepted → (xs ys : List (Report F i)) → Replaced F i xs ys → (a : Summed F i xs) (b : Summed F i ys) → Close F i xs ys a b (2 * i.norm_bound)
  pub removed : (i : PineParam) → param_answer F i ≡ accepted → (xs ys : List (Report F i)) → Removed F i xs ys → (a : Summed F i xs) (b : Summed F i ys) → Close F i xs ys a b i.norm_bound
