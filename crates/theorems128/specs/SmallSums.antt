-- Which sums can be decoded, over a field F (docs/PINE.md, "The wide field"). Assumes nothing.
use Rattle.std.specs.Prelude.{List, ℕ, ◌≤◌, ◌<◌, nat_abs}
use Rattle.pine.specs.declared.PineParam.{PineParam}
use Rattle.pine.specs.Param.{Field}
use Rattle.correctness.specs.Correctness.{Report, floors_sum, Decodable}

-- where each coordinate's sum of floors is within the field's limit of zero
abbrev pub SmallSums : Field → Type 0
SmallSums F = (i : PineParam) (reports : List (Report F i)) → ((j : ℕ) → j < i.dimension → nat_abs (floors_sum F i j reports) ≤ F.size_limit) → Decodable F i reports
