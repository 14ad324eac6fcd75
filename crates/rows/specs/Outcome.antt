-- What a call that writes one row gives: its answer, and the row. Assumes nothing.
use Rattle.std.specs.Prelude.{ℕ, cond, List, ◌==◌}
use Rattle.rules.specs.declared.Answer.{Answer}

pub record Outcome : Type 0 where
  pub answer : Answer
  pub row : List ℕ

abbrev pub outcome : Answer → List ℕ → Outcome
outcome a r = record { answer = a; row = r }

-- the row as it was, where the call is refused
abbrev pub finish : Answer → List ℕ → List ℕ → Outcome
finish a done kept = outcome a (cond (a.number == 0) done kept)
