-- The answer of a call, and rules in their order. A rule is a definition that gives an answer; a call's answer is that of the first of its rules that refuses.
-- Assumes nothing.
use Rattle.std.specs.Prelude.{ℕ, Bool, cond, ◌||◌, List, [], ◌∷◌, ltb, eqb}
use Rattle.rules.specs.declared.Answer.{Answer}

-- rule n is broken, at place k
abbrev pub answer : (n k : ℕ) → Answer
answer n k = record { number = n; place = k }

abbrev pub accepted : Answer
accepted = answer 0 0

-- rule n, which refuses at place k where it is broken
abbrev pub refuse : (broken : Bool) (n k : ℕ) → Answer
refuse broken n k = cond broken (answer n k) accepted

-- a, if it is a refusal, or else b
abbrev pub first : Answer → Answer → Answer
first a b = cond (eqb a.number 0) b a

-- rules in their order: the first refusal, if there is one
abbrev pub in_order : List Answer → Answer
in_order [] = accepted
in_order (a ∷ rest) = first a (in_order rest)

-- x is 0 or above m
abbrev pub out_of : (x m : ℕ) → Bool
out_of x m = eqb x 0 || ltb m x
