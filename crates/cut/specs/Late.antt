-- The call in steps: what is asked of the rows, and what follows. No public contract cites these. Assumes nothing.
use Rattle.std.specs.Prelude.{◌≡◌, List, ℕ, length, take, Float}
use Rattle.rules.specs.declared.Answer.{Answer}
use Rattle.rules.specs.Rules.{accepted, first, in_order}
use Rattle.pine.specs.declared.PineParam.{PineParam}
use Rattle.pine.specs.declared.record.Pine.{Pine}
use Rattle.pine.specs.Param.{Field}
use Rattle.rows.specs.Rows.{row_rule}
use Rattle.flp.specs.Encode.{coordinates_rule, gradient_len_rule}
use Rattle.cut.specs.Cut.{cut_rules}

-- rules 7 to 9 and 17 by a record's lengths
abbrev pub rows_answer : (limit : ℕ) → Pine → (gradient : List Float) (nonce seeds leader helper given : List ℕ) → Answer
rows_answer limit R g nonce seeds leader helper given =
    first (row_rule 2 (length nonce) 16)
    (first (row_rule 3 (length seeds) 80)
    (first (row_rule 4 (length leader) R.encoded_input_len)
    (first (row_rule 5 (length helper) R.encoded_input_len)
    (first (row_rule 6 (length given) 32)
    (first (coordinates_rule limit R.frac_bits 0 g)
    (gradient_len_rule (length g) R.dimension))))))

-- the call's first k rules are met
abbrev pub MetUpTo : (k : ℕ) → Field → PineParam → (gradient : List Float) (nonce seeds leader helper given : List ℕ) → Type 0
MetUpTo k F i g nonce seeds leader helper given = in_order (take k (cut_rules F i g nonce seeds leader helper given)) ≡ accepted
