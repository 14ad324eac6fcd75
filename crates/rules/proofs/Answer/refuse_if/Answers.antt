-- `rules::Answer::refuse_if` meets its contract. Assumes nothing.

use Rattle.rules.proofs.Answer.refuse_if.Goals as goal

pub returns-then-broken : goal.returns-then-broken
returns-then-broken c = simp c.if-broken.true

pub returns-else-broken : goal.returns-else-broken
returns-else-broken c = simp c.if-broken.false
