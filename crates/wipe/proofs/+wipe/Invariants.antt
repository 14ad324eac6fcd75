-- The cycle of calls {wipe}: the measure is how many rows are left. Assumes nothing.
use Rattle.wipe.proofs.+wipe.Given as goal

abbrev pub decreases-wipe : goal.decreases-wipe
decreases-wipe l = l.rows
