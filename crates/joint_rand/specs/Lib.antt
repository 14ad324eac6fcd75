-- The parts of the aggregators, and their seed.
pub mod JointRand
