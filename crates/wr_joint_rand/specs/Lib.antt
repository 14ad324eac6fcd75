-- The bytes of the wraparound tests.
pub mod WrJointRand
