-- `Taking`: pieces of the shares in the wraparound parts. `Front`: all of them, and the seed.
pub mod Taking
pub mod Front
