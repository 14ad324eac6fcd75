-- Computed examples: `Parts` of the joint randomness parts and seeds, `Streams` of the stream of a seed.
mod Parts
mod Streams
