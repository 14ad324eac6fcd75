-- What the proof of the call cites, beside the laws of `wr_tests`: `Room` of what its tests are given.
mod Room
