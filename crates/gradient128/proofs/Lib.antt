-- `Floors` of the limbs of floors and the tests on them, `Norm` of the squared norm coordinate by coordinate.
mod Floors
mod Norm
