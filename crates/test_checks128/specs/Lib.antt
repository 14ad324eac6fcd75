-- What the tests' contracts cite beside the definitions of `flp` and `test_checks`.
pub mod Numbers
