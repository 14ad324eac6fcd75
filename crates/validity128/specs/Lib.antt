-- A circuit's answer as the definitions of `flp` have it.
pub mod Numbers
