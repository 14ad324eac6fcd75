-- The definitions that the contracts of `parts` cite, beside those of the parts themselves.
pub mod Places
