-- `Moved`: results over one modulus and over another. `Numbers`: numbers of two words beside small ones. `Each`: a loop over results.
pub mod Moved
mod Numbers
mod Each
