-- What the gadgets' contracts cite beside the definitions of `flp`.
pub mod Powers
