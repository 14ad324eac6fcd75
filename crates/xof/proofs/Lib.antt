-- `Frame` of what the XOF absorbs.
pub mod Frame
