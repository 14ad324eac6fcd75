-- Laws of encoding, over any field: `Encoding` of the cases of the call.
pub mod Encoding
