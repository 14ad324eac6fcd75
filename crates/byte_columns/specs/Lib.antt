-- Sums byte by byte.
pub mod ByteColumns
