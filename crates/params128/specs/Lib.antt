-- Field128 as the definitions of the calls take a field.
pub mod Field128
