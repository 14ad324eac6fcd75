pub mod Param
pub mod Record
pub mod Words
