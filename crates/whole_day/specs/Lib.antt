-- `Day`: calls of adding, one after the other. `Statements`: what holds of the day's file as a whole.
pub mod Day
pub mod Statements
