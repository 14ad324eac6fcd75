-- `Readings` of tests on rows that stand for whole numbers, `Summed` of such tests group by group, `Words` of limbs by words and of results put together, `Joined` of what these are.
pub mod Readings
pub mod Summed
pub mod Words
pub mod Joined
