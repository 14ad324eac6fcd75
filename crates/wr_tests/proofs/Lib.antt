-- Laws of the tests alone, over any field: `Alone` of the cases of the call.
pub mod Alone
