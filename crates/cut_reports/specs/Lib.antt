-- What an accepted call of `cut` gives.
pub mod CutReports
