-- `Seeds`: the five seeds, the helper's values, the seeds given. `Examples` are computed.
pub mod Seeds
mod Examples
