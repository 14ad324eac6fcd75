-- `Examples`: worked rows of the inputs as C has them.
mod Examples
