-- `Accepted`: what an accepted call has given.
mod Accepted
