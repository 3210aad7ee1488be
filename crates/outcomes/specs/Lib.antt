-- What it is to have one outcome.
pub mod Outcome
