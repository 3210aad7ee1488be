-- What the calls of this crate answer.
pub mod InPlace
pub mod Trace
