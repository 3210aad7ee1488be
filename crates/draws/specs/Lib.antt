-- What the calls of this crate answer.
pub mod Answers
pub mod Bound
pub mod Draw
pub mod Error
pub mod Filled
pub mod Source
