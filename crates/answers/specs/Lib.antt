-- What the calls of this crate answer.
pub mod Answer
pub mod Job
