-- What the calls of this crate answer.
pub mod Answers
pub mod Digest
pub mod History
pub mod InPlace
pub mod Padding
pub mod Sponge
pub mod WalkBack
