-- What the calls of this crate answer.
pub mod Element
pub mod Permutation
pub mod Powers
pub mod Reduced
