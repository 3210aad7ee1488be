-- What the calls of this crate answer.
pub mod Bits
pub mod Header
pub mod Sheet
