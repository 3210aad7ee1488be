-- What the calls of this crate write.
pub mod Line
pub mod Put
