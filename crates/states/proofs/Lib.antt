-- The laws of this crate's definitions.
pub mod TraceLaws
pub mod InPlaceLaws
