-- The laws of this crate's definitions.
pub mod LengthLaws
pub mod LineLaws
pub mod PutLaws
