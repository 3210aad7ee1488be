-- The laws of this crate's definitions.
pub mod BitLaws
pub mod ElementLaws
pub mod JudgedLaws
