-- The laws of this crate's definitions.
pub mod DigestLaws
pub mod JoinedLaws
pub mod RowLaws
pub mod ShapeLaws
pub mod TableLaws
