-- The laws of this crate's definitions.
pub mod DrawnLaws
pub mod SheetLineLaws
